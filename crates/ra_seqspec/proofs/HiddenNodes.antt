-- Lemmas on nodes of which one is hidden.
use Rattle.std.proofs.Common.{◌≡◌, ℕ, ◌<◌, Bool, true, false, cond, List, [], ◌∷◌, length, map, Option, None, Some}
use Rattle.std.proofs.Common.{refl, sym, ap, ◌∙◌, subst, inl, inr, length-set}
use Rattle.std.specs.Prelude.{◌==◌, nat_lt, not, ◌&&◌, ◌||◌, is_some}
use Rattle.std.proofs.lemmas.Bool.{cases_Bool, cond-true, cond-false, eqb-true, eqb-false, eq-eqb, ne_eqb, ltb-true}
use Rattle.std.proofs.lemmas.Bool.{or_left, or_right, and_from, and_right, not_from_true, not_from_false}
use Rattle.ra_labels.specs.Lists.{is_among, is_in_list, hide}
use Rattle.ra_seqspec.specs.declared.rga.Node.{Node}
use Rattle.ra_seqspec.specs.Rga.{node_at, along, slots_of, entry_at, entries_of, AreDistinct, RgaListKept, hidden}
use Rattle.ra_seqspec.specs.Rga.{nodes_hiding}
use Rattle.ra_seqspec.proofs.Links.{along_same}
use Rattle.ra_seqspec.proofs.Nodes.{node_set, listed, read, has_anchor}

-- hiding the node in a slot changes only this node
node_hiding : (slot : ℕ) (nodes : List Node) (k : ℕ) → slot < length nodes
    → node_at (nodes_hiding slot nodes) k ≡ cond (k == slot) (hidden (node_at nodes slot)) (node_at nodes k)
node_hiding slot nodes k below = node_set nodes slot (hidden (node_at nodes slot)) k below

same_field : {A : Type 0} (field : Node → A) (slot : ℕ) (nodes : List Node) (k : ℕ) → slot < length nodes
    → ((node : Node) → field (hidden node) ≡ field node)
    → field (node_at (nodes_hiding slot nodes) k) ≡ field (node_at nodes k)
same_field field slot nodes k below same =
    ap field (node_hiding slot nodes k below) ∙ read field (k == slot) (hidden (node_at nodes slot)) (node_at nodes k)
    ∙ elim (cases_Bool (k == slot)) [
      | inl here ↦ cond-true (k == slot) _ _ here ∙ same (node_at nodes slot)
          ∙ ap (λ z. field (node_at nodes z)) (sym (eqb-true k slot here))
      | inr away ↦ cond-false (k == slot) (field (hidden (node_at nodes slot))) (field (node_at nodes k)) away
    ]

hiding_long : (slot : ℕ) (nodes : List Node) → length (nodes_hiding slot nodes) ≡ length nodes
hiding_long slot nodes = length-set nodes slot (hidden (node_at nodes slot))

slots_hiding : (first slot : ℕ) (nodes : List Node) → slot < length nodes
    → slots_of first (nodes_hiding slot nodes) ≡ slots_of first nodes
slots_hiding first slot nodes below =
    ap (λ n. along (λ k. (node_at (nodes_hiding slot nodes) k).next) n first) (hiding_long slot nodes)
    ∙ along_same (λ k. (node_at nodes k).next) (λ k. (node_at (nodes_hiding slot nodes) k).next) (length nodes) first
    (λ k among. same_field (λ node. node.next) slot nodes k below (λ node. refl))

pub hiding_kept : (first slot : ℕ) (nodes : List Node) (slot_of : ℕ → Option ℕ) → RgaListKept first nodes slot_of
    → slot < length nodes → RgaListKept first (nodes_hiding slot nodes) slot_of
hiding_kept first slot nodes slot_of kept below =
    let slots = slots_hiding first slot nodes below in
    let element = λ (k : ℕ). same_field (λ node. node.element) slot nodes k below (λ node. refl) in
    record {
      distinct = subst AreDistinct (sym slots) kept.distinct;
      all = λ k. ap (is_among k) slots ∙ kept.all k ∙ ap (nat_lt k) (sym (hiding_long slot nodes));
      found = λ k less. ap slot_of (element k) ∙ kept.found k (subst (λ n. k < n) (hiding_long slot nodes) less);
      there = λ x k some. let at = kept.there x k some in
          (subst (λ n. k < n) (sym (hiding_long slot nodes)) at.0, element k ∙ at.1);
    }

kept_and : (b c : Bool) → c ≡ true → (b && c) ≡ b
kept_and true c is = is
kept_and false c is = refl

map_hide : (f g : ℕ → ℕ × Bool) (x : ℕ) (slots : List ℕ)
    → ((k : ℕ) → is_among k slots ≡ true → g k ≡ ((f k).0, (f k).1 && not (x == (f k).0)))
    → map g slots ≡ hide x (map f slots)
map_hide f g x [] each = refl
map_hide f g x (k ∷ slots) each =
    ap (λ e. e ∷ map g slots) (each k (or_left (k == k) _ (eq-eqb k k refl)))
    ∙ ap (λ es. ((f k).0, (f k).1 && not (x == (f k).0)) ∷ es)
    (map_hide f g x slots (λ j among. each j (or_right (j == k) _ among)))

-- whether a read then shows a slot
shown_hiding : (slot : ℕ) (nodes : List Node) (k : ℕ) → slot < length nodes
    → (node_at (nodes_hiding slot nodes) k).is_shown ≡ ((node_at nodes k).is_shown && not (slot == k))
shown_hiding slot nodes k below =
    ap (λ node. node.is_shown) (node_hiding slot nodes k below)
    ∙ read (λ node. node.is_shown) (k == slot) (hidden (node_at nodes slot)) (node_at nodes k)
    ∙ elim (cases_Bool (k == slot)) [
      | inl here ↦
          cond-true (k == slot) false (node_at nodes k).is_shown here
          ∙ sym (and_right (node_at nodes k).is_shown (not (slot == k))
          (not_from_true (slot == k) (eq-eqb slot k (sym (eqb-true k slot here)))))
      | inr away ↦
          cond-false (k == slot) false (node_at nodes k).is_shown away
          ∙ sym (kept_and (node_at nodes k).is_shown (not (slot == k))
          (not_from_false (slot == k) (ne_eqb slot k (λ same. eqb-false k slot away (sym same)))))
    ]

-- the list afterwards
pub hiding_entries : (first slot : ℕ) (nodes : List Node) (slot_of : ℕ → Option ℕ) (x : ℕ)
    → RgaListKept first nodes slot_of → slot_of x ≡ Some slot
    → entries_of first (nodes_hiding slot nodes) ≡ hide x (entries_of first nodes)
hiding_entries first slot nodes slot_of x kept some =
    let below = (kept.there x slot some).0 in
    ap (λ slots. (0, false) ∷ map (entry_at (nodes_hiding slot nodes)) slots) (slots_hiding first slot nodes below)
    ∙ ap (λ es. (0, false) ∷ es)
    (map_hide (entry_at nodes) (entry_at (nodes_hiding slot nodes)) x (slots_of first nodes) (λ k among.
    let less : k < length nodes = ltb-true k (length nodes) (sym (kept.all k) ∙ among) in
    ap (λ e. (e, (node_at (nodes_hiding slot nodes) k).is_shown))
    (same_field (λ node. node.element) slot nodes k below (λ node. refl))
    ∙ ap (λ b. ((node_at nodes k).element, b)) (shown_hiding slot nodes k below
    ∙ ap (λ b. (node_at nodes k).is_shown && not b)
    (sym (has_anchor first nodes slot_of x slot k kept some less)))))

nothing : (is_root : Bool) → ((is_root || false) && not is_root) ≡ false
nothing true = refl
nothing false = refl

-- the condition under which a removal hides an element
pub hides : (x first : ℕ) (nodes : List Node) (slot_of : ℕ → Option ℕ) (now : List (ℕ × Bool)) (slot : ℕ)
    → RgaListKept first nodes slot_of → entries_of first nodes ≡ now → slot_of x ≡ Some slot → (x ≡ 0 → ⊥)
    → (is_in_list x now && not (x == 0)) ≡ true
hides x first nodes slot_of now slot kept view some other =
    and_from (is_in_list x now) (not (x == 0))
    (ap (is_in_list x) (sym view) ∙ listed first nodes slot_of x kept
    ∙ or_right (x == 0) (is_some (slot_of x)) (ap is_some some))
    (not_from_false (x == 0) (ne_eqb x 0 other))

pub hides_none : (x first : ℕ) (nodes : List Node) (slot_of : ℕ → Option ℕ) (now : List (ℕ × Bool))
    → RgaListKept first nodes slot_of → entries_of first nodes ≡ now → slot_of x ≡ None
    → (is_in_list x now && not (x == 0)) ≡ false
hides_none x first nodes slot_of now kept view none =
    ap (λ b. b && not (x == 0)) (ap (is_in_list x) (sym view) ∙ listed first nodes slot_of x kept
    ∙ ap (λ found. x == 0 || is_some found) none) ∙ nothing (x == 0)
