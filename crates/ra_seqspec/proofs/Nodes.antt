-- Lemmas on linked nodes, if one is inserted.
use Rattle.std.proofs.Common.{◌≡◌, ℕ, zero, suc, ◌<◌, Bool, true, false, cond, List, [], ◌∷◌, ◌++◌, length, map, set}
use Rattle.std.proofs.Common.{Option, None, Some, refl, sym, ap, ◌∙◌, subst, inl, inr, arith, add-one, length-set}
use Rattle.std.specs.Prelude.{◌==◌, nat_lt, not, ◌&&◌, ◌||◌, is_some, option_map}
use Rattle.std.proofs.lemmas.Bool.{cases_Bool, cases_eq, cond-true, cond-false, eqb-true, eqb-false, eq-eqb, ne_eqb}
use Rattle.std.proofs.lemmas.Bool.{lt-ltb, le-ltb, ltb-true, or_cases, or_left, or_right, or_from, and_from, and_left}
use Rattle.std.proofs.lemmas.Bool.{and_right, not_from_true, not_from_false}
use Rattle.std.proofs.lemmas.Bool.Decides.{nat_tests}
use Rattle.std.proofs.lemmas.List.{length_push}
use Rattle.ra_labels.specs.Lists.{is_among, is_in_list, insert_after}
use Rattle.ra_seqspec.specs.declared.rga.Node.{Node}
use Rattle.ra_seqspec.specs.declared.rga.Place.{Place}
use Rattle.ra_seqspec.specs.declared.rga.Place.TheVariants.{First, Behind}
use Rattle.ra_seqspec.specs.Rga.{node_at, along, slots_of, entry_at, entries_of, AreDistinct, RgaListKept, shown_node}
use Rattle.ra_seqspec.specs.Rga.{place_behind, linked_to, first_after, nodes_after, IsThere}
use Rattle.ra_seqspec.proofs.Links.{put_behind, differs, along_same, Relinked, along_put, among_put, distinct_put, map_same, entries_put}

same_suc : (k n : ℕ) → (suc k == suc n) ≡ (k == n)
same_suc k n = grind (arith, nat_tests)

-- the node in each slot, after a push and after a write
pub node_pushed : (nodes : List Node) (node : Node) (k : ℕ)
    → node_at (nodes ++ node ∷ []) k ≡ cond (k == length nodes) node (node_at nodes k)
node_pushed [] node zero = refl
node_pushed [] node (suc k) =
    sym (cond-false (suc k == 0) node (node_at [] (suc k)) (ne_eqb (suc k) 0 (λ same. absurd (omega arith))))
node_pushed (first ∷ nodes) node zero =
    sym (cond-false (0 == suc (length nodes)) node first (ne_eqb 0 (suc (length nodes)) (λ same. absurd (omega arith))))
node_pushed (first ∷ nodes) node (suc k) = node_pushed nodes node k
    ∙ ap (λ b. cond b node (node_at nodes k)) (sym (same_suc k (length nodes)))

pub node_set : (nodes : List Node) (slot : ℕ) (node : Node) (k : ℕ) → slot < length nodes
    → node_at (set nodes slot node) k ≡ cond (k == slot) node (node_at nodes k)
node_set [] slot node k below = absurd (omega arith)
node_set (first ∷ nodes) zero node zero below = refl
node_set (first ∷ nodes) zero node (suc k) below =
    sym (cond-false (suc k == 0) node (node_at nodes k) (ne_eqb (suc k) 0 (λ same. absurd (omega arith))))
node_set (first ∷ nodes) (suc slot) node zero below =
    sym (cond-false (0 == suc slot) node first (ne_eqb 0 (suc slot) (λ same. absurd (omega arith))))
node_set (first ∷ nodes) (suc slot) node (suc k) below = node_set nodes slot node k (omega arith)
    ∙ ap (λ b. cond b node (node_at nodes k)) (sym (same_suc k slot))

-- an element in the index is in the list
among_entries : (nodes : List Node) (slots : List ℕ) (x slot : ℕ) → is_among slot slots ≡ true
    → (node_at nodes slot).element ≡ x → is_in_list x (map (entry_at nodes) slots) ≡ true
among_entries nodes [] x slot there has = absurd (cc there)
among_entries nodes (k ∷ slots) x slot there has = elim (or_cases (slot == k) (is_among slot slots) there) [
  | inl here ↦ or_left (x == (node_at nodes k).element) _
      (eq-eqb x _ (sym has ∙ ap (λ z. (node_at nodes z).element) (eqb-true slot k here)))
  | inr later ↦ or_right (x == (node_at nodes k).element) _ (among_entries nodes slots x slot later has)
]

-- and an element that is not is not
not_among_entries : (nodes : List Node) (slots : List ℕ) (x : ℕ)
    → ((k : ℕ) → is_among k slots ≡ true → (x == (node_at nodes k).element) ≡ false)
    → is_in_list x (map (entry_at nodes) slots) ≡ false
not_among_entries nodes [] x each = refl
not_among_entries nodes (k ∷ slots) x each =
    or_from (x == (node_at nodes k).element) _ (each k (or_left (k == k) _ (eq-eqb k k refl)))
    (not_among_entries nodes slots x (λ j among. each j (or_right (j == k) _ among)))

indexed : (first : ℕ) (nodes : List Node) (slot_of : ℕ → Option ℕ) (x : ℕ) → RgaListKept first nodes slot_of
    → (found : Option ℕ) → slot_of x ≡ found → is_in_list x (map (entry_at nodes) (slots_of first nodes))
    ≡ is_some found
indexed first nodes slot_of x kept None none =
    not_among_entries nodes (slots_of first nodes) x (λ k among.
    let below : k < length nodes = ltb-true k (length nodes) (sym (kept.all k) ∙ among) in
    ne_eqb x _ (λ same. let some : slot_of x ≡ Some k = ap slot_of same ∙ kept.found k below in cc (none, some)))
indexed first nodes slot_of x kept (Some slot) some =
    let at = kept.there x slot some in
    among_entries nodes (slots_of first nodes) x slot (kept.all slot ∙ lt-ltb slot (length nodes) at.0) at.1

-- the index has the elements except the root
pub listed : (first : ℕ) (nodes : List Node) (slot_of : ℕ → Option ℕ) (x : ℕ) → RgaListKept first nodes slot_of
    → is_in_list x (entries_of first nodes) ≡ (x == 0 || is_some (slot_of x))
listed first nodes slot_of x kept = ap (λ b. x == 0 || b) (indexed first nodes slot_of x kept (slot_of x) refl)

-- a function of a conditional
pub read : {A B : Type 0} (f : A → B) (b : Bool) (x y : A) → f (cond b x y) ≡ cond b (f x) (f y)
read f true x y = refl
read f false x y = refl

-- the node in each slot, after a new one is inserted at the place
abbrev pub node_after : Place → ℕ → List Node → ℕ → ℕ → Node
node_after First first nodes x k = cond (k == length nodes) (shown_node x first) (node_at nodes k)
node_after (Behind slot) first nodes x k =
    cond (k == length nodes) (shown_node x (node_at nodes slot).next)
    (cond (k == slot) (linked_to (length nodes) (node_at nodes slot)) (node_at nodes k))

node_linked : (place : Place) (first : ℕ) (nodes : List Node) (x k : ℕ) → IsThere place (length nodes)
    → node_at (nodes_after place first nodes x) k ≡ node_after place first nodes x k
node_linked First first nodes x k there = node_pushed nodes (shown_node x first) k
node_linked (Behind slot) first nodes x k there =
    let changed = linked_to (length nodes) (node_at nodes slot) in
    node_pushed (set nodes slot changed) (shown_node x (node_at nodes slot).next) k
    ∙ ap (λ n. cond (k == n) (shown_node x (node_at nodes slot).next) (node_at (set nodes slot changed) k))
    (length-set nodes slot changed)
    ∙ ap (λ z. cond (k == length nodes) (shown_node x (node_at nodes slot).next) z)
    (node_set nodes slot changed k there)

-- the new slot has the new element, which is shown
new_node : (place : Place) (first : ℕ) (nodes : List Node) (x : ℕ) → IsThere place (length nodes)
    → entry_at (nodes_after place first nodes x) (length nodes) ≡ (x, true)
new_node First first nodes x there =
    let is : node_at (nodes_after First first nodes x) (length nodes) ≡ shown_node x first =
    node_linked First first nodes x (length nodes) there ∙ cond-true (length nodes == length nodes) (shown_node x first)
    (node_at nodes (length nodes)) (eq-eqb (length nodes) _ refl) in
    ap (λ node. (node.element, node.is_shown)) is
new_node (Behind slot) first nodes x there =
    let is : node_at (nodes_after (Behind slot) first nodes x) (length nodes) ≡ shown_node x (node_at nodes slot).next =
    node_linked (Behind slot) first nodes x (length nodes) there
    ∙ cond-true (length nodes == length nodes) (shown_node x (node_at nodes slot).next) _
    (eq-eqb (length nodes) _ refl) in
    ap (λ node. (node.element, node.is_shown)) is

-- the other slots keep their elements
old_node : (place : Place) (first : ℕ) (nodes : List Node) (x k : ℕ) → IsThere place (length nodes) → k < length nodes
    → entry_at (nodes_after place first nodes x) k ≡ entry_at nodes k
old_node First first nodes x k there below =
    ap (λ node. (node.element, node.is_shown)) (node_linked First first nodes x k there
    ∙ cond-false (k == length nodes) (shown_node x first) (node_at nodes k)
    (ne_eqb k (length nodes) (λ same. absurd (omega arith))))
old_node (Behind slot) first nodes x k there below =
    ap (λ node. (node.element, node.is_shown)) (node_linked (Behind slot) first nodes x k there
    ∙ cond-false (k == length nodes) (shown_node x (node_at nodes slot).next) _
    (ne_eqb k (length nodes) (λ same. absurd (omega arith))))
    ∙ read (λ node. (node.element, node.is_shown)) (k == slot) (linked_to (length nodes) (node_at nodes slot))
    (node_at nodes k)
    ∙ elim (cases_Bool (k == slot)) [
      | inl here ↦ cond-true (k == slot) (entry_at nodes slot) (entry_at nodes k) here
          ∙ ap (entry_at nodes) (sym (eqb-true k slot here))
      | inr away ↦ cond-false (k == slot) (entry_at nodes slot) (entry_at nodes k) away
    ]

-- the links afterwards
relinked : (slot first : ℕ) (nodes : List Node) (x : ℕ) → slot < length nodes
    → Relinked (λ k. (node_at nodes k).next) (λ k. (node_at (nodes_after (Behind slot) first nodes x) k).next) slot
    (length nodes)
relinked slot first nodes x below =
    let new = shown_node x (node_at nodes slot).next in
    let changed = linked_to (length nodes) (node_at nodes slot) in
    record {
      at_new =
          ap (λ node. node.next) (node_linked (Behind slot) first nodes x (length nodes) below
          ∙ cond-true (length nodes == length nodes) new _ (eq-eqb (length nodes) _ refl));
      at_i =
          ap (λ node. node.next) (node_linked (Behind slot) first nodes x slot below
          ∙ cond-false (slot == length nodes) new _ (ne_eqb slot (length nodes) (λ same. absurd (omega arith)))
          ∙ cond-true (slot == slot) changed (node_at nodes slot) (eq-eqb slot slot refl));
      others = λ k apart away.
          ap (λ node. node.next) (node_linked (Behind slot) first nodes x k below
          ∙ cond-false (k == length nodes) new _ apart
          ∙ cond-false (k == slot) changed (node_at nodes k) away);
    }

long : (place : Place) (first : ℕ) (nodes : List Node) (x : ℕ)
    → length (nodes_after place first nodes x) ≡ suc (length nodes)
long First first nodes x = length_push nodes (shown_node x first) ∙ add-one (length nodes)
long (Behind slot) first nodes x =
    length_push (set nodes slot (linked_to (length nodes) (node_at nodes slot)))
    (shown_node x (node_at nodes slot).next)
    ∙ add-one _ ∙ ap suc (length-set nodes slot (linked_to (length nodes) (node_at nodes slot)))

-- the slots, after a new one is inserted at the place
abbrev pub slots_after : Place → ℕ → List ℕ → List ℕ
slots_after First new slots = new ∷ slots
slots_after (Behind slot) new slots = put_behind slot new slots

-- no node is in the slot behind the last one
free : (first : ℕ) (nodes : List Node) (slot_of : ℕ → Option ℕ) → RgaListKept first nodes slot_of
    → is_among (length nodes) (slots_of first nodes) ≡ false
free first nodes slot_of kept = kept.all (length nodes) ∙ le-ltb (length nodes) (length nodes) (omega arith)

taken : (first : ℕ) (nodes : List Node) (slot_of : ℕ → Option ℕ) (k : ℕ) → RgaListKept first nodes slot_of
    → k < length nodes → is_among k (slots_of first nodes) ≡ true
taken first nodes slot_of k kept below = kept.all k ∙ lt-ltb k (length nodes) below

-- the slots along the links afterwards
slots_linked : (place : Place) (first : ℕ) (nodes : List Node) (slot_of : ℕ → Option ℕ) (x : ℕ)
    → RgaListKept first nodes slot_of → IsThere place (length nodes)
    → slots_of (first_after place first nodes) (nodes_after place first nodes x)
    ≡ slots_after place (length nodes) (slots_of first nodes)
slots_linked First first nodes slot_of x kept there =
    let other = λ (k : ℕ). (node_at (nodes_after First first nodes x) k).next in
    let to : other (length nodes) ≡ first =
    ap (λ node. node.next) (node_linked First first nodes x (length nodes) there
    ∙ cond-true (length nodes == length nodes) (shown_node x first) _ (eq-eqb (length nodes) _ refl)) in
    ap (λ n. along other n (length nodes)) (long First first nodes x)
    ∙ ap (λ z. length nodes ∷ along other (length nodes) z) to
    ∙ ap (λ z. length nodes ∷ z) (along_same (λ k. (node_at nodes k).next) other (length nodes) first (λ k among.
    ap (λ node. node.next) (node_linked First first nodes x k there
    ∙ cond-false (k == length nodes) (shown_node x first) (node_at nodes k)
    (differs k (length nodes) (slots_of first nodes) among (free first nodes slot_of kept)))))
slots_linked (Behind slot) first nodes slot_of x kept there =
    let other = λ (k : ℕ). (node_at (nodes_after (Behind slot) first nodes x) k).next in
    ap (λ n. along other n first) (long (Behind slot) first nodes x)
    ∙ along_put (λ k. (node_at nodes k).next) other (length nodes) first slot (length nodes)
    (relinked slot first nodes x there) kept.distinct
    (taken first nodes slot_of slot kept there) (free first nodes slot_of kept)

-- the place exists in the list of slots
abbrev IsPlaced : Place → List ℕ → Type 0
IsPlaced First slots = Unit {0}
IsPlaced (Behind slot) slots = is_among slot slots ≡ true

place_taken : (place : Place) (first : ℕ) (nodes : List Node) (slot_of : ℕ → Option ℕ) → RgaListKept first nodes slot_of
    → IsThere place (length nodes) → IsPlaced place (slots_of first nodes)
place_taken First first nodes slot_of kept there = tt
place_taken (Behind slot) first nodes slot_of kept there = taken first nodes slot_of slot kept there

distinct_after : (place : Place) (new : ℕ) (slots : List ℕ) → AreDistinct slots → IsPlaced place slots
    → is_among new slots ≡ false → AreDistinct (slots_after place new slots)
distinct_after First new slots once there apart = (apart, once)
distinct_after (Behind slot) new slots once there apart = distinct_put slot new slots once there apart

among_after : (place : Place) (new k : ℕ) (slots : List ℕ) → IsPlaced place slots
    → is_among k (slots_after place new slots) ≡ (k == new || is_among k slots)
among_after First new k slots there = refl
among_after (Behind slot) new k slots there = among_put slot new k slots there

one_more : (k n : ℕ) → (k == n || nat_lt k n) ≡ nat_lt k (suc n)
one_more k n = grind (arith, nat_tests)

-- the index has the new slot under x
found_after : (place : Place) (first : ℕ) (nodes : List Node) (slot_of later : ℕ → Option ℕ) (x k : ℕ)
    → RgaListKept first nodes slot_of → IsThere place (length nodes) → slot_of x ≡ None
    → ((y : ℕ) → later y ≡ cond (x == y) (Some (length nodes)) (slot_of y)) → k < suc (length nodes)
    → later (node_at (nodes_after place first nodes x) k).element ≡ Some k
found_after place first nodes slot_of later x k kept there new put below = elim (cases_eq k (length nodes)) [
  | inl same ↦
      let is : (node_at (nodes_after place first nodes x) k).element ≡ x =
      ap (λ n. (node_at (nodes_after place first nodes x) n).element) same
      ∙ ap (λ e. e.0) (new_node place first nodes x there) in
      ap later is ∙ put x ∙ cond-true (x == x) (Some (length nodes)) (slot_of x) (eq-eqb x x refl)
      ∙ ap (λ n. Some n) (sym same)
  | inr apart ↦
      let less : k < length nodes = omega (arith, below, apart) in
      let is : (node_at (nodes_after place first nodes x) k).element ≡ (node_at nodes k).element =
      ap (λ e. e.0) (old_node place first nodes x k there less) in
      let some : slot_of (node_at nodes k).element ≡ Some k = kept.found k less in
      ap later is ∙ put (node_at nodes k).element
      ∙ cond-false (x == (node_at nodes k).element) (Some (length nodes)) _
      (ne_eqb x _ (λ same. let at : slot_of x ≡ Some k = ap slot_of same ∙ some in cc (at, new)))
      ∙ some
]

-- and each slot in the index has its element
there_after : (place : Place) (first : ℕ) (nodes : List Node) (slot_of later : ℕ → Option ℕ) (x y k : ℕ)
    → RgaListKept first nodes slot_of → IsThere place (length nodes)
    → ((z : ℕ) → later z ≡ cond (x == z) (Some (length nodes)) (slot_of z)) → later y ≡ Some k
    → (k < length (nodes_after place first nodes x)) × ((node_at (nodes_after place first nodes x) k).element ≡ y)
there_after place first nodes slot_of later x y k kept there put is = elim (cases_Bool (x == y)) [
  | inl here ↦
      let some : Some (length nodes) ≡ Some k = sym (cond-true (x == y) (Some (length nodes)) (slot_of y) here)
      ∙ sym (put y) ∙ is in
      let same : length nodes ≡ k = cc some in (
        subst (λ n. k < n) (sym (long place first nodes x)) (omega (arith, same)),
        ap (λ n. (node_at (nodes_after place first nodes x) n).element) (sym same)
            ∙ ap (λ e. e.0) (new_node place first nodes x there) ∙ eqb-true x y here,
      )
  | inr away ↦
      let some : slot_of y ≡ Some k = sym (cond-false (x == y) (Some (length nodes)) (slot_of y) away)
      ∙ sym (put y) ∙ is in
      let at = kept.there y k some in (
        subst (λ n. k < n) (sym (long place first nodes x)) (omega (arith, at.0)),
        ap (λ e. e.0)
            (old_node place first nodes x k there at.0) ∙ at.1,
      )
]

-- the invariant of the nodes is preserved
pub linked_kept : (place : Place) (first : ℕ) (nodes : List Node) (slot_of later : ℕ → Option ℕ) (x : ℕ)
    → RgaListKept first nodes slot_of → IsThere place (length nodes) → slot_of x ≡ None
    → ((y : ℕ) → later y ≡ cond (x == y) (Some (length nodes)) (slot_of y))
    → RgaListKept (first_after place first nodes) (nodes_after place first nodes x) later
linked_kept place first nodes slot_of later x kept there new put =
    let nodes' = nodes_after place first nodes x in
    let slots = slots_linked place first nodes slot_of x kept there in
    record {
      distinct =
          subst AreDistinct (sym slots)
          (distinct_after place (length nodes) (slots_of first nodes) kept.distinct
          (place_taken place first nodes slot_of kept there) (free first nodes slot_of kept));
      all = λ k. ap (is_among k) slots
          ∙ among_after place (length nodes) k (slots_of first nodes) (place_taken place first nodes slot_of kept there)
          ∙ ap (λ b. k == length nodes || b) (kept.all k) ∙ one_more k (length nodes)
          ∙ ap (nat_lt k) (sym (long place first nodes x));
      found = λ k below. found_after place first nodes slot_of later x k kept there new put
          (subst (λ n. k < n) (long place first nodes x) below);
      there = λ y k is. there_after place first nodes slot_of later x y k kept there put is;
    }

-- the list, after x is inserted at the front
first_entries : (first : ℕ) (nodes : List Node) (slot_of : ℕ → Option ℕ) (x : ℕ) → RgaListKept first nodes slot_of
    → entries_of (length nodes) (nodes_after First first nodes x)
    ≡ (0, false) ∷ (x, true) ∷ map (entry_at nodes) (slots_of first nodes)
first_entries first nodes slot_of x kept =
    ap (λ slots. (0, false) ∷ map (entry_at (nodes_after First first nodes x)) slots)
    (slots_linked First first nodes slot_of x kept tt)
    ∙ ap (λ e. (0, false) ∷ e ∷ map (entry_at (nodes_after First first nodes x)) (slots_of first nodes))
    (new_node First first nodes x tt)
    ∙ ap (λ es. (0, false) ∷ (x, true) ∷ es)
    (map_same (entry_at nodes) (entry_at (nodes_after First first nodes x)) (slots_of first nodes)
    (λ k among. old_node First first nodes x k tt (ltb-true k (length nodes) (sym (kept.all k) ∙ among))))

-- only the anchor's slot has the anchor
pub has_anchor : (first : ℕ) (nodes : List Node) (slot_of : ℕ → Option ℕ) (anchor slot k : ℕ)
    → RgaListKept first nodes slot_of → slot_of anchor ≡ Some slot → k < length nodes
    → (anchor == (node_at nodes k).element) ≡ (slot == k)
has_anchor first nodes slot_of anchor slot k kept some below = elim (cases_Bool (slot == k)) [
  | inl here ↦ eq-eqb anchor _
      (sym (kept.there anchor slot some).1 ∙ ap (λ z. (node_at nodes z).element) (eqb-true slot k here)) ∙ sym here
  | inr away ↦
      ne_eqb anchor _ (λ same.
      let at : slot_of anchor ≡ Some k = ap slot_of same ∙ kept.found k below in
      let both : slot ≡ k = cc (some, at) in eqb-false slot k away both)
      ∙ sym away
]

-- the list, after x is inserted behind another element
behind_entries : (place : Place) (first : ℕ) (nodes : List Node) (slot_of : ℕ → Option ℕ) (anchor x : ℕ)
    → RgaListKept first nodes slot_of → (found : Option ℕ) → slot_of anchor ≡ found
    → option_map Behind found ≡ Some place
    → entries_of (first_after place first nodes) (nodes_after place first nodes x)
    ≡ (0, false) ∷ insert_after anchor x (map (entry_at nodes) (slots_of first nodes))
behind_entries place first nodes slot_of anchor x kept None none is = absurd (cc is)
behind_entries place first nodes slot_of anchor x kept (Some slot) some is =
    let below = (kept.there anchor slot some).0 in
    let at : place ≡ Behind slot = cc is in
    ap (λ p. entries_of (first_after p first nodes) (nodes_after p first nodes x)) at
    ∙ ap (λ slots. (0, false) ∷ map (entry_at (nodes_after (Behind slot) first nodes x)) slots)
    (slots_linked (Behind slot) first nodes slot_of x kept below)
    ∙ ap (λ es. (0, false) ∷ es)
    (entries_put (entry_at nodes) (entry_at (nodes_after (Behind slot) first nodes x)) slot (length nodes) anchor x
    (slots_of first nodes)
    (taken first nodes slot_of slot kept below) (new_node (Behind slot) first nodes x below)
    (λ k among.
    let less : k < length nodes = ltb-true k (length nodes) (sym (kept.all k) ∙ among) in
    (old_node (Behind slot) first nodes x k below less, has_anchor first nodes slot_of anchor slot k kept some less)))

-- the list after an insertion
pub linked_entries : (place : Place) (first : ℕ) (nodes : List Node) (slot_of : ℕ → Option ℕ) (anchor x : ℕ)
    → RgaListKept first nodes slot_of → place_behind anchor (slot_of anchor) ≡ Some place
    → entries_of (first_after place first nodes) (nodes_after place first nodes x)
    ≡ insert_after anchor x (entries_of first nodes)
linked_entries place first nodes slot_of anchor x kept is = elim (cases_Bool (anchor == 0)) [
  | inl root ↦
      let at : place ≡ First =
      cc (sym is ∙ cond-true (anchor == 0) (Some First) (option_map Behind (slot_of anchor)) root) in
      ap (λ p. entries_of (first_after p first nodes) (nodes_after p first nodes x)) at
      ∙ first_entries first nodes slot_of x kept
      ∙ sym (cond-true (anchor == 0) ((0, false) ∷ (x, true) ∷ map (entry_at nodes) (slots_of first nodes))
      ((0, false) ∷ insert_after anchor x (map (entry_at nodes) (slots_of first nodes))) root)
  | inr other ↦
      let at : option_map Behind (slot_of anchor) ≡ Some place =
      sym (cond-false (anchor == 0) (Some First) (option_map Behind (slot_of anchor)) other) ∙ is in
      behind_entries place first nodes slot_of anchor x kept (slot_of anchor) refl at
      ∙ sym (cond-false (anchor == 0) ((0, false) ∷ (x, true) ∷ map (entry_at nodes) (slots_of first nodes))
      ((0, false) ∷ insert_after anchor x (map (entry_at nodes) (slots_of first nodes))) other)
]

some_place : (is_root : Bool) (slot : Option ℕ)
    → (is_root || is_some slot) ≡ is_some (cond is_root (Some First) (option_map Behind slot))
some_place true slot = refl
some_place false None = refl
some_place false (Some slot) = refl

behind_there : (anchor : ℕ) (first : ℕ) (nodes : List Node) (slot_of : ℕ → Option ℕ) (place : Place)
    → RgaListKept first nodes slot_of → (found : Option ℕ) → slot_of anchor ≡ found
    → option_map Behind found ≡ Some place → IsThere place (length nodes)
behind_there anchor first nodes slot_of place kept None none is = absurd (cc is)
behind_there anchor first nodes slot_of place kept (Some slot) some is =
    let at : place ≡ Behind slot = cc is in
    subst (λ p. IsThere p (length nodes)) (sym at) (kept.there anchor slot some).0

-- the place that the index finds exists
pub place_there : (anchor : ℕ) (first : ℕ) (nodes : List Node) (slot_of : ℕ → Option ℕ) (place : Place)
    → RgaListKept first nodes slot_of → place_behind anchor (slot_of anchor) ≡ Some place → IsThere place (length nodes)
place_there anchor first nodes slot_of place kept is = elim (cases_Bool (anchor == 0)) [
  | inl root ↦
      let at : place ≡ First =
      cc (sym is ∙ cond-true (anchor == 0) (Some First) (option_map Behind (slot_of anchor)) root) in
      subst (λ p. IsThere p (length nodes)) (sym at) tt
  | inr other ↦ behind_there anchor first nodes slot_of place kept (slot_of anchor) refl
      (sym (cond-false (anchor == 0) (Some First) (option_map Behind (slot_of anchor)) other) ∙ is)
]

-- an element is in the list exactly if there is a place behind it
pub listed_place : (anchor : ℕ) (first : ℕ) (nodes : List Node) (slot_of : ℕ → Option ℕ)
    → RgaListKept first nodes slot_of → is_in_list anchor (entries_of first nodes)
    ≡ is_some (place_behind anchor (slot_of anchor))
listed_place anchor first nodes slot_of kept = listed first nodes slot_of anchor kept
    ∙ some_place (anchor == 0) (slot_of anchor)

-- the condition under which an insertion adds an element
pub puts : (anchor x first : ℕ) (nodes : List Node) (slot_of : ℕ → Option ℕ) (now : List (ℕ × Bool)) (place : Place)
    → RgaListKept first nodes slot_of → entries_of first nodes ≡ now → place_behind anchor (slot_of anchor) ≡ Some place
    → (x == 0 || is_some (slot_of x)) ≡ false
    → (is_in_list anchor now && not (is_in_list x now)) ≡ true
puts anchor x first nodes slot_of now place kept view is new =
    and_from (is_in_list anchor now) (not (is_in_list x now))
    (ap (is_in_list anchor) (sym view) ∙ listed_place anchor first nodes slot_of kept ∙ ap is_some is)
    (not_from_false (is_in_list x now) (ap (is_in_list x) (sym view) ∙ listed first nodes slot_of x kept ∙ new))

pub puts_not_there : (anchor x first : ℕ) (nodes : List Node) (slot_of : ℕ → Option ℕ) (now : List (ℕ × Bool))
    → RgaListKept first nodes slot_of → entries_of first nodes ≡ now
    → is_some (place_behind anchor (slot_of anchor)) ≡ false
    → (is_in_list anchor now && not (is_in_list x now)) ≡ false
puts_not_there anchor x first nodes slot_of now kept view none =
    and_left (is_in_list anchor now) (not (is_in_list x now))
    (ap (is_in_list anchor) (sym view) ∙ listed_place anchor first nodes slot_of kept ∙ none)

pub puts_not_again : (anchor x first : ℕ) (nodes : List Node) (slot_of : ℕ → Option ℕ) (now : List (ℕ × Bool))
    → RgaListKept first nodes slot_of → entries_of first nodes ≡ now → (x == 0 || is_some (slot_of x)) ≡ true
    → (is_in_list anchor now && not (is_in_list x now)) ≡ false
puts_not_again anchor x first nodes slot_of now kept view old =
    and_right (is_in_list anchor now) (not (is_in_list x now))
    (not_from_true (is_in_list x now) (ap (is_in_list x) (sym view) ∙ listed first nodes slot_of x kept ∙ old))

pub none_from : (found : Option ℕ) → is_some found ≡ false → found ≡ None
none_from None is = refl
none_from (Some slot) is = absurd (cc is)

-- an index with the same look-ups
pub kept_same : (first : ℕ) (nodes : List Node) (slot_of later : ℕ → Option ℕ) → RgaListKept first nodes slot_of
    → ((x : ℕ) → later x ≡ slot_of x) → RgaListKept first nodes later
kept_same first nodes slot_of later kept same = record {
  distinct = kept.distinct;
  all = kept.all;
  found = λ slot below. same _ ∙ kept.found slot below;
  there = λ x slot some. kept.there x slot (sym (same x) ∙ some);
}
