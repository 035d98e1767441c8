-- Lemmas on the updates that a read sees, as updates of visible labels, and on the elements above others.
use Rattle.std.proofs.Common.{◌≡◌, ℕ, ◌<◌, true, false, List, [], ◌∷◌, Option, Some, None, get_or, refl, sym, ap, subst, ◌∙◌, inl, inr, arith}
use Rattle.std.specs.Prelude.{◌⊎◌, ◌==◌, not, filter, slice_get, option_and_then, Contains}
use Rattle.std.specs.Option.{option_map_or}
use Rattle.std.proofs.lemmas.Bool.{cases_eq, cases_Bool, false≢true, and_from, eq-eqb, ne_eqb, cond-true, cond-false}
use Rattle.std.proofs.lemmas.Option.{none-some, same_Some}
use Rattle.ra_labels.specs.declared.operation.Op.{Op}
use Rattle.ra_labels.specs.declared.operation.Op.TheVariants as op
use Rattle.ra_labels.specs.declared.operation.Update.{Update}
use Rattle.ra_labels.specs.declared.operation.Update.TheVariants.{After, RgaRemove}
use Rattle.ra_labels.specs.declared.label.Label.{Label}
use Rattle.ra_labels.specs.Records.{Records, label_count, labels_of}
use Rattle.ra_labels.specs.Visibility.{sees}
use Rattle.ra_labels.proofs.Members.{kept-there, there-kept}
use Rattle.ra_theorems.proofs.FilterMaps.{mapped_from, mapped_there}
use Rattle.ra_theorems.proofs.TheoremIndex.{sees_earlier_updates-updates, delivered_are_updates-there}
use Rattle.ra_rga_forks.specs.Forks.{IsWay, IsUnder, IsFork}
use Rattle.ra_rga_conditions.specs.Precedence.{rga_update, updates_seen}
use Rattle.ra_visibility.specs.Seen.{Seen, is_in}
use Rattle.ra_rga_precedence.specs.Operations.{element_inserted, element_needed, inserted_at, needed_at}
use Rattle.ra_rga_precedence.specs.Needing.{IsNeeded}
use Rattle.ra_rga_precedence.specs.Marks.{lacks_need}
use Rattle.ra_rga_precedence.specs.Relations.{IsNeedWay, LeadsTo, AreApart}
use Rattle.ra_rga_precedence.specs.Reads.{AreInsertions}
use Rattle.ra_rga_precedence.proofs.ConditionLists.{AreListed}
use Rattle.ra_rga_precedence.proofs.Translations.{listed_at, at_listed, exists_at, listed_inserts, listed_needs, needs_below}
use Rattle.ra_rga_precedence.proofs.InsertedElements.{inserter_is, root_not_inserted, inserted_need}

-- ---- operations and their updates
pub as_after : (operation : Op) (a x : ℕ) → rga_update operation ≡ Some (After a x) → operation ≡ op.After a x
as_after (op.After b y) a x is = let this : Some (After b y) ≡ Some (After a x) = is in cc (this)
as_after (op.RgaRemove y) a x is = let this : Some (RgaRemove y) ≡ Some (After a x) = is in cc (this)
as_after _ a x is = absurd (none-some (After a x) is)

pub as_remove : (operation : Op) (x : ℕ) → rga_update operation ≡ Some (RgaRemove x) → operation ≡ op.RgaRemove x
as_remove (op.After b y) x is = let this : Some (After b y) ≡ Some (RgaRemove x) = is in cc (this)
as_remove (op.RgaRemove y) x is = let this : Some (RgaRemove y) ≡ Some (RgaRemove x) = is in cc (this)
as_remove _ x is = absurd (none-some (RgaRemove x) is)

-- an insertion needs its anchor, unless that is the root
need_of_after : (a x : ℕ) (o : Option ℕ) → element_needed (op.After a x) ≡ o
    → ((a ≡ 0) × (o ≡ None)) ⊎ ((¬ (a ≡ 0)) × (o ≡ Some a))
need_of_after a x o is = elim (cases_eq a 0) [
  | inl root ↦ inl (root, sym is ∙ cond-true (a == 0) None (Some a) (eq-eqb a 0 root))
  | inr apart ↦ inr (apart, sym is ∙ cond-false (a == 0) None (Some a) (ne_eqb a 0 apart))
]

pub after_of : (o : Option Op) (x : ℕ) → option_and_then element_inserted o ≡ Some x
    → (a : ℕ) × (o ≡ Some (op.After a x))
after_of None x is = absurd (none-some x is)
after_of (Some operation) x is = one operation is
  where
    one : (operation : Op) → element_inserted operation ≡ Some x
        → (a : ℕ) × (◌≡◌ {A = Option Op} (Some operation) (Some (op.After a x)))
    one (op.After a y) is = (a, ap (λ z. Some (op.After a z)) (same_Some y x is))
    one _ is = absurd (none-some x is)

module _ (records : Records) (operations : List Op) (listed : AreListed records operations) (inserter : ℕ → Option ℕ)
    (needed : List (Option ℕ)) (ranks : List ℕ)
    (are : AreInsertions operations (label_count records) inserter needed ranks) where
  pub inserter_at : (m x : ℕ) → inserted_at operations m ≡ Some x → inserter x ≡ Some m
  inserter_at m x is = inserter_is records operations listed inserter are.inserters m x
      (listed_inserts records operations listed m x is)

  pub no_root : (m : ℕ) → ¬ (inserter 0 ≡ Some m)
  no_root m is = root_not_inserted records operations listed inserter are.inserters m is

  pub same_element : (x y m : ℕ) → inserter x ≡ Some m → inserter y ≡ Some m → x ≡ y
  same_element x y m first second =
      same_Some x y (sym (are.inserters.found x m first).1 ∙ (are.inserters.found y m second).1)

  pub needed_label : (n x : ℕ) → needed_at operations n ≡ Some x
      → (m : ℕ) × (get_or needed n None ≡ Some m) × (inserter x ≡ Some m)
  needed_label n x needs =
      inserted_need records operations listed inserter are.inserters needed are.len are.needs n x
      (needs_below records operations listed n x (listed_needs records operations listed n x needs).0) needs

  -- the anchor, as what the insertion needs; the root if it needs nothing
  abbrev pub IsAnchorOf : Option ℕ → ℕ → Type 0
  IsAnchorOf None a = a ≡ 0
  IsAnchorOf (Some m) a = inserter a ≡ Some m

  anchor_from : (n x a : ℕ) (o : Option ℕ) → IsNeeded operations inserter n o
      → slice_get operations n ≡ Some (op.After a x) → IsAnchorOf o a
  anchor_from n x a o its at = by o its (need_of_after a x (needed_at operations n)
      (sym (ap (option_and_then element_needed) at)))
    where
      by : (o : Option ℕ) → IsNeeded operations inserter n o
          → ((a ≡ 0) × (needed_at operations n ≡ None)) ⊎ ((¬ (a ≡ 0)) × (needed_at operations n ≡ Some a))
          → IsAnchorOf o a
      by None none (inl (root, is)) = root
      by None none (inr (apart, is)) = absurd (none-some a (sym none ∙ is))
      by (Some m) (y, needs, is) (inl (root, nothing)) = absurd (none-some y (sym nothing ∙ needs))
      by (Some m) (y, needs, is) (inr (apart, this)) = ap inserter (sym (same_Some y a (sym needs ∙ this))) ∙ is

  -- an insertion, with its anchor
  pub record IsChild (n x a : ℕ) : Type 0 where
    pub at : slice_get operations n ≡ Some (op.After a x)
    pub anchor : IsAnchorOf (get_or needed n None) a

  pub child_at : (n x a : ℕ) → slice_get operations n ≡ Some (op.After a x) → IsChild n x a
  child_at n x a at =
      let below = exists_at records operations listed n (op.After a x)
      (at_listed records operations listed n (op.After a x) at) in
      let len = are.len in
      record {
        at = at;
        anchor = anchor_from n x a (get_or needed n None) (are.needs.each n (omega (arith, below, len))) at;
      }

  pub child : (n x : ℕ) → inserted_at operations n ≡ Some x → (a : ℕ) × IsChild n x a
  child n x inserts =
      let (a, at) = after_of (slice_get operations n) x inserts in (a, child_at n x a at)

  pub same_anchor : (o : Option ℕ) (a b : ℕ) → IsAnchorOf o a → IsAnchorOf o b → a ≡ b
  same_anchor None a b first second = first ∙ sym second
  same_anchor (Some m) a b first second = same_element a b m first second

  pub same_need : (o p : Option ℕ) (a : ℕ) → IsAnchorOf o a → IsAnchorOf p a → o ≡ p
  same_need None None a first second = refl
  same_need None (Some m) a first second = absurd (no_root m (ap inserter (sym first) ∙ second))
  same_need (Some m) None a first second = absurd (no_root m (ap inserter (sym second) ∙ first))
  same_need (Some m) (Some n) a first second = sym first ∙ second

  module _ (read : ℕ) (seen : Seen) (visible : (m : ℕ) → is_in seen m ≡ sees records read m) where
    abbrev us : List Update
    us = updates_seen records read

    pub seen_there : (m : ℕ) (operation : Op) (u : Update) → slice_get operations m ≡ Some operation
        → rga_update operation ≡ Some u → is_in seen m ≡ true → Contains us u
    seen_there m operation u at makes sees_it =
        let (label, there, numbered, is) = at_listed records operations listed m operation at in
        mapped_there (λ (l : Label). rga_update l.op)
        (filter (λ (l : Label). sees records read l.number) (labels_of records)) label u
        (kept-there (λ (l : Label). sees records read l.number) (labels_of records) label there
        (ap (sees records read) numbered ∙ sym (visible m) ∙ sees_it)) (ap rga_update is ∙ makes)

    pub there_seen : (u : Update) → Contains us u
        → (m : ℕ) × ((operation : Op) × (slice_get operations m ≡ Some operation) × (rga_update operation ≡ Some u)
        × (is_in seen m ≡ true))
    there_seen u there =
        let (label, among, makes) = mapped_from (λ (l : Label). rga_update l.op)
        (filter (λ (l : Label). sees records read l.number) (labels_of records)) u there in
        let (found, sees_it) = there-kept (λ (l : Label). sees records read l.number) (labels_of records) label among in (
          label.number,
          (
            label.op,
            listed_at records operations listed label.number label.op (label, found, refl, refl),
            makes,
            visible label.number ∙ sees_it,
          ),
        )

    pub inserted_seen : (a x : ℕ) → Contains us (After a x)
        → (m : ℕ) × (slice_get operations m ≡ Some (op.After a x)) × (is_in seen m ≡ true) × (inserter x ≡ Some m)
    inserted_seen a x there =
        let (m, (operation, at, makes, sees_it)) = there_seen (After a x) there in
        let at_m = at ∙ ap Some (as_after operation a x makes) in
        (m, at_m, sees_it, inserter_at m x (ap (option_and_then element_inserted) at_m))

    pub removed_seen : (x : ℕ) → Contains us (RgaRemove x)
        → (m : ℕ) × (slice_get operations m ≡ Some (op.RgaRemove x)) × (is_in seen m ≡ true)
    removed_seen x there =
        let (m, (operation, at, makes, sees_it)) = there_seen (RgaRemove x) there in
        (m, at ∙ ap Some (as_remove operation x makes), sees_it)

    pub seen_below : (m : ℕ) → is_in seen m ≡ true → m < label_count records
    seen_below m sees_it = delivered_are_updates-there records m
        (sees_earlier_updates-updates records read m (sym (visible m) ∙ sees_it))

    -- ways of elements are ways of labels
    pub label_way : (way : List ℕ) (x z k l : ℕ) → inserter x ≡ Some k → inserter z ≡ Some l → IsWay us x way z
        → LeadsTo needed k l
    label_way [] x z k l first second is = ([], same_Some k l (sym first ∙ ap inserter is ∙ second))
    label_way (a ∷ way) x z k l first second (there, rest) =
        let (m, at, sees_it, its) = inserted_seen a x there in
        let same : m ≡ k = same_Some m k (sym its ∙ first) in
        let up = child_at m x a at in
        by (get_or needed m None) refl up.anchor same (λ n anchor. label_way way a z n l anchor second rest)
      where
        root_way : (way : List ℕ) → ¬ IsWay us 0 way z
        root_way [] is = no_root l (ap inserter is ∙ second)
        root_way (b ∷ rest) (there, leads) = let (m, at, sees_it, its) = inserted_seen b 0 there in no_root m its

        by : (o : Option ℕ) → {m : ℕ} → get_or needed m None ≡ o → IsAnchorOf o a → m ≡ k
            → ((n : ℕ) → inserter a ≡ Some n → LeadsTo needed n l) → LeadsTo needed k l
        by None is root same further = absurd (root_way way (subst (λ b. IsWay us b way z) root rest))
        by (Some n) is anchor same further =
            let (up_way, leads) = further n anchor in
            (n ∷ up_way, (ap (λ j. get_or needed j None) (sym same) ∙ is, leads))

    pub label_under : (x z k l : ℕ) → inserter x ≡ Some k → inserter z ≡ Some l → IsUnder us x z → LeadsTo needed k l
    label_under x z k l first second (way, is) = label_way way x z k l first second is

    -- two elements at a fork have labels that are apart
    pub apart_of : (x y xl xr k l : ℕ) → inserter x ≡ Some k → inserter y ≡ Some l → IsFork us x y xl xr
        → (left right : ℕ) × (inserter xl ≡ Some left) × (inserter xr ≡ Some right)
        × AreApart needed k l left right
    apart_of x y xl xr k l first second fork =
        let (left, left_at, left_seen, left_is) = inserted_seen fork.anchor xl fork.left_child in
        let (right, right_at, right_seen, right_is) = inserted_seen fork.anchor xr fork.right_child in (
          left,
          right,
          left_is,
          right_is,
          record {
            apart = λ is. fork.apart (same_element xl xr left left_is (right_is ∙ ap Some (sym is)));
            together = same_need (get_or needed left None) (get_or needed right None) fork.anchor
                (child_at left xl fork.anchor left_at).anchor (child_at right xr fork.anchor right_at).anchor;
            under_left = label_under x xl k left first left_is fork.under_left;
            under_right = label_under y xr l right second right_is fork.under_right;
          },
        )

    module _ (closed : (m : ℕ) → m < label_count records → lacks_need needed seen m ≡ false) where
      pub need_seen : (m k : ℕ) → is_in seen m ≡ true → get_or needed m None ≡ Some k → is_in seen k ≡ true
      need_seen m k sees_it needs = elim (cases_Bool (is_in seen k)) [
        | inl is ↦ is
        | inr other ↦
            absurd (false≢true (sym (closed m (seen_below m sees_it))
            ∙ and_from (is_in seen m) (option_map_or (λ j. not (is_in seen j)) (get_or needed m None) false) sees_it
            (ap (λ o. option_map_or (λ j. not (is_in seen j)) o false) needs ∙ ap not other)))
      ]

      -- a way of labels from a visible insertion is one of elements
      pub up_way : (way : List ℕ) (k l x : ℕ) → is_in seen k ≡ true → inserted_at operations k ≡ Some x
          → IsNeedWay needed k way l
          → (z : ℕ) × (inserted_at operations l ≡ Some z) × (is_in seen l ≡ true) × IsUnder us x z
      up_way [] k l x sees_it inserts is =
          (x, subst (λ j. inserted_at operations j ≡ Some x) is inserts, subst (λ j. is_in seen j ≡ true) is sees_it, ([], refl))
      up_way (m ∷ way) k l x sees_it inserts (up, rest) =
          let (a, its) = child k x inserts in
          let anchor : inserter a ≡ Some m = subst (λ o. IsAnchorOf o a) up its.anchor in
          let (z, there, visible_there, (further, leads)) =
          up_way way m l a (need_seen k m sees_it up) (are.inserters.found a m anchor).1 rest in (
            z,
            there,
            visible_there,
            (a ∷ further, (seen_there k (op.After a x) (After a x) its.at refl sees_it, leads)),
          )

      pub up_from : (k l x : ℕ) → is_in seen k ≡ true → inserted_at operations k ≡ Some x → LeadsTo needed k l
          → (z : ℕ) × (inserted_at operations l ≡ Some z) × (is_in seen l ≡ true) × IsUnder us x z
      up_from k l x sees_it inserts (way, is) = up_way way k l x sees_it inserts is

      -- two labels that are apart have elements at a fork
      pub fork_of : (k l left right x y : ℕ) → is_in seen k ≡ true → is_in seen l ≡ true
          → inserted_at operations k ≡ Some x → inserted_at operations l ≡ Some y → AreApart needed k l left right
          → (xl xr : ℕ) × (inserted_at operations left ≡ Some xl) × (inserted_at operations right ≡ Some xr)
          × IsFork us x y xl xr
      fork_of k l left right x y k_seen l_seen k_inserts l_inserts apart =
          let (xl, left_inserts, left_seen, under_left) = up_from k left x k_seen k_inserts apart.under_left in
          let (xr, right_inserts, right_seen, under_right) = up_from l right y l_seen l_inserts apart.under_right in
          let (a, left_child) = child left xl left_inserts in
          let (b, right_child) = child right xr right_inserts in
          let same : b ≡ a = same_anchor (get_or needed left None) b a
          (subst (λ o. IsAnchorOf o b) (sym apart.together) right_child.anchor) left_child.anchor in (
            xl,
            xr,
            left_inserts,
            right_inserts,
            record {
              anchor = a;
              left_child = seen_there left (op.After a xl) (After a xl) left_child.at refl left_seen;
              right_child = subst (λ c. Contains us (After c xr)) same
                  (seen_there right (op.After b xr) (After b xr) right_child.at refl right_seen);
              apart = λ is. apart.apart (same_Some left right (sym (inserter_at left xl left_inserts)
                  ∙ ap inserter is ∙ inserter_at right xr right_inserts));
              under_left = under_left;
              under_right = under_right;
            },
          )
