-- Lemmas on a condition that names fewer labels of a read: later ones of the same replicas.
use Rattle.std.proofs.Common.{◌≡◌, ◌↔◌, ℕ, ◌<◌, Bool, true, false, List, [], ◌∷◌, ◌++◌, refl, sym, ap, ◌∙◌, subst, inl, inr, arith}
use Rattle.std.specs.Prelude.{◌⊎◌, Option, Contains}
use Rattle.std.proofs.lemmas.Bool.{false≢true, not-true, cases_eq, cond_both}
use Rattle.std.proofs.lemmas.List.Elements.{Contains-append_left, Contains-append_right, Contains-append_cases}
use Rattle.ra_labels.specs.declared.operation.Op.{Op}
use Rattle.ra_labels.specs.declared.operation.Op.TheVariants as op
use Rattle.ra_labels.specs.declared.label.Label.{Label}
use Rattle.ra_labels.specs.Lists.{is_among}
use Rattle.ra_labels.specs.Edges.{EachOnce, IsBefore}
use Rattle.ra_labels.specs.Records.{Records, label_count}
use Rattle.ra_labels.proofs.Members.{head_or_behind, at_head, none_there, from_where}
use Rattle.ra_list_order.proofs.Befores.{before_across}
use Rattle.ra_theorems.proofs.TheoremIndex.{label_at_each_number-one}
use Rattle.ra_precedence.specs.Conditions.{Condition, Meets}
use Rattle.ra_some_order.specs.VisibleUpdates.{writes, writes_other, adds, removes, visible_labels, numbers_where, elements_in}
use Rattle.ra_some_order.specs.UpdateConditions.{value_condition, element_condition, read_conditions}
use Rattle.ra_some_order.specs.LabelOrders.{IsOrderOfLabels, Narrows}
use Rattle.ra_some_order.proofs.VisibleValues.{before_behind}
use Rattle.ra_some_order.proofs.StuckSets.{HasLastMember, none_or_last}
use Rattle.ra_some_order.proofs.MetConditions.{there_visible, from_visible}
use Rattle.ra_some_order.proofs.LabelSequences.{label_below}

-- ---- a condition on labels, none of which stands on both sides
record IsApart (records : Records) (full : Condition) : Type 0 where
  apart : (b : ℕ) → Contains full.before b → ¬ Contains full.after b
  below : (b : ℕ) → Contains full.before b ⊎ Contains full.after b → b < label_count records

module _ (records : Records) (order : List ℕ) (is : IsOrderOfLabels records order) (full condition : Condition)
    (apart : IsApart records full) (narrows : Narrows records full condition) where
  abbrev members : List ℕ
  members = full.before ++ full.after

  abbrev Last : Type 0
  Last = HasLastMember members order

  member : (b : ℕ) → Contains full.before b ⊎ Contains full.after b → Contains members b
  member b (inl first) = Contains-append_left full.before full.after b first
  member b (inr second) = Contains-append_right full.before full.after b second

  member_order : (b : ℕ) → Contains full.before b ⊎ Contains full.after b → Contains order b
  member_order b side = (is.each.all b).0 (apart.below b side)

  none_later : (w : Last) (c : ℕ) → Contains full.before c ⊎ Contains full.after c → ¬ IsBefore order w.last c
  none_later w c there later =
      w.none c (before_behind w.front w.back w.last c (subst EachOnce w.split is.each.once)
      (subst (λ ns. IsBefore ns w.last c) w.split later)) (member c there)

  full_side : (m : ℕ) → Contains condition.before m ⊎ Contains condition.after m
      → Contains full.before m ⊎ Contains full.after m
  full_side m (inl first) = inl (narrows.before m first)
  full_side m (inr second) = inr (narrows.after m second)

  -- the last one is named by the condition as well
  last_kept : (w : Last) → Contains condition.before w.last ⊎ Contains condition.after w.last
  last_kept w =
      let side = Contains-append_cases full.before full.after w.last w.is in
      let (m, named, later, issuer) = narrows.kept w.last side in
      elim (cases_eq w.last m) [
        | inl same ↦ subst (λ k. Contains condition.before k ⊎ Contains condition.after k) (sym same) named
        | inr other ↦ absurd (none_later w m (full_side m named)
            (is.replicas w.last m (omega (arith, later, other)) (apart.below m (full_side m named)) issuer))
      ]

  -- a label stands before the last one, if it is another one
  before_last : (w : Last) (b : ℕ) → Contains full.before b → Contains full.after w.last → IsBefore order b w.last
  before_last w b first last_after =
      subst (λ ns. IsBefore ns b w.last) (sym w.split)
      (elim (Contains-append_cases w.front (w.last ∷ w.back) b
      (subst (λ ns. Contains ns b) w.split (member_order b (inl first)))) [
        | inl near ↦ before_across w.front (w.last ∷ w.back) b w.last near (at_head w.last w.back w.last refl)
        | inr far ↦ elim (head_or_behind w.last w.back b far) [
          | inl here ↦ absurd (apart.apart b first (subst (Contains full.after) here last_after))
          | inr further ↦ absurd (w.none b further (member b (inl first)))
        ]
      ])

  last_of : (b : ℕ) → Contains full.before b → Last
  last_of b first = elim (none_or_last members order) [
    | inl none ↦ absurd (none b (member_order b (inl first)) (member b (inl first)))
    | inr w ↦ w
  ]

  narrowed_if_met : Meets order full → Meets order condition
  narrowed_if_met meets b first =
      let w = last_of b (narrows.before b first) in
      elim (last_kept w) [
        | inl before ↦
            let (c, second, later) = meets w.last (narrows.before w.last before) in
            absurd (none_later w c (inr second) later)
        | inr after ↦ (w.last, after, before_last w b (narrows.before b first) (narrows.after w.last after))
      ]

  met_if_narrowed : Meets order condition → Meets order full
  met_if_narrowed meets b first =
      let w = last_of b first in
      elim (last_kept w) [
        | inl before ↦
            let (c, second, later) = meets w.last before in
            absurd (none_later w c (inr (narrows.after c second)) later)
        | inr after ↦ (w.last, narrows.after w.last after, before_last w b first (narrows.after w.last after))
      ]

-- ---- the conditions of reads
writes_apart : (value : Option ℕ) (operation : Op) → writes_other value operation ≡ true
    → writes value operation ≡ false
writes_apart value (op.Write written) other = not-true (writes value (op.Write written)) other
writes_apart value _ other = absurd (false≢true other)

adds_apart : (x : ℕ) (operation : Op) → adds x operation ≡ true → removes x operation ≡ false
adds_apart x (op.LwwAdd y) it = refl
adds_apart x _ it = absurd (false≢true it)

removes_apart : (x : ℕ) (operation : Op) → removes x operation ≡ true → adds x operation ≡ false
removes_apart x (op.LwwRemove y) it = refl
removes_apart x _ it = absurd (false≢true it)

module _ (records : Records) (n : ℕ) where
  abbrev seen : List Label
  seen = visible_labels records n

  tests_apart : (first second : Op → Bool) → ((operation : Op) → first operation ≡ true → second operation ≡ false)
      → IsApart records (record { before = numbers_where first seen; after = numbers_where second seen })
  tests_apart first second apart = record {
    apart =
        λ b before after.
        let (label, visible, passes, numbered) = from_visible records n first b before in
        let (other, other_visible, other_passes, other_numbered) = from_visible records n second b after in
        let same = label_at_each_number-one records label other (there_visible records n label visible).0
        (there_visible records n other other_visible).0 (numbered ∙ sym other_numbered) in
        false≢true (sym (apart label.op passes) ∙ ap (λ (l : Label). second l.op) same ∙ other_passes);
    below =
        λ b side. elim side [
          | inl before ↦
              let (label, visible, passes, numbered) = from_visible records n first b before in
              subst (λ m. m < label_count records) numbered
              (label_below records label (there_visible records n label visible).0)
          | inr after ↦
              let (label, visible, passes, numbered) = from_visible records n second b after in
              subst (λ m. m < label_count records) numbered
              (label_below records label (there_visible records n label visible).0)
        ];
  }

  reads_apart : (operation : Op) (full : Condition) → Contains (read_conditions seen operation) full
      → IsApart records full
  reads_apart (op.Last value) full there = elim (head_or_behind (value_condition seen value) [] full there) [
    | inl here ↦ subst (IsApart records) here (tests_apart (writes_other value) (writes value) (writes_apart value))
    | inr further ↦ absurd (none_there full further)
  ]
  reads_apart (op.LwwRead list) full there =
      let (x, among, is) = from_where (element_condition seen list) (elements_in seen) full there in
      subst (IsApart records) is (cond_both (is_among x list)
      (record { before = numbers_where (removes x) seen; after = numbers_where (adds x) seen })
      (record { before = numbers_where (adds x) seen; after = numbers_where (removes x) seen })
      (IsApart records) (λ listed. tests_apart (removes x) (adds x) (removes_apart x))
      (λ unlisted. tests_apart (adds x) (removes x) (adds_apart x)))
  reads_apart _ full there = absurd (none_there full there)

pub narrow_exactly : (records : Records) (order : List ℕ) → IsOrderOfLabels records order → (n : ℕ) (operation : Op)
    (full condition : Condition) → Contains (read_conditions (visible_labels records n) operation) full
    → Narrows records full condition → Meets order full ↔ Meets order condition
narrow_exactly records order is n operation full condition there narrows =
    let apart = reads_apart records n operation full there in (
      narrowed_if_met records order is full condition apart narrows,
      met_if_narrowed records order is full condition apart narrows,
    )
