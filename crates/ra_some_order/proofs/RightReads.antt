-- Lemmas on the reads that are right after the updates that they see: they are possible, and the order of the updates
-- meets their conditions; and the converse.
use Rattle.std.proofs.Common.{◌≡◌, ◌↔◌, ℕ, false, List, [], Option, Some, None, refl, sym, ap, ◌∙◌, subst, inl, inr}
use Rattle.std.specs.Prelude.{Contains, IsPermutation}
use Rattle.std.proofs.lemmas.Bool.{cases_Bool, cases_eq, cond_both, cond-true, cond-false, false≢true, eq-eqb}
use Rattle.std.proofs.lemmas.Option.{same_Some}
use Rattle.ra_labels.specs.declared.operation.Op.{Op}
use Rattle.ra_labels.specs.declared.operation.Op.TheVariants as op
use Rattle.ra_labels.specs.declared.operation.Update.{Update}
use Rattle.ra_labels.specs.declared.operation.Update.TheVariants as updates
use Rattle.ra_labels.specs.declared.label.Label.{Label}
use Rattle.ra_labels.specs.Lists.{is_among}
use Rattle.ra_labels.specs.Records.{Records}
use Rattle.ra_labels.specs.Visibility.{sees}
use Rattle.ra_labels.specs.Rewriting.{Part, update_of}
use Rattle.ra_labels.specs.Linearization.{parts_in, visible_updates}
use Rattle.ra_labels.specs.TheoremTerms.{acts_on}
use Rattle.ra_labels.specs.Commuting.{last_of, written_by, last_written, last_on}
use Rattle.ra_labels.proofs.InLists.{among-exactly}
use Rattle.ra_labels.proofs.Members.{head_or_behind, at_head, none_there, reached, from_where, piece_of, in_piece}
use Rattle.ra_precedence.specs.Conditions.{Meets, MeetsAll}
use Rattle.ra_some_order.specs.VisibleUpdates.{writes, writes_other, adds, removes, elements_changed, visible_labels, numbers_where, elements_in}
use Rattle.ra_some_order.specs.UpdateConditions.{value_condition, element_condition, read_conditions}
use Rattle.ra_some_order.specs.PlainConditions.{IsPossibleRead}
use Rattle.ra_some_order.specs.SomeOrder.{update_order}
use Rattle.ra_some_order.proofs.LastValues.{last_value, where_last, fused, if_passes, filter_mapped, some_or_none}
use Rattle.ra_some_order.proofs.WrittenValues.{value_made, made_write, writes_there, writes_from, other_from, other_there, other_than_none, made_on, made_cases, adds_from, removes_from, not_both, decide_added, adds_there, removes_there, added_otherwise, removed_otherwise, decide_removed, changed_made, made_changed, Added, Removed}
use Rattle.ra_some_order.proofs.VisibleValues.{visible_value, HasVisible, last_visible, none_visible}
use Rattle.ra_some_order.proofs.MetConditions.{visible_there, from_visible, has_visible, meets_if_last, last_if_meets}

-- holds if the read is right after these updates of a register or of an LWW set
abbrev pub IsRightAfter : List Update → Op → Type 0
IsRightAfter us (op.Last value) = last_written us ≡ value
IsRightAfter us (op.LwwRead list) = (x : ℕ) → Contains list x ↔ (last_on x us ≡ Some (updates.LwwAdd x))
IsRightAfter us _ = Unit {0}

-- holds if the answer of label n is right after the updates that it sees, in the sequence's order
abbrev pub IsRightRead : Records → List Part → ℕ → Op → Type 0
IsRightRead records sequence n operation = IsRightAfter (visible_updates records sequence n) operation

module _ (records : Records) (sequence : List Part) (same : IsPermutation (parts_in records) sequence) (n : ℕ) where
  abbrev last_of_value : Option ℕ
  last_of_value = last_value (visible_value records n written_by) sequence

  abbrev last_at : ℕ → Option Update
  last_at x = last_value (visible_value records n (if_passes (acts_on x))) sequence

  written_is : last_written (visible_updates records sequence n) ≡ last_of_value
  written_is =
      ap last_of (fused (λ (p : Part). sees records n p.label.number)
      (λ (p : Part). update_of p.act) written_by sequence)

  on_is : (x : ℕ) → last_on x (visible_updates records sequence n) ≡ last_at x
  on_is x =
      ap last_of (filter_mapped (acts_on x) (visible_updates records sequence n))
      ∙ ap last_of (fused (λ (p : Part). sees records n p.label.number) (λ (p : Part). update_of p.act)
      (if_passes (acts_on x)) sequence)

  -- ---- a register
  abbrev value_visible : (label : Label) (v : ℕ) → Contains (visible_labels records n) label
      → value_made label.op ≡ Some v → HasVisible records n written_by v label.number
  value_visible label v visible makes = has_visible records sequence same n written_by label v visible makes

  value_met : (value : Option ℕ) → last_of_value ≡ value → Meets (update_order sequence)
      (value_condition (visible_labels records n) value)
  value_met None is = λ b there.
      let (label, visible, passes, numbered) = from_visible records n (writes_other None) b there in
      let (w, makes) = other_than_none label.op passes in
      absurd (none_visible records sequence same n written_by is w label.number (value_visible label w visible makes))
  value_met (Some v) is =
      meets_if_last records sequence same n written_by v (writes_other (Some v)) (writes (Some v)) (other_from v)
      (writes_there v) is

  value_possible : (value : Option ℕ) → last_of_value ≡ value → IsPossibleRead (visible_labels records n)
      (op.Last value)
  value_possible None is = λ v (label, visible, writes_it).
      none_visible records sequence same n written_by is v label.number
      (value_visible label v visible (ap value_made writes_it))
  value_possible (Some v) is =
      let place = where_last (visible_value records n written_by) sequence v is in
      let last = last_visible records sequence same n written_by v place in
      (last.label, visible_there records n last.label last.there last.seen, made_write last.label.op v last.makes)

  value_right : (value : Option ℕ)
      → IsPossibleRead (visible_labels records n) (op.Last value) → Meets (update_order sequence)
      (value_condition (visible_labels records n) value)
      → last_of_value ≡ value
  value_right None none meets = elim (some_or_none last_of_value) [
    | inl is ↦ is
    | inr (v, is) ↦ absurd (none v (value_possible (Some v) is))
  ]
  value_right (Some v) (label, visible, writes_it) meets =
      last_if_meets records sequence same n written_by v (λ operation w makes. cases_eq w v)
      (writes_other (Some v)) (writes (Some v)) (other_there v) (writes_from v) label visible
      (ap (writes (Some v)) writes_it ∙ eq-eqb v v refl) meets

  -- ---- an LWW set
  abbrev update_visible : (x : ℕ) (label : Label) (u : Update) → Contains (visible_labels records n) label
      → made_on x label.op ≡ Some u → HasVisible records n (if_passes (acts_on x)) u label.number
  update_visible x label u visible makes =
      has_visible records sequence same n (if_passes (acts_on x)) label u visible makes

  -- the operation that has the last update on an element
  last_operation : (x : ℕ) (u : Update) → last_at x ≡ Some u
      → (label : Label) × Contains (visible_labels records n) label × (made_on x label.op ≡ Some u)
  last_operation x u is =
      let place = where_last (visible_value records n (if_passes (acts_on x))) sequence u is in
      let last = last_visible records sequence same n (if_passes (acts_on x)) u place in
      (last.label, visible_there records n last.label last.there last.seen, last.makes)

  -- an element that visible updates change, and that the last of them does not add, is removed by it
  last_removed : (x : ℕ) → Contains (elements_in (visible_labels records n)) x → ¬ (last_at x ≡ Some (updates.LwwAdd x))
      → last_at x ≡ Some (updates.LwwRemove x)
  last_removed x there not_added =
      let (label, visible, changes) = piece_of (λ (l : Label). elements_changed l.op)
      (visible_labels records n) x there in
      let (u, makes) = changed_made x label.op changes in
      elim (some_or_none (last_at x)) [
        | inl none ↦ absurd (none_visible records sequence same n (if_passes (acts_on x)) none u label.number
            (update_visible x label u visible makes))
        | inr (w, is) ↦
            let (last, last_visible, last_makes) = last_operation x w is in
            elim (made_cases x last.op w last_makes) [
              | Added same_op made ↦ absurd (not_added (is ∙ ap Some made))
              | Removed same_op made ↦ is ∙ ap Some made
            ]
      ]

  abbrev IsRightSet : List ℕ → Type 0
  IsRightSet list = (x : ℕ) → Contains list x ↔ (last_at x ≡ Some (updates.LwwAdd x))

  abbrev order : List ℕ
  order = update_order sequence

  added_met : (x : ℕ) → last_at x ≡ Some (updates.LwwAdd x)
      → Meets order (record {
        before = numbers_where (removes x) (visible_labels records n);
        after = numbers_where
            (adds x) (visible_labels records n);
      })
  added_met x is =
      meets_if_last records sequence same n (if_passes (acts_on x)) (updates.LwwAdd x) (removes x) (adds x)
      (λ operation removes_it. (
        updates.LwwRemove x,
        removes_from x operation removes_it,
        λ other. not_both x x
            (sym other),
      ))
      (adds_there x) is

  removed_met : (x : ℕ) → last_at x ≡ Some (updates.LwwRemove x)
      → Meets order (record {
        before = numbers_where (adds x) (visible_labels records n);
        after = numbers_where
            (removes x) (visible_labels records n);
      })
  removed_met x is =
      meets_if_last records sequence same n (if_passes (acts_on x)) (updates.LwwRemove x) (adds x) (removes x)
      (λ operation adds_it. (updates.LwwAdd x, adds_from x operation adds_it, λ other. not_both x x other))
      (removes_there x) is

  not_listed : (x : ℕ) (list : List ℕ) → is_among x list ≡ false → ¬ Contains list x
  not_listed x list is there = false≢true (sym is ∙ (among-exactly x list).1 there)

  element_met : (list : List ℕ) → IsRightSet list → (x : ℕ) → Contains (elements_in (visible_labels records n)) x
      → Meets order (element_condition (visible_labels records n) list x)
  element_met list right x there =
      cond_both (is_among x list)
      (record {
        before = numbers_where (removes x) (visible_labels records n);
        after = numbers_where (adds x)
            (visible_labels records n);
      })
      (record {
        before = numbers_where (adds x) (visible_labels records n);
        after = numbers_where (removes x)
            (visible_labels records n);
      })
      (Meets order)
      (λ is. added_met x ((right x).0 ((among-exactly x list).0 is)))
      (λ is. removed_met x (last_removed x there (λ added. not_listed x list is ((right x).1 added))))

  set_possible : (list : List ℕ) → IsRightSet list → IsPossibleRead (visible_labels records n) (op.LwwRead list)
  set_possible list right = (
    (λ x there.
        let (label, visible, makes) = last_operation x (updates.LwwAdd x) ((right x).0 there) in (
          label,
          visible,
          elim (made_cases x label.op (updates.LwwAdd x) makes) [
            | Added same_op made ↦ same_op
            | Removed same_op made ↦ absurd (not_both x x made)
          ],
        )),
    (λ x changed not_there.
        let (label, visible, makes) = last_operation x (updates.LwwRemove x)
        (last_removed x changed (λ added. not_there ((right x).1 added))) in (
          label,
          visible,
          elim (made_cases x label.op (updates.LwwRemove x) makes) [
            | Added same_op made ↦ absurd (not_both x x (sym made))
            | Removed same_op made ↦ same_op
          ],
        )),
  )

  changed_visibly : (x : ℕ) (label : Label) (u : Update) → Contains (visible_labels records n) label
      → made_on x label.op ≡ Some u → Contains (elements_in (visible_labels records n)) x
  changed_visibly x label u visible makes =
      in_piece (λ (l : Label). elements_changed l.op) (visible_labels records n) label x visible
      (made_changed x label.op u makes)

  set_right : (list : List ℕ) → IsPossibleRead (visible_labels records n)
      (op.LwwRead list)
      → ((x : ℕ) → Contains (elements_in (visible_labels records n)) x → Meets order
      (element_condition (visible_labels records n) list x))
      → IsRightSet list
  set_right list possible meets x = (
    (λ there.
        let (label, visible, adds_it) = possible.0 x there in
        let makes = ap (made_on x) adds_it ∙ adds_from x (op.LwwAdd x) (eq-eqb x x refl) in
        last_if_meets records sequence same n (if_passes (acts_on x)) (updates.LwwAdd x) (decide_added x)
        (removes x) (adds x) (removed_otherwise x) (adds_from x) label visible (adds_there x label.op makes)
        (subst (Meets order) (cond-true (is_among x list) _ _ ((among-exactly x list).1 there))
        (meets x (changed_visibly x label (updates.LwwAdd x) visible makes)))),
    (λ added.
        elim (cases_Bool (is_among x list)) [
          | inl is ↦ (among-exactly x list).0 is
          | inr not_among ↦
              let (last, last_visible, last_makes) = last_operation x (updates.LwwAdd x) added in
              let changed = changed_visibly x last (updates.LwwAdd x) last_visible last_makes in
              let (label, visible, removes_it) = possible.1 x changed (not_listed x list not_among) in
              let makes = ap (made_on x) removes_it ∙ removes_from x (op.LwwRemove x) (eq-eqb x x refl) in
              let removed : last_at x ≡ Some (updates.LwwRemove x) =
              last_if_meets records sequence same n (if_passes (acts_on x)) (updates.LwwRemove x)
              (decide_removed x) (adds x) (removes x) (added_otherwise x) (removes_from x) label visible
              (removes_there x label.op makes)
              (subst (Meets order) (cond-false (is_among x list) _ _ not_among) (meets x changed)) in
              absurd (not_both x x (same_Some (updates.LwwAdd x) (updates.LwwRemove x) (sym added ∙ removed)))
        ]),
  )

  -- ---- either
  set_same : (list : List ℕ) → IsRightRead records sequence n (op.LwwRead list) → IsRightSet list
  set_same list right x = ((λ there. sym (on_is x) ∙ (right x).0 there), (λ is. (right x).1 (on_is x ∙ is)))

  same_set : (list : List ℕ) → IsRightSet list → IsRightRead records sequence n (op.LwwRead list)
  same_set list right x = ((λ there. on_is x ∙ (right x).0 there), (λ is. (right x).1 (sym (on_is x) ∙ is)))

  pub right_meets : (operation : Op) → IsRightRead records sequence n operation
      → MeetsAll order (read_conditions (visible_labels records n) operation)
  right_meets (op.Last value) right condition there =
      elim (head_or_behind (value_condition (visible_labels records n) value) [] condition there) [
        | inl here ↦ subst (Meets order) here (value_met value (sym written_is ∙ right))
        | inr further ↦ absurd (none_there condition further)
      ]
  right_meets (op.LwwRead list) right condition there =
      let (x, changed, is) = from_where (element_condition (visible_labels records n) list)
      (elements_in (visible_labels records n)) condition there in
      subst (Meets order) is (element_met list (set_same list right) x changed)
  right_meets _ right condition there = absurd (none_there condition there)

  pub right_possible : (operation : Op) → IsRightRead records sequence n operation → IsPossibleRead
      (visible_labels records n) operation
  right_possible (op.Last value) right = value_possible value (sym written_is ∙ right)
  right_possible (op.LwwRead list) right = set_possible list (set_same list right)
  right_possible _ right = tt

  pub right_if_meets : (operation : Op) → IsPossibleRead
      (visible_labels records n) operation
      → MeetsAll order (read_conditions (visible_labels records n) operation) → IsRightRead records sequence n operation
  right_if_meets (op.Last value) possible meets =
      written_is ∙ value_right value possible (meets (value_condition (visible_labels records n) value)
      (at_head (value_condition (visible_labels records n) value) []
      (value_condition (visible_labels records n) value) refl))
  right_if_meets (op.LwwRead list) possible meets =
      same_set list (set_right list possible
      (λ x changed. meets (element_condition (visible_labels records n) list x)
      (reached (element_condition (visible_labels records n) list) (elements_in (visible_labels records n)) x changed)))
  right_if_meets _ possible meets = tt
