-- Lemmas on what a linearization of a register or an LWW set says of its reads, and of the order of its updates.
use Rattle.std.proofs.Common.{◌≡◌, ℕ, true, false, List, Option, Some, refl, sym, ap, ◌∙◌, subst, inl, inr, arith}
use Rattle.std.specs.Prelude.{◌↔◌, is_some, Contains, IsPermutation}
use Rattle.std.proofs.lemmas.Bool.{cases_Bool, cond-true, cond-false, false≢true}
use Rattle.std.proofs.lemmas.Option.{same_Some}
use Rattle.std.proofs.lemmas.List.Sorted.{Contains-permutation}
use Rattle.ra_labels.specs.declared.kind.Kind.{Kind}
use Rattle.ra_labels.specs.declared.kind.Kind.TheVariants.{Register, LwwSet}
use Rattle.ra_labels.specs.declared.operation.Op.{Op}
use Rattle.ra_labels.specs.declared.operation.Op.TheVariants as op
use Rattle.ra_labels.specs.declared.operation.Update.{Update}
use Rattle.ra_labels.specs.declared.operation.Update.TheVariants as updates
use Rattle.ra_labels.specs.declared.operation.Query.{Query}
use Rattle.ra_labels.specs.declared.operation.Query.TheVariants as queries
use Rattle.ra_labels.specs.declared.label.Label.{Label}
use Rattle.ra_labels.specs.Records.{Records, labels_of}
use Rattle.ra_labels.specs.Visibility.{is_update}
use Rattle.ra_labels.specs.Rewriting.{Whole, Part, Asks, acts_of, part_of, parts_of}
use Rattle.ra_labels.specs.Specification.{State, Written, Members, answers, state_after}
use Rattle.ra_labels.specs.Linearization.{parts_in, is_visible_to, visible_updates, queries_admitted, IsRaLinearizationBy}
use Rattle.ra_labels.specs.Commuting.{last_written, last_on}
use Rattle.ra_labels.specs.Answer.{is_kind}
use Rattle.ra_labels.specs.TheoremTerms.{kind_of_state, kind_of_query, IsAnsweredAfter}
use Rattle.ra_labels.proofs.Members.{reached, piece_of, in_piece}
use Rattle.ra_theorems.specs.AnyOrder.{NoneLinearizes}
use Rattle.ra_theorems.proofs.TheoremIndex.{queries_admitted_iff_answered, state_kind, other_kind_query_rejected, register_last_write_wins-last, register_read_answer, lww_set_last_update_wins-has, lww_set_read_answer}
use Rattle.ra_precedence.specs.Conditions.{Condition, MeetsAll, IsStuck}
use Rattle.ra_some_order.specs.VisibleUpdates.{visible_labels}
use Rattle.ra_some_order.specs.UpdateConditions.{conditions_of, conditions_of_label, visibility_conditions, read_conditions, IsOrderOfUpdates}
use Rattle.ra_some_order.specs.PlainConditions.{MeetsPlainConditions}
use Rattle.ra_some_order.specs.Covering.{ExtendsVisibility}
use Rattle.ra_some_order.specs.SomeOrder.{is_decided_by_conditions, update_order}
use Rattle.ra_some_order.proofs.UpdateOrders.{order_of_updates}
use Rattle.ra_some_order.proofs.RightReads.{IsRightRead, right_meets, right_possible}
use Rattle.ra_some_order.proofs.VisibleOrders.{visibility_met, updates_extend}
use Rattle.ra_some_order.proofs.StuckSets.{no_order_meets_stuck}

-- ---- the answers of states
-- admitted updates lead a register to the last write, which is the only right answer to a read
register_answered : (us : List Update) (value : Option ℕ) → IsAnsweredAfter Register us (queries.Last value)
    → last_written us ≡ value
register_answered us value (state, led, right) =
    let same = same_Some state (Written (last_written us))
    (sym led ∙ register_last_write_wins-last us (ap is_some led)) in
    sym ((register_read_answer (last_written us) value).0 (ap (λ s. answers s (queries.Last value)) (sym same) ∙ right))

set_answered : (us : List Update) (list : List ℕ) → IsAnsweredAfter LwwSet us (queries.LwwRead list)
    → (x : ℕ) → Contains list x ↔ (last_on x us ≡ Some (updates.LwwAdd x))
set_answered us list (state, led, right) x = members state (state_kind LwwSet us state led) led right
  where
    members : (state : State) → kind_of_state state ≡ LwwSet → state_after LwwSet us ≡ Some state
        → answers state (queries.LwwRead list) ≡ true → Contains list x ↔ (last_on x us ≡ Some (updates.LwwAdd x))
    members (Members xs) of_kind led right =
        let each = (lww_set_read_answer xs list).0 right x in
        let has = lww_set_last_update_wins-has us xs x led in
        ((λ there. has.0 (each.0 there)), (λ is. each.1 (has.1 is)))
    members _ of_kind led right = absurd (false≢true right)

-- a query of another kind is not answered
other_kind : (kind : Kind) (us : List Update) (query : Query) → is_kind kind (kind_of_query query) ≡ false
    → ¬ IsAnsweredAfter kind us query
other_kind kind us query other (state, led, right) =
    false≢true (sym (other_kind_query_rejected state query
    (ap (λ k. is_kind k (kind_of_query query)) (state_kind kind us state led) ∙ other)) ∙ right)

module _ (kind : Kind) (records : Records) (sequence : List Part) (same : IsPermutation (parts_in records) sequence)
    (admitted : queries_admitted kind records sequence ≡ true) where
  -- the query of a label is answered after the updates that the label sees
  answered : (label : Label) (query : Query) → Contains (labels_of records) label
      → Contains (acts_of label.op) (Whole, Asks query)
      → IsAnsweredAfter kind (visible_updates records sequence label.number) query
  answered label query there among =
      (queries_admitted_iff_answered kind records sequence).0 admitted (part_of label (Whole, Asks query)) query
      (Contains-permutation (parts_in records) sequence (part_of label (Whole, Asks query)) same
      (in_piece parts_of (labels_of records) label (part_of label (Whole, Asks query)) there
      (reached (part_of label) (acts_of label.op) (Whole, Asks query) among))) refl

module _ (records : Records) (sequence : List Part) (same : IsPermutation (parts_in records) sequence) (label : Label)
    (there : Contains (labels_of records) label) where
  abbrev its_act : Query → Op → Type 0
  its_act query operation = Contains (acts_of operation) (Whole, Asks query)

  abbrev seen : List Update
  seen = visible_updates records sequence label.number

  register_right : queries_admitted Register records sequence ≡ true → (operation : Op) → label.op ≡ operation
      → IsRightRead records sequence label.number operation
  register_right admitted (op.Last value) is =
      register_answered seen value (answered Register records sequence same admitted label (queries.Last value) there
      (subst (its_act (queries.Last value)) (sym is) (0, omega arith, refl)))
  register_right admitted (op.LwwRead list) is =
      absurd (other_kind Register seen (queries.LwwRead list) refl
      (answered Register records sequence same admitted label (queries.LwwRead list) there
      (subst (its_act (queries.LwwRead list)) (sym is) (0, omega arith, refl))))
  register_right admitted _ is = tt

  set_right : queries_admitted LwwSet records sequence ≡ true → (operation : Op) → label.op ≡ operation
      → IsRightRead records sequence label.number operation
  set_right admitted (op.Last value) is =
      absurd (other_kind LwwSet seen (queries.Last value) refl
      (answered LwwSet records sequence same admitted label (queries.Last value) there
      (subst (its_act (queries.Last value)) (sym is) (0, omega arith, refl))))
  set_right admitted (op.LwwRead list) is =
      set_answered seen list (answered LwwSet records sequence same admitted label (queries.LwwRead list) there
      (subst (its_act (queries.LwwRead list)) (sym is) (0, omega arith, refl)))
  set_right admitted _ is = tt

  right_read : (kind : Kind) → is_decided_by_conditions kind ≡ true → queries_admitted kind records sequence ≡ true
      → IsRightRead records sequence label.number label.op
  right_read Register decided admitted = register_right admitted label.op refl
  right_read LwwSet decided admitted = set_right admitted label.op refl
  right_read _ decided admitted = absurd (false≢true decided)

-- ---- the theorems
pub plain_met : (kind : Kind) (records : Records) (sequence : List Part) → is_decided_by_conditions kind ≡ true
    → IsRaLinearizationBy (is_visible_to records) kind records sequence → MeetsPlainConditions records
plain_met kind records sequence decided linearizes label there =
    right_possible records sequence linearizes.each_part_once label.number label.op
    (right_read records sequence linearizes.each_part_once label there kind decided linearizes.queries)

pub updates_ordered : (kind : Kind) (records : Records) (sequence : List Part)
    → IsRaLinearizationBy (is_visible_to records) kind records sequence
    → IsOrderOfUpdates records (update_order sequence)
updates_ordered kind records sequence linearizes =
    order_of_updates records sequence linearizes.each_part_once

pub updates_extended : (kind : Kind) (records : Records) (sequence : List Part)
    → IsRaLinearizationBy (is_visible_to records) kind records sequence
    → ExtendsVisibility records (update_order sequence)
updates_extended kind records sequence linearizes =
    updates_extend records sequence linearizes.each_part_once linearizes.visibility

pub conditions_met : (kind : Kind) (records : Records) (sequence : List Part) → is_decided_by_conditions kind ≡ true
    → IsRaLinearizationBy (is_visible_to records) kind records sequence
    → MeetsAll (update_order sequence) (conditions_of records)
conditions_met kind records sequence decided linearizes condition among =
    let same = linearizes.each_part_once in
    let (label, there, of_label) = piece_of (conditions_of_label records) (labels_of records) condition among in
    let visible = visible_labels records label.number in
    let by_visibility = visibility_conditions visible label.number in
    let by_read = read_conditions visible label.op in
    elim (cases_Bool (is_update label.op)) [
      | inl updates_it ↦
          visibility_met records sequence same linearizes.visibility label there updates_it condition
          (subst (λ cs. Contains cs condition) (cond-true (is_update label.op) by_visibility by_read updates_it)
          of_label)
      | inr reads ↦
          right_meets records sequence same label.number label.op
          (right_read records sequence same label there kind decided linearizes.queries) condition
          (subst (λ cs. Contains cs condition) (cond-false (is_update label.op) by_visibility by_read reads) of_label)
    ]

pub plain_final : (kind : Kind) (records : Records) → is_decided_by_conditions kind ≡ true
    → ¬ MeetsPlainConditions records → NoneLinearizes kind records
plain_final kind records decided fails sequence linearizes = fails (plain_met kind records sequence decided linearizes)

pub stuck_final : (kind : Kind) (records : Records) (set : List ℕ) → is_decided_by_conditions kind ≡ true
    → IsStuck (conditions_of records) set → NoneLinearizes kind records
stuck_final kind records set decided stuck sequence linearizes =
    no_order_meets_stuck (update_order sequence) (conditions_of records) set
    (updates_ordered kind records sequence linearizes).once stuck
    (conditions_met kind records sequence decided linearizes)

-- other conditions serve as well, if each order that meets the conditions meets them
pub following_final : (kind : Kind) (records : Records) (conditions : List Condition) (set : List ℕ)
    → is_decided_by_conditions kind ≡ true
    → ((order : List ℕ) → IsOrderOfUpdates records order → MeetsAll order (conditions_of records)
    → MeetsAll order conditions)
    → IsStuck conditions set → NoneLinearizes kind records
following_final kind records conditions set decided follow stuck sequence linearizes =
    let is = updates_ordered kind records sequence linearizes in
    no_order_meets_stuck (update_order sequence) conditions set is.once stuck
    (follow (update_order sequence) is (conditions_met kind records sequence decided linearizes))
