-- Lemmas on the update of a label, by its number and by its operation.
use Rattle.std.proofs.Common.{◌≡◌, ℕ, zero, suc, ◌<◌, ◌≤◌, true, false, List, [], ◌∷◌, length, map, reverse, Option, Some, None, refl, sym, ap, ◌∙◌, subst, inl, inr, arith}
use Rattle.std.specs.Prelude.{Contains, option_map}
use Rattle.std.specs.Option.{option_map_or}
use Rattle.std.specs.List.{slice_get, AllByRecursion}
use Rattle.std.proofs.lemmas.Bool.{and_parts, true≢false, false≢true}
use Rattle.std.proofs.lemmas.Option.{none-some, same_Some, slice_get-map, get_or_from_slice_get}
use Rattle.std.proofs.lemmas.List.{append-nil}
use Rattle.std.proofs.lemmas.List.Elements.{All-from_recursion, All-contains}
use Rattle.std.proofs.lemmas.List.Sorted.{Contains-permutation}
use Rattle.ra_labels.specs.declared.kind.Kind.{Kind}
use Rattle.ra_labels.specs.declared.operation.Op.{Op}
use Rattle.ra_labels.specs.declared.operation.Op.TheVariants as op
use Rattle.ra_labels.specs.declared.list_operation.ListOp.TheVariants as list
use Rattle.ra_labels.specs.declared.operation.Update.{Update}
use Rattle.ra_labels.specs.declared.label.Label.{Label}
use Rattle.ra_labels.specs.Records.{Records, labels_of}
use Rattle.ra_labels.specs.Visibility.{is_update, is_update_at, has_delivered}
use Rattle.ra_labels.specs.Rewriting.{Half, Act, Does, Asks, acts_of, parts_of, update_of, updates_of}
use Rattle.ra_labels.specs.NamedOrder.{named_labels}
use Rattle.ra_labels.specs.Fault.{Holds}
use Rattle.ra_labels.specs.Answer.{is_kind}
use Rattle.ra_labels.specs.TheoremTerms.{kind_of_update}
use Rattle.ra_labels.specs.Insertion.{HasUpdate}
use Rattle.ra_labels.proofs.Members.{head_or_behind, split_at}
use Rattle.ra_theorems.proofs.TheoremIndex.{label_at_each_number-found, delivered_are_updates-updates, named_labels_sorted-same, kind_updates_admitted-only}
use Rattle.ra_witness.specs.declared.overriding.written.Written.{Written}
use Rattle.ra_witness.specs.Labels.{updates_in, head_of, update_in, updates_by_number}
use Rattle.ra_witness.specs.States.{update_at, steps_of}
use Rattle.ra_witness.specs.Overriding as overriding
use Rattle.ra_witness.specs.Overriding.{write_at}
use Rattle.ra_witness.proofs.NumberedLabels.{IsFoundIn, found_in_turn, makes_it, makes_none, update_found}
use Rattle.ra_witness.proofs.Causes.{are_of, are_of-both, updates_by}
use Rattle.ra_witness.proofs.ReplicaStates.{made_among}

-- an operation has at most one update
pub at_most_one : (operation : Op) → length (updates_in (acts_of operation)) ≤ 1
at_most_one op.Inc = omega arith
at_most_one (op.List (list.Insert insertion)) = omega arith
at_most_one (op.List (list.Remove x)) = omega arith
at_most_one (op.List (list.Read elements)) = omega arith
at_most_one (op.List (list.Part elements)) = omega arith
at_most_one _ = omega arith

some_made : (acts : List (Half × Act)) (half : Half) (u : Update) → Contains acts (half, Does u) → 0 < length (updates_in acts)
some_made [] half u there = absurd (omega (arith, there.1))
some_made ((other, Does v) ∷ acts) half u there = omega arith
some_made ((other, Asks query) ∷ acts) half u there = elim (head_or_behind (other, Asks query) acts (half, Does u) there) [
  | inl here ↦ absurd (none-some u (ap (λ (a : Half × Act). update_of a.1) here))
  | inr further ↦ some_made acts half u further
]

only_made : (acts : List (Half × Act)) (half : Half) (u : Update) → length (updates_in acts) ≤ 1 → Contains acts (half, Does u) → head_of (updates_in acts) ≡ Some u
only_made [] half u one there = absurd (omega (arith, there.1))
only_made ((other, Does v) ∷ acts) half u one there = elim (head_or_behind (other, Does v) acts (half, Does u) there) [
  | inl here ↦ ap (λ (a : Half × Act). update_of a.1) here
  | inr further ↦ absurd (omega (arith, one, some_made acts half u further))
]
only_made ((other, Asks query) ∷ acts) half u one there = elim (head_or_behind (other, Asks query) acts (half, Does u) there) [
  | inl here ↦ absurd (none-some u (ap (λ (a : Half × Act). update_of a.1) here))
  | inr further ↦ only_made acts half u one further
]

pub made_once : (operation : Op) (u : Update) → HasUpdate operation u → update_in operation ≡ Some u
made_once operation u (half, there) = only_made (acts_of operation) half u (at_most_one operation) there

abbrev done_by : Label → Option Update
done_by label = update_in label.op

-- the update of a label is found at its number
pub done_at : (records : Records) (label : Label) → Contains (labels_of records) label → update_at (updates_by_number records) label.number ≡ update_in label.op
done_at records label there =
    let in_turn = reverse (labels_of records) in
    let P = IsFoundIn in_turn in
    let each = All-from_recursion P (labels_of records) (subst (λ (ls : List Label). AllByRecursion (IsFoundIn ls) (labels_of records)) (append-nil in_turn) (found_in_turn records [])) in
    let found : slice_get in_turn label.number ≡ Some label = All-contains P (labels_of records) label each there in
    get_or_from_slice_get (map done_by in_turn) label.number (update_in label.op) None (slice_get-map done_by in_turn label.number ∙ ap (option_map done_by) found)

-- the stored write of an update
abbrev pub HasWrite : List (Option Written) → ℕ → Update → Type 0
HasWrite writes n u = (write : Written) × (write_at writes n ≡ Some write) × (write.update ≡ u)

write_kept : (writes : List (Option Written)) (n : ℕ) (u : Update) → update_at (overriding.updates_written writes) n ≡ Some u → HasWrite writes n u
write_kept [] n u is = absurd (none-some u is)
write_kept (None ∷ writes) zero u is = absurd (none-some u is)
write_kept (Some write ∷ writes) zero u is = (write, refl, same_Some write.update u is)
write_kept (w ∷ writes) (suc n) u is = write_kept writes n u is

pub its_write : (writes : List (Option Written)) (records : Records) (label : Label) (u : Update) → overriding.updates_written writes ≡ updates_by_number records
    → Contains (labels_of records) label → HasUpdate label.op u → HasWrite writes label.number u
its_write writes records label u kept there makes =
    write_kept writes label.number u (ap (λ us. update_at us label.number) kept ∙ done_at records label there ∙ made_once label.op u makes)

-- a delivered label makes one step
pub told_step : (updates : List (Option Update)) (records : Records) (n : ℕ) → updates ≡ updates_by_number records → is_update_at records n ≡ true
    → steps_of (update_at updates n) ≡ 1
told_step updates records n kept is =
    let (label, at) = update_found records n is in
    let made : (o : Option Update) → update_in label.op ≡ o → steps_of (update_at updates n) ≡ 1 = elim [
      | None ↦ λ none. absurd (false≢true (sym (makes_none label.op none) ∙ at.update))
      | Some u ↦ λ some.
          ap steps_of (
          ap (update_at updates) (sym at.number)
          ∙ ap (λ us. update_at us label.number) kept
          ∙ done_at records label at.there
          ∙ made_once label.op u (makes_it label.op u some)
          )
    ] in
    made (update_in label.op) refl

-- a stored write has its label's update
update_kept : (writes : List (Option Written)) (n : ℕ) (write : Written) → write_at writes n ≡ Some write → update_at (overriding.updates_written writes) n ≡ Some write.update
update_kept [] n write is = absurd (none-some write is)
update_kept (None ∷ writes) zero write is = absurd (none-some write is)
update_kept (Some w ∷ writes) zero write is = ap Some (ap (λ (v : Written). v.update) (same_Some w write is))
update_kept (w ∷ writes) (suc n) write is = update_kept writes n write is

pub written_made : (writes : List (Option Written)) (records : Records) (label : Label) (write : Written) → overriding.updates_written writes ≡ updates_by_number records
    → Contains (labels_of records) label → write_at writes label.number ≡ Some write → HasUpdate label.op write.update
written_made writes records label write kept there at =
    makes_it label.op write.update (sym (done_at records label there) ∙ sym (ap (λ us. update_at us label.number) kept) ∙ update_kept writes label.number write at)

pub update_of_write : (writes : List (Option Written)) (n : ℕ) (write : Written) → write_at writes n ≡ Some write → update_at (overriding.updates_written writes) n ≡ Some write.update
update_of_write = update_kept

-- a label that was delivered to a replica has an update
pub had_makes : (records : Records) (q : ℕ) (label : Label) → Contains (labels_of records) label → has_delivered records q label.number ≡ true → (u : Update) × HasUpdate label.op u
had_makes records q label there h = by (update_in label.op) refl
  where
    updates : is_update label.op ≡ true
    updates = sym (ap (λ o. option_map_or (λ (l : Label). is_update l.op) o false) (label_at_each_number-found records label there)) ∙ delivered_are_updates-updates records q label.number h

    by : (o : Option Update) → update_in label.op ≡ o → (u : Update) × HasUpdate label.op u
    by None is = absurd (true≢false (sym updates ∙ makes_none label.op is))
    by (Some u) is = (u, makes_it label.op u is)

-- the update of a label is of the history's kind
pub done_of_kind : (kind : Kind) (records : Records) (label : Label) (u : Update) → Holds kind records → Contains (labels_of records) label → HasUpdate label.op u → is_kind kind (kind_of_update u) ≡ true
done_of_kind kind records label u holds there makes =
    let (before, behind, is) = split_at (named_labels kind records) label (Contains-permutation (labels_of records) (named_labels kind records) label (named_labels_sorted-same kind records) there) in
    let all = kind_updates_admitted-only kind (updates_by (named_labels kind records)) holds.updates in
    let two = and_parts (are_of kind (updates_by before)) (are_of kind (updates_by (label ∷ behind))) (sym (ap (λ ls. are_of kind (updates_by ls)) is ∙ are_of-both kind before (label ∷ behind)) ∙ all) in
    let one = and_parts (are_of kind (updates_by (label ∷ []))) (are_of kind (updates_by behind)) (sym (are_of-both kind (label ∷ []) behind) ∙ two.1) in
    made_among kind label (acts_of label.op) makes.0 u (sym (ap (λ ps. are_of kind (updates_of ps)) (append-nil (parts_of label))) ∙ one.0) makes.1
