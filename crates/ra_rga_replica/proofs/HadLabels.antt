-- Lemmas on one more delivered label that is pending.
use Rattle.std.proofs.Common.{◌≡◌, ◌≢◌, ℕ, Bool, false, List, [], ◌∷◌, ◌++◌, Option, Some, sym, ap, ◌∙◌, subst, inl, inr, arith}
use Rattle.std.specs.Prelude.{◌⊎◌, Contains}
use Rattle.std.proofs.lemmas.Bool.{cases_eq, false_from_ne_true}
use Rattle.std.proofs.lemmas.Option.{same_Some}
use Rattle.std.proofs.lemmas.List.Elements.{Contains-append_left, Contains-append_right, Contains-push_cases}
use Rattle.ra_labels.specs.Records.{Records}
use Rattle.ra_labels.specs.TheoremTerms.{HasNoDuplicates}
use Rattle.ra_labels.specs.Insertion.{or_label}
use Rattle.ra_labels.specs.Pending.{IsSettled}
use Rattle.ra_labels.proofs.Members.{head_or_behind, at_head, none_there}
use Rattle.ra_theorems.proofs.TheoremIndex.{settled_persists-waiting}
use Rattle.ra_rga_elements.specs.ElementList.{Arrival, is_marked}
use Rattle.ra_rga_replica.specs.declared.edit.Edit.{Edit}
use Rattle.ra_rga_replica.specs.PendingLabels.{labels_under}
use Rattle.ra_rga_replica.specs.Edits.{edit_at, needed_number, update_of, AreEditsOf}
use Rattle.ra_rga_replica.specs.ReplicaList.{IsListWith}
use Rattle.ra_rga_replica.specs.Cascade.{IsListWithAfter}
use Rattle.ra_rga_replica.proofs.NoneTwice.{none_twice-append, none_twice-one, not_both, it_passes, still_passes, passes_or_is}
use Rattle.ra_rga_replica.proofs.Edits.{needed_marked}

-- the label is pending under this number from now on
pub record IsAdded (waiting next : List (ℕ × List ℕ)) (number label : ℕ) : Type 0 where
  pub added : labels_under next number ≡ labels_under waiting number ++ label ∷ []
  pub others : (other : ℕ) → other ≢ number → labels_under next other ≡ labels_under waiting other

added_there : {waiting : List (ℕ × List ℕ)} (next : List (ℕ × List ℕ)) (needed label number n : ℕ)
    → IsAdded waiting next needed label → Contains (labels_under waiting number) n
    → Contains (labels_under next number) n
added_there {waiting = waiting} next needed label number n added there = elim (cases_eq number needed) [
  | inl is ↦
      subst (λ (k : ℕ). Contains (labels_under next k) n) (sym is)
      (subst (λ ls. Contains ls n) (sym added.added) (Contains-append_left (labels_under waiting needed) (label ∷ []) n
      (subst (λ (k : ℕ). Contains (labels_under waiting k) n) is there)))
  | inr other ↦ subst (λ ls. Contains ls n) (sym (added.others number other)) there
]

from_added : {waiting : List (ℕ × List ℕ)} (next : List (ℕ × List ℕ)) (needed label number n : ℕ)
    → IsAdded waiting next needed label → Contains (labels_under next number) n
    → Contains (labels_under waiting number) n ⊎ ((number ≡ needed) × (label ≡ n))
from_added {waiting = waiting} next needed label number n added there = elim (cases_eq number needed) [
  | inl is ↦
      elim (Contains-push_cases (labels_under waiting needed) label n
      (subst (λ ls. Contains ls n) added.added (subst (λ (k : ℕ). Contains (labels_under next k) n) is there))) [
        | inl old ↦ inl (subst (λ (k : ℕ). Contains (labels_under waiting k) n) (sym is) old)
        | inr it ↦ inr (is, it)
      ]
  | inr other ↦ inl (subst (λ ls. Contains ls n) (added.others number other) there)
]

module _ {arrivals : List Arrival} {edits : List (Option Edit)} {records : Records} {shows : ℕ → Bool} {marks : List Bool}
    {waiting : List (ℕ × List ℕ)} {had settled : ℕ → Bool} where
  -- the label is not settled
  pub not_settled : IsListWith shows marks waiting arrivals edits records had settled → (label : ℕ) → had label ≡ false
      → settled label ≡ false
  not_settled kept label new =
      false_from_ne_true (settled label) (λ it. not_both (had label) new (kept.settles.had_them label it))

  -- the label is pending
  pub held_back : (next : List (ℕ × List ℕ)) (label : ℕ) (edit : Edit) → AreEditsOf arrivals edits records
      → IsListWith shows marks waiting arrivals edits records had settled → edit_at edits label ≡ Some edit
      → had label ≡ false
      → is_marked marks (needed_number arrivals edit) ≡ false → IsAdded waiting next (needed_number arrivals edit) label
      → IsListWithAfter shows marks next arrivals edits records had settled label 0
  held_back next label edit stand kept is new missing added =
      let (l, l_in, l_num, l_makes) = stand.makes label edit is in
      let needed = needed_number arrivals edit in
      let settles : IsSettled records (or_label had l.number) settled =
      settled_persists-waiting records had settled l (update_of arrivals edit) l_in l_makes
      (ap had l_num ∙ new) kept.settles
      (needed_marked stand kept.there label edit is ∙ missing) in
      record {
        settled = settled;
        kept = record {
          settles = subst (λ (k : ℕ). IsSettled records (or_label had k) settled) l_num settles;
          shown = kept.shown;
          there = kept.there;
          waiting_labels = record {
            waits = λ n d d_is had_it fails. elim (passes_or_is had label n had_it) [
              | inl old ↦
                  added_there next needed label (needed_number arrivals d) n added
                  (kept.waiting_labels.waits n d d_is old fails)
              | inr it ↦
                  let same : edit ≡ d = same_Some edit d (sym is ∙ sym (ap (edit_at edits) it) ∙ d_is) in
                  subst (λ (e : Edit). Contains (labels_under next (needed_number arrivals e)) n) same
                  (subst (λ ls. Contains ls n) (sym added.added)
                  (Contains-append_right (labels_under waiting needed) (label ∷ []) n (at_head label [] n (sym it))))
            ];
            only = λ number n there. elim (from_added next needed label number n added there) [
              | inl old ↦
                  let (d, d_is, d_needs, was_had, waits) = kept.waiting_labels.only number n old in
                  (d, d_is, d_needs, still_passes had label n was_had, waits)
              | inr (here, it) ↦ (
                edit,
                sym (ap (edit_at edits) it) ∙ is,
                sym here,
                it_passes had label n (sym it),
                sym (ap settled it) ∙ not_settled kept label new,
              )
            ];
            once = λ number. elim (cases_eq number needed) [
              | inl here ↦
                  subst (λ (k : ℕ). HasNoDuplicates (labels_under next k)) (sym here)
                  (subst HasNoDuplicates (sym added.added) (none_twice-append (labels_under waiting needed) (label ∷ [])
                  (kept.waiting_labels.once needed) (none_twice-one label)
                  (λ n n_there n_is.
                  let (d, d_is, d_needs, was_had, waits) = kept.waiting_labels.only needed n n_there in
                  elim (head_or_behind label [] n n_is) [
                    | inl it ↦ not_both (had n) (sym (ap had it) ∙ new) was_had
                    | inr none ↦ none_there n none
                  ])))
              | inr other ↦ subst HasNoDuplicates (sym (added.others number other)) (kept.waiting_labels.once number)
            ];
          };
        };
        count = omega arith;
      }
