-- Lemmas on lists with the same content, and on tests that agree.
use Rattle.std.proofs.Common.{◌≡◌, ◌≢◌, ℕ, Bool, List, ◌∷◌, Option, refl, sym, ap, ◌∙◌, subst, inl, inr}
use Rattle.std.specs.Prelude.{Contains}
use Rattle.std.proofs.lemmas.Bool.{cases_eq}
use Rattle.ra_labels.specs.declared.kind.Kind.TheVariants.{Rga}
use Rattle.ra_labels.specs.declared.label.Stamp.{Stamp}
use Rattle.ra_labels.specs.declared.command.Command.TheVariants.{Deliver, Join}
use Rattle.ra_labels.specs.Records.{Records}
use Rattle.ra_labels.specs.TheoremTerms.{HasNoDuplicates}
use Rattle.ra_labels.specs.Insertion.{updates_passing}
use Rattle.ra_labels.specs.Pending.{is_present_element, IsSettled}
use Rattle.ra_theorems.proofs.TheoremIndex.{settled_persists-delivery, settled_persists-join, settled_persists-alike, later_command_preserves_updates_passing-delivery, later_command_preserves_updates_passing-join}
use Rattle.ra_rga_elements.specs.ElementList.{Arrival, is_marked}
use Rattle.ra_rga_replica.specs.declared.edit.Edit.{Edit}
use Rattle.ra_rga_replica.specs.PendingLabels.{labels_under}
use Rattle.ra_rga_replica.specs.Edits.{element_at}
use Rattle.ra_rga_replica.specs.ReplicaList.{ReplicaList, is_shown_element, IsGreatestOf, IsListWith, IsListBy}
use Rattle.ra_rga_replica.specs.Cascade.{AreAlike}

-- what holds of a list holds of an equal one
pub kept_in : {arrivals : List Arrival} {edits : List (Option Edit)} {records : Records} {had settled : ℕ → Bool}
    (list next : ReplicaList) → next ≡ list → IsListWith (λ n. is_marked list.shown n) list.marks list.waiting arrivals edits records had
    settled
    → IsListWith (λ n. is_marked next.shown n) next.marks next.waiting arrivals edits records had settled
kept_in {arrivals = arrivals} {edits = edits} {records = records} {had = had} {settled = settled} list next is kept =
    subst (λ (l : ReplicaList). IsListWith (λ n. is_marked l.shown n) l.marks l.waiting arrivals edits records had settled) (sym is) kept

module _ {arrivals : List Arrival} {edits : List (Option Edit)} {records : Records} where
  -- a list with the same content represents the same labels
  pub list_alike : {had : ℕ → Bool} (list next : ReplicaList) → AreAlike list next
      → IsListBy list arrivals edits records had → IsListBy next arrivals edits records had
  list_alike {had = had} list next alike held = record {
    settled = held.settled;
    kept = record {
      settles = held.kept.settles;
      shown = record {
        shown = λ number known. alike.shown number ∙ held.kept.shown.shown number known;
        others = λ number beyond. alike.shown number ∙ held.kept.shown.others number beyond;
      };
      there = record {
        there = λ number known. alike.marks number ∙ held.kept.there.there number known;
        others = λ number beyond. alike.marks number ∙ held.kept.there.others number beyond;
      };
      waiting_labels = record {
        waits = λ n d d_is was_had fails. subst (λ ls. Contains ls n) (sym (alike.waiting _))
            (held.kept.waiting_labels.waits n d d_is was_had fails);
        only = λ number n found. held.kept.waiting_labels.only number n
            (subst (λ ls. Contains ls n) (alike.waiting number) found);
        once = λ number. subst HasNoDuplicates (sym (alike.waiting number)) (held.kept.waiting_labels.once number);
      };
    };
    greatest = subst (IsGreatestOf records had) (sym alike.greatest) held.greatest;
  }

  module _ {shows : ℕ → Bool} {marks : List Bool} {waiting : List (ℕ × List ℕ)} {had settled : ℕ → Bool} where
    -- tests that agree on the delivered labels
    pub kept_alike : (more : ℕ → Bool) → ((n : ℕ) → had n ≡ more n)
        → IsListWith shows marks waiting arrivals edits records had settled
        → IsListWith shows marks waiting arrivals edits records more settled
    kept_alike more same kept = record {
      settles = settled_persists-alike records had more settled settled same (λ n. refl) kept.settles;
      shown = kept.shown;
      there = kept.there;
      waiting_labels = record {
        waits = λ n d d_is was_had fails. kept.waiting_labels.waits n d d_is (same n ∙ was_had) fails;
        only = λ number n found.
            let (d, d_is, d_needs, was_had, waits) = kept.waiting_labels.only number n found in
            (d, d_is, d_needs, sym (same n) ∙ was_had, waits);
        once = kept.waiting_labels.once;
      };
    }

    -- later records in which the same labels are settled, with the same updates, preserve the invariant of these labels
    kept_left : (now : Records) → IsSettled now had settled
        → updates_passing Rga now settled ≡ updates_passing Rga records settled
        → IsListWith shows marks waiting arrivals edits records had settled
        → IsListWith shows marks waiting arrivals edits now had settled
    kept_left now settles same kept = record {
      settles = settles;
      shown = record {
        shown = λ number known. kept.shown.shown number known ∙ ap (is_shown_element (element_at arrivals number)) (sym same);
        others = kept.shown.others;
      };
      there = record {
        there = λ number known. kept.there.there number known ∙ ap (is_present_element (element_at arrivals number)) (sym same);
        others = kept.there.others;
      };
      waiting_labels = record {
        waits = kept.waiting_labels.waits;
        only = kept.waiting_labels.only;
        once = kept.waiting_labels.once;
      };
    }

    -- so does a delivery, and so does a join
    pub kept_delivered : (to m : ℕ) → IsListWith shows marks waiting arrivals edits records had settled
        → IsListWith shows marks waiting arrivals edits (Deliver to m ∷ records) had settled
    kept_delivered to m kept =
        kept_left (Deliver to m ∷ records) (settled_persists-delivery records to m had settled kept.settles)
        (later_command_preserves_updates_passing-delivery Rga records to m settled) kept

    pub kept_joined : (joined from : ℕ) → IsListWith shows marks waiting arrivals edits records had settled
        → IsListWith shows marks waiting arrivals edits (Join joined from ∷ records) had settled
    kept_joined joined from kept =
        kept_left (Join joined from ∷ records)
        (settled_persists-join records joined from had settled kept.settles)
        (later_command_preserves_updates_passing-join Rga records joined from settled) kept

pub greatest_joined : {records : Records} {greatest : Stamp} {had : ℕ → Bool} (joined from : ℕ)
    → IsGreatestOf records had greatest → IsGreatestOf (Join joined from ∷ records) had greatest
greatest_joined joined from top = record { above = top.above; own = top.own }

pub greatest_delivered : {records : Records} {greatest : Stamp} {had : ℕ → Bool} (to m : ℕ)
    → IsGreatestOf records had greatest → IsGreatestOf (Deliver to m ∷ records) had greatest
greatest_delivered to m top = record { above = top.above; own = top.own }

pub greatest_alike : {records : Records} {greatest : Stamp} {had : ℕ → Bool} (more : ℕ → Bool)
    → ((n : ℕ) → had n ≡ more n) → IsGreatestOf records had greatest → IsGreatestOf records more greatest
greatest_alike more same top = record {
  above = λ l t l_in was_had t_is. top.above l t l_in (same l.number ∙ was_had) t_is;
  own = elim top.own [
    | inl none ↦ inl none
    | inr (l, l_in, was_had, l_is) ↦ inr (l, l_in, sym (same l.number) ∙ was_had, l_is)
  ];
}

-- if no label was added, the pending labels are the same
pub unadded : (waiting next : List (ℕ × List ℕ)) (number : ℕ) → labels_under next number ≡ labels_under waiting number
    → ((other : ℕ) → other ≢ number → labels_under next other ≡ labels_under waiting other)
    → (k : ℕ) → labels_under next k ≡ labels_under waiting k
unadded waiting next number here others k = elim (cases_eq k number) [
  | inl is ↦ ap (labels_under next) is ∙ here ∙ sym (ap (labels_under waiting) is)
  | inr other ↦ others k other
]
