-- Lemmas on what a label sees of earlier labels of its replica.
use Rattle.std.proofs.Common.{◌≡◌, ℕ, ◌<◌, true, [], ◌∷◌, sym, ap, ◌∙◌, inl, inr, arith}
use Rattle.std.specs.Prelude.{◌⊎◌, ◌==◌, ◌&&◌, Contains}
use Rattle.std.proofs.lemmas.Bool.{eq-eqb, ne_eqb, cond-true, cond-false, or_left, or_right, and_from}
use Rattle.std.proofs.lemmas.List.Elements.{All-contains}
use Rattle.ra_labels.specs.declared.operation.Op.{Op}
use Rattle.ra_labels.specs.declared.label.Label.{Label}
use Rattle.ra_labels.specs.declared.command.Command.TheVariants.{Operate, Deliver, Join, Verdict}
use Rattle.ra_labels.specs.Records.{Records, label_count, labels_of, next_label}
use Rattle.ra_labels.specs.Visibility.{is_update, is_update_at, has_delivered, sees}
use Rattle.ra_labels.proofs.Counted.{numbers_below_count}
use Rattle.ra_labels.proofs.Members.{head_or_behind, none_there}

-- holds if the label sees label m, or is the update with this number
abbrev pub Reaches : Records → Label → ℕ → Type 0
Reaches records label m = (sees records label.number m ≡ true) ⊎ ((is_update label.op ≡ true) × (label.number ≡ m))

label_below : (records : Records) (label : Label) → Contains (labels_of records) label
    → label.number < label_count records
label_below records label there =
    All-contains (λ (l : Label). l.number < label_count records) (labels_of records) label
    (numbers_below_count records) there

-- of an older label
reaches_older : (before : Records) (by : ℕ) (op : Op) (clock : _) (label : Label) (m : ℕ)
    → Contains (labels_of before) label → Reaches (Operate by op clock ∷ before) label m → Reaches before label m
reaches_older before by op clock label m there (inl seen) =
    let below = label_below before label there in
    inl (sym (cond-false (label.number == label_count before) (has_delivered before by m) (sees before label.number m)
    (ne_eqb label.number (label_count before) (λ is. absurd (omega (arith, below, is))))) ∙ seen)
reaches_older before by op clock label m there (inr itself) = inr itself

-- it was delivered to the label's replica
delivered_after : (records : Records) (label : Label) (m : ℕ) → Contains (labels_of records) label
    → Reaches records label m → has_delivered records label.replica m ≡ true
delivered_after [] label m there reaches = absurd (none_there label there)
delivered_after (Operate by op clock ∷ before) label m there reaches =
    let new = next_label before by op clock in
    elim (head_or_behind new (labels_of before) label there) [
      | inl here ↦
          let replica : by ≡ label.replica = ap (λ (l : Label). l.replica) here in
          let number : label_count before ≡ label.number = ap (λ (l : Label). l.number) here in
          elim reaches [
            | inl seen ↦
                or_right (by == label.replica && m == label_count before && is_update op)
                (has_delivered before label.replica m)
                (ap (λ r. has_delivered before r m) (sym replica)
                ∙ sym (cond-true (label.number == label_count before) (has_delivered before by m)
                (sees before label.number m) (eq-eqb label.number (label_count before) (sym number))) ∙ seen)
            | inr itself ↦
                or_left (by == label.replica && m == label_count before && is_update op)
                (has_delivered before label.replica m)
                (and_from (by == label.replica && m == label_count before) (is_update op)
                (and_from (by == label.replica) (m == label_count before) (eq-eqb by label.replica replica)
                (eq-eqb m (label_count before) (sym (number ∙ itself.1))))
                (ap (λ (l : Label). is_update l.op) here ∙ itself.0))
          ]
      | inr further ↦
          or_right (by == label.replica && m == label_count before && is_update op)
          (has_delivered before label.replica m)
          (delivered_after before label m further (reaches_older before by op clock label m further reaches))
    ]
delivered_after (Deliver to n ∷ before) label m there reaches =
    or_right (to == label.replica && m == n && is_update_at before m) (has_delivered before label.replica m)
    (delivered_after before label m there reaches)
delivered_after (Join joined from ∷ before) label m there reaches =
    or_right (joined == label.replica && has_delivered before from m) (has_delivered before label.replica m)
    (delivered_after before label m there reaches)
delivered_after (Verdict ∷ before) label m there reaches = delivered_after before label m there reaches

-- and a later label of the replica sees it
pub seen_after : (records : Records) (label later : Label) (m : ℕ) → Contains (labels_of records) label
    → Contains (labels_of records) later → label.replica ≡ later.replica → label.number < later.number
    → Reaches records label m → sees records later.number m ≡ true
seen_after [] label later m there later_there same less reaches = absurd (none_there label there)
seen_after (Operate by op clock ∷ before) label later m there later_there same less reaches =
    let new = next_label before by op clock in
    let now : Records = Operate by op clock ∷ before in
    let bound = label_below now later later_there in
    elim (head_or_behind new (labels_of before) label there) [
      | inl here ↦
          let number : label_count before ≡ label.number = ap (λ (l : Label). l.number) here in
          absurd (omega (arith, bound, number, less))
      | inr older ↦
          let reached = reaches_older before by op clock label m older reaches in
          elim (head_or_behind new (labels_of before) later later_there) [
            | inl here ↦
                let number : label_count before ≡ later.number = ap (λ (l : Label). l.number) here in
                let replica : by ≡ later.replica = ap (λ (l : Label). l.replica) here in
                cond-true (later.number == label_count before) (has_delivered before by m) (sees before later.number m)
                (eq-eqb later.number (label_count before) (sym number))
                ∙ ap (λ r. has_delivered before r m) (replica ∙ sym same)
                ∙ delivered_after before label m older reached
            | inr further ↦
                let below = label_below before later further in
                cond-false (later.number == label_count before) (has_delivered before by m)
                (sees before later.number m)
                (ne_eqb later.number (label_count before) (λ is. absurd (omega (arith, below, is))))
                ∙ seen_after before label later m older further same less reached
          ]
    ]
seen_after (Deliver to n ∷ before) label later m there later_there same less reaches =
    seen_after before label later m there later_there same less reaches
seen_after (Join joined from ∷ before) label later m there later_there same less reaches =
    seen_after before label later m there later_there same less reaches
seen_after (Verdict ∷ before) label later m there later_there same less reaches =
    seen_after before label later m there later_there same less reaches
