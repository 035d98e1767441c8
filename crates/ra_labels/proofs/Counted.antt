-- Lemmas on the labels of records and their count.
use Rattle.std.proofs.Common.{◌≡◌, ◌+◌, ◌<◌, [], ◌∷◌, length, refl, arith}
use Rattle.std.specs.Prelude.{All}
use Rattle.std.proofs.lemmas.List.Elements.{All-nil, All-cons, All-weaker}
use Rattle.ra_labels.specs.declared.command.Command.TheVariants.{Operate, Deliver, Join, Verdict}
use Rattle.ra_labels.specs.Records.{Records, label_count, labels_of, next_label}

-- each label's number is less than the count of labels
pub numbers_below_count : (records : Records) → All (λ label. label.number < label_count records) (labels_of records)
numbers_below_count [] = All-nil (λ label. label.number < 0)
numbers_below_count (Operate by op clock ∷ before) =
    All-cons (λ label. label.number < label_count before + 1) (next_label before by op clock) (labels_of before)
    (omega arith)
    (All-weaker (λ label. label.number < label_count before) (λ label. label.number < label_count before + 1) (λ label below. omega arith) (labels_of before) (numbers_below_count before))
numbers_below_count (_ ∷ before) = numbers_below_count before

pub labels_counted : (records : Records) → length (labels_of records) ≡ label_count records
labels_counted [] = refl
labels_counted (Operate by op clock ∷ before) = omega (arith, labels_counted before)
labels_counted (Deliver to label ∷ before) = labels_counted before
labels_counted (Join replica from ∷ before) = labels_counted before
labels_counted (Verdict ∷ before) = labels_counted before
