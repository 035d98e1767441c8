-- Lemmas on label numbers.
use Rattle.std.proofs.Common.{◌≡◌, ℕ, ◌<◌, ◌≤◌, eqb, [], ◌∷◌, ◌++◌, Some, None, refl, ap, ◌∙◌, inl, inr, arith, add-one}
use Rattle.std.specs.Prelude.{map}
use Rattle.std.proofs.lemmas.Bool.{cases_eq, eq-eqb, ne_eqb, cond-true, cond-false}
use Rattle.ra_labels.specs.declared.label.Label.{Label}
use Rattle.ra_labels.specs.declared.command.Command.TheVariants.{Operate}
use Rattle.ra_labels.specs.Records.{Records, label_count, labels_of, label_at, next_label, records_to}
use Rattle.ra_labels.specs.TheoremTerms.{numbers_below}
use Rattle.ra_labels.specs.HistorySoFar.{NextOperation, operate, label_of}

-- the labels are numbered from the number of labels minus one down to 0
pub numbers_of_labels : (records : Records) → map (λ label. label.number) (labels_of records)
    ≡ numbers_below (label_count records)
numbers_of_labels [] = refl
numbers_of_labels (Operate by op clock ∷ before) =
    rw (add-one (label_count before)) (ap (λ ns. label_count before ∷ ns) (numbers_of_labels before))
numbers_of_labels (_ ∷ before) = numbers_of_labels before

-- the number of labels does not decrease in later records
pub label_count-append : (later records : Records) → label_count records ≤ label_count (later ++ records)
label_count-append [] records = omega arith
label_count-append (Operate by op clock ∷ later) records = let rest = label_count-append later records in omega arith
label_count-append (_ ∷ later) records = label_count-append later records

-- there is a label at each number below the number of labels
pub label_there : (records : Records) (n : ℕ) → n < label_count records
    → (label : Label) × (label_at records n ≡ Some label) × (label.number ≡ n)
label_there [] n below = absurd (omega arith)
label_there (Operate by op clock ∷ before) n below = elim (cases_eq (label_count before) n) [
  | inl is ↦ (next_label before by op clock, cond-true (eqb (label_count before) n) _ _ (eq-eqb _ _ is), is)
  | inr other ↦
      let older = label_there before n (omega arith) in
      (older.0, cond-false (eqb (label_count before) n) _ _ (ne_eqb _ _ other) ∙ older.1, older.2)
]
label_there (_ ∷ before) n below = label_there before n below

-- and none at or above it
pub no_label_there : (records : Records) (n : ℕ) → label_count records ≤ n → label_at records n ≡ None
no_label_there [] n above = refl
no_label_there (Operate by op clock ∷ before) n above =
    let other : label_count before ≡ n → ⊥ = λ is. absurd (omega arith) in
    cond-false (eqb (label_count before) n) _ _ (ne_eqb _ _ other) ∙ no_label_there before n (omega arith)
no_label_there (_ ∷ before) n above = no_label_there before n above

-- later records leave a label unchanged
pub label_at-append : (later records : Records) (n : ℕ) → n < label_count records
    → label_at (later ++ records) n ≡ label_at records n
label_at-append [] records n below = refl
label_at-append (Operate by op clock ∷ later) records n below =
    let grows = label_count-append later records in
    let other : label_count (later ++ records) ≡ n → ⊥ = λ is. absurd (omega arith) in
    cond-false (eqb (label_count (later ++ records)) n) _ _ (ne_eqb _ _ other) ∙ label_at-append later records n below
label_at-append (_ ∷ later) records n below = label_at-append later records n below

-- an operation is found as its label
pub label_at-operation : (later before : Records) (next : NextOperation)
    → label_at (later ++ operate next ∷ before) (label_count before) ≡ Some (label_of before next)
label_at-operation later before next =
    label_at-append later (operate next ∷ before) (label_count before) (omega arith)
    ∙ cond-true (eqb (label_count before) (label_count before)) _ _ (eq-eqb _ _ refl)

-- the records up to a label end with its operation
records_to-append : (later records : Records) (n : ℕ) → n < label_count records
    → records_to (later ++ records) n ≡ records_to records n
records_to-append [] records n below = refl
records_to-append (Operate by op clock ∷ later) records n below =
    let grows = label_count-append later records in
    let other : n ≡ label_count (later ++ records) → ⊥ = λ is. absurd (omega arith) in
    cond-false (eqb n (label_count (later ++ records))) _ _ (ne_eqb _ _ other) ∙ records_to-append later records n below
records_to-append (_ ∷ later) records n below = records_to-append later records n below

pub records_to-operation : (later before : Records) (next : NextOperation)
    → records_to (later ++ operate next ∷ before) (label_count before) ≡ operate next ∷ before
records_to-operation later before next =
    records_to-append later (operate next ∷ before) (label_count before) (omega arith)
    ∙ cond-true (eqb (label_count before) (label_count before)) _ _ (eq-eqb _ _ refl)

pub records_to-none : (records : Records) (n : ℕ) → label_count records ≤ n → records_to records n ≡ []
records_to-none [] n above = refl
records_to-none (Operate by op clock ∷ before) n above =
    let other : n ≡ label_count before → ⊥ = λ is. absurd (omega arith) in
    cond-false (eqb n (label_count before)) _ _ (ne_eqb _ _ other) ∙ records_to-none before n (omega arith)
records_to-none (_ ∷ before) n above = records_to-none before n above
