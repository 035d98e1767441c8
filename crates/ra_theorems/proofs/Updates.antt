-- Lemmas on the issuer of each update, and on its position among the issuer's updates.
use Rattle.std.proofs.Common.{◌≡◌, ℕ, ◌+◌, ◌<◌, ◌≤◌, true, false, eqb, [], ◌∷◌, ◌++◌, length, filter, Option, refl, sym, ap, ◌∙◌, subst, inl, inr, arith}
use Rattle.std.specs.Prelude.{◌⊎◌, ◌==◌, ◌&&◌}
use Rattle.std.specs.Option.{option_map_or}
use Rattle.std.proofs.lemmas.Bool.{false≢true, cases_lt, cases_Bool, eq-eqb, ne_eqb, eqb-true, cond-true, cond-false}
use Rattle.std.proofs.lemmas.Bool.{cond_both, or_left, or_right, and_parts, and_from}
use Rattle.ra_labels.specs.declared.operation.Op.{Op}
use Rattle.ra_labels.specs.declared.label.Label.{Label}
use Rattle.ra_labels.specs.declared.command.Command.TheVariants.{Operate, Deliver, Join, Verdict}
use Rattle.ra_labels.specs.Records.{Records, label_count, labels_of}
use Rattle.ra_labels.specs.Visibility.{is_update, is_update_at, has_delivered, sees}
use Rattle.ra_labels.specs.Places.{issuer_of, updates_issued, issue_position}
use Rattle.ra_labels.specs.TheoremTerms.{IsUpdateOf}
use Rattle.ra_labels.specs.HistorySoFar.{NextOperation, next_operation, operate}
use Rattle.ra_theorems.proofs.LabelNumbers.{label_count-append, label_at-append, label_at-operation}
use Rattle.ra_theorems.proofs.SeenLabels.{is_update_at-append, is_update_at-below, sees-append}

-- the newest operation
pub issuer_of-operation : (later before : Records) (next : NextOperation)
    → issuer_of (later ++ operate next ∷ before) (label_count before) ≡ next.by
issuer_of-operation later before next =
    ap (λ label. option_map_or (λ (l : Label). l.replica) label 0) (label_at-operation later before next)

issuer-newest : (before : Records) (by n : ℕ) (op : Op) (clock : Option ℕ) → n ≡ label_count before
    → issuer_of (Operate by op clock ∷ before) n ≡ by
issuer-newest before by n op clock here =
    ap (issuer_of (Operate by op clock ∷ before)) here ∙ issuer_of-operation [] before (next_operation by op clock)

update-newest : (before : Records) (by n : ℕ) (op : Op) (clock : Option ℕ) → n ≡ label_count before
    → is_update_at (Operate by op clock ∷ before) n ≡ is_update op
update-newest before by n op clock here =
    ap (is_update_at (Operate by op clock ∷ before)) here
    ∙ ap (λ label. option_map_or (λ (l : Label). is_update l.op) label false) (label_at-operation [] before (next_operation by op clock))

place-newest : (before : Records) (by n : ℕ) (op : Op) (clock : Option ℕ) → n ≡ label_count before
    → issue_position (Operate by op clock ∷ before) n ≡ updates_issued before by
place-newest before by n op clock here = cond-true (eqb n (label_count before)) _ _ (eq-eqb _ _ here)

-- later records do not change a label's issuer and position
issuer_of-append : (later records : Records) (n : ℕ) → n < label_count records
    → issuer_of (later ++ records) n ≡ issuer_of records n
issuer_of-append later records n below =
    ap (λ label. option_map_or (λ (l : Label). l.replica) label 0) (label_at-append later records n below)

place_of-append : (later records : Records) (n : ℕ) → n < label_count records
    → issue_position (later ++ records) n ≡ issue_position records n
place_of-append [] records n below = refl
place_of-append (Operate by op clock ∷ later) records n below =
    let grows = label_count-append later records in
    let other : n ≡ label_count (later ++ records) → ⊥ = λ is. absurd (omega arith) in
    cond-false (eqb n (label_count (later ++ records))) _ _ (ne_eqb _ _ other) ∙ place_of-append later records n below
place_of-append (_ ∷ later) records n below = place_of-append later records n below

pub place_of-operation : (later before : Records) (next : NextOperation)
    → issue_position (later ++ operate next ∷ before) (label_count before) ≡ updates_issued before next.by
place_of-operation later before next =
    place_of-append later (operate next ∷ before) (label_count before) (omega arith)
    ∙ place-newest before next.by (label_count before) next.op next.clock refl

-- the number of updates that a replica issued, after one more operation
pub updates-more : (before : Records) (by replica : ℕ) (op : Op) (clock : Option ℕ)
    → updates_issued before replica ≤ updates_issued (Operate by op clock ∷ before) replica
updates-more before by replica op clock =
    cond_both (by == replica && is_update op) (updates_issued before replica + 1) (updates_issued before replica)
    (λ count. updates_issued before replica ≤ count) (λ is. omega arith) (λ no. omega arith)

updates-one_more : (before : Records) (by replica : ℕ) (op : Op) (clock : Option ℕ) → by ≡ replica → is_update op ≡ true
    → updates_issued (Operate by op clock ∷ before) replica ≡ updates_issued before replica + 1
updates-one_more before by replica op clock same update =
    cond-true (by == replica && is_update op) _ _
    (and_from (by == replica) (is_update op) (eq-eqb by replica same) update)

-- it is the number of update labels of the replica
pub updates_of-counted : (records : Records) (replica : ℕ) → updates_issued records replica
    ≡ length (filter (λ label. label.replica == replica && is_update label.op) (labels_of records))
updates_of-counted [] replica = refl
updates_of-counted (Operate by op clock ∷ before) replica = elim (cases_Bool (by == replica && is_update op)) [
  | inl is ↦ rw (is) (omega (arith, updates_of-counted before replica))
  | inr foreign ↦ rw (foreign) (updates_of-counted before replica)
]
updates_of-counted (_ ∷ before) replica = updates_of-counted before replica

-- an update is the newest operation, or existed before
abbrev pub IsNewest : Records → ℕ → Op → ℕ → ℕ → Type 0
IsNewest before by op replica n = (n ≡ label_count before) × (is_update op ≡ true) × (by ≡ replica)

abbrev pub WasThere : Records → ℕ → ℕ → Type 0
WasThere before replica n = (n < label_count before) × IsUpdateOf before replica n

pub newest_or_older : (before : Records) (next : NextOperation) (replica n : ℕ)
    → IsUpdateOf (operate next ∷ before) replica n → IsNewest before next.by next.op replica n ⊎ WasThere before replica n
newest_or_older before next replica n is = elim (cases_lt n (label_count before)) [
  | inl below ↦
      inr (
        below,
        (
          sym (is_update_at-append (operate next ∷ []) before n below)
              ∙ is.0,
          sym (issuer_of-append (operate next ∷ []) before n below) ∙ is.1,
        ),
      )
  | inr above ↦
      let there = is_update_at-below (operate next ∷ before) n is.0 in
      let here : n ≡ label_count before = omega (arith, there) in
      inl (
        here,
        sym (update-newest before next.by n next.op next.clock here)
            ∙ is.0,
        sym (issuer-newest before next.by n next.op next.clock here) ∙ is.1,
      )
]

-- an update that existed before still exists
later_too : (before : Records) (next : NextOperation) (replica n : ℕ) → IsUpdateOf before replica n
    → IsUpdateOf (operate next ∷ before) replica n
later_too before next replica n is =
    let below = is_update_at-below before n is.0 in (
      is_update_at-append (operate next ∷ []) before n below
          ∙ is.0,
      issuer_of-append (operate next ∷ []) before n below ∙ is.1,
    )

pub place-older : (before : Records) (next : NextOperation) (n : ℕ) → n < label_count before
    → issue_position (operate next ∷ before) n ≡ issue_position before n
place-older before next n below = place_of-append (operate next ∷ []) before n below

pub place-here : (before : Records) (next : NextOperation) (replica n : ℕ)
    → IsNewest before next.by next.op replica n → issue_position (operate next ∷ before) n ≡ updates_issued before replica
place-here before next replica n new = place-newest before next.by n next.op next.clock new.0 ∙ ap (updates_issued before) new.2

-- an update's position is less than the number of its issuer's updates
pub place-below : (records : Records) (replica n : ℕ) → IsUpdateOf records replica n
    → issue_position records n < updates_issued records replica
place-below [] replica n is = absurd (false≢true is.0)
place-below (Operate by op clock ∷ before) replica n is = elim (newest_or_older before (next_operation by op clock) replica n is) [
  | inl new ↦ omega
      (arith, place-here before (next_operation by op clock) replica n new, updates-one_more before by replica op clock new.2 new.1)
  | inr old ↦
      omega (
        arith,
        place-older before (next_operation by op clock) n old.0,
        place-below before replica n old.1,
        updates-more before
            by replica op clock,
      )
]
place-below (_ ∷ before) replica n is = place-below before replica n is

-- no two updates of a replica have the same position
pub place-only : (records : Records) (replica n m : ℕ) → IsUpdateOf records replica n → IsUpdateOf records replica m
    → issue_position records n ≡ issue_position records m → n ≡ m
place-only [] replica n m is also same = absurd (false≢true is.0)
place-only (Operate by op clock ∷ before) replica n m is also same =
    elim (newest_or_older before (next_operation by op clock) replica n is) [
      | inl new ↦ elim (newest_or_older before (next_operation by op clock) replica m also) [
        | inl newer ↦ new.0 ∙ sym newer.0
        | inr older ↦
            absurd (omega (
              arith,
              same,
              place-here before (next_operation by op clock) replica n new,
              place-older before (next_operation by op clock) m older.0,
              place-below
                  before replica m older.1,
            ))
      ]
      | inr old ↦ elim (newest_or_older before (next_operation by op clock) replica m also) [
        | inl newer ↦
            absurd (omega (
              arith,
              same,
              place-here before (next_operation by op clock) replica m newer,
              place-older before (next_operation by op clock) n old.0,
              place-below
                  before replica n old.1,
            ))
        | inr older ↦ place-only before replica n m old.1 older.1
            (sym (place-older before (next_operation by op clock) n old.0) ∙ same ∙ place-older before (next_operation by op clock) m older.0)
      ]
    ]
place-only (_ ∷ before) replica n m is also same = place-only before replica n m is also same

-- each position below that number has an update
pub place-there : (records : Records) (replica k : ℕ) → k < updates_issued records replica
    → (n : ℕ) × IsUpdateOf records replica n × (issue_position records n ≡ k)
place-there [] replica k below = absurd (omega arith)
place-there (Operate by op clock ∷ before) replica k below = elim (cases_lt k (updates_issued before replica)) [
  | inl older ↦
      let known = place-there before replica k older in (
        known.0,
        later_too before (next_operation by op clock) replica known.0 known.1,
        place-older before (next_operation by op clock) known.0
            (is_update_at-below before known.0 known.1.0) ∙ known.2,
      )
  | inr above ↦ elim (cases_Bool (by == replica && is_update op)) [
    | inl is ↦
        let parts = and_parts (by == replica) (is_update op) is in
        let same = eqb-true by replica parts.0 in
        let here : k ≡ updates_issued before replica =
        omega (arith, updates-one_more before by replica op clock same parts.1) in
        let n = label_count before in (
          n,
          (
            update-newest before by n op clock refl ∙ parts.1,
            issuer-newest before by n op clock refl
                ∙ same,
          ),
          place-here before (next_operation by op clock) replica n (refl, parts.1, same) ∙ sym here,
        )
    | inr foreign ↦
        let kept : updates_issued (Operate by op clock ∷ before) replica ≡ updates_issued before replica =
        cond-false (by == replica && is_update op) _ _ foreign in
        absurd (omega (arith, kept))
  ]
]
place-there (_ ∷ before) replica k below = place-there before replica k below

-- a replica's own updates count as delivered to it
pub had-own : (records : Records) (replica n : ℕ) → IsUpdateOf records replica n → has_delivered records replica n ≡ true
had-own [] replica n is = absurd (false≢true is.0)
had-own (Operate by op clock ∷ before) replica n is = elim (newest_or_older before (next_operation by op clock) replica n is) [
  | inl new ↦
      let place = and_from (by == replica) (n == label_count before) (eq-eqb by replica new.2)
      (eq-eqb n (label_count before) new.0) in
      or_left _ (has_delivered before replica n) (and_from (by == replica && n == label_count before) (is_update op) place new.1)
  | inr old ↦ or_right _ (has_delivered before replica n) (had-own before replica n old.1)
]
had-own (Deliver to label ∷ before) replica n is = or_right _ (has_delivered before replica n) (had-own before replica n is)
had-own (Join joined from ∷ before) replica n is = or_right _ (has_delivered before replica n) (had-own before replica n is)
had-own (Verdict ∷ before) replica n is = had-own before replica n is

-- an update sees the updates of its issuer with smaller positions
pub sees-own : (records : Records) (replica n m : ℕ) → IsUpdateOf records replica n → IsUpdateOf records replica m
    → issue_position records m < issue_position records n → sees records n m ≡ true
sees-own [] replica n m is also before = absurd (false≢true is.0)
sees-own (Operate by op clock ∷ before) replica n m is also first =
    elim (newest_or_older before (next_operation by op clock) replica n is) [
      | inl new ↦ elim (newest_or_older before (next_operation by op clock) replica m also) [
        | inl newer ↦
            absurd (omega
            (arith, first, place-here before (next_operation by op clock) replica n new, place-here before (next_operation by op clock) replica m newer))
        | inr older ↦
            cond-true (eqb n (label_count before)) (has_delivered before by m) (sees before n m)
            (eq-eqb n (label_count before) new.0)
            ∙ subst (λ r. has_delivered before r m ≡ true) (sym new.2) (had-own before replica m older.1)
      ]
      | inr old ↦ elim (newest_or_older before (next_operation by op clock) replica m also) [
        | inl newer ↦
            absurd (omega (
              arith,
              first,
              place-here before (next_operation by op clock) replica m newer,
              place-older before (next_operation by op clock) n
                  old.0,
              place-below before replica n old.1,
            ))
        | inr older ↦
            sees-append (Operate by op clock ∷ []) before n m old.0
            ∙ sees-own before replica n m old.1 older.1
            (omega (arith, first, place-older before (next_operation by op clock) n old.0, place-older before (next_operation by op clock) m older.0))
      ]
    ]
sees-own (_ ∷ before) replica n m is also first = sees-own before replica n m is also first
