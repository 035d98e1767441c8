-- Lemmas on one label more, of any operation: what the conditions of the earlier labels require stays the same.
use Rattle.std.proofs.Common.{◌≡◌, ℕ, ◌<◌, List, [], ◌∷◌, Some, sym, ap, ◌∙◌, subst, inl, inr, arith}
use Rattle.std.specs.Prelude.{◌⊎◌, ◌==◌, Contains}
use Rattle.std.specs.Option.{option_map_or}
use Rattle.std.proofs.lemmas.Bool.{cases_lt, eqb-true}
use Rattle.std.proofs.lemmas.Option.{none-some}
use Rattle.ra_labels.specs.declared.label.Label.{Label}
use Rattle.ra_labels.specs.Records.{Records, label_count, labels_of, label_at}
use Rattle.ra_labels.specs.Visibility.{sees}
use Rattle.ra_labels.specs.Places.{issuer_of}
use Rattle.ra_labels.specs.HistorySoFar.{NextOperation, operate}
use Rattle.ra_theorems.proofs.LabelNumbers.{label_at-append, no_label_there}
use Rattle.ra_theorems.proofs.TheoremIndex.{sees_persists, delivered_are_updates-there}
use Rattle.ra_precedence.specs.Conditions.{Condition}
use Rattle.ra_some_order.specs.VisibleUpdates.{visible_labels}
use Rattle.ra_some_order.specs.UpdateConditions.{read_conditions}
use Rattle.ra_some_order.specs.PlainConditions.{IsPossibleRead}
use Rattle.ra_some_order.specs.LabelOrders.{Narrows}
use Rattle.ra_some_order.proofs.TheoremIndex.{conditions_name_updates-before, conditions_name_updates-after}
use Rattle.ra_some_order.proofs.NewLabels.{visible_stays}
use Rattle.ra_some_order.proofs.UpdateOrders.{found_there}
use Rattle.ra_any_order.specs.Requirements.{IsFollowedBy, IsInTurn, Requires, Turn, Answer, AreConditionsBelow}
use Rattle.ra_any_order.proofs.LabelConditions.{full_there}

module _ (next : NextOperation) (before : Records) where
  abbrev now : Records
  now = operate next ∷ before

  abbrev count : ℕ
  count = label_count before

  same_label : (n : ℕ) → n < count → label_at now n ≡ label_at before n
  same_label n low = label_at-append (operate next ∷ []) before n low

  same_issuer : (n : ℕ) → n < count → issuer_of now n ≡ issuer_of before n
  same_issuer n low = ap (λ o. option_map_or (λ (l : Label). l.replica) o 0) (same_label n low)

  same_seen : (n k : ℕ) → n < count → sees now n k ≡ sees before n k
  same_seen n k low = sees_persists (operate next ∷ []) before n k low

  same_visible : (n : ℕ) → n < count → visible_labels now n ≡ visible_labels before n
  same_visible n low = visible_stays (operate next ∷ []) before n low

  still_followed : (order : List ℕ) (k n : ℕ) → n < count → IsFollowedBy before order k n → IsFollowedBy now order k n
  still_followed order k n low (m, later, less, same, stands) = (
    m,
    later,
    less,
    same_issuer k (omega (arith, low, later, less)) ∙ same ∙ sym (same_issuer m (omega (arith, low, less))),
    stands,
  )

  -- what a condition of a read names are labels that there are
  side_below : (n : ℕ) (label : Label) → label_at before n ≡ Some label → (full : Condition)
      → Contains (read_conditions (visible_labels before n) label.op) full → (k : ℕ)
      → Contains full.before k ⊎ Contains full.after k → k < count
  side_below n label at full asked k side =
      let (here, numbered) = found_there (λ (l : Label). l.number == n) (labels_of before) label at in
      let among = full_there before label here full
      (subst (λ i. Contains (read_conditions (visible_labels before i) label.op) full)
      (sym (eqb-true label.number n numbered)) asked) in
      delivered_are_updates-there before k (elim side [
        | inl first ↦ conditions_name_updates-before before full k among first
        | inr second ↦ conditions_name_updates-after before full k among second
      ])

  still_narrows : (n : ℕ) (label : Label) → label_at before n ≡ Some label → (full condition : Condition)
      → Contains (read_conditions (visible_labels before n) label.op) full → Narrows before full condition
      → Narrows now full condition
  still_narrows n label at full condition asked narrows = record {
    before = narrows.before;
    after = narrows.after;
    kept =
        λ k side.
        let (m, its, later, same) = narrows.kept k side in
        let low = side_below n label at full asked m (elim its [
          | inl first ↦ inl (narrows.before m first)
          | inr second ↦ inr (narrows.after m second)
        ]) in
        (m, its, later, same_issuer k (omega (arith, low, later)) ∙ same ∙ sym (same_issuer m low));
  }

  still_in_turn : (order : List ℕ) (n : ℕ) → n < count → IsInTurn before order n → IsInTurn now order n
  still_in_turn order n low turn = record {
    seen = λ k seen. still_followed order k n low (turn.seen k (sym (same_seen n k low) ∙ seen));
    previous =
        λ k less same. still_followed order k n low
        (turn.previous k less (sym (same_issuer k (omega (arith, low, less))) ∙ same ∙ same_issuer n low));
    read =
        λ label at full asked.
        let was = sym (same_label n low) ∙ at in
        let asked_then = subst (λ visible. Contains (read_conditions visible label.op) full) (same_visible n low) asked in
        let (condition, narrows, met) = turn.read label was full asked_then in
        (condition, still_narrows n label was full condition asked_then narrows, met);
  }

  still_requires : (n : ℕ) (condition : Condition) (b : ℕ) → Requires before n condition b → Requires now n condition b
  still_requires n condition b (Turn low after (inl seen)) =
      Turn (omega (arith, low)) after (inl (same_seen n b low ∙ seen))
  still_requires n condition b (Turn low after (inr (less, same))) =
      Turn (omega (arith, low)) after
      (inr (less, same_issuer b (omega (arith, low, less)) ∙ same ∙ sym (same_issuer n low)))
  still_requires n condition b (Answer label full at asked narrows) =
      let low = label_there n label at in
      Answer label full (same_label n low ∙ at)
      (subst (λ visible. Contains (read_conditions visible label.op) full) (sym (same_visible n low)) asked)
      (still_narrows n label at full condition asked narrows)
    where
      label_there : (m : ℕ) (it : Label) → label_at before m ≡ Some it → m < count
      label_there m it is = elim (cases_lt m count) [
        | inl low ↦ low
        | inr high ↦ absurd (none-some it (sym (no_label_there before m high) ∙ is))
      ]

  pub conditions_still : (conditions : List Condition) → AreConditionsBelow before count conditions
      → AreConditionsBelow now count conditions
  conditions_still conditions are = record {
    in_turn = λ n low order meets. still_in_turn order n low (are.in_turn n low order meets);
    possible =
        λ n low label at. subst (λ visible. IsPossibleRead visible label.op) (sym (same_visible n low))
        (are.possible n low label (sym (same_label n low) ∙ at));
    required =
        λ condition among b first.
        let (n, requires) = are.required condition among b first in (n, still_requires n condition b requires);
  }
