-- Lemmas on the cases in which a part must precede another one.
use Rattle.std.proofs.Common.{◌≡◌, ◌<◌, true, inl, inr}
use Rattle.std.specs.Prelude.{◌==◌, nat_lt, ◌||◌, is_some}
use Rattle.std.proofs.lemmas.Bool.{and_parts, and_from, or_cases, or_left, or_right, eqb-true, eq-eqb, ltb-true, lt-ltb}
use Rattle.ra_labels.specs.Records.{Records}
use Rattle.ra_labels.specs.Visibility.{sees}
use Rattle.ra_labels.specs.Rewriting.{Part, update_of}
use Rattle.ra_labels.specs.Linearization.{is_visible_to, is_earlier_at_replica, is_query_half_of, are_halves, must_precede}
use Rattle.ra_some_order.proofs.UpdateOrders.{is_update_part}

module _ (records : Records) where
  -- in which cases a part must precede another
  pub data MustPrecede (p q : Part) : Type 0 where
    Seen : is_update_part p ≡ true → sees records q.label.number p.label.number ≡ true → MustPrecede p q
    Earlier : p.label.replica ≡ q.label.replica → p.label.number < q.label.number → MustPrecede p q
    Halves : p.label.number ≡ q.label.number → are_halves p.half q.half ≡ true → MustPrecede p q

  pub must_cases : (p q : Part) → must_precede records p q ≡ true → MustPrecede p q
  must_cases p q must =
      elim (or_cases (is_visible_to records p q || is_earlier_at_replica p q) (is_query_half_of p q) must) [
        | inl first ↦ elim (or_cases (is_visible_to records p q) (is_earlier_at_replica p q) first) [
          | inl visible ↦
              let pair = and_parts (is_some (update_of p.act)) (sees records q.label.number p.label.number) visible in
              Seen pair.0 pair.1
          | inr earlier ↦
              let pair = and_parts (p.label.replica == q.label.replica)
              (nat_lt p.label.number q.label.number) earlier in
              Earlier (eqb-true p.label.replica q.label.replica pair.0)
              (ltb-true p.label.number q.label.number pair.1)
        ]
        | inr halves ↦
            let pair = and_parts (p.label.number == q.label.number) (are_halves p.half q.half) halves in
            Halves (eqb-true p.label.number q.label.number pair.0) pair.1
      ]

  pub seen_must : (p q : Part) → is_update_part p ≡ true → sees records q.label.number p.label.number ≡ true
      → must_precede records p q ≡ true
  seen_must p q p_updates seen =
      or_left (is_visible_to records p q || is_earlier_at_replica p q) (is_query_half_of p q)
      (or_left (is_visible_to records p q) (is_earlier_at_replica p q)
      (and_from (is_some (update_of p.act)) (sees records q.label.number p.label.number) p_updates seen))

  pub earlier_must : (p q : Part) → p.label.replica ≡ q.label.replica → p.label.number < q.label.number
      → must_precede records p q ≡ true
  earlier_must p q replica less =
      or_left (is_visible_to records p q || is_earlier_at_replica p q) (is_query_half_of p q)
      (or_right (is_visible_to records p q) (is_earlier_at_replica p q)
      (and_from (p.label.replica == q.label.replica) (nat_lt p.label.number q.label.number)
      (eq-eqb p.label.replica q.label.replica replica) (lt-ltb p.label.number q.label.number less)))
