-- Lemmas on labels whose ranks rise, and on inserting one more.
use Rattle.std.proofs.Common.{◌≡◌, ℕ, zero, suc, ◌+◌, ◌-◌, true, false, List, [], ◌∷◌, ◌++◌, length, get_or, ap, ◌∙◌, inl, inr, arith, length-append}
use Rattle.std.specs.List.{AllByRecursion, insert}
use Rattle.std.specs.List.Sorted.{IsPartitionedBy}
use Rattle.std.specs.Ordering.{is_lt}
use Rattle.std.proofs.Math.Seq.{get_or-append_right}
use Rattle.std.proofs.lemmas.Bool.{cases_lt, not-true, not-false, not_from_false}
use Rattle.std.proofs.lemmas.List.{get_or_append_left}
use Rattle.ra_labels.specs.declared.label.Stamp.{Stamp}
use Rattle.ra_labels.specs.NamedOrder.{stamp_cmp}
use Rattle.ra_time_order.specs.declared.entry.Entry.{Entry}
use Rattle.ra_time_order.specs.Positions.{not_above, IsPositionOf}
use Rattle.ra_time_order.specs.Stamps.{AtMost}
use Rattle.ra_time_order.specs.Sorted.{Rise, UpTo, From}
use Rattle.ra_time_order.proofs.Ranks.{at_most_from, at_most_below, at_most_through, not_below}
use Rattle.ra_time_order.proofs.Each.{each_right, each_at, each_from, each_insert}

pub under_from : (rank : Stamp) (entry : Entry) → not_above rank entry ≡ true → AtMost entry.rank rank
under_from rank entry passes = at_most_from rank entry.rank (not-true (is_lt (stamp_cmp rank entry.rank)) passes)

pub under_to : (rank : Stamp) (entry : Entry) → AtMost entry.rank rank → not_above rank entry ≡ true
under_to rank entry most = not_from_false (is_lt (stamp_cmp rank entry.rank)) (not_below rank entry.rank most)

over_from : (rank : Stamp) (entry : Entry) → not_above rank entry ≡ false → AtMost rank entry.rank
over_from rank entry fails = at_most_below rank entry.rank (not-false (is_lt (stamp_cmp rank entry.rank)) fails)

-- each rank partitions rising ranks
pub rise_partitioned : (rank : Stamp) (xs : List Entry) → Rise xs → IsPartitionedBy (not_above rank) xs
rise_partitioned rank [] rise i j d before there passes = absurd (omega arith)
rise_partitioned rank (x ∷ xs) rise zero zero d before there passes = passes
rise_partitioned rank (x ∷ xs) rise zero (suc j) d before there passes =
    let later = each_at (From x.rank) xs j d rise.0 (omega arith) in
    under_to rank x (at_most_through x.rank (get_or xs j d).rank rank later (under_from rank (get_or xs j d) passes))
rise_partitioned rank (x ∷ xs) rise (suc i) zero d before there passes = absurd (omega arith)
rise_partitioned rank (x ∷ xs) rise (suc i) (suc j) d before there passes =
    rise_partitioned rank xs rise.1 i j d (omega arith) (omega arith) passes

-- one more label at its position
pub rise_insert : (xs : List Entry) (p : ℕ) (e : Entry) → Rise xs → IsPositionOf e.rank xs p → Rise (insert xs p e)
rise_insert [] zero e rise is = (tt, tt)
rise_insert [] (suc p) e rise is = (tt, tt)
rise_insert (x ∷ xs) zero e rise is = (
  each_from (From e.rank) (x ∷ xs) (λ k d there. over_from e.rank (get_or (x ∷ xs) k d)
      (is.split.1 k d (omega arith) there)),
  rise,
)
rise_insert (x ∷ xs) (suc p) e rise is =
    let rest : IsPositionOf e.rank xs p = record {
      among = omega (arith, is.among);
      split = (
        (λ k d low high. is.split.0 (suc k) d (omega arith) (omega arith)),
        (λ k d low high. is.split.1 (suc k) d (omega arith) (omega arith)),
      );
    } in
    let first : AtMost x.rank e.rank = under_from e.rank x (is.split.0 0 x (omega arith) (omega arith)) in
    (each_insert (From x.rank) xs p e rise.0 first, rise_insert xs p e rise.1 rest)

-- the labels before an element, and those from it on
pub rise_round : (xs : List Entry) (y : Entry) (ys : List Entry) → Rise (xs ++ y ∷ ys)
    → AllByRecursion (UpTo y.rank) xs × AllByRecursion (From y.rank) ys
rise_round [] y ys rise = (tt, rise.0)
rise_round (x ∷ xs) y ys rise =
    let rest = rise_round xs y ys rise.1 in
    (((each_right (From x.rank) xs (y ∷ ys) rise.0).0, rest.0), rest.1)

-- a position in the first of two lists, or in the second
pub position_left : (rank : Stamp) (xs ys : List Entry) (p : ℕ) → IsPositionOf rank xs p
    → AllByRecursion (λ later. not_above rank later ≡ false) ys → IsPositionOf rank (xs ++ ys) p
position_left rank xs ys p is over = record {
  among = omega (arith, is.among, length-append xs ys);
  split = (
    (λ k d low high. ap (not_above rank) (get_or_append_left xs ys d k (omega (arith, high, is.among)))
        ∙ is.split.0 k d low high),
    (λ k d low high. elim (cases_lt k (length xs)) [
      | inl first ↦ ap (not_above rank) (get_or_append_left xs ys d k first) ∙ is.split.1 k d low first
      | inr then ↦
          ap (not_above rank) (get_or-append_right xs ys k d then)
          ∙ each_at (λ (later : Entry). not_above rank later ≡ false) ys (k - length xs) d over
          (omega (arith, high, then, length-append xs ys))
    ]),
  );
}

pub position_right : (rank : Stamp) (xs ys : List Entry) (p : ℕ)
    → AllByRecursion (λ earlier. not_above rank earlier ≡ true) xs → IsPositionOf rank ys p
    → IsPositionOf rank (xs ++ ys) (length xs + p)
position_right rank xs ys p under is = record {
  among = omega (arith, is.among, length-append xs ys);
  split = (
    (λ k d low high. elim (cases_lt k (length xs)) [
      | inl first ↦
          ap (not_above rank) (get_or_append_left xs ys d k first)
          ∙ each_at (λ (earlier : Entry). not_above rank earlier ≡ true) xs k d under first
      | inr then ↦
          ap (not_above rank) (get_or-append_right xs ys k d then)
          ∙ is.split.0 (k - length xs) d (omega arith) (omega (arith, high, then))
    ]),
    (λ k d low high.
        ap (not_above rank) (get_or-append_right xs ys k d (omega (arith, low)))
        ∙ is.split.1 (k - length xs) d (omega (arith, low)) (omega (arith, low, high, length-append xs ys))),
  );
}
