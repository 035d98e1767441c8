-- The range of a counter's number.
use Rattle.std.specs.Prelude.{pos, neg_ℤ, ◌≤ℤ◌}
use Rattle.ra_labels.specs.Specification.{State, Number, Written, Members, Pairs, Listed, Listing, OfAny, OfMvRegister}
use Rattle.ra_seqspec.specs.declared.TheConstants.{FARTHEST_COUNT}

-- holds if a counter's number is from -FARTHEST_COUNT to FARTHEST_COUNT
abbrev pub IsInRange : State → Type 0
IsInRange (Number n) = (neg_ℤ (pos FARTHEST_COUNT) ≤ℤ n) × (n ≤ℤ pos FARTHEST_COUNT)
IsInRange (Written last) = Unit {0}
IsInRange (Members xs) = Unit {0}
IsInRange (Pairs pairs) = Unit {0}
IsInRange (Listed list) = Unit {0}
IsInRange (Listing list) = Unit {0}
IsInRange OfAny = Unit {0}
IsInRange OfMvRegister = Unit {0}
