use Rattle.std.proofs.Common.{◌≡◌, ℕ, [], get_or, length}
use Rattle.std.specs.Prelude.{map}
use Rattle.ra_precedence.proofs.uses.Uses.empty.Given as goal

abbrev pub invariant-loop : goal.invariant-loop
invariant-loop l = record {
  empty : (c : ℕ) → get_or (map (λ list. list.items) l.lists.items) c [] ≡ [];
  len : length l.lists.items ≡ l.counter;
}
