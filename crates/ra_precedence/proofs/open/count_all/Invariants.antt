use Rattle.std.proofs.Common.{◌≡◌, ◌+◌, ℕ, get_or, length, take}
use Rattle.ra_precedence.specs.Placing.{times}
use Rattle.ra_precedence.proofs.open.count_all.Given as goal

abbrev pub invariant-loop-label : goal.invariant-loop-label
invariant-loop-label l = record {
  each : (b : ℕ) → get_or l.numbers.items b 0 ≡ get_or l.fn.numbers.items b 0 + times b (take l.label-index l.labels);
  len : length l.numbers.items ≡ length l.fn.numbers.items;
}
