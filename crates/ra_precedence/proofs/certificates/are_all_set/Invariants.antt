use Rattle.std.specs.Prelude.{◌≡◌, ◌<◌, ℕ, true, false, get_or}
use Rattle.ra_precedence.proofs.certificates.are_all_set.Given as goal

abbrev pub invariant-loop-mark : goal.invariant-loop-mark
invariant-loop-mark l = (i : ℕ) → i < l.mark-index → get_or l.marks i false ≡ true
