use Rattle.std.specs.Prelude.{◌≡◌, ℕ, true, false, Some, get_or, slice_get, length}
use Rattle.ra_precedence.specs.declared.reasons.Held.{Held}
use Rattle.ra_precedence.specs.Reasons.{IsHeld}
use Rattle.ra_precedence.proofs.certificates.are_valid.Given as goal

abbrev pub invariant-loop-condition : goal.invariant-loop-condition
invariant-loop-condition l = record {
  len : length l.found.items ≡ length l.reasons;
  held : (i : ℕ) → get_or l.found.items i false ≡ true
      → (held : Held) × (slice_get l.reasons i ≡ Some held) × IsHeld l.conditions held;
}
