use Rattle.std.specs.Prelude.{◌≡◌, ◌⊎◌, ℕ, true, false, Some, get_or, slice_get, length}
use Rattle.ra_precedence.specs.declared.reasons.Held.{Held}
use Rattle.ra_precedence.specs.Certificates.{IsHeldBy}
use Rattle.ra_precedence.proofs.certificates.find_reasons.Given as goal

abbrev pub invariant-loop-label : goal.invariant-loop-label
invariant-loop-label l = record {
  len : length l.found.items ≡ length l.fn.found.items;
  held : (i : ℕ) → get_or l.found.items i false ≡ true → (get_or l.fn.found.items i false ≡ true)
      ⊎ ((held : Held) × (slice_get l.reasons i ≡ Some held) × IsHeldBy l.condition held);
}
