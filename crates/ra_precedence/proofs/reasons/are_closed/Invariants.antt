use Rattle.std.specs.Prelude.{◌≡◌, ℕ, true, false, get_or, take, Contains}
use Rattle.ra_precedence.specs.declared.reasons.Held.{Held}
use Rattle.ra_precedence.proofs.reasons.are_closed.Given as goal

abbrev pub invariant-loop-held : goal.invariant-loop-held
invariant-loop-held l = (held : Held) → Contains (take l.held-index l.reasons) held
    → (c : ℕ) → Contains held.after.items c → get_or l.marks.items c false ≡ true

abbrev pub invariant-loop-label : goal.invariant-loop-label
invariant-loop-label l = (c : ℕ) → Contains (take l.label-index l.label-items) c → get_or l.marks.items c false ≡ true
