use Rattle.std.specs.Prelude.{◌≡◌, true, false, get_or, take, Contains}
use Rattle.ra_precedence.specs.declared.reasons.Held.{Held}
use Rattle.ra_precedence.proofs.certificates.are_about.Given as goal

abbrev pub invariant-loop-held : goal.invariant-loop-held
invariant-loop-held l = (held : Held) → Contains (take l.held-index l.reasons) held
    → get_or l.marks.items held.label false ≡ true
