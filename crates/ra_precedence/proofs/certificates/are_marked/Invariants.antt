use Rattle.std.specs.Prelude.{◌≡◌, ℕ, true, false, get_or, take, Contains}
use Rattle.ra_precedence.proofs.certificates.are_marked.Given as goal

abbrev pub invariant-loop-label : goal.invariant-loop-label
invariant-loop-label l = (c : ℕ) → Contains (take l.label-index l.labels) c → get_or l.marks c false ≡ true
