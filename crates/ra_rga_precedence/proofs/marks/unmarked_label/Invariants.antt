use Rattle.std.proofs.Common.{◌≡◌, ◌<◌, ℕ, true, false, get_or}
use Rattle.ra_rga_precedence.proofs.marks.unmarked_label.Given as goal

abbrev pub invariant-loop-label : goal.invariant-loop-label
invariant-loop-label l = (i : ℕ) → i < l.label-index → get_or l.marks (get_or l.labels i 0) false ≡ true
