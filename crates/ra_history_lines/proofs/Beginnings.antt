-- Lemmas on what bytes begin with, after a part of a line is appended.
use Rattle.std.proofs.Common.{◌≡◌, ℕ, List, ◌++◌, append_assoc, ap, ◌∙◌}
use Rattle.ra_history_lines.specs.Fields.{BeginsWith}

-- bytes that begin with the longer part begin with the shorter one
pub begun_by : (old front all more : List ℕ) → front ≡ old ++ more → BeginsWith front all → BeginsWith old all
begun_by old front all more is begins =
    (more ++ begins.0, begins.1 ∙ ap (λ (xs : List ℕ). xs ++ begins.0) is ∙ append_assoc old more begins.0)
