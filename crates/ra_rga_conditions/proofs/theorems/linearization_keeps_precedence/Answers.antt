use Rattle.ra_rga_conditions.proofs.TheoremIndex.{linearization_keeps_precedence-precedence, linearization_keeps_precedence-once}
use Rattle.ra_rga_conditions.proofs.theorems.linearization_keeps_precedence.Goals as goal

pub returns-clause-precedence : goal.returns-clause-precedence
returns-clause-precedence c = λ records sequence m n linearizes first.
    linearization_keeps_precedence-precedence records sequence linearizes m n first

pub returns-clause-once : goal.returns-clause-once
returns-clause-once c = λ records sequence m n x linearizes first second.
    linearization_keeps_precedence-once records sequence linearizes m n x first second
