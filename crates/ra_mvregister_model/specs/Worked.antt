-- Worked examples: small histories of a multi-value register, newest first.
use Rattle.std.specs.Prelude.{ℕ, List, [], ◌∷◌, None}
use Rattle.ra_labels.specs.declared.operation.Op.TheVariants.{MvWrite, MvRead}
use Rattle.ra_labels.specs.declared.command.Command.{Command}
use Rattle.ra_labels.specs.declared.command.Command.TheVariants.{Operate, Deliver, Join}
use Rattle.ra_labels.specs.Records.{Records}

-- `a write v`, `a read list`, where a and b are the replicas 0 and 1
abbrev pub writes : ℕ → ℕ → Command
writes replica value = Operate replica (MvWrite value) None

abbrev pub reads : ℕ → List ℕ → Command
reads replica list = Operate replica (MvRead list) None

-- `a write 1`; `b write 2`; `a got 1`
abbrev pub two_writes : Records
two_writes = Deliver 0 1 ∷ writes 1 2 ∷ writes 0 1 ∷ []

-- and `a read 1,2`; `a write 3`; `a read 3`: the labels 2, 3 and 4
abbrev pub replaced_both : Records
replaced_both = reads 0 (3 ∷ []) ∷ writes 0 3 ∷ reads 0 (1 ∷ 2 ∷ []) ∷ two_writes

-- and `b got 0`; `b got 3`
abbrev pub received_both : Records
received_both = Deliver 1 3 ∷ Deliver 1 0 ∷ replaced_both

-- `a write 5`; `b write 5`; `a got 1`
abbrev pub equal_writes : Records
equal_writes = Deliver 0 1 ∷ writes 1 5 ∷ writes 0 5 ∷ []

-- `a write 1`; `b write 2`; `a got 1`; `join c a`; `c write 4`
abbrev pub joined_and_wrote : Records
joined_and_wrote = writes 2 4 ∷ Join 2 0 ∷ two_writes
