-- Worked examples: small histories of a register and of an LWW set, newest first. The replicas a to d are 0 to 3.
use Rattle.std.specs.Prelude.{ℕ, List, [], ◌∷◌, Some, None}
use Rattle.ra_labels.specs.declared.operation.Op.TheVariants.{Write, Last, LwwAdd, LwwRemove, LwwRead}
use Rattle.ra_labels.specs.declared.command.Command.TheVariants.{Operate, Deliver}
use Rattle.ra_labels.specs.Records.{Records}

-- `a write 7 @5`; `b got 0`; `b write 9 @4`; `b read VALUE`: the later write has the lower clock
abbrev pub overwritten : ℕ → Records
overwritten value =
    Operate 1 (Last (Some value)) None ∷ Operate 1 (Write 9) (Some 4) ∷ Deliver 1 0 ∷ Operate 0 (Write 7) (Some 5) ∷ []

-- `a write 7 @1`; `b got 0`; `b read none`
abbrev pub read_of_nothing : Records
read_of_nothing = Operate 1 (Last None) None ∷ Deliver 1 0 ∷ Operate 0 (Write 7) (Some 1) ∷ []

-- `a write 7 @1`; `b write 7 @2`; `c write 9 @3`; `a got 2`; `b got 2`; `d got 0`; `d got 1`; `d got 2`; `a read 9`;
-- `d read 7`: the last write is one of the two that d read
abbrev pub two_of_one_value : Records
two_of_one_value =
    Operate 3 (Last (Some 7)) None ∷ Operate 0 (Last (Some 9)) None ∷ Deliver 3 2 ∷ Deliver 3 1 ∷ Deliver 3 0
    ∷ Deliver 1 2 ∷ Deliver 0 2 ∷ Operate 2 (Write 9) (Some 3) ∷ Operate 1 (Write 7) (Some 2)
    ∷ Operate 0 (Write 7) (Some 1) ∷ []

-- and `b read 9`: no two of the three reads contradict each other
abbrev pub three_reads : Records
three_reads = Operate 1 (Last (Some 9)) None ∷ two_of_one_value

-- `a add 4 @1`; `a remove 5 @2`; `b add 5 @1`; `b remove 4 @2`; `c got 0`; `c got 1`; `c got 2`; `c got 3`;
-- `c read LIST`
abbrev pub crossed : List ℕ → Records
crossed list =
    Operate 2 (LwwRead list) None ∷ Deliver 2 3 ∷ Deliver 2 2 ∷ Deliver 2 1 ∷ Deliver 2 0
    ∷ Operate 1 (LwwRemove 4) (Some 2) ∷ Operate 1 (LwwAdd 5) (Some 1) ∷ Operate 0 (LwwRemove 5) (Some 2)
    ∷ Operate 0 (LwwAdd 4) (Some 1) ∷ []
