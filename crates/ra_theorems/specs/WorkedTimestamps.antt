-- Worked examples of a register and of an LWW set, named for what they show.
use Rattle.std.specs.Prelude.{ℕ, List, [], ◌∷◌, map, Some, None}
use Rattle.ra_labels.specs.declared.kind.Kind.TheVariants.{Register, LwwSet}
use Rattle.ra_labels.specs.declared.operation.Op.TheVariants.{Inc, Write, Last, LwwAdd, LwwRemove, LwwRead}
use Rattle.ra_labels.specs.declared.command.Command.{Command}
use Rattle.ra_labels.specs.declared.command.Command.TheVariants.{Operate, Deliver, Verdict}
use Rattle.ra_labels.specs.declared.reply.Reply.{Reply}
use Rattle.ra_labels.specs.Records.{Records}
use Rattle.ra_labels.specs.NamedOrder.{named_labels}
use Rattle.ra_labels.specs.Answer.{answers_to, records_after_all}

-- `a write 7 @5`; `b write 9 @3`; `c got 0`; `c got 1`; `c read VALUE`: the later write has the lower stamp
abbrev pub a_late_stamp_read : ℕ → List Command
a_late_stamp_read value =
    Operate 0 (Write 7) (Some 5) ∷ Operate 1 (Write 9) (Some 3) ∷ Deliver 2 0 ∷ Deliver 2 1
    ∷ Operate 2 (Last (Some value)) None ∷ []

-- `b write 9 @5`; `a write 7 @5`; `c got 0`; `c got 1`; `c read VALUE`: b's write comes after a's in the order
abbrev pub equal_clocks_read : ℕ → List Command
equal_clocks_read value =
    Operate 1 (Write 9) (Some 5) ∷ Operate 0 (Write 7) (Some 5) ∷ Deliver 2 0 ∷ Deliver 2 1
    ∷ Operate 2 (Last (Some value)) None ∷ []

-- `a write 7 @5`; `b got 0`; `b write 9 @CLOCK`; `verdict`
abbrev pub written_after_one_seen : ℕ → List Command
written_after_one_seen clock =
    Operate 0 (Write 7) (Some 5) ∷ Deliver 1 0 ∷ Operate 1 (Write 9) (Some clock) ∷ Verdict ∷ []

-- `a write 7 @5`; `a write 8 @4`; `a write 9 @5`
abbrev pub clocks_that_fall : List Command
clocks_that_fall =
    Operate 0 (Write 7) (Some 5) ∷ Operate 0 (Write 8) (Some 4) ∷ Operate 0 (Write 9) (Some 5) ∷ []

-- the records after the first two of these commands, newest first
abbrev pub records_that_fall : Records
records_that_fall = Operate 0 (Write 8) (Some 4) ∷ Operate 0 (Write 7) (Some 5) ∷ []

-- `a write 7 @5`; `a write 8 @5`; `b write 8 @5`; `verdict`
abbrev pub a_stamp_taken : List Command
a_stamp_taken =
    Operate 0 (Write 7) (Some 5) ∷ Operate 0 (Write 8) (Some 5) ∷ Operate 1 (Write 8) (Some 5) ∷ Verdict ∷ []

-- `d read none`; `a inc`; `a read 4,4`; `a write 7`; `a write 7 @0`; `a read none @1`; `a read none`; `b got 0`;
-- `b got 1`; `a write 7 @1`; `a got 1`; `verdict`, with three replicas
abbrev pub each_refusal_of_a_register : List Command
each_refusal_of_a_register =
    Operate 3 (Last None) None ∷ Operate 0 Inc None ∷ Operate 0 (LwwRead (4 ∷ 4 ∷ [])) None
    ∷ Operate 0 (Write 7) None ∷ Operate 0 (Write 7) (Some 0) ∷ Operate 0 (Last None) (Some 1)
    ∷ Operate 0 (Last None) None ∷ Deliver 1 0 ∷ Deliver 1 1 ∷ Operate 0 (Write 7) (Some 1) ∷ Deliver 0 1
    ∷ Verdict ∷ []

-- each rejection of an operation of an LWW set, the earlier one where two reasons apply
abbrev pub each_refusal_of_a_set : List Command
each_refusal_of_a_set =
    Operate 3 Inc (Some 0) ∷ Operate 0 Inc (Some 1) ∷ Operate 0 (LwwRead (4 ∷ 4 ∷ [])) (Some 1)
    ∷ Operate 0 (LwwRead (5 ∷ 4 ∷ [])) None ∷ Operate 0 (LwwRead []) (Some 0) ∷ Operate 0 (LwwRead []) None
    ∷ Operate 0 (LwwAdd 4) None ∷ Operate 0 (LwwRemove 4) (Some 0) ∷ Operate 0 (LwwAdd 4) (Some 1)
    ∷ Operate 0 (LwwRemove 4) (Some 1) ∷ Operate 1 (LwwAdd 4) (Some 1) ∷ Operate 0 (LwwRead (4 ∷ [])) None ∷ []

-- `a add 4 @2`; `b remove 4 @1`; `b remove 9 @3`; `c got 0`; `c got 1`; `c read LIST`; `verdict`: the removal of 4 has
-- a lower stamp than its addition, and 9 is not present when it is removed
abbrev pub removed_with_an_earlier_stamp : List ℕ → List Command
removed_with_an_earlier_stamp list =
    Operate 0 (LwwAdd 4) (Some 2) ∷ Operate 1 (LwwRemove 4) (Some 1) ∷ Operate 1 (LwwRemove 9) (Some 3)
    ∷ Deliver 2 0 ∷ Deliver 2 1 ∷ Operate 2 (LwwRead list) None ∷ Verdict ∷ []

-- `a add 9 @1`; `a add 4 @2`; `a read 4,9`; `a remove 9 @3`; `a add 4 @4`; `a read LIST`
abbrev pub put_in_and_taken_out : List ℕ → List Command
put_in_and_taken_out list =
    Operate 0 (LwwAdd 9) (Some 1) ∷ Operate 0 (LwwAdd 4) (Some 2) ∷ Operate 0 (LwwRead (4 ∷ 9 ∷ [])) None
    ∷ Operate 0 (LwwRemove 9) (Some 3) ∷ Operate 0 (LwwAdd 4) (Some 4) ∷ Operate 0 (LwwRead list) None ∷ []

-- the answers of three replicas, from the beginning
abbrev pub answers_of_register : List Command → List Reply
answers_of_register commands = answers_to Register 3 [] commands

abbrev pub answers_of_set : List Command → List Reply
answers_of_set commands = answers_to LwwSet 3 [] commands

-- the labels' numbers after these commands, in the named order
abbrev pub register_order : List Command → List ℕ
register_order commands = map (λ label. label.number) (named_labels Register (records_after_all Register 3 [] commands))

abbrev pub set_order : List Command → List ℕ
set_order commands = map (λ label. label.number) (named_labels LwwSet (records_after_all LwwSet 3 [] commands))
