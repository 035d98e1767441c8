-- Worked examples of an RGA, named for what they show.
use Rattle.std.specs.Prelude.{ℕ, List, [], ◌∷◌, map, Some, None}
use Rattle.ra_labels.specs.declared.kind.Kind.TheVariants.{Rga}
use Rattle.ra_labels.specs.declared.operation.Op.TheVariants.{OrAdd, OrRead, After, RgaRemove, RgaRead}
use Rattle.ra_labels.specs.declared.command.Command.{Command}
use Rattle.ra_labels.specs.declared.command.Command.TheVariants.{Operate, Deliver, Verdict}
use Rattle.ra_labels.specs.declared.reply.Reply.{Reply}
use Rattle.ra_labels.specs.NamedOrder.{named_labels}
use Rattle.ra_labels.specs.Answer.{answers_to, records_after_all}

-- `a after 0 1 @1`; `b got 0`; `a after 0 2 @3`; `b after 0 3 @2`; `c got 0`; `c got 1`; `c got 2`; `c read LIST`:
-- three elements inserted after the root
abbrev pub three_behind_one : List ℕ → List Command
three_behind_one list =
    Operate 0 (After 0 1) (Some 1) ∷ Deliver 1 0 ∷ Operate 0 (After 0 2) (Some 3) ∷ Operate 1 (After 0 3) (Some 2)
    ∷ Deliver 2 0 ∷ Deliver 2 1 ∷ Deliver 2 2 ∷ Operate 2 (RgaRead list) None ∷ []

-- `a after 0 1 @5`; `b after 0 1 @2`; `verdict`: the repeated insertion comes first in the order
abbrev pub put_in_twice : List Command
put_in_twice = Operate 0 (After 0 1) (Some 5) ∷ Operate 1 (After 0 1) (Some 2) ∷ Verdict ∷ []

-- `a after 0 1 @1`; `b after 1 2 @2`; `c got 1`; `c got 0`; `c read 1,2`; `verdict`: b inserts after an
-- anchor that was not delivered to it
abbrev pub an_anchor_got_late : List Command
an_anchor_got_late =
    Operate 0 (After 0 1) (Some 1) ∷ Operate 1 (After 1 2) (Some 2) ∷ Deliver 2 1 ∷ Deliver 2 0
    ∷ Operate 2 (RgaRead (1 ∷ 2 ∷ [])) None ∷ Verdict ∷ []

-- `a after 0 1 @1`; `b after 1 2 @2`; `c got 1`; `c read -`; `c got 0`
abbrev pub read_before_the_anchor : List Command
read_before_the_anchor =
    Operate 0 (After 0 1) (Some 1) ∷ Operate 1 (After 1 2) (Some 2) ∷ Deliver 2 1 ∷ Operate 2 (RgaRead []) None
    ∷ Deliver 2 0 ∷ []

-- `a after 0 1 @5`; `b after 1 2 @3`; `verdict`
abbrev pub an_anchor_later_in_the_order : List Command
an_anchor_later_in_the_order = Operate 0 (After 0 1) (Some 5) ∷ Operate 1 (After 1 2) (Some 3) ∷ Verdict ∷ []

-- `a after 0 1 @5`; `b remove 1`; `verdict`: b sees no stamp
abbrev pub removed_before_it_stands : List Command
removed_before_it_stands = Operate 0 (After 0 1) (Some 5) ∷ Operate 1 (RgaRemove 1) None ∷ Verdict ∷ []

-- `a after 0 1 @5`; `a after 9 2 @3`: the stamp decreases, and the anchor does not exist
abbrev pub a_stamp_that_falls_and_no_anchor : List Command
a_stamp_that_falls_and_no_anchor = Operate 0 (After 0 1) (Some 5) ∷ Operate 0 (After 9 2) (Some 3) ∷ []

-- `a remove 0`; `verdict`
abbrev pub the_root_removed : List Command
the_root_removed = Operate 0 (RgaRemove 0) None ∷ Verdict ∷ []

-- `a after 0 1 @1`; `a remove 1`; `b got 0`; `b after 1 2 @2`; `c got 0`; `c got 1`; `c got 2`; `c read 2`; `verdict`
abbrev pub behind_a_removed_one : List Command
behind_a_removed_one =
    Operate 0 (After 0 1) (Some 1) ∷ Operate 0 (RgaRemove 1) None ∷ Deliver 1 0 ∷ Operate 1 (After 1 2) (Some 2)
    ∷ Deliver 2 0 ∷ Deliver 2 1 ∷ Deliver 2 2 ∷ Operate 2 (RgaRead (2 ∷ [])) None ∷ Verdict ∷ []

-- `a after 0 1 @1`; `a remove 1`; `a remove 1`; `a read -`; `a after 0 1 @2`; `verdict`
abbrev pub removed_twice_and_put_in_again : List Command
removed_twice_and_put_in_again =
    Operate 0 (After 0 1) (Some 1) ∷ Operate 0 (RgaRemove 1) None ∷ Operate 0 (RgaRemove 1) None
    ∷ Operate 0 (RgaRead []) None ∷ Operate 0 (After 0 1) (Some 2) ∷ Verdict ∷ []

-- `a after 0 1 @1`; `b after 0 2 @3`; `b remove 1`; `c got 1`; `c got 2`, and then the commands: what b removes was not
-- delivered to it, and b sees a later stamp
abbrev pub removed_ungot : List Command → List Command
removed_ungot commands =
    Operate 0 (After 0 1) (Some 1) ∷ Operate 1 (After 0 2) (Some 3) ∷ Operate 1 (RgaRemove 1) None
    ∷ Deliver 2 1 ∷ Deliver 2 2 ∷ commands

-- `c read 2`
abbrev pub c_reads_2 : Command
c_reads_2 = Operate 2 (RgaRead (2 ∷ [])) None

-- each rejection of an operation of an RGA, the earlier one where two reasons apply
abbrev pub each_refusal_of_an_rga : List Command
each_refusal_of_an_rga =
    Operate 3 (After 0 1) None ∷ Operate 0 (OrAdd 4 1) (Some 1) ∷ Operate 0 (OrRead (4 ∷ 4 ∷ [])) None
    ∷ Operate 0 (After 0 1) None ∷ Operate 0 (After 0 1) (Some 0) ∷ Operate 0 (RgaRemove 1) (Some 1)
    ∷ Operate 0 (RgaRead (2 ∷ 1 ∷ [])) (Some 0) ∷ Operate 0 (After 0 1) (Some 1) ∷ Operate 0 (After 0 2) (Some 1)
    ∷ Operate 0 (After 0 2) (Some 2) ∷ Operate 0 (RgaRead (2 ∷ 1 ∷ [])) None ∷ Deliver 1 2 ∷ []

-- the answers of three replicas, from the beginning
abbrev pub answers_of_rga : List Command → List Reply
answers_of_rga commands = answers_to Rga 3 [] commands

-- the labels' numbers after these commands, in the named order
abbrev pub rga_order : List Command → List ℕ
rga_order commands = map (λ label. label.number) (named_labels Rga (records_after_all Rga 3 [] commands))
