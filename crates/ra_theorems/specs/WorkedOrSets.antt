-- Worked examples of an OR-Set, named for what they show.
use Rattle.std.specs.Prelude.{ℕ, List, [], ◌∷◌, map, Some, None}
use Rattle.ra_labels.specs.declared.kind.Kind.TheVariants.{OrSet}
use Rattle.ra_labels.specs.declared.operation.Op.TheVariants.{Inc, LwwAdd, OrAdd, OrRemove, OrRead, RgaRead}
use Rattle.ra_labels.specs.declared.command.Command.{Command}
use Rattle.ra_labels.specs.declared.command.Command.TheVariants.{Operate, Deliver, Verdict}
use Rattle.ra_labels.specs.declared.reply.Reply.{Reply}
use Rattle.ra_labels.specs.Rewriting.{Half}
use Rattle.ra_labels.specs.NamedOrder.{named_sequence}
use Rattle.ra_labels.specs.Answer.{answers_to, records_after_all}

-- `a add 4 #1`; `b got 0`; `b remove 4 #1`; `a add 4 #2`; `c got 1`; `c got 0`; `c got 1`; `c got 2`; `c read 4`;
-- `verdict`
abbrev pub removed_and_added_again : List Command
removed_and_added_again =
    Operate 0 (OrAdd 4 1) None ∷ Deliver 1 0 ∷ Operate 1 (OrRemove 4 (1 ∷ [])) None ∷ Operate 0 (OrAdd 4 2) None
    ∷ Deliver 2 1 ∷ Deliver 2 0 ∷ Deliver 2 1 ∷ Deliver 2 2 ∷ Operate 2 (OrRead (4 ∷ [])) None ∷ Verdict ∷ []

-- `a add 4 #1`; `b remove 4 #1`; `verdict`: b removes an identifier that was not delivered to it
abbrev pub removed_unseen : List Command
removed_unseen = Operate 0 (OrAdd 4 1) None ∷ Operate 1 (OrRemove 4 (1 ∷ [])) None ∷ Verdict ∷ []

-- `a add 4 #1`; `b got 0`; `a remove 4 #1`; `b remove 4 #1`; `verdict`
abbrev pub removed_by_both : List Command
removed_by_both =
    Operate 0 (OrAdd 4 1) None ∷ Deliver 1 0 ∷ Operate 0 (OrRemove 4 (1 ∷ [])) None
    ∷ Operate 1 (OrRemove 4 (1 ∷ [])) None ∷ Verdict ∷ []

-- `a add 4 #1`; `a add 5 #3`; `a add 4 #2`; `b got 0`; `b got 1`; `b remove 4 #1`; `b got 2`; `b read LIST`: one of the
-- two identifiers of 4 was delivered to b when it removed 4
abbrev pub one_of_two_removed : List ℕ → List Command
one_of_two_removed list =
    Operate 0 (OrAdd 4 1) None ∷ Operate 0 (OrAdd 5 3) None ∷ Operate 0 (OrAdd 4 2) None ∷ Deliver 1 0 ∷ Deliver 1 1
    ∷ Operate 1 (OrRemove 4 (1 ∷ [])) None ∷ Deliver 1 2 ∷ Operate 1 (OrRead list) None ∷ []

-- `a add 4 #2`; `a add 4 #1`; `a remove 4 #IDS`
abbrev pub removed_with : List ℕ → List Command
removed_with ids = Operate 0 (OrAdd 4 2) None ∷ Operate 0 (OrAdd 4 1) None ∷ Operate 0 (OrRemove 4 ids) None ∷ []

-- `a add 4 #1`; `b add 5 #1`; `b remove 4 #-`; `a read 4,4`; `verdict`
abbrev pub an_identifier_taken : List Command
an_identifier_taken =
    Operate 0 (OrAdd 4 1) None ∷ Operate 1 (OrAdd 5 1) None ∷ Operate 1 (OrRemove 4 []) None
    ∷ Operate 0 (OrRead (4 ∷ 4 ∷ [])) None ∷ Verdict ∷ []

-- rejections of operations of an OR-Set, each reason once or more, and of deliveries; the earlier one where two apply
abbrev pub each_refusal_of_an_or_set : List Command
each_refusal_of_an_or_set =
    Operate 3 Inc (Some 0) ∷ Operate 0 (LwwAdd 4) (Some 1) ∷ Operate 0 (RgaRead (4 ∷ 4 ∷ [])) None
    ∷ Operate 0 (OrRead (4 ∷ 4 ∷ [])) (Some 1) ∷ Operate 0 (OrRemove 4 (2 ∷ 1 ∷ [])) None
    ∷ Operate 0 (OrRemove 4 []) (Some 0) ∷ Operate 0 (OrRead []) (Some 1) ∷ Operate 0 (OrAdd 4 1) None
    ∷ Operate 1 (OrAdd 5 1) (Some 1) ∷ Operate 1 (OrAdd 5 1) None ∷ Operate 1 (OrRemove 4 []) None
    ∷ Operate 0 (OrRead (4 ∷ [])) None ∷ Deliver 1 2 ∷ Deliver 1 3 ∷ Deliver 2 1 ∷ Deliver 1 1 ∷ []

-- the answers of three replicas, from the beginning
abbrev pub answers_of_or_set : List Command → List Reply
answers_of_or_set commands = answers_to OrSet 3 [] commands

-- the parts after these commands, in the named order, with their labels' numbers
abbrev pub or_set_parts : List Command → List (ℕ × Half)
or_set_parts commands =
    map (λ part. (part.label.number, part.half)) (named_sequence OrSet (records_after_all OrSet 3 [] commands))
