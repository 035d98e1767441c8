-- Worked examples with replicas that join, named for what they show.
use Rattle.std.specs.Prelude.{pos, List, [], ◌∷◌, None}
use Rattle.ra_labels.specs.declared.kind.Kind.TheVariants.{Counter, OrSet}
use Rattle.ra_labels.specs.declared.operation.Op.TheVariants.{Inc, Count, OrAdd, OrRemove, OrRead}
use Rattle.ra_labels.specs.declared.command.Command.{Command}
use Rattle.ra_labels.specs.declared.command.Command.TheVariants.{Operate, Deliver, Join}
use Rattle.ra_labels.specs.declared.reply.Reply.{Reply}
use Rattle.ra_labels.specs.Answer.{answers_to}

-- `a inc`; `join c a`; `c read 1`; `join c b`; `join d e`; `c got 0`; `b read 0`, with two replicas a and b: each
-- rejection of a join but the last
abbrev pub joined_and_read : List Command
joined_and_read =
    Operate 0 Inc None ∷ Join 2 0 ∷ Operate 2 (Count (pos 1)) None ∷ Join 2 1 ∷ Join 3 3 ∷ Deliver 2 0
    ∷ Operate 1 (Count (pos 0)) None ∷ []

-- a new number that leaves one out, and an existing one from a replica that does not exist: the first reason applies
abbrev pub joined_out_of_turn : List Command
joined_out_of_turn = Join 3 0 ∷ Join 0 2 ∷ Join 0 0 ∷ Join 2 1 ∷ []

-- a join before any label, and one from a replica that joined: a delivery to the one is none to the other
abbrev pub joined_before_any_label : List Command
joined_before_any_label =
    Join 2 0 ∷ Join 3 2 ∷ Operate 0 Inc None ∷ Deliver 2 0 ∷ Operate 2 (Count (pos 1)) None
    ∷ Operate 3 (Count (pos 0)) None ∷ Deliver 3 0 ∷ Operate 3 (Count (pos 1)) None ∷ []

-- after the join, the source's updates are new to the one that joined, which sees other updates than its source
abbrev pub joined_and_apart : List Command
joined_and_apart =
    Operate 0 Inc None ∷ Join 2 0 ∷ Operate 0 Inc None ∷ Operate 2 (Count (pos 1)) None ∷ Operate 0 (Count (pos 2)) None
    ∷ Operate 2 Inc None ∷ Deliver 1 4 ∷ Deliver 1 0 ∷ Deliver 1 4 ∷ Operate 1 (Count (pos 2)) None ∷ []

-- a join after a `no`
abbrev pub joined_after_a_no : List Command
joined_after_a_no = Operate 0 (Count (pos 1)) None ∷ Join 2 0 ∷ Operate 2 Inc None ∷ []

-- the answers with the largest number of replicas; below, with one less
abbrev pub answers_of_sixty_four : List Command → List Reply
answers_of_sixty_four commands = answers_to Counter 64 [] commands

abbrev pub answers_of_sixty_three : List Command → List Reply
answers_of_sixty_three commands = answers_to Counter 63 [] commands

abbrev pub answers_of_a_and_b : List Command → List Reply
answers_of_a_and_b commands = answers_to Counter 2 [] commands

-- `a add 4 #1`; `join b a`; `b remove 4 #1`; `a read 4`, with one initial replica a
abbrev pub joined_and_removed : List Command
joined_and_removed =
    Operate 0 (OrAdd 4 1) None ∷ Join 1 0 ∷ Operate 1 (OrRemove 4 (1 ∷ [])) None ∷ Operate 0 (OrRead (4 ∷ [])) None ∷ []

abbrev pub answers_of_one_or_set : List Command → List Reply
answers_of_one_or_set commands = answers_to OrSet 1 [] commands
