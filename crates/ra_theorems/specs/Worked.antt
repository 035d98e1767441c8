-- Worked examples of a counter, named for what they show.
use Rattle.std.specs.Prelude.{ℕ, pos, negsuc, List, [], ◌∷◌, Some, None}
use Rattle.ra_labels.specs.declared.kind.Kind.TheVariants.{Counter}
use Rattle.ra_labels.specs.declared.operation.Op.TheVariants.{Inc, Dec, Count}
use Rattle.ra_labels.specs.declared.operation.Update.{Update}
use Rattle.ra_labels.specs.declared.operation.Update.TheVariants as update
use Rattle.ra_labels.specs.declared.operation.Query.TheVariants as query
use Rattle.ra_labels.specs.declared.command.Command.{Command}
use Rattle.ra_labels.specs.declared.command.Command.TheVariants.{Operate, Deliver, Verdict}
use Rattle.ra_labels.specs.declared.reply.Reply.{Reply}
use Rattle.ra_labels.specs.Records.{Records}
use Rattle.ra_labels.specs.Rewriting.{Half, Whole, QueryHalf, UpdateHalf, Act, Does, Asks, Part}
use Rattle.ra_labels.specs.Linearization.{visible_updates}
use Rattle.ra_labels.specs.NamedOrder.{named_sequence}
use Rattle.ra_labels.specs.Answer.{answers_to, records_after_all}

-- `a inc`; `b got 0`; `b read 1`
abbrev pub delivered_and_read : List Command
delivered_and_read = Operate 0 Inc None ∷ Deliver 1 0 ∷ Operate 1 (Count (pos 1)) None ∷ Verdict ∷ []

-- the increment of `delivered_and_read`, as a part
abbrev pub the_increment : Part
the_increment = record {
  label = record { number = 0; replica = 0; op = Inc; stamp = None };
  half = Whole;
  act = Does update.Inc;
}

-- the read of `delivered_and_read`, as a part
abbrev pub the_read : Part
the_read = record {
  label = record { number = 1; replica = 1; op = Count (pos 1); stamp = None };
  half = Whole;
  act = Asks (query.Count (pos 1));
}

-- `a inc`; `b got 0`; `b inc`; `c got 1`; `c got 0`; `c got 1`; `c read 2`: c receives b's increment before a's, which
-- b's increment sees
abbrev pub delivered_out_of_causal_order : List Command
delivered_out_of_causal_order =
    Operate 0 Inc None ∷ Deliver 1 0 ∷ Operate 1 Inc None ∷ Deliver 2 1 ∷ Deliver 2 0 ∷ Deliver 2 1
    ∷ Operate 2 (Count (pos 2)) None ∷ []

-- `a inc`; `b inc`; `a got 1`; `a inc`; `c got 2`; `c got 0`; `c got 2`; `c got 1`; `c got 2`
abbrev pub two_are_missing : List Command
two_are_missing =
    Operate 0 Inc None ∷ Operate 1 Inc None ∷ Deliver 0 1 ∷ Operate 0 Inc None
    ∷ Deliver 2 2 ∷ Deliver 2 0 ∷ Deliver 2 2 ∷ Deliver 2 1 ∷ Deliver 2 2 ∷ []

-- `a inc`; `b got 0`; `c read 0`; `b read 1`
abbrev pub delivered_to_one : List Command
delivered_to_one =
    Operate 0 Inc None ∷ Deliver 1 0 ∷ Operate 2 (Count (pos 0)) None ∷ Operate 1 (Count (pos 1)) None ∷ []

-- `a read 0`; `a read 0`
abbrev pub two_reads : List Command
two_reads = Operate 0 (Count (pos 0)) None ∷ Operate 0 (Count (pos 0)) None ∷ []

-- the read of `two_reads` with this number
abbrev pub read_numbered : ℕ → Part
read_numbered n = record {
  label = record { number = n; replica = 0; op = Count (pos 0); stamp = None };
  half = Whole;
  act = Asks (query.Count (pos 0));
}

-- a half of label 0 that no operation of a counter has; below, the two used: a query for 0, and an increment
abbrev pub half_of_label_0 : Half → Act → Part
half_of_label_0 which does = record {
  label = record { number = 0; replica = 0; op = Inc; stamp = None };
  half = which;
  act = does;
}

abbrev pub the_query_half : Part
the_query_half = half_of_label_0 QueryHalf (Asks (query.Count (pos 0)))

abbrev pub the_update_half : Part
the_update_half = half_of_label_0 UpdateHalf (Does update.Inc)

-- `a inc`; `b read 1`; `a inc`; `verdict`
abbrev pub nothing_was_delivered : List Command
nothing_was_delivered = Operate 0 Inc None ∷ Operate 1 (Count (pos 1)) None ∷ Operate 0 Inc None ∷ Verdict ∷ []

-- `verdict`; `verdict`
abbrev pub only_verdicts : List Command
only_verdicts = Verdict ∷ Verdict ∷ []

-- `a read 1`
abbrev pub nothing_to_count : List Command
nothing_to_count = Operate 0 (Count (pos 1)) None ∷ []

-- `a inc`; `b inc`: the records after them, newest first
abbrev pub two_increments : Records
two_increments = Operate 1 Inc None ∷ Operate 0 Inc None ∷ []

-- `a read 0`; `a inc`: the records after them, newest first
abbrev pub read_and_incremented : Records
read_and_incremented = Operate 0 Inc None ∷ Operate 0 (Count (pos 0)) None ∷ []

-- `a inc`; `b dec`; `b read -1`; `a got 1`; `a read 0`: each read counts what was delivered to its replica
abbrev pub each_counts_what_it_had : List Command
each_counts_what_it_had =
    Operate 0 Inc None ∷ Operate 1 Dec None ∷ Operate 1 (Count (negsuc 0)) None ∷ Deliver 0 1
    ∷ Operate 0 (Count (pos 0)) None ∷ []

-- `a inc @3`; `z inc`, with two replicas
abbrev pub stamped_and_unknown : List Command
stamped_and_unknown = Operate 0 Inc (Some 3) ∷ Operate 2 Inc None ∷ []

-- rejections of a counter's own operations and of deliveries, with two replicas; the earlier reason where two apply
abbrev pub each_refusal : List Command
each_refusal =
    Operate 2 Inc (Some 3) ∷ Operate 0 Inc (Some 0) ∷ Deliver 2 0 ∷ Deliver 1 0
    ∷ Operate 0 Inc None ∷ Operate 0 (Count (pos 1)) None ∷ Operate 0 Inc None
    ∷ Deliver 1 1 ∷ Deliver 0 0 ∷ Deliver 1 2 ∷ Deliver 1 0 ∷ Deliver 1 0 ∷ Deliver 1 2 ∷ Deliver 1 3 ∷ Verdict ∷ []

-- the answers of a counter of three replicas, from the beginning
abbrev pub answers_of_three : List Command → List Reply
answers_of_three commands = answers_to Counter 3 [] commands

-- the records after these commands
abbrev pub records_of_three : List Command → Records
records_of_three commands = records_after_all Counter 3 [] commands

-- the updates that label n sees after these commands, in the named order
abbrev pub seen_by : List Command → ℕ → List Update
seen_by commands n =
    visible_updates (records_of_three commands) (named_sequence Counter (records_of_three commands)) n

-- the answers of a counter of two replicas
abbrev pub answers_of_two : List Command → List Reply
answers_of_two commands = answers_to Counter 2 [] commands
