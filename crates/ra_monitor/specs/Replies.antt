-- The replies `Ok` and `Yes`, and the reply that rejects a command.
use Rattle.std.specs.Prelude.{Bool, true, false}
use Rattle.ra_labels.specs.declared.reply.Reply.{Reply}
use Rattle.ra_labels.specs.declared.reply.Reply.TheVariants.{Ok, Yes, Refused}

abbrev pub is_yes : Reply → Bool
is_yes (Ok label) = true
is_yes (Yes labels) = true
is_yes _ = false

abbrev pub is_refused : Reply → Bool
is_refused (Refused refusal) = true
is_refused _ = false
