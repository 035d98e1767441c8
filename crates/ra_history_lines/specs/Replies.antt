-- The lines of replies, and the end line.
use Rattle.std.specs.Prelude.{ℕ, List, [], ◌∷◌, ◌++◌, Option, Some, None, codes, decimal}
use Rattle.ra_labels.specs.declared.reply.Cause.{Cause}
use Rattle.ra_labels.specs.declared.reply.Cause.TheVariants as cause
use Rattle.ra_labels.specs.declared.reply.Fault.{Fault}
use Rattle.ra_labels.specs.declared.reply.Reply.{Reply}
use Rattle.ra_labels.specs.declared.reply.Reply.TheVariants as reply
use Rattle.ra_labels.specs.declared.refusal.Refusal.{Refusal}
use Rattle.ra_labels.specs.declared.refusal.Refusal.TheVariants as refusal

-- ---- replies

abbrev pub cause_word : Cause → List ℕ
cause_word cause.Order = codes "order"
cause_word cause.Update = codes "update"
cause_word cause.Query = codes "query"

abbrev pub refusal_words : Refusal → List ℕ
refusal_words refusal.UnknownReplica = codes "unknown-replica"
refusal_words refusal.WrongKind = codes "wrong-kind"
refusal_words refusal.BadList = codes "bad-list"
refusal_words refusal.StampMissing = codes "stamp-missing"
refusal_words refusal.StampUnwanted = codes "stamp-unwanted"
refusal_words refusal.StampTaken = codes "stamp-taken"
refusal_words refusal.IdTaken = codes "id-taken"
refusal_words refusal.UnknownLabel = codes "unknown-label"
refusal_words refusal.NotAnUpdate = codes "not-an-update"
refusal_words refusal.AlreadySeen = codes "already-seen"
refusal_words (refusal.NotCausal missing) = codes "not-causal " ++ decimal missing
refusal_words refusal.ReplicaThere = codes "replica-there"
refusal_words refusal.TooManyReplicas = codes "too-many-replicas"

-- a violating label and its cause
abbrev pub fault_words : ℕ → Cause → List ℕ
fault_words label why = decimal label ++ (codes " " ++ cause_word why)

abbrev pub reply_words : Reply → List ℕ
reply_words (reply.Ok label) = codes "ok " ++ decimal label
reply_words (reply.Got label) = codes "got " ++ decimal label
reply_words (reply.Joined replica) = codes "joined " ++ decimal replica
reply_words (reply.Yes labels) = codes "yes " ++ decimal labels
reply_words (reply.No label why) = codes "no " ++ fault_words label why
reply_words (reply.Refused why) = codes "refused " ++ refusal_words why

-- the line of a reply, with its line feed
abbrev pub reply_line : Reply → List ℕ
reply_line reply = reply_words reply ++ 10 ∷ []

-- ---- the end line

abbrev pub end_words : ℕ → Option Fault → List ℕ
end_words labels None = codes "end yes " ++ decimal labels
end_words labels (Some fault) = codes "end no " ++ fault_words fault.label fault.cause

-- the end line, from the number of labels and the fault
abbrev pub end_line : ℕ → Option Fault → List ℕ
end_line labels fault = end_words labels fault ++ 10 ∷ []
