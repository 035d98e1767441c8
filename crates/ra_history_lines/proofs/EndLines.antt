-- Lemmas on the `end` line, which differs from each reply line.
use Rattle.std.proofs.Common.{◌≡◌, ℕ, List, get_or, Option, Some, None, refl, ap, arith}
use Rattle.ra_labels.specs.declared.reply.Fault.{Fault}
use Rattle.ra_labels.specs.declared.reply.Reply.{Reply}
use Rattle.ra_labels.specs.declared.reply.Reply.TheVariants as reply
use Rattle.ra_history_lines.specs.Replies.{reply_line, end_line}

begins_with_e : (labels : ℕ) (fault : Option Fault) → get_or (end_line labels fault) 0 0 ≡ 101
begins_with_e labels None = refl
begins_with_e labels (Some fault) = refl

pub no_end_line : (reply : Reply) (labels : ℕ) (fault : Option Fault) → reply_line reply ≡ end_line labels fault → ⊥
no_end_line (reply.Ok n) labels fault same =
    omega (arith, ap (λ (bs : List ℕ). get_or bs 0 0) same, begins_with_e labels fault)
no_end_line _ labels fault same =
    omega (arith, ap (λ (bs : List ℕ). get_or bs 0 0) same, begins_with_e labels fault)
