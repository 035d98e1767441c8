use Rattle.std.proofs.Common.{◌∙◌, ◌++◌, ◌∷◌, [], None, sym, subst, ap}
use Rattle.std.proofs.lemmas.Bool.{false≢true}
use Rattle.ra_labels.specs.HistorySoFar.{history_with, operate, next_operation}
use Rattle.ra_labels.specs.declared.operation.Op.TheVariants as op
use Rattle.ra_rga_precedence.specs.Answers.{IsAnswer}
use Rattle.ra_rga_precedence.specs.Situation.{operations_in, IsHistoryOf}
use Rattle.ra_rga_precedence.specs.Nearest.{with_read}
use Rattle.ra_rga_precedence.proofs.NextReads.{history_of_read}
use Rattle.ra_rga_precedence.proofs.next_read.is_explained.Goals as goal

pub returns-in-Exists : goal.returns-in-Exists
returns-in-Exists c = λ is past replica list its reads.
    let tracked = c.args.tracker.now.now in
    let later = history_with past (operate (next_operation replica (op.RgaRead list) None)) in
    let items = c.deref.ensures.value ∙ c.in_ok-push.ensures.items
    ∙ ap (λ os. os ++ c.args.read ∷ [])
    (c.in_ok-extend_from_slice.ensures.items ∙ ap (λ os. os ++ c.args.operations.now) c.new-all.ensures.items) in
    let stands : IsHistoryOf tracked (operations_in c.deref.result.now) later =
    subst (λ os. IsHistoryOf tracked (operations_in os) later) (sym items)
    (history_of_read tracked c.args.operations.now c.args.read past replica list its reads) in
    let (each, (sequence, linearizes, order)) = subst (IsAnswer (with_read past.records replica list)) c.in-Exists.is
    (c.in_ok-some_order.ensures later stands) in
    (sequence, linearizes)

pub returns : goal.returns
returns c = λ is. absurd (false≢true is)
