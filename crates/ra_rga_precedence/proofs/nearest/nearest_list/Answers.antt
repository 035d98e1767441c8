use Rattle.std.proofs.Common.{◌∙◌, ℕ, sym, subst}
use Rattle.std.specs.Prelude.{Contains}
use Rattle.ra_labels.specs.HistorySoFar.{History}
use Rattle.ra_visibility.specs.Tracked.{labels_in}
use Rattle.ra_rga_precedence.specs.Foundations.{FoundationNames}
use Rattle.ra_rga_precedence.specs.Nearest.{IsPossibleList, IsPastOfRead, IsUndecided}
use Rattle.ra_rga_precedence.specs.Situation.{operations_in, IsHistoryOf}
use Rattle.ra_rga_precedence.specs.UpdateConditions.{NameBelow}
use Rattle.ra_rga_precedence.proofs.NearestLists.{if_some, past_of_read}
use Rattle.ra_rga_precedence.proofs.nearest.nearest_list.Goals as goal

pub nearest_at-requires-clause-named : goal.nearest_at-requires-clause-named
nearest_at-requires-clause-named c =
    let operations = operations_in c.args.operations.now in
    let (named, are) = subst (FoundationNames operations (labels_in c.args.tracker.now)) c.in-Sound.is
    c.in_ok-insertions.ensures.named in
    subst (λ k. NameBelow k c.in-Sound.conditions.items) (sym c.in_ok-read.ensures.number) named

pub returns-clause-explained : goal.returns-clause-explained
returns-clause-explained c =
    let operations = operations_in c.args.operations.now in
    let old = c.args.tracker.now in
    let new = c.issue.new.self.now in
    if_some c.in_ok-nearest.nearest
    (λ it. (past : History) (replica : ℕ) → IsPastOfRead new operations past replica
    → IsPossibleList past.records replica it.list.items)
    (λ it. (past : History) → IsHistoryOf old operations past
    → IsPossibleList past.records c.args.replica it.list.items)
    (λ it holds past stands. holds past c.args.replica
    (past_of_read old new operations c.args.replica c.in_ok-read.ensures.stands past stands))
    c.in_ok-nearest.ensures.explained

pub returns-clause-undecided : goal.returns-clause-undecided
returns-clause-undecided c =
    let operations = operations_in c.args.operations.now in
    let old = c.args.tracker.now in
    let new = c.issue.new.self.now in
    if_some c.in_ok-nearest.nearest
    (λ it. (past : History) (replica place : ℕ) → IsPastOfRead new operations past replica
    → Contains it.undecided.items place → IsUndecided past.records replica it.list.items place)
    (λ it. (past : History) (place : ℕ) → IsHistoryOf old operations past
    → Contains it.undecided.items place → IsUndecided past.records c.args.replica it.list.items place)
    (λ it holds past place stands there. holds past c.args.replica place
    (past_of_read old new operations c.args.replica c.in_ok-read.ensures.stands past stands) there)
    c.in_ok-nearest.ensures.undecided
