use Rattle.std.proofs.Common.{rules}
use Rattle.ra_seqspec.proofs.AnsweredQueries.{told, HasOneAnswer}
use Rattle.ra_seqspec.proofs.state.State.answer.Goals as goal

pub returns-clause-answer : goal.returns-clause-answer
returns-clause-answer c = search rules

pub returns-clause-right : goal.returns-clause-right
returns-clause-right c =
    let one : HasOneAnswer c.self.inside.form = search rules in
    (told c.self.inside.form c.args.self.now c.args.query.now c.match-self.answer c.self.invariant one c.self.view_is
    (returns-clause-answer c)).right

pub returns-clause-only : goal.returns-clause-only
returns-clause-only c =
    let one : HasOneAnswer c.self.inside.form = search rules in
    (told c.self.inside.form c.args.self.now c.args.query.now c.match-self.answer c.self.invariant one c.self.view_is
    (returns-clause-answer c)).only
