use Rattle.std.proofs.Common.{◌≡◌, ℕ, refl, sym, ap, ◌∙◌, subst}
use Rattle.std.specs.Prelude.{IfOk}
use Rattle.std.proofs.lemmas.Result.{IfOk-weaker}
use Rattle.ra_labels.proofs.Results.{on_err_any}
use Rattle.ra_labels.specs.declared.command.Command.{Command}
use Rattle.ra_labels.specs.declared.command.Command.TheVariants.{Join}
use Rattle.ra_labels.specs.HistorySoFar.{History, replicas_of, IsAccepted}
use Rattle.ra_theorems.proofs.TheoremIndex.{join_accepted_iff}
use Rattle.ra_monitor.specs.History.{IsAnswered}
use Rattle.ra_monitor.proofs.Answered.{refused, accepted, joins}
use Rattle.ra_monitor.proofs.history.TrackedHistory.join.Goals as goal

-- an accepted join creates the next replica
next_joined : (past : History) (replica from : ℕ) → IsAccepted past (Join replica from)
    → Join replica from ≡ Join (replicas_of past) from
next_joined past replica from is =
    ap (λ r. Join r from) ((join_accepted_iff past.initial_replicas past.records replica from).0 is).1

pub add_replica-requires : goal.add_replica-requires
add_replica-requires c =
    let r = c.requires in
    let is = c.refusal_of_join.ensures.first r.past.initial_replicas r.past.records r.stands.replicas ∙ c.in-None.is in
    record {
      past = r.past;
      stands = r.stands;
      none = r.none;
      accepted = subst (IsAccepted r.past) (next_joined r.past c.args.replica c.args.from is) is;
    }

pub returns-in-Some-clause-taken : goal.returns-in-Some-clause-taken
returns-in-Some-clause-taken c = λ past stands none.
    refused past none (Join c.args.replica c.args.from) c.args.self.now c.in-Some.refusal
    (c.refusal_of_join.ensures.first past.initial_replicas past.records stands.replicas ∙ c.in-Some.is) stands

pub returns-in-None-clause-taken : goal.returns-in-None-clause-taken
returns-in-None-clause-taken c = λ past stands none.
    let join = Join c.args.replica c.args.from in
    let is = c.refusal_of_join.ensures.first past.initial_replicas past.records stands.replicas ∙ c.in-None.is in
    let next = next_joined past c.args.replica c.args.from is in
    let now = subst (IsAccepted past) next is in
    subst (λ (command : Command). IfOk c.add_replica.result (IsAnswered c.add_replica.new.self past command)) (sym next)
    (IfOk-weaker c.add_replica.result _ _
    (λ reply answered. accepted past none (Join (replicas_of past) c.args.from) c.add_replica.new.self reply refl now
    answered.0 answered.1)
    (c.add_replica.ensures.taken past stands none now))

pub returns-in-None-clause-joins : goal.returns-in-None-clause-joins
returns-in-None-clause-joins c = λ past stands none.
    on_err_any c.add_replica.result (joins past none (Join c.args.replica c.args.from) refl
    (c.refusal_of_join.ensures.first past.initial_replicas past.records stands.replicas ∙ c.in-None.is))
