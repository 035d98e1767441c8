use Rattle.std.proofs.Common.{◌≡◌, [], All, map, Some, sym, ap, ◌∙◌, subst}
use mathlib.Core.List.{map-map}
use Rattle.ra_labels.specs.declared.command.Command.{Command}
use Rattle.ra_labels.specs.declared.reply.Reply.{Reply}
use Rattle.ra_monitor.specs.declared.monitor.Monitor.{Monitor}
use Rattle.ra_monitor.specs.contracts.monitor.MonitorJournal.TheImpl.{ghosts}
use Rattle.ra_labels.specs.Records.{replica_count}
use Rattle.ra_monitor.specs.Monitor.{records_of}
use Rattle.ra_monitor.specs.declared.setup.Setup.{Setup}
use Rattle.ra_ticket.specs.declared.pass.Pass.{Pass}
use Rattle.ra_ticket.specs.Callers.{pass_of, passes_of}
use Rattle.ra_ticket.specs.Passes as pass
use Rattle.ra_ticket.specs.Passes.{next_reached, serving_reached, pass_setup, seen, IsPassOf}
use Rattle.ra_desk.proofs.Told.{All-of_map}
use Rattle.ra_desk.proofs.reporter.DeskReporter.open.Goals as goal

-- no replica has joined yet
first_ones : (c : goal.In_ok-callers) → c.replicas.result ≡ c.args.monitor.setup.replicas
first_ones c =
    let setup = c.args.monitor.setup in
    c.replicas.ensures.replicas ∙ ap (λ log. replica_count setup.replicas (records_of setup log)) c.requires

-- the setup that is read from the monitor is the monitor's setup
read_off : (c : goal.In_ok-callers)
    → record { kind = c.report.result.kind; replicas = c.replicas.result; limit = c.limit.result } ≡ c.args.monitor.setup
read_off c = λ i. record {
  kind = c.report.ensures.kind i;
  replicas = first_ones c i;
  limit = c.limit.ensures.limit i;
}

pub set_up-requires-clause-same : goal.set_up-requires-clause-same
set_up-requires-clause-same c =
    let items = c.in_ok-callers.callers.items in
    let setup : Setup = record {
      kind = c.report.result.kind;
      replicas = c.replicas.result;
      limit = c.limit.result;
    } in
    All-of_map (λ p. pass_setup p ≡ Some setup) pass_of items
    (subst (λ (s : Setup). All (λ p. pass_setup p ≡ Some s) (passes_of items)) (sym (read_off c))
    c.in_ok-callers.ensures.setup)

pub set_up-requires-clause-seen : goal.set_up-requires-clause-seen
set_up-requires-clause-seen c =
    All-of_map (λ p. seen p ≡ []) pass_of c.in_ok-callers.callers.items c.in_ok-callers.ensures.seen

pub returns-clause-numbers : goal.returns-clause-numbers
returns-clause-numbers c =
    let all = c.in_ok-set_up.field-0.items in
    let items = c.in_ok-callers.callers.items in
    sym (map-map (λ d. pass.number_of (pass_of d)) (λ r. r.caller) all)
    ∙ ap (map (λ d. pass.number_of (pass_of d))) c.in_ok-set_up.ensures.callers
    ∙ sym (map-map pass.number_of pass_of items) ∙ c.in_ok-callers.ensures.numbers

pub returns-clause-one_desk : goal.returns-clause-one_desk
returns-clause-one_desk c =
    let all = c.in_ok-set_up.field-0.items in
    let (lock, own) = c.in_ok-callers.ensures.one_lock in (
      lock,
      subst (All (IsPassOf lock))
          (sym (sym (map-map pass_of (λ r. r.caller) all) ∙ ap (map pass_of) c.in_ok-set_up.ensures.callers)) own,
    )

-- a property of each caller's pass holds of each reporter's pass
each_pass : (c : goal.In_ok-set_up) (P : Pass Monitor Command Reply Setup ghosts → Type 0)
    → All P (passes_of c.in_ok-callers.callers.items) → All (λ r. P (pass_of r.caller)) c.in_ok-set_up.field-0.items
each_pass c P each =
    let all = c.in_ok-set_up.field-0.items in
    All-of_map (λ d. P (pass_of d)) (λ r. r.caller) all
    (subst (All (λ d. P (pass_of d))) (sym c.in_ok-set_up.ensures.callers)
    (All-of_map P pass_of c.in_ok-callers.callers.items each))

pub returns-clause-log : goal.returns-clause-log
returns-clause-log c = each_pass c (λ p. seen p ≡ []) c.in_ok-callers.ensures.seen

pub returns-clause-drawn : goal.returns-clause-drawn
returns-clause-drawn c = each_pass c (λ p. next_reached p ≡ 0) c.in_ok-callers.ensures.next

pub returns-clause-served : goal.returns-clause-served
returns-clause-served c = each_pass c (λ p. serving_reached p ≡ 0) c.in_ok-callers.ensures.serving
