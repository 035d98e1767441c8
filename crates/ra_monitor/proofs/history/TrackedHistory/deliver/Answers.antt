use Rattle.std.proofs.Common.{◌≡◌, ℕ, ◌<◌, Some, refl, sym, ap, ◌∙◌, arith}
use Rattle.ra_labels.specs.declared.command.Command.TheVariants.{Deliver}
use Rattle.ra_labels.specs.declared.refusal.Refusal.{Refusal}
use Rattle.ra_labels.specs.declared.refusal.Refusal.TheVariants.{UnknownReplica}
use Rattle.ra_labels.specs.declared.reply.Reply.TheVariants as reply
use Rattle.ra_labels.specs.Answer.{refusal_of}
use Rattle.ra_labels.specs.HistorySoFar.{History}
use Rattle.ra_visibility.specs.declared.fault.DeliverFault.TheVariants as fault
use Rattle.ra_visibility.specs.Tracked.{refusal_in}
use Rattle.ra_visibility.proofs.TheoremIndex.{refusal_matches_records}
use Rattle.ra_monitor.specs.declared.history.TrackedHistory.{TrackedHistory}
use Rattle.ra_monitor.specs.History.{Represents}
use Rattle.ra_monitor.proofs.Answered.{refused, accepted, joins, at_replica, at_none}
use Rattle.ra_monitor.proofs.NewRecords.{witness_known, stands_delivered}
use Rattle.ra_monitor.proofs.history.TrackedHistory.deliver.Goals as goal

same_refusal : (why other : Refusal) → fault.Refused why ≡ fault.Refused other → why ≡ other
same_refusal why other e = cc

-- the tracker's answer to a delivery to an existing replica is the specified refusal
tracker_says : (history : TrackedHistory) (past : History) (to label : ℕ) → Represents history past → to < history.replicas
    → refusal_of past.kind past.initial_replicas past.records (Deliver to label) ≡ refusal_in history.tracker.now to label
tracker_says history past to label stands there =
    at_replica past to label (omega (arith, there, stands.replicas))
    ∙ sym (refusal_matches_records history.tracker.now past to label stands.tracker
    (omega (arith, there, stands.replicas, stands.tracker.replicas)))

pub deliver-requires-2-after_bounds : goal.deliver-requires-2-after_bounds
deliver-requires-2-after_bounds c κs =
    let old = c.args.self.now in
    let r = c.requires in
    record {
      past = r.past;
      stands = witness_known old r.past r.stands r.none;
      accepted = tracker_says old r.past c.args.replica c.args.label r.stands c.if-replica-self.false ∙ c.in-Ok.ensures.taken;
    }

pub returns-then-replica-self-clause-taken : goal.returns-then-replica-self-clause-taken
returns-then-replica-self-clause-taken c = λ past stands none.
    refused past none (Deliver c.args.replica c.args.label) c.args.self.now UnknownReplica
    (at_none past c.args.replica c.args.label (omega (arith, stands.replicas, c.if-replica-self.true))) stands

pub returns-in-Ok-deliver-clause-taken : goal.returns-in-Ok-deliver-clause-taken
returns-in-Ok-deliver-clause-taken c = λ past stands none.
    let old = c.args.self.now in
    let to = c.args.replica in
    let label = c.args.label in
    let new : TrackedHistory = record {
      labels = old.labels;
      replicas = old.replicas;
      tracker = c.deliver.new.self;
      witness = c.deliver-2.new.self;
      taken = old.taken;
      fault = old.fault;
      cycle = old.cycle;
    } in
    let is = tracker_says old past to label stands c.if-replica-self.false ∙ c.in-Ok.ensures.taken in
    accepted past none (Deliver to label) new (reply.Got label) refl is refl
    (stands_delivered old new past to label stands none (c.in-Ok.ensures.stands past stands.tracker)
    (c.in-Ok.ensures.causal past stands.tracker stands.causal)
    (c.in-Ok-deliver.ensures.delivered past (witness_known old past stands none) is) refl refl refl refl refl)

pub returns-in-Err-Refused-clause-taken : goal.returns-in-Err-Refused-clause-taken
returns-in-Err-Refused-clause-taken c = λ past stands none.
    let old = c.args.self.now in
    let to = c.args.replica in
    let label = c.args.label in
    let why = c.in-Err-Refused.refusal in
    let new : TrackedHistory = record {
      labels = old.labels;
      replicas = old.replicas;
      tracker = c.deliver.new.self;
      witness = old.witness;
      taken = old.taken;
      fault = old.fault;
      cycle = old.cycle;
    } in
    let said = rw c.in-Err-Refused.field-0-is at c.in-Err-Refused.ensures.refused in
    refused past none (Deliver to label) new why
    (tracker_says old past to label stands c.if-replica-self.false ∙ said.2 ∙ ap Some (sym (same_refusal why said.0 said.1)))
    record {
      tracker = rw c.in-Err-Refused.ensures.same stands.tracker;
      causal = stands.causal;
      labels = stands.labels;
      replicas = stands.replicas;
      witness = stands.witness;
      taken = stands.taken;
      places = stands.places;
      fault = stands.fault;
      cycle = stands.cycle;
    }

pub returns-in-Err-clause-joins : goal.returns-in-Err-clause-joins
returns-in-Err-clause-joins c = λ past stands none.
    joins past none (Deliver c.args.replica c.args.label) refl
    (tracker_says c.args.self.now past c.args.replica c.args.label stands c.if-replica-self.false ∙ c.in-Ok.ensures.taken)
