use Rattle.std.proofs.Common.{◌≡◌, ℕ, ◌<◌, refl, sym, ◌∙◌, arith}
use Rattle.ra_labels.specs.declared.command.Command.TheVariants.{Deliver}
use Rattle.ra_labels.specs.declared.refusal.Refusal.{Refusal}
use Rattle.ra_labels.specs.Answer.{refusal_of}
use Rattle.ra_labels.specs.HistorySoFar.{History}
use Rattle.ra_visibility.specs.declared.fault.DeliverFault.TheVariants as fault
use Rattle.ra_visibility.specs.Tracked.{Tracked, replicas_in, refusal_in, IsVisibilityOf}
use Rattle.ra_visibility.proofs.TheoremIndex.{refusal_matches_records}
use Rattle.ra_monitor.proofs.Answered.{at_replica}
use Rattle.ra_reported.specs.declared.reading.Reading.{Reading}
use Rattle.ra_reported.proofs.Readings.{reads_refused, reads_accepted, reads_delivered}
use Rattle.ra_reported.proofs.reading.Reading.deliver.Goals as goal

same_refusal : (why other : Refusal) → fault.Refused why ≡ fault.Refused other → why ≡ other
same_refusal why other e = cc

-- the tracker's answer to a delivery to an existing replica is the specified refusal
tracker_says : (tracked : Tracked) (past : History) (to label : ℕ) → IsVisibilityOf tracked past
    → to < replicas_in tracked
    → refusal_of past.kind past.initial_replicas past.records (Deliver to label) ≡ refusal_in tracked to label
tracker_says tracked past to label stands there =
    at_replica past to label (omega (arith, there, stands.replicas))
    ∙ sym (refusal_matches_records tracked past to label stands there)

pub returns-in-Ok-clause-stands : goal.returns-in-Ok-clause-stands
returns-in-Ok-clause-stands c = λ past log reads.
    let old = c.args.self.now in
    let to = c.args.replica in
    let label = c.args.label in
    let new : Reading = record { tracker = c.deliver.new.self; taken = old.taken; places = old.places } in
    reads_accepted log new past (Deliver to label)
    (tracker_says old.tracker.now past to label reads.tracker
    (omega (arith, c.replicas.ensures.number, c.if-replica-replicas.false)) ∙ c.in-Ok.ensures.taken)
    (reads_delivered log old new past to label reads (c.in-Ok.ensures.stands past reads.tracker) refl refl)

pub returns-in-Err-Refused-clause-stands : goal.returns-in-Err-Refused-clause-stands
returns-in-Err-Refused-clause-stands c = λ past log reads.
    let old = c.args.self.now in
    let to = c.args.replica in
    let label = c.args.label in
    let new : Reading = record { tracker = c.deliver.new.self; taken = old.taken; places = old.places } in
    let said = c.in-Err-Refused.ensures.refused in
    reads_refused log new past (Deliver to label) said.0
    (tracker_says old.tracker.now past to label reads.tracker
    (omega (arith, c.replicas.ensures.number, c.if-replica-replicas.false)) ∙ said.2)
    record {
      tracker = rw c.in-Err-Refused.ensures.same reads.tracker;
      taken = reads.taken;
      count = reads.count;
      listed = reads.listed;
    }
