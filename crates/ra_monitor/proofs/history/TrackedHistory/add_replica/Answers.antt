use Rattle.std.proofs.Common.{◌≡◌, ◌+◌, List, refl, ap, ◌∙◌, subst}
use Rattle.std.specs.Prelude.{nat_eq}
use Rattle.std.specs.HashSet.{contains}
use Rattle.ra_labels.specs.declared.command.Command.TheVariants.{Join}
use Rattle.ra_labels.specs.declared.reply.Reply.TheVariants.{Joined}
use Rattle.ra_labels.specs.HistorySoFar.{history_with, replicas_of}
use Rattle.ra_visibility.specs.Tracked.{IsVisibilityOf, replicas_in}
use Rattle.ra_monitor.specs.declared.history.TrackedHistory.{TrackedHistory}
use Rattle.ra_monitor.specs.Clocks.{Clocks, is_clock_in}
use Rattle.ra_monitor.specs.UsedKeys.{clocks_at}
use Rattle.ra_monitor.proofs.NewRecords.{witness_known, stands_joined}
use Rattle.ra_monitor.proofs.history.TrackedHistory.add_replica.Goals as goal

pub join-requires-2-after_bounds : goal.join-requires-2-after_bounds
join-requires-2-after_bounds c κs =
    let r = c.requires in
    record { past = r.past; stands = witness_known c.args.self.now r.past r.stands r.none; accepted = r.accepted }

pub returns-in-Ok-clause-taken : goal.returns-in-Ok-clause-taken
returns-in-Ok-clause-taken c = λ past stands none accepted.
    let old = c.args.self.now in
    let from = c.args.from in
    let new : TrackedHistory = record {
      labels = old.labels;
      replicas = old.replicas + 1;
      tracker = c.join.new.self;
      witness = c.join-2.new.self;
      taken = c.add_replica.new.self;
      fault = old.fault;
      cycle = old.cycle;
    } in
    let number : replicas_in old.tracker.now ≡ replicas_of past = stands.tracker.replicas in
    let tracker : IsVisibilityOf c.join.new.self.now (history_with past (Join (replicas_of past) from)) =
    subst (λ r. IsVisibilityOf c.join.new.self.now (history_with past (Join r from))) number (c.in_ok-joined.ensures.stands past stands.tracker) in (
      ap Joined (c.in_ok-joined.ensures.number ∙ number),
      stands_joined old new past (replicas_of past) from stands none tracker
          (c.in-Ok.ensures.joined past (witness_known old past stands none) accepted)
          (λ stamp. c.add_replica.ensures.stamps stamp
          ∙ ap (λ (all : List Clocks). is_clock_in (clocks_at all stamp.replica) stamp.clock) c.reserve_replica.ensures.clocks)
          (λ identifier. ap (λ taken. contains nat_eq taken identifier) (c.add_replica.ensures.identifiers ∙ c.reserve_replica.ensures.identifiers))
          (c.add_replica.ensures.replicas ∙ ap (λ k. k + 1) c.reserve_replica.ensures.replicas)
          refl refl refl refl,
    )
