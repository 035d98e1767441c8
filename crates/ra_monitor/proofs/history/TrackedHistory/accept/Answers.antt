use Rattle.std.proofs.Common.{◌≡◌, Some, refl, sym, ap, ◌∙◌}
use Rattle.std.specs.Prelude.{vec_len}
use Rattle.ra_labels.specs.declared.operation.Op.{Op}
use Rattle.ra_labels.specs.Records.{next_label}
use Rattle.ra_labels.specs.Fault.{records_before_fault}
use Rattle.ra_labels.specs.HistorySoFar.{next_operation}
use Rattle.ra_visibility.specs.Tracked.{Tracked}
use Rattle.ra_monitor.specs.declared.history.TrackedHistory.{TrackedHistory}
use Rattle.ra_monitor.specs.declared.used_keys.UsedKeys.{UsedKeys}
use Rattle.ra_monitor.proofs.NewRecords.{newest_stands, stands_same, taken_alike, taken_known}
use Rattle.ra_monitor.proofs.history.TrackedHistory.accept.Goals as goal
use Rattle.ra_monitor.specs.History.{before_fault}

pub check_label-answer-requires : goal.check_label-answer-requires
check_label-answer-requires c =
    let r = c.requires in
    let self = c.args.self.now in
    let with_label : TrackedHistory = record {
      labels = self.labels;
      replicas = self.replicas;
      tracker = c.issue.new.self;
      witness = self.witness;
      taken = c.reserve.new.self;
      fault = self.fault;
      cycle = self.cycle;
    } in
    record {
      past = r.past;
      next = next_operation c.args.replica c.args.op.now c.args.clock;
      newest = newest_stands self with_label r.past (next_operation c.args.replica c.args.op.now c.args.clock) c.label_of-label.result c.args.brought r.stands r.none
          (c.in_ok-issue.ensures.stands r.past (next_operation c.args.replica c.args.op.now c.args.clock) r.stands.tracker refl (sym c.is_update.ensures))
          (c.label_of-label.ensures.next r.past.records r.stands.labels ∙ ap (λ (o : Op). next_label r.past.records c.args.replica o c.args.clock) c.replace.ensures.value) r.brings refl refl refl refl refl
          (taken_alike r.past.records self.taken c.reserve.new.self c.reserve.ensures.stamps c.reserve.ensures.identifiers (taken_known self r.past r.stands r.none))
          c.reserve.ensures.replicas r.accepted;
      few = r.few;
      room = c.in_ok-reserve.ensures.room;
    }

pub returns-in-Ok-clause-taken : goal.returns-in-Ok-clause-taken
returns-in-Ok-clause-taken c = λ past stands none accepted.
    let self = c.args.self.now in
    let with_label : TrackedHistory = record {
      labels = self.labels;
      replicas = self.replicas;
      tracker = c.issue.new.self;
      witness = self.witness;
      taken = c.reserve.new.self;
      fault = self.fault;
      cycle = self.cycle;
    } in
    c.in-Ok.ensures.answered past (next_operation c.args.replica c.args.op.now c.args.clock)
    (newest_stands self with_label past (next_operation c.args.replica c.args.op.now c.args.clock) c.label_of-label.result c.args.brought stands none
    (c.in_ok-issue.ensures.stands past (next_operation c.args.replica c.args.op.now c.args.clock) stands.tracker refl (sym c.is_update.ensures))
    (c.label_of-label.ensures.next past.records stands.labels ∙ ap (λ (o : Op). next_label past.records c.args.replica o c.args.clock) c.replace.ensures.value) c.requires.brings refl refl refl refl refl
    (taken_alike past.records self.taken c.reserve.new.self c.reserve.ensures.stamps c.reserve.ensures.identifiers (taken_known self past stands none))
    c.reserve.ensures.replicas accepted)

same_tracked : (t u : Tracked) → Some t ≡ Some u → t ≡ u
same_tracked t u e = cc

pub returns-in-Err-clause-err : goal.returns-in-Err-clause-err
returns-in-Err-clause-err c = λ past stands.
    let self = c.args.self.now in
    let before = records_before_fault past.kind past.records in
    let tracker : c.withdraw.new.self.now ≡ self.tracker.now =
    same_tracked c.withdraw.new.self.now self.tracker.now (c.withdraw.ensures.now ∙ ap (λ t. t.before) c.in-Err.ensures.tracker ∙ c.in_ok-issue.ensures.before) in
    stands_same self _ past stands tracker c.in-Err.ensures.kept
    (c.in-Err.ensures.witness (before_fault past) stands.witness)
    (rw c.in-Err.ensures.taken (taken_alike before self.taken c.reserve.new.self c.reserve.ensures.stamps c.reserve.ensures.identifiers stands.taken))
    (ap (λ (t : UsedKeys). vec_len t.clocks) c.in-Err.ensures.taken ∙ c.reserve.ensures.replicas)
    c.in-Err.ensures.fault c.in-Err.ensures.cycle c.in-Err.ensures.replicas
