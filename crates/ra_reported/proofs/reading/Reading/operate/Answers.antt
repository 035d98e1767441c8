use Rattle.std.proofs.Common.{refl, sym, ap, ◌∙◌}
use Rattle.std.specs.Prelude.{◌||◌}
use Rattle.ra_labels.specs.HistorySoFar.{next_operation, operate}
use Rattle.ra_monitor.specs.UsedKeys.{key_of, key_is_stamp, key_is_identifier, is_stamp_in, is_identifier_in}
use Rattle.ra_monitor.proofs.TakenLookups.{taken_more}
use Rattle.ra_reported.specs.declared.reading.Reading.{Reading}
use Rattle.ra_reported.proofs.Readings.{reads_refused, reads_accepted, reads_more, some_refusal, no_refusal}
use Rattle.ra_reported.proofs.reading.Reading.operate.Goals as goal

pub returns-then-is_some-clause-stands : goal.returns-then-is_some-clause-stands
returns-then-is_some-clause-stands c = λ past log misfit there reads.
    let next = next_operation c.args.replica c.args.op.now c.args.clock in
    let (why, is) = some_refusal c.refusal_of.result (sym c.is_some.ensures ∙ c.if-is_some.true) in
    reads_refused log c.args.self.now past (operate next) why
    (sym (c.refusal_of.ensures.first past next reads.taken reads.tracker.replicas refl misfit c.by-brought.ensures) ∙ is)
    reads

pub returns-clause-stands : goal.returns-clause-stands
returns-clause-stands c = λ past log misfit there reads.
    let old = c.args.self.now in
    let next = next_operation c.args.replica c.args.op.now c.args.clock in
    let none = no_refusal c.refusal_of.result (sym c.is_some.ensures ∙ c.if-is_some.false) in
    let new : Reading = record { tracker = c.issue.new.self; taken = c.keep.new.self; places = c.push.new.self } in
    reads_accepted log new past (operate next)
    (sym (c.refusal_of.ensures.first past next reads.taken reads.tracker.replicas refl misfit c.by-brought.ensures) ∙ none)
    (reads_more log old new past next c.args.place reads there
    (c.in_ok-issue.ensures.stands past next reads.tracker refl (sym c.is_update.ensures))
    (taken_more past.kind old.taken new.taken past.records next (sym misfit ∙ c.refusal_of.ensures.form none)
    (λ stamp. c.keep.ensures.stamps stamp
    ∙ ap (λ k. key_is_stamp k stamp || is_stamp_in c.reserve.new.self stamp) c.by-brought.ensures
    ∙ ap (λ b. key_is_stamp (key_of next) stamp || b) (c.reserve.ensures.stamps stamp))
    (λ identifier. c.keep.ensures.identifiers identifier
    ∙ ap (λ k. key_is_identifier k identifier || is_identifier_in c.reserve.new.self identifier) c.by-brought.ensures
    ∙ ap (λ b. key_is_identifier (key_of next) identifier || b) (c.reserve.ensures.identifiers identifier))
    reads.taken)
    c.in_ok-push.ensures.items)
