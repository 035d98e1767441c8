use Rattle.std.proofs.Common.{◌∷◌, ◌∙◌, sym, ap, subst}
use Rattle.std.specs.Result.{result_err}
use Rattle.ra_labels.specs.Fault.{sequence_cause}
use Rattle.ra_labels.specs.HistorySoFar.{history_of, operate}
use Rattle.ra_witness.specs.Offered.{IsOffered}
use Rattle.ra_witness.specs.Overriding.{updates_written}
use Rattle.ra_witness.proofs.TakenUnordered.{no_cause}
use Rattle.ra_witness.proofs.CommutingKinds.{is_commuting, is_overriding, is_list, is_unordered, admits-commuting, admits-overriding, cause_known}
use Rattle.ra_witness.proofs.effects.Effects.find.Goals as goal

pub returns-in-Commuting-clause-cause : goal.returns-in-Commuting-clause-cause
returns-in-Commuting-clause-cause c = λ past next stands offered acts.
    let kept = c.in-Commuting.kept in
    let known = is_commuting c.args.self.now past stands kept c.in-Commuting.is in
    c.nothing_unless.ensures ∙ c.cause.ensures
    ∙ cause_known kept.updates.items kept.states.items past known.states next c.args.label.now _ (admits-commuting past.kind known.one) offered acts

pub returns-in-Overriding-clause-cause : goal.returns-in-Overriding-clause-cause
returns-in-Overriding-clause-cause c = λ past next stands offered acts.
    let kept = c.in-Overriding.kept in
    let known = is_overriding c.args.self.now past stands kept c.in-Overriding.is in
    c.nothing_unless-in-Overriding.ensures ∙ c.cause-in-Overriding.ensures
    ∙ cause_known (updates_written kept.writes.items) kept.states.items past known.states next c.args.label.now _ (admits-overriding past.kind known.one) offered acts

pub returns-in-Ok-2-clause-cause : goal.returns-in-Ok-2-clause-cause
returns-in-Ok-2-clause-cause c = λ past next stands offered acts.
    let known = is_list c.args.self.now past stands c.in-List.kept c.in-List.is in
    ap result_err (sym c.in-Ok-2.is)
    ∙ c.in_ok-found-in-List.ensures.cause past.initial_replicas past.records next known.1
    (subst (λ k. IsOffered (history_of k past.initial_replicas past.records) next c.args.label.now) known.0 offered)
    ∙ ap (λ k. sequence_cause k (operate next ∷ past.records)) (sym known.0)

pub returns-in-Err-2-clause-cause : goal.returns-in-Err-2-clause-cause
returns-in-Err-2-clause-cause c = λ past next stands offered acts.
    let known = is_list c.args.self.now past stands c.in-List.kept c.in-List.is in
    ap result_err (sym c.in-Err-2.is)
    ∙ c.in_ok-found-in-List.ensures.cause past.initial_replicas past.records next known.1
    (subst (λ k. IsOffered (history_of k past.initial_replicas past.records) next c.args.label.now) known.0 offered)
    ∙ ap (λ k. sequence_cause k (operate next ∷ past.records)) (sym known.0)

pub returns-in-Unordered-clause-cause : goal.returns-in-Unordered-clause-cause
returns-in-Unordered-clause-cause c = λ past next stands offered acts.
    let kept = c.in-Unordered.field-0 in
    sym (no_cause kept past next c.args.label.now (is_unordered c.args.self.now past stands kept c.in-Unordered.is) offered)
