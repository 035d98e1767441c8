use Rattle.std.proofs.Common.{Some, sym, subst}
use Rattle.ra_list_effects.specs.Effects.{AreEffectsOf, IsChangeOf}
use Rattle.ra_list_effects.proofs.AddedOperations.{change_at, same_past}
use Rattle.ra_list_effects.proofs.Delivered.{show_missing, hide_had, delivered_show, delivered_hide}
use Rattle.ra_list_effects.proofs.Outcomes.{on_ok, on_err}
use Rattle.ra_list_effects.proofs.list_effects.ListEffects.deliver.Goals as goal

pub show-requires-clause-missing : goal.show-requires-clause-missing
show-requires-clause-missing c =
    let past = c.requires.past in
    let witness = c.self.inside.witness in
    let changes = c.self.inside.changes.items in
    let mine = subst (λ e. AreEffectsOf e past) (sym c.self.view_is) c.requires.stands in
    let change = change_at witness.elements changes past.updates c.args.operation c.index.result.now (Some c.requires.update)
    mine.changes c.requires.found c.index.ensures in
    let shows = subst (λ f. IsChangeOf witness.elements (Some f) (Some c.requires.update)) c.in-Show.is
    (subst (λ o. IsChangeOf witness.elements o (Some c.requires.update)) c.in-Some.is change) in
    show_missing witness changes past c.args.replica c.in-Show.number c.requires.update mine shows c.requires.admitted

pub hide-requires-clause-had : goal.hide-requires-clause-had
hide-requires-clause-had c =
    let past = c.requires.past in
    let witness = c.self.inside.witness in
    let changes = c.self.inside.changes.items in
    let mine = subst (λ e. AreEffectsOf e past) (sym c.self.view_is) c.requires.stands in
    let change = change_at witness.elements changes past.updates c.args.operation c.index.result.now (Some c.requires.update)
    mine.changes c.requires.found c.index.ensures in
    let hides = subst (λ f. IsChangeOf witness.elements (Some f) (Some c.requires.update)) c.in-Hide.is
    (subst (λ o. IsChangeOf witness.elements o (Some c.requires.update)) c.in-Some.is change) in
    hide_had witness changes past c.args.replica c.in-Hide.number c.requires.update mine hides c.requires.admitted

pub unreachable-requires : goal.unreachable-requires
unreachable-requires c =
    let past = c.requires.past in
    let witness = c.self.inside.witness in
    let changes = c.self.inside.changes.items in
    let mine = subst (λ e. AreEffectsOf e past) (sym c.self.view_is) c.requires.stands in
    let change = change_at witness.elements changes past.updates c.args.operation c.index.result.now (Some c.requires.update)
    mine.changes c.requires.found c.index.ensures in
    subst (λ o. IsChangeOf witness.elements o (Some c.requires.update)) c.in_default.is change

pub returns-in-Show-clause-delivered : goal.returns-in-Show-clause-delivered
returns-in-Show-clause-delivered c = λ past update stands there found admitted.
    let witness = c.self.inside.witness in
    let changes = c.self.inside.changes.items in
    let mine = subst (λ e. AreEffectsOf e past) (sym c.self.view_is) stands in
    let change = change_at witness.elements changes past.updates c.args.operation c.index.result.now (Some update)
    mine.changes found c.index.ensures in
    let shows = subst (λ f. IsChangeOf witness.elements (Some f) (Some update)) c.in-Show.is
    (subst (λ o. IsChangeOf witness.elements o (Some update)) c.in-Some.is change) in
    on_ok c.show.result _ _ (λ marked. delivered_show witness c.show.new.self changes past c.args.replica
    c.in-Show.number update mine there shows admitted c.show.ensures.same.0 c.show.ensures.same.1 marked)
    c.show.ensures.marks

pub returns-in-Show-clause-failed : goal.returns-in-Show-clause-failed
returns-in-Show-clause-failed c = λ past stands.
    let mine = subst (λ e. AreEffectsOf e past) (sym c.self.view_is) stands in
    on_err c.show.result _ _ (λ same. same_past c.self.inside.witness c.show.new.self c.self.inside.changes.items past mine
    c.show.ensures.same.0 same c.show.ensures.same.1) c.show.ensures.failed

pub returns-in-Hide-clause-delivered : goal.returns-in-Hide-clause-delivered
returns-in-Hide-clause-delivered c = λ past update stands there found admitted.
    let witness = c.self.inside.witness in
    let changes = c.self.inside.changes.items in
    let mine = subst (λ e. AreEffectsOf e past) (sym c.self.view_is) stands in
    let change = change_at witness.elements changes past.updates c.args.operation c.index.result.now (Some update)
    mine.changes found c.index.ensures in
    let hides = subst (λ f. IsChangeOf witness.elements (Some f) (Some update)) c.in-Hide.is
    (subst (λ o. IsChangeOf witness.elements o (Some update)) c.in-Some.is change) in
    delivered_hide witness c.hide.new.self changes past c.args.replica c.in-Hide.number update mine there hides admitted
    c.hide.ensures.same.0 c.hide.ensures.same.1 c.hide.ensures.marks
