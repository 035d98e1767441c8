use Rattle.std.proofs.Common.{◌≡◌, ◌<◌, length, Some, sym, subst}
use Rattle.std.specs.List.{slice_get}
use Rattle.ra_labels.proofs.InLists.{among-exactly}
use Rattle.ra_list_replica.specs.declared.mark.Mark.TheVariants.{Missing}
use Rattle.ra_list_witness.specs.ListWitness.{view_at, mark_of}
use Rattle.ra_list_witness.proofs.Views.{element_there}
use Rattle.ra_list_effects.specs.Past.{state_at}
use Rattle.ra_list_effects.specs.Effects.{AreEffectsOf}
use Rattle.ra_list_effects.proofs.JudgedOperations.{has_exactly}
use Rattle.ra_list_effects.proofs.AddedOperations.{effects_of, with_removal_at, after_removal, removal_is}
use Rattle.ra_list_effects.proofs.list_effects.ListEffects.add_removal.Goals as goal

pub returns-clause-added : goal.returns-clause-added
returns-clause-added c = λ past x label stands at.
    let mine = subst (λ e. AreEffectsOf e past) (sym c.self.view_is) stands in
    let old = c.self.inside.witness in
    let new = c.hide.new.self in
    let state = state_at past.replicas c.args.replica in
    let there : c.args.replica < length past.replicas =
    subst (λ n. c.args.replica < n) stands.replicas c.requires.replica in
    let found = subst (λ e. slice_get e.witness.elements c.args.number ≡ Some x) (sym c.self.view_is) at in
    let had = subst (λ e. ¬ (mark_of e.witness.views c.args.replica c.args.number ≡ Missing)) (sym c.self.view_is) c.requires.had in
    let own = (has_exactly old.elements (view_at old.views c.args.replica).marks state (mine.views c.args.replica) x).1
    (c.args.number, (found, had)) in
    let whole = (among-exactly x past.whole.inserted).1 ((mine.elements x).0 (element_there old.elements c.args.number x found)) in
    subst (AreEffectsOf (effects_of new c.push.new.self.items)) (removal_is past c.args.replica label x whole own)
    (subst (λ cs. AreEffectsOf (effects_of new cs) (with_removal_at past c.args.replica x)) (sym c.in_ok-push.ensures.items)
    (after_removal old new c.self.inside.changes.items past c.args.replica c.args.number x mine there found
    ((among-exactly x state.inserted).0 own) c.hide.ensures.same.0 c.hide.ensures.same.1 c.hide.ensures.marks))
