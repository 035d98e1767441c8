use Rattle.std.proofs.Common.{arith, ◌≡◌, ◌<◌, ◌++◌, [], ◌∷◌, length, Some, sym, ap, ◌∙◌, subst}
use Rattle.std.specs.Prelude.{Contains, IfOk, MatchOption}
use Rattle.ra_labels.specs.Edges.{IsCycle}
use Rattle.ra_labels.specs.Neighborhood.{neighborhood}
use Rattle.ra_labels.specs.Reads.{edges_of_read}
use Rattle.ra_list_witness.specs.ListWitness.{view_at}
use Rattle.ra_list_effects.specs.declared.list_effects.Change.TheVariants.{Show}
use Rattle.ra_list_effects.specs.Effects.{AreEffectsOf}
use Rattle.ra_list_effects.proofs.JudgedOperations.{admitted_by_both}
use Rattle.ra_list_effects.proofs.AddedOperations.{with_insertion, after_insertion, insertion_is, after_pairs, unchanged_past, failed_past}
use Rattle.ra_list_effects.proofs.Outcomes.{both_some, if_none}
use Rattle.ra_list_effects.proofs.list_effects.ListEffects.add_insertion.Goals as goal

pub returns-clause-added : goal.returns-clause-added
returns-clause-added c = λ past stands right.
    let mine = subst (λ e. AreEffectsOf e past) (sym c.self.view_is) stands in
    let old = c.self.inside.witness in
    let new = c.insert-added.new.self in
    let changes = c.self.inside.changes.items in
    let r = c.insert-added.result in
    let now = c.keep_changes.new.self in
    let list = neighborhood c.args.insertion in
    let there : c.args.replica < length past.replicas =
    subst (λ n. c.args.replica < n) stands.replicas c.requires.replica in
    let (whole, own) = admitted_by_both old.elements (view_at old.views c.args.replica).marks past c.args.replica
    c.args.insertion mine.elements (mine.views c.args.replica) right in
    let apart = subst (λ e. ¬ Contains e.witness.elements c.args.insertion.element) (sym c.self.view_is) c.requires.new in
    let number : c.args.placement.element ≡ length old.elements =
    subst (λ e. c.args.placement.element ≡ length e.witness.elements) (sym c.self.view_is) c.requires.placement.element in
    let pushed : c.push.new.self.items ≡ changes ++ Some (Show (length old.elements)) ∷ [] =
    c.in_ok-push.ensures.items ∙ ap (λ n. changes ++ Some (Show n) ∷ []) number in
    subst (λ next. IfOk r (λ found. MatchOption found (AreEffectsOf now next)
    (λ cycle. AreEffectsOf now past × IsCycle (past.edges ++ edges_of_read c.args.label list) cycle.items)))
    (insertion_is past c.args.replica c.args.label c.args.insertion whole own)
    (after_pairs old new changes c.push.new.self.items (Some (Show (length old.elements))) c.len-count.result now past mine
    (omega (arith, c.len-count.ensures, c.self.inside.changes.ok)) pushed c.keep_changes.ensures.witness
    (λ cycle. cycle.items) r (with_insertion past c.args.replica c.args.insertion (edges_of_read c.args.label list))
    c.args.label list c.keep_changes.ensures.changes
    (both_some r _ _ _ _ c.insert-added.ensures.elements c.insert-added.ensures.marks) c.insert-added.ensures.edges
    (λ done adds. after_insertion old new changes past c.args.replica c.args.label c.args.insertion mine there apart
    (if_none r _ _ done c.insert-added.ensures.elements) (if_none r _ _ done c.insert-added.ensures.marks) adds))

pub returns-clause-unchanged : goal.returns-clause-unchanged
returns-clause-unchanged c = λ past stands.
    let mine = subst (λ e. AreEffectsOf e past) (sym c.self.view_is) stands in
    let r = c.insert-added.result in
    unchanged_past c.self.inside.witness c.insert-added.new.self c.self.inside.changes.items c.push.new.self.items _
    c.len-count.result c.keep_changes.new.self past mine (omega (arith, c.len-count.ensures, c.self.inside.changes.ok))
    c.in_ok-push.ensures.items c.keep_changes.ensures.witness r _ _ c.keep_changes.ensures.changes
    (both_some r _ _ _ _ c.insert-added.ensures.elements c.insert-added.ensures.marks) c.insert-added.ensures.edges

pub returns-clause-failed : goal.returns-clause-failed
returns-clause-failed c = λ past stands.
    let mine = subst (λ e. AreEffectsOf e past) (sym c.self.view_is) stands in
    failed_past c.self.inside.witness c.insert-added.new.self c.self.inside.changes.items c.push.new.self.items _
    c.len-count.result c.keep_changes.new.self past mine (omega (arith, c.len-count.ensures, c.self.inside.changes.ok))
    c.in_ok-push.ensures.items c.keep_changes.ensures.witness c.insert-added.result c.keep_changes.ensures.failed
    c.insert-added.ensures.failed c.insert-added.ensures.failed_marks
