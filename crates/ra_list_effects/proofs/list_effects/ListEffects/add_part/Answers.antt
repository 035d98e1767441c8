use Rattle.std.proofs.Common.{arith, None, sym, subst}
use Rattle.ra_labels.specs.Reads.{edges_of_read}
use Rattle.ra_list_replica.specs.Numbers.{AreNumbersOf}
use Rattle.ra_list_effects.specs.Effects.{AreEffectsOf}
use Rattle.ra_list_effects.proofs.Outcomes.{always_some, always_err, on_err}
use Rattle.ra_list_effects.proofs.AddedOperations.{with_read, after_read, after_pairs, failed_past, same_views}
use Rattle.ra_list_effects.proofs.list_effects.ListEffects.add_part.Goals as goal

pub returns-clause-added : goal.returns-clause-added
returns-clause-added c = λ past replica list stands found.
    let mine = subst (λ e. AreEffectsOf e past) (sym c.self.view_is) stands in
    let old = c.self.inside.witness in
    let new = c.read_part-added.new.self in
    let are = subst (λ e. AreNumbersOf e.witness.elements list c.args.part.now) (sym c.self.view_is) found in
    let marks = same_views old.views new.views c.read_part-added.ensures.views in
    after_pairs old new c.self.inside.changes.items c.push.new.self.items None c.len-count.result c.keep_changes.new.self past mine
    (omega (arith, c.len-count.ensures, c.self.inside.changes.ok)) c.in_ok-push.ensures.items c.keep_changes.ensures.witness (λ cycle. cycle.items) c.read_part-added.result
    (with_read past replica (edges_of_read c.args.label list)) c.args.label list c.keep_changes.ensures.changes
    (always_some c.read_part-added.result _ (c.read_part-added.ensures.elements, marks)) (c.read_part-added.ensures.edges list are)
    (λ done adds. after_read old new c.self.inside.changes.items past replica c.args.label list mine c.read_part-added.ensures.elements marks adds)

pub returns-clause-failed : goal.returns-clause-failed
returns-clause-failed c = λ past stands.
    let mine = subst (λ e. AreEffectsOf e past) (sym c.self.view_is) stands in
    let old = c.self.inside.witness in
    let new = c.read_part-added.new.self in
    failed_past old new c.self.inside.changes.items c.push.new.self.items None c.len-count.result c.keep_changes.new.self past mine
    (omega (arith, c.len-count.ensures, c.self.inside.changes.ok)) c.in_ok-push.ensures.items c.keep_changes.ensures.witness c.read_part-added.result c.keep_changes.ensures.failed
    (on_err c.read_part-added.result _ _ (λ edges. (c.read_part-added.ensures.elements, edges)) c.read_part-added.ensures.failed)
    (always_err c.read_part-added.result _ (same_views old.views new.views c.read_part-added.ensures.views))
