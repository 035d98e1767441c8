use Rattle.std.proofs.Common.{◌≡◌, ℕ, List, ap, ◌∙◌, subst, arith, true}
use Rattle.ra_rga_elements.specs.ElementList.{arrival_at, is_marked}
use Rattle.ra_rga_replica.specs.declared.edit.Edit.TheVariants.{PutsIn}
use Rattle.ra_rga_replica.specs.ReplicaList.{ReplicaList}
use Rattle.ra_rga_replica.specs.PendingLabels.{labels_under}
use Rattle.ra_rga_replica.specs.Cascade.{freed_under, IsListWithAfter}
use Rattle.ra_rga_replica.proofs.AlikeLists.{kept_in}
use Rattle.ra_rga_replica.proofs.LastFollowers.{all_follow}
use Rattle.ra_rga_replica.proofs.replica_list.ReplicaList.put_in_with_waiting.Goals as goal

pub returns-clause-got : goal.returns-clause-got
returns-clause-got c = λ all needed records had stand held is new.
    let freed = c.in_ok-freed.freed.items in
    let kept = kept_in c.args.self.now _ c.self.view_is held.kept in
    let needs : is_marked c.self.inside.there.marks.items (arrival_at all.arrivals c.args.number).anchor ≡ true =
    ap (λ (l : ReplicaList). is_marked l.marks (arrival_at all.arrivals c.args.number).anchor) c.self.view_is
    ∙ needed in
    let amidst = c.in_ok-freed.ensures.freed all records had held.settled (PutsIn c.args.number) stand kept is new needs in
    let says : (number : ℕ) → labels_under c.free_all.new.waiting number
    ≡ freed_under c.args.edits.now freed (labels_under c.self.inside.waiting) number =
    λ number. c.free_all.ensures number ∙ ap (λ (ls : List ℕ).
    freed_under c.args.edits.now ls (labels_under c.self.inside.waiting) number) c.as_slice.ensures.value in
    subst (λ (n : ℕ). IsListWithAfter (λ k. is_marked c.free.new.shown k) c.free.new.there.marks.items c.free_all.new.waiting all.arrivals
    c.args.edits.now records had held.settled c.args.label n) (omega (arith, c.len.ensures, c.in_ok-freed.freed.ok.0))
    (all_follow c.free_all.new.waiting stand kept amidst.freeing says)
