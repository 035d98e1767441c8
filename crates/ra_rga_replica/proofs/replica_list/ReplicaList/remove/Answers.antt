use Rattle.std.proofs.Common.{sym, ◌∙◌}
use Rattle.ra_rga_elements.specs.ElementList.{is_marked}
use Rattle.ra_rga_replica.specs.declared.edit.Edit.TheVariants.{Removes}
use Rattle.ra_rga_replica.proofs.AlikeLists.{kept_in}
use Rattle.ra_rga_replica.proofs.HadLabels.{held_back}
use Rattle.ra_rga_replica.proofs.TakenLabels.{removal_goes}
use Rattle.ra_rga_replica.proofs.replica_list.ReplicaList.remove.Goals as goal

pub returns-then-has-clause-got : goal.returns-then-has-clause-got
returns-then-has-clause-got c = λ arrivals edits records had stand held is new.
    let kept = kept_in c.args.self.now _ c.self.view_is held.kept in
    removal_goes stand kept c.args.label c.args.number is new (sym c.has.ensures ∙ c.if-has.true)
    (λ n. is_marked c.hide.new.self n) c.hide.ensures.shown

pub returns-clause-got : goal.returns-clause-got
returns-clause-got c = λ arrivals edits records had stand held is new.
    let kept = kept_in c.args.self.now _ c.self.view_is held.kept in
    held_back c.add.new.self c.args.label (Removes c.args.number) stand kept is new (sym c.has.ensures ∙ c.if-has.false)
    (record { added = c.in_ok-add.ensures.added; others = c.in_ok-add.ensures.others })
