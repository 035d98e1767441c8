use Rattle.std.proofs.Common.{◌≡◌, ◌+◌, Some, sym, ap, ◌∙◌, subst, ◌∷◌}
use Rattle.std.proofs.lemmas.Result.{IfOk-weaker}
use Rattle.ra_labels.specs.declared.label.Stamp.{Stamp}
use Rattle.ra_labels.specs.declared.command.Command.TheVariants.{Deliver}
use Rattle.ra_labels.specs.NamedOrder.{greater_of}
use Rattle.ra_labels.specs.Visibility.{has_delivered}
use Rattle.ra_labels.proofs.Results.{on_err, on_err_any}
use Rattle.ra_rga_replica.specs.declared.edit.Edit.{Edit}
use Rattle.ra_rga_replica.specs.declared.edit.Edit.TheVariants.{PutsIn, Removes}
use Rattle.ra_rga_replica.specs.Edits.{edit_at}
use Rattle.ra_rga_replica.specs.ReplicaList.{ReplicaList, IsGreatestOf, IsListOf, settled_count}
use Rattle.ra_rga_replica.proofs.Edits.{edits_stand}
use Rattle.ra_rga_replica.proofs.AlikeLists.{list_alike}
use Rattle.ra_rga_replica.proofs.Deliveries.{delivered, with_stamp, with_none}
use Rattle.ra_rga_replica.proofs.replica_list.ReplicaList.deliver.Goals as goal

pub returns-in_err-steps-in-PutsIn-clause-err : goal.returns-in_err-steps-in-PutsIn-clause-err
returns-in_err-steps-in-PutsIn-clause-err c = on_err_any c.from_residual.result
    (λ arrivals edits records replica held. list_alike c.args.self.now c.put_in.new.self
    c.in_err-steps-in-PutsIn.ensures.err held)

pub stamp-requires : goal.stamp-requires
stamp-requires c =
    c.requires.elements.known c.args.label (PutsIn c.in-PutsIn.number)
    (c.requires.edit_of ∙ ap (λ (d : Edit). Some d) c.in-PutsIn.is)

pub returns-in_ok-steps-in-PutsIn-clause-got : goal.returns-in_ok-steps-in-PutsIn-clause-got
returns-in_ok-steps-in-PutsIn-clause-got c = λ records to stand held is new once.
    let all = c.args.all.now in
    let now = c.put_in.new.self in
    let puts : edit_at c.args.edits.now c.args.label ≡ Some (PutsIn c.in-PutsIn.number) =
    is ∙ ap (λ (d : Edit). Some d) c.in-PutsIn.is in
    let after = c.in_ok-steps-in-PutsIn.ensures.got records (has_delivered records to) stand held puts new in
    let next : ReplicaList = record now { greatest = greater_of now.greatest c.stamp.result } in
    let top = subst (λ (s : Stamp). IsGreatestOf records (has_delivered records to) s)
    (sym c.in_ok-steps-in-PutsIn.ensures.greatest) held.greatest in
    subst
    (λ (l : ReplicaList). (is : IsListOf l all.arrivals c.args.edits.now (Deliver to c.args.label ∷ records) to)
    × (settled_count is ≡ settled_count held + c.in_ok-steps-in-PutsIn.steps))
    (sym c.observe_stamp.ensures)
    (delivered next held c.args.label c.in_ok-steps-in-PutsIn.steps (PutsIn c.in-PutsIn.number) stand puts after
    (with_stamp c.args.label c.in-PutsIn.number c.stamp.result stand top puts c.stamp.ensures))

pub returns-in-Removes-clause-got : goal.returns-in-Removes-clause-got
returns-in-Removes-clause-got c = IfOk-weaker c.remove.result _ _ (λ steps got records to stand held is new once.
    let all = c.args.all.now in
    let removes : edit_at c.args.edits.now c.args.label ≡ Some (Removes c.in-Removes.number) =
    is ∙ ap (λ (d : Edit). Some d) c.in-Removes.is in
    let after = got all.arrivals c.args.edits.now records (has_delivered records to) (edits_stand stand) held removes new in
    let top = subst (λ (s : Stamp). IsGreatestOf records (has_delivered records to) s) (sym c.remove.ensures.greatest)
    held.greatest in
    delivered c.remove.new.self held c.args.label steps (Removes c.in-Removes.number) stand removes after
    (with_none c.args.label c.in-Removes.number stand top removes))
    c.remove.ensures.got

pub returns-in-Removes-clause-err : goal.returns-in-Removes-clause-err
returns-in-Removes-clause-err c = on_err c.remove.result c.remove.ensures.err
    (λ alike arrivals edits records replica held. list_alike c.args.self.now c.remove.new.self alike held)
