use Rattle.std.proofs.Common.{◌≡◌, ℕ, [], ◌∷◌, ◌++◌, Some, refl, sym, ap, ◌∙◌, subst}
use Rattle.std.proofs.lemmas.Result.{IfOk-weaker}
use Rattle.ra_labels.specs.declared.label.Stamp.{Stamp}
use Rattle.ra_labels.specs.declared.operation.Update.TheVariants.{RgaRemove}
use Rattle.ra_labels.specs.Visibility.{has_delivered}
use Rattle.ra_labels.specs.HistorySoFar.{operate}
use Rattle.ra_labels.proofs.Results.{on_err}
use Rattle.ra_theorems.proofs.TheoremIndex.{delivered_are_updates-next}
use Rattle.ra_rga_elements.specs.ElementList.{is_marked}
use Rattle.ra_rga_replica.specs.declared.edit.Edit.TheVariants.{Removes}
use Rattle.ra_rga_replica.specs.Edits.{edit_at, element_at}
use Rattle.ra_rga_replica.specs.ReplicaList.{IsGreatestOf}
use Rattle.ra_rga_replica.specs.Cascade.{IsListWithAfter}
use Rattle.ra_rga_replica.proofs.AlikeLists.{list_alike}
use Rattle.ra_rga_replica.proofs.NewEdits.{grown_by_removal}
use Rattle.ra_rga_replica.proofs.LaterRecords.{known_other}
use Rattle.ra_rga_replica.proofs.OwnLabels.{next_edit, owned, own_none}
use Rattle.ra_rga_replica.proofs.replica_list.ReplicaList.remove_own.Goals as goal

pub returns-clause-removed : goal.returns-clause-removed
unfolding known_other
returns-clause-removed c =
    IfOk-weaker c.remove.result _ _
    (λ steps got all edits records next known_number stand held label_is makes unstamped extended admitted.
    let number = c.args.number in
    let more = edits ++ Some (Removes number) ∷ [] in
    let now = operate next ∷ records in
    let grown = grown_by_removal number next stand admitted makes known_number in
    let known = known_other next (Some (Removes number)) (has_delivered records next.by) stand held (delivered_are_updates-next records next.by)
    (λ n. refl) in
    let is : edit_at more c.args.label ≡ Some (Removes number) =
    next_edit edits (Removes number) c.args.label (stand.count ∙ sym label_is) in
    let after = got all.arrivals more now (has_delivered records next.by) grown known is
    (ap (has_delivered records next.by) label_is ∙ delivered_are_updates-next records next.by) in
    let after_it = subst (λ (n : ℕ). IsListWithAfter (λ k. is_marked c.remove.new.self.shown k)
    c.remove.new.self.marks
    c.remove.new.self.waiting all.arrivals more now (has_delivered records next.by) known.settled n steps) label_is after in
    let top = subst (λ (s : Stamp). IsGreatestOf records (has_delivered records next.by) s) (sym c.remove.ensures.greatest)
    held.greatest in
    owned next (RgaRemove (element_at all.arrivals number)) c.remove.new.self held steps makes after_it
    (own_none next top unstamped))
    c.remove.ensures.got

pub returns-clause-err : goal.returns-clause-err
returns-clause-err c = on_err c.remove.result c.remove.ensures.err
    (λ alike arrivals edits records replica held. list_alike c.args.self.now c.remove.new.self alike held)
