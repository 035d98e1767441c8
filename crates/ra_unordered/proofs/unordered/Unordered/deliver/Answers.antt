use Rattle.std.proofs.Common.{sym, subst, arith}
use Rattle.ra_labels.specs.declared.command.Command.TheVariants.{Deliver}
use Rattle.ra_labels.specs.HistorySoFar.{history_with}
use Rattle.ra_labels.proofs.Results.{on_ok}
use Rattle.ra_theorems.proofs.TheoremIndex.{delivered_are_updates-there}
use Rattle.ra_unordered.specs.Unordered.{IsKeptOf, IsFormOf}
use Rattle.ra_unordered.proofs.FirstReads as first_reads
use Rattle.ra_unordered.proofs.KeptSiblings.{new_there, after_delivery}
use Rattle.ra_unordered.proofs.unordered.Unordered.deliver.Goals as goal

pub deliver-requires-clause-issued : goal.deliver-requires-clause-issued
deliver-requires-clause-issued c =
    let may = c.requires in
    let form = subst (λ k. IsFormOf k may.past) c.in-MvRegister.is may.stands.form in
    omega (arith, form.1.labels, delivered_are_updates-there may.past.records c.args.label may.told.update)

pub deliver-requires-clause-new : goal.deliver-requires-clause-new
deliver-requires-clause-new c =
    let may = c.requires in
    let form = subst (λ k. IsFormOf k may.past) c.in-MvRegister.is may.stands.form in
    new_there c.in-MvRegister.siblings may.past c.args.replica c.args.label form.1 may.told.replica
    (may.told.causal.0, may.told.causal.1)

pub returns-in-Any-clause-delivered : goal.returns-in-Any-clause-delivered
returns-in-Any-clause-delivered c = λ past stands told.
    let form = subst (λ k. IsFormOf k past) c.in-Any.is stands.form in
    subst (λ k. IsKeptOf k (history_with past (Deliver c.args.replica c.args.label))) (sym c.in-Any.is) (record {
      form = (form.0, first_reads.after_delivery c.in-Any.field-0 past.records c.args.replica c.args.label form.1);
      of_kind = stands.of_kind;
    })

pub returns-in-MvRegister-clause-delivered : goal.returns-in-MvRegister-clause-delivered
returns-in-MvRegister-clause-delivered c = λ past stands told.
    let form = subst (λ k. IsFormOf k past) c.in-MvRegister.is stands.form in
    on_ok c.deliver.result c.deliver.ensures.siblings (λ receives. record {
      form = (
        form.0,
        after_delivery c.in-MvRegister.siblings c.deliver.new.self past c.args.replica c.args.label form.1 told.replica
            told.update (delivered_are_updates-there past.records c.args.label told.update) told.causal.2
            (told.causal.0, told.causal.1) receives c.deliver.ensures.others c.deliver.ensures.labels,
      );
      of_kind = stands.of_kind;
    })
