use Rattle.std.proofs.Common.{sym, subst}
use Rattle.ra_labels.specs.declared.command.Command.TheVariants.{Join}
use Rattle.ra_labels.specs.HistorySoFar.{history_with, replicas_of}
use Rattle.ra_labels.proofs.Results.{on_ok}
use Rattle.ra_unordered.specs.Unordered.{IsKeptOf, IsFormOf}
use Rattle.ra_unordered.proofs.FirstReads as first_reads
use Rattle.ra_unordered.proofs.KeptSiblings.{after_join}
use Rattle.ra_unordered.proofs.unordered.Unordered.join.Goals as goal

pub returns-in-Any-clause-joined : goal.returns-in-Any-clause-joined
returns-in-Any-clause-joined c = λ past stands joins.
    let form = subst (λ k. IsFormOf k past) c.in-Any.is stands.form in
    subst (λ k. IsKeptOf k (history_with past (Join (replicas_of past) c.args.from))) (sym c.in-Any.is) (record {
      form = (form.0, first_reads.after_join c.in-Any.field-0 past.records (replicas_of past) c.args.from form.1);
      of_kind = stands.of_kind;
    })

pub returns-in-MvRegister-clause-joined : goal.returns-in-MvRegister-clause-joined
returns-in-MvRegister-clause-joined c = λ past stands joins.
    let form = subst (λ k. IsFormOf k past) c.in-MvRegister.is stands.form in
    on_ok c.join.result c.join.ensures.replicas (λ replicas. record {
      form = (
        form.0,
        after_join c.in-MvRegister.siblings c.join.new.self past c.args.from form.1 joins.there joins.beyond replicas
            c.join.ensures.labels,
      );
      of_kind = stands.of_kind;
    })
