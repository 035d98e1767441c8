use Rattle.std.proofs.Common.{◌<◌, ◌∙◌, ◌∷◌, length, refl, sym, ap, subst, arith}
use Rattle.std.proofs.lemmas.Option.{slice_get_read}
use Rattle.std.proofs.lemmas.Result.{IfOk-weaker}
use Rattle.ra_labels.specs.declared.command.Command.TheVariants.{Deliver}
use Rattle.ra_labels.proofs.Results.{on_err}
use Rattle.ra_theorems.proofs.TheoremIndex.{delivered_are_updates-there}
use Rattle.ra_rga_replica.specs.Edits.{edit_at, AreElementsOf}
use Rattle.ra_rga_replica.specs.ReplicaList.{IsListOf}
use Rattle.ra_witness.proofs.ReplicaLists.{told_edit, rga_told, rga_same, settles_more}
use Rattle.ra_witness.proofs.rga.Rga.deliver.Goals as goal

pub bounds : goal.bounds
bounds c =
    let may = c.requires in
    omega (arith, ap length c.as_slice-edits.ensures.value, may.stands.elements.count, delivered_are_updates-there may.records c.args.label may.told.update)

pub unreachable-requires : goal.unreachable-requires
unreachable-requires c =
    let may = c.requires in
    let self = c.args.self.now in
    let (edit, found) = told_edit self.all self.edits.items may.records c.args.label may.stands.elements may.told.update in
    c.in_default.not-Some edit (ap (λ ds. edit_at ds c.args.label) c.as_slice-edits.ensures.value ∙ found)

pub deliver-requires : goal.deliver-requires
deliver-requires c =
    let may = c.requires in
    let self = c.args.self.now in
    let list = c.index_mut.result.now in
    let same = sym c.as_slice-edits.ensures.value in
    let there = slice_get_read self.lists.items (length self.lists.items) c.args.replica list refl (omega (arith, may.stands.replicas, may.told.replica)) c.index_mut.ensures.value in
    record {
      records = may.records;
      replica = c.args.replica;
      elements = subst (λ ds. AreElementsOf self.all ds may.records) same may.stands.elements;
      list_of = subst (λ ds. IsListOf list self.all.arrivals ds may.records c.args.replica) same (may.stands.lists c.args.replica list there);
      edit_of = c.in-Some.is;
      new = may.told.causal.0;
    }

pub returns-clause-delivered : goal.returns-clause-delivered
returns-clause-delivered c = λ initial_replicas records stands told.
    let self = c.args.self.now in
    let list = c.index_mut.result.now in
    let value = c.as_slice-edits.ensures.value in
    let there = slice_get_read self.lists.items (length self.lists.items) c.args.replica list refl (omega (arith, stands.replicas, told.replica)) c.index_mut.ensures.value in
    let before = subst (λ ds. IsListOf list self.all.arrivals ds records c.args.replica) (sym value) (stands.lists c.args.replica list there) in
    let elements = subst (λ ds. AreElementsOf self.all ds records) (sym value) stands.elements in
    IfOk-weaker c.deliver.result _ _ (λ steps got.
    let (own, count) = got records c.args.replica elements before c.in-Some.is told.causal.0 told.stamps in (
      rga_told self initial_replicas records stands c.args.replica c.deliver.new.self (omega (arith, stands.replicas, told.replica))
          c.args.label
          (subst (λ ds. IsListOf c.deliver.new.self self.all.arrivals ds (Deliver c.args.replica c.args.label ∷ records)
          c.args.replica) value own),
      settles_more before own count,
    ))
    c.deliver.ensures.got

pub returns-clause-same : goal.returns-clause-same
returns-clause-same c = λ initial_replicas records stands.
    let self = c.args.self.now in
    let list = c.index_mut.result.now in
    let within : c.args.replica < length self.lists.items = omega (arith, c.requires.stands.replicas, c.requires.told.replica) in
    let there = slice_get_read self.lists.items (length self.lists.items) c.args.replica list refl within c.index_mut.ensures.value in
    on_err c.deliver.result c.deliver.ensures.err (λ same.
    rga_same self initial_replicas records stands c.args.replica c.deliver.new.self within
    (same self.all.arrivals self.edits.items records c.args.replica (stands.lists c.args.replica list there)))
