use Rattle.std.proofs.Common.{◌<◌, length, set, refl, ap, arith}
use Rattle.std.specs.Vec.{with_item}
use Rattle.std.proofs.lemmas.Option.{slice_get_read}
use Rattle.ra_labels.specs.declared.kind.Kind.TheVariants as variant
use Rattle.ra_rga_replica.specs.Edits.{element_at}
use Rattle.ra_labels.proofs.Results.{on_err_any}
use Rattle.ra_labels.specs.HistorySoFar.{history_of}
use Rattle.ra_witness.specs.declared.rga.Rga.{Rga}
use Rattle.ra_witness.proofs.Forms.{its_replica}
use Rattle.ra_witness.proofs.AdmittedElements.{makes_removal, unclocked}
use Rattle.ra_witness.proofs.ReplicaLists.{list_read, rga_same, settles_more}
use Rattle.ra_witness.proofs.TakenElements.{rga_removed}
use Rattle.ra_witness.proofs.rga.Rga.remove.Goals as goal

pub returns-in_err-steps-clause-same : goal.returns-in_err-steps-clause-same
returns-in_err-steps-clause-same c = λ initial_replicas records stands.
    let self = c.args.self.now in
    let lists = self.lists.items in
    let r = c.args.label.now.replica in
    let list = c.index_mut-list.result.now in
    let within : r < length lists = omega (arith, c.requires.replica, self.lists.ok.0) in
    let there = slice_get_read lists (length lists) r list refl within c.index_mut-list.ensures.value in
    on_err_any c.from_residual.result
    (rga_same self initial_replicas records stands r c.remove_own.new.self within (c.in_err-steps.ensures.err self.all.arrivals self.edits.items records r (stands.lists r list there)))

pub returns-clause-taken : goal.returns-clause-taken
returns-clause-taken c = λ initial_replicas records next stands offered admitted is.
    let self = c.args.self.now in
    let label = c.args.label.now in
    let lists = self.lists.items in
    let number = c.args.number in
    let x = element_at self.all.arrivals number in
    let list = c.index_mut-list.result.now in
    let by = its_replica (history_of variant.Rga initial_replicas records) next label offered in
    let was = stands.lists next.by list
    (list_read self initial_replicas records next label list stands offered c.index_mut-list.ensures.value) in
    let removes = makes_removal next.op x is in
    let no_clock = unclocked self.all self.edits.items records stands.elements initial_replicas next label offered x is in
    let own = c.in_ok-steps.ensures.removed self.all self.edits.items records next c.requires.there stands.elements was
    (ap (λ l. l.number) offered.becomes) removes no_clock offered.fits admitted in
    let new_list = c.remove_own.new.self in
    let grown : Rga = record {
      edits = c.push_reserved.new.self;
      all = self.all;
      lists = with_item self.lists label.replica new_list;
    } in (
      rga_removed self grown initial_replicas records next label stands offered number new_list removes no_clock c.requires.there admitted
          c.push_reserved.ensures.items refl (ap (λ r. set lists r new_list) by) own.0,
      settles_more was own.0 own.1,
    )
