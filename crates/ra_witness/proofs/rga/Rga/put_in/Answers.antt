use Rattle.std.proofs.Common.{◌≡◌, ◌<◌, ◌∷◌, ◌++◌, [], ◌∙◌, length, set, Some, refl, sym, ap, subst, arith}
use Rattle.std.specs.Vec.{with_item}
use Rattle.std.proofs.lemmas.Option.{slice_get_read}
use Rattle.ra_labels.specs.declared.kind.Kind.TheVariants as variant
use Rattle.ra_labels.specs.declared.operation.Update.TheVariants.{After}
use Rattle.ra_labels.specs.Insertion.{HasUpdate}
use Rattle.ra_labels.proofs.Results.{on_err_any}
use Rattle.ra_labels.specs.HistorySoFar.{history_of}
use Rattle.ra_rga_replica.specs.declared.edit.Edit.TheVariants.{PutsIn}
use Rattle.ra_rga_replica.specs.Edits.{element_at}
use Rattle.ra_witness.specs.declared.rga.Rga.{Rga}
use Rattle.ra_witness.proofs.Forms.{its_replica}
use Rattle.ra_witness.proofs.AdmittedElements.{makes_after}
use Rattle.ra_witness.proofs.AllElements.{rga_like}
use Rattle.ra_witness.proofs.ReplicaLists.{list_read, rga_same, settles_more}
use Rattle.ra_witness.proofs.TakenElements.{rga_put}
use Rattle.ra_witness.proofs.rga.Rga.put_in.Goals as goal

pub returns-in_err-reserve-clause-same : goal.returns-in_err-reserve-clause-same
returns-in_err-reserve-clause-same c = λ initial_replicas records stands.
    let self = c.args.self.now in
    let spared : Rga = record { edits = self.edits; all = c.reserve.new.self; lists = self.lists } in
    let left = c.in_err-reserve.ensures in
    on_err_any c.from_residual.result (rga_like self spared initial_replicas records (sym left.elements) (sym left.arrivals) refl refl stands)

pub put_own-requires-clause-anchor : goal.put_own-requires-clause-anchor
put_own-requires-clause-anchor c =
    let count = ap length c.in_ok-reserve.ensures.arrivals in
    omega (arith, c.requires.there, count)

pub insert-requires-clause-anchor : goal.insert-requires-clause-anchor
insert-requires-clause-anchor c =
    let count = ap length c.in_ok-reserve.ensures.arrivals in
    omega (arith, c.requires.there, count)

pub returns-in_err-steps-clause-same : goal.returns-in_err-steps-clause-same
returns-in_err-steps-clause-same c = λ initial_replicas records stands.
    let self = c.args.self.now in
    let spared : Rga = record { edits = self.edits; all = c.reserve.new.self; lists = self.lists } in
    let room = c.in_ok-reserve.ensures in
    let there_still = rga_like self spared initial_replicas records (sym room.elements) (sym room.arrivals) refl refl stands in
    let lists = self.lists.items in
    let r = c.args.label.now.replica in
    let list = c.index_mut-list.result.now in
    let within : r < length lists = omega (arith, c.requires.replica, self.lists.ok.0) in
    let there = slice_get_read lists (length lists) r list refl within c.index_mut-list.ensures.value in
    on_err_any c.from_residual-in_err-steps.result
    (rga_same spared initial_replicas records there_still r c.put_own.new.self within (c.in_err-steps.ensures.err spared.all.arrivals self.edits.items records r (there_still.lists r list there)))

pub returns-clause-taken : goal.returns-clause-taken
returns-clause-taken c = λ initial_replicas records next stands offered admitted is stamped.
    let self = c.args.self.now in
    let label = c.args.label.now in
    let lists = self.lists.items in
    let x = c.args.element in
    let m = c.args.behind in
    let all = c.reserve.new.self in
    let spared : Rga = record { edits = self.edits; all = all; lists = self.lists } in
    let room = c.in_ok-reserve.ensures in
    let there_still = rga_like self spared initial_replicas records (sym room.elements) (sym room.arrivals) refl refl stands in
    let list = c.index_mut-list.result.now in
    let by = its_replica (history_of variant.Rga initial_replicas records) next label offered in
    let was = there_still.lists next.by list
    (list_read self initial_replicas records next label list stands offered c.index_mut-list.ensures.value) in
    let count = ap length room.arrivals in
    let m_within : m < length all.arrivals = omega (arith, c.requires.there, count) in
    let anchor = element_at self.all.arrivals m in
    let m_is : element_at all.arrivals m ≡ anchor = ap (λ rs. element_at rs m) room.arrivals in
    let makes = subst (λ y. HasUpdate next.op (After y x)) (sym m_is) (makes_after next.op anchor x is) in
    let own = c.in_ok-steps.ensures.put self.edits.items records next x there_still.elements was
    (ap (λ l. l.number) offered.becomes) makes (sym (ap (λ l. l.stamp) offered.becomes) ∙ stamped) offered.fits admitted in
    let new_list = c.put_own.new.self in
    let grown : Rga = record {
      edits = c.push_reserved.new.self;
      all = c.insert.new.self;
      lists = with_item self.lists label.replica new_list;
    } in
    let pushed : c.push_reserved.new.self.items ≡ self.edits.items ++ Some (PutsIn (length all.arrivals)) ∷ [] =
    c.push_reserved.ensures.items ∙ ap (λ n. self.edits.items ++ Some (PutsIn n) ∷ []) c.len-number.ensures in (
      rga_put spared grown initial_replicas records next label there_still offered anchor x m c.args.stamp new_list is
          stamped m_within makes
          (λ n there same.
          c.requires.new n (omega (arith, there, count)) (ap (λ rs. element_at rs n) (sym room.arrivals) ∙ same))
          admitted pushed c.insert.ensures.arrivals c.insert.ensures.elements (ap (λ r. set lists r new_list) by) own.0,
      settles_more was own.0 own.1,
    )
