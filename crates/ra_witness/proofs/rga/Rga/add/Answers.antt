use Rattle.std.proofs.Common.{◌∙◌, ◌++◌, ◌∷◌, [], None, refl, sym, ap, subst}
use Rattle.ra_labels.specs.declared.kind.Kind.TheVariants as variant
use Rattle.ra_labels.specs.HistorySoFar.{history_of}
use Rattle.ra_witness.specs.declared.rga.Rga.{Rga}
use Rattle.ra_witness.specs.Rga.{IsFoundFor}
use Rattle.ra_witness.proofs.Forms.{of_its_kind, its_op}
use Rattle.ra_witness.proofs.RgaCauses.{asks_only}
use Rattle.ra_witness.proofs.TakenElements.{rga_asked}
use Rattle.ra_witness.proofs.AllElements.{rga_reserved}
use Rattle.ra_witness.proofs.rga.Rga.add.Goals as goal

pub put_in-requires-clause-there : goal.put_in-requires-clause-there
put_in-requires-clause-there c =
    (subst (IsFoundFor c.args.self.now c.args.label.now) c.in-Anchor.is c.requires.found).0.there

pub put_in-requires-clause-new : goal.put_in-requires-clause-new
put_in-requires-clause-new c = (subst (IsFoundFor c.args.self.now c.args.label.now) c.in-Anchor.is c.requires.found).0.new

pub remove-requires-clause-there : goal.remove-requires-clause-there
remove-requires-clause-there c =
    (subst (IsFoundFor c.args.self.now c.args.label.now) c.in-Element.is c.requires.found).there

pub returns-in-Nothing-clause-taken : goal.returns-in-Nothing-clause-taken
returns-in-Nothing-clause-taken c = λ initial_replicas records next stands offered admitted.
    let self = c.args.self.now in
    let label = c.args.label.now in
    let past = history_of variant.Rga initial_replicas records in
    let grown : Rga = record { edits = c.push_reserved.new.self; all = self.all; lists = self.lists } in
    let same = its_op past next label offered in
    let no_edit = subst (IsFoundFor self label) c.in-Nothing.is c.requires.found in
    let asks = asks_only next.op (λ a x is. no_edit.no_insertion a x (same ∙ is))
    (λ x is. no_edit.no_removal x (same ∙ is)) (of_its_kind past next label offered) in
    rga_asked self grown initial_replicas records next label stands offered asks
    (c.push_reserved.ensures.items ∙ ap (λ ds. ds ++ None ∷ []) c.in_ok-reserve.ensures.items) refl refl

pub returns-in-Anchor-clause-taken : goal.returns-in-Anchor-clause-taken
returns-in-Anchor-clause-taken c = λ initial_replicas records next stands offered admitted.
    let known = subst (IsFoundFor c.args.self.now c.args.label.now) c.in-Anchor.is c.requires.found in
    c.put_in.ensures.taken initial_replicas records next
    (rga_reserved c.args.self.now c.reserve.new.self initial_replicas records c.in_ok-reserve.ensures.items stands) offered admitted
    (sym (its_op (history_of variant.Rga initial_replicas records) next c.args.label.now offered) ∙ known.0.inserts) known.1

pub returns-in-Anchor-clause-same : goal.returns-in-Anchor-clause-same
returns-in-Anchor-clause-same c = λ initial_replicas records stands.
    c.put_in.ensures.same initial_replicas records
    (rga_reserved c.args.self.now c.reserve.new.self initial_replicas records c.in_ok-reserve.ensures.items stands)

pub returns-in-Element-clause-taken : goal.returns-in-Element-clause-taken
returns-in-Element-clause-taken c = λ initial_replicas records next stands offered admitted.
    let known = subst (IsFoundFor c.args.self.now c.args.label.now) c.in-Element.is c.requires.found in
    c.remove.ensures.taken initial_replicas records next
    (rga_reserved c.args.self.now c.reserve.new.self initial_replicas records c.in_ok-reserve.ensures.items stands) offered admitted
    (sym (its_op (history_of variant.Rga initial_replicas records) next c.args.label.now offered) ∙ known.removes)

pub returns-in-Element-clause-same : goal.returns-in-Element-clause-same
returns-in-Element-clause-same c = λ initial_replicas records stands.
    c.remove.ensures.same initial_replicas records
    (rga_reserved c.args.self.now c.reserve.new.self initial_replicas records c.in_ok-reserve.ensures.items stands)
