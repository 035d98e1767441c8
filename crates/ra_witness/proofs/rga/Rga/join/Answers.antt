use Rattle.std.proofs.Common.{◌∙◌, length, Some, refl, sym, ap, arith}
use Rattle.std.proofs.lemmas.Option.{slice_get_read}
use Rattle.ra_labels.proofs.Results.{on_err_any}
use Rattle.ra_witness.specs.declared.rga.Rga.{Rga}
use Rattle.ra_witness.proofs.AllElements.{rga_like}
use Rattle.ra_witness.proofs.ReplicaLists.{rga_joined}
use Rattle.ra_witness.proofs.rga.Rga.join.Goals as goal

pub returns-in_err-push-clause-same : goal.returns-in_err-push-clause-same
returns-in_err-push-clause-same c = λ initial_replicas records stands.
    let self = c.args.self.now in
    let new : Rga = record { edits = self.edits; all = self.all; lists = c.push.new.self } in
    on_err_any c.from_residual-in_err-push.result
    (rga_like self new initial_replicas records refl refl refl (sym c.in_err-push.ensures.items) stands)

pub returns-clause-joined : goal.returns-clause-joined
returns-clause-joined c = λ initial_replicas records stands joins.
    let self = c.args.self.now in
    let new : Rga = record { edits = self.edits; all = self.all; lists = c.push.new.self } in
    let list = c.index.result.now in
    let there = slice_get_read self.lists.items (length self.lists.items) c.args.from list refl (omega (arith, stands.replicas, joins.there)) c.index.ensures in
    rga_joined self new initial_replicas records c.args.from c.in_ok-list.list stands joins (there ∙ ap Some (sym c.in_ok-list.ensures))
    refl refl c.in_ok-push.ensures.items
