use Rattle.std.proofs.Common.{◌≡◌, sym, ap, ◌∙◌}
use Rattle.ra_labels.specs.Specification.{State, Listed}
use Rattle.ra_seqspec.specs.Form.{state_of}
use Rattle.ra_seqspec.specs.Updates.{after_all}
use Rattle.ra_seqspec.proofs.SeveralUpdates.{after_listed, follows_where_ok}
use Rattle.ra_seqspec.proofs.state.State.apply_all.Goals as goal

pub returns-clause-state : goal.returns-clause-state
returns-clause-state c =
    let list = c.in-Rga.list in
    let updates = c.args.updates.now in
    let was : Listed list ≡ c.args.self.now = sym (ap state_of c.in-Rga.is) ∙ c.self.view_is in
    follows_where_ok c.apply_all.result (λ is. ap (λ l. Listed l) is ∙ sym (after_listed list updates)
    ∙ ap (λ (s : State). after_all s updates) was) c.apply_all.ensures.list
