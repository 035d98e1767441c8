use Rattle.std.proofs.Common.{ap, ◌∙◌, rules}
use Rattle.ra_seqspec.specs.Form.{state_of}
use Rattle.ra_seqspec.proofs.Queries.{taken_out_state, grown_state}
use Rattle.ra_seqspec.proofs.state.State.apply.Goals.{in-Counter-Inc, in-Counter-Dec, in-Register-Write}
use Rattle.ra_seqspec.proofs.state.State.apply.Goals.{in-LwwSet-LwwAdd+in_ok-insert-in-LwwSet-LwwAdd}
use Rattle.ra_seqspec.proofs.state.State.apply.Goals.{in-LwwSet-LwwRemove, in-OrSet-OrAdd+in_ok-insert-in-OrSet-OrAdd}
use Rattle.ra_seqspec.proofs.state.State.apply.Goals.{in-OrSet-TakeOut}
use Rattle.ra_seqspec.proofs.state.State.apply.Goals as goal

pub returns-clause-step : goal.returns-clause-step
returns-clause-step c = elim c.match-self.branch [
  | in-Counter-Inc w ↦ search rules
  | in-Counter-Dec w ↦ search rules
  | in-Register-Write w ↦ search rules
  | goal.in-Any-AnyUpdate w ↦ search rules
  | goal.in-Any-AnyUpdate-2 w ↦ search rules
  | in-LwwSet-LwwAdd+in_ok-insert-in-LwwSet-LwwAdd w ↦ search rules
  | in-LwwSet-LwwRemove w ↦ search rules
  | in-OrSet-OrAdd+in_ok-insert-in-OrSet-OrAdd w ↦
      ap (λ inside. state_of inside.form) w.self-inside-is
      ∙ grown_state c.self.inside.form w.in-OrSet-OrAdd.pairs c.args.self.now c.args.update.now w.in-OrSet-OrAdd.element
      w.in-OrSet-OrAdd.id _ c.self.view_is w.in-OrSet-OrAdd.is-0 w.in-OrSet-OrAdd.is-1
      w.in_ok-insert-in-OrSet-OrAdd.ensures.keys
  | in-OrSet-TakeOut w ↦
      ap (λ inside. state_of inside.form) w.self-inside-is
      ∙ taken_out_state c.self.inside.form w.in-OrSet-TakeOut.pairs c.args.self.now c.args.update.now
      w.in-OrSet-TakeOut.element w.in-OrSet-TakeOut.ids _ _ c.self.view_is w.in-OrSet-TakeOut.is-0
      w.in-OrSet-TakeOut.is-1 w.as_slice.ensures w.take_out-in-OrSet-TakeOut.ensures.left
]
