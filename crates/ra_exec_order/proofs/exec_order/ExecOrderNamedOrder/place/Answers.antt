use Rattle.std.proofs.Common.{refl, ◌∙◌}
use Rattle.ra_exec_order.proofs.LastPlaces.{last_fits}
use Rattle.ra_exec_order.proofs.exec_order.ExecOrderNamedOrder.place.Goals as goal

pub returns : goal.returns
returns c = λ past next stands comes.
    last_fits past.kind past.records next _ stands.0 (c.self.view_is ∙ stands.1) refl
