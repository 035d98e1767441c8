use Rattle.std.proofs.Common.{rules, ◌∷◌, Some, sym, ap, ◌∙◌}
use Rattle.atomic_table.specs.Table.{rest}
use Rattle.ra_ticket.proofs.slot.lift_out.Goals as goal

pub exchange-requires : goal.exchange-requires
exchange-requires g c = let full = c.requires.full in
    (search rules, (Some full.0, full.1 ∙ ap (λ cs. (0, Some full.0) ∷ rest cs) (sym full.1)))
