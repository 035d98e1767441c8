use Rattle.std.proofs.Common.{◌∷◌, ◌++◌, [], List, ap, ◌∙◌, arith}
use Rattle.ra_witness.specs.declared.overriding.last_updates.LastUpdates.{LastUpdates}
use Rattle.ra_witness.specs.Overriding.{labels_in}
use Rattle.ra_witness.proofs.Lasts.{lasts-joined}
use Rattle.ra_witness.proofs.overriding.Overriding.join.Goals as goal

pub returns-in-Ok-copy_state-clause-lasts : goal.returns-in-Ok-copy_state-clause-lasts
returns-in-Ok-copy_state-clause-lasts c =
    ap labels_in (c.push_reserved.ensures.items ∙ ap (λ (ls : List LastUpdates). ls ++ c.in-Ok.last ∷ []) c.in_ok-reserve.ensures.items)
    ∙ lasts-joined c.args.self.now.lasts.items c.args.from c.index.result.now c.in-Ok.last (omega arith) c.index.ensures c.in-Ok.ensures
