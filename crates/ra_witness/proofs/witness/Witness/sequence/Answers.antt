use Rattle.std.proofs.Common.{ap, ◌∙◌}
use Rattle.std.specs.Prelude.{flat_map}
use Rattle.std.proofs.lemmas.Result.{IfOk-weaker}
use Rattle.ra_witness.specs.Sequence.{refs_at}
use Rattle.ra_witness.specs.Labels.{updates_by_number}
use Rattle.ra_witness.proofs.NamedParts.{refs-named}
use Rattle.ra_witness.proofs.witness.Witness.sequence.Goals as goal

pub returns : goal.returns
returns g c = λ past stands.
    let order = c.args.self.now.order in
    let listed = (g.met.O.LabelOrder g.world.𝓛 g.world.𝓜 g.world.𝓡 ((λ s x. x), (λ x. x), (λ x. x), λ x. x)).lists order past stands.order in
    IfOk-weaker c.part_refs.result _ _ (λ parts is.
    is ∙ ap (flat_map (refs_at (updates_by_number past.records))) listed ∙ refs-named past.kind past.records)
    (c.part_refs.ensures past stands.kept stands.fits)
