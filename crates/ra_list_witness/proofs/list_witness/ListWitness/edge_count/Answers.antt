use Rattle.std.proofs.Common.{◌≡◌, length, sym, ap, ◌∙◌}
use Rattle.std.proofs.lemmas.List.{length-map}
use Rattle.ra_list_witness.specs.ListWitness.{ListWitness}
use Rattle.ra_list_witness.specs.Named.{named}
use Rattle.ra_list_witness.proofs.list_witness.ListWitness.edge_count.Goals as goal

pub returns : goal.returns
returns c =
    let inside = c.self.inside in
    c.edge_count.ensures ∙ sym (length-map inside.order.edges (named inside.numbers))
    ∙ ap (λ (w : ListWitness). length w.edges) c.self.view_is
