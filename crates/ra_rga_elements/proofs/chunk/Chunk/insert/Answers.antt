use Rattle.std.proofs.Common.{◌≡◌, ◌<◌, vec_capacity, rules}
use Rattle.std.specs.List.{insert}
use Rattle.ra_rga_elements.proofs.LeastStamps.{least_insert}
use Rattle.ra_rga_elements.proofs.chunk.Chunk.insert.Goals as goal

pub invariant_of-self : goal.invariant_of-self
invariant_of-self c =
    let made : c.insert.new.self.items ≡ insert c.self.inside.entries.items c.args.position c.args.entry =
    search rules in
    let wide : 1 < vec_capacity c.insert.new.self = search rules in
    (wide, least_insert _ _ _ _ _ _ c.self.invariant.1 made c.lesser-self-inside.ensures)
