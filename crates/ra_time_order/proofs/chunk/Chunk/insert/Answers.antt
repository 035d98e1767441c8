use Rattle.std.proofs.Common.{length, ap, arith}
use Rattle.ra_time_order.specs.Chunk.{Chunk}
use Rattle.ra_time_order.proofs.chunk.Chunk.insert.Goals as goal

pub insert-requires : goal.insert-requires
insert-requires c =
    omega (
      arith,
      c.position-position.ensures.among,
      ap (λ (s : Chunk). length s.entries) c.self.view_is,
      c.self.inside.entries.ok.0,
    )
