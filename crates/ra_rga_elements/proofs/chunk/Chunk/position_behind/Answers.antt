use Rattle.std.proofs.Common.{sym, arith, subst}
use Rattle.std.specs.Prelude.{Contains}
use Rattle.ra_rga_elements.specs.Entries.{numbers_in}
use Rattle.ra_rga_elements.specs.Chunk.{Chunk}
use Rattle.ra_rga_elements.proofs.ElementPlaces.{found_somewhere}
use Rattle.ra_rga_elements.proofs.chunk.Chunk.position_behind.Goals as goal

pub returns : goal.returns
returns c =
    absurd (found_somewhere c.self.inside.entries.items c.args.number
    (subst (λ (h : Chunk). Contains (numbers_in h.entries) c.args.number) (sym c.self.view_is) c.requires)
    (λ k there. c.loop-position.invariant.before k
    (omega (arith, c.loop-position-test.false, c.self.inside.entries.ok.0))))
