use Rattle.std.proofs.Common.{sym, subst}
use Rattle.std.specs.Prelude.{nat_eq}
use Rattle.std.specs.HashMap.{get}
use Rattle.ra_seqspec.specs.Rga.{RgaListKept}
use Rattle.ra_seqspec.proofs.Nodes.{kept_same}
use Rattle.ra_seqspec.proofs.rga.RgaList.apply_all.Goals as goal

pub invariant_of-self-in_err-reserve-2 : goal.invariant_of-self-in_err-reserve-2
invariant_of-self-in_err-reserve-2 c =
    subst (λ nodes. RgaListKept c.self.inside.first nodes (get nat_eq c.reserve-2.new.self)) (sym c.reserve.ensures.items)
    (kept_same c.self.inside.first c.self.inside.nodes.items _ (get nat_eq c.reserve-2.new.self) c.self.invariant
    (λ x. c.reserve-2.ensures.entries.2 x))

pub make_all-requires-clause-kept : goal.make_all-requires-clause-kept
make_all-requires-clause-kept c =
    subst (λ nodes. RgaListKept c.self.inside.first nodes (get nat_eq c.reserve-2.new.self)) (sym c.reserve.ensures.items)
    (kept_same c.self.inside.first c.self.inside.nodes.items _ (get nat_eq c.reserve-2.new.self) c.self.invariant
    (λ x. c.reserve-2.ensures.entries.2 x))
