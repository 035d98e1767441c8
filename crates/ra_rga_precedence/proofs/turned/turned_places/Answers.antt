use Rattle.std.proofs.Common.{◌∙◌, ℕ, sym, subst, inl, inr}
use Rattle.std.specs.Prelude.{Contains}
use Rattle.std.proofs.lemmas.List.Sorted.{Contains-permutation, IsPermutation-sym}
use Rattle.ra_rga_precedence.specs.Nearest.{IsTurned}
use Rattle.ra_rga_precedence.proofs.turned.turned_places.Goals as goal

pub loop-preserved : goal.loop-preserved
loop-preserved c = λ place there past replica its.
    elim (c.in_ok-open.ensures place there) [
      | inl older ↦ c.loop.invariant place older past replica its
      | inr turned ↦ (
        c.in-Some.other.items,
        c.in_ok-is_possible_list.ensures c.if-not-branch.false past replica its,
        subst (λ other. IsTurned c.args.list.now other place) c.deref-in-loop.ensures.value turned,
      )
    ]

pub returns : goal.returns
returns c = λ place there.
    c.loop.invariant place
    (Contains-permutation c.sort_unstable.new.self.items c.loop.places.items place
    (IsPermutation-sym c.loop.places.items c.sort_unstable.new.self.items c.sort_unstable.ensures.permutation) there)
