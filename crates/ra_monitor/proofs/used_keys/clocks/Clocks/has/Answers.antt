use Rattle.std.proofs.Common.{◌≡◌, ℕ, List, length, get_or, sym, ap, ◌∙◌, subst, refl, arith}
use Rattle.std.specs.Prelude.{nat_eq}
use Rattle.std.specs.List.Sorted.{IsNonDecreasing}
use Rattle.std.proofs.lemmas.Bool.{ltb-true, ltb-false}
use Rattle.ra_monitor.specs.Clocks.{Clocks}
use Rattle.ra_monitor.proofs.ClockLookups.{found_at, not_found}
use Rattle.ra_monitor.proofs.used_keys.clocks.Clocks.has.Goals as goal

pub returns-in-Some : goal.returns-in-Some
returns-in-Some c =
    let xs = c.args.self.now.clocks in
    let clocks : c.deref.result.now ≡ xs = c.deref.ensures.value ∙ ap (λ (s : Clocks). s.clocks) c.self.view_is in
    let sorted : IsNonDecreasing xs = subst IsNonDecreasing (ap (λ (s : Clocks). s.clocks) c.self.view_is) c.self.invariant in
    found_at xs c.args.clock c.index_of.result c.in-Some.own.now (nat_eq c.in-Some.own.now c.args.clock) sorted c.index_of.ensures
    (omega (arith, ltb-true c.index_of.result (length c.deref.result.now) (sym c.in-Some.ensures.lookup.0), ap length clocks))
    (ap (λ (ys : List ℕ). get_or ys c.index_of.result 0) (sym clocks) ∙ sym (c.in-Some.ensures.lookup.3.1 0))
    refl

pub returns-in-None : goal.returns-in-None
returns-in-None c =
    let clocks : c.deref.result.now ≡ c.args.self.now.clocks = c.deref.ensures.value ∙ ap (λ (s : Clocks). s.clocks) c.self.view_is in
    not_found c.args.self.now.clocks c.args.clock c.index_of.result c.index_of.ensures
    (omega (arith, ltb-false c.index_of.result (length c.deref.result.now) (sym c.in-None.ensures.lookup.0), ap length clocks))
