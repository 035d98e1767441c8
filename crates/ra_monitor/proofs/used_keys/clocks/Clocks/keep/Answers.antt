use Rattle.std.proofs.Common.{◌≡◌, ℕ, List, sym, ap, ◌∙◌, subst, arith}
use Rattle.std.specs.Prelude.{◌||◌, nat_eq, if◌then◌else◌}
use Rattle.std.specs.List.{list_any, insert}
use Rattle.std.specs.List.Sorted.{IsNonDecreasing}
use Rattle.ra_monitor.specs.Clocks.{Clocks, IsIndexFor}
use Rattle.ra_monitor.proofs.ClockLookups.{one_more, sorted_with}
use Rattle.ra_monitor.proofs.used_keys.clocks.Clocks.keep.Goals as goal

put : (c : goal.After-insert) → c.insert.new.self.items ≡ insert c.self.inside.clocks.items c.index_of-index.result c.args.clock
put c =
    let xs = c.self.inside.clocks.items in
    c.insert.ensures.items
    ∙ ap (λ b. if b then insert xs c.index_of-index.result c.args.clock else xs)
    (c.insert.ensures.succeeds (omega (arith, c.requires.room, ap (λ (s : Clocks). s.room) c.self.view_is)))

pub returns : goal.returns
returns c =
    let same = ap (λ (s : Clocks). s.clocks) c.self.view_is in
    record {
      kept = λ other.
          ap (list_any (nat_eq other)) (put c)
          ∙ one_more c.self.inside.clocks.items c.index_of-index.result c.args.clock other
          ∙ ap (λ (xs : List ℕ). nat_eq other c.args.clock || list_any (nat_eq other) xs) same;
    }

pub invariant_of-self : goal.invariant_of-self
invariant_of-self c =
    subst IsNonDecreasing (sym (put c))
    (sorted_with c.self.inside.clocks.items c.index_of-index.result c.args.clock c.self.invariant
    (subst (λ (xs : List ℕ). IsIndexFor xs c.args.clock c.index_of-index.result) (sym (ap (λ (s : Clocks). s.clocks) c.self.view_is)) c.index_of-index.ensures))
