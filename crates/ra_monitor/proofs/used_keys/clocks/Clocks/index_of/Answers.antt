use Rattle.std.proofs.Common.{rules, ◌≡◌, ℕ, List, Bool, sym, ap, ◌∙◌, subst}
use Rattle.std.specs.Prelude.{nat_lt}
use Rattle.std.specs.List.Sorted.{IsPartitionedBy}
use Rattle.std.proofs.lemmas.List.Sorted.{IsPartitionPoint-from_clause, IsPartitionedBy-ltb}
use Rattle.ra_monitor.specs.Clocks.{Clocks, IsIndexFor}
use Rattle.ra_monitor.proofs.ClockLookups.{index_found}
use Rattle.ra_monitor.proofs.used_keys.clocks.Clocks.index_of.Goals as goal

pub returns-in-Some : goal.returns-in-Some
returns-in-Some c =
    let p : ℕ → Bool = λ own. nat_lt own c.args.clock in
    let xs = c.as_slice-in-Some.result.now in
    let kept : xs ≡ c.self.inside.clocks.items = c.as_slice-in-Some.ensures.value in
    let same : xs ≡ c.args.self.now.clocks = kept ∙ ap (λ (s : Clocks). s.clocks) c.self.view_is in
    let sorted : IsPartitionedBy p xs =
    subst (IsPartitionedBy p) (sym kept) (IsPartitionedBy-ltb (λ x. x) c.self.inside.clocks.items c.args.clock c.self.invariant) in
    let point = IsPartitionPoint-from_clause p xs c.partition_point.result c.partition_point.ensures.partitioned sorted (λ a r f k. search rules) in
    subst (λ (ys : List ℕ). IsIndexFor ys c.args.clock c.partition_point.result) same
    (index_found xs c.args.clock c.partition_point.result c.partition_point.ensures.bound point)
