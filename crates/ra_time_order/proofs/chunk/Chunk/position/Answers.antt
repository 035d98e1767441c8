use Rattle.std.proofs.Common.{rules, List, length, sym, ap, ◌∙◌, subst, arith}
use Rattle.std.specs.Prelude.{◌≡◌, true, false}
use Rattle.std.specs.List.Sorted.{IsPartitionedBy, IsPartitionPoint}
use Rattle.std.proofs.lemmas.List.Sorted.{IsPartitionPoint-from_clause}
use Rattle.ra_time_order.specs.declared.entry.Entry.{Entry}
use Rattle.ra_time_order.specs.Chunk.{Chunk}
use Rattle.ra_time_order.specs.Positions.{not_above}
use Rattle.ra_time_order.proofs.chunk.Chunk.position.Goals as goal

pub returns-clause-split : goal.returns-clause-split
returns-clause-split c = λ sorted.
    let p = not_above c.args.rank in
    let same : c.as_slice.result.now ≡ c.args.self.now.entries =
    c.as_slice.ensures.value ∙ ap (λ (s : Chunk). s.entries) c.self.view_is in
    let point = IsPartitionPoint-from_clause p c.as_slice.result.now c.partition_point.result
    c.partition_point.ensures.partitioned (subst (IsPartitionedBy p) (sym same) sorted) (λ a r f k. search rules) in
    record {
      among = omega (arith, c.partition_point.ensures.bound, ap (λ (xs : List Entry). length xs) same);
      split = subst (λ (xs : List Entry). IsPartitionPoint (λ entry. p entry ≡ true) (λ entry. p entry ≡ false) xs
          c.partition_point.result) same point;
    }
