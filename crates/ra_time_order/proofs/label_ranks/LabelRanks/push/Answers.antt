use Rattle.std.proofs.Common.{◌≡◌, ℕ, ◌+◌, ◌<◌, List, length, sym, ap, ◌∙◌, subst}
use Rattle.std.specs.List.{insert}
use Rattle.std.specs.List.Sorted.{IsPartitionedBy}
use Rattle.ra_labels.specs.declared.label.Stamp.{Stamp}
use Rattle.ra_time_order.specs.declared.entry.Entry.{Entry}
use Rattle.ra_time_order.specs.Positions.{not_above, IsPositionOf}
use Rattle.ra_time_order.specs.Sorted.{Sorted}
use Rattle.ra_time_order.specs.LabelRanks.{sorted_ranks}
use Rattle.ra_time_order.proofs.SortedRanks.{pushed_kept, pushed_counted, pushed_there, position_there}
use Rattle.ra_time_order.proofs.label_ranks.LabelRanks.push.Goals as goal

-- the labels with one more of this rank
abbrev Inserted : Stamp → List Entry → List Entry → Type 0
Inserted rank entries new = IsPartitionedBy (not_above rank) entries → (position : ℕ)
    × IsPositionOf rank entries position × (new ≡ insert entries position (record { rank = rank; label = length entries }))

pub invariant_of-self : goal.invariant_of-self
invariant_of-self c =
    pushed_kept c.self.inside.ranks.items c.self.inside.last c.args.rank _ _ c.self.invariant
    (subst (λ (s : Sorted). length s.entries < 4294967295) (sym c.self.view_is) c.requires.few)
    c.greater-self-inside.ensures c.push_reserved.ensures.items

pub returns-clause-one : goal.returns-clause-one
returns-clause-one c =
    ap (λ rs. length (sorted_ranks rs)) c.push_reserved.ensures.items
    ∙ pushed_counted c.self.inside.ranks.items c.args.rank
    ∙ ap (λ (s : Sorted). length s.entries + 1) c.self.view_is

pub returns-clause-inserted : goal.returns-clause-inserted
returns-clause-inserted c =
    subst (λ (s : Sorted). Inserted c.args.rank s.entries (sorted_ranks c.push_reserved.new.self.items)) c.self.view_is
    (λ split.
    let ranks = c.self.inside.ranks.items in
    let found = position_there c.args.rank (sorted_ranks ranks) split in
    (found.0, found.1, ap sorted_ranks c.push_reserved.ensures.items ∙ pushed_there ranks c.args.rank found.0 found.1))
