use Rattle.std.proofs.Common.{◌≡◌, ℕ, ◌-◌, Bool, length}
use Rattle.ra_labels.specs.Records.{Records}
use Rattle.ra_rga_elements.specs.ElementList.{ElementList, is_marked}
use Rattle.ra_rga_replica.specs.NumberSet.{was_marked}
use Rattle.ra_rga_replica.specs.Cascade.{shown_after, IsAmidst}
use Rattle.ra_rga_replica.proofs.cascade.Cascade.follow.Given as goal

-- some labels have followed, and the invariant is that of the initial list
abbrev pub invariant-loop-label : goal.invariant-loop-label
invariant-loop-label l = record {
  followed : (all : ElementList) (records : Records) (had settled : ℕ → Bool) (first : ℕ)
      → IsAmidst (shown_after l.edits (λ n. is_marked l.shown n) l.initial.self.labels.items)
      l.initial.there.marks.items l.initial.self.labels.items l.initial.self.ready.items l.waiting all l.edits records had
      settled first
      → IsAmidst (shown_after l.edits (λ n. is_marked l.shown n) l.self.labels.items) l.there.marks.items
      l.self.labels.items l.self.ready.items l.waiting all l.edits records had settled first;
  put : (number : ℕ) → was_marked l.there.marks.items l.self.put.items number
      ≡ was_marked l.initial.there.marks.items l.initial.self.put.items number;
}

abbrev pub decreases-loop-label : goal.decreases-loop-label
decreases-loop-label l = length l.edits - length l.self.labels.items
