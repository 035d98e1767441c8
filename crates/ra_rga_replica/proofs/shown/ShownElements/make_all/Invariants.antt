use Rattle.std.proofs.Common.{◌≡◌, ℕ, take, length}
use Rattle.ra_rga_elements.specs.ElementList.{is_marked}
use Rattle.ra_rga_replica.specs.Cascade.{shown_after}
use Rattle.ra_rga_replica.proofs.shown.ShownElements.make_all.Given as goal

-- the edits of the labels so far are made
abbrev pub invariant-loop-label : goal.invariant-loop-label
invariant-loop-label l = record {
  shown : (k : ℕ) → is_marked l.self k
      ≡ shown_after l.edits (λ n. is_marked l.initial.self n) (take l.label-index l.labels) k;
  room : length l.self ≡ length l.initial.self;
}
