use Rattle.std.proofs.Common.{◌≡◌, ℕ, ◌<◌, ◌≤◌, false, length}
use Rattle.ra_rga_precedence.specs.Marks.{lacks_need}
use Rattle.ra_rga_precedence.proofs.reported.shown_labels.Given as goal

abbrev pub invariant-loop-label : goal.invariant-loop-label
invariant-loop-label l = record {
  len : length l.shown.items ≡ l.label;
  within : l.label ≤ l.count;
  closed : (m : ℕ) → m < l.label → lacks_need l.needed l.seen m ≡ false;
}

abbrev pub invariant-loop-label-2 : goal.invariant-loop-label-2
invariant-loop-label-2 l = record {
  len : length l.shown.items ≡ l.count;
  closed : (m : ℕ) → m < l.count → lacks_need l.needed l.seen m ≡ false;
}
