use Rattle.std.proofs.Common.{◌≡◌, take, filter, length, ◌≤◌}
use Rattle.std.specs.Prelude.{not}
use Rattle.ra_labels.specs.Lists.{is_among}
use Rattle.ra_siblings.proofs.KeptLabels.{IsBehindAll}
use Rattle.ra_siblings.proofs.label_set.without.Given as goal

-- what is kept so far, and the replaced labels before `next` are less than all that are left
abbrev pub invariant-loop-label : goal.invariant-loop-label
invariant-loop-label l = record {
  kept : l.kept.items ≡ filter (λ m. not (is_among m l.replaced)) (take l.label-index l.labels);
  within : l.next ≤ length l.replaced;
  behind : IsBehindAll l.replaced l.next l.labels l.label-index;
}
