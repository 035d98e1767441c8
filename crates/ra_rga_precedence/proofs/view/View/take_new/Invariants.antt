use Rattle.std.proofs.Common.{◌≡◌, ◌<◌, ℕ, get_or}
use Rattle.ra_visibility.specs.Seen.{count_in}
use Rattle.ra_rga_precedence.specs.Situation.{operations_in}
use Rattle.ra_rga_precedence.specs.Views.{HasTaken, NeedOnly, IsBehind}
use Rattle.ra_rga_precedence.proofs.view.View.take_new.Given as goal

abbrev pub invariant-loop-replica : goal.invariant-loop-replica
invariant-loop-replica l = record {
  has : HasTaken l.tracker.now (operations_in l.operations) l.needed l.self;
  needs : NeedOnly l.tracker.now l.needed l.seen l.self;
  taken : (k : ℕ) → k < l.replica → get_or l.self.taken.items k 0 ≡ count_in l.seen k;
  behind : IsBehind l.seen l.self;
}
