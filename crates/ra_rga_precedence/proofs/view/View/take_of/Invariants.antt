use Rattle.std.proofs.Common.{◌≡◌, ◌≤◌, ℕ, length, get_or}
use Rattle.ra_rga_precedence.specs.Situation.{operations_in}
use Rattle.ra_rga_precedence.specs.Views.{HasTaken, NeedOnly}
use Rattle.ra_rga_precedence.proofs.view.View.take_of.Given as goal

abbrev pub invariant-loop-place : goal.invariant-loop-place
invariant-loop-place l = record {
  here : get_or l.self.taken.items l.replica 0 ≡ l.place;
  others : (k : ℕ) → ¬ (k ≡ l.replica) → get_or l.self.taken.items k 0 ≡ get_or l.fn.self.taken.items k 0;
  wide : length l.self.taken.items ≡ length l.fn.self.taken.items;
  long : length l.self.removed.items ≡ length l.fn.self.removed.items;
  has : HasTaken l.tracker.now (operations_in l.operations) l.needed l.fn.self
      → HasTaken l.tracker.now (operations_in l.operations) l.needed l.self;
  needs : NeedOnly l.tracker.now l.needed l.seen l.fn.self → NeedOnly l.tracker.now l.needed l.seen l.self;
  low : l.place ≤ l.place-end;
}
