use Rattle.std.proofs.Common.{◌≡◌, take}
use Rattle.ra_list_replica.specs.Listing.{AreShownInTurn, hidden}
use Rattle.ra_list_replica.proofs.listing.hide_shown.Given as goal

-- the numbers so far are hidden, each of which was shown
abbrev pub invariant-loop-number : goal.invariant-loop-number
invariant-loop-number l = record {
  count : l.count ≡ l.number-index;
  hidden : l.marks ≡ hidden l.fn.marks (take l.number-index l.numbers);
  shown : AreShownInTurn l.fn.marks (take l.number-index l.numbers);
}
