use Rattle.std.proofs.Common.{◌≡◌, take}
use Rattle.ra_list_replica.specs.Listing.{shown}
use Rattle.ra_list_replica.proofs.listing.show.Given as goal

-- the numbers so far are shown
abbrev pub invariant-loop-number : goal.invariant-loop-number
invariant-loop-number l = l.marks ≡ shown l.fn.marks (take l.number-index l.numbers)
