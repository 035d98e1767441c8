use Rattle.std.proofs.Common.{take}
use Rattle.std.specs.Prelude.{IsTrue}
use Rattle.ra_list_replica.specs.Numbers.{AreNumbersOf}
use Rattle.ra_list_replica.specs.Listing.{AreAsLast}
use Rattle.ra_list_replica.proofs.Places.{IsLastAt}
use Rattle.ra_list_replica.proofs.finding.numbers_of.Given as goal

-- the elements so far are numbered and compared
abbrev pub invariant-loop-element : goal.invariant-loop-element
invariant-loop-element l = record {
  numbers : AreNumbersOf l.elements (take l.element-index l.list) l.numbers.items;
  as_last : AreAsLast l.last l.numbers.items l.places.items;
  follows : IsTrue l.follows → IsLastAt l.last l.numbers.items l.next;
}
