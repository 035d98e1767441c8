use Rattle.ra_witness.proofs.DeliveredLasts.{is_new_write}
use Rattle.ra_witness.proofs.CountingUpdates.{kept-overriding}
use Rattle.ra_witness.proofs.theorems.states_after_overridable_delivery.Goals as goal

pub returns : goal.returns
returns c = λ writes lasts number_of states past to n write one kept are last once holds within there is new found.
    kept-overriding
    (record {
      of_two = one;
      kept = kept;
      are = are;
      are_last = last;
      once = once;
      holds = holds;
      within = within;
      there = there;
    })
    (is_new_write writes past.records to n write is new found)
