use Rattle.std.proofs.Common.{ap, length}
use Rattle.ra_reported.proofs.Listed.{none_listed}
use Rattle.ra_reported.proofs.reading.Reading.new.Goals as goal

pub returns-clause-stands : goal.returns-clause-stands
returns-clause-stands c = λ kind log. record {
  tracker = c.in_ok-new.ensures.stands kind;
  taken = record { stamps = c.in_ok-new-2.ensures.stamps; identifiers = c.in_ok-new-2.ensures.identifiers };
  count = ap length c.new-3.ensures.items;
  listed = none_listed log c.new-3.result.items c.new-3.ensures.items;
}
