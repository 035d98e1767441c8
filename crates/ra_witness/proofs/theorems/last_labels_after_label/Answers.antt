use Rattle.std.proofs.Common.{[]}
use Rattle.ra_witness.proofs.TakenLabels.{writes-query, lasts-query, writes-update, numbers-update, lasts-update}
use Rattle.ra_witness.proofs.theorems.last_labels_after_label.Goals as goal

pub returns : goal.returns
returns c = record {
  query_writes = writes-query;
  query_lasts = lasts-query;
  writes = λ kind writes number_of count next records write sorts kept are below it extended once. (
    writes-update kind writes [] number_of count next records write sorts kept are below it extended once,
    numbers-update kind writes [] number_of count next records write sorts kept are below it extended once,
  );
  lasts = λ kind writes lasts lasts_now number_of count next records write sorts kept are below it extended once last same says.
      lasts-update kind writes lasts number_of count next records write sorts kept are below it extended once lasts_now last same says;
}
