use Rattle.ra_rga_replica.proofs.LaterRecords.{insertion-stays, removal-stays, query-stays, delivery-stays, join-stays}
use Rattle.ra_rga_replica.proofs.theorems.list_unchanged_by_others.Goals as goal

pub returns : goal.returns
returns c = record {
  insertion = insertion-stays;
  removal = λ list all edits records replica number next stand held other makes.
      removal-stays list all edits records replica number next stand held other;
  query = query-stays;
  delivery = delivery-stays;
  join = join-stays;
}
