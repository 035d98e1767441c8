use Rattle.ra_witness.proofs.DeliveredLasts.{is_new_write, counting-last, lasts-kept}
use Rattle.ra_witness.proofs.theorems.last_labels_after_delivery.Goals as goal

pub returns : goal.returns
returns c = record {
  counting = λ writes lasts number_of records to n write are last once within is new found.
      counting-last writes lasts number_of records to n are last once within (is_new_write writes records to n write is new found);
  kept = λ writes lasts lasts_now number_of records to n write are last once within is new found same says.
      lasts-kept writes lasts number_of records to n are last once within (is_new_write writes records to n write is new found) lasts_now same says;
}
