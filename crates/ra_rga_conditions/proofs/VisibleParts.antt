-- The visible updates of a sequence are those of the visible labels.
use Rattle.std.proofs.Common.{ℕ, List, filter, ap, ◌∙◌}
use Rattle.std.specs.Prelude.{Contains, IsPermutation}
use Rattle.std.proofs.lemmas.List.Sorted.{Contains-permutation, IsPermutation-sym}
use Rattle.ra_labels.specs.declared.kind.Kind.TheVariants.{Rga}
use Rattle.ra_labels.specs.declared.operation.Update.{Update}
use Rattle.ra_labels.specs.declared.label.Label.{Label}
use Rattle.ra_labels.specs.Records.{Records, labels_of}
use Rattle.ra_labels.specs.Visibility.{sees}
use Rattle.ra_labels.specs.Rewriting.{Part, update_of}
use Rattle.ra_labels.specs.Linearization.{parts_in, visible_updates}
use Rattle.ra_labels.proofs.Members.{kept-there, there-kept}
use Rattle.ra_theorems.proofs.FilterMaps.{mapped_from, mapped_there}
use Rattle.ra_some_order.specs.SomeOrder.{EachLabelIsOfKind}
use Rattle.ra_some_order.proofs.MadeUpdates.{part_makes}
use Rattle.ra_some_order.proofs.UpdateOrders.{update_in_order}
use Rattle.ra_rga_conditions.specs.Precedence.{rga_update, updates_seen}
use Rattle.ra_rga_conditions.proofs.RgaOperations.{rga_made, as_rga, made_update}

pub visible_seen : (records : Records) (sequence : List Part) → IsPermutation (parts_in records) sequence
    → EachLabelIsOfKind Rga records → (n : ℕ) (u : Update) → Contains (visible_updates records sequence n) u
    → Contains (updates_seen records n) u
visible_seen records sequence same of_kind n u there =
    let test = λ (p : Part). sees records n p.label.number in
    let (p, among, does) = mapped_from (λ (p : Part). update_of p.act) (filter test sequence) u there in
    let (in_sequence, seen) = there-kept test sequence p among in
    let (found, made) = part_makes records p u
    (Contains-permutation sequence (parts_in records) p (IsPermutation-sym (parts_in records) sequence same) in_sequence) does in
    mapped_there (λ (l : Label). rga_update l.op) (filter (λ (l : Label). sees records n l.number) (labels_of records)) p.label u
    (kept-there (λ (l : Label). sees records n l.number) (labels_of records) p.label found seen)
    (as_rga p.label.op u (rga_made p.label.op u (of_kind p.label found) made))

pub seen_visible : (records : Records) (sequence : List Part) → IsPermutation (parts_in records) sequence → (n : ℕ)
    (u : Update) → Contains (updates_seen records n) u → Contains (visible_updates records sequence n) u
seen_visible records sequence same n u there =
    let (label, visible, makes_it) = mapped_from (λ (l : Label). rga_update l.op)
    (filter (λ (l : Label). sees records n l.number) (labels_of records)) u there in
    let (found, seen) = there-kept (λ (l : Label). sees records n l.number) (labels_of records) label visible in
    let (p, among, of_label, does) = update_in_order records sequence same label u found (made_update label.op u makes_it) in
    mapped_there (λ (r : Part). update_of r.act) (filter (λ (r : Part). sees records n r.label.number) sequence) p u
    (kept-there (λ (r : Part). sees records n r.label.number) sequence p among
    (ap (λ (l : Label). sees records n l.number) of_label ∙ seen)) does
