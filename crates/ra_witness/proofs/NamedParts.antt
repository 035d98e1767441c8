-- Lemmas on the parts of the labels in the named order.
use Rattle.std.proofs.Common.{◌≡◌, ℕ, cond, List, [], ◌∷◌, ◌++◌, map, reverse, Option, Some, refl, sym, ap, ◌∙◌}
use Rattle.std.specs.Prelude.{flat_map, option_map}
use Rattle.std.specs.List.{AllByRecursion}
use Rattle.std.proofs.lemmas.Option.{slice_get-map}
use Rattle.std.proofs.lemmas.List.{map-append}
use Rattle.ra_labels.specs.declared.kind.Kind.{Kind}
use Rattle.ra_labels.specs.declared.operation.Op.{Op}
use Rattle.ra_labels.specs.declared.operation.Op.TheVariants.{Inc}
use Rattle.ra_labels.specs.declared.operation.Op.TheVariants as op
use Rattle.ra_labels.specs.declared.list_operation.ListOp.TheVariants as list
use Rattle.ra_labels.specs.declared.operation.Update.{Update}
use Rattle.ra_labels.specs.declared.label.Label.{Label}
use Rattle.ra_labels.specs.Records.{Records, labels_of}
use Rattle.ra_labels.specs.Rewriting.{acts_of, part_of, parts_of}
use Rattle.ra_labels.specs.NamedOrder.{named_labels, named_sequence}
use Rattle.ra_visibility.specs.Order.{numbers_in}
use Rattle.ra_witness.specs.declared.part_ref.Half.TheVariants.{Whole, QueryHalf, UpdateHalf}
use Rattle.ra_witness.specs.declared.part_ref.PartRef.{PartRef}
use Rattle.ra_witness.specs.Sequence.{ref_of, ref_to, has_query_half, refs_at}
use Rattle.ra_witness.specs.Labels.{update_in, updates_by_number}
use Rattle.ra_witness.proofs.NumberedLabels.{IsFoundIn, named_found}

abbrev refs_by : Option (Option Update) → ℕ → List PartRef
refs_by found n = cond (has_query_half found) (ref_to n QueryHalf ∷ ref_to n UpdateHalf ∷ []) (ref_to n Whole ∷ [])

refs_of : (label : Label) (op : Op) → refs_by (Some (update_in op)) label.number ≡ map ref_of (map (part_of label) (acts_of op))
refs_of label Inc = refl
refs_of label (op.List (list.Insert insertion)) = refl
refs_of label (op.List (list.Remove x)) = refl
refs_of label (op.List (list.Read elements)) = refl
refs_of label (op.List (list.Part elements)) = refl
refs_of label _ = refl

abbrev done_by : Label → Option Update
done_by label = update_in label.op

refs_found : (labels : List Label) (label : Label) → IsFoundIn labels label → refs_at (map done_by labels) label.number ≡ map ref_of (parts_of label)
refs_found labels label found =
    ap (λ o. refs_by o label.number) (slice_get-map done_by labels label.number ∙ ap (option_map done_by) found) ∙ refs_of label label.op

refs_in_order : (labels ls : List Label) → AllByRecursion (IsFoundIn labels) ls
    → flat_map (refs_at (map done_by labels)) (map (λ (l : Label). l.number) ls) ≡ map ref_of (flat_map parts_of ls)
refs_in_order labels [] found = refl
refs_in_order labels (l ∷ ls) found =
    ap (λ rs. rs ++ flat_map (refs_at (map done_by labels)) (map (λ (m : Label). m.number) ls)) (refs_found labels l found.0)
    ∙ ap (λ rs. map ref_of (parts_of l) ++ rs) (refs_in_order labels ls found.1)
    ∙ sym (map-append ref_of (parts_of l) (flat_map parts_of ls))

pub refs-named : (kind : Kind) (records : Records) → flat_map (refs_at (updates_by_number records)) (numbers_in kind records) ≡ map ref_of (named_sequence kind records)
refs-named kind records = refs_in_order (reverse (labels_of records)) (named_labels kind records) (named_found kind records)
