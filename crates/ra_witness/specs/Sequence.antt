-- Parts as callers see them, with the label's number.
use Rattle.std.specs.Prelude.{ℕ, Bool, true, false, List, [], ◌∷◌, Option, Some, if◌then◌else◌}
use Rattle.std.specs.List.{slice_get}
use Rattle.ra_labels.specs.declared.operation.Update.{Update}
use Rattle.ra_labels.specs.declared.operation.Update.TheVariants.{TakeOut}
use Rattle.ra_labels.specs.declared.operation.Update.TheVariants as updates
use Rattle.ra_labels.specs.Rewriting as rewriting
use Rattle.ra_witness.specs.declared.part_ref.Half.{Half}
use Rattle.ra_witness.specs.declared.part_ref.Half.TheVariants.{Whole, QueryHalf, UpdateHalf}
use Rattle.ra_witness.specs.declared.part_ref.PartRef.{PartRef}

abbrev pub half_of : rewriting.Half → Half
half_of rewriting.Whole = Whole
half_of rewriting.QueryHalf = QueryHalf
half_of rewriting.UpdateHalf = UpdateHalf

abbrev pub ref_of : rewriting.Part → PartRef
ref_of part = record { label = part.label.number; half = half_of part.half }

abbrev pub ref_to : ℕ → Half → PartRef
ref_to n which = record { label = n; half = which }

-- `true` if a label with this update has a query half as well
abbrev pub has_query_half : Option (Option Update) → Bool
has_query_half (Some (Some (TakeOut x ids))) = true
has_query_half (Some (Some (updates.List change))) = true
has_query_half _ = false

-- the parts of label n, given the labels' updates
abbrev pub refs_at : List (Option Update) → ℕ → List PartRef
refs_at updates n =
    if has_query_half (slice_get updates n) then ref_to n QueryHalf ∷ ref_to n UpdateHalf ∷ [] else ref_to n Whole ∷ []
