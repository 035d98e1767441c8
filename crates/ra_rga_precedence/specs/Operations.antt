-- The operations of the labels, by number: what a label inserts and what it needs.
use Rattle.std.specs.Prelude.{◌==◌, ℕ, Bool, false, List, Option, Some, None, slice_get, option_and_then, if◌then◌else◌}
use Rattle.std.specs.Option.{option_map_or}
use Rattle.ra_labels.specs.declared.operation.Op.{Op}
use Rattle.ra_labels.specs.declared.operation.Op.TheVariants as op
use Rattle.ra_labels.specs.Visibility.{is_update}

-- the element that an operation inserts; none if it is no insertion
abbrev pub element_inserted : Op → Option ℕ
element_inserted (op.After anchor x) = Some x
element_inserted _ = None

-- the element that an operation needs: its anchor, unless that is the root, or what it removes
abbrev pub element_needed : Op → Option ℕ
element_needed (op.After anchor x) = if anchor == 0 then None else Some anchor
element_needed (op.RgaRemove x) = Some x
element_needed _ = None

-- the element that label n inserts; below, the one that it needs
abbrev pub inserted_at : List Op → ℕ → Option ℕ
inserted_at operations n = option_and_then element_inserted (slice_get operations n)

abbrev pub needed_at : List Op → ℕ → Option ℕ
needed_at operations n = option_and_then element_needed (slice_get operations n)

-- `true` if label n exists and is an update
abbrev pub updates_at : List Op → ℕ → Bool
updates_at operations n = option_map_or is_update (slice_get operations n) false

-- the list that an operation returned; none if it is no read
abbrev pub list_read : Op → Option (List ℕ)
list_read (op.RgaRead list) = Some list
list_read _ = None

-- the list that label n returned; none if it is no read
abbrev pub list_at : List Op → ℕ → Option (List ℕ)
list_at operations n = option_and_then list_read (slice_get operations n)
