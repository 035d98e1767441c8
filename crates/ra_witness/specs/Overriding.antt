-- Kinds in which the last update on an element determines its state.
use Rattle.std.specs.Prelude.{ℕ, nat_eq, Bool, false, ◌==◌, ◌&&◌, List, [], Option, Some, None, get_or, map, option_map, if◌then◌else◌}
use Rattle.std.specs.Option.{option_map_or}
use Rattle.std.specs.Ordering.{is_lt}
use Rattle.ra_labels.specs.declared.label.Stamp.{Stamp}
use Rattle.ra_labels.specs.declared.operation.Update.{Update}
use Rattle.ra_labels.specs.NamedOrder.{stamp_cmp}
use Rattle.ra_witness.specs.declared.overriding.written.Written.{Written}
use Rattle.ra_witness.specs.declared.overriding.last_updates.LastUpdates.{LastUpdates}
use Rattle.ra_witness.specs.declared.overriding.element_numbers.ElementNumbers.{ElementNumbers}
use Rattle.ra_witness.specs.ElementNumbers.{element_of, number_in}
use Rattle.std.specs.HashMap.{get, hash_map_len}

-- the update of each label, if it has one
abbrev pub updates_written : List (Option Written) → List (Option Update)
updates_written writes = map (option_map (λ written. written.update)) writes

abbrev pub write_at : List (Option Written) → ℕ → Option Written
write_at writes n = get_or writes n None

-- the write to keep of the next label, which makes this update with this stamp
abbrev pub write_of : ElementNumbers → Update → Stamp → Written
write_of numbers update stamp = record {
  update = update;
  stamp = stamp;
  on = number_in (get nat_eq numbers.numbers) (hash_map_len numbers.numbers) (element_of update);
}

-- `true` if the label's stamp is above this one
abbrev pub is_above : List (Option Written) → Stamp → ℕ → Bool
is_above writes stamp n = option_map_or (λ other. is_lt (stamp_cmp stamp other.stamp)) (write_at writes n) false

-- the one with the greater stamp, of a label with this stamp and of the last label on its element, if there is one
abbrev pub later_of : List (Option Written) → Option ℕ → ℕ → Stamp → ℕ
later_of writes None label stamp = label
later_of writes (Some other) label stamp = if is_above writes stamp other then other else label

-- the label of the last update on the element, if there is one
abbrev pub label_on : List (Option ℕ) → ℕ → Option ℕ
label_on labels element = get_or labels element None

-- for each replica and element, the label of the last update on it
abbrev pub labels_in : List LastUpdates → List (List (Option ℕ))
labels_in lasts = map (λ last. last.labels.items) lasts

abbrev pub last_label : List (List (Option ℕ)) → ℕ → ℕ → Option ℕ
last_label lasts replica element = label_on (get_or lasts replica []) element

-- the label whose update determines the element after this one is delivered
abbrev pub counting : List (Option Written) → List (List (Option ℕ)) → ℕ → ℕ → Written → ℕ
counting writes lasts replica label written =
    later_of writes (last_label lasts replica written.on) label written.stamp

-- the last labels, after this label becomes the replica's last one on the element
abbrev pub last_with : List (List (Option ℕ)) → ℕ → ℕ → ℕ → ℕ → ℕ → Option ℕ
last_with lasts replica element label q c =
    if q == replica && c == element then Some label else last_label lasts q c
