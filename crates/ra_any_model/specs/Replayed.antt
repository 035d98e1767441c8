-- The specification that explains reads which agree: it keeps the updates and answers what was read after them.
use Rattle.std.specs.Prelude.{ℕ, nat_eq, Bool, ◌&&◌, List, [], ◌∷◌, ◌++◌, Option, Some, is_some, unwrap_or}
use Rattle.std.specs.Option.{option_map_or}
use Rattle.std.specs.List.{find}
use Rattle.std.specs.Cmp.Lexicographic.{pointwise}
use Rattle.ra_labels.specs.declared.operation.Op.{Op}
use Rattle.ra_labels.specs.declared.label.Label.{Label}
use Rattle.ra_labels.specs.Records.{Records, labels_of}
use Rattle.ra_any_model.specs.Deterministic.{Deterministic}
use Rattle.ra_any_model.specs.Explained.{numbers_of, seen_updates_in}

-- `true` if the label is a read that sees exactly these updates, in execution order
abbrev pub is_read_after : (Op → Option ℕ) → Records → List ℕ → Label → Bool
is_read_after value_of records updates label =
    is_some (value_of label.op) && pointwise nat_eq (seen_updates_in records (numbers_of records) label.number) updates

-- the value of a read that sees exactly these updates; 0 if there is none
abbrev pub value_read_after : (Op → Option ℕ) → Records → List ℕ → ℕ
value_read_after value_of records updates =
    option_map_or (λ label. unwrap_or (value_of label.op) 0)
    (find (is_read_after value_of records updates) (labels_of records)) 0

-- the specification whose states are the labels that were applied, and that answers what the records read after them
abbrev pub replayed : (Op → Option ℕ) → Records → Deterministic (List ℕ)
replayed value_of records = record {
  initial = [];
  step = λ label applied. Some (applied ++ label ∷ []);
  answer = value_read_after value_of records;
}
