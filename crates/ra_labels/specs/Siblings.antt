-- Siblings, the state of a multi-value register: the updates delivered to a replica that no other one of these sees.
-- Each update of such a history is a write. Which value an operation writes and which values it reads are parameters.
use Rattle.std.specs.Prelude.{ℕ, ◌==◌, Bool, true, false, not, ◌&&◌, List, [], ◌∷◌, filter, filter_map, Option, option_and_then, if◌then◌else◌}
use Rattle.std.specs.Option.{option_map_or}
use Rattle.std.specs.List.{list_all, list_any, range_with_len}
use Rattle.ra_labels.specs.declared.operation.Op.{Op}
use Rattle.ra_labels.specs.declared.command.Command.TheVariants.{Operate}
use Rattle.ra_labels.specs.Lists.{have_same_elements}
use Rattle.ra_labels.specs.Records.{Records, label_count, label_at}
use Rattle.ra_labels.specs.Visibility.{has_delivered, sees}

-- `true` if an update delivered to the replica sees label m
abbrev pub is_replaced : Records → ℕ → ℕ → Bool
is_replaced records replica m =
    list_any (λ n. has_delivered records replica n && sees records n m) (range_with_len 0 (label_count records))

-- `true` if label m was delivered to the replica, and no update delivered to the replica sees it
abbrev pub is_sibling : Records → ℕ → ℕ → Bool
is_sibling records replica m = has_delivered records replica m && not (is_replaced records replica m)

-- the siblings at the replica, in the order of their labels
abbrev pub siblings_at : Records → ℕ → List ℕ
siblings_at records replica = filter (is_sibling records replica) (range_with_len 0 (label_count records))

-- the siblings that label n's replica had when it issued n; if n is a write, it replaces them
abbrev pub replaced_by : Records → ℕ → List ℕ
replaced_by [] n = []
replaced_by (Operate by op clock ∷ before) n =
    if n == label_count before then siblings_at before by else replaced_by before n
replaced_by (_ ∷ before) n = replaced_by before n

-- the values that these labels write, in the order of the list
abbrev pub values_of : (Op → Option ℕ) → Records → List ℕ → List ℕ
values_of written records labels =
    filter_map (λ n. option_and_then (λ label. written label.op) (label_at records n)) labels

-- the values of the siblings at the replica
abbrev pub values_at : (Op → Option ℕ) → Records → ℕ → List ℕ
values_at written records replica = values_of written records (siblings_at records replica)

-- `true` if the operation is no read, or lists exactly these values
abbrev pub lists_values : (Op → Option (List ℕ)) → Op → List ℕ → Bool
lists_values listed op values = option_map_or (λ list. have_same_elements list values) (listed op) true

-- `true` if each read lists exactly the values of the siblings that its replica had just before
abbrev pub reads_list_siblings : (Op → Option ℕ) → (Op → Option (List ℕ)) → Records → Bool
reads_list_siblings written listed [] = true
reads_list_siblings written listed (Operate by op clock ∷ before) =
    lists_values listed op (values_at written before by) && reads_list_siblings written listed before
reads_list_siblings written listed (_ ∷ before) = reads_list_siblings written listed before
