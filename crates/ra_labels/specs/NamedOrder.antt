-- The named order of each kind, and the sequence of all parts in that order.
use Rattle.std.specs.Prelude.{List, [], ◌∷◌, filter, flat_map, unwrap_or, if◌then◌else◌}
use Rattle.std.specs.Option.{option_map_or}
use Rattle.std.specs.Ordering.{nat_cmp, ordering_then, is_lt}
use Rattle.std.specs.declared.cmp.Ordering.{Ordering}
use Rattle.ra_labels.specs.declared.kind.Kind.{Kind}
use Rattle.ra_labels.specs.declared.kind.Kind.TheVariants.{Counter, Register, LwwSet, OrSet, Rga}
use Rattle.ra_labels.specs.declared.kind.Kind.TheVariants as kinds
use Rattle.ra_labels.specs.declared.label.Stamp.{Stamp}
use Rattle.ra_labels.specs.declared.label.Label.{Label}
use Rattle.ra_labels.specs.Records.{Records, labels_of}
use Rattle.ra_labels.specs.Visibility.{sees}
use Rattle.ra_labels.specs.Rewriting.{Part, parts_of}

-- the lowest rank, below every stamp whose clock is at least 1
abbrev pub lowest_rank : Stamp
lowest_rank = record { clock = 0; replica = 0 }

-- the order of stamps: by clock, then by replica
abbrev pub stamp_cmp : Stamp → Stamp → Ordering
stamp_cmp s t = ordering_then (nat_cmp s.clock t.clock) (nat_cmp s.replica t.replica)

abbrev pub greater_of : Stamp → Stamp → Stamp
greater_of s t = if is_lt (stamp_cmp s t) then t else s

-- the greatest own stamp of these labels; the lowest rank if none has one
abbrev pub greatest_stamp : List Label → Stamp
greatest_stamp [] = lowest_rank
greatest_stamp (label ∷ labels) =
    option_map_or (greater_of (greatest_stamp labels)) label.stamp (greatest_stamp labels)

-- the label's own stamp; without one, the greatest own stamp of the labels that it sees
abbrev pub timestamp_of : Records → Label → Stamp
timestamp_of records label =
    let seen = filter (λ other. sees records label.number other.number) (labels_of records) in
    unwrap_or label.stamp (greatest_stamp seen)

-- what labels are sorted by before their number: the lowest rank in execution order, else the timestamp
abbrev pub rank_of : Kind → Records → Label → Stamp
rank_of Counter records label = lowest_rank
rank_of Register records label = timestamp_of records label
rank_of LwwSet records label = timestamp_of records label
rank_of OrSet records label = lowest_rank
rank_of Rga records label = timestamp_of records label
rank_of kinds.List records label = lowest_rank
rank_of kinds.Any records label = lowest_rank
rank_of kinds.MvRegister records label = lowest_rank

-- the order of labels: by rank, then by number
abbrev pub label_cmp : Kind → Records → Label → Label → Ordering
label_cmp kind records l m =
    ordering_then (stamp_cmp (rank_of kind records l) (rank_of kind records m)) (nat_cmp l.number m.number)

-- the list with x inserted before the first element that x is below
abbrev pub insert_by : {A : Type 0} → (A → A → Ordering) → A → List A → List A
insert_by cmp x [] = x ∷ []
insert_by cmp x (y ∷ ys) = if is_lt (cmp x y) then x ∷ y ∷ ys else y ∷ insert_by cmp x ys

abbrev pub sort_by : {A : Type 0} → (A → A → Ordering) → List A → List A
sort_by cmp [] = []
sort_by cmp (x ∷ xs) = insert_by cmp x (sort_by cmp xs)

-- the labels in the named order
abbrev pub named_labels : Kind → Records → List Label
named_labels kind records = sort_by (label_cmp kind records) (labels_of records)

-- the parts in the named order, a query half directly before its update half
abbrev pub named_sequence : Kind → Records → List Part
named_sequence kind records = flat_map parts_of (named_labels kind records)
