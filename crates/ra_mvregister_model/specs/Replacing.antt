-- The specification of a multi-value register with labels as identifiers. A state is the list of the siblings' labels.
-- Each write is admitted; a read is right if it lists the values of the state.
use Rattle.std.specs.Prelude.{ℕ, Bool, not, List, [], ◌∷◌, filter, fold, IsTrue, IsPermutation, Option}
use Rattle.std.specs.List.{list_all, range_with_len}
use Rattle.ra_labels.specs.declared.operation.Op.{Op}
use Rattle.ra_labels.specs.declared.label.Label.{Label}
use Rattle.ra_labels.specs.Lists.{is_among}
use Rattle.ra_labels.specs.Records.{Records, label_count, labels_of}
use Rattle.ra_labels.specs.Visibility.{sees}
use Rattle.ra_labels.specs.Linearization.{extends}
use Rattle.ra_labels.specs.Siblings.{replaced_by, values_of, lists_values}

-- the siblings after write n: those that it does not replace, and n
abbrev pub replace : Records → List ℕ → ℕ → List ℕ
replace records siblings n = n ∷ filter (λ m. not (is_among m (replaced_by records n))) siblings

-- the siblings after the writes, one after another, on none
abbrev pub siblings_after : Records → List ℕ → List ℕ
siblings_after records writes = fold (replace records) [] writes

-- the labels that label n sees, in the order of the sequence
abbrev pub seen_in : Records → List ℕ → ℕ → List ℕ
seen_in records sequence n = filter (sees records n) sequence

-- `true` if the label is no read, or lists the values of the siblings after the writes that it sees
abbrev pub is_read_explained : (Op → Option ℕ) → (Op → Option (List ℕ)) → Records → List ℕ → Label → Bool
is_read_explained written listed records sequence label =
    let seen = seen_in records sequence label.number in
    lists_values listed label.op (values_of written records (siblings_after records seen))

-- `true` if each read is right after the writes that it sees, in the order of the sequence
abbrev pub explains_reads : (Op → Option ℕ) → (Op → Option (List ℕ)) → Records → List ℕ → Bool
explains_reads written listed records sequence =
    list_all (is_read_explained written listed records sequence) (labels_of records)

-- holds if the sequence has each label once, and none comes after one that sees it
pub record IsSequenceOf (records : Records) (sequence : List ℕ) : Type 0 where
  pub each_once : IsPermutation (range_with_len 0 (label_count records)) sequence
  pub visibility : IsTrue (extends (λ m n. sees records n m) sequence)
