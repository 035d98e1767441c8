-- The updates of a list's labels with the labels' numbers.
use Rattle.std.proofs.Common.{◌≡◌, ℕ, Bool, cond, List, [], ◌∷◌, ◌++◌, map, filter, refl, sym, ap, ◌∙◌, subst, inl, inr}
use Rattle.std.specs.Prelude.{flat_map, Contains}
use Rattle.std.proofs.lemmas.Bool.{cases_Bool, cond-true, cond-false}
use Rattle.std.proofs.lemmas.List.{map-append}
use Rattle.std.proofs.lemmas.List.Elements.{filter-append, filter_map-append}
use Rattle.ra_labels.specs.declared.list_operation.ListUpdate.{ListUpdate}
use Rattle.ra_labels.specs.declared.label.Label.{Label}
use Rattle.ra_labels.specs.Rewriting.{Part, Half, Act, acts_of, part_of, parts_of, update_of, updates_of}
use Rattle.ra_labels.specs.Insertion.{updates_among}
use Rattle.ra_labels.proofs.Members.{from_where, piece_of}
use Rattle.ra_theorems.proofs.ListUpdates.{change_of, changes_of}
use Rattle.ra_list_model.specs.Kept.{kept_by, updates_in}

-- the updates of these labels, each with its label's number
abbrev pub numbered_label : Label → List (ℕ × ListUpdate)
numbered_label label = map (λ c. (label.number, c)) (changes_of (updates_of (parts_of label)))

abbrev pub numbered_changes : List Label → List (ℕ × ListUpdate)
numbered_changes labels = flat_map numbered_label labels

-- all parts of a label have its number
parts_kept : (keep : ℕ → Bool) (label : Label) (acts : List (Half × Act))
    → filter (λ (p : Part). keep p.label.number) (map (part_of label) acts)
    ≡ cond (keep label.number) (map (part_of label) acts) []
parts_kept keep label [] = elim (cases_Bool (keep label.number)) [
  | inl is ↦ sym (cond-true (keep label.number) [] [] is)
  | inr is ↦ sym (cond-false (keep label.number) [] [] is)
]
parts_kept keep label (act ∷ acts) = elim (cases_Bool (keep label.number)) [
  | inl is ↦
      let rest = filter (λ (p : Part). keep p.label.number) (map (part_of label) acts) in
      cond-true (keep label.number) (part_of label act ∷ rest) rest is
      ∙ ap (λ ps. part_of label act ∷ ps) (parts_kept keep label acts
      ∙ cond-true (keep label.number) (map (part_of label) acts) [] is)
      ∙ sym (cond-true (keep label.number) (map (part_of label) (act ∷ acts)) [] is)
  | inr is ↦
      let rest = filter (λ (p : Part). keep p.label.number) (map (part_of label) acts) in
      cond-false (keep label.number) (part_of label act ∷ rest) rest is
      ∙ parts_kept keep label acts ∙ cond-false (keep label.number) (map (part_of label) acts) [] is
      ∙ sym (cond-false (keep label.number) (map (part_of label) (act ∷ acts)) [] is)
]

-- and so have its numbered updates
changes_kept : (keep : ℕ → Bool) (n : ℕ) (changes : List ListUpdate)
    → updates_in (kept_by keep (map (λ c. (n, c)) changes)) ≡ cond (keep n) changes []
changes_kept keep n [] = elim (cases_Bool (keep n)) [
  | inl is ↦ sym (cond-true (keep n) [] [] is)
  | inr is ↦ sym (cond-false (keep n) [] [] is)
]
changes_kept keep n (c ∷ changes) = elim (cases_Bool (keep n)) [
  | inl is ↦
      let rest = kept_by keep (map (λ d. (n, d)) changes) in
      ap updates_in (cond-true (keep n) ((n, c) ∷ rest) rest is)
      ∙ ap (λ cs. c ∷ cs) (changes_kept keep n changes ∙ cond-true (keep n) changes [] is)
      ∙ sym (cond-true (keep n) (c ∷ changes) [] is)
  | inr is ↦
      let rest = kept_by keep (map (λ d. (n, d)) changes) in
      ap updates_in (cond-false (keep n) ((n, c) ∷ rest) rest is)
      ∙ changes_kept keep n changes ∙ cond-false (keep n) changes [] is
      ∙ sym (cond-false (keep n) (c ∷ changes) [] is)
]

one_label : (keep : ℕ → Bool) (label : Label) → updates_in (kept_by keep (numbered_label label))
    ≡ changes_of (updates_of (filter (λ (p : Part). keep p.label.number) (parts_of label)))
one_label keep label =
    changes_kept keep label.number (changes_of (updates_of (parts_of label)))
    ∙ elim (cases_Bool (keep label.number)) [
      | inl is ↦
          cond-true (keep label.number) (changes_of (updates_of (parts_of label))) [] is
          ∙ ap (λ ps. changes_of (updates_of ps)) (sym (parts_kept keep label (acts_of label.op)
          ∙ cond-true (keep label.number) (parts_of label) [] is))
      | inr is ↦
          cond-false (keep label.number) (changes_of (updates_of (parts_of label))) [] is
          ∙ ap (λ ps. changes_of (updates_of ps)) (sym (parts_kept keep label (acts_of label.op)
          ∙ cond-false (keep label.number) (parts_of label) [] is))
    ]

-- the numbered updates that are kept are the updates of the labels that pass
pub numbered_kept : (keep : ℕ → Bool) (labels : List Label)
    → updates_in (kept_by keep (numbered_changes labels)) ≡ changes_of (updates_among keep labels)
numbered_kept keep [] = refl
numbered_kept keep (label ∷ labels) =
    let test = λ (p : Part). keep p.label.number in
    ap updates_in (filter-append (λ (e : ℕ × ListUpdate). keep e.0) (numbered_label label) (numbered_changes labels))
    ∙ map-append (λ (e : ℕ × ListUpdate). e.1) (kept_by keep (numbered_label label))
    (kept_by keep (numbered_changes labels))
    ∙ ap (λ cs. cs ++ updates_in (kept_by keep (numbered_changes labels))) (one_label keep label)
    ∙ ap (λ cs. changes_of (updates_of (filter test (parts_of label))) ++ cs) (numbered_kept keep labels)
    ∙ sym (ap (λ ps. changes_of (updates_of ps)) (filter-append test (parts_of label) (flat_map parts_of labels))
    ∙ ap changes_of (filter_map-append (λ (p : Part). update_of p.act) (filter test (parts_of label))
    (filter test (flat_map parts_of labels)))
    ∙ filter_map-append change_of (updates_of (filter test (parts_of label))) (updates_among keep labels))

-- all of them are those of all labels
pub numbered_all : (labels : List Label)
    → updates_in (numbered_changes labels) ≡ changes_of (updates_of (flat_map parts_of labels))
numbered_all [] = refl
numbered_all (label ∷ labels) =
    map-append (λ (e : ℕ × ListUpdate). e.1) (numbered_label label) (numbered_changes labels)
    ∙ ap (λ cs. cs ++ updates_in (numbered_changes labels))
    (mapped_back label.number (changes_of (updates_of (parts_of label))))
    ∙ ap (λ cs. changes_of (updates_of (parts_of label)) ++ cs) (numbered_all labels)
    ∙ sym (ap changes_of (filter_map-append (λ (p : Part). update_of p.act) (parts_of label) (flat_map parts_of labels))
    ∙ filter_map-append change_of (updates_of (parts_of label)) (updates_of (flat_map parts_of labels)))
  where
    mapped_back : (n : ℕ) (changes : List ListUpdate) → updates_in (map (λ c. (n, c)) changes) ≡ changes
    mapped_back n [] = refl
    mapped_back n (c ∷ changes) = ap (λ cs. c ∷ cs) (mapped_back n changes)

-- a numbered update is one of the label with this number
pub record IsOfLabel (labels : List Label) (n : ℕ) (change : ListUpdate) : Type 0 where
  pub label : Label
  pub there : Contains labels label
  pub number : label.number ≡ n
  pub makes : Contains (changes_of (updates_of (parts_of label))) change

pub of_label : (labels : List Label) (n : ℕ) (change : ListUpdate) → Contains (numbered_changes labels) (n, change)
    → IsOfLabel labels n change
of_label labels n change there =
    let (label, found, inside) = piece_of numbered_label labels (n, change) there in
    let (c, made, is) = from_where (λ (d : ListUpdate). (label.number, d)) (changes_of (updates_of (parts_of label)))
    (n, change) inside in
    record {
      label = label;
      there = found;
      number = ap (λ (e : ℕ × ListUpdate). e.0) is;
      makes = subst (Contains (changes_of (updates_of (parts_of label)))) (ap (λ (e : ℕ × ListUpdate). e.1) is) made;
    }
