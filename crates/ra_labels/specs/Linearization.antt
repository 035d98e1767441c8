-- RA-linearization of the rewritten history, by the three conditions of the PLDI 2019 paper.
use Rattle.std.specs.Prelude.{ℕ, ◌==◌, nat_lt, Bool, true, false, not, ◌&&◌, ◌||◌, List, [], ◌∷◌, filter, flat_map, is_some, IsTrue, IsPermutation}
use Rattle.std.specs.Option.{option_map_or}
use Rattle.std.specs.List.{list_all}
use Rattle.ra_labels.specs.declared.kind.Kind.{Kind}
use Rattle.ra_labels.specs.declared.operation.Update.{Update}
use Rattle.ra_labels.specs.Specification.{is_admitted, is_answered_after}
use Rattle.ra_labels.specs.Records.{Records, labels_of}
use Rattle.ra_labels.specs.Explained.{is_explained}
use Rattle.ra_labels.specs.Visibility.{sees}
use Rattle.ra_labels.specs.Rewriting.{Half, QueryHalf, UpdateHalf, Part, parts_of, update_of, query_of, updates_of}

-- the parts of all labels
abbrev pub parts_in : Records → List Part
parts_in records = flat_map parts_of (labels_of records)

-- `true` if p is an update and q's label sees p's label
abbrev pub is_visible_to : Records → Part → Part → Bool
is_visible_to records p q = is_some (update_of p.act) && sees records q.label.number p.label.number

-- `true` if p's label is an earlier one of the same replica as q's label
abbrev pub is_earlier_at_replica : Part → Part → Bool
is_earlier_at_replica p q = p.label.replica == q.label.replica && nat_lt p.label.number q.label.number

abbrev pub are_halves : Half → Half → Bool
are_halves QueryHalf UpdateHalf = true
are_halves _ _ = false

-- `true` if p and q are the query half and the update half of one label
abbrev pub is_query_half_of : Part → Part → Bool
is_query_half_of p q = p.label.number == q.label.number && are_halves p.half q.half

-- `true` if p must precede q
abbrev pub must_precede : Records → Part → Part → Bool
must_precede records p q = is_visible_to records p q || is_earlier_at_replica p q || is_query_half_of p q

-- `true` if no element of the list comes after one that it must precede
abbrev pub extends : {A : Type 0} → (A → A → Bool) → List A → Bool
extends precedes [] = true
extends precedes (p ∷ rest) = list_all (λ q. not (precedes q p)) rest && extends precedes rest

-- the updates that label n sees, in the sequence's order
abbrev pub visible_updates : Records → List Part → ℕ → List Update
visible_updates records sequence n = updates_of (filter (λ p. sees records n p.label.number) sequence)

-- `true` if the sequence extends the order of `must_precede`
abbrev pub extends_visibility : Records → List Part → Bool
extends_visibility records sequence = extends (must_precede records) sequence

-- `true` if the updates of the sequence are admitted in its order
abbrev pub updates_admitted : Kind → List Part → Bool
updates_admitted kind sequence = is_admitted kind (updates_of sequence)

-- `true` if the part is no query, or is admitted after the updates that its label sees, in the sequence's order
abbrev pub is_query_admitted : Kind → Records → List Part → Part → Bool
is_query_admitted kind records sequence part =
    option_map_or (is_answered_after kind (visible_updates records sequence part.label.number)) (query_of part.act) true

-- `true` if each query of the sequence is admitted after the updates that it sees, in the sequence's order
abbrev pub queries_admitted : Kind → Records → List Part → Bool
queries_admitted kind records sequence = list_all (is_query_admitted kind records sequence) sequence

-- Holds if the sequence is an RA-linearization of the rewritten history for the order `precedes`: it has each part once
-- and nothing else, and meets the three conditions; and the records meet the condition of their kind.
pub record IsRaLinearizationBy (precedes : Part → Part → Bool) (kind : Kind) (records : Records)
    (sequence : List Part) : Type 0 where
  pub each_part_once : IsPermutation (parts_in records) sequence
  pub visibility : IsTrue (extends precedes sequence)
  pub updates : IsTrue (updates_admitted kind sequence)
  pub queries : IsTrue (queries_admitted kind records sequence)
  pub explained : IsTrue (is_explained kind records)

-- holds if the sequence is an RA-linearization of the rewritten history
abbrev pub IsRaLinearization : Kind → Records → List Part → Type 0
IsRaLinearization kind records sequence = IsRaLinearizationBy (must_precede records) kind records sequence
