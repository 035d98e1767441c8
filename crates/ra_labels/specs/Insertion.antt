-- Vocabulary of the theorems about one more label, and about the labels that pass a test.
use Rattle.std.specs.Prelude.{◌≡◌, ℕ, ◌==◌, Bool, true, ◌||◌, List, filter, flat_map, Contains}
use Rattle.ra_labels.specs.declared.kind.Kind.{Kind}
use Rattle.ra_labels.specs.declared.operation.Op.{Op}
use Rattle.ra_labels.specs.declared.operation.Update.{Update}
use Rattle.ra_labels.specs.declared.operation.Query.{Query}
use Rattle.ra_labels.specs.declared.label.Label.{Label}
use Rattle.ra_labels.specs.Records.{Records}
use Rattle.ra_labels.specs.Visibility.{has_delivered}
use Rattle.ra_labels.specs.Rewriting.{Part, Half, Does, Asks, acts_of, parts_of, updates_of}
use Rattle.ra_labels.specs.Linearization.{must_precede, visible_updates}
use Rattle.ra_labels.specs.NamedOrder.{named_labels}
use Rattle.ra_labels.specs.TheoremTerms.{StandsBefore, IsAnsweredAfter}

-- the updates of those of these labels that pass the test
abbrev pub updates_among : (ℕ → Bool) → List Label → List Update
updates_among passes labels = updates_of (filter (λ p. passes p.label.number) (flat_map parts_of labels))

-- the updates of the labels that pass the test, in the named order
abbrev pub updates_passing : Kind → Records → (ℕ → Bool) → List Update
updates_passing kind records passes = updates_among passes (named_labels kind records)

-- `true` if label m passes the test or is label n
abbrev pub or_label : (ℕ → Bool) → ℕ → ℕ → Bool
or_label passes n m = passes m || m == n

-- the updates of these labels that were delivered to the replica
abbrev pub delivered_updates_of : Records → ℕ → List Label → List Update
delivered_updates_of records replica labels = updates_among (has_delivered records replica) labels

-- the updates delivered to the replica, in the named order
abbrev pub delivered_updates : Kind → Records → ℕ → List Update
delivered_updates kind records replica = updates_passing kind records (has_delivered records replica)

-- holds if the operation or its update half does the update
abbrev pub HasUpdate : Op → Update → Type 0
HasUpdate op update = (half : Half) × Contains (acts_of op) (half, Does update)

-- holds if in the sequence each part of the label comes after all parts that must precede it
abbrev pub IsPlacedInOrder : Records → Label → List Part → Type 0
IsPlacedInOrder records label sequence =
    (p q : Part) → Contains sequence p → Contains (parts_of label) q → must_precede records p q ≡ true
    → StandsBefore p q sequence

-- holds if each query of the label is answered right after the updates that the label sees, in the sequence's order
abbrev pub OwnQueriesAnswered : Kind → Records → Label → List Part → Type 0
OwnQueriesAnswered kind records label sequence =
    (part : Part) (query : Query) → Contains (parts_of label) part → part.act ≡ Asks query
    → IsAnsweredAfter kind (visible_updates records sequence label.number) query
