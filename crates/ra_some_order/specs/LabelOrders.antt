-- Orders of all labels, queries too, and conditions that name fewer labels.
use Rattle.std.specs.Prelude.{◌≡◌, ◌<◌, ◌≤◌, ◌⊎◌, ℕ, true, List, map, Contains}
use Rattle.ra_labels.specs.declared.kind.Kind.{Kind}
use Rattle.ra_labels.specs.Edges.{IsBefore}
use Rattle.ra_labels.specs.Records.{Records, label_count}
use Rattle.ra_labels.specs.Visibility.{sees}
use Rattle.ra_labels.specs.Places.{issuer_of}
use Rattle.ra_labels.specs.Rewriting.{Part}
use Rattle.ra_labels.specs.Linearization.{IsRaLinearization}
use Rattle.ra_precedence.specs.Conditions.{Condition, HasEachBelow}

-- holds if the list has the number of each label once, after the updates that the label sees and the earlier labels of
-- its replica
pub record IsOrderOfLabels (records : Records) (order : List ℕ) : Type 0 where
  pub each : HasEachBelow (label_count records) order
  pub seen : (n m : ℕ) → n < label_count records → sees records n m ≡ true → IsBefore order m n
  pub replicas : (m n : ℕ) → m < n → n < label_count records → issuer_of records m ≡ issuer_of records n
      → IsBefore order m n

-- the numbers of the labels of the parts, in the sequence's order
abbrev pub label_order : List Part → List ℕ
label_order sequence = map (λ p. p.label.number) sequence

-- Holds if the order has each label once, and the parts of the labels in this order are an RA-linearization. No order
-- does if a label has two halves.
abbrev pub OrderExplains : Kind → Records → List ℕ → Type 0
OrderExplains kind records order = HasEachBelow (label_count records) order
    × ((sequence : List Part) × IsRaLinearization kind records sequence × (label_order sequence ≡ order))

-- holds if the condition names labels of the full one: for each of them this one, or a later one of its replica
pub record Narrows (records : Records) (full condition : Condition) : Type 0 where
  pub before : (b : ℕ) → Contains condition.before b → Contains full.before b
  pub after : (c : ℕ) → Contains condition.after c → Contains full.after c
  pub kept : (k : ℕ) → Contains full.before k ⊎ Contains full.after k
      → (m : ℕ) × (Contains condition.before m ⊎ Contains condition.after m) × (k ≤ m)
      × (issuer_of records k ≡ issuer_of records m)
