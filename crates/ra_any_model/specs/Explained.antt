-- RA-linearization of records by a deterministic specification. These are the conditions of the PLDI 2019 paper, for
-- labels in place of their parts: a read of such a type changes nothing, and one that does is explained before its
-- update, since a label does not see itself.
use Rattle.std.specs.Prelude.{◌≡◌, ℕ, ◌==◌, nat_lt, Bool, ◌&&◌, ◌||◌, List, filter, Contains, Option, Some, is_some, IsTrue, IsPermutation}
use Rattle.std.specs.List.{range_with_len}
use Rattle.ra_labels.specs.declared.operation.Op.{Op}
use Rattle.ra_labels.specs.declared.label.Label.{Label}
use Rattle.ra_labels.specs.Records.{Records, label_count, labels_of}
use Rattle.ra_labels.specs.Visibility.{is_update_at, sees}
use Rattle.ra_labels.specs.Places.{issuer_of}
use Rattle.ra_labels.specs.Linearization.{extends}
use Rattle.ra_any_model.specs.Deterministic.{Deterministic, state_after}

-- the labels in execution order, by number
abbrev pub numbers_of : Records → List ℕ
numbers_of records = range_with_len 0 (label_count records)

-- `true` if label m must precede label n: n sees it, or it is an earlier one of n's replica
abbrev pub must_come_before : Records → ℕ → ℕ → Bool
must_come_before records m n = sees records n m || issuer_of records m == issuer_of records n && nat_lt m n

-- the updates of the sequence, in its order
abbrev pub updates_in : Records → List ℕ → List ℕ
updates_in records sequence = filter (is_update_at records) sequence

-- the updates that label n sees, in the sequence's order
abbrev pub seen_updates_in : Records → List ℕ → ℕ → List ℕ
seen_updates_in records sequence n = filter (sees records n) sequence

-- holds if the updates of these labels lead to a state in which a read returns the value
abbrev pub IsAnswerAfter : (State : Type 0) → Deterministic State → List ℕ → ℕ → Type 0
IsAnswerAfter State specification updates value =
    (state : State) × (state_after State specification updates ≡ Some state) × (specification.answer state ≡ value)

-- holds if each read returned what the specification says after the updates that it sees, in the sequence's order
abbrev pub EachReadIsAnswered : (State : Type 0) → Deterministic State → (Op → Option ℕ) → Records → List ℕ → Type 0
EachReadIsAnswered State specification value_of records sequence =
    (read : Label) (value : ℕ) → Contains (labels_of records) read → value_of read.op ≡ Some value
    → IsAnswerAfter State specification (seen_updates_in records sequence read.number) value

-- Holds if the specification and the sequence explain the records: the sequence has each label once and nothing else,
-- no label stands behind one that it must precede, the updates are admitted, and the reads are answered.
pub record Explains (State : Type 0) (specification : Deterministic State) (value_of : Op → Option ℕ)
    (records : Records) (sequence : List ℕ) : Type 0 where
  pub each_label_once : IsPermutation (numbers_of records) sequence
  pub visibility : IsTrue (extends (must_come_before records) sequence)
  pub updates : IsTrue (is_some (state_after State specification (updates_in records sequence)))
  pub reads : EachReadIsAnswered State specification value_of records sequence
