-- The kinds for which any order that respects visibility serves as well, and the condition that a violation is final.
use Rattle.std.specs.Prelude.{ℕ, Bool, true, false, ◌&&◌, List, Contains, filter, is_some, IsTrue, IsPermutation}
use Rattle.ra_labels.specs.declared.kind.Kind.{Kind}
use Rattle.ra_labels.specs.declared.kind.Kind.TheVariants.{Counter, Register, LwwSet, OrSet, Rga}
use Rattle.ra_labels.specs.declared.kind.Kind.TheVariants as kinds
use Rattle.ra_labels.specs.Records.{Records, records_to}
use Rattle.ra_labels.specs.declared.operation.Update.{Update}
use Rattle.ra_labels.specs.declared.operation.Update.TheVariants.{OrAdd}
use Rattle.ra_labels.specs.Rewriting.{Part, update_of}
use Rattle.ra_labels.specs.TheoremTerms.{NoneRemovesPair}
use Rattle.ra_labels.specs.Linearization.{parts_in, is_visible_to, extends, IsRaLinearizationBy}

-- `true` if the named sequence linearizes the records wherever some sequence does by visibility alone
abbrev pub is_of_any_order : Kind → Bool
is_of_any_order Counter = true
is_of_any_order Register = false
is_of_any_order LwwSet = false
is_of_any_order OrSet = true
is_of_any_order Rga = false
is_of_any_order kinds.List = true
is_of_any_order kinds.Any = true
is_of_any_order kinds.MvRegister = true

-- the updates of the labels that pass the test
abbrev pub updates_that_pass : Records → (ℕ → Bool) → List Part
updates_that_pass records passes = filter (λ p. is_some (update_of p.act) && passes p.label.number) (parts_in records)

-- Holds if the parts are the updates of the labels that pass, each once, and none comes after one whose label sees it.
pub record IsOrderOf (records : Records) (passes : ℕ → Bool) (parts : List Part) : Type 0 where
  pub each_once : IsPermutation (updates_that_pass records passes) parts
  pub visibility : IsTrue (extends (is_visible_to records) parts)

-- holds if the pair is added and no removal names it, neither before nor after the addition
abbrev pub IsAddedAndNeverTakenOut : ℕ → ℕ → List Update → Type 0
IsAddedAndNeverTakenOut x id updates = Contains updates (OrAdd x id) × NoneRemovesPair x id updates

-- Holds if no sequence at all is an RA-linearization, not even if it only has to extend visibility, and neither the
-- order at one replica nor that of a label's two halves.
abbrev pub NoneLinearizes : Kind → Records → Type 0
NoneLinearizes kind records =
    (sequence : List Part) → ¬ IsRaLinearizationBy (is_visible_to records) kind records sequence

-- holds if no sequence at all is an RA-linearization of the records up to the label
abbrev pub IsFinal : Kind → Records → ℕ → Type 0
IsFinal kind records n = NoneLinearizes kind (records_to records n)
