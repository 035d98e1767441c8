-- What the next read can return.
use Rattle.std.specs.Prelude.{◌≡◌, ◌↔◌, ℕ, Bool, true, false, Contains, Some, None}
use Rattle.ra_labels.specs.declared.kind.Kind.{Kind}
use Rattle.ra_labels.specs.declared.kind.Kind.TheVariants.{Register, LwwSet}
use Rattle.ra_labels.specs.declared.operation.Op.{Op}
use Rattle.ra_labels.specs.declared.operation.Op.TheVariants as op
use Rattle.ra_labels.specs.Records.{Records}
use Rattle.ra_some_order.specs.SomeOrder.{SomeOrderExplains}
use Rattle.ra_any_order.specs.PossibleElements.{IsFoundOf}
use Rattle.ra_any_order.specs.PossibleValues.{IsPossibleValue}
use Rattle.ra_rga_precedence.specs.declared.nearest.NearestList.{NearestList}
use Rattle.ra_rga_precedence.specs.Nearest.{IsPossibleList, IsUndecided}
use Rattle.ra_another_order.specs.declared.possible.PossibleAnswers.{PossibleAnswers}
use Rattle.ra_another_order.specs.declared.possible.PossibleAnswers.TheVariants.{Values, Elements, List as OfList}
use Rattle.ra_another_order.specs.declared.values.PossibleValues.{PossibleValues}

-- `true` if the operation is a read of a register or an LWW set
abbrev pub is_decided_read : Kind → Op → Bool
is_decided_read Register (op.Last value) = true
is_decided_read LwwSet (op.LwwRead list) = true
is_decided_read _ _ = false

-- holds if these are exactly the values that the replica's next read of a register can return
pub record AreValues (records : Records) (replica : ℕ) (it : PossibleValues) : Type 0 where
  pub written : (x : ℕ) → Contains it.written.items x ↔ IsPossibleValue records replica (Some x)
  pub none : (it.none ≡ true) ↔ IsPossibleValue records replica None

-- holds if the replica's next read of an RGA can return the list, and another one that has the element at an undecided
-- place and the next one the other way round
pub record IsNearest (records : Records) (replica : ℕ) (it : NearestList) : Type 0 where
  pub possible : IsPossibleList records replica it.list.items
  pub undecided : (place : ℕ) → Contains it.undecided.items place
      → IsUndecided records replica it.list.items place

-- holds if the answers are those that the replica's next read can return
abbrev pub AreAnswers : Records → ℕ → PossibleAnswers → Type 0
AreAnswers records replica (Values it) = AreValues records replica it
AreAnswers records replica (Elements it) = IsFoundOf records replica it
AreAnswers records replica (OfList it) = IsNearest records replica it

-- the same if some order explains the records
abbrev pub ArePossible : Kind → Records → ℕ → PossibleAnswers → Type 0
ArePossible kind records replica answers = SomeOrderExplains kind records → AreAnswers records replica answers
