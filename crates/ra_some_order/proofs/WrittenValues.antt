-- Lemmas on the operations of a register and of an LWW set: the value that one writes, the element that one changes.
use Rattle.std.proofs.Common.{◌≡◌, ℕ, true, cond, [], ◌∷◌, Option, Some, None, refl, sym, ap, ◌∙◌, subst, inl, inr}
use Rattle.std.specs.Prelude.{◌⊎◌, ◌==◌, Contains, option_and_then}
use Rattle.std.proofs.lemmas.Bool.{cases_Bool, cond-true, cond-false, false≢true, eqb-true, eq-eqb, ne_eqb, not-true, not_from_false}
use Rattle.std.proofs.lemmas.Option.{none-some, same_Some}
use Rattle.ra_labels.specs.declared.operation.Op.{Op}
use Rattle.ra_labels.specs.declared.operation.Op.TheVariants as op
use Rattle.ra_labels.specs.declared.list_operation.ListOp.TheVariants as list
use Rattle.ra_labels.specs.declared.operation.Update.{Update}
use Rattle.ra_labels.specs.declared.operation.Update.TheVariants as updates
use Rattle.ra_labels.specs.TheoremTerms.{acts_on}
use Rattle.ra_labels.specs.Commuting.{written_by}
use Rattle.ra_labels.proofs.Members.{head_or_behind, at_head, none_there}
use Rattle.ra_some_order.specs.VisibleUpdates.{writes, writes_other, adds, removes, elements_changed}
use Rattle.ra_some_order.proofs.LastValues.{if_passes}
use Rattle.ra_some_order.proofs.MadeUpdates.{update_made}

-- the value that an operation writes
abbrev pub value_made : Op → Option ℕ
value_made operation = option_and_then written_by (update_made operation)

pub made_write : (operation : Op) (v : ℕ) → value_made operation ≡ Some v → operation ≡ op.Write v
made_write (op.Write w) v is = ap op.Write (same_Some w v is)
made_write (op.List (list.Insert insertion)) v is = absurd (none-some v is)
made_write (op.List (list.Remove x)) v is = absurd (none-some v is)
made_write (op.List (list.Read elements)) v is = absurd (none-some v is)
made_write (op.List (list.Part elements)) v is = absurd (none-some v is)
made_write _ v is = absurd (none-some v is)

pub writes_there : (v : ℕ) (operation : Op) → value_made operation ≡ Some v → writes (Some v) operation ≡ true
writes_there v operation is =
    subst (λ o. writes (Some v) o ≡ true) (sym (made_write operation v is)) (eq-eqb v v refl)

pub writes_from : (v : ℕ) (operation : Op) → writes (Some v) operation ≡ true → value_made operation ≡ Some v
writes_from v (op.Write w) is = ap Some (sym (eqb-true v w is))
writes_from v _ is = absurd (false≢true is)

pub other_from : (v : ℕ) (operation : Op) → writes_other (Some v) operation ≡ true
    → (w : ℕ) × (value_made operation ≡ Some w) × (¬ (w ≡ v))
other_from v (op.Write w) is =
    (w, refl, λ same. false≢true (sym (not-true (v == w) is) ∙ eq-eqb v w (sym same)))
other_from v _ is = absurd (false≢true is)

pub other_there : (v : ℕ) (operation : Op) (w : ℕ) → value_made operation ≡ Some w → ¬ (w ≡ v)
    → writes_other (Some v) operation ≡ true
other_there v operation w is other =
    subst (λ o. writes_other (Some v) o ≡ true) (sym (made_write operation w is))
    (not_from_false (v == w) (ne_eqb v w (λ same. other (sym same))))

pub other_than_none : (operation : Op) → writes_other None operation ≡ true → (w : ℕ) × (value_made operation ≡ Some w)
other_than_none (op.Write w) is = (w, refl)
other_than_none _ is = absurd (false≢true is)

-- the update of an operation, if it acts on the element
abbrev pub made_on : ℕ → Op → Option Update
made_on x operation = option_and_then (if_passes (acts_on x)) (update_made operation)

pub if_same : (x y : ℕ) (u v : Update) → cond (x == y) (Some u) None ≡ Some v → (x ≡ y) × (u ≡ v)
if_same x y u v is = elim (cases_Bool (x == y)) [
  | inl same ↦ (eqb-true x y same, same_Some u v (sym (cond-true (x == y) (Some u) None same) ∙ is))
  | inr other ↦ absurd (none-some v (sym (cond-false (x == y) (Some u) None other) ∙ is))
]

-- an addition or a removal of the element
pub data IsMadeOn (x : ℕ) (operation : Op) (u : Update) : Type 0 where
  Added : operation ≡ op.LwwAdd x → u ≡ updates.LwwAdd x → IsMadeOn x operation u
  Removed : operation ≡ op.LwwRemove x → u ≡ updates.LwwRemove x → IsMadeOn x operation u

pub made_cases : (x : ℕ) (operation : Op) (u : Update) → made_on x operation ≡ Some u → IsMadeOn x operation u
made_cases x (op.LwwAdd y) u is =
    let (same, made) = if_same x y (updates.LwwAdd y) u is in
    Added (ap op.LwwAdd (sym same)) (sym made ∙ ap updates.LwwAdd (sym same))
made_cases x (op.LwwRemove y) u is =
    let (same, made) = if_same x y (updates.LwwRemove y) u is in
    Removed (ap op.LwwRemove (sym same)) (sym made ∙ ap updates.LwwRemove (sym same))
made_cases x (op.List (list.Insert insertion)) u is = absurd (none-some u is)
made_cases x (op.List (list.Remove y)) u is = absurd (none-some u is)
made_cases x (op.List (list.Read elements)) u is = absurd (none-some u is)
made_cases x (op.List (list.Part elements)) u is = absurd (none-some u is)
made_cases x _ u is = absurd (none-some u is)

pub adds_from : (x : ℕ) (operation : Op) → adds x operation ≡ true → made_on x operation ≡ Some (updates.LwwAdd x)
adds_from x (op.LwwAdd y) is =
    cond-true (x == y) (Some (updates.LwwAdd y)) None is ∙ ap (λ z. Some (updates.LwwAdd z)) (sym (eqb-true x y is))
adds_from x _ is = absurd (false≢true is)

pub removes_from : (x : ℕ) (operation : Op) → removes x operation ≡ true
    → made_on x operation ≡ Some (updates.LwwRemove x)
removes_from x (op.LwwRemove y) is =
    cond-true (x == y) (Some (updates.LwwRemove y)) None is
    ∙ ap (λ z. Some (updates.LwwRemove z)) (sym (eqb-true x y is))
removes_from x _ is = absurd (false≢true is)

pub not_both : (x y : ℕ) → ¬ (updates.LwwAdd x ≡ updates.LwwRemove y)
not_both x y is = cc

pub decide_added : (x : ℕ) (operation : Op) (w : Update) → made_on x operation ≡ Some w
    → (w ≡ updates.LwwAdd x) ⊎ (¬ (w ≡ updates.LwwAdd x))
decide_added x operation w is = elim (made_cases x operation w is) [
  | Added same made ↦ inl made
  | Removed same made ↦ inr (λ other. not_both x x (sym other ∙ made))
]

pub adds_there : (x : ℕ) (operation : Op) → made_on x operation ≡ Some (updates.LwwAdd x) → adds x operation ≡ true
adds_there x operation is = elim (made_cases x operation (updates.LwwAdd x) is) [
  | Added same made ↦ subst (λ o. adds x o ≡ true) (sym same) (eq-eqb x x refl)
  | Removed same made ↦ absurd (not_both x x made)
]

pub removes_there : (x : ℕ) (operation : Op) → made_on x operation ≡ Some (updates.LwwRemove x)
    → removes x operation ≡ true
removes_there x operation is = elim (made_cases x operation (updates.LwwRemove x) is) [
  | Added same made ↦ absurd (not_both x x (sym made))
  | Removed same made ↦ subst (λ o. removes x o ≡ true) (sym same) (eq-eqb x x refl)
]

-- an update on the element that is not the one is the other
pub added_otherwise : (x : ℕ) (operation : Op) (w : Update) → made_on x operation ≡ Some w → ¬ (w ≡ updates.LwwRemove x)
    → adds x operation ≡ true
added_otherwise x operation w is other = elim (made_cases x operation w is) [
  | Added same made ↦ subst (λ o. adds x o ≡ true) (sym same) (eq-eqb x x refl)
  | Removed same made ↦ absurd (other made)
]

pub removed_otherwise : (x : ℕ) (operation : Op) (w : Update) → made_on x operation ≡ Some w → ¬ (w ≡ updates.LwwAdd x)
    → removes x operation ≡ true
removed_otherwise x operation w is other = elim (made_cases x operation w is) [
  | Added same made ↦ absurd (other made)
  | Removed same made ↦ subst (λ o. removes x o ≡ true) (sym same) (eq-eqb x x refl)
]

pub decide_removed : (x : ℕ) (operation : Op) (w : Update) → made_on x operation ≡ Some w
    → (w ≡ updates.LwwRemove x) ⊎ (¬ (w ≡ updates.LwwRemove x))
decide_removed x operation w is = elim (made_cases x operation w is) [
  | Added same made ↦ inr (λ other. not_both x x (sym made ∙ other))
  | Removed same made ↦ inl made
]

pub only : (y x : ℕ) → Contains (y ∷ []) x → y ≡ x
only y x there = elim (head_or_behind y [] x there) [
  | inl here ↦ here
  | inr further ↦ absurd (none_there x further)
]

-- an operation changes an element exactly if its update acts on it
pub changed_made : (x : ℕ) (operation : Op) → Contains (elements_changed operation) x
    → (u : Update) × (made_on x operation ≡ Some u)
changed_made x (op.LwwAdd y) there =
    (updates.LwwAdd y, cond-true (x == y) (Some (updates.LwwAdd y)) None (eq-eqb x y (sym (only y x there))))
changed_made x (op.LwwRemove y) there =
    (updates.LwwRemove y, cond-true (x == y) (Some (updates.LwwRemove y)) None (eq-eqb x y (sym (only y x there))))
changed_made x _ there = absurd (none_there x there)

pub made_changed : (x : ℕ) (operation : Op) (u : Update) → made_on x operation ≡ Some u
    → Contains (elements_changed operation) x
made_changed x operation u is = elim (made_cases x operation u is) [
  | Added same made ↦ subst (λ o. Contains (elements_changed o) x) (sym same) (at_head x [] x refl)
  | Removed same made ↦ subst (λ o. Contains (elements_changed o) x) (sym same) (at_head x [] x refl)
]
