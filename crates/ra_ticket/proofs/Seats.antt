-- Lemmas on the views of the seats after one of them changed.
use Rattle.std.proofs.Common.{◌≡◌, ◌≢◌, ◌⊎◌, ℕ, zero, suc, ◌<◌, List, length, [], ◌∷◌, set}
use Rattle.std.proofs.Common.{Option, Some, None, sym, ap, ◌∙◌, subst, ⊎_elim, inl, inr, arith}
use mathlib.Core.Logic.{dite}
use mathlib.Core.Option.{some, some-ne-none, some-injective}
use native.Mathlib.Decide.{ℕ_discrete}
use Rattle.std.proofs.lemmas.Option.{none-some}
use lib.ListN.{get_elem?}
use Rattle.atomic_table.proofs.Lists.{at_set, set_else, set_here}
use Rattle.ra_ticket.specs.declared.board.View.{View}
use Rattle.ra_ticket.specs.Rule.{At}

-- the index of an element is less than the length of the list
pub inside : {A : Type 0} (l : List A) (j : ℕ) (b : A) → get_elem? l j ≡ some b → j < length l
inside [] j b e = absurd (some-ne-none b (sym e))
inside (x ∷ xs) zero b e = omega arith
inside (x ∷ xs) (suc j) b e = let l = inside xs j b e in omega arith

-- a seat with such a value is not the seat that has none
pub elsewhere : {C R S X : Type 0} (of : View C R S → Option X) (views : List (View C R S)) (seat place : ℕ) (x : X)
    (v : View C R S) → get_elem? views place ≡ some v → of v ≡ None → At of views seat x → seat ≢ place
elsewhere of views seat place x v there nothing a same = none-some x (sym nothing
    ∙ (ap of (some-injective v a.0 (sym there ∙ (ap (get_elem? views) (sym same) ∙ a.1))) ∙ a.2))

-- a property of each seat, after one changed
pub each_after : {C R S : Type 0} (P : View C R S → Type 0) (views : List (View C R S)) (id : ℕ) (w : View C R S) → P w
    → ((seat : ℕ) (u : View C R S) → seat ≢ id → get_elem? views seat ≡ some u → P u)
    → (seat : ℕ) (u : View C R S) → get_elem? (set views id w) seat ≡ some u → P u
each_after P views id w new others seat u at = ⊎_elim (λ (t : (seat ≡ id) × (w ≡ u)). subst P t.1 new)
    (λ (t : (seat ≢ id) × (get_elem? views seat ≡ some u)). others seat u t.0 t.1) (at_set views id seat w u at)

module _ {C R S X : Type 0} (of : View C R S → Option X) (views : List (View C R S)) (id : ℕ) (v w : View C R S)
    (here : get_elem? views id ≡ some v) where
  -- the value at a seat after the change was there before, or is the new one of seat id
  pub at_after : (seat : ℕ) (x : X) → At of (set views id w) seat x
      → ((seat ≡ id) × (of w ≡ Some x)) ⊎ ((seat ≢ id) × At of views seat x)
  at_after seat x a = ⊎_elim (λ (t : (seat ≡ id) × (w ≡ a.0)). inl (t.0, ap of t.1 ∙ a.2))
      (λ (t : (seat ≢ id) × (get_elem? views seat ≡ some a.0)). inr (t.0, (a.0, t.1, a.2)))
      (at_set views id seat w a.0 a.1)

  -- the values at other seats are unchanged
  pub at_others : (seat : ℕ) (x : X) → seat ≢ id → At of views seat x → At of (set views id w) seat x
  at_others seat x other a = (a.0, set_else views id seat w other ∙ a.1, a.2)

  pub at_new : (x : X) → of w ≡ Some x → At of (set views id w) id x
  at_new x e = (w, set_here views id w (inside views id v here), e)

  -- if the value does not change, the values at all seats are those from before
  module _ (same : of w ≡ of v) where
    pub at_back : (seat : ℕ) (x : X) → At of (set views id w) seat x → At of views seat x
    at_back seat x a = ⊎_elim
        (λ (t : (seat ≡ id) × (of w ≡ Some x)). subst (λ (k : ℕ). At of views k x) (sym t.0) (v, here, sym same ∙ t.1))
        (λ (t : (seat ≢ id) × At of views seat x). t.1) (at_after seat x a)

    pub at_forth : (seat : ℕ) (x : X) → At of views seat x → At of (set views id w) seat x
    at_forth seat x a = dite (ℕ_discrete seat id)
        (λ e. subst (λ (k : ℕ). At of (set views id w) k x) (sym e)
        (at_new x (same ∙ (ap of (some-injective v a.0 (sym here ∙ (ap (get_elem? views) (sym e) ∙ a.1))) ∙ a.2))))
        (λ other. at_others seat x other a)

  -- a seat whose value no other seat has keeps the values distinct
  pub apart_after : ((a b : ℕ) (x : X) → At of views a x → At of views b x → a ≡ b)
      → ((seat : ℕ) (x : X) → of w ≡ Some x → seat ≢ id → At of views seat x → ⊥)
      → (a b : ℕ) (x : X) → At of (set views id w) a x → At of (set views id w) b x → a ≡ b
  apart_after apart new a b x p q = ⊎_elim
      (λ (s : (a ≡ id) × (of w ≡ Some x)). ⊎_elim (λ (t : (b ≡ id) × (of w ≡ Some x)). s.0 ∙ sym t.0)
      (λ (t : (b ≢ id) × At of views b x). absurd (new b x s.1 t.0 t.1)) (at_after b x q))
      (λ (s : (a ≢ id) × At of views a x). ⊎_elim (λ (t : (b ≡ id) × (of w ≡ Some x)). absurd (new a x t.1 s.0 s.1))
      (λ (t : (b ≢ id) × At of views b x). apart a b x s.1 t.1) (at_after b x q))
      (at_after a x p)
