-- Lemmas on several updates of an RGA, on its list and on its state.
use Rattle.std.proofs.Common.{◌≡◌, ℕ, Bool, true, false, cond, List, [], ◌∷◌, Option, None, Some, refl, sym, ap, ◌∙◌, inl, inr}
use Rattle.std.specs.Prelude.{◌==◌, ◌||◌, is_some, unwrap_or, Result, Ok, Err, IsOk, OnOk}
use Rattle.std.proofs.lemmas.Bool.{false≢true, cases_Bool, cond-true, cond-false}
use Rattle.ra_labels.specs.declared.operation.Update.{Update}
use Rattle.ra_labels.specs.declared.operation.Update.TheVariants.{After, RgaRemove}
use Rattle.ra_labels.specs.Lists.{insert_after, hide}
use Rattle.ra_labels.specs.Specification.{State, Listed, step_of}
use Rattle.ra_seqspec.specs.declared.rga.Node.{Node}
use Rattle.ra_seqspec.specs.declared.rga.Place.{Place}
use Rattle.ra_seqspec.specs.Rga.{entries_of, RgaListKept, may_insert, may_hide, list_step, list_after, place_behind, place_for}
use Rattle.ra_seqspec.specs.Updates.{after_all}
use Rattle.ra_seqspec.proofs.Nodes.{puts, puts_not_there, puts_not_again}

or_itself : (b : Bool) (list next : List (ℕ × Bool)) → unwrap_or (cond b (Some (Listed next)) None) (Listed list) ≡ Listed (cond b next list)
or_itself true list next = refl
or_itself false list next = refl

list_steps : (list : List (ℕ × Bool)) (update : Update) → unwrap_or (step_of (Listed list) update) (Listed list) ≡ Listed (list_step list update)
list_steps list (After anchor x) = or_itself (may_insert anchor x list) list (insert_after anchor x list)
list_steps list (RgaRemove x) = or_itself (may_hide x list) list (hide x list)
list_steps list _ = refl

pub after_listed : (list : List (ℕ × Bool)) (updates : List Update) → after_all (Listed list) updates ≡ Listed (list_after list updates)
after_listed list [] = refl
after_listed list (update ∷ updates) = ap (λ (s : State). after_all s updates) (list_steps list update) ∙ after_listed (list_step list update) updates

-- if a place for x is found, x is not in the list, and the place is behind the anchor
pub place_found : (anchor x : ℕ) (slot_of : ℕ → Option ℕ) (place : Place) → place_for anchor x slot_of ≡ Some place
    → ((x == 0 || is_some (slot_of x)) ≡ false) × (place_behind anchor (slot_of anchor) ≡ Some place)
place_found anchor x slot_of place is = found (x == 0 || is_some (slot_of x)) (place_behind anchor (slot_of anchor)) is
  where
    found : (b : Bool) (o : Option Place) → cond b None o ≡ Some place → (b ≡ false) × (o ≡ Some place)
    found true o is = absurd (cc is)
    found false o is = (refl, is)

-- there is one exactly if x may be inserted
pub place_where_it_may : (anchor x first : ℕ) (nodes : List Node) (slot_of : ℕ → Option ℕ) (now : List (ℕ × Bool)) → RgaListKept first nodes slot_of → entries_of first nodes ≡ now
    → may_insert anchor x now ≡ is_some (place_for anchor x slot_of)
place_where_it_may anchor x first nodes slot_of now kept view = elim (cases_Bool (x == 0 || is_some (slot_of x))) [
  | inl old ↦ puts_not_again anchor x first nodes slot_of now kept view old ∙ ap is_some (sym (cond-true (x == 0 || is_some (slot_of x)) None (place_behind anchor (slot_of anchor)) old))
  | inr new ↦ behind (place_behind anchor (slot_of anchor)) refl new ∙ ap is_some (sym (cond-false (x == 0 || is_some (slot_of x)) None (place_behind anchor (slot_of anchor)) new))
]
  where
    behind : (o : Option Place) → place_behind anchor (slot_of anchor) ≡ o → (x == 0 || is_some (slot_of x)) ≡ false → may_insert anchor x now ≡ is_some o
    behind None none new = puts_not_there anchor x first nodes slot_of now kept view (ap is_some none)
    behind (Some place) some new = puts anchor x first nodes slot_of now place kept view some new

-- the postcondition of a call that succeeds
pub where_ok : {A B P : Type 0} (result : Result A B) → IsOk result → OnOk result P → P
where_ok (Ok value) succeeds holds = holds
where_ok (Err error) succeeds holds = absurd (false≢true succeeds)

-- and its consequence
pub follows_where_ok : {A B P Q : Type 0} (result : Result A B) → (P → Q) → OnOk result P → OnOk result Q
follows_where_ok (Ok value) to holds = to holds
follows_where_ok (Err error) to holds = tt
