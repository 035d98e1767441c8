-- Lemmas on a query with the answer of a state: the answer is right, and each right query of the form has it.
use Rattle.std.proofs.Common.{◌≡◌, ℕ, true, List, Option, Some, None, refl, sym, ap, subst}
use Rattle.std.specs.Prelude.{◌==◌, IfSome}
use Rattle.std.specs.Cmp.{unsigned_Decides}
use Rattle.std.specs.Cmp.Lexicographic.{pointwise_decides}
use Rattle.std.specs.Option.{option_eq}
use Rattle.std.proofs.lemmas.Bool.{eq-eqb, eqb-true}
use Rattle.std.proofs.lemmas.Bool.Decides.{Decides-int_eq}
use Rattle.ra_labels.specs.declared.operation.Query.{Query}
use Rattle.ra_labels.specs.declared.operation.Query.TheVariants.{Count, Last, LwwRead, ReadIds, OrRead, RgaRead}
use Rattle.ra_labels.specs.Lists.{is_among, rises, have_same_elements, identifiers_of, elements_of, shown}
use Rattle.ra_labels.specs.Specification.{State, answers}
use Rattle.ra_labels.proofs.TheoremIndex.{rises_iff_sorted-sorted}
use Rattle.ra_seqspec.specs.declared.state.Form.{Form}
use Rattle.ra_seqspec.specs.declared.state.Form.TheVariants.{Counter, Register, LwwSet, OrSet, Rga}
use Rattle.ra_seqspec.specs.declared.state.Form.TheVariants as forms
use Rattle.ra_seqspec.specs.Form.{state_of, StateKept}
use Rattle.ra_seqspec.specs.Asked.{asks_rising}
use Rattle.ra_seqspec.specs.Answered.{answered_in}
use Rattle.ra_seqspec.specs.Pairs.{distinct_elements}
use Rattle.ra_seqspec.proofs.RisingLists.{is_answer, is_once}
use Rattle.ra_seqspec.proofs.PairKeys.{identifiers_rise, distinct_rise, distinct_same}

-- holds unless the form is that of a list, whose answers `ListElements` gives
abbrev pub HasOneAnswer : Form → Type 0
HasOneAnswer (forms.List list) = ⊥
HasOneAnswer _ = Unit {0}

-- the answer is right, and each right query of the form has it
pub record IsTheAnswer (state : State) (query answer : Query) : Type 0 where
  pub right : answers state answer ≡ true
  pub only : asks_rising query ≡ true → answers state query ≡ true → query ≡ answer

value_is : (v w : Option ℕ) → option_eq (λ x y. x == y) v w ≡ true → v ≡ w
value_is None None is = refl
value_is None (Some w) is = absurd (cc is)
value_is (Some v) None is = absurd (cc is)
value_is (Some v) (Some w) is = ap Some (eqb-true v w is)

value_same : (v : Option ℕ) → option_eq (λ x y. x == y) v v ≡ true
value_same None = refl
value_same (Some v) = eq-eqb v v refl

-- a rising list with the same elements is a right answer
list_right : (once these : List ℕ) → rises once ≡ true → ((x : ℕ) → is_among x once ≡ is_among x these)
    → have_same_elements once these ≡ true
list_right once these up same = sym (is_answer once once these true up up same ((λ holds. refl), (λ is. refl)))

the_answer : (form : Form) (query : Query) → StateKept form → HasOneAnswer form
    → IfSome (answered_in (state_of form) query) (IsTheAnswer (state_of form) query)
the_answer (Counter n) (Count v) kept one = record {
  right = (Decides-int_eq n n).1 refl;
  only = λ up is. ap Count ((Decides-int_eq v n).0 is);
}
the_answer (Register last) (Last value) kept one = record {
  right = value_same last;
  only = λ up is. ap Last (value_is value last is);
}
the_answer (LwwSet set) (LwwRead list) kept one =
    let rising = (rises_iff_sorted-sorted set.keys).1 kept in
    record {
      right = list_right set.keys set.keys rising (λ x. refl);
      only = λ up is. ap LwwRead (is_once list set.keys set.keys up rising (λ x. refl) is);
    }
the_answer (OrSet set) (ReadIds x ids) kept one =
    let these = identifiers_of x set.keys in
    let rising = identifiers_rise x set.keys kept in
    record {
      right = list_right these these rising (λ y. refl);
      only = λ up is. ap (ReadIds x) (is_once ids these these up rising (λ y. refl) is);
    }
the_answer (OrSet set) (OrRead list) kept one =
    let once = distinct_elements set.keys in
    let rising = distinct_rise set.keys kept in
    let same = λ (y : ℕ). distinct_same y set.keys in
    record {
      right = list_right once (elements_of set.keys) rising same;
      only = λ up is. ap OrRead (is_once list once (elements_of set.keys) up rising same is);
    }
the_answer (Rga entries) (RgaRead list) kept one = record {
  right = (pointwise_decides unsigned_Decides (shown entries) (shown entries)).1 refl;
  only = λ up is. ap RgaRead ((pointwise_decides unsigned_Decides list (shown entries)).0 is);
}
the_answer (forms.List list) query kept one = absurd one
the_answer _ _ kept one = tt

-- the returned query has the answer
pub told : (form : Form) (now : State) (query answer : Query) → StateKept form → HasOneAnswer form → state_of form ≡ now
    → Some answer ≡ answered_in now query → IsTheAnswer now query answer
told form now query answer kept one view is =
    subst (λ (o : Option Query). IfSome o (IsTheAnswer now query)) (sym is)
    (subst (λ (state : State). IfSome (answered_in state query) (IsTheAnswer state query)) view
    (the_answer form query kept one))
