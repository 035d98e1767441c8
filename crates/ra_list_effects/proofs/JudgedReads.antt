-- What the views say of a removal or a read is what the states say.
use Rattle.std.proofs.Common.{◌≡◌, ◌↔◌, ℕ, Bool, true, false, List, [], ◌∷◌, length, get_or, Some, None, refl, sym, ◌∙◌, subst, inl, inr}
use Rattle.std.specs.Prelude.{not, Contains, if◌then◌else◌}
use Rattle.std.specs.List.{list_all, slice_get}
use Rattle.std.proofs.lemmas.Bool.{false≢true, cases_Bool, cases_lt, cond-true, cond-false, and_parts, and_from, not-true, not_from_false, not_from_true, false_from_ne_true}
use Rattle.std.proofs.lemmas.Option.{slice_get-get_or}
use Rattle.ra_labels.specs.Lists.{is_among, have_same_elements}
use Rattle.ra_labels.specs.declared.reply.Cause.{Cause}
use Rattle.ra_labels.specs.declared.reply.Cause.TheVariants.{Order, Update, Query}
use Rattle.ra_labels.specs.TheoremTerms.{HasNoDuplicates}
use Rattle.ra_labels.proofs.InLists.{among-exactly, same-exactly, list_all-contains, list_all-from_contains}
use Rattle.ra_labels.proofs.Members.{there-kept, kept-there}
use Rattle.ra_list_replica.specs.declared.mark.Mark.{Mark}
use Rattle.ra_list_replica.specs.declared.mark.Mark.TheVariants.{Missing, Shown, Removed}
use Rattle.ra_list_replica.specs.View.{mark_at, IsShown, IsPart, IsRead}
use Rattle.ra_list_witness.specs.Causes.{IsHadAs, IsCauseAt}
use Rattle.ra_list_witness.proofs.Views.{element_there}
use Rattle.ra_labels.specs.declared.list_operation.ListOp.TheVariants as op
use Rattle.ra_labels.specs.declared.list_operation.ListUpdate.TheVariants.{Hide}
use Rattle.ra_labels.specs.declared.list_operation.ListQuery.TheVariants.{Read, Part}
use Rattle.ra_labels.specs.FreeList.{ListState, shown_in, has_each_once, list_answers}
use Rattle.ra_list_effects.specs.Past.{Past, state_at, cause_at, admits}
use Rattle.ra_list_effects.specs.Views.{mark_in, IsViewOf}
use Rattle.ra_list_effects.proofs.JudgedOperations.{mark_missing, mark_there, has_exactly, is_some_if}

-- which elements are shown
shown_or_removed : (b : Bool) → (if b then Removed else Shown) ≡ Shown → b ≡ false
shown_or_removed true is = absurd (cc is)
shown_or_removed false is = refl

shown_parts : (state : ListState) (x : ℕ) → mark_in state x ≡ Shown
    → (is_among x state.inserted ≡ true) × (is_among x state.removed ≡ false)
shown_parts state x is = elim (cases_Bool (is_among x state.inserted)) [
  | inl there ↦ (there, shown_or_removed (is_among x state.removed) (sym (mark_there state x there) ∙ is))
  | inr none ↦ absurd (missing_shown (sym (mark_missing state x none) ∙ is))
]
  where
    missing_shown : ¬ (Missing ≡ Shown)
    missing_shown same = cc same

shown_from : (state : ListState) (x : ℕ) → is_among x state.inserted ≡ true → is_among x state.removed ≡ false
    → mark_in state x ≡ Shown
shown_from state x there left = mark_there state x there ∙ cond-false (is_among x state.removed) Removed Shown left

-- no element twice
once_decided : (list : List ℕ) → (has_each_once list ≡ true) ↔ HasNoDuplicates list
once_decided [] = ((λ is. tt), (λ none. refl))
once_decided (x ∷ xs) = (
  (λ is.
      let parts = and_parts (not (is_among x xs)) (has_each_once xs) is in (
        (λ there. false≢true (sym (not-true (is_among x xs) parts.0) ∙ (among-exactly x xs).1 there)),
        (once_decided xs).0 parts.1,
      )),
  (λ none. and_from (not (is_among x xs)) (has_each_once xs)
      (not_from_false (is_among x xs) (false_from_ne_true (is_among x xs) (λ is. none.0 ((among-exactly x xs).0 is))))
      ((once_decided xs).1 none.1)),
)

module _ (elements : List ℕ) (marks : List Mark) (state : ListState) (view : IsViewOf elements marks state) where
  shown_exactly : (x : ℕ) → Contains (shown_in state) x ↔ IsShown elements marks x
  shown_exactly x = (
    (λ there.
        let kept = there-kept (λ y. not (is_among y state.removed)) state.inserted x there in
        let inserted = (among-exactly x state.inserted).1 kept.0 in
        let has = (has_exactly elements marks state view x).0 inserted in
        (has.0, has.1.0, view.marked has.0 x has.1.0 ∙ shown_from state x inserted (not-true (is_among x state.removed) kept.1))),
    (λ (n, is, shown).
        let parts = shown_parts state x (sym (view.marked n x is) ∙ shown) in
        kept-there (λ y. not (is_among y state.removed)) state.inserted x ((among-exactly x state.inserted).0 parts.0)
        (not_from_false (is_among x state.removed) parts.1)),
  )

  pub part_exactly : (list : List ℕ) → (list_answers state (Part list) ≡ true) ↔ IsPart elements marks list
  part_exactly list = (
    (λ is.
        let parts = and_parts (has_each_once list) (list_all (λ x. is_among x (shown_in state)) list) is in
        record {
          once = (once_decided list).0 parts.0;
          shown = λ x there. (shown_exactly x).0 ((among-exactly x (shown_in state)).0
              (list_all-contains (λ y. is_among y (shown_in state)) list x parts.1 there));
        }),
    (λ part. and_from (has_each_once list) (list_all (λ x. is_among x (shown_in state)) list) ((once_decided list).1 part.once)
        (list_all-from_contains (λ y. is_among y (shown_in state)) list (λ x there.
        (among-exactly x (shown_in state)).1 ((shown_exactly x).1 (part.shown x there))))),
  )

  -- the element with a number that is shown
  shown_number : (n : ℕ) → mark_at marks n ≡ Shown → (x : ℕ) × (slice_get elements n ≡ Some x)
  shown_number n shown = elim (cases_lt n (length elements)) [
    | inl within ↦ (get_or elements n 0, slice_get-get_or elements n 0 within)
    | inr past ↦ absurd (missing_shown (sym (view.beyond n past) ∙ shown))
  ]
    where
      missing_shown : ¬ (Missing ≡ Shown)
      missing_shown same = cc same

  pub read_exactly : (list : List ℕ) → (list_answers state (Read list) ≡ true) ↔ IsRead elements marks list
  read_exactly list = (
    (λ is.
        let parts = and_parts (has_each_once list) (have_same_elements list (shown_in state)) is in
        let same = (same-exactly list (shown_in state)).0 parts.1 in
        record {
          part = record {
            once = (once_decided list).0 parts.0;
            shown = λ x there. (shown_exactly x).0 ((same x).0 there);
          };
          all = λ n shown.
              let (x, at) = shown_number n shown in
              (x, at, (same x).1 ((shown_exactly x).1 (x_at n x at shown)));
        }),
    (λ read. and_from (has_each_once list) (have_same_elements list (shown_in state)) ((once_decided list).1 read.part.once)
        ((same-exactly list (shown_in state)).1 (λ x. (
          (λ there. (shown_exactly x).1 (read.part.shown x there)),
          (λ there.
              let (n, is, shown) = (shown_exactly x).0 there in
              let (y, at, listed) = read.all n shown in
              subst (Contains list) (same_some y x (sym at ∙ is)) listed),
        )))),
  )
    where
      x_at : (n x : ℕ) → slice_get elements n ≡ Some x → mark_at marks n ≡ Shown → IsShown elements marks x
      x_at n x at shown = (n, at, shown)

      same_some : (y x : ℕ) → Some y ≡ Some x → y ≡ x
      same_some y x is = cc is

-- the cause of a query alone
query_right : (b : Bool) → b ≡ true → None ≡ (if not b then Some Query else None)
query_right b is = sym (cond-false (not b) (Some Query) None (not_from_true b is))

query_wrong : (b : Bool) → b ≡ false → Some Query ≡ (if not b then Some Query else None)
query_wrong b is = sym (cond-true (not b) (Some Query) None (not_from_false b is))

pub read_right : (elements : List ℕ) (marks : List Mark) (past : Past) (replica : ℕ) (list : List ℕ)
    → IsViewOf elements marks (state_at past.replicas replica) → IsRead elements marks list
    → None ≡ cause_at past replica (op.Read list)
read_right elements marks past replica list view is =
    query_right (list_answers (state_at past.replicas replica) (Read list))
    ((read_exactly elements marks (state_at past.replicas replica) view list).1 is)

pub read_wrong : (elements : List ℕ) (marks : List Mark) (past : Past) (replica : ℕ) (list : List ℕ)
    → IsViewOf elements marks (state_at past.replicas replica) → ¬ IsRead elements marks list
    → Some Query ≡ cause_at past replica (op.Read list)
read_wrong elements marks past replica list view none =
    query_wrong (list_answers (state_at past.replicas replica) (Read list))
    (false_from_ne_true (list_answers (state_at past.replicas replica) (Read list)) (λ is.
    none ((read_exactly elements marks (state_at past.replicas replica) view list).0 is)))

pub part_right : (elements : List ℕ) (marks : List Mark) (past : Past) (replica : ℕ) (list : List ℕ)
    → IsViewOf elements marks (state_at past.replicas replica) → IsPart elements marks list
    → None ≡ cause_at past replica (op.Part list)
part_right elements marks past replica list view is =
    query_right (list_answers (state_at past.replicas replica) (Part list))
    ((part_exactly elements marks (state_at past.replicas replica) view list).1 is)

pub part_wrong : (elements : List ℕ) (marks : List Mark) (past : Past) (replica : ℕ) (list : List ℕ)
    → IsViewOf elements marks (state_at past.replicas replica) → ¬ IsPart elements marks list
    → Some Query ≡ cause_at past replica (op.Part list)
part_wrong elements marks past replica list view none =
    query_wrong (list_answers (state_at past.replicas replica) (Part list))
    (false_from_ne_true (list_answers (state_at past.replicas replica) (Part list)) (λ is.
    none ((part_exactly elements marks (state_at past.replicas replica) view list).0 is)))

-- a removal
both_right : (a b : Bool) → a ≡ true → b ≡ true → None ≡ (if not a then Some Update else if not b then Some Query else None)
both_right a b first second = sym (cond-false (not a) (Some Update) _ (not_from_true a first)
    ∙ cond-false (not b) (Some Query) None (not_from_true b second))

first_wrong : (a b : Bool) → a ≡ false → Some Update ≡ (if not a then Some Update else if not b then Some Query else None)
first_wrong a b first = sym (cond-true (not a) (Some Update) _ (not_from_false a first))

second_wrong : (a b : Bool) → a ≡ true → b ≡ false
    → Some Query ≡ (if not a then Some Update else if not b then Some Query else None)
second_wrong a b first second = sym (cond-false (not a) (Some Update) _ (not_from_true a first)
    ∙ cond-true (not b) (Some Query) None (not_from_false b second))

pub removal_right : (elements : List ℕ) (marks : List Mark) (past : Past) (replica x n : ℕ)
    → ((y : ℕ) → Contains elements y ↔ Contains past.whole.inserted y)
    → IsViewOf elements marks (state_at past.replicas replica) → IsHadAs elements marks x n
    → None ≡ cause_at past replica (op.Remove x)
removal_right elements marks past replica x n same view had =
    both_right (admits past.whole (Some (Hide x))) (is_among x (state_at past.replicas replica).inserted)
    (is_some_if (is_among x past.whole.inserted) _
    ∙ (among-exactly x past.whole.inserted).1 ((same x).0 (element_there elements n x had.0)))
    ((has_exactly elements marks (state_at past.replicas replica) view x).1 (n, had))

pub removal_wrong : (elements : List ℕ) (marks : List Mark) (past : Past) (replica x : ℕ) (cause : Cause)
    → ((y : ℕ) → Contains elements y ↔ Contains past.whole.inserted y)
    → IsViewOf elements marks (state_at past.replicas replica) → IsCauseAt elements marks x cause
    → Some cause ≡ cause_at past replica (op.Remove x)
removal_wrong elements marks past replica x Update same view none =
    first_wrong (admits past.whole (Some (Hide x))) (is_among x (state_at past.replicas replica).inserted)
    (is_some_if (is_among x past.whole.inserted) _
    ∙ false_from_ne_true (is_among x past.whole.inserted)
    (λ is. none ((same x).1 ((among-exactly x past.whole.inserted).0 is))))
removal_wrong elements marks past replica x Query same view lacks =
    second_wrong (admits past.whole (Some (Hide x))) (is_among x (state_at past.replicas replica).inserted)
    (is_some_if (is_among x past.whole.inserted) _ ∙ (among-exactly x past.whole.inserted).1 ((same x).0 lacks.0))
    (false_from_ne_true (is_among x (state_at past.replicas replica).inserted)
    (λ is. lacks.1 ((has_exactly elements marks (state_at past.replicas replica) view x).0 is)))
removal_wrong elements marks past replica x Order same view none = absurd none
