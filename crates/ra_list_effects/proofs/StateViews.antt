-- The view of a replica after one more update, and with one more element.
use Rattle.std.proofs.Common.{◌≡◌, ℕ, ◌<◌, true, false, List, [], ◌∷◌, ◌++◌, length, get_or, set, Some, refl, sym, ap, ◌∙◌, subst, inl, inr, arith}
use Rattle.std.specs.Prelude.{◌==◌, ◌&&◌, ◌⊎◌, not, Contains, if◌then◌else◌}
use Rattle.std.specs.List.{slice_get}
use Rattle.std.specs.Ordering.{nat_cmp}
use Rattle.std.specs.BTreeSet.{insert_key}
use Rattle.std.proofs.lemmas.Bool.{cases_eq, cases_lt, cond-true, cond-false, eq-eqb, ne_eqb, false_from_ne_true}
use Rattle.std.proofs.lemmas.Option.{slice_get_within, slice_get-get_or, get_or_from_slice_get}
use Rattle.std.proofs.lemmas.List.{length_push, get_or_append_left, get_or-set_same, get_or-set_other}
use Rattle.std.proofs.lemmas.List.Elements.{Contains-append_left}
use Rattle.std.proofs.Math.Seq.{get_or-append_seam}
use Rattle.ra_labels.specs.Lists.{is_among}
use Rattle.ra_labels.proofs.InLists.{among-exactly}
use Rattle.ra_list_replica.specs.declared.mark.Mark.{Mark}
use Rattle.ra_list_replica.specs.declared.mark.Mark.TheVariants.{Missing, Shown, Removed}
use Rattle.ra_list_replica.specs.Numbers.{HasOneNumberEach}
use Rattle.ra_list_replica.specs.View.{View, mark_at}
use Rattle.ra_list_witness.specs.ListWitness.{view_at, mark_of, IsMarked}
use Rattle.ra_list_witness.proofs.Views.{element_there}
use Rattle.ra_labels.specs.FreeList.{ListState, empty_list}
use Rattle.ra_list_model.proofs.AdmittedUpdates.{in_set}
use Rattle.ra_list_model.proofs.OnceListed.{same_bool}
use Rattle.ra_list_effects.specs.Past.{state_at}
use Rattle.ra_list_effects.specs.Views.{mark_in, IsViewOf}
use Rattle.ra_list_effects.proofs.JudgedOperations.{mark_missing, mark_there}

-- what is in a set with one more element
among_new : (x : ℕ) (xs : List ℕ) → is_among x (insert_key nat_cmp xs x) ≡ true
among_new x xs = (among-exactly x (insert_key nat_cmp xs x)).1 ((in_set x x xs).1 (inl refl))

among_other : (y x : ℕ) (xs : List ℕ) → ¬ (y ≡ x) → is_among y (insert_key nat_cmp xs x) ≡ is_among y xs
among_other y x xs other =
    same_bool (is_among y (insert_key nat_cmp xs x)) (is_among y xs)
    (λ is. elim ((in_set y x xs).0 ((among-exactly y (insert_key nat_cmp xs x)).0 is)) [
      | inl same ↦ absurd (other same)
      | inr there ↦ (among-exactly y xs).1 there
    ])
    (λ is. (among-exactly y (insert_key nat_cmp xs x)).1 ((in_set y x xs).1 (inr ((among-exactly y xs).0 is))))

-- a state with one more element, and with one more removal
abbrev pub with_element : ListState → ℕ → ListState
with_element state x = record { inserted = insert_key nat_cmp state.inserted x; removed = state.removed }

abbrev pub with_removal : ListState → ℕ → ListState
with_removal state x = record { inserted = state.inserted; removed = insert_key nat_cmp state.removed x }

same_element : (elements : List ℕ) (n x y : ℕ) → slice_get elements n ≡ Some x → slice_get elements n ≡ Some y → x ≡ y
same_element elements n x y one other = same_some x y (sym one ∙ other)
  where
    same_some : (a b : ℕ) → Some a ≡ Some b → a ≡ b
    same_some a b is = cc is

pub view_kept : (elements : List ℕ) (marks marks' : List Mark) (state : ListState)
    → ((n : ℕ) → mark_at marks' n ≡ mark_at marks n) → IsViewOf elements marks state → IsViewOf elements marks' state
view_kept elements marks marks' state same view = record {
  marked = λ n x is. same n ∙ view.marked n x is;
  among = view.among;
  only = view.only;
  beyond = λ n past. same n ∙ view.beyond n past;
}

pub view_shown : (elements : List ℕ) (marks marks' : List Mark) (state : ListState) (number x : ℕ)
    → HasOneNumberEach elements → slice_get elements number ≡ Some x → ¬ Contains state.inserted x
    → ((n : ℕ) → mark_at marks' n ≡ (if n == number then Shown else mark_at marks n)) → IsViewOf elements marks state
    → IsViewOf elements marks' (with_element state x)
view_shown elements marks marks' state number x once at new marked view =
    let left : is_among x state.removed ≡ false =
    false_from_ne_true (is_among x state.removed) (λ is. new (view.only x ((among-exactly x state.removed).0 is))) in
    record {
      marked = λ n y is. elim (cases_eq n number) [
        | inl same ↦
            let x_is = same_element elements number x y at (subst (λ k. slice_get elements k ≡ Some y) same is) in
            marked n ∙ cond-true (n == number) Shown (mark_at marks n) (eq-eqb n number same)
            ∙ sym (subst (λ z. mark_in (with_element state x) z ≡ Shown) x_is
            (mark_there (with_element state x) x (among_new x state.inserted)
            ∙ cond-false (is_among x state.removed) Removed Shown left))
        | inr apart ↦
            let other : ¬ (y ≡ x) = λ same. apart (once x n number (is ∙ ap Some same) at) in
            marked n ∙ cond-false (n == number) Shown (mark_at marks n) (ne_eqb n number apart) ∙ view.marked n y is
            ∙ ap (λ b. if not b then Missing else if is_among y state.removed then Removed else Shown)
            (sym (among_other y x state.inserted other))
      ];
      among = λ y there. elim ((in_set y x state.inserted).0 there) [
        | inl same ↦ subst (Contains elements) (sym same) (element_there elements number x at)
        | inr old ↦ view.among y old
      ];
      only = λ y there. (in_set y x state.inserted).1 (inr (view.only y there));
      beyond = λ n past.
          let within = slice_get_within elements number x at in
          marked n ∙ cond-false (n == number) Shown (mark_at marks n) (ne_eqb n number (λ same. absurd (omega (arith, same, within, past))))
          ∙ view.beyond n past;
    }

pub view_removed : (elements : List ℕ) (marks marks' : List Mark) (state : ListState) (number x : ℕ)
    → HasOneNumberEach elements → slice_get elements number ≡ Some x → Contains state.inserted x
    → ((n : ℕ) → mark_at marks' n ≡ (if n == number then Removed else mark_at marks n)) → IsViewOf elements marks state
    → IsViewOf elements marks' (with_removal state x)
view_removed elements marks marks' state number x once at there marked view = record {
  marked = λ n y is. elim (cases_eq n number) [
    | inl same ↦
        let x_is = same_element elements number x y at (subst (λ k. slice_get elements k ≡ Some y) same is) in
        marked n ∙ cond-true (n == number) Removed (mark_at marks n) (eq-eqb n number same)
        ∙ sym (subst (λ z. mark_in (with_removal state x) z ≡ Removed) x_is
        (mark_there (with_removal state x) x ((among-exactly x state.inserted).1 there)
        ∙ cond-true (is_among x (insert_key nat_cmp state.removed x)) Removed Shown (among_new x state.removed)))
    | inr apart ↦
        let other : ¬ (y ≡ x) = λ same. apart (once x n number (is ∙ ap Some same) at) in
        marked n ∙ cond-false (n == number) Removed (mark_at marks n) (ne_eqb n number apart) ∙ view.marked n y is
        ∙ ap (λ b. if not (is_among y state.inserted) then Missing else if b then Removed else Shown)
        (sym (among_other y x state.removed other))
  ];
  among = view.among;
  only = λ y removed. elim ((in_set y x state.removed).0 removed) [
    | inl same ↦ subst (Contains state.inserted) (sym same) there
    | inr old ↦ view.only y old
  ];
  beyond = λ n past.
      let within = slice_get_within elements number x at in
      marked n ∙ cond-false (n == number) Removed (mark_at marks n) (ne_eqb n number (λ same. absurd (omega (arith, same, within, past))))
      ∙ view.beyond n past;
}

-- an element of the longer list is one of the shorter list, or the last
pub pushed_cases : (xs : List ℕ) (x n y : ℕ) → slice_get (xs ++ x ∷ []) n ≡ Some y
    → (slice_get xs n ≡ Some y) ⊎ ((n ≡ length xs) × (x ≡ y))
pushed_cases xs x n y is = elim (cases_lt n (length xs)) [
  | inl below ↦ inl (slice_get-get_or xs n 0 below ∙ ap Some (sym (get_or_append_left xs (x ∷ []) 0 n below)
      ∙ get_or_from_slice_get (xs ++ x ∷ []) n y 0 is))
  | inr past ↦
      let within = slice_get_within (xs ++ x ∷ []) n y is in
      let last : n ≡ length xs = omega (arith, within, past, length_push xs x) in
      inr (
        last,
        sym (get_or-append_seam xs x [] 0)
            ∙ ap (λ k. get_or (xs ++ x ∷ []) k 0) (sym last) ∙ get_or_from_slice_get (xs ++ x ∷ []) n y 0 is,
      )
]

pub pushed_before : (xs : List ℕ) (x n y : ℕ) → slice_get xs n ≡ Some y → slice_get (xs ++ x ∷ []) n ≡ Some y
pushed_before xs x n y is =
    let below = slice_get_within xs n y is in
    slice_get-get_or (xs ++ x ∷ []) n 0 (omega (arith, below, length_push xs x))
    ∙ ap Some (get_or_append_left xs (x ∷ []) 0 n below ∙ get_or_from_slice_get xs n y 0 is)

pub pushed_last : (xs : List ℕ) (x : ℕ) → slice_get (xs ++ x ∷ []) (length xs) ≡ Some x
pushed_last xs x =
    slice_get-get_or (xs ++ x ∷ []) (length xs) 0 (omega (arith, length_push xs x))
    ∙ ap Some (get_or-append_seam xs x [] 0)

pub view_wider : (elements : List ℕ) (marks : List Mark) (state : ListState) (x : ℕ) → ¬ Contains elements x
    → IsViewOf elements marks state → IsViewOf (elements ++ x ∷ []) marks state
view_wider elements marks state x new view = record {
  marked = λ n y is. elim (pushed_cases elements x n y is) [
    | inl old ↦ view.marked n y old
    | inr last ↦
        let none : is_among y state.inserted ≡ false = false_from_ne_true (is_among y state.inserted) (λ among.
        new (subst (Contains elements) (sym last.1) (view.among y ((among-exactly y state.inserted).0 among)))) in
        view.beyond n (omega (arith, last.0)) ∙ sym (mark_missing state y none)
  ];
  among = λ y there. Contains-append_left elements (x ∷ []) y (view.among y there);
  only = view.only;
  beyond = λ n past. view.beyond n (omega (arith, past, length_push elements x));
}

pub once_push : (xs : List ℕ) (x : ℕ) → HasOneNumberEach xs → ¬ Contains xs x → HasOneNumberEach (xs ++ x ∷ [])
once_push xs x once new = λ y m n at_m at_n. elim (pushed_cases xs x m y at_m) [
  | inl old_m ↦ elim (pushed_cases xs x n y at_n) [
    | inl old_n ↦ once y m n old_m old_n
    | inr last_n ↦ absurd (new (subst (Contains xs) (sym last_n.1) (element_there xs m y old_m)))
  ]
  | inr last_m ↦ elim (pushed_cases xs x n y at_n) [
    | inl old_n ↦ absurd (new (subst (Contains xs) (sym last_m.1) (element_there xs n y old_n)))
    | inr last_n ↦ last_m.0 ∙ sym last_n.0
  ]
]

-- the views of all replicas after one of them is marked
pub views_set : (elements : List ℕ) (views views' : List View) (replicas : List ListState) (at number : ℕ) (mark : Mark)
    (state : ListState) → at < length replicas → IsMarked views at number mark views'
    → ((r : ℕ) → IsViewOf elements (view_at views r).marks (state_at replicas r))
    → ((marks : List Mark) → ((n : ℕ) → mark_at marks n ≡ (if n == number then mark else mark_of views at n))
    → IsViewOf elements marks state)
    → (r : ℕ) → IsViewOf elements (view_at views' r).marks (state_at (set replicas at state) r)
views_set elements views views' replicas at number mark state there marked old own r = elim (cases_eq r at) [
  | inl same ↦
      let here : state_at (set replicas at state) r ≡ state =
      ap (state_at (set replicas at state)) same ∙ get_or-set_same replicas at state empty_list there in
      subst (IsViewOf elements (view_at views' r).marks) (sym here)
      (own (view_at views' r).marks (λ n. marked.each r n
      ∙ ap (λ b. if b && n == number then mark else mark_of views r n) (eq-eqb r at same)
      ∙ ap (λ q. if n == number then mark else mark_of views q n) same))
  | inr apart ↦
      let here : state_at (set replicas at state) r ≡ state_at replicas r =
      get_or-set_other replicas at r state empty_list apart in
      subst (IsViewOf elements (view_at views' r).marks) (sym here)
      (view_kept elements (view_at views r).marks (view_at views' r).marks (state_at replicas r)
      (λ n. marked.each r n ∙ ap (λ b. if b && n == number then mark else mark_of views r n) (ne_eqb r at apart)) (old r))
]
