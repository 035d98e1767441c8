-- Lemmas on updates that override earlier ones.
use Rattle.std.proofs.Common.{◌≡◌, ℕ, Bool, true, false, List, [], ◌∷◌, ◌++◌, filter, Option, Some, None, refl, sym, ap, ◌∙◌, inl, inr}
use Rattle.std.specs.Prelude.{◌↔◌, ◌==◌, ◌&&◌, ◌||◌, not, is_some, filter_map, Contains}
use Rattle.std.specs.List.{list_all}
use Rattle.std.specs.Option.{option_or, option_map_or}
use Rattle.std.specs.Ordering.{nat_cmp}
use Rattle.std.specs.BTreeSet.{insert_key}
use Rattle.std.proofs.lemmas.Bool.{false≢true, cases_Bool, cond-true, cond-false, and_parts, and_from, eqb-true, eq-eqb}
use Rattle.std.proofs.lemmas.Option.{none-some, same_Some}
use Rattle.std.proofs.lemmas.List.Elements.{filter-append, filter_map-append}
use Rattle.std.proofs.lemmas.List.Folds.{list_all-append}
use Rattle.std.proofs.lemmas.List.Sums.{fold-append}
use Rattle.ra_labels.proofs.Comparisons.{eqb-comm}
use Rattle.ra_labels.specs.declared.kind.Kind.TheVariants.{Register, LwwSet}
use Rattle.ra_labels.specs.declared.operation.Update.{Update}
use Rattle.ra_labels.specs.declared.operation.Update.TheVariants.{Write, LwwAdd, LwwRemove}
use Rattle.ra_labels.specs.Lists.{is_among}
use Rattle.ra_labels.specs.Specification.{State, Written, Members, state_after, is_admitted}
use Rattle.ra_labels.specs.Answer.{is_kind}
use Rattle.ra_labels.specs.TheoremTerms.{kind_of_state, kind_of_update, acts_on}
use Rattle.ra_labels.specs.Commuting.{then_step, last_of, written_by, last_written, last_on}
use Rattle.ra_labels.proofs.InLists.{among-exactly, same-exactly, rising_same}
use Rattle.ra_labels.proofs.Members.{at_head, behind_head, there-kept}
use Rattle.ra_theorems.proofs.RisingLists.{among-insert, among-remove}
use Rattle.ra_theorems.proofs.States.{state_from, stuck, state-of_kind, set-rises, admitted-of_kind}
use Rattle.ra_theorems.proofs.Meanings.{some-exactly}

-- `option_or` keeps the first value that is present
or_again : {A : Type 0} (a : Option A) (x : A) (b : Option A)
    → option_or (option_or a (Some x)) b ≡ option_or a (Some x)
or_again None x b = refl
or_again (Some y) x b = refl

or_assoc : {A : Type 0} (a b c : Option A) → option_or (option_or a b) c ≡ option_or a (option_or b c)
or_assoc None b c = refl
or_assoc (Some x) b c = refl

or_none : {A : Type 0} (a : Option A) → option_or a None ≡ a
or_none None = refl
or_none (Some x) = refl

last_of-append : {A : Type 0} (xs ys : List A) → last_of (xs ++ ys) ≡ option_or (last_of ys) (last_of xs)
last_of-append [] ys = sym (or_none (last_of ys))
last_of-append (x ∷ xs) ys = ap (λ a. option_or a (Some x)) (last_of-append xs ys)
    ∙ or_assoc (last_of ys) (last_of xs) (Some x)

last_or_first : {A : Type 0} (x : A) (xs : List A) (y : A) (a : Option A) → (a ≡ Some y → Contains xs y)
    → option_or a (Some x) ≡ Some y → Contains (x ∷ xs) y
last_or_first x xs y None rest is = at_head x xs y (same_Some x y is)
last_or_first x xs y (Some z) rest is = behind_head x xs y (rest is)

last_of-there : {A : Type 0} (xs : List A) (y : A) → last_of xs ≡ Some y → Contains xs y
last_of-there [] y is = absurd (none-some y is)
last_of-there (x ∷ xs) y is = last_or_first x xs y (last_of xs) (last_of-there xs y) is

-- a sequence of writes leads to the value of the last one
writes_from : (w : Option ℕ) (us : List Update) → is_some (state_from (Some (Written w)) us) ≡ true
    → state_from (Some (Written w)) us ≡ Some (Written (option_or (last_written us) w))
writes_from w [] is = refl
writes_from w (Write value ∷ us) is =
    writes_from (Some value) us is ∙ ap (λ v. Some (Written v)) (sym (or_again (last_written us) value w))
writes_from w (_ ∷ us) is = absurd (false≢true (sym (ap is_some (stuck us)) ∙ is))

pub writes-last : (updates : List Update) → is_admitted Register updates ≡ true
    → state_after Register updates ≡ Some (Written (last_written updates))
writes-last updates is = writes_from None updates is ∙ ap (λ v. Some (Written v)) (or_none (last_written updates))

pub last_written-append : (us vs : List Update)
    → last_written (us ++ vs) ≡ option_or (last_written vs) (last_written us)
last_written-append us vs = ap last_of (filter_map-append written_by us vs)
    ∙ last_of-append (filter_map written_by us) (filter_map written_by vs)

-- if all updates pass a test, so do this one and all the others
kind_without : (p : Update → Bool) (first later : List Update) (u : Update) → list_all p (first ++ u ∷ later) ≡ true
    → (p u ≡ true) × (list_all p (first ++ later) ≡ true)
kind_without p first later u all =
    let split = and_parts (list_all p first) (list_all p (u ∷ later))
    (sym (list_all-append p first (u ∷ later)) ∙ all) in
    let rest = and_parts (p u) (list_all p later) split.1 in
    (rest.0, list_all-append p first later ∙ and_from (list_all p first) (list_all p later) split.0 rest.1)

pub writes-late : (first later : List Update) (value last : ℕ)
    → is_admitted Register (first ++ Write value ∷ later) ≡ true → last_written (Write value ∷ later) ≡ Some last
    → state_after Register (first ++ Write value ∷ later)
    ≡ then_step (state_after Register (first ++ later)) (Write last)
writes-late first later value last is found =
    let of_kind = λ (u : Update). is_kind Register (kind_of_update u) in
    let all = sym (admitted-of_kind Register (first ++ Write value ∷ later) refl) ∙ is in
    let others = admitted-of_kind Register (first ++ later) refl
    ∙ (kind_without of_kind first later (Write value) all).1 in
    writes-last (first ++ Write value ∷ later) is
    ∙ ap (λ v. Some (Written v))
    (last_written-append first (Write value ∷ later) ∙ ap (λ v. option_or v (last_written first)) found)
    ∙ sym (ap (λ o. then_step o (Write last)) (writes-last (first ++ later) others))

-- the element on which an update acts
pub acts_at : (x y : ℕ) (u : Update) → acts_on x u ≡ true → acts_on y u ≡ (y == x)
acts_at x y (LwwAdd a) is = ap (λ b. y == b) (sym (eqb-true x a is))
acts_at x y (LwwRemove a) is = ap (λ b. y == b) (sym (eqb-true x a is))
acts_at x y _ is = absurd (false≢true is)

last_on-acts : (x : ℕ) (us : List Update) (u : Update) → last_on x us ≡ Some u → Contains us u × (acts_on x u ≡ true)
last_on-acts x us u is = there-kept (acts_on x) us u (last_of-there (filter (acts_on x) us) u is)

pub last_on-cons : (x : ℕ) (u : Update) (us : List Update) → acts_on x u ≡ true
    → last_on x (u ∷ us) ≡ option_or (last_on x us) (Some u)
last_on-cons x u us acts = ap last_of (cond-true (acts_on x u) (u ∷ filter (acts_on x) us) (filter (acts_on x) us) acts)

pub last_on-other : (x : ℕ) (u : Update) (us : List Update) → acts_on x u ≡ false → last_on x (u ∷ us) ≡ last_on x us
last_on-other x u us other =
    ap last_of (cond-false (acts_on x u) (u ∷ filter (acts_on x) us) (filter (acts_on x) us) other)

pub last_on-append : (x : ℕ) (us vs : List Update) → last_on x (us ++ vs) ≡ option_or (last_on x vs) (last_on x us)
last_on-append x us vs = ap last_of (filter-append (acts_on x) us vs)
    ∙ last_of-append (filter (acts_on x) us) (filter (acts_on x) vs)

-- the last update on an element adds it or removes it
abbrev puts_in : Update → Bool
puts_in (LwwAdd x) = true
puts_in _ = false

map_or_again : (a : Option Update) (u : Update) (b : Bool)
    → option_map_or puts_in (option_or a (Some u)) b ≡ option_map_or puts_in a (puts_in u)
map_or_again None u b = refl
map_or_again (Some v) u b = refl

put_last : (x : ℕ) (xs : List ℕ) (us : List Update) (ys : List ℕ)
    → state_from (Some (Members xs)) us ≡ Some (Members ys)
    → is_among x ys ≡ option_map_or puts_in (last_on x us) (is_among x xs)
put_last x xs [] ys is = let same : xs ≡ ys = cc (is) in ap (is_among x) (sym same)
put_last x xs (LwwAdd a ∷ us) ys is = elim (cases_Bool (x == a)) [
  | inl acts ↦
      put_last x (insert_key nat_cmp xs a) us ys is
      ∙ ap (option_map_or puts_in (last_on x us)) (among-insert x a xs ∙ ap (λ b. b || is_among x xs) acts)
      ∙ sym (ap (λ o. option_map_or puts_in o (is_among x xs)) (last_on-cons x (LwwAdd a) us acts)
      ∙ map_or_again (last_on x us) (LwwAdd a) (is_among x xs))
  | inr other ↦
      put_last x (insert_key nat_cmp xs a) us ys is
      ∙ ap (option_map_or puts_in (last_on x us)) (among-insert x a xs ∙ ap (λ b. b || is_among x xs) other)
      ∙ sym (ap (λ o. option_map_or puts_in o (is_among x xs)) (last_on-other x (LwwAdd a) us other))
]
put_last x xs (LwwRemove a ∷ us) ys is = elim (cases_Bool (x == a)) [
  | inl acts ↦
      put_last x (filter (λ z. not (a == z)) xs) us ys is
      ∙ ap (option_map_or puts_in (last_on x us))
      (among-remove x a xs ∙ ap (λ b. not b && is_among x xs) (eq-eqb a x (sym (eqb-true x a acts))))
      ∙ sym (ap (λ o. option_map_or puts_in o (is_among x xs)) (last_on-cons x (LwwRemove a) us acts)
      ∙ map_or_again (last_on x us) (LwwRemove a) (is_among x xs))
  | inr other ↦
      put_last x (filter (λ z. not (a == z)) xs) us ys is
      ∙ ap (option_map_or puts_in (last_on x us))
      (among-remove x a xs ∙ ap (λ b. not b && is_among x xs) (eqb-comm a x ∙ other))
      ∙ sym (ap (λ o. option_map_or puts_in o (is_among x xs)) (last_on-other x (LwwRemove a) us other))
]
put_last x xs (_ ∷ us) ys is = absurd (none-some (Members ys) (sym (stuck us) ∙ is))

is_addition : (x : ℕ) (u : Update) → acts_on x u ≡ true → puts_in u ≡ true → u ≡ LwwAdd x
is_addition x (LwwAdd a) of_x puts = ap LwwAdd (sym (eqb-true x a of_x))
is_addition x _ of_x puts = absurd (false≢true puts)

put_in_last : (x : ℕ) (us : List Update) (o : Option Update) → last_on x us ≡ o → option_map_or puts_in o false ≡ true
    → o ≡ Some (LwwAdd x)
put_in_last x us None is puts = absurd (false≢true puts)
put_in_last x us (Some u) is puts = ap Some (is_addition x u (last_on-acts x us u is).1 puts)

pub set-has : (updates : List Update) (xs : List ℕ) (x : ℕ) → state_after LwwSet updates ≡ Some (Members xs)
    → Contains xs x ↔ (last_on x updates ≡ Some (LwwAdd x))
set-has updates xs x is =
    let known = put_last x [] updates xs is in (
      (λ there. put_in_last x updates (last_on x updates) refl (sym known ∙ (among-exactly x xs).1 there)),
      (λ last. (among-exactly x xs).0 (known ∙ ap (λ o. option_map_or puts_in o false) last)),
    )

some_members : (state : State) → kind_of_state state ≡ LwwSet → (xs : List ℕ) × (state ≡ Members xs)
some_members (Members xs) is = (xs, refl)
some_members _ is = absurd (cc (is))

members_after : (updates : List Update) → is_admitted LwwSet updates ≡ true
    → (xs : List ℕ) × (state_after LwwSet updates ≡ Some (Members xs))
members_after updates is =
    let found = (some-exactly (state_after LwwSet updates)).0 is in
    let members = some_members found.0 (state-of_kind LwwSet updates found.0 found.1) in
    (members.0, found.1 ∙ ap Some members.1)

pub set-same : (updates others : List Update) → is_admitted LwwSet updates ≡ true → is_admitted LwwSet others ≡ true
    → ((x : ℕ) → last_on x updates ≡ last_on x others) → state_after LwwSet updates ≡ state_after LwwSet others
set-same updates others is also same =
    let (xs, led) = members_after updates is in
    let (ys, led_too) = members_after others also in
    let equal : xs ≡ ys = rising_same xs ys (set-rises updates xs led) (set-rises others ys led_too)
    ((same-exactly xs ys).1 (λ x. (
      (λ there. (set-has others ys x led_too).1 (sym (same x) ∙ (set-has updates xs x led).0 there)),
      (λ there. (set-has updates xs x led).1 (same x ∙ (set-has others ys x led_too).0 there)),
    ))) in
    led ∙ ap (λ zs. Some (Members zs)) equal ∙ sym led_too

-- an update that acts on an element is one of an LWW set
of_a_set : (x : ℕ) (u : Update) → acts_on x u ≡ true → is_kind LwwSet (kind_of_update u) ≡ true
of_a_set x (LwwAdd a) is = refl
of_a_set x (LwwRemove a) is = refl
of_a_set x _ is = absurd (false≢true is)

same_last : (first later : List Update) (u last : Update) (x y : ℕ) → acts_on x u ≡ true
    → last_on x (u ∷ later) ≡ Some last → last_on y (first ++ u ∷ later) ≡ last_on y ((first ++ later) ++ last ∷ [])
same_last first later u last x y acts found =
    let last_acts = (last_on-acts x (u ∷ later) last found).1 in
    let at_u = acts_at x y u acts in
    let at_last = acts_at x y last last_acts in
    last_on-append y first (u ∷ later)
    ∙ elim (cases_Bool (y == x)) [
      | inl here ↦
          ap (λ o. option_or o (last_on y first)) (ap (λ z. last_on z (u ∷ later)) (eqb-true y x here) ∙ found)
          ∙ sym (ap (λ o. option_or o (last_on y (first ++ later))) (last_on-cons y last [] (at_last ∙ here)))
      | inr other ↦
          ap (λ o. option_or o (last_on y first)) (last_on-other y u later (at_u ∙ other))
          ∙ sym (last_on-append y first later)
          ∙ sym (ap (λ o. option_or o (last_on y (first ++ later))) (last_on-other y last [] (at_last ∙ other)))
    ]
    ∙ sym (last_on-append y (first ++ later) (last ∷ []))

pub set-late : (first later : List Update) (update last : Update) (x : ℕ)
    → is_admitted LwwSet (first ++ update ∷ later) ≡ true → acts_on x update ≡ true
    → last_on x (update ∷ later) ≡ Some last
    → state_after LwwSet (first ++ update ∷ later) ≡ then_step (state_after LwwSet (first ++ later)) last
set-late first later update last x is acts found =
    let of_kind = λ (u : Update). is_kind LwwSet (kind_of_update u) in
    let all = sym (admitted-of_kind LwwSet (first ++ update ∷ later) refl) ∙ is in
    let others = (kind_without of_kind first later update all).1 in
    let one : list_all of_kind (last ∷ []) ≡ true =
    and_from (of_kind last) true (of_a_set x last (last_on-acts x (update ∷ later) last found).1) refl in
    let admitted = admitted-of_kind LwwSet ((first ++ later) ++ last ∷ []) refl
    ∙ list_all-append of_kind (first ++ later) (last ∷ [])
    ∙ and_from (list_all of_kind (first ++ later)) (list_all of_kind (last ∷ [])) others one in
    set-same (first ++ update ∷ later) ((first ++ later) ++ last ∷ []) is admitted
    (λ y. same_last first later update last x y acts found)
    ∙ fold-append (λ (state : Option State) (u : Update). then_step state u) (Some (Members []))
    (first ++ later) (last ∷ [])

-- if this update or one behind it is the last of all updates, it is also the last of these
or_some : {A : Type 0} (a : Option A) (x : A) (b : Option A) (y : A) → option_or (option_or a (Some x)) b ≡ Some y
    → option_or a (Some x) ≡ Some y
or_some a x b y is = sym (or_again a x b) ∙ is

pub last_written-behind : (first later : List Update) (value last : ℕ)
    → last_written (first ++ Write value ∷ later) ≡ Some last → last_written (Write value ∷ later) ≡ Some last
last_written-behind first later value last is =
    or_some (last_written later) value (last_written first) last
    (sym (last_written-append first (Write value ∷ later)) ∙ is)

pub last_on-behind : (first later : List Update) (u last : Update) (x : ℕ) → acts_on x u ≡ true
    → last_on x (first ++ u ∷ later) ≡ Some last → last_on x (u ∷ later) ≡ Some last
last_on-behind first later u last x acts is =
    last_on-cons x u later acts
    ∙ or_some (last_on x later) u (last_on x first) last
    (ap (λ o. option_or o (last_on x first)) (sym (last_on-cons x u later acts))
    ∙ sym (last_on-append x first (u ∷ later)) ∙ is)
