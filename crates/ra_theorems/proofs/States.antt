-- Lemmas on the states that updates lead to, step by step.
use Rattle.std.proofs.Common.{◌≡◌, ℕ, ◌+◌, true, false, List, [], ◌∷◌, ◌++◌, filter, Option, Some, None, refl, sym, ap, ◌∙◌, subst, inl, inr, length, arith}
use Rattle.std.specs.Prelude.{◌↔◌, ◌==◌, ◌&&◌, ◌||◌, not, fold, option_and_then, is_some, Contains, ℤ, pos, neg_ℤ, ◌+ℤ◌, ◌-ℤ◌, ◌≤ℤ◌}
use Rattle.std.specs.List.{list_all}
use Rattle.std.specs.Option.{option_eq}
use Rattle.std.specs.Bool.{Decides}
use Rattle.std.specs.Ordering.{nat_cmp}
use Rattle.std.specs.BTreeSet.{insert_key}
use Rattle.std.proofs.lemmas.Bool.{false≢true, and_parts, and_from, eqb-true, eq-eqb, not-true, not_from_true, and_left, or_left}
use Rattle.std.proofs.lemmas.Option.{none-some, same_Some}
use Rattle.std.proofs.lemmas.List.Sums.{fold-append}
use Rattle.ra_labels.specs.declared.kind.Kind.{Kind}
use Rattle.ra_labels.specs.declared.kind.Kind.TheVariants.{Register, LwwSet, Counter}
use Rattle.ra_labels.specs.declared.operation.Update.{Update}
use Rattle.ra_labels.specs.declared.operation.Update.TheVariants.{Inc, Dec, Write, LwwAdd, LwwRemove}
use Rattle.ra_labels.specs.declared.operation.Query.TheVariants.{Last, LwwRead}
use Rattle.ra_labels.specs.Lists.{is_among, rises}
use Rattle.ra_labels.specs.Specification.{State, Number, Written, Members, initial_state, step_of, answers, state_after, is_admitted}
use Rattle.ra_labels.specs.Answer.{is_kind}
use Rattle.ra_labels.specs.TheoremTerms.{kind_of_state, kind_of_update, acts_on, NoneActsOn, admits_all}
use Rattle.ra_labels.proofs.InLists.{among-exactly, same-exactly, bool_same}
use Rattle.ra_labels.proofs.SameKind.{kind_itself}
use Rattle.ra_theorems.specs.Counters.{increments_in, decrements_in}
use Rattle.ra_theorems.proofs.RisingLists.{among-insert, among-remove, rises-insert, rises-remove}
use Rattle.ra_theorems.proofs.StateKinds.{start_kind, StepKnown, step-known, step-kind}
use Rattle.std.proofs.lemmas.Int.{ints}
use Rattle.ra_labels.proofs.Comparisons.{eqb-comm}

-- the state that updates lead to from a given state
abbrev pub state_from : Option State → List Update → Option State
state_from state updates = fold (λ state update. option_and_then (λ s. step_of s update) state) state updates

-- if there is no state, updates lead to none
pub stuck : (updates : List Update) → state_from None updates ≡ None
stuck [] = refl
stuck (update ∷ updates) = stuck updates

-- updates are admitted only if they are of the state's kind
onwards : (state : State) (update : Update) (updates : List Update) (o : Option State) → StepKnown state update o
    → ((next : State) → kind_of_state next ≡ kind_of_state state → is_some (state_from (Some next) updates) ≡ true
    → list_all (λ u. is_kind (kind_of_state state) (kind_of_update u)) updates ≡ true)
    → is_some (state_from o updates) ≡ true
    → list_all (λ u. is_kind (kind_of_state state) (kind_of_update u)) (update ∷ updates) ≡ true
onwards state update updates None known rest is = absurd (false≢true (sym (ap is_some (stuck updates)) ∙ is))
onwards state update updates (Some next) known rest is =
    and_from (is_kind (kind_of_state state) (kind_of_update update))
    (list_all (λ u. is_kind (kind_of_state state) (kind_of_update u)) updates)
    (ap (is_kind (kind_of_state state)) known.1 ∙ kind_itself (kind_of_state state)) (rest next known.0 is)

only_kind : (state : State) (kind : Kind) (updates : List Update) → kind_of_state state ≡ kind
    → is_some (state_from (Some state) updates) ≡ true
    → list_all (λ update. is_kind kind (kind_of_update update)) updates ≡ true
only_kind state kind [] of is = refl
only_kind state kind (update ∷ updates) of is =
    subst (λ k. list_all (λ u. is_kind k (kind_of_update u)) (update ∷ updates) ≡ true) of
    (onwards state update updates (step_of state update) (step-known state update)
    (λ next same there. only_kind next (kind_of_state state) updates same there) is)

pub admitted-only : (kind : Kind) (updates : List Update) → is_admitted kind updates ≡ true
    → list_all (λ update. is_kind kind (kind_of_update update)) updates ≡ true
admitted-only kind updates is = only_kind (initial_state kind) kind updates (start_kind kind) is

-- and, for a kind whose states admit all its updates, whenever they are
goes : (state : State) (update : Update) (updates : List Update) (o : Option State) → admits_all (kind_of_state state) ≡ true
    → StepKnown state update o
    → ((next : State) → kind_of_state next ≡ kind_of_state state
    → list_all (λ u. is_kind (kind_of_state state) (kind_of_update u)) updates ≡ true
    → is_some (state_from (Some next) updates) ≡ true)
    → list_all (λ u. is_kind (kind_of_state state) (kind_of_update u)) (update ∷ updates) ≡ true
    → is_some (state_from o updates) ≡ true
goes state update updates None other (inl wrong) rest is =
    absurd (false≢true
    (sym wrong
    ∙ (and_parts (is_kind (kind_of_state state) (kind_of_update update))
    (list_all (λ u. is_kind (kind_of_state state) (kind_of_update u)) updates) is).0))
goes state update updates None other (inr not_all) rest is = absurd (false≢true (sym not_all ∙ other))
goes state update updates (Some next) other known rest is =
    rest next known.0
    (and_parts (is_kind (kind_of_state state) (kind_of_update update))
    (list_all (λ u. is_kind (kind_of_state state) (kind_of_update u)) updates) is).1

goes_on : (state : State) (kind : Kind) (updates : List Update) → admits_all kind ≡ true → kind_of_state state ≡ kind
    → list_all (λ update. is_kind kind (kind_of_update update)) updates ≡ true
    → is_some (state_from (Some state) updates) ≡ true
goes_on state kind [] other of is = refl
goes_on state kind (update ∷ updates) other of is =
    goes state update updates (step_of state update) (ap admits_all of ∙ other) (step-known state update)
    (λ next same all. goes_on next (kind_of_state state) updates (ap admits_all of ∙ other) same all)
    (subst (λ k. list_all (λ u. is_kind k (kind_of_update u)) (update ∷ updates) ≡ true) (sym of) is)

pub admitted-of_kind : (kind : Kind) (updates : List Update) → admits_all kind ≡ true
    → is_admitted kind updates ≡ list_all (λ update. is_kind kind (kind_of_update update)) updates
admitted-of_kind kind updates other =
    bool_same (is_admitted kind updates) (list_all (λ update. is_kind kind (kind_of_update update)) updates)
    (admitted-only kind updates) (goes_on (initial_state kind) kind updates other (start_kind kind))

-- a register has the value of the last write
written : (state : Option State) (value : ℕ) → is_some state ≡ true
    → ((s : State) → state ≡ Some s → (last : Option ℕ) × (s ≡ Written last))
    → option_and_then (λ s. step_of s (Write value)) state ≡ Some (Written (Some value))
written None value there is = absurd (false≢true there)
written (Some s) value there is = let known = is s refl in rw (known.1) refl

register_from : (last : Option ℕ) (updates : List Update) (state : State)
    → state_from (Some (Written last)) updates ≡ Some state → (now : Option ℕ) × (state ≡ Written now)
register_from last [] state is = (last, sym (same_Some (Written last) state is))
register_from last (Write value ∷ updates) state is = register_from (Some value) updates state is
register_from last (_ ∷ updates) state is = absurd (none-some state (sym (stuck updates) ∙ is))

pub register-last : (updates : List Update) (value : ℕ) → is_admitted Register updates ≡ true
    → state_after Register (updates ++ Write value ∷ []) ≡ Some (Written (Some value))
register-last updates value there =
    fold-append (λ state update. option_and_then (λ s. step_of s update) state) (Some (Written None)) updates
    (Write value ∷ [])
    ∙ written (state_after Register updates) value there (λ s is. register_from None updates s is)

option_same : (x y : Option ℕ) → Decides (option_eq (λ v w. v == w) x y) (x ≡ y)
option_same None None = (λ is. refl, λ same. refl)
option_same None (Some y) = (λ is. absurd (false≢true is), λ same. absurd (cc (same)))
option_same (Some x) None = (λ is. absurd (false≢true is), λ same. absurd (cc (same)))
option_same (Some x) (Some y) = (λ is. ap Some (eqb-true x y is), λ same. eq-eqb x y (same_Some x y same))

pub answers-last : (last value : Option ℕ) → (answers (Written last) (Last value) ≡ true) ↔ (value ≡ last)
answers-last last value = option_same value last

pub answers-elements : (xs list : List ℕ) → (answers (Members xs) (LwwRead list) ≡ true)
    ↔ ((x : ℕ) → Contains list x ↔ Contains xs x)
answers-elements xs list = same-exactly list xs

-- updates that do not act on an element do not change whether it is present
set_from : (x : ℕ) (xs : List ℕ) (updates : List Update) (ys : List ℕ) → NoneActsOn x updates
    → state_from (Some (Members xs)) updates ≡ Some (Members ys) → is_among x ys ≡ is_among x xs
set_from x xs [] ys none is = let same : xs ≡ ys = cc (is) in ap (is_among x) (sym same)
set_from x xs (LwwAdd y ∷ updates) ys none is =
    let parts = and_parts (not (x == y)) (list_all (λ update. not (acts_on x update)) updates) none in
    set_from x (insert_key nat_cmp xs y) updates ys parts.1 is ∙ among-insert x y xs
    ∙ ap (λ b. b || is_among x xs) (not-true (x == y) parts.0)
set_from x xs (LwwRemove y ∷ updates) ys none is =
    let parts = and_parts (not (x == y)) (list_all (λ update. not (acts_on x update)) updates) none in
    set_from x (filter (λ z. not (y == z)) xs) updates ys parts.1 is ∙ among-remove x y xs
    ∙ ap (λ b. not b && is_among x xs) (eqb-comm y x ∙ not-true (x == y) parts.0)
set_from x xs (_ ∷ updates) ys none is = absurd (none-some (Members ys) (sym (stuck updates) ∙ is))

-- an element is present if the last update on it added it
added_from : (state : Option State) (x : ℕ) (later : List Update) (xs : List ℕ) → NoneActsOn x later
    → state_from state (LwwAdd x ∷ later) ≡ Some (Members xs) → is_among x xs ≡ true
added_from (Some (Members zs)) x later xs none is =
    set_from x _ later xs none is ∙ among-insert x x zs ∙ or_left (x == x) (is_among x zs) (eq-eqb x x refl)
added_from _ x later xs none is = absurd (none-some (Members xs) (sym (stuck later) ∙ is))

removed_from : (state : Option State) (x : ℕ) (later : List Update) (xs : List ℕ) → NoneActsOn x later
    → state_from state (LwwRemove x ∷ later) ≡ Some (Members xs) → is_among x xs ≡ false
removed_from (Some (Members zs)) x later xs none is =
    set_from x _ later xs none is ∙ among-remove x x zs
    ∙ and_left (not (x == x)) (is_among x zs) (not_from_true (x == x) (eq-eqb x x refl))
removed_from _ x later xs none is = absurd (none-some (Members xs) (sym (stuck later) ∙ is))

split : (first : List Update) (update : Update) (later : List Update)
    → state_after LwwSet (first ++ update ∷ later) ≡ state_from (state_after LwwSet first) (update ∷ later)
split first update later = fold-append (λ state change. option_and_then (λ s. step_of s change) state)
    (Some (Members [])) first (update ∷ later)

not_there : (x : ℕ) (xs : List ℕ) → is_among x xs ≡ false → ¬ Contains xs x
not_there x xs out there = false≢true (sym out ∙ (among-exactly x xs).1 there)

pub set-added : (first later : List Update) (x : ℕ) (xs : List ℕ) → NoneActsOn x later
    → state_after LwwSet (first ++ LwwAdd x ∷ later) ≡ Some (Members xs) → Contains xs x
set-added first later x xs none is =
    (among-exactly x xs).0
    (added_from (state_after LwwSet first) x later xs none (sym (split first (LwwAdd x) later) ∙ is))

pub set-removed : (first later : List Update) (x : ℕ) (xs : List ℕ) → NoneActsOn x later
    → state_after LwwSet (first ++ LwwRemove x ∷ later) ≡ Some (Members xs) → ¬ Contains xs x
set-removed first later x xs none is =
    not_there x xs
    (removed_from (state_after LwwSet first) x later xs none (sym (split first (LwwRemove x) later) ∙ is))

pub set-never : (updates : List Update) (x : ℕ) (xs : List ℕ) → NoneActsOn x updates
    → state_after LwwSet updates ≡ Some (Members xs) → ¬ Contains xs x
set-never updates x xs none is = not_there x xs (set_from x [] updates xs none is)

-- the elements of a set rise strictly
rises_from : (xs : List ℕ) (updates : List Update) (ys : List ℕ) → rises xs ≡ true
    → state_from (Some (Members xs)) updates ≡ Some (Members ys) → rises ys ≡ true
rises_from xs [] ys up is = let same : xs ≡ ys = cc (is) in subst (λ zs. rises zs ≡ true) same up
rises_from xs (LwwAdd y ∷ updates) ys up is = rises_from (insert_key nat_cmp xs y) updates ys (rises-insert y xs up) is
rises_from xs (LwwRemove y ∷ updates) ys up is =
    rises_from (filter (λ z. not (y == z)) xs) updates ys (rises-remove y xs up) is
rises_from xs (_ ∷ updates) ys up is = absurd (none-some (Members ys) (sym (stuck updates) ∙ is))

pub set-rises : (updates : List Update) (xs : List ℕ) → state_after LwwSet updates ≡ Some (Members xs) → rises xs ≡ true
set-rises updates xs is = rises_from [] updates xs refl is

-- a state keeps its kind
kind_from : (state : Option State) (updates : List Update) (kind : Kind)
    → ((s : State) → state ≡ Some s → kind_of_state s ≡ kind) → (last : State) → state_from state updates ≡ Some last
    → kind_of_state last ≡ kind
kind_from state [] kind of last is = of last is
kind_from None (update ∷ updates) kind of last is = absurd (none-some last (sym (stuck updates) ∙ is))
kind_from (Some s) (update ∷ updates) kind of last is =
    kind_from (step_of s update) updates kind (λ t next. (step-kind s update t next).0 ∙ of s refl) last is

pub state-of_kind : (kind : Kind) (updates : List Update) (state : State) → state_after kind updates ≡ Some state
    → kind_of_state state ≡ kind
state-of_kind kind updates state is =
    kind_from (Some (initial_state kind)) updates kind
    (λ s same. ap kind_of_state (sym (same_Some (initial_state kind) s same)) ∙ start_kind kind) state is

-- ---- the initial state, one more step, and a counter's number

-- before any update the state is the initial one
pub state_after-nil : (kind : Kind) → state_after kind [] ≡ Some (initial_state kind)
state_after-nil kind = refl

-- one more update is one more step
pub state_after-push : (kind : Kind) (updates : List Update) (update : Update)
    → state_after kind (updates ++ update ∷ []) ≡ option_and_then (λ state. step_of state update)
    (state_after kind updates)
state_after-push kind updates update = fold-append (λ state update. option_and_then (λ s. step_of s update) state)
    (Some (initial_state kind)) updates (update ∷ [])

-- updates change a number by at most their count
number_after : (n : ℤ) (updates : List Update) (state : State) → state_from (Some (Number n)) updates ≡ Some state
    → (m : ℤ) × (state ≡ Number m) × (n ≤ℤ (m +ℤ pos (length updates))) × (m ≤ℤ (n +ℤ pos (length updates)))
number_after n [] state is = (n, sym (same_Some (Number n) state is), omega (arith, ints), omega (arith, ints))
number_after n (Inc ∷ updates) state is =
    let rest = number_after (n +ℤ pos 1) updates state is in
    (rest.0, rest.1, omega (arith, ints, rest.2, rest.3), omega (arith, ints, rest.2, rest.3))
number_after n (Dec ∷ updates) state is =
    let rest = number_after (n -ℤ pos 1) updates state is in
    (rest.0, rest.1, omega (arith, ints, rest.2, rest.3), omega (arith, ints, rest.2, rest.3))
number_after n (_ ∷ updates) state is = absurd (none-some state (sym (stuck updates) ∙ is))

-- and by the increments less the decrements
number_is : (n : ℤ) (updates : List Update) (state : State) → state_from (Some (Number n)) updates ≡ Some state
    → state ≡ Number ((n +ℤ pos (increments_in updates)) -ℤ pos (decrements_in updates))
number_is n [] state is = sym (same_Some (Number n) state is) ∙ ap Number (omega (arith, ints))
number_is n (Inc ∷ updates) state is =
    let one_more : increments_in (Inc ∷ updates) ≡ increments_in updates + 1 = refl in
    let as_many : decrements_in (Inc ∷ updates) ≡ decrements_in updates = refl in
    number_is (n +ℤ pos 1) updates state is ∙ ap Number (omega (arith, ints, one_more, as_many))
number_is n (Dec ∷ updates) state is =
    let as_many : increments_in (Dec ∷ updates) ≡ increments_in updates = refl in
    let one_more : decrements_in (Dec ∷ updates) ≡ decrements_in updates + 1 = refl in
    number_is (n -ℤ pos 1) updates state is ∙ ap Number (omega (arith, ints, as_many, one_more))
number_is n (_ ∷ updates) state is = absurd (none-some state (sym (stuck updates) ∙ is))

pub counter_is : (updates : List Update) (state : State) → state_after Counter updates ≡ Some state
    → state ≡ Number (pos (increments_in updates) -ℤ pos (decrements_in updates))
counter_is updates state is = number_is (pos 0) updates state is ∙ ap Number (omega (arith, ints))

-- a counter's number is at most the number of updates away from 0
pub counter_within : (updates : List Update) (state : State) → state_after Counter updates ≡ Some state
    → (number : ℤ) × (state ≡ Number number) × (neg_ℤ (pos (length updates)) ≤ℤ number)
    × (number ≤ℤ pos (length updates))
counter_within updates state is =
    let known = number_after (pos 0) updates state is in
    (known.0, known.1, omega (arith, ints, known.2), omega (arith, ints, known.3))
