-- The sequential specification of each kind: an initial state, a partial step for each update, and a test of the answer
-- of each query.
use Rattle.std.specs.Prelude.{ℕ, ℤ, pos, ◌+ℤ◌, ◌-ℤ◌, ◌==◌, nat_eq, Bool, true, false, not, ◌&&◌, List, [], ◌∷◌, Option, Some, None, filter, option_map, option_and_then, fold, is_some, if◌then◌else◌}
use Rattle.std.specs.Option.{option_map_or, option_eq}
use Rattle.std.specs.Ordering.{int_eq, nat_cmp}
use Rattle.std.specs.Cmp.Lexicographic.{pointwise}
use Rattle.std.specs.BTreeSet.{insert_key}
use Rattle.ra_labels.specs.declared.kind.Kind.{Kind}
use Rattle.ra_labels.specs.declared.kind.Kind.TheVariants.{Counter, Register, LwwSet, OrSet, Rga}
use Rattle.ra_labels.specs.declared.kind.Kind.TheVariants as kinds
use Rattle.ra_labels.specs.declared.operation.Update.{Update}
use Rattle.ra_labels.specs.declared.operation.Update.TheVariants.{Inc, Dec, Write, LwwAdd, LwwRemove, OrAdd, TakeOut, After, RgaRemove}
use Rattle.ra_labels.specs.declared.operation.Update.TheVariants as updates
use Rattle.ra_labels.specs.declared.operation.Query.{Query}
use Rattle.ra_labels.specs.declared.operation.Query.TheVariants.{Count, Last, LwwRead, ReadIds, OrRead, RgaRead}
use Rattle.ra_labels.specs.declared.operation.Query.TheVariants as queries
use Rattle.ra_labels.specs.Lists.{have_same_elements, pair_cmp, identifiers_of, elements_of, without_pairs, is_in_list, insert_after, hide, shown}
use Rattle.ra_labels.specs.FreeList.{ListState, empty_list, list_step, list_answers}

-- the state of one kind: the value that updates lead to
pub data State : Type 0 where
  -- of a counter, a number
  Number : ℤ → State
  -- of a register, the value that was written last, none before any write
  Written : Option ℕ → State
  -- of an LWW set, its elements as a strictly increasing list
  Members : List ℕ → State
  -- of an OR-Set, its pairs of an element and an identifier as a strictly increasing list
  Pairs : List (ℕ × ℕ) → State
  -- of an RGA, its elements in their order, the root 0 first, each with whether a read shows it
  Listed : List (ℕ × Bool) → State
  -- of a list, its elements without their order
  Listing : ListState → State
  -- of an object of any type, nothing: its reads are judged by what they see
  OfAny : State
  -- of a multi-value register, nothing: its reads are judged by the siblings
  OfMvRegister : State

-- the initial state, before any update
abbrev pub initial_state : Kind → State
initial_state Counter = Number (pos 0)
initial_state Register = Written None
initial_state LwwSet = Members []
initial_state OrSet = Pairs []
initial_state Rga = Listed ((0, false) ∷ [])
initial_state kinds.List = Listing empty_list
initial_state kinds.Any = OfAny
initial_state kinds.MvRegister = OfMvRegister

-- the state after the update; none if the state does not admit it
abbrev pub step_of : State → Update → Option State
step_of (Number n) Inc = Some (Number (n +ℤ pos 1))
step_of (Number n) Dec = Some (Number (n -ℤ pos 1))
step_of (Written last) (Write value) = Some (Written (Some value))
step_of (Members xs) (LwwAdd x) = Some (Members (insert_key nat_cmp xs x))
step_of (Members xs) (LwwRemove x) = Some (Members (filter (λ y. not (x == y)) xs))
step_of (Pairs pairs) (OrAdd x id) = Some (Pairs (insert_key pair_cmp pairs (x, id)))
step_of (Pairs pairs) (TakeOut x ids) = Some (Pairs (without_pairs x ids pairs))
step_of (Listed list) (After anchor x) =
    if is_in_list anchor list && not (is_in_list x list) then Some (Listed (insert_after anchor x list)) else None
step_of (Listed list) (RgaRemove x) =
    if is_in_list x list && not (x == 0) then Some (Listed (hide x list)) else None
step_of (Listing list) (updates.List change) = option_map Listing (list_step list change)
step_of OfAny updates.AnyUpdate = Some OfAny
step_of OfMvRegister (updates.MvWrite value) = Some OfMvRegister
step_of _ _ = None

-- `true` if the query's answer is right in the state
abbrev pub answers : State → Query → Bool
answers (Number n) (Count v) = int_eq v n
answers (Written last) (Last value) = option_eq (λ v w. v == w) value last
answers (Members xs) (LwwRead list) = have_same_elements list xs
answers (Pairs pairs) (ReadIds x ids) = have_same_elements ids (identifiers_of x pairs)
answers (Pairs pairs) (OrRead list) = have_same_elements list (elements_of pairs)
answers (Listed entries) (RgaRead list) = pointwise nat_eq list (shown entries)
answers (Listing list) (queries.List question) = list_answers list question
answers OfAny (queries.AnyRead value) = true
answers OfMvRegister (queries.MvRead values) = true
answers _ _ = false

-- the state after the updates, applied in this order; none if one of them is not admitted
abbrev pub state_after : Kind → List Update → Option State
state_after kind updates =
    fold (λ state update. option_and_then (λ s. step_of s update) state) (Some (initial_state kind)) updates

-- `true` if each of the updates is admitted after those before it
abbrev pub is_admitted : Kind → List Update → Bool
is_admitted kind updates = is_some (state_after kind updates)

-- `true` if the updates are admitted and the query's answer is right in the state after them
abbrev pub is_answered_after : Kind → List Update → Query → Bool
is_answered_after kind updates query = option_map_or (λ state. answers state query) (state_after kind updates) false
