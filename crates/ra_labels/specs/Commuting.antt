-- Vocabulary of the theorems about updates that commute or arrive late.
use Rattle.std.specs.Prelude.{◌≡◌, ℕ, Bool, true, false, not, List, [], ◌∷◌, filter, filter_map, Contains, Option, Some, None, option_and_then}
use Rattle.std.specs.List.{list_all}
use Rattle.std.specs.Option.{option_or}
use Rattle.ra_labels.specs.declared.operation.Update.{Update}
use Rattle.ra_labels.specs.declared.operation.Update.TheVariants.{Write, OrAdd, TakeOut}
use Rattle.ra_labels.specs.Specification.{State, step_of}
use Rattle.ra_labels.specs.TheoremTerms.{acts_on, removes_pair}

-- the state after one more update; none if there was none or it does not admit the update
abbrev pub then_step : Option State → Update → Option State
then_step state update = option_and_then (λ s. step_of s update) state

-- `true` if one of the two updates adds a pair that the other removes
abbrev pub clash : Update → Update → Bool
clash (OrAdd x id) other = removes_pair x id other
clash update (OrAdd x id) = removes_pair x id update
clash _ _ = false

-- holds if the first update adds a pair that the second removes
abbrev pub AddsRemovedPair : Update → Update → Type 0
AddsRemovedPair update other =
    (x id : ℕ) × (ids : List ℕ) × Contains ids id × (update ≡ OrAdd x id) × (other ≡ TakeOut x ids)

abbrev pub NoneClashes : Update → List Update → Type 0
NoneClashes update updates = list_all (λ other. not (clash update other)) updates ≡ true

abbrev pub last_of : {A : Type 0} → List A → Option A
last_of [] = None
last_of (x ∷ xs) = option_or (last_of xs) (Some x)

-- the value that the update writes; none if it is no write
abbrev pub written_by : Update → Option ℕ
written_by (Write value) = Some value
written_by _ = None

-- the value that the updates wrote last; none if no update is a write
abbrev pub last_written : List Update → Option ℕ
last_written updates = last_of (filter_map written_by updates)

-- the last of the updates that adds the element to an LWW set or removes it
abbrev pub last_on : ℕ → List Update → Option Update
last_on x updates = last_of (filter (acts_on x) updates)
