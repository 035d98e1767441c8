-- Lemmas on the kinds of states, updates and queries.
use Rattle.std.proofs.Common.{◌≡◌, true, false, Option, Some, None, option_map, refl, sym, subst, inl, inr}
use Rattle.std.specs.Prelude.{◌⊎◌, not, ◌==◌, ◌&&◌}
use Rattle.std.specs.List.{list_all}
use Rattle.std.proofs.lemmas.Bool.{false≢true, cond_both}
use Rattle.ra_labels.specs.declared.kind.Kind.{Kind}
use Rattle.ra_labels.specs.declared.kind.Kind.TheVariants.{Counter}
use Rattle.ra_labels.specs.declared.kind.Kind.TheVariants as kinds
use Rattle.ra_labels.specs.declared.operation.Op.{Op}
use Rattle.ra_labels.specs.declared.operation.Op.TheVariants as op
use Rattle.ra_labels.specs.declared.list_operation.ListOp.TheVariants as list
use Rattle.ra_labels.specs.declared.list_operation.ListUpdate.{ListUpdate}
use Rattle.ra_labels.specs.declared.operation.Update.{Update}
use Rattle.ra_labels.specs.declared.operation.Update.TheVariants.{Inc, Dec, Write, LwwAdd, LwwRemove, OrAdd, TakeOut, After, RgaRemove}
use Rattle.ra_labels.specs.declared.operation.Update.TheVariants as updates
use Rattle.ra_labels.specs.declared.operation.Query.{Query}
use Rattle.ra_labels.specs.declared.operation.Query.TheVariants.{Count, Last, LwwRead, ReadIds, OrRead, RgaRead}
use Rattle.ra_labels.specs.declared.operation.Query.TheVariants as queries
use Rattle.ra_labels.specs.Lists.{is_in_list, insert_after, hide}
use Rattle.ra_labels.specs.FreeList.{ListState, list_step}
use Rattle.ra_labels.specs.Specification.{State, Number, Written, Members, Pairs, Listed, Listing, OfAny, OfMvRegister, initial_state, step_of, answers}
use Rattle.ra_labels.specs.Rewriting.{acts_of}
use Rattle.ra_labels.specs.Answer.{kind_of, is_kind}
use Rattle.ra_labels.specs.TheoremTerms.{kind_of_state, kind_of_update, kind_of_query, kind_of_act, admits_all}

pub start_kind : (kind : Kind) → kind_of_state (initial_state kind) ≡ kind
start_kind Counter = refl
start_kind _ = refl

-- what a step implies about kinds: if it exists, the update and the next state have the state's kind; if it does not,
-- the update has another kind, or not every state of the kind admits each of its updates
abbrev pub StepKnown : State → Update → Option State → Type 0
StepKnown state update None = (is_kind (kind_of_state state) (kind_of_update update) ≡ false)
    ⊎ (admits_all (kind_of_state state) ≡ false)
StepKnown state update (Some next) = (kind_of_state next ≡ kind_of_state state)
    × (kind_of_update update ≡ kind_of_state state)

listing-known : (state : ListState) (change : ListUpdate) (next : Option ListState)
    → StepKnown (Listing state) (updates.List change) (option_map Listing next)
listing-known state change None = inr refl
listing-known state change (Some next) = (refl, refl)

pub step-known : (state : State) (update : Update) → StepKnown state update (step_of state update)
step-known (Number n) Inc = (refl, refl)
step-known (Number n) Dec = (refl, refl)
step-known (Written last) (Write value) = (refl, refl)
step-known (Members xs) (LwwAdd x) = (refl, refl)
step-known (Members xs) (LwwRemove x) = (refl, refl)
step-known (Pairs pairs) (OrAdd x id) = (refl, refl)
step-known (Pairs pairs) (TakeOut x ids) = (refl, refl)
step-known (Listed list) (After anchor x) =
    cond_both (is_in_list anchor list && not (is_in_list x list)) (Some (Listed (insert_after anchor x list))) None
    (StepKnown (Listed list) (After anchor x)) (λ is. (refl, refl)) (λ not_so. inr refl)
step-known (Listed list) (RgaRemove x) =
    cond_both (is_in_list x list && not (x == 0)) (Some (Listed (hide x list))) None
    (StepKnown (Listed list) (RgaRemove x)) (λ is. (refl, refl)) (λ not_so. inr refl)
step-known (Listing state) (updates.List change) = listing-known state change (list_step state change)
step-known OfAny updates.AnyUpdate = (refl, refl)
step-known OfMvRegister (updates.MvWrite value) = (refl, refl)
step-known _ _ = inl refl

pub step-kind : (state : State) (update : Update) (next : State) → step_of state update ≡ Some next
    → (kind_of_state next ≡ kind_of_state state) × (kind_of_update update ≡ kind_of_state state)
step-kind state update next is = subst (StepKnown state update) is (step-known state update)

-- the only state of an object of any type, and that of a multi-value register
pub only_any : (state : State) → kind_of_state state ≡ kinds.Any → state ≡ OfAny
only_any OfAny is = refl
only_any _ is = absurd (cc (is))

pub only_mv_register : (state : State) → kind_of_state state ≡ kinds.MvRegister → state ≡ OfMvRegister
only_mv_register OfMvRegister is = refl
only_mv_register _ is = absurd (cc (is))

-- no query of another kind is admitted
pub answers-of_kind : (state : State) (query : Query) → is_kind (kind_of_state state) (kind_of_query query) ≡ false
    → answers state query ≡ false
answers-of_kind (Number n) (Count v) other = absurd (false≢true (sym other))
answers-of_kind (Written last) (Last value) other = absurd (false≢true (sym other))
answers-of_kind (Members xs) (LwwRead asked) other = absurd (false≢true (sym other))
answers-of_kind (Pairs pairs) (ReadIds x ids) other = absurd (false≢true (sym other))
answers-of_kind (Pairs pairs) (OrRead asked) other = absurd (false≢true (sym other))
answers-of_kind (Listed list) (RgaRead asked) other = absurd (false≢true (sym other))
answers-of_kind (Listing state) (queries.List question) other = absurd (false≢true (sym other))
answers-of_kind OfAny (queries.AnyRead value) other = absurd (false≢true (sym other))
answers-of_kind OfMvRegister (queries.MvRead values) other = absurd (false≢true (sym other))
answers-of_kind _ _ other = refl

-- the parts of an operation have its kind
pub acts-of_kind : (operation : Op)
    → list_all (λ act. is_kind (kind_of operation) (kind_of_act act.1)) (acts_of operation) ≡ true
acts-of_kind op.Inc = refl
acts-of_kind (op.List (list.Insert insertion)) = refl
acts-of_kind (op.List (list.Remove x)) = refl
acts-of_kind (op.List (list.Read elements)) = refl
acts-of_kind (op.List (list.Part elements)) = refl
acts-of_kind _ = refl
