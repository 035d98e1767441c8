-- Lemmas on the updates of a list: what the state after them is in the model of a list, and which parts do them.
use Rattle.std.proofs.Common.{◌≡◌, ℕ, Bool, true, false, List, [], ◌∷◌, Option, Some, None, refl, sym, ap, ◌∙◌}
use Rattle.std.specs.Prelude.{◌==◌, ◌&&◌, is_some, map, IsPermutation, sum_by, option_map, option_and_then}
use Rattle.std.specs.List.{cons_option, filter_map, list_all}
use Rattle.std.specs.Option.{option_map_or}
use Rattle.std.proofs.lemmas.Bool.{false≢true, and_parts, and_from, eqb-true, eq-eqb}
use Rattle.std.proofs.lemmas.Option.{none-some, same_Some}
use Rattle.ra_labels.specs.declared.kind.Kind.TheVariants as kinds
use Rattle.ra_labels.specs.declared.insertion.Insertion.{Insertion}
use Rattle.ra_labels.specs.declared.list_operation.ListUpdate.{ListUpdate}
use Rattle.ra_labels.specs.declared.list_operation.ListUpdate.TheVariants.{Put, Hide}
use Rattle.ra_labels.specs.declared.operation.Update.{Update}
use Rattle.ra_labels.specs.declared.operation.Update.TheVariants as updates
use Rattle.ra_labels.specs.FreeList.{ListState, empty_list, list_step, list_state_from, list_state_after}
use Rattle.ra_labels.specs.Specification.{State, Listing, state_after}
use Rattle.ra_labels.specs.Rewriting.{Part, Act, Does, Asks, update_of, updates_of}
use Rattle.ra_labels.specs.Answer.{is_kind}
use Rattle.ra_labels.specs.TheoremTerms.{kind_of_update}
use Rattle.ra_theorems.proofs.States.{state_from, admitted-only}
use Rattle.ra_theorems.proofs.FilterMaps.{sum_mapped, shuffled_by_counts}

-- ---- updates of a list

-- the update in the model of a list; none if it is one of another kind
abbrev pub change_of : Update → Option ListUpdate
change_of (updates.List change) = Some change
change_of _ = None

abbrev pub changes_of : List Update → List ListUpdate
changes_of us = filter_map change_of us

-- holds if all updates are ones of a list
abbrev pub AreOfLists : List Update → Type 0
AreOfLists us = list_all (λ u. is_kind kinds.List (kind_of_update u)) us ≡ true

-- updates of a list are nothing else
pub changes-same : (us : List Update) → AreOfLists us → map updates.List (changes_of us) ≡ us
changes-same [] of_lists = refl
changes-same (updates.List change ∷ us) of_lists =
    ap (λ vs. updates.List change ∷ vs) (changes-same us of_lists)
changes-same (_ ∷ us) of_lists = absurd (false≢true of_lists)

pub changes-map : (changes : List ListUpdate) → changes_of (map updates.List changes) ≡ changes
changes-map [] = refl
changes-map (change ∷ changes) = ap (λ cs. change ∷ cs) (changes-map changes)

-- updates of a list lead to the same state as in the model
pub listing_from : (changes : List ListUpdate) (o : Option ListState)
    → state_from (option_map Listing o) (map updates.List changes) ≡ option_map Listing (list_state_from o changes)
listing_from [] o = refl
listing_from (change ∷ changes) None = listing_from changes None
listing_from (change ∷ changes) (Some s) = listing_from changes (list_step s change)

pub listing_after : (changes : List ListUpdate)
    → state_after kinds.List (map updates.List changes) ≡ option_map Listing (list_state_after changes)
listing_after changes = listing_from changes (Some empty_list)

-- holds if the state is the given one of the model
listing_of : (o : Option ListState) (state : State) → option_map Listing o ≡ Some state
    → (s : ListState) × (state ≡ Listing s) × (o ≡ Some s)
listing_of None state is = absurd (none-some state is)
listing_of (Some s) state is = (s, sym (same_Some (Listing s) state is), refl)

pub changes_lead : (us : List Update) (state : State) → state_after kinds.List us ≡ Some state
    → (s : ListState) × (state ≡ Listing s) × (list_state_after (changes_of us) ≡ Some s)
changes_lead us state led =
    let of_lists = admitted-only kinds.List us (ap is_some led) in
    listing_of (list_state_after (changes_of us)) state
    (sym (listing_after (changes_of us)) ∙ ap (state_after kinds.List) (changes-same us of_lists) ∙ led)

pub lead_to_listing : (us : List Update) (s : ListState) → AreOfLists us → list_state_after (changes_of us) ≡ Some s
    → state_after kinds.List us ≡ Some (Listing s)
lead_to_listing us s of_lists led =
    sym (ap (state_after kinds.List) (changes-same us of_lists)) ∙ listing_after (changes_of us)
    ∙ ap (option_map Listing) led

-- ---- updates of parts

-- the update of a list that the part does
abbrev pub change_in : Part → Option ListUpdate
change_in part = option_and_then change_of (update_of part.act)

abbrev pub changes_in : List Part → List ListUpdate
changes_in parts = filter_map change_in parts

change_first : (o : Option Update) (us : List Update)
    → changes_of (cons_option o us) ≡ cons_option (option_and_then change_of o) (changes_of us)
change_first None us = refl
change_first (Some u) us = refl

pub changes-of_parts : (parts : List Part) → changes_of (updates_of parts) ≡ changes_in parts
changes-of_parts [] = refl
changes-of_parts (part ∷ parts) =
    change_first (update_of part.act) (updates_of parts)
    ∙ ap (λ cs. cons_option (change_in part) cs) (changes-of_parts parts)

update_is : (u : Update) (change : ListUpdate) → change_of u ≡ Some change → u ≡ updates.List change
update_is (updates.List first) change is = ap updates.List (same_Some first change is)
update_is _ change is = absurd (none-some change is)

act_does : (act : Act) (change : ListUpdate) → option_and_then change_of (update_of act) ≡ Some change
    → act ≡ Does (updates.List change)
act_does (Does u) change is = ap Does (update_is u change is)
act_does (Asks query) change is = absurd (none-some change is)

pub change_does : (part : Part) (change : ListUpdate) → change_in part ≡ Some change
    → part.act ≡ Does (updates.List change)
change_does part change is = act_does part.act change is

pub does_change : (part : Part) (change : ListUpdate) → part.act ≡ Does (updates.List change)
    → change_in part ≡ Some change
does_change part change does = ap (λ act. option_and_then change_of (update_of act)) does

-- ---- the order of parts

-- `true` if the updates are the same
abbrev same_change : ListUpdate → ListUpdate → Bool
same_change (Put i) (Put j) = i.left == j.left && (i.element == j.element && i.right == j.right)
same_change (Hide x) (Hide y) = x == y
same_change _ _ = false

same_insertion : (i j : Insertion) → i.left ≡ j.left → i.element ≡ j.element → i.right ≡ j.right → i ≡ j
same_insertion i j left element right =
    ap (λ x. record { left = x; element = i.element; right = i.right }) left
    ∙ ap (λ x. record { left = j.left; element = x; right = i.right }) element
    ∙ ap (λ x. record { left = j.left; element = j.element; right = x }) right

change_sound : (c d : ListUpdate) → same_change c d ≡ true → c ≡ d
change_sound (Put i) (Put j) is =
    let pieces = and_parts (i.left == j.left) (i.element == j.element && i.right == j.right) is in
    let rest = and_parts (i.element == j.element) (i.right == j.right) pieces.1 in
    ap Put (same_insertion i j (eqb-true i.left j.left pieces.0) (eqb-true i.element j.element rest.0)
    (eqb-true i.right j.right rest.1))
change_sound (Hide x) (Hide y) is = ap Hide (eqb-true x y is)
change_sound (Put i) (Hide y) is = absurd (false≢true is)
change_sound (Hide x) (Put j) is = absurd (false≢true is)

change_itself : (c : ListUpdate) → same_change c c ≡ true
change_itself (Put i) =
    and_from (i.left == i.left) (i.element == i.element && i.right == i.right) (eq-eqb i.left i.left refl)
    (and_from (i.element == i.element) (i.right == i.right) (eq-eqb i.element i.element refl)
    (eq-eqb i.right i.right refl))
change_itself (Hide x) = eq-eqb x x refl

-- holds if any sum over the parts of either list is the same
abbrev pub HaveSameSums : List Part → List Part → Type 0
HaveSameSums ps qs = (f : Part → ℕ) → sum_by f ps ≡ sum_by f qs

-- the same parts in another order do the same updates in another order
pub changes_shuffled : (ps qs : List Part) → HaveSameSums ps qs → IsPermutation (changes_in ps) (changes_in qs)
changes_shuffled ps qs same =
    shuffled_by_counts same_change change_sound change_itself (changes_in ps) (changes_in qs) (λ c.
    sum_mapped change_in _ ps ∙ same (λ p. option_map_or _ (change_in p) 0) ∙ sym (sum_mapped change_in _ qs))
