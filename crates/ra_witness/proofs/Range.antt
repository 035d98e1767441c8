-- Lemmas on the range of a counter's number: it is bounded, since there are at most as many updates as labels.
use Rattle.std.proofs.Common.{◌≡◌, ℕ, ◌<◌, ◌≤◌, Bool, true, false, cond, List, [], ◌∷◌, ◌++◌, map, filter, length, Option, Some, None, refl, sym, ap, ◌∙◌, subst, arith, length-append}
use Rattle.std.specs.Prelude.{flat_map, unwrap_or, IfSome}
use Rattle.std.specs.List.{cons_option}
use Rattle.std.proofs.lemmas.Int.{ints}
use Rattle.std.proofs.lemmas.List.{length-set}
use Rattle.std.proofs.lemmas.List.Sorted.{length_permutation}
use Rattle.std.proofs.lemmas.List.Elements.{filter_map-append}
use Rattle.ra_labels.specs.declared.kind.Kind.{Kind}
use Rattle.ra_labels.specs.declared.kind.Kind.TheVariants.{Counter}
use Rattle.ra_labels.specs.declared.operation.Update.{Update}
use Rattle.ra_labels.specs.declared.label.Label.{Label}
use Rattle.ra_labels.specs.Records.{Records, label_count, labels_of}
use Rattle.ra_labels.specs.Visibility.{has_delivered}
use Rattle.ra_labels.specs.Rewriting.{Half, Act, Does, Asks, Part, acts_of, part_of, parts_of, update_of, updates_of}
use Rattle.ra_labels.specs.Specification.{State, Number, Written, Members, Pairs, Listed, Listing, OfAny, OfMvRegister, step_of, state_after}
use Rattle.ra_labels.specs.NamedOrder.{named_labels}
use Rattle.ra_labels.specs.Insertion.{delivered_updates}
use Rattle.ra_labels.proofs.Counted.{labels_counted}
use Rattle.ra_labels.specs.HistorySoFar.{History}
use Rattle.ra_theorems.proofs.TheoremIndex.{state_kind, counter_bounded_by_updates, named_labels_sorted-same}
use Rattle.ra_seqspec.specs.Range.{IsInRange}
use Rattle.ra_witness.specs.Labels.{updates_in}
use Rattle.ra_witness.specs.States.{state_at, after_step, CanStep, states_after}
use Rattle.ra_witness.specs.Standing.{AreStatesOf}
use Rattle.ra_witness.proofs.DoneUpdates.{at_most_one}
use Rattle.ra_witness.proofs.ReplicaStates.{same_replica}

-- the parts that pass have at most as many updates as all parts
one_fewer : (keeps : Bool) (o : Option Update) (p : Part) (rest all : List Part) → update_of p.act ≡ o → length (updates_of rest) ≤ length (updates_of all)
    → length (updates_of (cond keeps (p ∷ rest) rest)) ≤ length (updates_of (p ∷ all))
one_fewer keeps None p rest all is fewer =
    let without = λ (ps : List Part). ap (λ o. length (cons_option o (updates_of ps))) is in
    either keeps
  where
    with_rest : length (updates_of (p ∷ rest)) ≡ length (updates_of rest)
    with_rest = ap (λ o. length (cons_option o (updates_of rest))) is

    with_all : length (updates_of (p ∷ all)) ≡ length (updates_of all)
    with_all = ap (λ o. length (cons_option o (updates_of all))) is

    either : (b : Bool) → length (updates_of (cond b (p ∷ rest) rest)) ≤ length (updates_of (p ∷ all))
    either true = omega (arith, with_rest, with_all, fewer)
    either false = omega (arith, with_all, fewer)
one_fewer keeps (Some u) p rest all is fewer = either keeps
  where
    with_rest : length (updates_of (p ∷ rest)) ≡ length (u ∷ updates_of rest)
    with_rest = ap (λ o. length (cons_option o (updates_of rest))) is

    with_all : length (updates_of (p ∷ all)) ≡ length (u ∷ updates_of all)
    with_all = ap (λ o. length (cons_option o (updates_of all))) is

    either : (b : Bool) → length (updates_of (cond b (p ∷ rest) rest)) ≤ length (updates_of (p ∷ all))
    either true = omega (arith, with_rest, with_all, fewer)
    either false = omega (arith, with_all, fewer)

fewer_pass : (keeps : Part → Bool) (ps : List Part) → length (updates_of (filter keeps ps)) ≤ length (updates_of ps)
fewer_pass keeps [] = omega arith
fewer_pass keeps (p ∷ ps) = one_fewer (keeps p) (update_of p.act) p (filter keeps ps) ps refl (fewer_pass keeps ps)

own_updates : (label : Label) (acts : List (Half × Act)) → updates_of (map (part_of label) acts) ≡ updates_in acts
own_updates label [] = refl
own_updates label ((half, Does u) ∷ acts) = ap (λ us. u ∷ us) (own_updates label acts)
own_updates label ((half, Asks query) ∷ acts) = own_updates label acts

-- each label has at most one update
one_each : (labels : List Label) → length (updates_of (flat_map parts_of labels)) ≤ length labels
one_each [] = omega arith
one_each (label ∷ labels) =
    let both : updates_of (flat_map parts_of (label ∷ labels)) ≡ updates_of (parts_of label) ++ updates_of (flat_map parts_of labels) =
    filter_map-append (λ (p : Part). update_of p.act) (parts_of label) (flat_map parts_of labels) in
    let own = ap length (own_updates label (acts_of label.op)) in
    omega (arith, ap length both, length-append (updates_of (parts_of label)) (updates_of (flat_map parts_of labels)), own, at_most_one label.op, one_each labels)

pub updates_few : (kind : Kind) (records : Records) (replica : ℕ) → length (delivered_updates kind records replica) ≤ label_count records
updates_few kind records replica =
    let named = named_labels kind records in
    let fewer = fewer_pass (λ (p : Part). has_delivered records replica p.label.number) (flat_map parts_of named) in
    let same = length_permutation (labels_of records) named (named_labels_sorted-same kind records) in
    omega (arith, fewer, one_each named, same, labels_counted records)

in_range : (kind : Kind) (us : List Update) (s : State) → state_after kind us ≡ Some s → length us ≤ 1048576 → IsInRange s
in_range kind us (Number n) led few =
    let of_kind : kind ≡ Counter = sym (state_kind kind us (Number n) led) in
    let (number, is, least, most) = counter_bounded_by_updates us (Number n) (subst (λ k. state_after k us ≡ Some (Number n)) of_kind led) in
    let same : n ≡ number = cc (is) in
    (omega (arith, ints, same, least, most, few), omega (arith, ints, same, least, most, few))
in_range kind us (Written last) led few = tt
in_range kind us (Members xs) led few = tt
in_range kind us (Pairs pairs) led few = tt
in_range kind us (Listed list) led few = tt
in_range kind us (Listing list) led few = tt
in_range kind us OfAny led few = tt
in_range kind us OfMvRegister led few = tt

-- the first of the updates delivered to a replica lead to a number in range as well
pub first_in_range : (kind : Kind) (records : Records) (replica : ℕ) (first later : List Update) (s : State) → label_count records ≤ 1048576
    → delivered_updates kind records replica ≡ first ++ later → state_after kind first ≡ Some s → IsInRange s
first_in_range kind records replica first later s few are led =
    in_range kind first s led (omega (arith, few, ap length are, length-append first later, updates_few kind records replica))

-- a step to the state that these updates lead to is possible
can_from : (kind : Kind) (us : List Update) (s : State) (o : Option Update) → state_after kind us ≡ Some (after_step s o) → length us ≤ 1048576 → CanStep s o
can_from kind us s None led few = tt
can_from kind us s (Some u) led few = either (step_of s u) led
  where
    either : (o : Option State) → state_after kind us ≡ Some (unwrap_or o s) → IfSome o IsInRange
    either None led = tt
    either (Some t) led = in_range kind us t led few

pub can_step : (updates : List (Option Update)) (states : List State) (past : History) (replica : ℕ) (o : Option Update)
    → AreStatesOf updates (states_after states replica o) past → replica < length states → label_count past.records ≤ 1048576 → CanStep (state_at states replica) o
can_step updates states past replica o kept there few =
    let within : replica < length (states_after states replica o) = omega (arith, length-set states replica (after_step (state_at states replica) o), there) in
    can_from past.kind (delivered_updates past.kind past.records replica) (state_at states replica) o
    (kept.folded replica within ∙ ap Some (same_replica states replica o there))
    (omega (arith, updates_few past.kind past.records replica, few))
