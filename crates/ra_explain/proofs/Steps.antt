-- Lemmas on the state after the updates delivered to the replica, one part after another.
use Rattle.std.proofs.Common.{◌≡◌, ℕ, ◌+◌, ◌<◌, ◌≤◌, true, false, List, [], ◌∷◌, ◌++◌, take, drop, filter, map, length, get_or, Option, Some, None, refl, sym, ap, ◌∙◌, arith}
use Rattle.std.specs.Prelude.{option_and_then, is_some, unwrap_or, fold, IfSome}
use Rattle.std.specs.Option.{option_to_list}
use Rattle.std.specs.List.{cons_option}
use Rattle.std.proofs.lemmas.List.{append-nil, take_more, take-append-drop, length-map, get_or-map}
use Rattle.std.proofs.lemmas.List.Elements.{filter-append, filter_map-append, All-get_or}
use Rattle.std.proofs.lemmas.List.Sums.{fold-append}
use Rattle.std.proofs.lemmas.Bool.{cond-true}
use Rattle.ra_labels.specs.declared.kind.Kind.{Kind}
use Rattle.ra_labels.specs.declared.operation.Update.{Update}
use Rattle.ra_labels.specs.Records.{Records, label_count}
use Rattle.ra_labels.specs.Visibility.{has_delivered}
use Rattle.ra_labels.specs.Rewriting.{Part, update_of, updates_of}
use Rattle.ra_labels.specs.Specification.{State, step_of, state_after}
use Rattle.ra_labels.specs.NamedOrder.{named_sequence}
use Rattle.ra_labels.specs.Insertion.{delivered_updates}
use Rattle.ra_theorems.proofs.TheoremIndex.{state_after_snoc}
use Rattle.ra_seqspec.specs.Range.{IsInRange}
use Rattle.ra_seqspec.specs.declared.TheConstants.{FARTHEST_COUNT}
use Rattle.ra_monitor.specs.declared.setup.Setup.{Setup}
use Rattle.ra_monitor.specs.Monitor.{MonitorEntry, records_of, records_before_fault_in, IsLegalLog}
use Rattle.ra_witness.specs.Sequence.{half_of, ref_of}
use Rattle.ra_witness.specs.declared.part_ref.Half.TheVariants.{QueryHalf}
use Rattle.ra_witness.specs.declared.part_ref.PartRef.{PartRef}
use Rattle.ra_witness.proofs.TheoremIndex.{delivered_state_in_range}
use Rattle.ra_explain.specs.Places.{places_in}
use Rattle.ra_explain.specs.ReplicaState.{IsKnown, update_at, updates_among, after_one}
use Rattle.ra_explain.proofs.Faults.{none_is}
use Rattle.ra_explain.proofs.Labels.{parts_known}

-- the updates of the first parts that were delivered to the replica lead to this state
abbrev pub HasMade : Kind → Records → ℕ → ℕ → State → Type 0
HasMade kind records replica count state =
    state_after kind (updates_among records replica (take count (named_sequence kind records))) ≡ Some state

-- the updates of one more part
among_more : (records : Records) (replica : ℕ) (parts more : List Part)
    → updates_among records replica (parts ++ more)
    ≡ updates_among records replica parts ++ updates_among records replica more
among_more records replica parts more =
    let keeps = λ (p : Part). has_delivered records replica p.label.number in
    ap updates_of (filter-append keeps parts more)
    ∙ filter_map-append (λ (p : Part). update_of p.act) (filter keeps parts) (filter keeps more)

pub made_more : (records : Records) (replica : ℕ) (parts : List Part) (i : ℕ) (p : Part) → i < length parts
    → updates_among records replica (take (i + 1) parts)
    ≡ updates_among records replica (take i parts) ++ updates_among records replica (get_or parts i p ∷ [])
made_more records replica parts i p below =
    ap (updates_among records replica) (take_more parts i p below)
    ∙ among_more records replica (take i parts) (get_or parts i p ∷ [])

-- and of the rest
rest_is : (records : Records) (replica : ℕ) (parts : List Part) (n : ℕ)
    → updates_among records replica parts
    ≡ updates_among records replica (take n parts) ++ updates_among records replica (drop n parts)
rest_is records replica parts n =
    ap (updates_among records replica) (sym (take-append-drop n parts))
    ∙ among_more records replica (take n parts) (drop n parts)

-- after an update that is not admitted there is no state
none_left : (us : List Update) → fold (λ state update. option_and_then (λ s. step_of s update) state) None us ≡ None
none_left [] = refl
none_left (u ∷ us) = none_left us

pub none_stays : (kind : Kind) (us vs : List Update) → state_after kind us ≡ None → state_after kind (us ++ vs) ≡ None
none_stays kind us vs none =
    fold-append _ _ us vs
    ∙ ap (λ (o : Option State). fold (λ state update. option_and_then (λ s. step_of s update) state) o vs) none
    ∙ none_left vs

-- the part at this position of the named sequence has this update, if it was delivered to the replica
pub record DoesAt (kind : Kind) (records : Records) (replica i : ℕ) (o : Option Update) : Type 0 where
  pub first : Part
  pub below : i < length (named_sequence kind records)
  pub does : option_to_list o ≡ updates_among records replica (get_or (named_sequence kind records) i first ∷ [])

-- one more part is at most one more step
stepped : (kind : Kind) (records : Records) (replica i : ℕ) (state : State) (o : Option Update)
    → DoesAt kind records replica i o → HasMade kind records replica i state
    → state_after kind (updates_among records replica (take (i + 1) (named_sequence kind records))) ≡ after_one state o
stepped kind records replica i state o next made = by_update o next
  where
    before : List Update
    before = updates_among records replica (take i (named_sequence kind records))

    more : (o : Option Update) → DoesAt kind records replica i o
        → state_after kind (updates_among records replica (take (i + 1) (named_sequence kind records)))
        ≡ state_after kind (before ++ option_to_list o)
    more o next = ap (state_after kind)
        (made_more records replica (named_sequence kind records) i next.first next.below
        ∙ ap (λ (us : List Update). before ++ us) (sym next.does))

    by_update : (o : Option Update) → DoesAt kind records replica i o
        → state_after kind (updates_among records replica (take (i + 1) (named_sequence kind records)))
        ≡ after_one state o
    by_update None next = more None next ∙ ap (state_after kind) (append-nil before) ∙ made
    by_update (Some u) next =
        more (Some u) next ∙ state_after_snoc kind before u
        ∙ ap (option_and_then (λ s. step_of s u)) made

some_is : {A : Type 0} (o : Option A) (x y : A) → y ≡ unwrap_or o x → true ≡ is_some o → o ≡ Some y
some_is None x y is some = absurd (cc some)
some_is (Some z) x y is some = ap Some (sym is)

pub made_one : (kind : Kind) (records : Records) (replica i : ℕ) (state made : State) (o : Option Update)
    → DoesAt kind records replica i o
    → true ≡ is_some (after_one state o) → made ≡ unwrap_or (after_one state o) state
    → HasMade kind records replica i state → HasMade kind records replica (i + 1) made
made_one kind records replica i state made o next admitted is so_far =
    stepped kind records replica i state o next so_far ∙ some_is (after_one state o) state made is admitted

pub made_no_more : (kind : Kind) (records : Records) (replica i : ℕ) (state : State) (o : Option Update)
    → DoesAt kind records replica i o → false ≡ is_some (after_one state o) → HasMade kind records replica i state
    → None ≡ state_after kind (delivered_updates kind records replica)
made_no_more kind records replica i state o next not made =
    let parts = named_sequence kind records in
    sym (ap (state_after kind) (rest_is records replica parts (i + 1))
    ∙ none_stays kind (updates_among records replica (take (i + 1) parts))
    (updates_among records replica (drop (i + 1) parts))
    (stepped kind records replica i state o next made ∙ none_is (after_one state o) (sym not)))

-- the next step stays in range
pub may_step : (kind : Kind) (records : Records) (replica i : ℕ) (state : State) (o : Option Update)
    → label_count records ≤ FARTHEST_COUNT → DoesAt kind records replica i o
    → HasMade kind records replica i state → IfSome (after_one state o) IsInRange
may_step kind records replica i state o few next made = either (after_one state o) refl
  where
    parts : List Part
    parts = named_sequence kind records

    either : (after : Option State) → after_one state o ≡ after → IfSome after IsInRange
    either None is = tt
    either (Some last) is = delivered_state_in_range kind records replica
        (updates_among records replica (take (i + 1) parts))
        (updates_among records replica (drop (i + 1) parts)) last few
        (rest_is records replica parts (i + 1)) (stepped kind records replica i state o next made ∙ is)

-- ---- one part

one_listed : (o : Option Update) → option_to_list o ≡ cons_option o []
one_listed None = refl
one_listed (Some u) = refl

-- the update of a known part that was delivered to the replica
pub does : (setup : Setup) (log : List MonitorEntry) (replica : ℕ) (p : Part) (u : Option Update)
    → IsKnown setup log replica p → ¬ (half_of p.half ≡ QueryHalf)
    → has_delivered (records_of setup log) replica p.label.number ≡ true
    → u ≡ update_at log (places_in log) p.label.number
    → option_to_list u ≡ updates_among (records_before_fault_in setup log) replica (p ∷ [])
does setup log replica p u known whole has is =
    let before = records_before_fault_in setup log in
    let same : u ≡ update_of p.act = is ∙ known.found ∙ known.fine.other whole in
    ap option_to_list same ∙ one_listed (update_of p.act)
    ∙ ap updates_of (sym (cond-true (has_delivered before replica p.label.number) (p ∷ []) [] (sym known.had ∙ has)))

-- the update of the part at a position, given those of all known parts
pub does_at : (setup : Setup) (log : List MonitorEntry) (replica : ℕ) (refs : List PartRef) (i : ℕ) (r : PartRef)
    (o : Option Update) → IsLegalLog setup log
    → refs ≡ map ref_of (named_sequence setup.kind (records_before_fault_in setup log)) → i < length refs
    → ((p : Part) → IsKnown setup log replica p → ref_of p ≡ get_or refs i r
    → option_to_list o ≡ updates_among (records_before_fault_in setup log) replica (p ∷ []))
    → DoesAt setup.kind (records_before_fault_in setup log) replica i o
does_at setup log replica refs i r o legal are within told = by_parts parts refl
  where
    parts : List Part
    parts = named_sequence setup.kind (records_before_fault_in setup log)

    below : i < length parts
    below = omega (arith, within, ap length are, length-map parts ref_of)

    by_parts : (list : List Part) → parts ≡ list → DoesAt setup.kind (records_before_fault_in setup log) replica i o
    by_parts [] is = absurd (omega (arith, below, ap length is))
    by_parts (first ∷ rest) is = record {
      first = first;
      below = below;
      does = told (get_or parts i first)
          (All-get_or (IsKnown setup log replica) parts i first below (parts_known setup log replica legal))
          (sym (ap (λ (rs : List PartRef). get_or rs i r) are ∙ get_or-map ref_of parts i first r below));
    }
