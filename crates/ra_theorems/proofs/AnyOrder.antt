-- Lemmas on counters, OR-Sets and lists: every order that explains the removals leads to the same state, so a violation
-- is final.
use Rattle.std.proofs.Common.{◌≡◌, ℕ, Bool, true, false, cond, List, [], ◌∷◌, ◌++◌, filter, Option, Some, None, refl, sym, ap, ◌∙◌, subst, inl, inr}
use Rattle.std.specs.Prelude.{◌↔◌, ◌⊎◌, ◌==◌, ◌&&◌, not, is_some, Contains, IsPermutation, pos, ◌-ℤ◌}
use Rattle.std.specs.List.{list_all, cons_option}
use Rattle.std.proofs.lemmas.Bool.{false≢true, and_parts, and_from, eqb-true, not-true, not_from_false, false_from_ne_true}
use Rattle.std.proofs.lemmas.Option.{none-some}
use Rattle.std.proofs.lemmas.List.Elements.{Contains-append_right}
use Rattle.std.proofs.lemmas.List.Sorted.{Contains-permutation, IsPermutation-sym, sum_by-IsPermutation}
use Rattle.ra_labels.specs.declared.kind.Kind.{Kind}
use Rattle.ra_labels.specs.declared.kind.Kind.TheVariants.{Counter, OrSet}
use Rattle.ra_labels.specs.declared.kind.Kind.TheVariants as kinds
use Rattle.ra_labels.specs.declared.operation.Op.TheVariants as op
use Rattle.ra_labels.specs.declared.operation.Update.{Update}
use Rattle.ra_labels.specs.declared.operation.Update.TheVariants.{OrAdd, TakeOut}
use Rattle.ra_labels.specs.declared.operation.Query.{Query}
use Rattle.ra_labels.specs.declared.operation.Query.TheVariants.{ReadIds, OrRead}
use Rattle.ra_labels.specs.declared.label.Label.{Label}
use Rattle.ra_labels.specs.declared.command.Command.{Command}
use Rattle.ra_labels.specs.declared.command.Command.TheVariants.{Operate}
use Rattle.ra_labels.specs.declared.reply.Fault.{Fault}
use Rattle.ra_labels.specs.Records.{Records, label_count, labels_of, next_label, records_to}
use Rattle.ra_labels.specs.Visibility.{sees}
use Rattle.ra_labels.specs.Rewriting.{Part, Does, parts_of, update_of, updates_of}
use Rattle.ra_labels.specs.Lists.{is_among}
use Rattle.ra_labels.specs.Specification.{State, Number, Pairs, answers, state_after, is_admitted}
use Rattle.ra_labels.specs.Linearization.{parts_in, is_visible_to, must_precede, extends, visible_updates, IsRaLinearization}
use Rattle.ra_labels.specs.NamedOrder.{named_sequence}
use Rattle.ra_labels.specs.Fault.{Holds, fault_of}
use Rattle.ra_labels.specs.Answer.{is_kind}
use Rattle.ra_labels.specs.TheoremTerms.{kind_of_update, admits_all, removes_pair, NoneRemovesPair, IsPresentPair, IdentifiersAreUnique}
use Rattle.ra_labels.proofs.InLists.{list_all-contains, list_all-from_contains, among-exactly}
use Rattle.ra_labels.proofs.Members.{at_head, behind_head, split_at, there-kept, piece_of}
use Rattle.ra_labels.proofs.Parts.{part_is_of}
use Rattle.ra_theorems.specs.Counters.{increments_in, decrements_in}
use Rattle.ra_theorems.specs.AnyOrder.{is_of_any_order, updates_that_pass, IsOrderOf, IsAddedAndNeverTakenOut, IsFinal}
use Rattle.ra_theorems.proofs.StateKinds.{only_any, only_mv_register}
use Rattle.ra_theorems.proofs.States.{admitted-only, admitted-of_kind, state-of_kind, counter_is}
use Rattle.ra_theorems.proofs.OrSets.{pairs-exactly, answers-ids, answers-pairs, both_ways}
use Rattle.ra_theorems.proofs.Meanings.{some-exactly, queries-exactly}
use Rattle.ra_theorems.proofs.Faults.{IsPermutation-named_sequence, no_cause_from_holds, fault_is_least}
use Rattle.ra_theorems.proofs.Extensions.{extends-weaker}
use Rattle.ra_theorems.proofs.Ranks.{counter-extends, or_set-extends, execution-extends}
use Rattle.ra_theorems.proofs.CountedParts.{ups_of, downs_of, ups_sum, downs_sum, sum_same}
use Rattle.ra_theorems.proofs.AmongParts.{AreAmong, updates_among, shuffled_among, seen_by, extends-filter, Linearizes, named_in, in_named, visible_among, seen_must_precede}
use Rattle.ra_theorems.proofs.ListsInAnyOrder.{named_list_linearizes}
use Rattle.ra_theorems.proofs.Deliveries.{op_of, does_it, update_from, part_makes, made_by, some_pairs, added_in, removal-sees_in}

-- for a kind whose states admit all its updates, updates taken from among admitted ones are admitted
admitted_among : (kind : Kind) (us vs : List Update) → admits_all kind ≡ true
    → ((u : Update) → Contains vs u → Contains us u) → is_admitted kind us ≡ true → is_admitted kind vs ≡ true
admitted_among kind us vs other among is =
    let of_kind : Update → Bool = λ u. is_kind kind (kind_of_update u) in
    admitted-of_kind kind vs other
    ∙ list_all-from_contains of_kind vs
    (λ u found. list_all-contains of_kind us u (admitted-only kind us is) (among u found))

-- the label of a part that does an update belongs to the records, and its operation is the one that makes the update
of_label : (records : Records) (p : Part) (u : Update) → Contains (parts_in records) p → p.act ≡ Does u
    → Contains (labels_of records) p.label × (p.label.op ≡ op_of u)
of_label records p u there does =
    let (l, found, of_l) = piece_of parts_of (labels_of records) p there in
    let same = part_is_of l p of_l in (
      subst (Contains (labels_of records)) (sym same) found,
      ap (λ (k : Label). k.op) same ∙ made_by l.op u (part_makes l p u of_l does),
    )

-- ---- OR-Set: the state that an order of its updates leads to

-- each removal sees the additions of the pairs that it removes
abbrev RemovalsSee : Records → Type 0
RemovalsSee records = (l m : Label) (x id : ℕ) (ids : List ℕ) → Contains (labels_of records) l
    → Contains (labels_of records) m → l.op ≡ op.OrRemove x ids → m.op ≡ op.OrAdd x id → Contains ids id
    → sees records l.number m.number ≡ true

takes : (x id : ℕ) (u : Update) → removes_pair x id u ≡ true → (ids : List ℕ) × (u ≡ TakeOut x ids) × Contains ids id
takes x id (TakeOut y ids) is =
    let pieces = and_parts (y == x) (is_among id ids) is in
    (ids, ap (λ z. TakeOut z ids) (eqb-true y x pieces.0), (among-exactly id ids).0 pieces.1)
takes x id _ is = absurd (false≢true is)

-- an update that precedes an addition does not remove the added pair
takes_nothing : (records : Records) → RemovalsSee records → (p : Part) (ps : List Part) (x id : ℕ)
    → AreAmong (p ∷ ps) (parts_in records) → list_all (λ q. not (is_visible_to records q p)) ps ≡ true → (u : Update)
    → p.act ≡ Does u → Contains (updates_of ps) (OrAdd x id) → removes_pair x id u ≡ false
takes_nothing records see p ps x id are none u does added = false_from_ne_true (removes_pair x id u) (λ is.
    let (ids, which, listed) = takes x id u is in
    let (q, found, adds) = update_from ps (OrAdd x id) added in
    let removal = of_label records p u (are p (at_head p ps p refl)) does in
    let addition = of_label records q (OrAdd x id) (are q (behind_head p ps q found)) adds in
    let seen = see p.label q.label x id ids removal.0 addition.0 (removal.1 ∙ ap op_of which) addition.1 listed in
    let visible : is_visible_to records q p ≡ true =
    and_from (is_some (update_of q.act)) (sees records p.label.number q.label.number)
    (ap (λ a. is_some (update_of a)) adds) seen in
    let hidden : is_visible_to records q p ≡ false = not-true (is_visible_to records q p)
    (list_all-contains (λ r. not (is_visible_to records r p)) ps q none found) in
    false≢true (sym hidden ∙ visible))

-- a pair that was added and remains was added by the head, or by an update behind it
first_or_further : (v : Update) (us first later : List Update) (x id : ℕ) → v ∷ us ≡ first ++ OrAdd x id ∷ later
    → NoneRemovesPair x id later → ((v ≡ OrAdd x id) × NoneRemovesPair x id us) ⊎ IsPresentPair x id us
first_or_further v us [] later x id split none =
    let here : v ≡ OrAdd x id = cc (split) in
    let behind : us ≡ later = cc (split) in
    inl (here, subst (NoneRemovesPair x id) (sym behind) none)
first_or_further v us (f ∷ first) later x id split none =
    let behind : us ≡ first ++ OrAdd x id ∷ later = cc (split) in
    inr (first, later, behind, none)

none_with : (records : Records) → RemovalsSee records → (p : Part) (ps : List Part) (x id : ℕ)
    → AreAmong (p ∷ ps) (parts_in records) → list_all (λ q. not (is_visible_to records q p)) ps ≡ true
    → (IsPresentPair x id (updates_of ps) → NoneRemovesPair x id (updates_of ps))
    → (o : Option Update) → update_of p.act ≡ o → IsPresentPair x id (cons_option o (updates_of ps))
    → NoneRemovesPair x id (cons_option o (updates_of ps))
none_with records see p ps x id are none rest None is stays = rest stays
none_with records see p ps x id are none rest (Some v) is (first, later, split, none_later) =
    let us = updates_of ps in
    let keeps : Update → Bool = λ u. not (removes_pair x id u) in
    elim (first_or_further v us first later x id split none_later) [
      | inl (here, none_behind) ↦ and_from (keeps v) (list_all keeps us) (ap keeps here) none_behind
      | inr further ↦
          let added = added_in us x id further in
          let kept = takes_nothing records see p ps x id are none v (does_it p.act v is) added in
          and_from (keeps v) (list_all keeps us) (not_from_false (removes_pair x id v) kept) (rest further)
    ]

-- no update removes a pair that was added and remains
none_takes : (records : Records) → RemovalsSee records → (ps : List Part) (x id : ℕ)
    → AreAmong ps (parts_in records) → extends (is_visible_to records) ps ≡ true
    → IsPresentPair x id (updates_of ps) → NoneRemovesPair x id (updates_of ps)
none_takes records see [] x id are extended stays = refl
none_takes records see (p ∷ ps) x id are extended stays =
    let pieces = and_parts (list_all (λ q. not (is_visible_to records q p)) ps) (extends (is_visible_to records) ps)
    extended in
    none_with records see p ps x id are pieces.0
    (none_takes records see ps x id (λ q found. are q (behind_head p ps q found)) pieces.1) (update_of p.act) refl
    stays

-- an order leads to exactly the pairs that are added and that no update removes
led_to : (records : Records) → RemovalsSee records → (ps : List Part) (pairs : List (ℕ × ℕ)) (x id : ℕ)
    → AreAmong ps (parts_in records) → extends (is_visible_to records) ps ≡ true
    → state_after OrSet (updates_of ps) ≡ Some (Pairs pairs)
    → Contains pairs (x, id) ↔ IsAddedAndNeverTakenOut x id (updates_of ps)
led_to records see ps pairs x id are extended led =
    let us = updates_of ps in
    let keeps : Update → Bool = λ u. not (removes_pair x id u) in (
      (λ there.
          let stays = (pairs-exactly us pairs x id led).0 there in
          (added_in us x id stays, none_takes records see ps x id are extended stays)),
      (λ known.
          let (first, later, split) = split_at us (OrAdd x id) known.0 in
          let behind : NoneRemovesPair x id later = list_all-from_contains keeps later (λ u found.
          list_all-contains keeps us u known.1
          (subst (λ vs. Contains vs u) (sym split)
          (Contains-append_right first (OrAdd x id ∷ later) u (behind_head (OrAdd x id) later u found)))) in
          (pairs-exactly us pairs x id led).1 (first, later, split, behind)),
    )

-- this condition does not depend on the order of the updates
never_among : (us vs : List Update) → ((u : Update) → Contains us u → Contains vs u)
    → ((u : Update) → Contains vs u → Contains us u) → (x id : ℕ) → IsAddedAndNeverTakenOut x id us
    → IsAddedAndNeverTakenOut x id vs
never_among us vs to from x id known =
    let keeps : Update → Bool = λ u. not (removes_pair x id u) in
    (to (OrAdd x id) known.0, list_all-from_contains keeps vs (λ u found. list_all-contains keeps us u known.1 (from u found)))

-- ---- the theorem: the order does not matter

order_among : (records : Records) (passes : ℕ → Bool) (parts : List Part) → IsOrderOf records passes parts
    → AreAmong parts (updates_that_pass records passes)
order_among records passes parts order = shuffled_among parts (updates_that_pass records passes)
    (IsPermutation-sym (updates_that_pass records passes) parts order.each_once)

abbrev does_pass : (ℕ → Bool) → Part → Bool
does_pass passes p = is_some (update_of p.act) && passes p.label.number

order_in : (records : Records) (passes : ℕ → Bool) (parts : List Part) → IsOrderOf records passes parts
    → AreAmong parts (parts_in records)
order_in records passes parts order p there =
    (there-kept (does_pass passes) (parts_in records) p (order_among records passes parts order p there)).0

pub any_order-admitted : (kind : Kind) (records : Records) (passes : ℕ → Bool) (parts : List Part)
    → admits_all kind ≡ true → Holds kind records → IsOrderOf records passes parts
    → is_admitted kind (updates_of parts) ≡ true
any_order-admitted kind records passes parts all holds order =
    admitted_among kind (updates_of (named_sequence kind records)) (updates_of parts) all
    (updates_among parts (named_sequence kind records) (λ p there.
    Contains-permutation (parts_in records) (named_sequence kind records) p holds.each_part_once
    (order_in records passes parts order p there))) holds.updates

pub any_order-counter : (records : Records) (passes : ℕ → Bool) (parts : List Part) → Holds Counter records
    → IsOrderOf records passes parts → state_after Counter (updates_of parts)
    ≡ Some (Number (pos (increments_in (updates_of (updates_that_pass records passes)))
    -ℤ pos (decrements_in (updates_of (updates_that_pass records passes)))))
any_order-counter records passes parts holds order =
    let all = updates_that_pass records passes in
    let (state, led) = (some-exactly (state_after Counter (updates_of parts))).0
    (any_order-admitted Counter records passes parts refl holds order) in
    let up : increments_in (updates_of parts) ≡ increments_in (updates_of all) =
    ups_sum parts ∙ sum_by-IsPermutation ups_of all parts order.each_once ∙ sym (ups_sum all) in
    let down : decrements_in (updates_of parts) ≡ decrements_in (updates_of all) =
    downs_sum parts ∙ sum_by-IsPermutation downs_of all parts order.each_once ∙ sym (downs_sum all) in
    led ∙ ap Some (counter_is (updates_of parts) state led)
    ∙ (λ i. Some (Number (pos (up i) -ℤ pos (down i))))

pub any_order-or_set : (records : Records) (passes : ℕ → Bool) (parts : List Part) (pairs : List (ℕ × ℕ)) (x id : ℕ)
    → Holds OrSet records → IdentifiersAreUnique records → IsOrderOf records passes parts
    → state_after OrSet (updates_of parts) ≡ Some (Pairs pairs)
    → Contains pairs (x, id) ↔ IsAddedAndNeverTakenOut x id (updates_of (updates_that_pass records passes))
any_order-or_set records passes parts pairs x id holds once order led =
    let all = updates_that_pass records passes in
    let see = removal-sees_in records (named_sequence OrSet records) holds.each_part_once holds.queries once in
    let known = led_to records see parts pairs x id (order_in records passes parts order) order.visibility led in
    let to = updates_among parts all (order_among records passes parts order) in
    let from = updates_among all parts (shuffled_among all parts order.each_once) in (
      (λ there. never_among (updates_of parts) (updates_of all) to from x id (known.0 there)),
      (λ never. known.1 (never_among (updates_of all) (updates_of parts) from to x id never)),
    )

-- ---- if any sequence linearizes, the named sequence does

-- each query is admitted that another sequence admits, if the named sequence leads its label to the same state
abbrev AnswersSo : Kind → Records → List Part → Type 0
AnswersSo kind records sequence = (n : ℕ) (query : Query) (state : State)
    → state_after kind (visible_updates records sequence n) ≡ Some state → answers state query ≡ true
    → (other : State) → state_after kind (visible_updates records (named_sequence kind records) n) ≡ Some other
    → answers other query ≡ true

named_linearizes : (kind : Kind) (records : Records) (sequence : List Part) → admits_all kind ≡ true
    → Linearizes kind records sequence → extends (must_precede records) (named_sequence kind records) ≡ true
    → AnswersSo kind records sequence → Holds kind records
named_linearizes kind records sequence all linearizes extended so =
    let named = named_sequence kind records in
    let among = named_in kind records sequence linearizes in
    record {
      each_part_once = IsPermutation-named_sequence kind records;
      visibility = extended;
      updates = admitted_among kind (updates_of sequence) (updates_of named) all
          (updates_among named sequence among) linearizes.updates;
      queries = (queries-exactly kind records named).1 (λ part query there asks.
          let n = part.label.number in
          let (state, led, answered) =
          (queries-exactly kind records sequence).0 linearizes.queries part query (among part there) asks in
          let admitted = admitted_among kind (visible_updates records sequence n) (visible_updates records named n)
          all (visible_among records named sequence n among) (ap is_some led) in
          let (other, led_other) = (some-exactly (state_after kind (visible_updates records named n))).0 admitted in
          (other, led_other, so n query state led answered other led_other));
      explained = linearizes.explained;
    }

-- a counter's number is the same in both orders
counter_so : (records : Records) (sequence : List Part) → Linearizes Counter records sequence
    → AnswersSo Counter records sequence
counter_so records sequence linearizes n query state led answered other led_other =
    let named = named_sequence Counter records in
    let us = visible_updates records sequence n in
    let vs = visible_updates records named n in
    let all = parts_in records in
    let test = seen_by records n in
    let each = linearizes.each_part_once in
    let named_each = IsPermutation-named_sequence Counter records in
    let up : increments_in us ≡ increments_in vs =
    ups_sum (filter test sequence) ∙ sym (sum_same ups_of test all sequence each)
    ∙ sum_same ups_of test all named named_each ∙ sym (ups_sum (filter test named)) in
    let down : decrements_in us ≡ decrements_in vs =
    downs_sum (filter test sequence) ∙ sym (sum_same downs_of test all sequence each)
    ∙ sum_same downs_of test all named named_each ∙ sym (downs_sum (filter test named)) in
    let same : state ≡ other = counter_is us state led ∙ (λ i. Number (pos (up i) -ℤ pos (down i)))
    ∙ sym (counter_is vs other led_other) in
    subst (λ s. answers s query ≡ true) same answered

-- queries have the same answers on lists with the same pairs
answers_alike : (ps qs : List (ℕ × ℕ)) → ((x id : ℕ) → Contains ps (x, id) ↔ Contains qs (x, id)) → (query : Query)
    → answers (Pairs ps) query ≡ true → answers (Pairs qs) query ≡ true
answers_alike ps qs same (ReadIds x asked) answered =
    (answers-ids qs x asked).1 (λ id. both_ways ((answers-ids ps x asked).0 answered id) (same x id))
answers_alike ps qs same (OrRead asked) answered = (answers-pairs qs asked).1 (λ x.
    both_ways ((answers-pairs ps asked).0 answered x)
    ((λ known. (known.0, (same x known.0).0 known.1)), (λ known. (known.0, (same x known.0).1 known.1))))
answers_alike ps qs same _ answered = absurd (false≢true answered)

-- the parts of an order that a label sees belong to the records
visible_in : (records : Records) (ps : List Part) (n : ℕ) → IsPermutation (parts_in records) ps
    → AreAmong (filter (seen_by records n) ps) (parts_in records)
visible_in records ps n each p there =
    shuffled_among ps (parts_in records) (IsPermutation-sym (parts_in records) ps each) p
    (there-kept (seen_by records n) ps p there).0

-- two orders of all parts lead a label to the same pairs
same_pairs : (records : Records) → RemovalsSee records → (ps qs : List Part) (n : ℕ)
    → IsPermutation (parts_in records) ps → IsPermutation (parts_in records) qs → AreAmong ps qs → AreAmong qs ps
    → extends (is_visible_to records) (filter (seen_by records n) ps) ≡ true
    → extends (is_visible_to records) (filter (seen_by records n) qs) ≡ true
    → (first second : List (ℕ × ℕ)) → state_after OrSet (visible_updates records ps n) ≡ Some (Pairs first)
    → state_after OrSet (visible_updates records qs n) ≡ Some (Pairs second)
    → (x id : ℕ) → Contains first (x, id) ↔ Contains second (x, id)
same_pairs records see ps qs n each_p each_q p_among q_among p_order q_order first second p_led q_led x id =
    let us = visible_updates records ps n in
    let vs = visible_updates records qs n in
    let to = visible_among records ps qs n p_among in
    let from = visible_among records qs ps n q_among in
    let one = led_to records see (filter (seen_by records n) ps) first x id (visible_in records ps n each_p) p_order
    p_led in
    let other = led_to records see (filter (seen_by records n) qs) second x id (visible_in records qs n each_q) q_order
    q_led in (
      (λ there. other.1 (never_among us vs to from x id (one.0 there))),
      (λ there. one.1 (never_among vs us from to x id (other.0 there))),
    )

or_set_so : (records : Records) (sequence : List Part) → IdentifiersAreUnique records
    → Linearizes OrSet records sequence → AnswersSo OrSet records sequence
or_set_so records sequence once linearizes n query state led answered other led_other =
    let named = named_sequence OrSet records in
    let (ps, is) = some_pairs state (state-of_kind OrSet (visible_updates records sequence n) state led) in
    let (qs, other_is) = some_pairs other (state-of_kind OrSet (visible_updates records named n) other led_other) in
    let see = removal-sees_in records sequence linearizes.each_part_once linearizes.queries once in
    let order = extends-filter (is_visible_to records) (seen_by records n) sequence linearizes.visibility in
    let named_order = extends-filter (is_visible_to records) (seen_by records n) named
    (extends-weaker (must_precede records) (is_visible_to records) (seen_must_precede records) named
    (or_set-extends records)) in
    let same = same_pairs records see sequence named n linearizes.each_part_once
    (IsPermutation-named_sequence OrSet records) (in_named OrSet records sequence linearizes)
    (named_in OrSet records sequence linearizes) order named_order ps qs (led ∙ ap Some is)
    (led_other ∙ ap Some other_is) in
    subst (λ s. answers s query ≡ true) (sym other_is)
    (answers_alike ps qs same query (subst (λ s. answers s query ≡ true) is answered))

-- an object of any type has one state, and so has a multi-value register
any_so : (records : Records) (sequence : List Part) → AnswersSo kinds.Any records sequence
any_so records sequence n query state led answered other led_other =
    subst (λ s. answers s query ≡ true)
    (only_any state (state-of_kind kinds.Any (visible_updates records sequence n) state led)
    ∙ sym (only_any other
    (state-of_kind kinds.Any (visible_updates records (named_sequence kinds.Any records) n) other led_other))) answered

mv_register_so : (records : Records) (sequence : List Part) → AnswersSo kinds.MvRegister records sequence
mv_register_so records sequence n query state led answered other led_other =
    subst (λ s. answers s query ≡ true)
    (only_mv_register state (state-of_kind kinds.MvRegister (visible_updates records sequence n) state led)
    ∙ sym (only_mv_register other
    (state-of_kind kinds.MvRegister (visible_updates records (named_sequence kinds.MvRegister records) n) other
    led_other))) answered

pub named-where_any : (kind : Kind) (records : Records) (sequence : List Part) → is_of_any_order kind ≡ true
    → IdentifiersAreUnique records → Linearizes kind records sequence → Holds kind records
named-where_any Counter records sequence any once linearizes =
    named_linearizes Counter records sequence refl linearizes (counter-extends records)
    (counter_so records sequence linearizes)
named-where_any OrSet records sequence any once linearizes =
    named_linearizes OrSet records sequence refl linearizes (or_set-extends records)
    (or_set_so records sequence once linearizes)
named-where_any kinds.List records sequence any once linearizes = named_list_linearizes records sequence linearizes
named-where_any kinds.Any records sequence any once linearizes =
    named_linearizes kinds.Any records sequence refl linearizes (execution-extends kinds.Any records (λ label. refl))
    (any_so records sequence)
named-where_any kinds.MvRegister records sequence any once linearizes =
    named_linearizes kinds.MvRegister records sequence refl linearizes
    (execution-extends kinds.MvRegister records (λ label. refl)) (mv_register_so records sequence)
named-where_any _ records sequence any once linearizes = absurd (false≢true any)

-- an RA-linearization also linearizes by visibility alone, which is the weaker order
pub by_visibility : (kind : Kind) (records : Records) (sequence : List Part) → IsRaLinearization kind records sequence
    → Linearizes kind records sequence
by_visibility kind records sequence linearizes = record {
  each_part_once = linearizes.each_part_once;
  visibility = extends-weaker (must_precede records) (is_visible_to records) (seen_must_precede records) sequence
      linearizes.visibility;
  updates = linearizes.updates;
  queries = linearizes.queries;
  explained = linearizes.explained;
}

-- ---- a violation is final

-- the labels up to a given one belong to the records
newest_or_before : (b : Bool) (newest : Command) (before upto : Records) (label : Label)
    → (Contains (labels_of upto) label → Contains (labels_of (newest ∷ before)) label)
    → Contains (labels_of (cond b (newest ∷ before) upto)) label → Contains (labels_of (newest ∷ before)) label
newest_or_before true newest before upto label further there = there
newest_or_before false newest before upto label further there = further there

pub labels_to : (records : Records) (n : ℕ) (label : Label) → Contains (labels_of (records_to records n)) label
    → Contains (labels_of records) label
labels_to [] n label there = there
labels_to (Operate by op clock ∷ before) n label there =
    newest_or_before (n == label_count before) (Operate by op clock) before (records_to before n) label (λ further.
    behind_head (next_label before by op clock) (labels_of before) label (labels_to before n label further)) there
labels_to (_ ∷ before) n label there = labels_to before n label there

pub no-final : (kind : Kind) (records : Records) (fault : Fault) → is_of_any_order kind ≡ true
    → IdentifiersAreUnique records → fault_of kind records ≡ Some fault → IsFinal kind records fault.label
no-final kind records fault any once is sequence linearizes =
    let least = fault_is_least kind records fault is in
    let upto = records_to records fault.label in
    let holds = named-where_any kind upto sequence any (λ l m id l_there m_there.
    once l m id (labels_to records fault.label l l_there) (labels_to records fault.label m m_there)) linearizes in
    none-some fault.cause (sym (no_cause_from_holds kind upto holds) ∙ least.fails)

pub none_where_final : (kind : Kind) (records : Records) (n : ℕ) (sequence : List Part) → IsFinal kind records n
    → ¬ (IsRaLinearization kind (records_to records n) sequence)
none_where_final kind records n sequence final linearizes =
    final sequence (by_visibility kind (records_to records n) sequence linearizes)
