-- Lemmas on the updates of labels that pass a test, in the named order.
use Rattle.std.proofs.Common.{◌≡◌, ℕ, ◌≤◌, Bool, true, false, List, [], ◌∷◌, ◌++◌, filter, Option, Some, None, refl, sym, ap, ◌∙◌, subst, inl, inr, arith}
use Rattle.std.specs.Prelude.{◌↔◌, ◌==◌, ◌&&◌, ◌||◌, Contains, cond, flat_map, is_some, length}
use Rattle.std.specs.List.{IsDistinct, cons_option}
use Rattle.std.proofs.lemmas.Bool.{false≢true, and_parts, and_from, or_right, eqb-true, eq-eqb, ne_eqb}
use Rattle.std.proofs.lemmas.Option.{none-some, same_Some}
use Rattle.std.proofs.lemmas.List.Sorted.{Contains-permutation, IsPermutation-sym}
use Rattle.std.proofs.Math.Bool.{or-false, or_comm}
use Rattle.ra_labels.specs.declared.kind.Kind.{Kind}
use Rattle.ra_labels.specs.declared.kind.Kind.TheVariants.{Rga}
use Rattle.ra_labels.specs.declared.operation.Update.{Update}
use Rattle.ra_labels.specs.declared.operation.Update.TheVariants.{After}
use Rattle.ra_labels.specs.declared.label.Label.{Label}
use Rattle.ra_labels.specs.declared.command.Command.TheVariants.{Deliver, Join}
use Rattle.ra_labels.specs.Records.{Records, label_count, labels_of}
use Rattle.ra_labels.specs.Visibility.{is_update, is_update_at, has_delivered}
use Rattle.ra_labels.specs.Rewriting.{Part, Act, Does, Asks, acts_of, part_of, parts_of, update_of, updates_of}
use Rattle.ra_labels.specs.Specification.{Listed, state_after, is_admitted}
use Rattle.ra_labels.specs.Linearization.{updates_admitted}
use Rattle.ra_labels.specs.NamedOrder.{named_labels, named_sequence}
use Rattle.ra_labels.specs.Answer.{is_kind}
use Rattle.ra_labels.specs.TheoremTerms.{kind_of_update, elements_in, admits_all}
use Rattle.ra_labels.specs.Insertion.{updates_among, updates_passing, or_label, HasUpdate}
use Rattle.ra_labels.specs.Late.{kept_entries}
use Rattle.ra_labels.specs.Pending.{is_present_element, shown_by, dependency_of, NonePending}
use Rattle.ra_labels.specs.HistorySoFar.{NextOperation, operate, label_of}
use Rattle.ra_labels.proofs.InLists.{list_all-contains, list_all-from_contains, bool_same}
use Rattle.ra_labels.proofs.Members.{head_or_behind, at_head, behind_head, split_at, there-kept, reached, piece_of, in_piece}
use Rattle.ra_labels.proofs.Parts.{part_is_of}
use Rattle.ra_theorems.proofs.Order.{IsPermutation-named_labels}
use Rattle.ra_theorems.proofs.Meanings.{some-exactly}
use Rattle.ra_theorems.proofs.States.{state-of_kind, admitted-only, admitted-of_kind}
use Rattle.ra_theorems.proofs.Ranks.{named_differ, have_one_number}
use Rattle.ra_theorems.proofs.Insertion.{order-inserted, order_later}
use Rattle.ra_theorems.proofs.HadUpdates.{filter_all, differ_round, delivery-order, among-append, among-same, among-one, among-not}
use Rattle.ra_theorems.proofs.Rgas.{is_listed}
use Rattle.ra_theorems.proofs.ShownElements.{list-shown_by, shown_by-same}
use Rattle.ra_theorems.proofs.Deliveries.{update_from, part_makes}
use Rattle.ra_theorems.proofs.KeptUpdates.{all_marked, kept_marked, marked_as, marked-is_there, mark-kept, kept-goes, there-list, needed-in}

pub in-named : (kind : Kind) (records : Records) (label : Label) → Contains (labels_of records) label
    → Contains (named_labels kind records) label
in-named kind records label there = Contains-permutation (labels_of records) (named_labels kind records) label
    (IsPermutation-named_labels kind records) there

pub in-labels : (kind : Kind) (records : Records) (label : Label) → Contains (named_labels kind records) label
    → Contains (labels_of records) label
in-labels kind records label there =
    Contains-permutation (named_labels kind records) (labels_of records) label
    (IsPermutation-sym (labels_of records) (named_labels kind records) (IsPermutation-named_labels kind records))
    there

pub named-exactly : (kind : Kind) (records : Records) (label : Label)
    → Contains (named_labels kind records) label ↔ Contains (labels_of records) label
named-exactly kind records label = (in-labels kind records label, in-named kind records label)

-- `or_label` changes the test only for its label
pub others-pass : (passes : ℕ → Bool) (n m : ℕ) → ¬ (m ≡ n) → or_label passes n m ≡ passes m
others-pass passes n m other = ap (λ b. passes m || b) (ne_eqb m n other) ∙ or-false (passes m)

pub one-passes : (passes : ℕ → Bool) (n : ℕ) → or_label passes n n ≡ true
one-passes passes n = or_right (passes n) (n == n) (eq-eqb n n refl)

-- one more passing label, at its position in the named order
pub one-more_at : (kind : Kind) (records : Records) (passes : ℕ → Bool) (before behind : List Label) (label : Label)
    (u : Update) → named_labels kind records ≡ before ++ label ∷ behind → HasUpdate label.op u → passes label.number ≡ false
    → (updates_passing kind records passes ≡ updates_among passes before ++ updates_among passes behind)
    × (updates_passing kind records (or_label passes label.number)
    ≡ updates_among passes before ++ u ∷ updates_among passes behind)
one-more_at kind records passes before behind label u is makes new =
    let more : ℕ → Bool = or_label passes label.number in
    let round = differ_round before behind label (subst (IsDistinct have_one_number) is (named_differ kind records)) in
    let first = among-same more passes before (λ l found. others-pass passes label.number l.number (round.0 l found)) in
    let later = among-same more passes behind (λ l found. others-pass passes label.number l.number (round.1 l found)) in
    let own = among-one more label u makes (one-passes passes label.number) in (
      ap (updates_among passes) is ∙ among-append passes before (label ∷ behind)
          ∙ ap (λ us. updates_among passes before ++ us)
          (among-append passes (label ∷ []) behind
          ∙ ap (λ us. us ++ updates_among passes behind) (among-not passes label new)),
      ap (updates_among more) is ∙ among-append more before (label ∷ behind)
          ∙ (λ i. first i ++ (among-append more (label ∷ []) behind ∙ (λ j. own j ++ later j)) i),
    )

pub one-more : (kind : Kind) (records : Records) (passes : ℕ → Bool) (label : Label) (u : Update)
    → Contains (labels_of records) label → HasUpdate label.op u → passes label.number ≡ false
    → (before behind : List Label) × (named_labels kind records ≡ before ++ label ∷ behind)
    × (updates_passing kind records passes ≡ updates_among passes before ++ updates_among passes behind)
    × (updates_passing kind records (or_label passes label.number)
    ≡ updates_among passes before ++ u ∷ updates_among passes behind)
one-more kind records passes label u there makes new =
    let (before, behind, is) = split_at (named_labels kind records) label (in-named kind records label there) in
    let pieces = one-more_at kind records passes before behind label u is makes new in
    (before, behind, is, pieces.0, pieces.1)

-- later commands leave the updates of earlier labels unchanged
pub passing-delivery : (kind : Kind) (records : Records) (to n : ℕ) (passes : ℕ → Bool)
    → updates_passing kind (Deliver to n ∷ records) passes ≡ updates_passing kind records passes
passing-delivery kind records to n passes = ap (updates_among passes) (delivery-order kind records to n)

pub passing-join : (kind : Kind) (records : Records) (joined from : ℕ) (passes : ℕ → Bool)
    → updates_passing kind (Join joined from ∷ records) passes ≡ updates_passing kind records passes
passing-join kind records joined from passes = ap (updates_among passes) (order_later kind (Join joined from) records)

pub passing-operation : (kind : Kind) (records : Records) (next : NextOperation) (passes : ℕ → Bool)
    → passes (label_count records) ≡ false → updates_passing kind (operate next ∷ records) passes
    ≡ updates_passing kind records passes
passing-operation kind records next passes fails =
    let label = label_of records next in
    let (before, behind, was, is) = order-inserted kind records next in
    ap (updates_among passes) is ∙ among-append passes before (label ∷ behind)
    ∙ ap (λ us. updates_among passes before ++ us)
    (among-append passes (label ∷ []) behind
    ∙ ap (λ us. us ++ updates_among passes behind) (among-not passes label fails))
    ∙ sym (ap (updates_among passes) was ∙ among-append passes before behind)

-- an update that a replica receives or issues extends the updates delivered to it by one
pub had-delivery : (records : Records) (to n m : ℕ) → is_update_at records n ≡ true
    → has_delivered (Deliver to n ∷ records) to m ≡ or_label (has_delivered records to) n m
had-delivery records to n m update =
    ap (λ b. b || has_delivered records to m) (bool_same (to == to && m == n && is_update_at records m) (m == n)
    (λ both. (and_parts (to == to) (m == n) (and_parts (to == to && m == n) (is_update_at records m) both).0).1)
    (λ is. and_from (to == to && m == n) (is_update_at records m) (and_from (to == to) (m == n) (eq-eqb to to refl) is)
    (ap (is_update_at records) (eqb-true m n is) ∙ update)))
    ∙ or_comm (m == n) (has_delivered records to m)

pub had-operation : (records : Records) (next : NextOperation) (m : ℕ) → is_update next.op ≡ true
    → has_delivered (operate next ∷ records) next.by m ≡ or_label (has_delivered records next.by) (label_count records) m
had-operation records next m update =
    ap (λ b. b || has_delivered records next.by m)
    (bool_same (next.by == next.by && m == label_count records && is_update next.op) (m == label_count records)
    (λ both. (and_parts (next.by == next.by) (m == label_count records)
    (and_parts (next.by == next.by && m == label_count records) (is_update next.op) both).0).1)
    (λ is. and_from (next.by == next.by && m == label_count records) (is_update next.op)
    (and_from (next.by == next.by) (m == label_count records) (eq-eqb next.by next.by refl) is) update))
    ∙ or_comm (m == label_count records) (has_delivered records next.by m)

-- the updates among parts, each marked with whether its label passes
abbrev mark_one : Bool → Option Update → List (Bool × Update) → List (Bool × Update)
mark_one b None rest = rest
mark_one b (Some u) rest = marked_as b u ∷ rest

abbrev pub mark : (ℕ → Bool) → List Part → List (Bool × Update)
mark passes [] = []
mark passes (part ∷ parts) = mark_one (passes part.label.number) (update_of part.act) (mark passes parts)

all_one : (b : Bool) (o : Option Update) (rest : List (Bool × Update))
    → all_marked (mark_one b o rest) ≡ cons_option o (all_marked rest)
all_one b None rest = refl
all_one b (Some u) rest = refl

all_parts : (passes : ℕ → Bool) (parts : List Part) → all_marked (mark passes parts) ≡ updates_of parts
all_parts passes [] = refl
all_parts passes (part ∷ parts) =
    all_one (passes part.label.number) (update_of part.act) (mark passes parts)
    ∙ ap (cons_option (update_of part.act)) (all_parts passes parts)

kept_one : (o : Option Update) (rest : List (Bool × Update))
    → kept_marked (mark_one true o rest) ≡ cons_option o (kept_marked rest)
kept_one None rest = refl
kept_one (Some u) rest = refl

kept_not : (o : Option Update) (rest : List (Bool × Update)) → kept_marked (mark_one false o rest) ≡ kept_marked rest
kept_not None rest = refl
kept_not (Some u) rest = refl

kept_part : (b : Bool) (part : Part) (parts : List Part) (rest : List (Bool × Update))
    → kept_marked rest ≡ updates_of parts → kept_marked (mark_one b (update_of part.act) rest)
    ≡ updates_of (cond b (part ∷ parts) parts)
kept_part true part parts rest is = kept_one (update_of part.act) rest ∙ ap (cons_option (update_of part.act)) is
kept_part false part parts rest is = kept_not (update_of part.act) rest ∙ is

pub kept_parts : (passes : ℕ → Bool) (parts : List Part)
    → kept_marked (mark passes parts) ≡ updates_of (filter (λ p. passes p.label.number) parts)
kept_parts passes [] = refl
kept_parts passes (part ∷ parts) =
    kept_part (passes part.label.number) part (filter (λ (p : Part). passes p.label.number) parts) (mark passes parts)
    (kept_parts passes parts)

one_there : (b : Bool) (o : Option Update) (rest : List (Bool × Update)) (u : Update) → o ≡ Some u
    → Contains (mark_one b o rest) (b, u)
one_there b None rest u is = absurd (none-some u is)
one_there b (Some v) rest u is = at_head (marked_as b v) rest (b, u) (ap (marked_as b) (same_Some v u is))

rest_there : (b : Bool) (o : Option Update) (rest : List (Bool × Update)) (m : Bool × Update) → Contains rest m
    → Contains (mark_one b o rest) m
rest_there b None rest m there = there
rest_there b (Some v) rest m there = behind_head (marked_as b v) rest m there

mark_there : (passes : ℕ → Bool) (parts : List Part) (part : Part) (u : Update) → Contains parts part
    → update_of part.act ≡ Some u → Contains (mark passes parts) (passes part.label.number, u)
mark_there passes [] part u there is = absurd (omega (arith, there.1))
mark_there passes (q ∷ parts) part u there is = elim (head_or_behind q parts part there) [
  | inl here ↦
      subst (λ (p : Part). Contains (mark passes (q ∷ parts)) (passes p.label.number, u)) here
      (one_there (passes q.label.number) (update_of q.act) (mark passes parts) u
      (ap (λ (p : Part). update_of p.act) here ∙ is))
  | inr further ↦
      rest_there (passes q.label.number) (update_of q.act) (mark passes parts) (passes part.label.number, u)
      (mark_there passes parts part u further is)
]

-- a label's update is marked with whether the label passes
label_marked : (kind : Kind) (records : Records) (passes : ℕ → Bool) (label : Label) (u : Update)
    → Contains (labels_of records) label → HasUpdate label.op u
    → Contains (mark passes (named_sequence kind records)) (passes label.number, u)
label_marked kind records passes label u there (half, made) =
    let part : Part = part_of label (half, Does u) in
    let of_label : Contains (parts_of label) part = reached (part_of label) (acts_of label.op) (half, Does u) made in
    mark_there passes (named_sequence kind records) part u
    (in_piece parts_of (named_labels kind records) label part (in-named kind records label there) of_label) refl

-- so the update of a passing label is among those that pass, and each of these is the update of such a label
pub label-passes : (kind : Kind) (records : Records) (passes : ℕ → Bool) (label : Label) (u : Update)
    → Contains (labels_of records) label → HasUpdate label.op u → passes label.number ≡ true
    → Contains (updates_passing kind records passes) u
label-passes kind records passes label u there makes is =
    let marked = mark passes (named_sequence kind records) in
    subst (λ us. Contains us u) (kept_parts passes (named_sequence kind records))
    (mark-kept marked u (subst (λ b. Contains marked (b, u)) is (label_marked kind records passes label u there makes)))

pub among-from : (passes : ℕ → Bool) (labels : List Label) (u : Update) → Contains (updates_among passes labels) u
    → (m : Label) × Contains labels m × (passes m.number ≡ true) × HasUpdate m.op u
among-from passes labels u there =
    let (p, found, does) =
    update_from (filter (λ (q : Part). passes q.label.number) (flat_map parts_of labels)) u there in
    let (p_in, passed) = there-kept (λ (q : Part). passes q.label.number) (flat_map parts_of labels) p found in
    let (m, m_there, of_m) = piece_of parts_of labels p p_in in
    (m, m_there, sym (ap (λ (l : Label). passes l.number) (part_is_of m p of_m)) ∙ passed, part_makes m p u of_m does)

pub passing-from : (kind : Kind) (records : Records) (passes : ℕ → Bool) (u : Update)
    → Contains (updates_passing kind records passes) u → (m : Label) × Contains (labels_of records) m
    × (passes m.number ≡ true) × HasUpdate m.op u
passing-from kind records passes u there =
    let (m, found, passed, makes) = among-from passes (named_labels kind records) u there in
    (m, in-labels kind records m found, passed, makes)

-- the updates of all labels: the test that each label passes
abbrev pub each : ℕ → Bool
each n = true

pub each_passes : (labels : List Label) → updates_among each labels ≡ updates_of (flat_map parts_of labels)
each_passes labels =
    ap updates_of (filter_all (λ (p : Part). each p.label.number) (flat_map parts_of labels) (λ p there. refl))

-- for a kind whose states admit all its updates, the passing updates are admitted if all updates are
pub passing-of_kind : (kind : Kind) (records : Records) (passes : ℕ → Bool) → admits_all kind ≡ true
    → updates_admitted kind (named_sequence kind records) ≡ true
    → is_admitted kind (updates_passing kind records passes) ≡ true
passing-of_kind kind records passes other admitted =
    let of_kind : Update → Bool = λ u. is_kind kind (kind_of_update u) in
    let all = admitted-only kind (updates_of (named_sequence kind records)) admitted in
    admitted-of_kind kind (updates_passing kind records passes) other
    ∙ list_all-from_contains of_kind (updates_passing kind records passes) (λ u found.
    let (m, m_there, passed, makes) = passing-from kind records passes u found in
    list_all-contains of_kind (updates_of (named_sequence kind records)) u all
    (subst (λ us. Contains us u) (each_passes (named_labels kind records))
    (label-passes kind records each m u m_there makes refl)))

-- admitted updates of an RGA lead to a list
pub listed-after : (us : List Update) → is_admitted Rga us ≡ true
    → (list : List (ℕ × Bool)) × (state_after Rga us ≡ Some (Listed list))
listed-after us is =
    let found = (some-exactly (state_after Rga us)).0 is in
    let listed = is_listed found.0 (state-of_kind Rga us found.0 found.1) in
    (listed.0, found.1 ∙ ap Some listed.1)

abbrev start : List (ℕ × Bool)
start = (0, false) ∷ []

marked_all : (records : Records) (passes : ℕ → Bool) (all : List (ℕ × Bool))
    → state_after Rga (updates_of (named_sequence Rga records)) ≡ Some (Listed all)
    → state_after Rga (all_marked (mark passes (named_sequence Rga records))) ≡ Some (Listed all)
marked_all records passes all led = ap (state_after Rga) (all_parts passes (named_sequence Rga records)) ∙ led

-- an element is present exactly if the label that inserts it passes
pub there-label : (records : Records) (passes : ℕ → Bool) (label : Label) (anchor x : ℕ)
    → updates_admitted Rga (named_sequence Rga records) ≡ true → Contains (labels_of records) label
    → HasUpdate label.op (After anchor x)
    → is_present_element x (updates_passing Rga records passes) ≡ passes label.number
there-label records passes label anchor x admitted there makes =
    let (all, led) = listed-after (updates_of (named_sequence Rga records)) admitted in
    let marked = mark passes (named_sequence Rga records) in
    sym (ap (is_present_element x) (kept_parts passes (named_sequence Rga records)))
    ∙ marked-is_there marked all (marked_all records passes all led) (passes label.number) anchor x
    (label_marked Rga records passes label (After anchor x) there makes)

-- if each passing update depends on an element that is present, the passing updates lead to the list of all, restricted
-- to their elements
passing_goes : (records : Records) (passes : ℕ → Bool) (all : List (ℕ × Bool))
    → state_after Rga (updates_of (named_sequence Rga records)) ≡ Some (Listed all)
    → ((u : Update) → Contains (updates_passing Rga records passes) u
    → is_present_element (dependency_of u) (updates_passing Rga records passes) ≡ true)
    → (list : List (ℕ × Bool)) × (state_after Rga (updates_passing Rga records passes) ≡ Some (Listed list))
    × (elements_in list ≡ elements_in (kept_entries (λ x. is_present_element x (updates_passing Rga records passes)) all))
passing_goes records passes all led needs =
    let us = updates_passing Rga records passes in
    let marked = mark passes (named_sequence Rga records) in
    let same : kept_marked marked ≡ us = kept_parts passes (named_sequence Rga records) in
    let (list, goes, is) = kept-goes (λ x. is_present_element x us) marked start all start
    (marked_all records passes all led) refl
    (λ kept anchor x there. sym (ap (is_present_element x) same)
    ∙ marked-is_there marked all (marked_all records passes all led) kept anchor x there)
    (λ u there. needs u (subst (λ vs. Contains vs u) same there)) in
    (list, sym (ap (state_after Rga) same) ∙ goes, is)

-- the passing updates are admitted exactly if none of them is pending
pub passing-admitted : (records : Records) (passes : ℕ → Bool)
    → updates_admitted Rga (named_sequence Rga records) ≡ true
    → (is_admitted Rga (updates_passing Rga records passes) ≡ true) ↔ NonePending records passes
passing-admitted records passes admitted =
    let us = updates_passing Rga records passes in (
      (λ is label u there makes passed.
          let (list, led) = listed-after us is in
          (there-list us list (dependency_of u) led).1
          (needed-in start list us u led (label-passes Rga records passes label u there makes passed))),
      (λ none.
          let (all, led) = listed-after (updates_of (named_sequence Rga records)) admitted in
          let (list, goes, is) = passing_goes records passes all led (λ u found.
          let (m, m_there, passed, makes) = passing-from Rga records passes u found in
          none m u m_there makes passed) in
          ap is_some goes),
    )

-- and their list is the list of all, restricted to their elements
pub passing-list : (records : Records) (passes : ℕ → Bool) (list all : List (ℕ × Bool))
    → state_after Rga (updates_of (named_sequence Rga records)) ≡ Some (Listed all)
    → state_after Rga (updates_passing Rga records passes) ≡ Some (Listed list)
    → elements_in list ≡ elements_in (kept_entries (λ x. is_present_element x (updates_passing Rga records passes)) all)
passing-list records passes list all led_all led =
    let us = updates_passing Rga records passes in
    let (qs, goes, is) = passing_goes records passes all led_all
    (λ u found. (there-list us list (dependency_of u) led).1 (needed-in start list us u led found)) in
    let both : Some (Listed list) ≡ Some (Listed qs) = sym led ∙ goes in
    let same : list ≡ qs = cc (both) in
    ap elements_in same ∙ is

-- it shows the elements that the passing updates do not remove
pub passing-shown : (records : Records) (passes : ℕ → Bool) (list all : List (ℕ × Bool))
    → state_after Rga (updates_of (named_sequence Rga records)) ≡ Some (Listed all)
    → state_after Rga (updates_passing Rga records passes) ≡ Some (Listed list)
    → list ≡ shown_by (updates_passing Rga records passes)
    (kept_entries (λ x. is_present_element x (updates_passing Rga records passes)) all)
passing-shown records passes list all led_all led =
    let us = updates_passing Rga records passes in
    list-shown_by us list led ∙ shown_by-same us list (kept_entries (λ x. is_present_element x us) all)
    (passing-list records passes list all led_all led)

-- tests that agree on updates select the same updates
mark_same : (passes others : ℕ → Bool) (parts : List Part) →
    ((p : Part) (u : Update) → Contains parts p → p.act ≡ Does u → passes p.label.number ≡ others p.label.number)
    → mark passes parts ≡ mark others parts
mark_same passes others [] same = refl
mark_same passes others (part ∷ parts) same =
    one_same (passes part.label.number) (others part.label.number) part.act (mark passes parts) (mark others parts)
    (λ u does. same part u (at_head part parts part refl) does)
    (mark_same passes others parts (λ p u there does. same p u (behind_head part parts p there) does))
  where
    one_same : (b c : Bool) (act : Act) (rest others : List (Bool × Update)) → ((u : Update) → act ≡ Does u → b ≡ c)
        → rest ≡ others → mark_one b (update_of act) rest ≡ mark_one c (update_of act) others
    one_same b c (Does u) rest others same is = λ i. marked_as (same u refl i) u ∷ is i
    one_same b c (Asks query) rest others same is = is

pub among-alike : (passes others : ℕ → Bool) (labels : List Label)
    → ((l : Label) (u : Update) → Contains labels l → HasUpdate l.op u → passes l.number ≡ others l.number)
    → updates_among passes labels ≡ updates_among others labels
among-alike passes others labels same =
    let parts = flat_map parts_of labels in
    sym (kept_parts passes parts)
    ∙ ap kept_marked (mark_same passes others parts (λ p u there does.
    let (l, found, of_l) = piece_of parts_of labels p there in
    let is = part_is_of l p of_l in
    ap (λ (m : Label). passes m.number) is ∙ same l u found (part_makes l p u of_l does)
    ∙ sym (ap (λ (m : Label). others m.number) is)))
    ∙ kept_parts others parts

pub passing-alike : (kind : Kind) (records : Records) (passes others : ℕ → Bool)
    → ((l : Label) (u : Update) → Contains (labels_of records) l → HasUpdate l.op u → passes l.number ≡ others l.number)
    → updates_passing kind records passes ≡ updates_passing kind records others
passing-alike kind records passes others same =
    among-alike passes others (named_labels kind records)
    (λ l u found makes. same l u (in-labels kind records l found) makes)

-- and a weaker test selects at least as many
fewer_one : (b c : Bool) (o : Option Update) (rest others : List (Bool × Update)) → (b ≡ true → c ≡ true)
    → length (kept_marked rest) ≤ length (kept_marked others)
    → length (kept_marked (mark_one b o rest)) ≤ length (kept_marked (mark_one c o others))
fewer_one b c None rest others more fewer = fewer
fewer_one true true (Some u) rest others more fewer = omega arith
fewer_one true false (Some u) rest others more fewer = absurd (false≢true (more refl))
fewer_one false true (Some u) rest others more fewer = omega arith
fewer_one false false (Some u) rest others more fewer = fewer

fewer_marked : (passes others : ℕ → Bool) (parts : List Part)
    → ((p : Part) → Contains parts p → passes p.label.number ≡ true → others p.label.number ≡ true)
    → length (kept_marked (mark passes parts)) ≤ length (kept_marked (mark others parts))
fewer_marked passes others [] more = omega arith
fewer_marked passes others (part ∷ parts) more =
    fewer_one (passes part.label.number) (others part.label.number) (update_of part.act) (mark passes parts)
    (mark others parts)
    (λ is. more part (at_head part parts part refl) is)
    (fewer_marked passes others parts (λ p there is. more p (behind_head part parts p there) is))

pub among-fewer : (passes others : ℕ → Bool) (labels : List Label)
    → ((l : Label) → Contains labels l → passes l.number ≡ true → others l.number ≡ true)
    → length (updates_among passes labels) ≤ length (updates_among others labels)
among-fewer passes others labels more =
    let parts = flat_map parts_of labels in
    let fewer = fewer_marked passes others parts (λ p there is.
    let (l, found, of_l) = piece_of parts_of labels p there in
    let same = part_is_of l p of_l in
    ap (λ (m : Label). others m.number) same ∙ more l found (sym (ap (λ (m : Label). passes m.number) same) ∙ is)) in
    subst (λ us. length (updates_among passes labels) ≤ length us) (kept_parts others parts)
    (subst (λ us. length us ≤ length (kept_marked (mark others parts))) (kept_parts passes parts) fewer)

pub passing-fewer : (kind : Kind) (records : Records) (passes others : ℕ → Bool)
    → ((n : ℕ) → passes n ≡ true → others n ≡ true)
    → length (updates_passing kind records passes) ≤ length (updates_passing kind records others)
passing-fewer kind records passes others more =
    among-fewer passes others (named_labels kind records) (λ l found. more l.number)
