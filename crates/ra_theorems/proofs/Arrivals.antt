-- Lemmas on the position of labels in the named order, and on a new label in the list of all labels of an RGA.
use Rattle.std.proofs.Common.{◌≡◌, ℕ, Bool, true, false, List, [], ◌∷◌, ◌++◌, Some, refl, sym, ap, ◌∙◌, subst, inl, inr, arith, Ordering, append_assoc}
use Rattle.std.specs.Prelude.{◌↔◌, ◌⊎◌, not, Contains, IsSorted, flat_map}
use Rattle.std.specs.List.{IsDistinct, list_all}
use Rattle.std.specs.Ordering.{is_lt, nat_cmp, ordering_reverse, ordering_then}
use Rattle.std.specs.Cmp.{Equal-is}
use Rattle.std.specs.declared.cmp.Ordering.TheVariants.{Less, Equal, Greater}
use Rattle.std.proofs.lemmas.Bool.{true≢false, cases_Bool, not_from_false}
use Rattle.std.proofs.lemmas.List.Elements.{Contains-append_left, Contains-append_right, Contains-append_cases}
use Rattle.ra_labels.specs.declared.kind.Kind.{Kind}
use Rattle.ra_labels.specs.declared.kind.Kind.TheVariants.{Counter, Register, LwwSet, OrSet, Rga}
use Rattle.ra_labels.specs.declared.kind.Kind.TheVariants as kinds
use Rattle.ra_labels.specs.declared.operation.Update.{Update}
use Rattle.ra_labels.specs.declared.operation.Update.TheVariants.{After, RgaRemove}
use Rattle.ra_labels.specs.declared.label.Stamp.{Stamp}
use Rattle.ra_labels.specs.declared.label.Label.{Label}
use Rattle.ra_labels.specs.Records.{Records, labels_of}
use Rattle.ra_labels.specs.Visibility.{is_update}
use Rattle.ra_labels.specs.Rewriting.{parts_of, updates_of}
use Rattle.ra_labels.specs.Lists.{hide}
use Rattle.ra_labels.specs.Specification.{Listed, state_after}
use Rattle.ra_labels.specs.NamedOrder.{stamp_cmp, timestamp_of, rank_of, label_cmp, named_labels, named_sequence}
use Rattle.ra_labels.specs.Insertion.{updates_among, HasUpdate}
use Rattle.ra_labels.specs.Late.{insert_late_after}
use Rattle.ra_labels.specs.Pending.{is_present_element, OneInserts}
use Rattle.ra_labels.specs.HistorySoFar.{NextOperation, operate, label_of}
use Rattle.ra_labels.proofs.InLists.{list_all-from_contains}
use Rattle.ra_labels.proofs.Members.{head_or_behind, at_head, behind_head, split_at, reached}
use Rattle.ra_labels.proofs.StampOrder.{stamp_same, is_less}
use Rattle.ra_theorems.proofs.Order.{label_cmp-total, IsSorted-named_labels}
use Rattle.ra_theorems.proofs.Timestamps.{timestamp-own}
use Rattle.ra_theorems.proofs.UniqueOrder.{head_least, neither_below, same_label}
use Rattle.ra_theorems.proofs.Ranks.{named_differ, have_one_number}
use Rattle.ra_theorems.proofs.Insertion.{order-inserted}
use Rattle.ra_theorems.proofs.HadUpdates.{makes_update, differ_round, among-append, among-one}
use Rattle.ra_theorems.proofs.Rgas.{removed_is, list-exactly}
use Rattle.ra_theorems.proofs.LateUpdates.{one_step, late-insertion, late-removal}
use Rattle.ra_theorems.proofs.Deliveries.{sorted_from}
use Rattle.ra_theorems.proofs.KeptUpdates.{there-exactly}
use Rattle.ra_theorems.proofs.PassingUpdates.{in-named, in-labels, each, each_passes, among-from}
use Rattle.ra_theorems.proofs.RgaSteps.{split-led, inserted_fits}
use Rattle.ra_theorems.proofs.LastUpdates.{among-does}

below_behind : (kind : Kind) (records : Records) (first later : List Label) (label other : Label)
    → named_labels kind records ≡ first ++ label ∷ later → Contains later other
    → label_cmp kind records label other ≡ Less
below_behind kind records first later label other is there =
    let cmp = label_cmp kind records in
    let total = label_cmp-total kind records in
    let sorted = sorted_from kind records first later label
    (subst (IsSorted cmp) is (IsSorted-named_labels kind records)) in
    let least = head_least cmp total label later sorted other (behind_head label later other there) in
    let in_records : (l : Label) → Contains (first ++ label ∷ later) l
    → Contains (labels_of records) l =
    λ l found. in-labels kind records l (subst (λ ls. Contains ls l) (sym is) found) in
    let round = differ_round first later label (subst (IsDistinct have_one_number) is (named_differ kind records)) in
    elim (cases_Bool (is_lt (cmp label other))) [
      | inl below ↦ is_less (cmp label other) below
      | inr not_below ↦
          let tie = (Equal-is (cmp label other)).0
          (neither_below (cmp label other) (cmp other label) (total.antisymm label other) not_below least) in
          let same =
          same_label kind records label other
          (in_records label (Contains-append_right first (label ∷ later) label (at_head label later label refl)))
          (in_records other
          (Contains-append_right first (label ∷ later) other (behind_head label later other there))) tie in
          absurd (round.1 other there (sym (ap (λ (l : Label). l.number) same)))
    ]

below_before : (kind : Kind) (records : Records) (first later : List Label) (label other : Label)
    → named_labels kind records ≡ first ++ label ∷ later → Contains first other
    → label_cmp kind records other label ≡ Less
below_before kind records first later label other is there =
    let (before, between, split) = split_at first other there in
    let further : named_labels kind records ≡ before ++ other ∷ (between ++ label ∷ later) =
    is ∙ ap (λ ls. ls ++ label ∷ later) split ∙ append_assoc before (other ∷ between) (label ∷ later) in
    below_behind kind records before (between ++ label ∷ later) other label further
    (Contains-append_right between (label ∷ later) label (at_head label later label refl))

not_both : (kind : Kind) (records : Records) (l m : Label) → label_cmp kind records l m ≡ Less
    → label_cmp kind records m l ≡ Less → ⊥
not_both kind records l m less also =
    let total = label_cmp-total kind records in
    let wrong : Less ≡ ordering_reverse Less = sym less ∙ total.antisymm l m ∙ ap ordering_reverse also in
    cc (wrong)

stands_where : (kind : Kind) (records : Records) (first later : List Label) (label other : Label)
    → named_labels kind records ≡ first ++ label ∷ later → Contains (labels_of records) other
    → Contains first other ⊎ ((label ≡ other) ⊎ Contains later other)
stands_where kind records first later label other is there =
    elim (Contains-append_cases first (label ∷ later) other
    (subst (λ ls. Contains ls other) is (in-named kind records other there))) [
      | inl early ↦ inl early
      | inr rest ↦ inr (head_or_behind label later other rest)
    ]

pub stands-before : (kind : Kind) (records : Records) (first later : List Label) (label other : Label)
    → named_labels kind records ≡ first ++ label ∷ later → Contains (labels_of records) other
    → Contains first other ↔ (label_cmp kind records other label ≡ Less)
stands-before kind records first later label other is there = (
  (λ early. below_before kind records first later label other is early),
  (λ less. elim (stands_where kind records first later label other is there) [
    | inl early ↦ early
    | inr (inl same) ↦
        let itself : label_cmp kind records other other ≡ Less = ap (label_cmp kind records other) (sym same) ∙ less in
        absurd (not_both kind records other other itself itself)
    | inr (inr late) ↦
        absurd (not_both kind records other label less (below_behind kind records first later label other is late))
  ]),
)

pub stands-behind : (kind : Kind) (records : Records) (first later : List Label) (label other : Label)
    → named_labels kind records ≡ first ++ label ∷ later → Contains (labels_of records) other
    → Contains later other ↔ (label_cmp kind records label other ≡ Less)
stands-behind kind records first later label other is there = (
  (λ late. below_behind kind records first later label other is late),
  (λ less. elim (stands_where kind records first later label other is there) [
    | inl early ↦
        absurd (not_both kind records label other less (below_before kind records first later label other is early))
    | inr (inl same) ↦
        let itself : label_cmp kind records label label ≡ Less = ap (label_cmp kind records label) same ∙ less in
        absurd (not_both kind records label label itself itself)
    | inr (inr late) ↦ late
  ]),
)

-- a label has only one position in the list
split_once : (xs ys zs ws : List Label) (l : Label) → ((y : Label) → Contains xs y → ¬ (y.number ≡ l.number))
    → ((y : Label) → Contains zs y → ¬ (y.number ≡ l.number)) → xs ++ l ∷ ys ≡ zs ++ l ∷ ws → (xs ≡ zs) × (ys ≡ ws)
split_once [] ys [] ws l others also is = (refl, cc (is))
split_once [] ys (z ∷ zs) ws l others also is =
    let head : l ≡ z = cc (is) in
    absurd (also z (at_head z zs z refl) (sym (ap (λ (k : Label). k.number) head)))
split_once (x ∷ xs) ys [] ws l others also is =
    let head : x ≡ l = cc (is) in
    absurd (others x (at_head x xs x refl) (ap (λ (k : Label). k.number) head))
split_once (x ∷ xs) ys (z ∷ zs) ws l others also is =
    let head : x ≡ z = cc (is) in
    let tail : xs ++ l ∷ ys ≡ zs ++ l ∷ ws = cc (is) in
    let rest = split_once xs ys zs ws l (λ y found. others y (behind_head x xs y found))
    (λ y found. also y (behind_head z zs y found)) tail in
    ((λ i. head i ∷ rest.0 i), rest.1)

pub one-place : (kind : Kind) (records : Records) (before behind first later : List Label) (label : Label)
    → named_labels kind records ≡ before ++ label ∷ behind → named_labels kind records ≡ first ++ label ∷ later
    → (before ≡ first) × (behind ≡ later)
one-place kind records before behind first later label is also =
    let round = differ_round before behind label (subst (IsDistinct have_one_number) is (named_differ kind records)) in
    let round_too =
    differ_round first later label (subst (IsDistinct have_one_number) also (named_differ kind records)) in
    split_once before behind first later label round.0 round_too.0 (sym is ∙ also)

-- an element that is present after the updates of labels is the root, or one of these labels inserts it
pub there-among : (passes : ℕ → Bool) (labels : List Label) (x : ℕ) → is_present_element x (updates_among passes labels) ≡ true
    → (x ≡ 0) ⊎ OneInserts x labels
there-among passes labels x is = elim ((there-exactly x (updates_among passes labels)).0 is) [
  | inl root ↦ inl root
  | inr (anchor, found) ↦
      let (m, m_there, it, makes) = among-from passes labels (After anchor x) found in
      inr (m, anchor, m_there, makes)
]

pub there-all : (labels : List Label) (x : ℕ) → (is_present_element x (updates_of (flat_map parts_of labels)) ≡ true)
    ↔ ((x ≡ 0) ⊎ OneInserts x labels)
there-all labels x = (
  (λ is. there-among each labels x (ap (is_present_element x) (each_passes labels) ∙ is)),
  (λ known. (there-exactly x (updates_of (flat_map parts_of labels))).1 (elim known [
    | inl root ↦ inl root
    | inr (m, anchor, m_there, makes) ↦
        inr (
          anchor,
          subst (λ us. Contains us (After anchor x)) (each_passes labels)
              (among-does each labels m (After anchor x) m_there makes refl),
        )
  ])),
)

-- a new operation inserts its update among the updates of all labels
pub all-with : (kind : Kind) (records : Records) (next : NextOperation) (u : Update)
    → HasUpdate next.op u → let now = operate next ∷ records in
    let label = label_of records next in
    (before behind : List Label) × (named_labels kind records ≡ before ++ behind)
    × (named_labels kind now ≡ before ++ label ∷ behind)
    × (updates_of (named_sequence kind records) ≡ updates_of (flat_map parts_of before)
    ++ updates_of (flat_map parts_of behind))
    × (updates_of (named_sequence kind now) ≡ updates_of (flat_map parts_of before)
    ++ u ∷ updates_of (flat_map parts_of behind))
all-with kind records next u makes =
    let label = label_of records next in
    let (before, behind, was, is) = order-inserted kind records next in
    let first = each_passes before in
    let later = each_passes behind in (
      before,
      behind,
      was,
      is,
      sym (each_passes (named_labels kind records)) ∙ ap (updates_among each) was ∙ among-append each before behind
          ∙ (λ i. first i ++ later i),
      sym (each_passes (named_labels kind (operate next ∷ records))) ∙ ap (updates_among each) is
          ∙ among-append each before (label ∷ behind)
          ∙ (λ i. first i
          ++ (among-append each (label ∷ []) behind ∙ (λ j. among-one each label u makes refl j ++ later j)) i),
    )

-- a new element goes past the elements of those labels that stand behind its own label
pub insertion-all : (records : Records) (next : NextOperation) (anchor x : ℕ)
    (all all_now : List (ℕ × Bool)) (below : ℕ → ℕ → Bool) → HasUpdate next.op (After anchor x)
    → state_after Rga (updates_of (named_sequence Rga records)) ≡ Some (Listed all)
    → state_after Rga (updates_of (named_sequence Rga (operate next ∷ records))) ≡ Some (Listed all_now)
    → below x 0 ≡ false
    → ((other : Label) (behind y : ℕ) → Contains (labels_of records) other → HasUpdate other.op (After behind y)
    → below x y ≡ is_lt
    (label_cmp Rga (operate next ∷ records) (label_of records next) other))
    → all_now ≡ insert_late_after below anchor x all
insertion-all records next anchor x all all_now below makes led led_now root stamps =
    let now : Records = operate next ∷ records in
    let label = label_of records next in
    let (before, behind, was_named, is_named, was, is) =
    all-with Rga records next (After anchor x) makes in
    let first = updates_of (flat_map parts_of before) in
    let later = updates_of (flat_map parts_of behind) in
    let led_was = ap (state_after Rga) (sym was) ∙ led in
    let (older, led_first, anchor_in, out) =
    inserted_fits first later anchor x all all_now led_was (ap (state_after Rga) (sym is) ∙ led_now) in
    let in_records : (l : Label) → Contains (before ++ behind) l → Contains (labels_of records) l =
    λ l found. in-labels Rga records l (subst (λ ls. Contains ls l) (sym was_named) found) in
    let not_early : (l : Label) → Contains before l → is_lt (label_cmp Rga now label l) ≡ false = λ l found.
    let less = below_before Rga now before behind label l is_named found in
    let total = label_cmp-total Rga now in
    ap is_lt (total.antisymm label l ∙ ap ordering_reverse less) in
    let none : list_all (λ entry. not (below x entry.0)) older ≡ true =
    list_all-from_contains (λ (entry : ℕ × Bool). not (below x entry.0)) older
    (λ entry found. not_from_false (below x entry.0)
    (elim ((list-exactly first older entry.0 led_first).0 (reached (λ (e : ℕ × Bool). e.0) older entry found)) [
      | inl zero_is ↦ ap (below x) zero_is ∙ root
      | inr (a, put) ↦
          let (m, m_there, it, m_makes) = among-from each before (After a entry.0)
          (subst (λ us. Contains us (After a entry.0)) (sym (each_passes before)) put) in
          stamps m a entry.0 (in_records m (Contains-append_left before behind m m_there)) m_makes ∙ not_early m m_there
    ])) in
    let lower : (a y : ℕ) → Contains later (After a y) → below x y ≡ true = λ a y found.
    let (m, m_there, it, m_makes) =
    among-from each behind (After a y) (subst (λ us. Contains us (After a y)) (sym (each_passes behind)) found) in
    stamps m a y (in_records m (Contains-append_right before behind m m_there)) m_makes
    ∙ ap is_lt (below_behind Rga now before behind label m is_named m_there) in
    let both : Some (Listed all_now) ≡ Some (Listed (insert_late_after below anchor x all)) =
    sym led_now ∙ ap (state_after Rga) is
    ∙ late-insertion below first later anchor x older all led_first led_was anchor_in out none lower in
    cc (both)

-- a removal leaves the position of each element unchanged
pub removal-all : (records : Records) (next : NextOperation) (x : ℕ) (all all_now : List (ℕ × Bool))
    → HasUpdate next.op (RgaRemove x)
    → state_after Rga (updates_of (named_sequence Rga records)) ≡ Some (Listed all)
    → state_after Rga (updates_of (named_sequence Rga (operate next ∷ records))) ≡ Some (Listed all_now)
    → all_now ≡ hide x all
removal-all records next x all all_now makes led led_now =
    let (before, behind, was_named, is_named, was, is) = all-with Rga records next (RgaRemove x) makes in
    let first = updates_of (flat_map parts_of before) in
    let later = updates_of (flat_map parts_of behind) in
    let (older, led_first, goes) =
    split-led first (RgaRemove x ∷ later) all_now (ap (state_after Rga) (sym is) ∙ led_now) in
    let (mid, step, rest) = one_step older (RgaRemove x) later all_now goes in
    let (x_in, other, same) = removed_is older mid x step in
    let both : Some (Listed all_now) ≡ Some (Listed (hide x all)) =
    sym led_now ∙ ap (state_after Rga) is
    ∙ late-removal first later x older all led_first (ap (state_after Rga) (sym was) ∙ led) x_in other in
    cc (both)

-- an operation that is no update leaves the updates of all labels unchanged
no_update : (us : List Update) → ((u : Update) → ¬ Contains us u) → us ≡ []
no_update [] none = refl
no_update (u ∷ us) none = absurd (none u (at_head u us u refl))

pub all-without : (kind : Kind) (records : Records) (next : NextOperation)
    → is_update next.op ≡ false → updates_of (named_sequence kind (operate next ∷ records))
    ≡ updates_of (named_sequence kind records)
all-without kind records next query =
    let label = label_of records next in
    let (before, behind, was, is) = order-inserted kind records next in
    let none : updates_among each (label ∷ []) ≡ [] = no_update (updates_among each (label ∷ [])) (λ u found.
    let (m, m_there, it, makes) = among-from each (label ∷ []) u found in
    elim (head_or_behind label [] m m_there) [
      | inl here ↦
          true≢false (sym (makes_update next.op u (subst (λ (l : Label). HasUpdate l.op u) (sym here) makes)) ∙ query)
      | inr nothing ↦ omega (arith, nothing.1)
    ]) in
    sym (each_passes (named_labels kind (operate next ∷ records))) ∙ ap (updates_among each) is
    ∙ among-append each before (label ∷ behind)
    ∙ ap (λ us. updates_among each before ++ us)
    (among-append each (label ∷ []) behind ∙ ap (λ us. us ++ updates_among each behind) none)
    ∙ sym (ap (updates_among each) was ∙ among-append each before behind)
    ∙ each_passes (named_labels kind records)

-- under timestamp order, labels with different stamps of their own are sorted by these stamps
by_first : (o p : Ordering) → ¬ (o ≡ Equal) → ordering_then o p ≡ o
by_first Less p other = refl
by_first Equal p other = absurd (other refl)
by_first Greater p other = refl

stamps_decide : (kind : Kind) (records : Records) (l m : Label) (s t : Stamp)
    → rank_of kind records l ≡ timestamp_of records l → rank_of kind records m ≡ timestamp_of records m
    → l.stamp ≡ Some s → m.stamp ≡ Some t → ¬ (s ≡ t)
    → label_cmp kind records l m ≡ stamp_cmp s t
stamps_decide kind records l m s t l_rank m_rank l_has m_has other =
    let l_is : rank_of kind records l ≡ s = l_rank ∙ timestamp-own records l s l_has in
    let m_is : rank_of kind records m ≡ t = m_rank ∙ timestamp-own records m t m_has in
    (λ i. ordering_then (stamp_cmp (l_is i) (m_is i)) (nat_cmp l.number m.number))
    ∙ by_first (stamp_cmp s t) (nat_cmp l.number m.number) (λ tie. other ((stamp_same s t).0 tie))

pub own-stamps : (kind : Kind) (records : Records) (l m : Label) (s t : Stamp)
    → (kind ≡ Register) ⊎ (kind ≡ LwwSet) ⊎ (kind ≡ Rga) → l.stamp ≡ Some s → m.stamp ≡ Some t → ¬ (s ≡ t)
    → label_cmp kind records l m ≡ stamp_cmp s t
own-stamps Register records l m s t timed l_has m_has other =
    stamps_decide Register records l m s t refl refl l_has m_has other
own-stamps LwwSet records l m s t timed l_has m_has other =
    stamps_decide LwwSet records l m s t refl refl l_has m_has other
own-stamps Rga records l m s t timed l_has m_has other =
    stamps_decide Rga records l m s t refl refl l_has m_has other
own-stamps _ records l m s t timed l_has m_has other = elim timed [
  | inl is ↦ absurd (cc is)
  | inr others ↦ elim others [ inl is ↦ absurd (cc is) | inr is ↦ absurd (cc is) ]
]
