-- Lemmas on the updates delivered to replicas, after one more operation or delivery.
use Rattle.std.proofs.Common.{◌≡◌, ℕ, ◌<◌, Bool, true, false, List, [], ◌∷◌, ◌++◌, filter, refl, sym, ap, ◌∙◌, subst, inl, inr, arith}
use Rattle.std.specs.Prelude.{◌==◌, ◌&&◌, ◌||◌, Contains, flat_map, map, is_some, cond}
use Rattle.std.specs.List.{IsDistinct, list_any}
use Rattle.std.specs.Option.{option_map_or}
use Rattle.std.proofs.lemmas.Bool.{true≢false, cond-true, cond-false, and_from, and_left, and_right, or_from, or_left}
use Rattle.std.proofs.lemmas.Bool.{or_right, eq-eqb, ne_eqb, false_from_ne_true}
use Rattle.std.proofs.lemmas.Grind.{flat_map-append}
use Rattle.std.proofs.lemmas.List.{append-nil}
use Rattle.std.proofs.lemmas.List.Elements.{filter-append, All-contains, Contains-append_left, Contains-append_right}
use Rattle.std.proofs.lemmas.List.Sorted.{Contains-permutation, IsPermutation-sym}
use Rattle.ra_labels.specs.declared.kind.Kind.{Kind}
use Rattle.ra_labels.specs.declared.operation.Op.{Op}
use Rattle.ra_labels.specs.declared.operation.Op.TheVariants as op
use Rattle.ra_labels.specs.declared.list_operation.ListOp.TheVariants as list
use Rattle.ra_labels.specs.declared.operation.Update.{Update}
use Rattle.ra_labels.specs.declared.operation.Query.{Query}
use Rattle.ra_labels.specs.declared.label.Label.{Label}
use Rattle.ra_labels.specs.declared.command.Command.TheVariants.{Deliver}
use Rattle.ra_labels.specs.Records.{Records, label_count, labels_of}
use Rattle.ra_labels.specs.Visibility.{is_update, is_update_at, has_delivered}
use Rattle.ra_labels.specs.Rewriting.{Part, Half, QueryHalf, UpdateHalf, Act, Does, Asks, acts_of, part_of, parts_of, update_of, updates_of}
use Rattle.ra_labels.specs.NamedOrder.{named_labels}
use Rattle.ra_labels.specs.Insertion.{updates_among, delivered_updates_of, delivered_updates, HasUpdate}
use Rattle.ra_labels.specs.HistorySoFar.{NextOperation, operate, label_of}
use Rattle.ra_labels.proofs.Members.{head_or_behind, at_head, behind_head, split_at, piece_of, everyone}
use Rattle.ra_labels.proofs.Parts.{part_is_of}
use Rattle.ra_labels.proofs.Counted.{numbers_below_count}
use Rattle.ra_theorems.proofs.SeenLabels.{had_update, is_update_at-below}
use Rattle.ra_theorems.proofs.Extensions.{is_update-acts}
use Rattle.ra_theorems.proofs.Order.{IsPermutation-named_labels}
use Rattle.ra_theorems.proofs.UniqueOrder.{label_found}
use Rattle.ra_theorems.proofs.Meanings.{updates_of-append}
use Rattle.ra_theorems.proofs.Ranks.{named_differ, have_one_number}
use Rattle.ra_theorems.proofs.Insertion.{order-inserted, order_later}

-- an operation with one act that is an update has exactly this update
one_act : (label : Label) (half : Half) (act : Act) (which : Half) (u : Update)
    → Contains {X = Half × Act} ((half, act) ∷ []) (which, Does u)
    → updates_of (map (part_of label) ((half, act) ∷ [])) ≡ u ∷ []
one_act label half act which u there = elim (head_or_behind (half, act) [] (which, Does u) there) [
  | inl same ↦ ap (λ (a : Half × Act). updates_of (map (part_of label) ((half, a.1) ∷ []))) same
  | inr none ↦ absurd (omega (arith, none.1))
]

-- an operation with a query half and an update half has exactly the update of the latter
two_acts : (label : Label) (query : Query) (v : Update) (which : Half) (u : Update)
    → Contains {X = Half × Act} ((QueryHalf, Asks query) ∷ (UpdateHalf, Does v) ∷ []) (which, Does u)
    → updates_of (map (part_of label) ((QueryHalf, Asks query) ∷ (UpdateHalf, Does v) ∷ [])) ≡ u ∷ []
two_acts label query v which u there =
    elim (head_or_behind (QueryHalf, Asks query) ((UpdateHalf, Does v) ∷ []) (which, Does u) there) [
      | inl same ↦ let wrong : Asks query ≡ Does u = ap (λ (a : Half × Act). a.1) same in absurd (cc wrong)
      | inr later ↦ one_act label UpdateHalf (Does v) which u later
    ]

pub makes_one : (label : Label) (operation : Op) (u : Update) → HasUpdate operation u
    → updates_of (map (part_of label) (acts_of operation)) ≡ u ∷ []
makes_one label (op.OrRemove x ids) u (half, there) = two_acts label _ _ half u there
makes_one label (op.List (list.Insert insertion)) u (half, there) = two_acts label _ _ half u there
makes_one label (op.List (list.Remove x)) u (half, there) = two_acts label _ _ half u there
makes_one label (op.List (list.Read elements)) u (half, there) = one_act label _ _ half u there
makes_one label (op.List (list.Part elements)) u (half, there) = one_act label _ _ half u there
makes_one label _ u (half, there) = one_act label _ _ half u there

pub any_at : {A : Type 0} (p : A → Bool) (xs : List A) (y : A) → Contains xs y → p y ≡ true → list_any p xs ≡ true
any_at p [] y there is = absurd (omega (arith, there.1))
any_at p (x ∷ xs) y there is = elim (head_or_behind x xs y there) [
  | inl here ↦ or_left (p x) (list_any p xs) (ap p here ∙ is)
  | inr further ↦ or_right (p x) (list_any p xs) (any_at p xs y further is)
]

pub makes_update : (operation : Op) (u : Update) → HasUpdate operation u → is_update operation ≡ true
makes_update operation u (half, there) = is_update-acts operation
    ∙ any_at (λ (a : Half × Act). is_some (update_of a.1)) (acts_of operation) (half, Does u) there refl

-- tests that agree on the elements filter a list alike
pub filter_same : {A : Type 0} (p q : A → Bool) (xs : List A) → ((y : A) → Contains xs y → p y ≡ q y)
    → filter p xs ≡ filter q xs
filter_same p q [] same = refl
filter_same p q (x ∷ xs) same =
    ap (λ b. cond b (x ∷ filter p xs) (filter p xs)) (same x (at_head x xs x refl))
    ∙ ap (λ ys. cond (q x) (x ∷ ys) ys) (filter_same p q xs (λ y there. same y (behind_head x xs y there)))

pub filter_all : {A : Type 0} (p : A → Bool) (xs : List A) → ((y : A) → Contains xs y → p y ≡ true) → filter p xs ≡ xs
filter_all p [] pass = refl
filter_all p (x ∷ xs) pass =
    cond-true (p x) (x ∷ filter p xs) (filter p xs) (pass x (at_head x xs x refl))
    ∙ ap (λ ys. x ∷ ys) (filter_all p xs (λ y there. pass y (behind_head x xs y there)))

pub filter_none : {A : Type 0} (p : A → Bool) (xs : List A) → ((y : A) → Contains xs y → p y ≡ false) → filter p xs ≡ []
filter_none p [] fail = refl
filter_none p (x ∷ xs) fail =
    cond-false (p x) (x ∷ filter p xs) (filter p xs) (fail x (at_head x xs x refl))
    ∙ filter_none p xs (λ y there. fail y (behind_head x xs y there))

-- the updates of labels that pass a test, over a concatenation
pub among-append : (passes : ℕ → Bool) (xs ys : List Label)
    → updates_among passes (xs ++ ys) ≡ updates_among passes xs ++ updates_among passes ys
among-append passes xs ys =
    let keep = λ (p : Part). passes p.label.number in
    ap (λ ps. updates_of (filter keep ps)) (flat_map-append parts_of xs ys)
    ∙ ap updates_of (filter-append keep (flat_map parts_of xs) (flat_map parts_of ys))
    ∙ updates_of-append (filter keep (flat_map parts_of xs)) (filter keep (flat_map parts_of ys))

pub among-same : (passes others : ℕ → Bool) (xs : List Label)
    → ((l : Label) → Contains xs l → passes l.number ≡ others l.number)
    → updates_among passes xs ≡ updates_among others xs
among-same passes others xs same =
    ap updates_of
    (filter_same (λ (p : Part). passes p.label.number) (λ (p : Part). others p.label.number)
    (flat_map parts_of xs) (λ p there.
    let (l, found, part) = piece_of parts_of xs p there in
    let of_l = part_is_of l p part in
    ap (λ (m : Label). passes m.number) of_l ∙ same l found ∙ sym (ap (λ (m : Label). others m.number) of_l)))

pub among-one : (passes : ℕ → Bool) (label : Label) (u : Update) → HasUpdate label.op u → passes label.number ≡ true
    → updates_among passes (label ∷ []) ≡ u ∷ []
among-one passes label u makes is =
    ap (λ ps. updates_of (filter (λ (p : Part). passes p.label.number) ps)) (append-nil (parts_of label))
    ∙ ap updates_of
    (filter_all (λ (p : Part). passes p.label.number) (parts_of label)
    (λ p there. ap (λ (m : Label). passes m.number) (part_is_of label p there) ∙ is))
    ∙ makes_one label label.op u makes

pub among-none : (passes : ℕ → Bool) (labels : List Label) → ((l : Label) → Contains labels l → passes l.number ≡ false)
    → updates_among passes labels ≡ []
among-none passes labels fail =
    ap updates_of (filter_none (λ (p : Part). passes p.label.number) (flat_map parts_of labels) (λ p there.
    let (l, found, part) = piece_of parts_of labels p there in
    ap (λ (m : Label). passes m.number) (part_is_of l p part) ∙ fail l found))

pub among-not : (passes : ℕ → Bool) (label : Label) → passes label.number ≡ false
    → updates_among passes (label ∷ []) ≡ []
among-not passes label fails = among-none passes (label ∷ []) (λ l found. elim (head_or_behind label [] l found) [
  | inl here ↦ ap (λ (m : Label). passes m.number) (sym here) ∙ fails
  | inr none ↦ absurd (omega (arith, none.1))
])

-- in a list of labels with distinct numbers, the labels before and behind one differ from it in number
pub differ_round : (before behind : List Label) (x : Label) → IsDistinct have_one_number (before ++ x ∷ behind)
    → ((y : Label) → Contains before y → ¬ (y.number ≡ x.number))
    × ((y : Label) → Contains behind y → ¬ (y.number ≡ x.number))
unfolding IsDistinct
differ_round [] behind x differ = (
  (λ y there. absurd (omega (arith, there.1))),
  (λ y there same. true≢false (sym (eq-eqb x.number y.number (sym same))
      ∙ everyone (λ l. have_one_number x l ≡ false) behind y differ.0 there)),
)
differ_round (z ∷ before) behind x differ =
    let rest = differ_round before behind x differ.1 in (
      (λ y there. elim (head_or_behind z before y there) [
        | inl here ↦
            λ same. true≢false (sym (eq-eqb z.number x.number (ap (λ (l : Label). l.number) here ∙ same))
            ∙ everyone (λ l. have_one_number z l ≡ false) (before ++ x ∷ behind) x differ.0
            (Contains-append_right before (x ∷ behind) x (at_head x behind x refl)))
        | inr further ↦ rest.0 y further
      ]),
      rest.1,
    )

module _ (kind : Kind) (records : Records) (next : NextOperation) where
  abbrev now : Records
  now = operate next ∷ records

  abbrev label : Label
  label = label_of records next

  -- of the earlier labels, the same ones are delivered to a replica as before
  pub had_before : (replica : ℕ) (l : Label) → Contains (labels_of records) l
      → has_delivered now replica l.number ≡ has_delivered records replica l.number
  had_before replica l there =
      let below = All-contains (λ m. m.number < label_count records) (labels_of records) l
      (numbers_below_count records) there in
      ap (λ b. b || has_delivered records replica l.number)
      (and_left (next.by == replica && l.number == label_count records) (is_update next.op)
      (and_right (next.by == replica) (l.number == label_count records)
      (ne_eqb l.number (label_count records) (λ is. absurd (omega (arith, below))))))

  named_there : (l : Label) → Contains (named_labels kind records) l → Contains (labels_of records) l
  named_there l there = Contains-permutation (named_labels kind records) (labels_of records) l
      (IsPermutation-sym (labels_of records) (named_labels kind records) (IsPermutation-named_labels kind records))
      there

  had_not_yet : (replica : ℕ) → has_delivered records replica (label_count records) ≡ false
  had_not_yet replica = false_from_ne_true (has_delivered records replica (label_count records))
      (λ is. let below = is_update_at-below records (label_count records)
      (had_update records replica (label_count records) is) in absurd (omega (arith, below)))

  same_pieces : (replica : ℕ) (before behind : List Label) → named_labels kind records ≡ before ++ behind
      → named_labels kind now ≡ before ++ label ∷ behind
      → (delivered_updates kind records replica ≡ delivered_updates_of records replica before
      ++ delivered_updates_of records replica behind)
      × (delivered_updates kind now replica ≡ delivered_updates_of records replica before
      ++ (delivered_updates_of now replica (label ∷ []) ++ delivered_updates_of records replica behind))
  same_pieces replica before behind was is =
      let there : (l : Label) → Contains (before ++ behind) l → Contains (labels_of records) l =
      λ l found. named_there l (subst (λ ls. Contains ls l) (sym was) found) in
      let first = among-same (has_delivered now replica) (has_delivered records replica) before
      (λ l found. had_before replica l (there l (Contains-append_left before behind l found))) in
      let later = among-same (has_delivered now replica) (has_delivered records replica) behind
      (λ l found. had_before replica l (there l (Contains-append_right before behind l found))) in (
        ap (delivered_updates_of records replica) was ∙ among-append (has_delivered records replica) before behind,
        ap (delivered_updates_of now replica) is ∙ among-append (has_delivered now replica) before (label ∷ behind)
            ∙ (λ i. first i ++ (among-append (has_delivered now replica) (label ∷ []) behind
            ∙ ap (λ us. delivered_updates_of now replica (label ∷ []) ++ us) later) i),
      )

  pub operation-own : (u : Update) → HasUpdate next.op u → (before behind : List Label)
      × (named_labels kind records ≡ before ++ behind) × (named_labels kind now ≡ before ++ label ∷ behind)
      × (delivered_updates kind records next.by ≡ delivered_updates_of records next.by before ++ delivered_updates_of records next.by behind)
      × (delivered_updates kind now next.by ≡ delivered_updates_of records next.by before ++ u ∷ delivered_updates_of records next.by behind)
  operation-own u makes =
      let (before, behind, was, is) = order-inserted kind records next in
      let pieces = same_pieces next.by before behind was is in
      let own : has_delivered now next.by (label_count records) ≡ true =
      or_left (next.by == next.by && label_count records == label_count records && is_update next.op)
      (has_delivered records next.by (label_count records))
      (and_from (next.by == next.by && label_count records == label_count records) (is_update next.op)
      (and_from (next.by == next.by) (label_count records == label_count records) (eq-eqb next.by next.by refl)
      (eq-eqb (label_count records) (label_count records) refl)) (makes_update next.op u makes)) in (
        before,
        behind,
        was,
        is,
        pieces.0,
        pieces.1
            ∙ ap (λ us. delivered_updates_of records next.by before ++ (us ++ delivered_updates_of records next.by behind))
            (among-one (has_delivered now next.by) label u makes own),
      )

  without_it : (replica : ℕ) → has_delivered now replica (label_count records) ≡ false
      → delivered_updates kind now replica ≡ delivered_updates kind records replica
  without_it replica fails =
      let (before, behind, was, is) = order-inserted kind records next in
      let pieces = same_pieces replica before behind was is in
      pieces.1 ∙ ap (λ us. delivered_updates_of records replica before ++ (us ++ delivered_updates_of records replica behind))
      (among-not (has_delivered now replica) label fails) ∙ sym pieces.0

  pub operation-query : is_update next.op ≡ false → delivered_updates kind now next.by ≡ delivered_updates kind records next.by
  operation-query none =
      without_it next.by
      (or_from (next.by == next.by && label_count records == label_count records && is_update next.op)
      (has_delivered records next.by (label_count records))
      (and_right (next.by == next.by && label_count records == label_count records) (is_update next.op) none) (had_not_yet next.by))

  pub operation-others : (replica : ℕ) → ¬ (next.by ≡ replica)
      → delivered_updates kind now replica ≡ delivered_updates kind records replica
  operation-others replica other =
      without_it replica
      (or_from (next.by == replica && label_count records == label_count records && is_update next.op)
      (has_delivered records replica (label_count records))
      (and_left (next.by == replica && label_count records == label_count records) (is_update next.op)
      (and_left (next.by == replica) (label_count records == label_count records) (ne_eqb next.by replica other)))
      (had_not_yet replica))

-- a delivery leaves the named order unchanged
pub delivery-order : (kind : Kind) (records : Records) (to n : ℕ)
    → named_labels kind (Deliver to n ∷ records) ≡ named_labels kind records
delivery-order kind records to n = order_later kind (Deliver to n) records

pub delivery-others : (kind : Kind) (records : Records) (to n replica : ℕ) → ¬ (to ≡ replica)
    → delivered_updates kind (Deliver to n ∷ records) replica ≡ delivered_updates kind records replica
delivery-others kind records to n replica other =
    ap (delivered_updates_of (Deliver to n ∷ records) replica) (delivery-order kind records to n)
    ∙ among-same (has_delivered (Deliver to n ∷ records) replica) (has_delivered records replica) (named_labels kind records) (λ l there.
    ap (λ b. b || has_delivered records replica l.number)
    (and_left (to == replica && l.number == n) (is_update_at records l.number)
    (and_left (to == replica) (l.number == n) (ne_eqb to replica other))))

pub delivery-own : (kind : Kind) (records : Records) (to : ℕ) (label : Label) (u : Update)
    → Contains (labels_of records) label → HasUpdate label.op u → has_delivered records to label.number ≡ false
    → (before behind : List Label) × (named_labels kind records ≡ before ++ label ∷ behind)
    × (delivered_updates kind records to ≡ delivered_updates_of records to before ++ delivered_updates_of records to behind)
    × (delivered_updates kind (Deliver to label.number ∷ records) to ≡ delivered_updates_of records to before
    ++ u ∷ delivered_updates_of records to behind)
delivery-own kind records to label u there makes new =
    let now = Deliver to label.number ∷ records in
    let (before, behind, is) = split_at (named_labels kind records) label
    (Contains-permutation (labels_of records) (named_labels kind records) label
    (IsPermutation-named_labels kind records) there) in
    let round = differ_round before behind label (subst (IsDistinct have_one_number) is (named_differ kind records)) in
    let as_before : (l : Label) → ¬ (l.number ≡ label.number)
    → has_delivered now to l.number ≡ has_delivered records to l.number = λ l other.
    ap (λ b. b || has_delivered records to l.number)
    (and_left (to == to && l.number == label.number) (is_update_at records l.number)
    (and_right (to == to) (l.number == label.number) (ne_eqb l.number label.number other))) in
    let update : is_update_at records label.number ≡ true =
    ap (λ l. option_map_or (λ (m : Label). is_update m.op) l false) (label_found records label there)
    ∙ makes_update label.op u makes in
    let own : has_delivered now to label.number ≡ true =
    or_left (to == to && label.number == label.number && is_update_at records label.number)
    (has_delivered records to label.number)
    (and_from (to == to && label.number == label.number) (is_update_at records label.number)
    (and_from (to == to) (label.number == label.number) (eq-eqb to to refl) (eq-eqb label.number label.number refl))
    update) in (
      before,
      behind,
      is,
      ap (delivered_updates_of records to) is ∙ among-append (has_delivered records to) before (label ∷ behind)
          ∙ ap (λ us. delivered_updates_of records to before ++ us)
          (among-append (has_delivered records to) (label ∷ []) behind
          ∙ ap (λ us. us ++ delivered_updates_of records to behind) (among-not (has_delivered records to) label new)),
      ap (delivered_updates_of now to) (delivery-order kind records to label.number ∙ is)
          ∙ among-append (has_delivered now to) before (label ∷ behind)
          ∙ (λ i. among-same (has_delivered now to) (has_delivered records to) before (λ l found. as_before l (round.0 l found)) i
          ++ (among-append (has_delivered now to) (label ∷ []) behind
          ∙ (λ j. among-one (has_delivered now to) label u makes own j ++ among-same (has_delivered now to) (has_delivered records to) behind
          (λ l found. as_before l (round.1 l found)) j)) i),
    )
