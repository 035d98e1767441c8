-- Lemmas on a read that comes next: its label, and the orders that meet the conditions but for those of its answer.
use Rattle.std.proofs.Common.{◌≡◌, ℕ, zero, suc, ◌+◌, ◌<◌, ◌≤◌, Bool, false, true, List, [], ◌∷◌, ◌++◌, Option, Some, None, length, refl, sym, ap, ◌∙◌, subst, inl, inr, arith}
use Rattle.std.specs.Prelude.{slice_get, option_map, Contains}
use Rattle.std.specs.Option.{option_map_or}
use Rattle.std.proofs.lemmas.Bool.{cases_eq, cases_lt}
use Rattle.std.proofs.lemmas.Option.{none-some, same_Some}
use Rattle.std.proofs.lemmas.List.Elements.{Contains-append_left, Contains-append_right, Contains-append_cases}
use Rattle.ra_labels.specs.declared.kind.Kind.{Kind}
use Rattle.ra_labels.specs.declared.operation.Op.{Op}
use Rattle.ra_labels.specs.declared.operation.Op.TheVariants as op
use Rattle.ra_labels.specs.declared.label.Label.{Label}
use Rattle.ra_labels.specs.Answer.{kind_of}
use Rattle.ra_labels.specs.HistorySoFar.{History, history_with, operate, next_operation, label_of}
use Rattle.ra_labels.specs.Places.{issuer_of}
use Rattle.ra_labels.specs.Records.{Records, label_count, labels_of, label_at}
use Rattle.ra_labels.specs.Visibility.{is_update}
use Rattle.ra_labels.proofs.Members.{head_or_behind, at_head, none_there}
use Rattle.ra_theorems.proofs.LabelNumbers.{label_at-append, label_at-operation, label_there, no_label_there}
use Rattle.ra_theorems.proofs.TheoremIndex.{linearization_by_visibility, sees_earlier_updates-earlier}
use Rattle.ra_precedence.specs.Conditions.{Condition, Meets, MeetsAll, HasEachBelow}
use Rattle.ra_precedence.specs.Lasts.{IsOrderFor}
use Rattle.ra_precedence.specs.Placing.{times}
use Rattle.ra_precedence.proofs.Steps.{before_left, before_seam}
use Rattle.ra_precedence.proofs.Times.{one_if-is, one_if-not, times_head, times_append, times_none, each_once, once_each}
use Rattle.ra_some_order.specs.LabelOrders.{IsOrderOfLabels}
use Rattle.ra_some_order.specs.SomeOrder.{SomeOrderExplains, EachLabelIsOfKind, is_decided_by_conditions}
use Rattle.ra_some_order.proofs.TheoremIndex.{linearization_orders_labels}
use Rattle.ra_visibility.specs.Newest.{AreNewest}
use Rattle.ra_visibility.specs.Tracked.{Tracked, IsVisibilityOf}
use Rattle.ra_any_order.specs.Previous.{IsLastBelow}
use Rattle.ra_any_order.specs.NextRead.{with_read, IsReadNext}
use Rattle.ra_any_order.specs.Reading.{passes_at, with_option, order_condition}
use Rattle.ra_any_order.specs.Requirements.{AreConditionsBelow, AreReadConditions}
use Rattle.ra_any_order.proofs.Conclusions.{step, order_explains}
use Rattle.ra_any_order.proofs.LabelConditions.{required_met, seen_followed, previous_followed}
use Rattle.ra_any_order.proofs.LaterReads.{conditions_still}
use Rattle.ra_any_order.proofs.NarrowSides.{AreListed}
use Rattle.ra_any_order.proofs.TurnOrders.{ComesInTurn, turn_order}

-- ---- a list of operations
get_past : (xs : List Op) → slice_get xs (length xs) ≡ None
get_past [] = refl
get_past (x ∷ xs) = get_past xs

get_within : (xs : List Op) (k : ℕ) → k < length xs → (x : Op) × (slice_get xs k ≡ Some x)
get_within [] k within = absurd (omega (arith, within))
get_within (x ∷ xs) zero within = (x, refl)
get_within (x ∷ xs) (suc k) within = get_within xs k (omega (arith, within))

get_first : (xs ys : List Op) (k : ℕ) → k < length xs → slice_get (xs ++ ys) k ≡ slice_get xs k
get_first [] ys k within = absurd (omega (arith, within))
get_first (x ∷ xs) ys zero within = refl
get_first (x ∷ xs) ys (suc k) within = get_first xs ys k (omega (arith, within))

get_last : (xs : List Op) (y : Op) → slice_get (xs ++ y ∷ []) (length xs) ≡ Some y
get_last [] y = refl
get_last (x ∷ xs) y = get_last xs y

get_beyond : (xs : List Op) (y : Op) (k : ℕ) → length xs < k → slice_get (xs ++ y ∷ []) k ≡ None
get_beyond [] y zero beyond = absurd (omega (arith, beyond))
get_beyond [] y (suc k) beyond = refl
get_beyond (x ∷ xs) y zero beyond = absurd (omega (arith, beyond))
get_beyond (x ∷ xs) y (suc k) beyond = get_beyond xs y k (omega (arith, beyond))

-- what a tracker shows of its last label holds of each read that comes next
pub each_next : (tracked : Tracked) (past : History) (replica : ℕ) → IsReadNext tracked past replica
    → (Claim : Records → ℕ → Type 0) → (number : ℕ) → label_count past.records ≡ number
    → ((later : History) → IsVisibilityOf tracked later → Claim later.records number) → (read : Op)
    → is_update read ≡ false → Claim (with_read past.records replica read) (label_count past.records)
each_next tracked past replica next Claim number is shown read no_update =
    subst (Claim (with_read past.records replica read)) (sym is)
    (shown (history_with past (operate (next_operation replica read None))) (next read no_update))

module _ (before : Records) (operations : List Op) (listed : AreListed before operations) where
  abbrev pub n : ℕ
  n = label_count before

  as_long : length operations ≡ n
  as_long = elim (cases_lt (length operations) n) [
    | inl short ↦
        let (label, at, numbered) = label_there before (length operations) short in
        absurd (none-some label.op (sym (get_past operations) ∙ listed (length operations)
        ∙ ap (option_map (λ (l : Label). l.op)) at))
    | inr enough ↦ elim (cases_lt n (length operations)) [
      | inl long ↦
          let (x, is) = get_within operations n long in
          absurd (none-some x (sym (ap (option_map (λ (l : Label). l.op)) (no_label_there before n (omega arith)))
          ∙ sym (listed n) ∙ is))
      | inr few ↦ omega (arith, enough, few)
    ]
  ]

  module _ (by : ℕ) (read : Op) where
    abbrev pub now : Records
    now = with_read before by read

    abbrev pub operations_now : List Op
    operations_now = operations ++ read ∷ []

    pub same_operation : (k : ℕ) → k < n → slice_get operations_now k ≡ slice_get operations k
    same_operation k low = get_first operations (read ∷ []) k (omega (arith, low, as_long))

    pub new_operation : slice_get operations_now n ≡ Some read
    new_operation = subst (λ k. slice_get operations_now k ≡ Some read) as_long (get_last operations read)

    pub listed_now : AreListed now operations_now
    listed_now k = elim (cases_lt k n) [
      | inl low ↦
          same_operation k low ∙ listed k
          ∙ sym (ap (option_map (λ (l : Label). l.op)) (label_at-append (operate (next_operation by read None) ∷ []) before k low))
      | inr high ↦ elim (cases_lt n k) [
        | inl beyond ↦
            get_beyond operations read k (omega (arith, beyond, as_long))
            ∙ sym (ap (option_map (λ (l : Label). l.op)) (no_label_there now k (omega (arith, beyond))))
        | inr last ↦
            let is : k ≡ n = omega (arith, high, last) in
            subst (λ j. slice_get operations_now j ≡ option_map (λ (l : Label). l.op) (label_at now j)) (sym is)
            (new_operation ∙ sym (ap (option_map (λ (l : Label). l.op))
            (label_at-operation [] before (next_operation by read None))))
      ]
    ]

    pub same_test : (passes : Op → Bool) (k : ℕ) → k < n → passes_at operations_now passes k ≡ passes_at operations passes k
    same_test passes k low = ap (λ o. option_map_or passes o false) (same_operation k low)

  -- ---- the read comes next
  module _ (kind : Kind) (decided : is_decided_by_conditions kind ≡ true) (of_kind : EachLabelIsOfKind kind before)
      (by : ℕ) (newest : List ℕ) (previous : Option ℕ) (conditions : List Condition)
      (kept : AreConditionsBelow before n conditions)
      (are : (read : Op) → is_update read ≡ false → AreNewest (now by read) n newest)
      (last : (read : Op) → is_update read ≡ false
      → IsLastBelow (now by read) n (issuer_of (now by read) n) previous) where
    abbrev pub ordering : List Condition
    ordering = order_condition newest previous n ∷ []

    -- the conditions but for those of the read's answer
    abbrev pub asked : List Condition
    asked = conditions ++ ordering

    pub below_read : (m : ℕ) → Contains newest m → m < n
    below_read m there =
        sees_earlier_updates-earlier (now by (op.Last None)) n m ((are (op.Last None) refl).seen m there)

    module _ (read : Op) (no_update : is_update read ≡ false) (read_kind : kind_of read ≡ kind) where
      abbrev pub label : Label
      label = label_of before (next_operation by read None)

      pub label_here : Contains (labels_of (now by read)) label
      label_here = at_head label (labels_of before) label refl

      pub of_kind_now : EachLabelIsOfKind kind (now by read)
      of_kind_now other there = elim (head_or_behind label (labels_of before) other there) [
        | inl here ↦ subst (λ (l : Label). kind_of l.op ≡ kind) here read_kind
        | inr further ↦ of_kind other further
      ]

      still : AreConditionsBelow (now by read) n conditions
      still = conditions_still (next_operation by read None) before conditions kept

      -- an order that meets the conditions is one of the labels, whatever the answer
      pub in_turn : (order : List ℕ) → HasEachBelow (n + 1) order → MeetsAll order asked
          → IsOrderOfLabels (now by read) order
      in_turn order each meets = turn_order (now by read) order each (λ k below. elim (cases_eq k n) [
        | inl is ↦ subst (ComesInTurn (now by read) order) (sym is) (record {
          seen =
              seen_followed (now by read) n (omega arith) newest (are read no_update) previous (last read no_update)
              order met;
          previous =
              previous_followed (now by read) n (omega arith) newest (are read no_update) previous
              (last read no_update) order met;
        })
        | inr other ↦
            let its = still.in_turn k (omega (arith, below, other)) order
            (λ condition among. meets condition (Contains-append_left conditions ordering condition among)) in
            record { seen = its.seen; previous = its.previous }
      ])
        where
          met : Meets order (order_condition newest previous n)
          met = meets (order_condition newest previous n)
              (Contains-append_right conditions ordering (order_condition newest previous n)
              (at_head (order_condition newest previous n) [] (order_condition newest previous n) refl))

      module _ (reads : List Condition) (are_reads : AreReadConditions (now by read) n read conditions reads) where
        -- the conditions with those of the answer
        abbrev full : List Condition
        full = conditions ++ (reads ++ ordering)

        pub are_full : AreConditionsBelow (now by read) (n + 1) full
        are_full =
            step (now by read) (operations_now by read) (listed_now by read) n (omega arith) newest (are read no_update)
            previous (last read no_update) conditions reads still
            (λ operation at. subst (λ o. AreReadConditions (now by read) n o conditions reads)
            (same_Some read operation (sym (new_operation by read) ∙ at)) are_reads)

        meets_full : (order : List ℕ) → MeetsAll order asked → MeetsAll order reads → MeetsAll order full
        meets_full order meets met condition among = elim (Contains-append_cases conditions (reads ++ ordering) condition among) [
          | inl older ↦ meets condition (Contains-append_left conditions ordering condition older)
          | inr new ↦ elim (Contains-append_cases reads ordering condition new) [
            | inl its ↦ met condition its
            | inr further ↦ meets condition (Contains-append_right conditions ordering condition further)
          ]
        ]

        meets_asked : (order : List ℕ) → MeetsAll order full → MeetsAll order asked
        meets_asked order meets condition among = elim (Contains-append_cases conditions ordering condition among) [
          | inl older ↦ meets condition (Contains-append_left conditions (reads ++ ordering) condition older)
          | inr new ↦ meets condition (Contains-append_right conditions (reads ++ ordering) condition
              (Contains-append_right reads ordering condition new))
        ]

        meets_reads : (order : List ℕ) → MeetsAll order full → MeetsAll order reads
        meets_reads order meets condition among =
            meets condition (Contains-append_right conditions (reads ++ ordering) condition
            (Contains-append_left reads ordering condition among))

        -- an order that meets the conditions and those of the answer explains it
        pub explained : (order : List ℕ) → HasEachBelow (n + 1) order → MeetsAll order asked → MeetsAll order reads
            → SomeOrderExplains kind (now by read)
        explained order each meets met =
            let explains = order_explains (now by read) full are_full kind decided of_kind_now order each
            (meets_full order meets met) in
            (explains.1.0, explains.1.1)

        -- and one that explains it meets them
        pub explaining : SomeOrderExplains kind (now by read)
            → (order : List ℕ) × IsOrderFor (n + 1) asked order × MeetsAll order reads
        explaining (sequence, linearizes) =
            let (order, is, meets) = linearization_orders_labels kind (now by read) sequence decided of_kind_now
            (linearization_by_visibility kind (now by read) sequence linearizes) in
            let all : MeetsAll order full =
            λ condition among. required_met (now by read) condition (are_full.required condition among) order is meets in
            (order, (is.each, meets_asked order all), meets_reads order all)

    -- ---- an order that explains the earlier labels, with the read behind it
    behind : (b : ℕ) (order : List ℕ) → HasEachBelow n order → times b (order ++ n ∷ []) ≤ 1
    behind b order each =
        let both = times_append b order (n ∷ []) in
        let most = once_each order each.once b in
        let last_one = times_head b n [] in
        elim (cases_eq n b) [
          | inl is ↦
              let none = times_none b order (λ there. let low = (each.all b).1 there in absurd (omega (arith, low, is))) in
              omega (arith, both, none, last_one, one_if-is b n is)
          | inr other ↦ omega (arith, both, most, last_one, one_if-not b n other)
        ]

    each_behind : (order : List ℕ) → HasEachBelow n order → HasEachBelow (n + 1) (order ++ n ∷ [])
    each_behind order each = record {
      once = each_once (order ++ n ∷ []) (λ b. behind b order each);
      all = λ b. (
        (λ low. elim (cases_eq n b) [
          | inl is ↦ Contains-append_right order (n ∷ []) b (at_head n [] b is)
          | inr other ↦ Contains-append_left order (n ∷ []) b ((each.all b).0 (omega (arith, low, other)))
        ]),
        (λ there. elim (Contains-append_cases order (n ∷ []) b there) [
          | inl first ↦ let low = (each.all b).1 first in omega (arith, low)
          | inr second ↦ elim (head_or_behind n [] b second) [
            | inl is ↦ omega (arith, is)
            | inr further ↦ absurd (none_there b further)
          ]
        ]),
      );
    }

    option_below : (b : ℕ) (o : Option ℕ) → IsLastBelow (now by (op.Last None)) n (issuer_of (now by (op.Last None)) n) o
        → Contains (with_option newest o) b → b < n
    option_below b None none there = below_read b there
    option_below b (Some l) (low, issued, latest) there =
        elim (Contains-append_cases newest (l ∷ []) b there) [
          | inl among ↦ below_read b among
          | inr last_one ↦ elim (head_or_behind l [] b last_one) [
            | inl is ↦ subst (λ k. k < n) is low
            | inr further ↦ absurd (none_there b further)
          ]
        ]

    pub some_asked : SomeOrderExplains kind before → (order : List ℕ) × IsOrderFor (n + 1) asked order
    some_asked (sequence, linearizes) =
        let (order, is, meets) = linearization_orders_labels kind before sequence decided of_kind
        (linearization_by_visibility kind before sequence linearizes) in (
          order ++ n ∷ [],
          (
            each_behind order is.each,
            λ condition among. elim (Contains-append_cases conditions ordering condition among) [
              | inl older ↦ λ b first.
                  let (c, after, stands) = required_met before condition (kept.required condition older) order is meets b first in
                  (c, after, before_left order (n ∷ []) b c stands)
              | inr new ↦ elim (head_or_behind (order_condition newest previous n) [] condition new) [
                | inl same ↦ subst (Meets (order ++ n ∷ [])) same (λ b first. (
                  n,
                  at_head n [] n refl,
                  before_seam order (n ∷ []) b n ((is.each.all b).0 (option_below b previous (last (op.Last None) refl) first))
                      (at_head n [] n refl),
                ))
                | inr further ↦ absurd (none_there condition further)
              ]
            ],
          ),
        )
