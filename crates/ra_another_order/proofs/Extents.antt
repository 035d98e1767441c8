-- Lemmas on how many of the first labels some order explains.
use Rattle.std.proofs.Common.{◌≡◌, ℕ, zero, suc, ◌<◌, ◌≤◌, ◌+◌, ◌-◌, true, false, List, [], ◌∷◌, ◌++◌, Option, Some, None, length, get_or, take, refl, sym, ap, subst, ◌∙◌, inl, inr, arith}
use Rattle.std.specs.Prelude.{◌⊎◌, ◌==◌, Contains, slice_get, option_map, option_and_then, MatchOption}
use Rattle.std.proofs.lemmas.Bool.{cases_Bool, cases_eq, cases_lt, cond-true, cond-false, eq-eqb, ne_eqb, false≢true}
use Rattle.std.proofs.lemmas.Option.{slice_get-get_or, none-some}
use Rattle.std.proofs.lemmas.List.{take_all}
use Rattle.ra_labels.specs.declared.kind.Kind.{Kind}
use Rattle.ra_labels.specs.declared.kind.Kind.TheVariants.{Rga}
use Rattle.ra_labels.specs.declared.kind.Kind.TheVariants as kinds
use Rattle.ra_labels.specs.declared.operation.Op.{Op}
use Rattle.ra_labels.specs.declared.operation.Op.TheVariants as op
use Rattle.ra_labels.specs.declared.label.Label.{Label}
use Rattle.ra_labels.specs.Records.{Records, label_count, label_at}
use Rattle.ra_labels.specs.HistorySoFar.{History}
use Rattle.ra_labels.specs.Answer.{kind_of}
use Rattle.ra_labels.specs.Lists.{is_among}
use Rattle.ra_labels.proofs.InLists.{among-exactly}
use Rattle.ra_theorems.specs.AnyOrder.{is_of_any_order, NoneLinearizes}
use Rattle.ra_theorems.proofs.TheoremIndex.{fault_none_implies_holds}
use Rattle.ra_theorems.proofs.LabelNumbers.{label_count-append, label_at-append, no_label_there}
use Rattle.ra_some_order.specs.SomeOrder.{SomeOrderExplains, EachLabelIsOfKind, is_decided_by_conditions}
use Rattle.ra_some_order.proofs.TheoremIndex.{no_order_persists as lww_persists, updates_stay_explained-holds}
use Rattle.ra_rga_conditions.specs.Precedence.{HasOperationAt, Inserts, Needs}
use Rattle.ra_rga_conditions.specs.Plain.{HasWhatItNeeds}
use Rattle.ra_rga_conditions.proofs.TheoremIndex.{no_order_persists as rga_persists, linearization_meets_plain_conditions}
use Rattle.ra_rga_precedence.specs.Operations.{element_inserted, element_needed, inserted_at, needed_at}
use Rattle.ra_rga_precedence.specs.Complete.{IsComplete, AreCompleteCounts}
use Rattle.ra_rga_precedence.proofs.ConditionLists.{AreListed}
use Rattle.ra_rga_precedence.proofs.Places.{place_of}
use Rattle.ra_rga_precedence.proofs.Translations.{inserts_listed, inserts_below, listed_inserts, needs_listed, needs_below, listed_needs}
use Rattle.ra_monitor.specs.Monitor.{MonitorEntry}
use Rattle.ra_reported.specs.Reported.{reported_in, IsPlaceOf}
use Rattle.ra_reported.proofs.LabelPlaces.{longer_reports}
use Rattle.ra_another_order.specs.Extent.{records_at, IsExtent, end_in, AreEnds, CanBeSearched, IsLastExplained}
use Rattle.ra_another_order.proofs.ReportedLabels.{reported_of_kind}

-- ---- the first operations of a list
taken_below : {A : Type 0} (xs : List A) (count n : ℕ) → n < count → slice_get (take count xs) n ≡ slice_get xs n
taken_below [] zero n below = refl
taken_below [] (suc count) n below = refl
taken_below (x ∷ xs) zero n below = absurd (omega (arith, below))
taken_below (x ∷ xs) (suc count) zero below = refl
taken_below (x ∷ xs) (suc count) (suc n) below = taken_below xs count n (omega (arith, below))

none_taken : {A : Type 0} (xs : List A) (count n : ℕ) → count ≤ n → slice_get (take count xs) n ≡ None
none_taken [] zero zero past = refl
none_taken [] zero (suc n) past = refl
none_taken [] (suc count) zero past = refl
none_taken [] (suc count) (suc n) past = refl
none_taken (x ∷ xs) zero zero past = refl
none_taken (x ∷ xs) zero (suc n) past = refl
none_taken (x ∷ xs) (suc count) zero past = absurd (omega (arith, past))
none_taken (x ∷ xs) (suc count) (suc n) past = none_taken xs count n (omega (arith, past))

-- a kind whose violations are not final is decided by conditions, or is that of an RGA
pub decided_or_rga : (kind : Kind) → is_of_any_order kind ≡ false → (is_decided_by_conditions kind ≡ true) ⊎ (kind ≡ Rga)
decided_or_rga kinds.Register asked = inl refl
decided_or_rga kinds.LwwSet asked = inl refl
decided_or_rga Rga asked = inr refl
decided_or_rga kinds.Counter asked = absurd (false≢true (sym asked))
decided_or_rga kinds.OrSet asked = absurd (false≢true (sym asked))
decided_or_rga kinds.List asked = absurd (false≢true (sym asked))
decided_or_rga kinds.Any asked = absurd (false≢true (sym asked))
decided_or_rga kinds.MvRegister asked = absurd (false≢true (sym asked))

-- ---- where first labels end
module _ (kind : Kind) (replicas : ℕ) (log : List MonitorEntry) where
  abbrev at : ℕ → Records
  at k = records_at kind replicas log k

  abbrev whole : Records
  whole = (reported_in kind replicas log).records

  -- all entries report more than the first ones
  pub among_all : (k : ℕ) → (later : Records) × (whole ≡ later ++ at k)
  among_all k = elim (cases_lt k (length log)) [
    | inl within ↦
        let (later, is) = longer_reports kind replicas log k (length log) (omega (arith, within)) in
        (later, sym (all_of (length log) (omega arith)) ∙ is)
    | inr past ↦ ([], sym (all_of k past))
  ]
    where
      all_of : (j : ℕ) → length log ≤ j → at j ≡ whole
      all_of j past = ap (λ entries. (reported_in kind replicas entries).records) (take_all j log past)

  pub fewer : (k : ℕ) → label_count (at k) ≤ label_count whole
  fewer k =
      let (later, is) = among_all k in
      subst (λ r. label_count (at k) ≤ label_count r) (sym is) (label_count-append later (at k))

  pub fewer_before : (i j : ℕ) → i ≤ j → label_count (at i) ≤ label_count (at j)
  fewer_before i j less =
      let (later, is) = longer_reports kind replicas log i j less in
      subst (λ r. label_count (at i) ≤ label_count r) (sym is) (label_count-append later (at i))

  of_kind_at : (k : ℕ) → EachLabelIsOfKind kind (at k)
  of_kind_at k =
      let (records, is, each) = reported_of_kind kind replicas (take k log) in
      subst (λ (h : History). EachLabelIsOfKind kind h.records) (sym is) each

  module _ (places : List ℕ) (count : length places ≡ label_count whole)
      (are : (n place : ℕ) → slice_get places n ≡ Some place → IsPlaceOf kind replicas log n place) where
    place_at : (n : ℕ) → n < length places → IsPlaceOf kind replicas log n (get_or places n 0)
    place_at n within = are n (get_or places n 0) (slice_get-get_or places n 0 within)

    end_behind : (c : ℕ) → 0 < c → end_in places c ≡ get_or places (c - 1) 0 + 1
    end_behind c some = cond-false (c == 0) 0 (get_or places (c - 1) 0 + 1) (ne_eqb c 0 (λ none. absurd (omega (arith, none, some))))

    end_first : (c : ℕ) → c ≡ 0 → end_in places c ≡ 0
    end_first c none = cond-true (c == 0) 0 (get_or places (c - 1) 0 + 1) (eq-eqb c 0 none)

    pub labels_to : (c : ℕ) → c ≤ length places → label_count (at (end_in places c)) ≡ c
    labels_to c within = elim (cases_eq c 0) [
      | inl none ↦ ap (λ k. label_count (at k)) (end_first c none) ∙ sym none
      | inr other ↦
          let some : 0 < c = omega (arith, other) in
          let its = (place_at (c - 1) (omega (arith, within, some))).with_it in
          let back : (c - 1) + 1 ≡ c = omega (arith, some) in
          ap (λ k. label_count (at k)) (end_behind c some) ∙ its ∙ back
    ]

    pub end_within : (c : ℕ) → c ≤ length places → end_in places c ≤ length log
    end_within c within = elim (cases_eq c 0) [
      | inl none ↦ let is = end_first c none in omega (arith, is)
      | inr other ↦
          let some : 0 < c = omega (arith, other) in
          let place = get_or places (c - 1) 0 in
          let its = place_at (c - 1) (omega (arith, within, some)) in
          elim (cases_lt place (length log)) [
            | inl inside ↦ let is = end_behind c some in omega (arith, is, inside)
            | inr past ↦
                let one = its.before in
                let two = its.with_it in
                let same = ap (λ entries. label_count (reported_in kind replicas entries).records)
                (take_all place log past ∙ sym (take_all (place + 1) log (omega (arith, past)))) in
                absurd (omega (arith, one, two, same))
          ]
    ]

    pub end_before : (k c : ℕ) → 0 < c → c ≤ length places → c ≤ label_count (at k) → end_in places c ≤ k
    end_before k c some within reached =
        let place = get_or places (c - 1) 0 in
        let is = end_behind c some in
        elim (cases_lt place k) [
          | inl inside ↦ omega (arith, is, inside)
          | inr past ↦
              let one = (place_at (c - 1) (omega (arith, within, some))).before in
              let less = fewer_before k place past in
              absurd (omega (arith, one, less, reached, some))
        ]

    -- ---- what the first labels need
    module _ (operations : List Op)
        (listed : (n : ℕ) → slice_get operations n ≡ option_map (λ (l : Label). l.op) (label_at whole n)) (k : ℕ) where
      abbrev many : ℕ
      many = label_count (at k)

      listed_first : AreListed (at k) (take many operations)
      listed_first n = elim (cases_lt n many) [
        | inl below ↦
            let (later, is) = among_all k in
            taken_below operations many n below ∙ listed n
            ∙ ap (option_map (λ (l : Label). l.op)) (ap (λ r. label_at r n) is ∙ label_at-append later (at k) n below)
        | inr past ↦
            none_taken operations many n past
            ∙ sym (ap (option_map (λ (l : Label). l.op)) (no_label_there (at k) n past))
      ]

      needed_same : (n : ℕ) → n < many → needed_at (take many operations) n ≡ needed_at operations n
      needed_same n below = ap (option_and_then element_needed) (taken_below operations many n below)

      inserted_same : (n : ℕ) → n < many → inserted_at (take many operations) n ≡ inserted_at operations n
      inserted_same n below = ap (option_and_then element_inserted) (taken_below operations many n below)

      pub complete_has : IsComplete operations many → HasWhatItNeeds (at k)
      complete_has complete n x needs apart =
          let below = needs_below (at k) (take many operations) listed_first n x needs in
          let (m, less, inserts) = complete n x below
          (sym (needed_same n below) ∙ needs_listed (at k) (take many operations) listed_first n x needs apart) in
          (m, listed_inserts (at k) (take many operations) listed_first m x (inserted_same m less ∙ inserts))

      inserted_before : (m x : ℕ) → Inserts (at k) m x → (m < many) × (inserted_at operations m ≡ Some x)
      inserted_before m x inserts =
          let below = inserts_below (at k) (take many operations) listed_first m x inserts in (
            below,
            sym (inserted_same m below) ∙ inserts_listed (at k) (take many operations) listed_first m x inserts,
          )

      its_needs : (n x : ℕ) → n < many → needed_at operations n ≡ Some x
          → Needs (at k) n x × ((¬ (x ≡ 0)) ⊎ HasOperationAt (at k) n (op.RgaRemove x))
      its_needs n x below needs =
          listed_needs (at k) (take many operations) listed_first n x (needed_same n below ∙ needs)

      -- no order explains labels that need what none of them inserts
      incomplete_rga : EachLabelIsOfKind Rga (at k) → ¬ IsComplete operations many → NoneLinearizes Rga (at k)
      incomplete_rga of_kind incomplete sequence linearizes =
          let plain = linearization_meets_plain_conditions (at k) sequence of_kind linearizes in
          incomplete (λ n x below needs.
          let (its, either) = its_needs n x below needs in
          let inserter : ¬ (x ≡ 0) → (m : ℕ) × (m < many) × (inserted_at operations m ≡ Some x) =
          λ apart.
          let (m, inserts) = plain.inserted.needed n x its apart in
          let (less, is) = inserted_before m x inserts in
          (m, less, is) in
          elim either [
            | inl apart ↦ inserter apart
            | inr removes ↦ elim (cases_eq x 0) [
              | inl root ↦ absurd (plain.inserted.root_stays n
                  (subst (λ y. HasOperationAt (at k) n (op.RgaRemove y)) root removes))
              | inr apart ↦ inserter apart
            ]
          ])

      -- labels of another kind need nothing
      needs_nothing : is_decided_by_conditions kind ≡ true → (n : ℕ) (operation : Op) → kind_of operation ≡ Rga
          → ¬ HasOperationAt (at k) n operation
      needs_nothing decided n operation is_rga (label, there, numbered, is) =
          let same : kind ≡ Rga = sym (of_kind_at k label there) ∙ ap kind_of is ∙ is_rga in
          false≢true (sym (ap is_decided_by_conditions same) ∙ decided)

      decided_complete : is_decided_by_conditions kind ≡ true → IsComplete operations many
      decided_complete decided n x below needs = elim (its_needs n x below needs).0 [
        | inl (y, behind) ↦ absurd (needs_nothing decided n (op.After x y) refl behind)
        | inr removes ↦ absurd (needs_nothing decided n (op.RgaRemove x) refl removes)
      ]

      pub incomplete_none : is_of_any_order kind ≡ false → ¬ IsComplete operations many → NoneLinearizes kind (at k)
      incomplete_none asked incomplete = elim (decided_or_rga kind asked) [
        | inl decided ↦ absurd (incomplete (decided_complete decided))
        | inr is ↦
            subst (λ a. NoneLinearizes a (at k)) (sym is)
            (incomplete_rga (subst (λ a. EachLabelIsOfKind a (at k)) is (of_kind_at k)) incomplete)
      ]

      -- what no order explains stays so, if the labels have what they need
      pub none_stays : is_of_any_order kind ≡ false → IsComplete operations many → (j : ℕ) → k ≤ j
          → NoneLinearizes kind (at k) → NoneLinearizes kind (at j)
      none_stays asked complete j less none =
          let (later, is) = longer_reports kind replicas log k j less in
          subst (NoneLinearizes kind) (sym is) (elim (decided_or_rga kind asked) [
            | inl decided ↦ lww_persists kind later (at k) decided (of_kind_at k) none
            | inr rga ↦
                subst (λ a. NoneLinearizes a (later ++ at k)) (sym rga) (rga_persists later (at k)
                (subst (λ a. EachLabelIsOfKind a (later ++ at k)) rga (subst (EachLabelIsOfKind kind) is (of_kind_at j)))
                (complete_has complete) (subst (λ a. NoneLinearizes a (at k)) rga none))
          ])

    -- ---- the extent
    module _ (operations : List Op)
        (listed : (n : ℕ) → slice_get operations n ≡ option_map (λ (l : Label). l.op) (label_at whole n))
        (asked : is_of_any_order kind ≡ false) (counts ends : List ℕ)
        (are_counts : AreCompleteCounts operations (length places) counts) (are_ends : AreEnds places counts ends) where
      -- each end is one in the log
      ends_within : (i : ℕ) → i < length ends → get_or ends i 0 ≤ length log
      ends_within i within =
          let (bound, complete) = are_counts.each i (subst (λ l. i < l) are_ends.len within) in
          subst (λ e. e ≤ length log) (sym (are_ends.each i within)) (end_within (get_or counts i 0) bound)

      -- nothing has to be explained before the first label
      start_explained : SomeOrderExplains kind (at (get_or ends 0 0))
      start_explained =
          let none : get_or ends 0 0 ≡ 0 =
          are_ends.each 0 (subst (λ l. 0 < l) (sym are_ends.len) are_counts.some) ∙ end_first (get_or counts 0 0) are_counts.start in
          subst (λ k. SomeOrderExplains kind (at k)) (sym none)
          (updates_stay_explained-holds kind [] (fault_none_implies_holds kind [] refl))

      pub searchable : CanBeSearched kind replicas log ends
      searchable = record {
        within = ends_within;
        some = subst (λ l. 0 < l) (sym are_ends.len) are_counts.some;
        start = start_explained;
      }

      pub extent_at : (i : ℕ) → IsLastExplained kind replicas log ends i → IsExtent kind replicas log (get_or counts i 0)
      extent_at i last =
          let within : i < length counts = subst (λ l. i < l) are_ends.len last.within in
          let here = get_or counts i 0 in
          let (bound, complete) = are_counts.each i within in
          record {
            some = (
              end_in places here,
              labels_to here bound,
              subst (λ k. SomeOrderExplains kind (at k)) (are_ends.each i last.within) last.some,
            );
            none = λ k more. elim (cases_Bool (is_among (label_count (at k)) counts)) [
              | inl there ↦ listed_more i last k more ((among-exactly (label_count (at k)) counts).0 there)
              | inr missing ↦
                  incomplete_none operations listed k asked (λ its. absurd (false≢true (sym missing
                  ∙ (among-exactly (label_count (at k)) counts).1 (are_counts.all (label_count (at k))
                  (subst (λ l. label_count (at k) ≤ l) (sym count) (fewer k)) its))))
            ];
          }
        where
          -- the next number is at most this one, and no order explains that many
          listed_more : (i : ℕ) → IsLastExplained kind replicas log ends i → (k : ℕ)
              → get_or counts i 0 < label_count (at k) → Contains counts (label_count (at k))
              → NoneLinearizes kind (at k)
          listed_more i last k more there =
              let (j, at_j) = place_of counts (label_count (at k)) there in
              let j_within = at_j.within in
              let j_here = at_j.here in
              let i_within : i < length counts = subst (λ l. i < l) are_ends.len last.within in
              let later : i < j = elim (cases_lt i j) [
                | inl less ↦ less
                | inr past ↦ elim (cases_eq j i) [
                  | inl same ↦
                      let is = ap (λ a. get_or counts a 0) same in absurd (omega (arith, is, j_here, more))
                  | inr other ↦
                      let rises = are_counts.ascend j i (omega (arith, past, other)) i_within in
                      absurd (omega (arith, rises, j_here, more))
                ]
              ] in
              let next = get_or counts (i + 1) 0 in
              let next_within : i + 1 < length counts = omega (arith, later, j_within) in
              let next_end : i + 1 < length ends = subst (λ l. i + 1 < l) (sym are_ends.len) next_within in
              let rises = are_counts.ascend i (i + 1) (omega arith) next_within in
              let reached : next ≤ label_count (at k) = elim (cases_eq (i + 1) j) [
                | inl same ↦ let is = ap (λ a. get_or counts a 0) same in omega (arith, is, j_here)
                | inr other ↦
                    let more_rises = are_counts.ascend (i + 1) j (omega (arith, other, later)) j_within in
                    omega (arith, more_rises, j_here)
              ] in
              let (bound, complete) = are_counts.each (i + 1) next_within in
              let end = end_in places next in
              let labels = labels_to next bound in
              none_stays operations listed end asked (subst (IsComplete operations) (sym labels) complete) k
              (end_before k next (omega (arith, rises)) bound reached)
              (subst (λ e. NoneLinearizes kind (at e)) (are_ends.each (i + 1) next_end) (last.none next_end))

-- ---- the label behind a prefix
pub stop_at : (kind : Kind) (replicas : ℕ) (log : List MonitorEntry) (places : List ℕ)
    → length places ≡ label_count (reported_in kind replicas log).records
    → ((n place : ℕ) → slice_get places n ≡ Some place → IsPlaceOf kind replicas log n place)
    → (n : ℕ) → n ≤ length places → (stop : Option ℕ) → stop ≡ slice_get places n
    → MatchOption stop (label_count (reported_in kind replicas log).records ≡ n) (IsPlaceOf kind replicas log n)
stop_at kind replicas log places count are n within (Some place) is = are n place (sym is)
stop_at kind replicas log places count are n within None is = elim (cases_lt n (length places)) [
  | inl below ↦ absurd (none-some (get_or places n 0) (is ∙ slice_get-get_or places n 0 below))
  | inr past ↦ omega (arith, within, past, count)
]
