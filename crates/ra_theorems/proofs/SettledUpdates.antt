-- Lemmas on pending and settled updates of an RGA.
use Rattle.std.proofs.Common.{◌≡◌, ℕ, ◌+◌, ◌≤◌, Bool, true, false, List, [], ◌∷◌, ◌++◌, refl, sym, ap, ◌∙◌, subst, inl, inr, arith, append_assoc}
use Rattle.std.specs.Prelude.{◌↔◌, ◌⊎◌, ◌==◌, Contains, length}
use Rattle.std.specs.List.{IsDistinct}
use Rattle.std.proofs.lemmas.Bool.{false≢true, cases_Bool, or_cases, or_left, eqb-true, eq-eqb, false_from_ne_true}
use Rattle.std.proofs.lemmas.List.{append-nil, length-append}
use Rattle.std.proofs.lemmas.List.Elements.{Contains-append_left, Contains-append_cases}
use Rattle.ra_labels.specs.declared.kind.Kind.TheVariants.{Rga}
use Rattle.ra_labels.specs.declared.operation.Update.{Update}
use Rattle.ra_labels.specs.declared.operation.Update.TheVariants.{After}
use Rattle.ra_labels.specs.declared.label.Label.{Label}
use Rattle.ra_labels.specs.declared.command.Command.TheVariants.{Deliver, Join}
use Rattle.ra_labels.specs.Records.{Records, label_count, labels_of}
use Rattle.ra_labels.specs.Rewriting.{updates_of}
use Rattle.ra_labels.specs.Specification.{state_after, is_admitted}
use Rattle.ra_labels.specs.Linearization.{updates_admitted}
use Rattle.ra_labels.specs.NamedOrder.{named_labels, named_sequence}
use Rattle.ra_labels.specs.Insertion.{updates_among, updates_passing, or_label, HasUpdate}
use Rattle.ra_labels.specs.Pending.{is_present_element, dependency_of, OneInserts, NonePending, OthersPending, AllSettled, IsSettled}
use Rattle.ra_labels.specs.HistorySoFar.{NextOperation, operate, label_of}
use Rattle.ra_labels.proofs.InLists.{bool_same}
use Rattle.ra_labels.proofs.Members.{head_or_behind, at_head, behind_head}
use Rattle.ra_theorems.proofs.Ranks.{named_differ, have_one_number}
use Rattle.ra_theorems.proofs.HadUpdates.{differ_round, among-append, among-one, among-not}
use Rattle.ra_theorems.proofs.Rgas.{list-exactly}
use Rattle.ra_theorems.proofs.LateUpdates.{one_step}
use Rattle.ra_theorems.proofs.KeptUpdates.{needed-now}
use Rattle.ra_theorems.proofs.PassingUpdates.{in-named, in-labels, others-pass, each, each_passes, passing-delivery, passing-join}
use Rattle.ra_theorems.proofs.PassingUpdates.{passing-operation, passing-admitted, listed-after, there-label, among-from}
use Rattle.ra_theorems.proofs.PassingUpdates.{among-alike, among-fewer}
use Rattle.ra_theorems.proofs.RgaSteps.{split-led, same_number, makes_same}

-- the element that an update depends on is the root, or was inserted by a label before it
pub needed-before : (records : Records) → updates_admitted Rga (named_sequence Rga records) ≡ true
    → (first later : List Label) (label : Label) (u : Update) → named_labels Rga records ≡ first ++ label ∷ later
    → HasUpdate label.op u
    → (dependency_of u ≡ 0) ⊎ OneInserts (dependency_of u) first
needed-before records admitted first later label u is makes =
    let (all, led) = listed-after (updates_of (named_sequence Rga records)) admitted in
    let older_us = updates_among each first in
    let later_us = updates_among each later in
    let pieces : updates_among each (named_labels Rga records) ≡ older_us ++ u ∷ later_us =
    ap (updates_among each) is ∙ among-append each first (label ∷ later)
    ∙ ap (λ us. older_us ++ us)
    (among-append each (label ∷ []) later ∙ ap (λ us. us ++ later_us) (among-one each label u makes refl)) in
    let (older, led_first, goes) = split-led older_us (u ∷ later_us) all
    (ap (state_after Rga) (sym pieces ∙ each_passes (named_labels Rga records)) ∙ led) in
    let (mid, step, rest) = one_step older u later_us all goes in
    elim ((list-exactly older_us older (dependency_of u) led_first).0 (needed-now older mid u step)) [
      | inl root ↦ inl root
      | inr (anchor, found) ↦
          let (m, m_there, passes, m_makes) = among-from each first (After anchor (dependency_of u)) found in
          inr (m, anchor, m_there, m_makes)
    ]

-- induction: a property that passes from the label inserting the dependency to the label itself holds of each label
abbrev pub NeedHolds : Records → (Label → Type 0) → ℕ → Type 0
NeedHolds records P x = (label : Label) × (anchor : ℕ) × Contains (labels_of records) label
    × HasUpdate label.op (After anchor x) × P label

pub by-needs : (records : Records) → updates_admitted Rga (named_sequence Rga records) ≡ true
    → (P : Label → Type 0) (done rest behind : List Label) → named_labels Rga records ≡ done ++ (rest ++ behind)
    → ((label : Label) (u : Update) → Contains rest label → HasUpdate label.op u
    → (dependency_of u ≡ 0) ⊎ NeedHolds records P (dependency_of u) → P label)
    → ((label : Label) (u : Update) → Contains done label → HasUpdate label.op u → P label)
    → (label : Label) (u : Update) → Contains (done ++ rest) label → HasUpdate label.op u → P label
by-needs records admitted P done [] behind is goes known label u there makes =
    known label u (subst (λ ls. Contains ls label) (append-nil done) there) makes
by-needs records admitted P done (n ∷ rest) behind is goes known label u there makes =
    let in_records : (k : Label) → Contains done k → Contains (labels_of records) k = λ k found.
    in-labels Rga records k
    (subst (λ ls. Contains ls k) (sym is) (Contains-append_left done (n ∷ (rest ++ behind)) k found)) in
    let own : (v : Update) → HasUpdate n.op v → P n = λ v n_makes. goes n v (at_head n rest n refl) n_makes
    (elim (needed-before records admitted done (rest ++ behind) n v is n_makes) [
      | inl root ↦ inl root
      | inr (k, anchor, k_there, k_makes) ↦
          inr (k, anchor, in_records k k_there, k_makes, known k (After anchor (dependency_of v)) k_there k_makes)
    ]) in
    by-needs records admitted P (done ++ n ∷ []) rest behind (is ∙ sym (append_assoc done (n ∷ []) (rest ++ behind)))
    (λ m v m_there m_makes needs. goes m v (behind_head n rest m m_there) m_makes needs)
    (λ m v m_there m_makes. elim (Contains-append_cases done (n ∷ []) m m_there) [
      | inl old ↦ known m v old m_makes
      | inr new ↦ elim (head_or_behind n [] m new) [
        | inl here ↦ subst P here (own v (subst (λ (k : Label). HasUpdate k.op v) (sym here) m_makes))
        | inr none ↦ absurd (omega (arith, none.1))
      ]
    ])
    label u (subst (λ ls. Contains ls label) (sym (append_assoc done (n ∷ []) rest)) there) makes

root_there : (y : ℕ) (us : List Update) → y ≡ 0 → is_present_element y us ≡ true
root_there y us root = or_left (y == 0) _ (eq-eqb y 0 root)

-- whether a label is settled does not depend on the labels behind it
agree : (records : Records) (had also settled now : ℕ → Bool) (rest behind : List Label)
    → updates_admitted Rga (named_sequence Rga records) ≡ true → named_labels Rga records ≡ rest ++ behind
    → ((label : Label) → Contains rest label → also label.number ≡ had label.number) → IsSettled records had settled
    → IsSettled records also now
    → (label : Label) (u : Update) → Contains rest label → HasUpdate label.op u → now label.number ≡ settled label.number
agree records had also settled now rest behind admitted is same was_settled now_settled =
    by-needs records admitted (λ (l : Label). now l.number ≡ settled l.number) [] rest behind is
    (λ l u l_there makes needs.
    let l_in =
    in-labels Rga records l (subst (λ ls. Contains ls l) (sym is) (Contains-append_left rest behind l l_there)) in
    elim (cases_Bool (had l.number)) [
      | inl it ↦
          now_settled.where_needed l u l_in makes (same l l_there ∙ it)
          ∙ elim needs [
            | inl root ↦ root_there (dependency_of u) (updates_passing Rga records now) root
                ∙ sym (root_there (dependency_of u) (updates_passing Rga records settled) root)
            | inr (k, anchor, k_in, k_makes, k_same) ↦
                there-label records now k anchor (dependency_of u) admitted k_in k_makes ∙ k_same
                ∙ sym (there-label records settled k anchor (dependency_of u) admitted k_in k_makes)
          ]
          ∙ sym (was_settled.where_needed l u l_in makes it)
      | inr other ↦
          false_from_ne_true (now l.number)
          (λ it. false≢true (sym (same l l_there ∙ other) ∙ now_settled.had_them l.number it))
          ∙ sym (false_from_ne_true (settled l.number)
          (λ it. false≢true (sym other ∙ was_settled.had_them l.number it)))
    ])
    (λ l u l_there makes. absurd (omega (arith, l_there.1)))

pub settled-once : (records : Records) (had settled others : ℕ → Bool)
    → updates_admitted Rga (named_sequence Rga records) ≡ true → IsSettled records had settled
    → IsSettled records had others
    → (label : Label) (u : Update) → Contains (labels_of records) label → HasUpdate label.op u
    → settled label.number ≡ others label.number
settled-once records had settled others admitted one other label u there makes =
    sym (agree records had had settled others (named_labels Rga records) [] admitted
    (sym (append-nil (named_labels Rga records))) (λ l found. refl) one other label u
    (in-named Rga records label there) makes)

-- one more delivered label leaves the labels before it unchanged
pub settled-before : (records : Records) (had settled now : ℕ → Bool) (before behind : List Label) (label : Label)
    → updates_admitted Rga (named_sequence Rga records) ≡ true → named_labels Rga records ≡ before ++ label ∷ behind
    → IsSettled records had settled → IsSettled records (or_label had label.number) now → (l : Label) (u : Update)
    → Contains before l → HasUpdate l.op u → now l.number ≡ settled l.number
settled-before records had settled now before behind label admitted is was_settled now_settled =
    let round = differ_round before behind label (subst (IsDistinct have_one_number) is (named_differ Rga records)) in
    agree records had (or_label had label.number) settled now before (label ∷ behind) admitted is
    (λ l found. others-pass had label.number l.number (round.0 l found)) was_settled now_settled

-- so it settles at most itself and labels behind it
pub settled-count : (records : Records) (had settled now : ℕ → Bool) (before behind : List Label) (label : Label)
    (u : Update) → updates_admitted Rga (named_sequence Rga records) ≡ true
    → named_labels Rga records ≡ before ++ label ∷ behind
    → HasUpdate label.op u → IsSettled records had settled → IsSettled records (or_label had label.number) now
    → length (updates_passing Rga records now) ≤ length (updates_passing Rga records settled) + 1 + length
    (updates_among had behind)
settled-count records had settled now before behind label u admitted is makes was_settled now_settled =
    let round = differ_round before behind label (subst (IsDistinct have_one_number) is (named_differ Rga records)) in
    let firsts = updates_among settled before in
    let own = updates_among now (label ∷ []) in
    let laters = updates_among now behind in
    let first : updates_among now before ≡ firsts =
    among-alike now settled before
    (λ l v found v_makes. settled-before records had settled now before behind label admitted is was_settled
    now_settled l v found v_makes) in
    let pieces : updates_passing Rga records now ≡ firsts ++ (own ++ laters) =
    ap (updates_among now) is ∙ among-append now before (label ∷ behind)
    ∙ (λ i. first i ++ among-append now (label ∷ []) behind i) in
    let before_them : updates_passing Rga records settled ≡ firsts ++ updates_among settled (label ∷ behind) =
    ap (updates_among settled) is ∙ among-append settled before (label ∷ behind) in
    let one : length own ≤ 1 = elim (cases_Bool (now label.number)) [
      | inl it ↦ omega (arith, ap length (among-one now label u makes it))
      | inr other ↦ omega (arith, ap length (among-not now label other))
    ] in
    let fewer : length laters ≤ length (updates_among had behind) = among-fewer now had behind (λ l found it.
    sym (others-pass had label.number l.number (round.1 l found)) ∙ now_settled.had_them l.number it) in
    omega (
      arith,
      one,
      fewer,
      ap length pieces,
      ap length before_them,
      length-append firsts (own ++ laters),
      length-append own laters,
      length-append firsts (updates_among settled (label ∷ behind)),
    )

-- the settled updates are admitted
pub settled-admitted : (records : Records) (had settled : ℕ → Bool)
    → updates_admitted Rga (named_sequence Rga records) ≡ true → IsSettled records had settled
    → is_admitted Rga (updates_passing Rga records settled) ≡ true
settled-admitted records had settled admitted is_settled =
    (passing-admitted records settled admitted).1
    (λ l u there makes it. sym (is_settled.where_needed l u there makes (is_settled.had_them l.number it)) ∙ it)

-- and all delivered updates are admitted exactly if all of them are settled
all_alike : (records : Records) (had settled : ℕ → Bool) → IsSettled records had settled
    → AllSettled records had settled → updates_passing Rga records settled ≡ updates_passing Rga records had
all_alike records had settled is_settled all =
    among-alike settled had (named_labels Rga records)
    (λ l u found makes. bool_same (settled l.number) (had l.number) (is_settled.had_them l.number)
    (all l u (in-labels Rga records l found) makes))

pub settled-all : (records : Records) (had settled : ℕ → Bool)
    → updates_admitted Rga (named_sequence Rga records) ≡ true → IsSettled records had settled
    → (is_admitted Rga (updates_passing Rga records had) ≡ true) ↔ AllSettled records had settled
settled-all records had settled admitted is_settled = (
  (λ is.
      let none = (passing-admitted records had admitted).0 is in
      let named = named_labels Rga records in
      let known = by-needs records admitted (λ (l : Label). had l.number ≡ true → settled l.number ≡ true) [] named []
      (sym (append-nil named))
      (λ l u l_there makes needs it.
      let l_in = in-labels Rga records l l_there in
      is_settled.where_needed l u l_in makes it
      ∙ elim needs [
        | inl root ↦ root_there (dependency_of u) (updates_passing Rga records settled) root
        | inr (k, anchor, k_in, k_makes, k_settled) ↦
            there-label records settled k anchor (dependency_of u) admitted k_in k_makes
            ∙ k_settled
            (sym (there-label records had k anchor (dependency_of u) admitted k_in k_makes) ∙ none l u l_in makes it)
      ])
      (λ l u l_there makes. absurd (omega (arith, l_there.1))) in
      λ l u l_in makes it. known l u (in-named Rga records l l_in) makes it),
  (λ all. ap (is_admitted Rga) (sym (all_alike records had settled is_settled all))
      ∙ settled-admitted records had settled admitted is_settled),
)

pub settled-same : (records : Records) (had settled : ℕ → Bool)
    → updates_admitted Rga (named_sequence Rga records) ≡ true → IsSettled records had settled
    → is_admitted Rga (updates_passing Rga records had) ≡ true
    → updates_passing Rga records settled ≡ updates_passing Rga records had
settled-same records had settled admitted is_settled is =
    all_alike records had settled is_settled ((settled-all records had settled admitted is_settled).0 is)

-- settled updates are not pending, and the other delivered ones are
pub settled-exactly : (records : Records) (had settled : ℕ → Bool)
    → IsSettled records had settled
    ↔ (((n : ℕ) → settled n ≡ true → had n ≡ true) × NonePending records settled × OthersPending records had settled)
settled-exactly records had settled = (
  (λ is_settled. (
    is_settled.had_them,
    (λ l u there makes it. sym (is_settled.where_needed l u there makes (is_settled.had_them l.number it)) ∙ it),
    (λ l u there makes had_it waits. sym (is_settled.where_needed l u there makes had_it) ∙ waits),
  )),
  (λ known. record {
    had_them = known.0;
    where_needed = λ l u there makes had_it. elim (cases_Bool (settled l.number)) [
      | inl it ↦ it ∙ sym (known.1 l u there makes it)
      | inr other ↦ other ∙ sym (known.2 l u there makes had_it other)
    ];
  }),
)

-- a pending label leaves the settled ones unchanged
pub settled-waiting : (records : Records) (had settled : ℕ → Bool) (label : Label) (u : Update)
    → Contains (labels_of records) label → HasUpdate label.op u → had label.number ≡ false → IsSettled records had settled
    → is_present_element (dependency_of u) (updates_passing Rga records settled) ≡ false
    → IsSettled records (or_label had label.number) settled
settled-waiting records had settled label u there makes new is_settled waits = record {
  had_them = λ n it. or_left (had n) (n == label.number) (is_settled.had_them n it);
  where_needed = λ l v l_there l_makes had_it. elim (or_cases (had l.number) (l.number == label.number) had_it) [
    | inl old ↦ is_settled.where_needed l v l_there l_makes old
    | inr is ↦
        let same : l ≡ label = same_number records l label l_there there (eqb-true l.number label.number is) in
        let one : u ≡ v = makes_same label label.op u v makes (subst (λ (m : Label). HasUpdate m.op v) same l_makes) in
        ap (λ (m : Label). settled m.number) same
        ∙ false_from_ne_true (settled label.number) (λ it. false≢true (sym new ∙ is_settled.had_them label.number it))
        ∙ sym (ap (λ w. is_present_element (dependency_of w) (updates_passing Rga records settled)) (sym one) ∙ waits)
  ];
}

-- later commands leave the settled ones unchanged
pub settled-delivery : (records : Records) (to n : ℕ) (had settled : ℕ → Bool) → IsSettled records had settled
    → IsSettled (Deliver to n ∷ records) had settled
settled-delivery records to n had settled is_settled = record {
  had_them = is_settled.had_them;
  where_needed = λ l u there makes had_it. is_settled.where_needed l u there makes had_it
      ∙ sym (ap (is_present_element (dependency_of u)) (passing-delivery Rga records to n settled));
}

pub settled-join : (records : Records) (joined from : ℕ) (had settled : ℕ → Bool) → IsSettled records had settled
    → IsSettled (Join joined from ∷ records) had settled
settled-join records joined from had settled is_settled = record {
  had_them = is_settled.had_them;
  where_needed = λ l u there makes had_it. is_settled.where_needed l u there makes had_it
      ∙ sym (ap (is_present_element (dependency_of u)) (passing-join Rga records joined from settled));
}

pub settled-operation : (records : Records) (next : NextOperation) (had settled : ℕ → Bool)
    → had (label_count records) ≡ false → IsSettled records had settled
    → IsSettled (operate next ∷ records) had settled
settled-operation records next had settled new is_settled =
    let not_yet : settled (label_count records) ≡ false = false_from_ne_true (settled (label_count records))
    (λ it. false≢true (sym new ∙ is_settled.had_them (label_count records) it)) in
    let same = passing-operation Rga records next settled not_yet in
    record {
      had_them = is_settled.had_them;
      where_needed =
          λ l u there makes had_it. elim (head_or_behind (label_of records next) (labels_of records) l there) [
            | inl here ↦ absurd (false≢true (sym new ∙ ap (λ (m : Label). had m.number) here ∙ had_it))
            | inr older ↦ is_settled.where_needed l u older makes had_it ∙ sym (ap (is_present_element (dependency_of u)) same)
          ];
    }

pub settled-alike : (records : Records) (had more settled others : ℕ → Bool) → ((n : ℕ) → had n ≡ more n)
    → ((n : ℕ) → settled n ≡ others n) → IsSettled records had settled → IsSettled records more others
settled-alike records had more settled others same_had same is_settled =
    let updates : updates_passing Rga records settled ≡ updates_passing Rga records others =
    among-alike settled others (named_labels Rga records) (λ l u found makes. same l.number) in
    record {
      had_them = λ n it. sym (same_had n) ∙ is_settled.had_them n (same n ∙ it);
      where_needed = λ l u there makes had_it. sym (same l.number)
          ∙ is_settled.where_needed l u there makes (same_had l.number ∙ had_it) ∙ ap (is_present_element (dependency_of u)) updates;
    }
