-- Lemmas on an RGA: one more update among the passing ones is one step.
use Rattle.std.proofs.Common.{◌≡◌, ℕ, ◌+◌, Bool, true, false, List, [], ◌∷◌, ◌++◌, Option, Some, None, refl, sym, ap, ◌∙◌, subst, inl, inr, arith}
use Rattle.std.specs.Prelude.{◌↔◌, ◌==◌, ◌||◌, not, Contains, is_some, length}
use Rattle.std.specs.List.{list_all, list_any}
use Rattle.std.proofs.lemmas.Bool.{false≢true, cases_Bool, cond-true, cond-false, or_cases, or_left, eqb-true, eq-eqb, not_from_false, false_from_ne_true}
use Rattle.std.proofs.lemmas.Option.{none-some, same_Some}
use Rattle.std.proofs.lemmas.List.{length-append}
use Rattle.std.proofs.lemmas.List.Folds.{list_any-append}
use Rattle.ra_labels.specs.declared.kind.Kind.{Kind}
use Rattle.ra_labels.specs.declared.kind.Kind.TheVariants.{Rga}
use Rattle.ra_labels.specs.declared.operation.Op.{Op}
use Rattle.ra_labels.specs.declared.operation.Update.{Update}
use Rattle.ra_labels.specs.declared.operation.Update.TheVariants.{After, RgaRemove}
use Rattle.ra_labels.specs.declared.label.Label.{Label}
use Rattle.ra_labels.specs.Records.{Records, labels_of, label_at}
use Rattle.ra_labels.specs.Rewriting.{Half, Act, acts_of, update_of, updates_of}
use Rattle.ra_labels.specs.Visibility.{is_update}
use Rattle.ra_labels.specs.Lists.{insert_after}
use Rattle.ra_labels.specs.Specification.{State, Listed, state_after, is_admitted}
use Rattle.ra_labels.specs.Linearization.{updates_admitted}
use Rattle.ra_labels.specs.NamedOrder.{named_sequence}
use Rattle.ra_labels.specs.TheoremTerms.{elements_in}
use Rattle.ra_labels.specs.Insertion.{updates_among, updates_passing, or_label, HasUpdate}
use Rattle.ra_labels.specs.Commuting.{then_step}
use Rattle.ra_labels.specs.Late.{insert_late_after, kept_entries}
use Rattle.ra_labels.specs.Pending.{inserts_element, is_present_element, dependency_of, NonePending}
use Rattle.ra_labels.proofs.InLists.{list_all-from_contains}
use Rattle.ra_labels.proofs.Members.{head_or_behind, at_head, behind_head, reached, what_passes}
use Rattle.ra_theorems.proofs.Extensions.{is_update-acts}
use Rattle.ra_theorems.proofs.UniqueOrder.{label_found}
use Rattle.ra_theorems.proofs.States.{state_from, stuck, state-of_kind}
use Rattle.ra_theorems.proofs.HadUpdates.{filter_same, makes_one, makes_update}
use Rattle.ra_theorems.proofs.Meanings.{acts}
use Rattle.ra_theorems.proofs.Rgas.{in-exactly, after_is, removed_is, is_listed, list-once, came_in, comes_in}
use Rattle.ra_theorems.proofs.KeptEntries.{kept-nearest}
use Rattle.ra_theorems.proofs.LateUpdates.{after_goes, remove_goes, one_step, stays_in, from_first, late-insertion, late-one, late-removal}
use Rattle.ra_theorems.proofs.KeptUpdates.{any-put, put-any, there-list, insert_in, elements-inserted, inserted-same}
use Rattle.ra_theorems.proofs.PassingUpdates.{one-more, there-label, passing-admitted, passing-list, listed-after}

-- the elements that are present with one more update
or_moves : (a b c d : Bool) → (a || (b || (c || d))) ≡ ((a || (b || d)) || c)
or_moves true b c d = refl
or_moves false true c d = refl
or_moves false false true true = refl
or_moves false false true false = refl
or_moves false false false true = refl
or_moves false false false false = refl

there_more : (y : ℕ) (first later : List Update) (u : Update)
    → is_present_element y (first ++ u ∷ later) ≡ (is_present_element y (first ++ later) || inserts_element y u)
there_more y first later u =
    ap (λ b. y == 0 || b) (list_any-append (inserts_element y) first (u ∷ later))
    ∙ or_moves (y == 0) (list_any (inserts_element y) first) (inserts_element y u) (list_any (inserts_element y) later)
    ∙ sym (ap (λ b. (y == 0 || b) || inserts_element y u) (list_any-append (inserts_element y) first later))

pub there-more : (kind : Kind) (records : Records) (passes : ℕ → Bool) (label : Label) (u : Update) (y : ℕ)
    → Contains (labels_of records) label → HasUpdate label.op u → passes label.number ≡ false
    → is_present_element y (updates_passing kind records (or_label passes label.number))
    ≡ (is_present_element y (updates_passing kind records passes) || inserts_element y u)
there-more kind records passes label u y there makes new =
    let (before, behind, is, was, now) = one-more kind records passes label u there makes new in
    ap (is_present_element y) now ∙ there_more y (updates_among passes before) (updates_among passes behind) u
    ∙ sym (ap (λ us. is_present_element y us || inserts_element y u) was)

pub length-more : (kind : Kind) (records : Records) (passes : ℕ → Bool) (label : Label) (u : Update)
    → Contains (labels_of records) label → HasUpdate label.op u → passes label.number ≡ false
    → length (updates_passing kind records (or_label passes label.number))
    ≡ length (updates_passing kind records passes) + 1
length-more kind records passes label u there makes new =
    let (before, behind, is, was, now) = one-more kind records passes label u there makes new in
    let first = updates_among passes before in
    let later = updates_among passes behind in
    let more : length (first ++ u ∷ later) ≡ length (first ++ later) + 1 =
    omega (arith, length-append first (u ∷ later), length-append first later) in
    ap length now ∙ more ∙ sym (ap (λ us. length us + 1) was)

-- a label makes only one update, and no other label has its number
pub makes_same : (label : Label) (operation : Op) (u v : Update) → HasUpdate operation u → HasUpdate operation v → u ≡ v
makes_same label operation u v makes also =
    let both : u ∷ [] ≡ v ∷ [] = sym (makes_one label operation u makes) ∙ makes_one label operation v also in
    cc (both)

pub made-once : (operation : Op) (u v : Update) → HasUpdate operation u → HasUpdate operation v → u ≡ v
made-once operation u v makes also =
    makes_same (record { number = 0; replica = 0; op = operation; stamp = None }) operation u v makes also

pub made-exactly : (operation : Op) → (is_update operation ≡ true) ↔ ((u : Update) × HasUpdate operation u)
made-exactly operation = (
  (λ is.
      let (act, found, does) = what_passes (λ (a : Half × Act). is_some (update_of a.1)) (acts_of operation)
      (sym (is_update-acts operation) ∙ is) in
      let (u, same) = (acts act.1).0 does in
      (u, (act.0, subst (λ a. Contains (acts_of operation) (act.0, a)) same found))),
  (λ (u, makes). makes_update operation u makes),
)

pub same_number : (records : Records) (l m : Label) → Contains (labels_of records) l → Contains (labels_of records) m
    → l.number ≡ m.number → l ≡ m
same_number records l m l_there m_there is =
    same_Some l m (sym (label_found records l l_there) ∙ ap (label_at records) is ∙ label_found records m m_there)

-- only one label inserts a given element, and the element is not the root
pub put_in-once : (records : Records) (k l : Label) (a b x : ℕ)
    → updates_admitted Rga (named_sequence Rga records) ≡ true → Contains (labels_of records) k
    → Contains (labels_of records) l → HasUpdate k.op (After a x) → HasUpdate l.op (After b x) → k ≡ l
put_in-once records k l a b x admitted k_there l_there makes also =
    let passes : ℕ → Bool = λ n. n == k.number in
    let is : (l.number == k.number) ≡ true =
    sym (there-label records passes l b x admitted l_there also)
    ∙ there-label records passes k a x admitted k_there makes ∙ eq-eqb k.number k.number refl in
    sym (same_number records l k l_there k_there (eqb-true l.number k.number is))

pub put_in-other : (records : Records) (k : Label) (a x : ℕ) → updates_admitted Rga (named_sequence Rga records) ≡ true
    → Contains (labels_of records) k → HasUpdate k.op (After a x) → ¬ (x ≡ 0)
put_in-other records k a x admitted there makes root =
    let none : ℕ → Bool = λ n. false in
    false≢true (sym (there-label records none k a x admitted there makes) ∙ or_left (x == 0) _ (eq-eqb x 0 root))

-- no update is pending after one more update whose dependency is present
pub none-waits_more : (records : Records) (passes : ℕ → Bool) (label : Label) (u : Update)
    → Contains (labels_of records) label → HasUpdate label.op u → passes label.number ≡ false
    → NonePending records passes → is_present_element (dependency_of u) (updates_passing Rga records passes) ≡ true
    → NonePending records (or_label passes label.number)
none-waits_more records passes label u there makes new none needs l v l_there l_makes l_passes =
    let us = updates_passing Rga records passes in
    let needed : is_present_element (dependency_of v) us ≡ true =
    elim (or_cases (passes l.number) (l.number == label.number) l_passes) [
      | inl old ↦ none l v l_there l_makes old
      | inr is ↦
          let same : l ≡ label = same_number records l label l_there there (eqb-true l.number label.number is) in
          let one : u ≡ v = makes_same label label.op u v makes (subst (λ (m : Label). HasUpdate m.op v) same l_makes) in
          ap (λ w. is_present_element (dependency_of w) us) (sym one) ∙ needs
    ] in
    there-more Rga records passes label u (dependency_of v) there makes new
    ∙ or_left (is_present_element (dependency_of v) us) (inserts_element (dependency_of v) u) needed

-- if updates lead to a list, so do the first of them
pub split-led : (first later : List Update) (list : List (ℕ × Bool))
    → state_after Rga (first ++ later) ≡ Some (Listed list) → (older : List (ℕ × Bool))
    × (state_after Rga first ≡ Some (Listed older)) × (state_from (Some (Listed older)) later ≡ Some (Listed list))
split-led first later list led = by (state_after Rga first) refl (sym (from_first first later) ∙ led)
  where
    by : (o : Option State) → state_after Rga first ≡ o → state_from o later ≡ Some (Listed list)
        → (older : List (ℕ × Bool)) × (state_after Rga first ≡ Some (Listed older))
        × (state_from (Some (Listed older)) later ≡ Some (Listed list))
    by None is goes = absurd (none-some (Listed list) (sym (stuck later) ∙ goes))
    by (Some state) is goes =
        let (older, same) = is_listed state (state-of_kind Rga first state is) in
        (older, is ∙ ap Some same, ap (λ s. state_from (Some s) later) (sym same) ∙ goes)

-- an insertion among other updates: its anchor is in the list before it, and its element is in no list
abbrev pub Fits : List Update → List Update → ℕ → ℕ → List (ℕ × Bool) → Type 0
Fits first later anchor x list =
    (older : List (ℕ × Bool)) × (state_after Rga first ≡ Some (Listed older)) × Contains (elements_in older) anchor
    × (¬ Contains (elements_in list) x)

pub inserted_fits : (first later : List Update) (anchor x : ℕ) (list next : List (ℕ × Bool))
    → state_after Rga (first ++ later) ≡ Some (Listed list)
    → state_after Rga (first ++ After anchor x ∷ later) ≡ Some (Listed next) → Fits first later anchor x list
inserted_fits first later anchor x list next led also =
    let (older, led_first, goes) = split-led first (After anchor x ∷ later) next also in
    let further : state_from (Some (Listed older)) later ≡ Some (Listed list) =
    ap (λ o. state_from o later) (sym led_first) ∙ sym (from_first first later) ∙ led in
    let (mid, step, rest) = one_step older (After anchor x) later next goes in
    let (anchored, new, same) = after_is older mid anchor x step in
    let x_in =
    (comes_in older (After anchor x ∷ []) mid anchor x step
    (at_head (After anchor x) [] (After anchor x) refl)).0 in (
      older,
      led_first,
      (in-exactly anchor older).0 anchored,
      (λ found. elim (came_in older later list x further found) [
        | inl old ↦ new old
        | inr (a, put) ↦ (comes_in mid later next a x rest put).1 x_in
      ]),
    )

-- the new element goes past the elements that are inserted later
inserted_late : (first later : List Update) (anchor x : ℕ) (list : List (ℕ × Bool))
    → state_after Rga (first ++ later) ≡ Some (Listed list) → Fits first later anchor x list
    → state_after Rga (first ++ After anchor x ∷ later)
    ≡ Some (Listed (insert_late_after (λ y z. list_any (inserts_element z) later) anchor x list))
inserted_late first later anchor x list led (older, led_first, anchor_in, out) =
    let below : ℕ → ℕ → Bool = λ y z. list_any (inserts_element z) later in
    let further : state_from (Some (Listed older)) later ≡ Some (Listed list) =
    ap (λ o. state_from o later) (sym led_first) ∙ sym (from_first first later) ∙ led in
    let none : list_all (λ entry. not (below x entry.0)) older ≡ true =
    list_all-from_contains (λ (entry : ℕ × Bool). not (list_any (inserts_element entry.0) later)) older
    (λ entry found. not_from_false (list_any (inserts_element entry.0) later)
    (false_from_ne_true (list_any (inserts_element entry.0) later) (λ some.
    let (a, put) = any-put entry.0 later some in
    (comes_in older later list a entry.0 further put).1 (reached (λ (e : ℕ × Bool). e.0) older entry found)))) in
    late-insertion below first later anchor x older list led_first led anchor_in out none
    (λ behind y found. put-any y behind later found)

-- so it stands directly behind one element
abbrev StandsBehind : ℕ → List (ℕ × Bool) → List (ℕ × Bool) → Type 0
StandsBehind x list next = (q : ℕ) × Contains (elements_in list) q × (next ≡ insert_after q x list)

inserted_one : (first later : List Update) (anchor x : ℕ) (list next : List (ℕ × Bool))
    → state_after Rga (first ++ later) ≡ Some (Listed list)
    → state_after Rga (first ++ After anchor x ∷ later) ≡ Some (Listed next)
    → Fits first later anchor x list → StandsBehind x list next
inserted_one first later anchor x list next led also (older, led_first, anchor_in, out) =
    let further : state_from (Some (Listed older)) later ≡ Some (Listed list) =
    ap (λ o. state_from o later) (sym led_first) ∙ sym (from_first first later) ∙ led in
    let below : ℕ → ℕ → Bool = λ y z. list_any (inserts_element z) later in
    let both : Some (Listed next) ≡ Some (Listed (insert_late_after below anchor x list)) = sym also
    ∙ inserted_late first later anchor x list led (older, led_first, anchor_in, out) in
    let same : next ≡ insert_late_after below anchor x list = cc (both) in
    let (q, q_in, is) = late-one below anchor x list (list-once (first ++ later) list led)
    (stays_in anchor older later list further anchor_in) in
    (q, q_in, same ∙ is)

-- the elements of the list determine which one
first_stays : (p x y : ℕ) (ys zs : List ℕ) → insert_in p x (y ∷ ys) ≡ x ∷ zs → y ≡ x
first_stays p x y ys zs is = elim (cases_Bool (p == y)) [
  | inl here ↦
      let both : y ∷ x ∷ ys ≡ x ∷ zs = sym (cond-true (p == y) (y ∷ x ∷ ys) (y ∷ insert_in p x ys) here) ∙ is in
      cc (both)
  | inr other ↦
      let both : y ∷ insert_in p x ys ≡ x ∷ zs =
      sym (cond-false (p == y) (y ∷ x ∷ ys) (y ∷ insert_in p x ys) other) ∙ is in
      cc (both)
]

would_be_there : (p x : ℕ) (ys zs : List ℕ) → Contains ys p → insert_in p x ys ≡ x ∷ zs → Contains ys x
would_be_there p x [] zs there is = absurd (omega (arith, there.1))
would_be_there p x (y ∷ ys) zs there is = at_head y ys x (first_stays p x y ys zs is)

one_place : (q p x : ℕ) (ys : List ℕ) → Contains ys q → Contains ys p → ¬ Contains ys x
    → insert_in q x ys ≡ insert_in p x ys → q ≡ p
one_place q p x [] q_in p_in out same = absurd (omega (arith, q_in.1))
one_place q p x (y ∷ ys) q_in p_in out same =
    let here : (r : ℕ) → (r == y) ≡ true → insert_in r x (y ∷ ys) ≡ y ∷ x ∷ ys =
    λ r is. cond-true (r == y) (y ∷ x ∷ ys) (y ∷ insert_in r x ys) is in
    let on : (r : ℕ) → (r == y) ≡ false → insert_in r x (y ∷ ys) ≡ y ∷ insert_in r x ys =
    λ r is. cond-false (r == y) (y ∷ x ∷ ys) (y ∷ insert_in r x ys) is in
    let behind : (r : ℕ) → (r == y) ≡ false → Contains (y ∷ ys) r
    → Contains ys r = λ r is there. elim (head_or_behind y ys r there) [
      | inl first ↦ absurd (false≢true (sym is ∙ eq-eqb r y (sym first)))
      | inr later ↦ later
    ] in
    elim (cases_Bool (q == y)) [
      | inl q_here ↦ elim (cases_Bool (p == y)) [
        | inl p_here ↦ eqb-true q y q_here ∙ sym (eqb-true p y p_here)
        | inr p_on ↦
            let both : y ∷ insert_in p x ys ≡ y ∷ x ∷ ys = sym (on p p_on) ∙ sym same ∙ here q q_here in
            let rest : insert_in p x ys ≡ x ∷ ys = cc (both) in
            absurd (out (behind_head y ys x (would_be_there p x ys ys (behind p p_on p_in) rest)))
      ]
      | inr q_on ↦ elim (cases_Bool (p == y)) [
        | inl p_here ↦
            let both : y ∷ insert_in q x ys ≡ y ∷ x ∷ ys = sym (on q q_on) ∙ same ∙ here p p_here in
            let rest : insert_in q x ys ≡ x ∷ ys = cc (both) in
            absurd (out (behind_head y ys x (would_be_there q x ys ys (behind q q_on q_in) rest)))
        | inr p_on ↦
            let both : y ∷ insert_in q x ys ≡ y ∷ insert_in p x ys = sym (on q q_on) ∙ same ∙ on p p_on in
            let rest : insert_in q x ys ≡ insert_in p x ys = cc (both) in
            one_place q p x ys (behind q q_on q_in) (behind p p_on p_in) (λ found. out (behind_head y ys x found)) rest
      ]
    ]

-- one more insertion is one step: after the nearest present element before it in the list of all
pub insertion-step : (records : Records) (passes : ℕ → Bool) (label : Label) (anchor x p : ℕ)
    (before between behind : List (ℕ × Bool)) (is_shown was_shown : Bool)
    → state_after Rga (updates_of (named_sequence Rga records)) ≡ Some
    (Listed (before ++ (p, is_shown) ∷ between ++ (x, was_shown) ∷ behind)) → Contains (labels_of records) label
    → HasUpdate label.op (After anchor x)
    → passes label.number ≡ false → is_admitted Rga (updates_passing Rga records passes) ≡ true
    → is_present_element anchor (updates_passing Rga records passes) ≡ true
    → is_present_element p (updates_passing Rga records passes) ≡ true
    → list_all (λ entry. not (is_present_element entry.0 (updates_passing Rga records passes))) between ≡ true
    → state_after Rga (updates_passing Rga records (or_label passes label.number))
    ≡ then_step (state_after Rga (updates_passing Rga records passes)) (After p x)
insertion-step records passes label anchor x p before between behind is_shown was_shown led_all there makes new is needs
    p_there none =
    let all : List (ℕ × Bool) = before ++ (p, is_shown) ∷ between ++ (x, was_shown) ∷ behind in
    let more : ℕ → Bool = or_label passes label.number in
    let us = updates_passing Rga records passes in
    let keep : ℕ → Bool = λ y. is_present_element y us in
    let all_led : updates_admitted Rga (named_sequence Rga records) ≡ true = ap is_some led_all in
    let (list, led) = listed-after us is in
    let (next, now_led) = listed-after (updates_passing Rga records more)
    ((passing-admitted records more all_led).1
    (none-waits_more records passes label (After anchor x) there makes new
    ((passing-admitted records passes all_led).0 is) needs)) in
    let (fronts, backs, split, was, now) = one-more Rga records passes label (After anchor x) there makes new in
    let first = updates_among passes fronts in
    let later = updates_among passes backs in
    let led_was : state_after Rga (first ++ later) ≡ Some (Listed list) = ap (state_after Rga) (sym was) ∙ led in
    let led_now : state_after Rga (first ++ After anchor x ∷ later) ≡ Some (Listed next) =
    ap (state_after Rga) (sym now) ∙ now_led in
    let fits = inserted_fits first later anchor x list next led_was led_now in
    let out : ¬ Contains (elements_in list) x = fits.3 in
    let (q, q_in, at_q) = inserted_one first later anchor x list next led_was led_now fits in
    let x_new : keep x ≡ false = false_from_ne_true (keep x) (λ found. out ((there-list us list x led).0 found)) in
    let p_in : Contains (elements_in list) p = (there-list us list p led).0 p_there in
    let alike : kept_entries (λ y. is_present_element y (updates_passing Rga records more)) all
    ≡ kept_entries (λ y. keep y || x == y) all =
    filter_same (λ (entry : ℕ × Bool). is_present_element entry.0 (updates_passing Rga records more))
    (λ (entry : ℕ × Bool). keep entry.0 || x == entry.0) all
    (λ entry found. there-more Rga records passes label (After anchor x) entry.0 there makes new) in
    let elements : elements_in (insert_after q x list) ≡ elements_in (insert_after p x list) =
    ap elements_in (sym at_q)
    ∙ passing-list records more next all led_all now_led
    ∙ ap elements_in alike
    ∙ kept-nearest keep before between behind p x is_shown was_shown
    (list-once (updates_of (named_sequence Rga records)) all led_all) p_there none x_new
    ∙ sym (inserted-same p x list (kept_entries keep all) (passing-list records passes list all led_all led)) in
    let place : q ≡ p = one_place q p x (elements_in list) q_in p_in out
    (sym (elements-inserted q x list) ∙ elements ∙ elements-inserted p x list) in
    now_led
    ∙ ap (λ es. Some (Listed es)) (at_q ∙ ap (λ r. insert_after r x list) place)
    ∙ sym (ap (λ o. then_step o (After p x)) led ∙ after_goes list p x p_in out)

-- one more removal is one step
pub removal-step : (records : Records) (passes : ℕ → Bool) (label : Label) (x : ℕ)
    → updates_admitted Rga (named_sequence Rga records) ≡ true → Contains (labels_of records) label
    → HasUpdate label.op (RgaRemove x)
    → passes label.number ≡ false → is_admitted Rga (updates_passing Rga records passes) ≡ true
    → is_present_element x (updates_passing Rga records passes) ≡ true
    → state_after Rga (updates_passing Rga records (or_label passes label.number))
    ≡ then_step (state_after Rga (updates_passing Rga records passes)) (RgaRemove x)
removal-step records passes label x all_led there makes new is needs =
    let more : ℕ → Bool = or_label passes label.number in
    let us = updates_passing Rga records passes in
    let (list, led) = listed-after us is in
    let (next, now_led) = listed-after (updates_passing Rga records more)
    ((passing-admitted records more all_led).1
    (none-waits_more records passes label (RgaRemove x) there makes new
    ((passing-admitted records passes all_led).0 is) needs)) in
    let (fronts, backs, split, was, now) = one-more Rga records passes label (RgaRemove x) there makes new in
    let first = updates_among passes fronts in
    let later = updates_among passes backs in
    let (older, led_first, goes) =
    split-led first (RgaRemove x ∷ later) next (ap (state_after Rga) (sym now) ∙ now_led) in
    let (mid, step, rest) = one_step older (RgaRemove x) later next goes in
    let (x_in, other, same) = removed_is older mid x step in
    ap (state_after Rga) now
    ∙ late-removal first later x older list led_first (ap (state_after Rga) (sym was) ∙ led) x_in other
    ∙ sym (ap (λ o. then_step o (RgaRemove x)) led ∙ remove_goes list x ((there-list us list x led).0 needs) other)

-- an insertion among other updates is admitted exactly if its anchor is present after the updates before it, and its
-- element is absent after all other updates
pub inserted-admitted : (first later : List Update) (anchor x : ℕ) → is_admitted Rga (first ++ later) ≡ true
    → (is_admitted Rga (first ++ After anchor x ∷ later) ≡ true)
    ↔ ((is_present_element anchor first ≡ true) × (is_present_element x (first ++ later) ≡ false))
inserted-admitted first later anchor x is =
    let (list, led) = listed-after (first ++ later) is in (
      (λ also.
          let (next, led_now) = listed-after (first ++ After anchor x ∷ later) also in
          let (older, led_first, anchor_in, out) = inserted_fits first later anchor x list next led led_now in (
            (there-list first older anchor led_first).1 anchor_in,
            false_from_ne_true (is_present_element x (first ++ later))
                (λ found. out ((there-list (first ++ later) list x led).0 found)),
          )),
      (λ known.
          let (older, led_first, goes) = split-led first later list led in
          ap is_some
          (inserted_late first later anchor x list led (
            older,
            led_first,
            (there-list first older anchor led_first).0
                known.0,
            (λ found. false≢true (sym known.1 ∙ (there-list (first ++ later) list x led).1 found)),
          ))),
    )

-- and a removal exactly if its element is present after the updates before it and is not the root
pub removed-admitted : (first later : List Update) (x : ℕ) → is_admitted Rga (first ++ later) ≡ true
    → (is_admitted Rga (first ++ RgaRemove x ∷ later) ≡ true) ↔ ((is_present_element x first ≡ true) × ¬ (x ≡ 0))
removed-admitted first later x is =
    let (list, led) = listed-after (first ++ later) is in (
      (λ also.
          let (next, led_now) = listed-after (first ++ RgaRemove x ∷ later) also in
          let (older, led_first, goes) = split-led first (RgaRemove x ∷ later) next led_now in
          let (mid, step, rest) = one_step older (RgaRemove x) later next goes in
          let (x_in, other, same) = removed_is older mid x step in
          ((there-list first older x led_first).1 x_in, other)),
      (λ known.
          let (older, led_first, goes) = split-led first later list led in
          ap is_some
          (late-removal first later x older list led_first led
          ((there-list first older x led_first).0 known.0) known.1)),
    )
