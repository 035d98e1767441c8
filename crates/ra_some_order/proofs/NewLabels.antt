-- Lemmas on what one more command adds to the conditions. Nothing that was there changes: later labels are not seen.
use Rattle.std.proofs.Common.{◌≡◌, ◌↔◌, ℕ, ◌<◌, Bool, true, false, cond, List, [], ◌∷◌, ◌++◌, filter, refl, sym, ap, ◌∙◌, subst, inl, inr, arith}
use Rattle.std.specs.Prelude.{flat_map, Contains, if◌then◌else◌}
use Rattle.std.proofs.lemmas.Bool.{cond-false, false_from_ne_true}
use Rattle.std.proofs.lemmas.List.Elements.{All-contains, Contains-append_right}
use Rattle.ra_labels.specs.declared.label.Label.{Label}
use Rattle.ra_labels.specs.declared.command.Command.TheVariants.{Operate, Deliver, Join, Verdict}
use Rattle.ra_labels.specs.Records.{Records, label_count, labels_of}
use Rattle.ra_labels.specs.Visibility.{is_update, sees}
use Rattle.ra_labels.specs.HistorySoFar.{NextOperation, operate, label_of}
use Rattle.ra_labels.proofs.Counted.{numbers_below_count}
use Rattle.ra_labels.proofs.Members.{head_or_behind, at_head, behind_head}
use Rattle.ra_theorems.proofs.LabelNumbers.{label_count-append}
use Rattle.ra_theorems.proofs.TheoremIndex.{sees_persists, sees_earlier_updates-updates, delivered_are_updates-there}
use Rattle.ra_precedence.specs.Conditions.{Condition}
use Rattle.ra_some_order.specs.VisibleUpdates.{visible_labels}
use Rattle.ra_some_order.specs.UpdateConditions.{conditions_of, conditions_of_label, visibility_conditions, read_conditions}
use Rattle.ra_some_order.specs.PlainConditions.{IsPossibleRead, MeetsPlainConditions}

filter_same : {A : Type 0} (p q : A → Bool) (xs : List A) → ((x : A) → Contains xs x → p x ≡ q x)
    → filter p xs ≡ filter q xs
filter_same p q [] same = refl
filter_same p q (x ∷ xs) same =
    ap (λ b. cond b (x ∷ filter p xs) (filter p xs)) (same x (at_head x xs x refl))
    ∙ ap (λ ys. cond (q x) (x ∷ ys) ys) (filter_same p q xs (λ y there. same y (behind_head x xs y there)))

mapped_same : {A B : Type 0} (f g : A → List B) (xs : List A) → ((x : A) → Contains xs x → f x ≡ g x)
    → flat_map f xs ≡ flat_map g xs
mapped_same f g [] same = refl
mapped_same f g (x ∷ xs) same =
    (λ i. same x (at_head x xs x refl) i ++ mapped_same f g xs (λ y there. same y (behind_head x xs y there)) i)

pub label_below : (records : Records) (label : Label) → Contains (labels_of records) label
    → label.number < label_count records
label_below records label there =
    All-contains (λ (l : Label). l.number < label_count records) (labels_of records) label
    (numbers_below_count records) there

pub seen_below : (records : Records) (n m : ℕ) → sees records n m ≡ true → m < label_count records
seen_below records n m seen =
    delivered_are_updates-there records m (sees_earlier_updates-updates records n m seen)

-- ---- a label sees the same in later records
module _ (next : NextOperation) (before : Records) (n : ℕ) (below : n < label_count before) where
  abbrev now : Records
  now = operate next ∷ before

  new_unseen : sees now n (label_count before) ≡ false
  new_unseen = false_from_ne_true (sees now n (label_count before)) (λ seen.
      let bound = seen_below before n (label_count before)
      (sym (sees_persists (operate next ∷ []) before n (label_count before) below) ∙ seen) in
      absurd (omega (arith, bound)))

  visible_after : visible_labels now n ≡ visible_labels before n
  visible_after =
      cond-false (sees now n (label_count before)) (label_of before next ∷ filter (λ (l : Label). sees now n l.number)
      (labels_of before))
      (filter (λ (l : Label). sees now n l.number) (labels_of before)) new_unseen
      ∙ filter_same (λ (l : Label). sees now n l.number) (λ (l : Label). sees before n l.number) (labels_of before)
      (λ l there. sees_persists (operate next ∷ []) before n l.number below)

conditions_older : (next : NextOperation) (before : Records) (label : Label) → Contains (labels_of before) label
    → conditions_of_label (operate next ∷ before) label ≡ conditions_of_label before label
conditions_older next before label there =
    ap (λ (visible : List Label). if is_update label.op then visibility_conditions visible label.number
    else read_conditions visible label.op)
    (visible_after next before label.number (label_below before label there))

pub conditions-new : (records : Records) (next : NextOperation) → conditions_of (operate next ∷ records)
    ≡ conditions_of_label (operate next ∷ records) (label_of records next) ++ conditions_of records
conditions-new records next =
    ap (λ cs. conditions_of_label (operate next ∷ records) (label_of records next) ++ cs)
    (mapped_same (conditions_of_label (operate next ∷ records)) (conditions_of_label records) (labels_of records)
    (conditions_older next records))

possible_same : (next : NextOperation) (before : Records) (label : Label) → Contains (labels_of before) label
    → IsPossibleRead (visible_labels (operate next ∷ before) label.number) label.op
    ↔ IsPossibleRead (visible_labels before label.number) label.op
possible_same next before label there =
    let same = visible_after next before label.number (label_below before label there) in (
      (λ is. subst (λ visible. IsPossibleRead visible label.op) same is),
      (λ is. subst (λ visible. IsPossibleRead visible label.op) (sym same) is),
    )

pub plain-new : (records : Records) (next : NextOperation) → MeetsPlainConditions (operate next ∷ records)
    ↔ (IsPossibleRead (visible_labels (operate next ∷ records) (label_count records)) next.op
    × MeetsPlainConditions records)
plain-new records next = (
  (λ meets. (
    meets (label_of records next) (at_head (label_of records next) (labels_of records) (label_of records next) refl),
    λ label there. (possible_same next records label there).0
        (meets label (behind_head (label_of records next) (labels_of records) label there)),
  )),
  (λ (new, meets) label there. elim (head_or_behind (label_of records next) (labels_of records) label there) [
    | inl here ↦
        subst (λ (l : Label). IsPossibleRead (visible_labels (operate next ∷ records) l.number) l.op) here new
    | inr further ↦ (possible_same next records label further).1 (meets label further)
  ]),
)

pub conditions-delivery : (records : Records) (to n : ℕ) → conditions_of
    (Deliver to n ∷ records) ≡ conditions_of records
conditions-delivery records to n = refl

pub conditions-join : (records : Records) (joined from : ℕ) → conditions_of
    (Join joined from ∷ records) ≡ conditions_of records
conditions-join records joined from = refl

-- ---- later records
pub visible_stays : (later records : Records) (n : ℕ) → n < label_count records
    → visible_labels (later ++ records) n ≡ visible_labels records n
visible_stays [] records n below = refl
visible_stays (Operate by op clock ∷ later) records n below =
    let grows = label_count-append later records in
    visible_after (record { by = by; op = op; clock = clock }) (later ++ records) n (omega (arith, below, grows))
    ∙ visible_stays later records n below
visible_stays (Deliver to m ∷ later) records n below = visible_stays later records n below
visible_stays (Join joined from ∷ later) records n below = visible_stays later records n below
visible_stays (Verdict ∷ later) records n below = visible_stays later records n below

pub conditions_stay : (later records : Records) (condition : Condition) → Contains (conditions_of records) condition
    → Contains (conditions_of (later ++ records)) condition
conditions_stay [] records condition there = there
conditions_stay (Operate by op clock ∷ later) records condition there =
    let next : NextOperation = record { by = by; op = op; clock = clock } in
    let before = later ++ records in
    subst (λ cs. Contains cs condition) (sym (conditions-new before next))
    (Contains-append_right (conditions_of_label (operate next ∷ before) (label_of before next)) (conditions_of before)
    condition (conditions_stay later records condition there))
conditions_stay (Deliver to n ∷ later) records condition there = conditions_stay later records condition there
conditions_stay (Join joined from ∷ later) records condition there = conditions_stay later records condition there
conditions_stay (Verdict ∷ later) records condition there = conditions_stay later records condition there

pub plain_before : (later records : Records) → MeetsPlainConditions (later ++ records) → MeetsPlainConditions records
plain_before [] records meets = meets
plain_before (Operate by op clock ∷ later) records meets =
    let next : NextOperation = record { by = by; op = op; clock = clock } in
    plain_before later records ((plain-new (later ++ records) next).0 meets).1
plain_before (Deliver to n ∷ later) records meets = plain_before later records meets
plain_before (Join joined from ∷ later) records meets = plain_before later records meets
plain_before (Verdict ∷ later) records meets = plain_before later records meets
