-- Lemmas on reads that agree: two that see the same updates returned the same value.
use Rattle.std.proofs.Common.{◌≡◌, ◌↔◌, ℕ, ◌<◌, eqb, Bool, true, false, [], ◌∷◌, cond, Option, Some, None, refl, sym, ap, ◌∙◌, subst, inl, inr, arith}
use Rattle.std.specs.Prelude.{◌==◌, ◌||◌, not, ◌&&◌, Contains}
use Rattle.std.specs.Option.{option_map_or}
use Rattle.std.specs.List.{list_all, range_with_len}
use Rattle.std.proofs.lemmas.Bool.{false≢true, cases_Bool, cases_lt, cond-true, cond-false, eq-eqb, ne_eqb, eqb-true, and_parts, and_from, or_cases, or_left, or_right, not-true, not_from_false, false_from_ne_true}
use Rattle.std.proofs.lemmas.Option.{none-some, same_Some}
use Rattle.std.proofs.lemmas.List.Elements.{All-contains}
use Rattle.ra_labels.specs.declared.operation.Op.{Op}
use Rattle.ra_labels.specs.declared.label.Label.{Label}
use Rattle.ra_labels.specs.declared.command.Command.TheVariants.{Operate}
use Rattle.ra_labels.specs.Records.{Records, label_count, labels_of, next_label}
use Rattle.ra_labels.specs.Visibility.{has_delivered, sees}
use Rattle.ra_labels.specs.Agreement.{is_seen_alike, sees_the_same, agrees_with, agrees_with_earlier, reads_agree}
use Rattle.ra_labels.proofs.Counted.{numbers_below_count}
use Rattle.ra_labels.proofs.InLists.{bool_same, list_all-contains, list_all-from_contains}
use Rattle.ra_labels.proofs.Members.{head_or_behind, at_head, behind_head, none_there}
use Rattle.ra_theorems.proofs.TheoremIndex.{sees_earlier_updates-updates, delivered_are_updates-there, delivered_are_updates-updates}
use Rattle.ra_labels.proofs.Ranges.{in_range}

-- ---- a label sees what was delivered to a replica
same_truth : (a b : Bool) → cond a b (not b) ≡ true → a ≡ b
same_truth true true is = refl
same_truth true false is = absurd (false≢true is)
same_truth false true is = absurd (false≢true is)
same_truth false false is = refl

truth_same : (a b : Bool) → a ≡ b → cond a b (not b) ≡ true
truth_same true true is = refl
truth_same true false is = absurd (false≢true (sym is))
truth_same false true is = absurd (false≢true is)
truth_same false false is = refl

-- no label is seen or delivered before it exists
pub sees_beyond : (records : Records) (n m : ℕ) → ¬ (m < label_count records) → sees records n m ≡ false
sees_beyond records n m beyond = false_from_ne_true (sees records n m)
    (λ seen. beyond (delivered_are_updates-there records m (sees_earlier_updates-updates records n m seen)))

pub had_beyond : (records : Records) (replica m : ℕ) → ¬ (m < label_count records) → has_delivered records replica m ≡ false
had_beyond records replica m beyond = false_from_ne_true (has_delivered records replica m)
    (λ had. beyond (delivered_are_updates-there records m (delivered_are_updates-updates records replica m had)))

pub same_exactly : (records : Records) (by m : ℕ) → (sees_the_same records by m ≡ true)
    ↔ ((n : ℕ) → sees records m n ≡ has_delivered records by n)
same_exactly records by m = (
  (λ same n. elim (cases_lt n (label_count records)) [
    | inl below ↦ same_truth (sees records m n) (has_delivered records by n)
        (list_all-contains (is_seen_alike records by m) (range_with_len 0 (label_count records)) n same
        (in_range 0 (label_count records) n (omega arith) (omega (arith, below))))
    | inr above ↦
        let beyond : ¬ (n < label_count records) = λ below. absurd (omega (arith, below, above)) in
        sees_beyond records m n beyond ∙ sym (had_beyond records by n beyond)
  ]),
  (λ each. list_all-from_contains (is_seen_alike records by m) (range_with_len 0 (label_count records))
      (λ n there. truth_same (sees records m n) (has_delivered records by n) (each n))),
)

-- ---- what the labels of records see after one more label
newest_sees : (before : Records) (by : ℕ) (op : Op) (clock : Option ℕ) (n : ℕ)
    → sees (Operate by op clock ∷ before) (label_count before) n ≡ has_delivered before by n
newest_sees before by op clock n =
    cond-true (eqb (label_count before) (label_count before)) (has_delivered before by n)
    (sees before (label_count before) n) (eq-eqb (label_count before) (label_count before) refl)

older_sees : (before : Records) (by : ℕ) (op : Op) (clock : Option ℕ) (label : Label) (n : ℕ)
    → Contains (labels_of before) label
    → sees (Operate by op clock ∷ before) label.number n ≡ sees before label.number n
older_sees before by op clock label n there =
    let below : label.number < label_count before =
    All-contains (λ l. l.number < label_count before) (labels_of before) label (numbers_below_count before) there in
    cond-false (eqb label.number (label_count before)) (has_delivered before by n) (sees before label.number n)
    (ne_eqb label.number (label_count before) (λ is. absurd (omega (arith, is, below))))

-- ---- one read against an earlier one
agreed : (value_of : Op → Option ℕ) (records : Records) (by value : ℕ) (earlier : Label) (other : ℕ)
    → agrees_with value_of records by value earlier ≡ true → value_of earlier.op ≡ Some other
    → sees_the_same records by earlier.number ≡ true → value ≡ other
agreed value_of records by value earlier other agrees read same =
    let test : Option ℕ → Bool = λ o. option_map_or (λ v. not (sees_the_same records by earlier.number) || value == v) o true in
    let now : (not (sees_the_same records by earlier.number) || value == other) ≡ true = sym (ap test read) ∙ agrees in
    elim (or_cases (not (sees_the_same records by earlier.number)) (value == other) now) [
      | inl differs ↦ absurd (false≢true (sym (not-true (sees_the_same records by earlier.number) differs) ∙ same))
      | inr is ↦ eqb-true value other is
    ]

agrees : (value_of : Op → Option ℕ) (records : Records) (by value : ℕ) (earlier : Label)
    → ((other : ℕ) → value_of earlier.op ≡ Some other → sees_the_same records by earlier.number ≡ true → value ≡ other)
    → (o : Option ℕ) → value_of earlier.op ≡ o
    → option_map_or (λ v. not (sees_the_same records by earlier.number) || value == v) o true ≡ true
agrees value_of records by value earlier each None read = refl
agrees value_of records by value earlier each (Some other) read =
    elim (cases_Bool (sees_the_same records by earlier.number)) [
      | inl same ↦ or_right (not (sees_the_same records by earlier.number)) (value == other)
          (eq-eqb value other (each other read same))
      | inr differs ↦ or_left (not (sees_the_same records by earlier.number)) (value == other)
          (not_from_false (sees_the_same records by earlier.number) differs)
    ]

pub earlier_exactly : (value_of : Op → Option ℕ) (records : Records) (by value : ℕ)
    → (agrees_with_earlier value_of records by value ≡ true)
    ↔ ((earlier : Label) (other : ℕ) → Contains (labels_of records) earlier → value_of earlier.op ≡ Some other
    → sees_the_same records by earlier.number ≡ true → value ≡ other)
earlier_exactly value_of records by value = (
  (λ all earlier other there.
      agreed value_of records by value earlier other
      (list_all-contains (agrees_with value_of records by value) (labels_of records) earlier all there)),
  (λ each. list_all-from_contains (agrees_with value_of records by value) (labels_of records) (λ earlier there.
      agrees value_of records by value earlier (λ other. each earlier other there) (value_of earlier.op) refl)),
)

-- ---- one more label
pub new_read : (value_of : Op → Option ℕ) (before : Records) (by : ℕ) (op : Op) (clock : Option ℕ) (value : ℕ)
    → value_of op ≡ Some value → (reads_agree value_of (Operate by op clock ∷ before) ≡ true)
    ↔ ((reads_agree value_of before ≡ true) × ((earlier : Label) (other : ℕ)
    → Contains (labels_of before) earlier → value_of earlier.op ≡ Some other
    → sees_the_same before by earlier.number ≡ true → value ≡ other))
new_read value_of before by op clock value read =
    let test : Option ℕ → Bool = λ o. option_map_or (agrees_with_earlier value_of before by) o true in
    let now : test (value_of op) ≡ agrees_with_earlier value_of before by value = ap test read in (
      (λ agree.
          let parts = and_parts (test (value_of op)) (reads_agree value_of before) agree in
          (parts.1, (earlier_exactly value_of before by value).0 (sym now ∙ parts.0))),
      (λ both. and_from (test (value_of op)) (reads_agree value_of before)
          (now ∙ (earlier_exactly value_of before by value).1 both.1) both.0),
    )

pub no_read : (value_of : Op → Option ℕ) (before : Records) (by : ℕ) (op : Op) (clock : Option ℕ)
    → value_of op ≡ None → reads_agree value_of (Operate by op clock ∷ before) ≡ reads_agree value_of before
no_read value_of before by op clock none =
    ap (λ o. option_map_or (agrees_with_earlier value_of before by) o true && reads_agree value_of before) none

-- ---- all pairs of reads
-- holds if two reads that see the same updates returned the same value
abbrev SameSameValue : (Op → Option ℕ) → Records → Type 0
SameSameValue value_of records = (read other : Label) (value second : ℕ) → Contains (labels_of records) read
    → Contains (labels_of records) other → value_of read.op ≡ Some value → value_of other.op ≡ Some second
    → ((n : ℕ) → sees records read.number n ≡ sees records other.number n) → value ≡ second

-- the newest label against an older one
newest_agrees : (value_of : Op → Option ℕ) (before : Records) (by : ℕ) (op : Op) (clock : Option ℕ) (read other : Label)
    (value second : ℕ) → reads_agree value_of (Operate by op clock ∷ before) ≡ true
    → next_label before by op clock ≡ read → Contains (labels_of before) other → value_of read.op ≡ Some value
    → value_of other.op ≡ Some second
    → ((n : ℕ) → sees (Operate by op clock ∷ before) read.number n ≡ sees (Operate by op clock ∷ before) other.number n)
    → value ≡ second
newest_agrees value_of before by op clock read other value second agree is there reads others same =
    let valued : value_of op ≡ Some value = ap (λ l. value_of l.op) is ∙ reads in
    let alike : (n : ℕ) → sees before other.number n ≡ has_delivered before by n = λ n.
    sym (older_sees before by op clock other n there) ∙ sym (same n)
    ∙ sym (ap (λ l. sees (Operate by op clock ∷ before) l.number n) is) ∙ newest_sees before by op clock n in
    ((new_read value_of before by op clock value valued).0 agree).1 other second there others
    ((same_exactly before by other.number).1 alike)

agree_same : (value_of : Op → Option ℕ) (records : Records) → reads_agree value_of records ≡ true
    → SameSameValue value_of records
agree_same value_of [] agree read other value second there with reads others same = absurd (none_there read there)
agree_same value_of (Operate by op clock ∷ before) agree read other value second there with reads others same =
    let newest = next_label before by op clock in
    elim (head_or_behind newest (labels_of before) read there) [
      | inl is ↦ elim (head_or_behind newest (labels_of before) other with) [
        | inl also ↦ same_Some value second (sym reads ∙ ap (λ l. value_of l.op) (sym is ∙ also) ∙ others)
        | inr older ↦ newest_agrees value_of before by op clock read other value second agree is older reads others same
      ]
      | inr old ↦ elim (head_or_behind newest (labels_of before) other with) [
        | inl is ↦ sym (newest_agrees value_of before by op clock other read second value agree is old others reads
            (λ n. sym (same n)))
        | inr older ↦
            let rest = (and_parts _ (reads_agree value_of before) agree).1 in
            agree_same value_of before rest read other value second old older reads others (λ n.
            sym (older_sees before by op clock read n old) ∙ same n ∙ older_sees before by op clock other n older)
      ]
    ]
agree_same value_of (_ ∷ before) agree read other value second there with reads others same =
    agree_same value_of before agree read other value second there with reads others same

-- by what the newest label read
same_agree_new : (value_of : Op → Option ℕ) (before : Records) (by : ℕ) (op : Op) (clock : Option ℕ) (o : Option ℕ)
    → value_of op ≡ o → reads_agree value_of before ≡ true → SameSameValue value_of (Operate by op clock ∷ before)
    → reads_agree value_of (Operate by op clock ∷ before) ≡ true
same_agree_new value_of before by op clock None read rest same = no_read value_of before by op clock read ∙ rest
same_agree_new value_of before by op clock (Some value) read rest same =
    let newest = next_label before by op clock in
    (new_read value_of before by op clock value read).1 (
      rest,
      (λ earlier other there others alike.
          same newest earlier value other (at_head newest (labels_of before) newest refl)
          (behind_head newest (labels_of before) earlier there) read others (λ n.
          newest_sees before by op clock n ∙ sym ((same_exactly before by earlier.number).0 alike n)
          ∙ sym (older_sees before by op clock earlier n there))),
    )

same_agree : (value_of : Op → Option ℕ) (records : Records) → SameSameValue value_of records
    → reads_agree value_of records ≡ true
same_agree value_of [] same = refl
same_agree value_of (Operate by op clock ∷ before) same =
    let newest = next_label before by op clock in
    let rest : SameSameValue value_of before = λ read other value second there with reads others alike.
    same read other value second (behind_head newest (labels_of before) read there)
    (behind_head newest (labels_of before) other with) reads others (λ n.
    older_sees before by op clock read n there ∙ alike n ∙ sym (older_sees before by op clock other n with)) in
    same_agree_new value_of before by op clock (value_of op) refl (same_agree value_of before rest) same
same_agree value_of (_ ∷ before) same = same_agree value_of before same

pub agree_exactly : (value_of : Op → Option ℕ) (records : Records)
    → (reads_agree value_of records ≡ true) ↔ SameSameValue value_of records
agree_exactly value_of records = (agree_same value_of records, same_agree value_of records)

-- ---- records with the same labels and the same visibility
agree_from : (value_of : Op → Option ℕ) (one other : Records) → labels_of one ≡ labels_of other
    → ((n m : ℕ) → sees one n m ≡ sees other n m) → reads_agree value_of one ≡ true → reads_agree value_of other ≡ true
agree_from value_of one other labels sight agree = (agree_exactly value_of other).1
    (λ read earlier value second read_there earlier_there read_is earlier_is same.
    (agree_exactly value_of one).0 agree read earlier value second
    (subst (λ ls. Contains ls read) (sym labels) read_there)
    (subst (λ ls. Contains ls earlier) (sym labels) earlier_there) read_is earlier_is
    (λ n. sight read.number n ∙ same n ∙ sym (sight earlier.number n)))

pub agree_alike : (value_of : Op → Option ℕ) (one other : Records) → labels_of one ≡ labels_of other
    → ((n m : ℕ) → sees one n m ≡ sees other n m) → reads_agree value_of one ≡ reads_agree value_of other
agree_alike value_of one other labels sight = bool_same (reads_agree value_of one) (reads_agree value_of other)
    (agree_from value_of one other labels sight)
    (agree_from value_of other one (sym labels) (λ n m. sym (sight n m)))
