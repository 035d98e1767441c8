-- Lemmas on reads: the values of the siblings after the writes that a label sees are those that it has to list.
use Rattle.std.proofs.Common.{◌≡◌, ℕ, ◌<◌, Bool, true, false, eqb, List, [], ◌∷◌, ◌++◌, Option, Some, None, refl, sym, ap, ◌∙◌, subst, inl, inr, arith}
use Rattle.std.specs.Prelude.{◌↔◌, ◌⊎◌, ◌&&◌, Contains, filter_map, find, option_and_then}
use Rattle.std.specs.List.{cons_option, list_all, range_with_len}
use Rattle.std.specs.Option.{option_map_or}
use Rattle.std.proofs.lemmas.Bool.{eq-eqb, ne_eqb, cond-true, cond-false, false≢true, false_from_ne_true, and_parts}
use Rattle.std.proofs.lemmas.Option.{none-some, same_Some}
use Rattle.ra_labels.specs.declared.operation.Op.{Op}
use Rattle.ra_labels.specs.declared.label.Label.{Label}
use Rattle.ra_labels.specs.declared.command.Command.TheVariants.{Operate, Deliver, Join, Verdict}
use Rattle.ra_labels.specs.declared.kind.Kind.TheVariants as kinds
use Rattle.ra_labels.specs.Explained.{value_written, values_listed}
use Rattle.ra_labels.specs.Fault.{Holds, fault_of}
use Rattle.ra_labels.specs.Lists.{have_same_elements}
use Rattle.ra_labels.specs.Records.{Records, label_count, labels_of, label_at, next_label}
use Rattle.ra_labels.specs.Visibility.{IsCausal, sees}
use Rattle.ra_labels.specs.Siblings.{siblings_at, replaced_by, values_of, values_at, lists_values, reads_list_siblings}
use Rattle.ra_labels.proofs.InLists.{bool_same, same-exactly}
use Rattle.ra_labels.proofs.Members.{head_or_behind, at_head, behind_head, none_there}
use Rattle.ra_theorems.specs.OneState.{EachLabelIsOf}
use Rattle.ra_theorems.proofs.TheoremIndex.{condition_decides-holds, condition_decides-fault}
use Rattle.ra_mvregister_model.specs.Replacing.{siblings_after, seen_in, is_read_explained, explains_reads, IsSequenceOf}
use Rattle.ra_mvregister_model.proofs.Sequences.{any_sequence, by_number}
use Rattle.ra_mvregister_model.proofs.UnseenLabels.{delivered_below, seen_below, siblings_exactly, replaced_exactly, replaced-new, replaced-others}

module _ {B : Type 0} where
  mapped_cases : (o : Option B) (ys : List B) (y : B) → Contains (cons_option o ys) y → (o ≡ Some y) ⊎ Contains ys y
  mapped_cases None ys y there = inr there
  mapped_cases (Some z) ys y there = elim (head_or_behind z ys y there) [
    | inl here ↦ inl (ap Some here)
    | inr further ↦ inr further
  ]

  mapped_behind : (o : Option B) (ys : List B) (y : B) → Contains ys y → Contains (cons_option o ys) y
  mapped_behind None ys y there = there
  mapped_behind (Some z) ys y there = behind_head z ys y there

  mapped_head : (o : Option B) (ys : List B) (y : B) → o ≡ Some y → Contains (cons_option o ys) y
  mapped_head None ys y is = absurd (none-some y is)
  mapped_head (Some z) ys y is = at_head z ys y (same_Some z y is)

module _ {A B : Type 0} where
  -- the members of a list that `filter_map` makes
  mapped_from : (h : A → Option B) (xs : List A) (y : B) → Contains (filter_map h xs) y
      → (x : A) × Contains xs x × (h x ≡ Some y)
  mapped_from h [] y there = absurd (none_there y there)
  mapped_from h (x ∷ xs) y there = elim (mapped_cases (h x) (filter_map h xs) y there) [
    | inl here ↦ (x, at_head x xs x refl, here)
    | inr further ↦ let (z, found, is) = mapped_from h xs y further in (z, behind_head x xs z found, is)
  ]

  mapped_there : (h : A → Option B) (xs : List A) (x : A) (y : B) → Contains xs x → h x ≡ Some y
      → Contains (filter_map h xs) y
  mapped_there h [] x y there is = absurd (none_there x there)
  mapped_there h (z ∷ xs) x y there is = elim (head_or_behind z xs x there) [
    | inl here ↦ mapped_head (h z) (filter_map h xs) y (ap h here ∙ is)
    | inr further ↦ mapped_behind (h z) (filter_map h xs) y (mapped_there h xs x y further is)
  ]

  -- lists with the same members are mapped to such lists
  mapped_same : (h : A → Option B) (xs zs : List A) → ((x : A) → Contains xs x → Contains zs x) → (y : B)
      → Contains (filter_map h xs) y → Contains (filter_map h zs) y
  mapped_same h xs zs same y there =
      let (x, found, is) = mapped_from h xs y there in
      mapped_there h zs x y (same x found) is

  -- and functions that agree on a list map it to the same one
  mapped_alike : (h g : A → Option B) (xs : List A) → ((x : A) → Contains xs x → h x ≡ g x)
      → filter_map h xs ≡ filter_map g xs
  mapped_alike h g [] same = refl
  mapped_alike h g (x ∷ xs) same =
      ap (λ o. cons_option o (filter_map h xs)) (same x (at_head x xs x refl))
      ∙ ap (cons_option (g x)) (mapped_alike h g xs (λ z there. same z (behind_head x xs z there)))

all_alike : {A : Type 0} (p q : A → Bool) (xs : List A) → ((x : A) → Contains xs x → p x ≡ q x)
    → list_all p xs ≡ list_all q xs
all_alike p q [] same = refl
all_alike p q (x ∷ xs) same =
    ap (λ b. b && list_all p xs) (same x (at_head x xs x refl))
    ∙ ap (λ b. q x && b) (all_alike p q xs (λ z there. same z (behind_head x xs z there)))

-- a list is compared alike with values that are the same ones
listed_alike : (list : Option (List ℕ)) (xs ys : List ℕ) → ((v : ℕ) → Contains xs v ↔ Contains ys v)
    → option_map_or (λ l. have_same_elements l xs) list true ≡ option_map_or (λ l. have_same_elements l ys) list true
listed_alike None xs ys same = refl
listed_alike (Some l) xs ys same = bool_same (have_same_elements l xs) (have_same_elements l ys)
    (λ is. (same-exactly l ys).1 (λ v. (
      (λ there. (same v).0 (((same-exactly l xs).0 is v).0 there)),
      (λ there. ((same-exactly l xs).0 is v).1 ((same v).1 there)),
    )))
    (λ is. (same-exactly l xs).1 (λ v. (
      (λ there. (same v).1 (((same-exactly l ys).0 is v).0 there)),
      (λ there. ((same-exactly l ys).0 is v).1 ((same v).0 there)),
    )))

module _ (written : Op → Option ℕ) (listed : Op → Option (List ℕ)) where
  -- the label lists the values of what it replaces, if it is a read
  abbrev is_right : Records → Label → Bool
  is_right records label =
      lists_values listed label.op (values_of written records (replaced_by records label.number))

  explained_alike : (records : Records) (sequence : List ℕ) (label : Label) → IsCausal records
      → IsSequenceOf records sequence
      → is_read_explained written listed records sequence label ≡ is_right records label
  explained_alike records sequence label causal is =
      let n = label.number in
      let after = siblings_after records (seen_in records sequence n) in
      let replaced = replaced_by records n in
      let same = λ (m : ℕ). any_sequence records sequence n m causal is in
      let value = λ (m : ℕ). option_and_then (λ l. written l.op) (label_at records m) in
      listed_alike (listed label.op) (values_of written records after) (values_of written records replaced) (λ v. (
        (λ there. mapped_same value after replaced (λ m. (same m).0) v there),
        (λ there. mapped_same value replaced after (λ m. (same m).1) v there),
      ))

  label_below : (records : Records) (label : Label) → Contains (labels_of records) label
      → label.number < label_count records
  label_below [] label there = absurd (none_there label there)
  label_below (Operate by op clock ∷ before) label there =
      elim (head_or_behind (next_label before by op clock) (labels_of before) label there) [
        | inl here ↦
            let is : label_count before ≡ label.number = ap (λ (l : Label). l.number) here in
            omega (arith, is)
        | inr further ↦ let rest = label_below before label further in omega (arith, rest)
      ]
  label_below (Deliver to n ∷ before) label there = label_below before label there
  label_below (Join joined from ∷ before) label there = label_below before label there
  label_below (Verdict ∷ before) label there = label_below before label there

  -- one more label changes no value that earlier labels write
  values_older : (before : Records) (by : ℕ) (op : Op) (clock : Option ℕ) (labels : List ℕ)
      → ((m : ℕ) → Contains labels m → m < label_count before)
      → values_of written (Operate by op clock ∷ before) labels ≡ values_of written before labels
  values_older before by op clock labels below =
      mapped_alike (λ n. option_and_then (λ label. written label.op) (label_at (Operate by op clock ∷ before) n))
      (λ n. option_and_then (λ label. written label.op) (label_at before n)) labels (λ m there.
      let other : label_count before ≡ m → ⊥ = λ is. absurd (omega (arith, below m there, is)) in
      ap (option_and_then (λ label. written label.op))
      (cond-false (eqb (label_count before) m) _ _ (ne_eqb (label_count before) m other)))

  -- the reads of all labels
  by_labels : (records : Records) → list_all (is_right records) (labels_of records)
      ≡ reads_list_siblings written listed records
  by_labels [] = refl
  by_labels (Operate by op clock ∷ before) =
      let now : Records = Operate by op clock ∷ before in
      let new = next_label before by op clock in
      let older : list_all (is_right now) (labels_of before) ≡ list_all (is_right before) (labels_of before) =
      all_alike (is_right now) (is_right before) (labels_of before) (λ label there.
      let below = label_below before label there in
      let other : ¬ (label.number ≡ label_count before) = λ is. absurd (omega (arith, below, is)) in
      ap (λ labels. lists_values listed label.op (values_of written now labels))
      (replaced-others before by label.number op clock other)
      ∙ ap (lists_values listed label.op) (values_older before by op clock (replaced_by before label.number)
      (λ m replaced. seen_below before label.number m ((replaced_exactly before label.number m).0 replaced).0))) in
      let newest : is_right now new ≡ lists_values listed op (values_at written before by) =
      ap (λ labels. lists_values listed op (values_of written now labels)) (replaced-new before by op clock)
      ∙ ap (lists_values listed op) (values_older before by op clock (siblings_at before by)
      (λ m there. delivered_below before by m ((siblings_exactly before by m).0 there).0)) in
      ap (λ b. b && list_all (is_right now) (labels_of before)) newest
      ∙ ap (λ b. lists_values listed op (values_at written before by) && b) (older ∙ by_labels before)
  by_labels (Deliver to n ∷ before) = by_labels before
  by_labels (Join joined from ∷ before) = by_labels before
  by_labels (Verdict ∷ before) = by_labels before

  pub decided : (records : Records) (sequence : List ℕ) → IsCausal records → IsSequenceOf records sequence
      → explains_reads written listed records sequence ≡ reads_list_siblings written listed records
  decided records sequence causal is =
      all_alike (is_read_explained written listed records sequence) (is_right records) (labels_of records)
      (λ label there. explained_alike records sequence label causal is)
      ∙ by_labels records

  -- some sequence explains the reads exactly if each read lists the values of the siblings
  pub some_decided : (records : Records) → IsCausal records → (reads_list_siblings written listed records ≡ true)
      ↔ ((sequence : List ℕ) × IsSequenceOf records sequence
      × (explains_reads written listed records sequence ≡ true))
  some_decided records causal = (
    (λ right.
        let labels = range_with_len 0 (label_count records) in
        (labels, by_number records, decided records labels causal (by_number records) ∙ right)),
    (λ some. sym (decided records some.0 causal some.1) ∙ some.2),
  )

  -- records whose earlier reads do not list the siblings have such reads too
  still_wrong : (later records : Records) → reads_list_siblings written listed records ≡ false
      → reads_list_siblings written listed (later ++ records) ≡ false
  still_wrong [] records wrong = wrong
  still_wrong (Operate by op clock ∷ later) records wrong =
      let before = later ++ records in
      false_from_ne_true (lists_values listed op (values_at written before by) && reads_list_siblings written listed before)
      (λ right. false≢true (sym (still_wrong later records wrong)
      ∙ (and_parts (lists_values listed op (values_at written before by)) (reads_list_siblings written listed before) right).1))
  still_wrong (Deliver to n ∷ later) records wrong = still_wrong later records wrong
  still_wrong (Join joined from ∷ later) records wrong = still_wrong later records wrong
  still_wrong (Verdict ∷ later) records wrong = still_wrong later records wrong

  pub final : (later records : Records) (sequence : List ℕ) → IsCausal (later ++ records)
      → IsSequenceOf (later ++ records) sequence → reads_list_siblings written listed records ≡ false
      → explains_reads written listed (later ++ records) sequence ≡ false
  final later records sequence causal is wrong =
      decided (later ++ records) sequence causal is ∙ still_wrong later records wrong

-- ---- the kind `mvregister`
pub register_holds : (records : Records) → EachLabelIsOf kinds.MvRegister records → IsCausal records
    → Holds kinds.MvRegister records ↔ ((sequence : List ℕ) × IsSequenceOf records sequence
    × (explains_reads value_written values_listed records sequence ≡ true))
register_holds records each causal =
    let decides = condition_decides-holds kinds.MvRegister records (inr refl) each in
    let some = some_decided value_written values_listed records causal in
    ((λ holds. some.0 (decides.0 holds)), (λ explained. decides.1 (some.1 explained)))

pub register_has_no_fault : (records : Records) → EachLabelIsOf kinds.MvRegister records → IsCausal records
    → (fault_of kinds.MvRegister records ≡ None) ↔ ((sequence : List ℕ) × IsSequenceOf records sequence
    × (explains_reads value_written values_listed records sequence ≡ true))
register_has_no_fault records each causal =
    let decides = condition_decides-fault kinds.MvRegister records (inr refl) each in
    let some = some_decided value_written values_listed records causal in
    ((λ none. some.0 (decides.0 none)), (λ explained. decides.1 (some.1 explained)))

-- ---- records with the same labels and the same visibility
module _ (written : Op → Option ℕ) (listed : Op → Option (List ℕ)) (one other : Records)
    (labels : labels_of one ≡ labels_of other) (sight : (n m : ℕ) → sees one n m ≡ sees other n m) where
  replaced_alike : (n m : ℕ) → Contains (replaced_by one n) m ↔ Contains (replaced_by other n) m
  replaced_alike n m = (
    (λ there.
        let (seen, unseen) = (replaced_exactly one n m).0 there in
        (replaced_exactly other n m).1
        (sym (sight n m) ∙ seen, λ k by_n. sym (sight k m) ∙ unseen k (sight n k ∙ by_n))),
    (λ there.
        let (seen, unseen) = (replaced_exactly other n m).0 there in
        (replaced_exactly one n m).1
        (sight n m ∙ seen, λ k by_n. sight k m ∙ unseen k (sym (sight n k) ∙ by_n))),
  )

  values_alike : (ns : List ℕ) → values_of written one ns ≡ values_of written other ns
  values_alike ns = ap (λ ls. filter_map (λ n. option_and_then (λ (l : Label). written l.op)
      (find (λ (l : Label). eqb l.number n) ls)) ns) labels

  right_alike : (label : Label) → is_right written listed one label ≡ is_right written listed other label
  right_alike label =
      let n = label.number in
      let value = λ (m : ℕ). option_and_then (λ (l : Label). written l.op) (label_at other m) in
      let mine = replaced_by one n in
      let theirs = replaced_by other n in
      ap (λ vs. lists_values listed label.op vs) (values_alike mine)
      ∙ listed_alike (listed label.op) (values_of written other mine) (values_of written other theirs) (λ v. (
        mapped_same value mine theirs (λ m. (replaced_alike n m).0) v,
        mapped_same value theirs mine (λ m. (replaced_alike n m).1) v,
      ))

  pub reads_alike : reads_list_siblings written listed one ≡ reads_list_siblings written listed other
  reads_alike =
      sym (by_labels written listed one)
      ∙ all_alike (is_right written listed one) (is_right written listed other) (labels_of one) (λ label there. right_alike label)
      ∙ ap (list_all (is_right written listed other)) labels
      ∙ by_labels written listed other
