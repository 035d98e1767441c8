-- Lemmas on the order of the updates in a sequence.
use Rattle.std.proofs.Common.{◌≡◌, ℕ, ◌+◌, ◌≤◌, Bool, true, false, cond, List, [], ◌∷◌, ◌++◌, filter, Option, Some, None, refl, sym, ap, ◌∙◌, subst, inl, inr, arith}
use Rattle.std.specs.Prelude.{◌==◌, is_some, map, Contains, IsPermutation}
use Rattle.std.specs.List.{sum_by, find}
use Rattle.std.specs.Option.{option_map_or}
use Rattle.std.proofs.lemmas.Option.{none-some, same_Some}
use Rattle.std.proofs.lemmas.Bool.{cases_Bool, cases_eq, eqb-true, false≢true, cond-true, cond-false, eq-eqb, ne_eqb}
use Rattle.std.proofs.lemmas.List.{map-append}
use Rattle.std.proofs.lemmas.List.Elements.{filter-append}
use Rattle.std.proofs.lemmas.List.Sums.{sum_by-append, sum_by-cons}
use Rattle.std.proofs.lemmas.List.Sorted.{sum_by-IsPermutation, Contains-permutation, IsPermutation-sym}
use Rattle.ra_labels.specs.declared.operation.Op.{Op}
use Rattle.ra_labels.specs.declared.operation.Op.TheVariants as op
use Rattle.ra_labels.specs.declared.list_operation.ListOp.TheVariants as list
use Rattle.ra_labels.specs.declared.label.Label.{Label}
use Rattle.ra_labels.specs.declared.command.Command.TheVariants.{Operate, Deliver, Join, Verdict}
use Rattle.ra_labels.specs.Edges.{EachOnce}
use Rattle.ra_labels.specs.Records.{Records, label_count, labels_of, label_at, next_label}
use Rattle.ra_labels.specs.Visibility.{is_update, is_update_at}
use Rattle.ra_labels.specs.declared.operation.Update.{Update}
use Rattle.ra_labels.specs.Rewriting.{Part, acts_of, part_of, parts_of, update_of}
use Rattle.ra_labels.specs.Linearization.{parts_in}
use Rattle.ra_labels.proofs.Members.{at_head, behind_head, reached, from_where, kept-there, there-kept}
use Rattle.ra_theorems.proofs.TheoremIndex.{label_at_each_number-found}
use Rattle.ra_some_order.specs.SomeOrder.{update_order}
use Rattle.ra_some_order.specs.UpdateConditions.{IsOrderOfUpdates}
use Rattle.ra_some_order.proofs.MadeUpdates.{update_made, part_makes, making_part, update_if_made, some_update, is_some-value}

abbrev pub is_update_part : Part → Bool
is_update_part p = is_some (update_of p.act)

pub order-append : (xs ys : List Part) → update_order (xs ++ ys) ≡ update_order xs ++ update_order ys
order-append xs ys =
    ap (map (λ (p : Part). p.label.number)) (filter-append is_update_part xs ys)
    ∙ map-append (λ (p : Part). p.label.number) (filter is_update_part xs) (filter is_update_part ys)

pub order-cons : (p : Part) (xs : List Part) → is_update_part p ≡ true
    → update_order (p ∷ xs) ≡ p.label.number ∷ update_order xs
order-cons p xs is =
    ap (map (λ (q : Part). q.label.number)) (cond-true (is_update_part p) (p ∷ filter is_update_part xs)
    (filter is_update_part xs) is)

pub in_order : (xs : List Part) (p : Part) → Contains xs p → is_update_part p ≡ true
    → Contains (update_order xs) p.label.number
in_order xs p there is =
    reached (λ (q : Part). q.label.number) (filter is_update_part xs) p (kept-there is_update_part xs p there is)

pub from_order : (xs : List Part) (n : ℕ) → Contains (update_order xs) n
    → (p : Part) × Contains xs p × (is_update_part p ≡ true) × (p.label.number ≡ n)
from_order xs n there =
    let (p, found, is) = from_where (λ (q : Part). q.label.number) (filter is_update_part xs) n there in
    let kept = there-kept is_update_part xs p found in
    (p, kept.0, kept.1, is)

-- ---- each number is in the order once
abbrev one_at : ℕ → ℕ → ℕ
one_at x n = cond (n == x) 1 0

-- 1 for an update of label x
abbrev counts : ℕ → Part → ℕ
counts x p = cond (is_update_part p) (one_at x p.label.number) 0

counted_one : (x : ℕ) (b : Bool) (n : ℕ) (ns : List ℕ)
    → sum_by (one_at x) (cond b (n ∷ ns) ns) ≡ cond b (one_at x n) 0 + sum_by (one_at x) ns
counted_one x true n ns = sum_by-cons (one_at x) n ns
counted_one x false n ns = omega arith

pub mapped_cond : (b : Bool) (p : Part) (ps : List Part)
    → map (λ q. q.label.number) (cond b (p ∷ ps) ps) ≡ cond b (p.label.number ∷ map (λ q. q.label.number) ps)
    (map (λ q. q.label.number) ps)
mapped_cond true p ps = refl
mapped_cond false p ps = refl

counted : (x : ℕ) (ps : List Part) → sum_by (one_at x) (update_order ps) ≡ sum_by (counts x) ps
counted x [] = refl
counted x (p ∷ ps) =
    ap (sum_by (one_at x)) (mapped_cond (is_update_part p) p (filter is_update_part ps))
    ∙ counted_one x (is_update_part p) p.label.number (update_order ps)
    ∙ ap (λ k. counts x p + k) (counted x ps)
    ∙ sym (sum_by-cons (counts x) p ps)

-- a label has one update at most
own_count : (x : ℕ) (label : Label) (operation : Op)
    → sum_by (counts x) (map (part_of label) (acts_of operation)) ≤ one_at x label.number
own_count x label op.Inc = omega arith
own_count x label (op.List (list.Insert insertion)) = omega arith
own_count x label (op.List (list.Remove element)) = omega arith
own_count x label (op.List (list.Read elements)) = omega arith
own_count x label (op.List (list.Part elements)) = omega arith
own_count x label _ = omega arith

all_counts : (x : ℕ) (records : Records)
    → (sum_by (counts x) (parts_in records) ≤ 1) × (label_count records ≤ x → sum_by (counts x) (parts_in records) ≡ 0)
all_counts x [] = (omega arith, λ above. refl)
all_counts x (Operate by operation clock ∷ before) =
    let new = next_label before by operation clock in
    let rest = all_counts x before in
    let split = sum_by-append (counts x) (parts_of new) (parts_in before) in
    let own = own_count x new operation in (
      elim (cases_eq (label_count before) x) [
        | inl is ↦
            let none = rest.1 (omega (arith, is)) in
            let one : one_at x (label_count before) ≡ 1 = cond-true (label_count before == x) 1 0 (eq-eqb _ _ is) in
            omega (arith, split, own, none, one)
        | inr other ↦
            let some = rest.0 in
            let none : one_at x (label_count before) ≡ 0 = cond-false (label_count before == x) 1 0
            (ne_eqb _ _ other) in
            omega (arith, split, own, some, none)
      ],
      λ above.
          let other : ¬ (label_count before ≡ x) = λ is. absurd (omega (arith, above, is)) in
          let none = rest.1 (omega (arith, above)) in
          let zero : one_at x (label_count before) ≡ 0 = cond-false (label_count before == x) 1 0 (ne_eqb _ _ other) in
          omega (arith, split, own, none, zero),
    )
all_counts x (Deliver to n ∷ before) = all_counts x before
all_counts x (Join joined from ∷ before) = all_counts x before
all_counts x (Verdict ∷ before) = all_counts x before

pub order_once : (records : Records) (sequence : List Part) → IsPermutation (parts_in records) sequence
    → EachOnce (update_order sequence)
order_once records sequence same x =
    let here = counted x sequence in
    let moved = sum_by-IsPermutation (counts x) (parts_in records) sequence same in
    let low = (all_counts x records).0 in
    omega (arith, here, moved, low)

-- ---- which numbers are in the order
pub found_there : (test : Label → Bool) (labels : List Label) (label : Label) → find test labels ≡ Some label
    → Contains labels label × (test label ≡ true)
found_there test [] label is = absurd (none-some label is)
found_there test (l ∷ labels) label is = elim (cases_Bool (test l)) [
  | inl here ↦
      let same = same_Some l label (sym (cond-true (test l) (Some l) (find test labels) here) ∙ is) in
      (at_head l labels label same, ap test (sym same) ∙ here)
  | inr further ↦
      let rest = found_there test labels label (sym (cond-false (test l) (Some l) (find test labels) further) ∙ is) in
      (behind_head l labels label rest.0, rest.1)
]

-- the label with the number of an update
pub update_label : (records : Records) (n : ℕ) → is_update_at records n ≡ true
    → (label : Label) × Contains (labels_of records) label × (label.number ≡ n) × (is_update label.op ≡ true)
update_label records n is = at_option (label_at records n) refl is
  where
    at_option : (o : Option Label) → label_at records n ≡ o → option_map_or (λ label. is_update label.op) o false ≡ true
        → (label : Label) × Contains (labels_of records) label × (label.number ≡ n) × (is_update label.op ≡ true)
    at_option None at is = absurd (false≢true is)
    at_option (Some label) at is =
        let found = found_there (λ (l : Label). l.number == n) (labels_of records) label at in
        (label, found.0, eqb-true label.number n found.1, is)

-- a part that makes an update is one of a label with an update
pub update_in_order : (records : Records) (sequence : List Part) → IsPermutation (parts_in records) sequence
    → (label : Label) (u : Update) → Contains (labels_of records) label → update_made label.op ≡ Some u
    → (p : Part) × Contains sequence p × (p.label ≡ label) × (update_of p.act ≡ Some u)
update_in_order records sequence same label u there makes =
    let (p, found, of_label, does) = making_part records label u there makes in
    (p, Contains-permutation (parts_in records) sequence p same found, of_label, does)

pub order_of_updates : (records : Records) (sequence : List Part) → IsPermutation (parts_in records) sequence
    → IsOrderOfUpdates records (update_order sequence)
order_of_updates records sequence same = record {
  once = order_once records sequence same;
  all =
      λ n. (
        (λ is.
            let (label, there, numbered, updates) = update_label records n is in
            let (u, makes) = some_update label.op updates in
            let (p, found, of_label, does) = update_in_order records sequence same label u there makes in
            subst (Contains (update_order sequence)) (ap (λ (l : Label). l.number) of_label ∙ numbered)
            (in_order sequence p found (ap is_some does))),
        (λ there.
            let (p, found, updates, numbered) = from_order sequence n there in
            let (u, does) = is_some-value (update_of p.act) updates in
            let (among, makes) = part_makes records p u
            (Contains-permutation sequence (parts_in records) p
            (IsPermutation-sym (parts_in records) sequence same) found)
            does in
            subst (λ m. is_update_at records m ≡ true) numbered
            (ap (λ o. option_map_or (λ (l : Label). is_update l.op) o false)
            (label_at_each_number-found records p.label among)
            ∙ sym (update_if_made p.label.op) ∙ ap is_some makes)),
      );
}
