-- Lemmas on labels at their numbers, and on their updates.
use Rattle.std.proofs.Common.{◌≡◌, ℕ, ◌<◌, Bool, true, false, cond, List, [], ◌∷◌, ◌++◌, map, length, reverse, get_or, Option, Some, None, refl, sym, ap, ◌∙◌, subst, inl, inr, append_assoc, arith}
use Rattle.std.specs.Prelude.{◌==◌, Contains, is_some}
use Rattle.std.specs.Option.{option_map_or}
use Rattle.std.specs.List.{slice_get, list_any, AllByRecursion}
use mathlib.Core.List.{reverse-cons}
use Rattle.std.proofs.lemmas.Bool.{cases_eq, eq-eqb, ne_eqb}
use Rattle.std.proofs.lemmas.Option.{none-some, same_Some}
use Rattle.std.proofs.lemmas.List.{append-nil, map-append, length-map, length-reverse, get_or_append_left, get_or_at}
use Rattle.std.proofs.lemmas.List.Elements.{recursion_from_All, All-from_recursion}
use Rattle.std.proofs.lemmas.List.Sorted.{All-permutation}
use Rattle.ra_labels.specs.declared.kind.Kind.{Kind}
use Rattle.ra_labels.specs.declared.operation.Op.{Op}
use Rattle.ra_labels.specs.declared.operation.Update.{Update}
use Rattle.ra_labels.specs.declared.label.Label.{Label}
use Rattle.ra_labels.specs.declared.command.Command.TheVariants.{Operate, Deliver, Join, Verdict}
use Rattle.ra_labels.specs.Records.{Records, label_count, label_at, labels_of, next_label}
use Rattle.ra_labels.specs.Visibility.{is_update, is_update_at}
use Rattle.ra_labels.specs.Rewriting.{Half, Act, Does, Asks, acts_of, update_of}
use Rattle.ra_labels.specs.NamedOrder.{named_labels}
use Rattle.ra_labels.specs.Insertion.{HasUpdate}
use Rattle.ra_labels.proofs.Members.{at_head, behind_head}
use Rattle.ra_labels.proofs.Counted.{labels_counted}
use Rattle.ra_labels.specs.HistorySoFar.{NextOperation, next_operation, operate, label_of}
use Rattle.ra_theorems.proofs.TheoremIndex.{delivered_are_updates-there, update_iff_part_is_update, named_labels_sorted-same}
use Rattle.ra_witness.specs.Labels.{updates_in, head_of, update_in, updates_by_number}
use Rattle.ra_witness.specs.States.{update_at}

-- one of the acts does the update
abbrev IsMade : List (Half × Act) → Update → Type 0
IsMade acts u = (half : Half) × Contains acts (half, Does u)

first_made : (acts : List (Half × Act)) (u : Update) → head_of (updates_in acts) ≡ Some u → IsMade acts u
first_made [] u is = absurd (none-some u is)
first_made ((half, Does v) ∷ acts) u is =
    (half, subst (λ w. Contains ((half, Does v) ∷ acts) (half, Does w)) (same_Some v u is) (at_head (half, Does v) acts (half, Does v) refl))
first_made ((half, Asks query) ∷ acts) u is =
    let rest = first_made acts u is in (rest.0, behind_head (half, Asks query) acts (rest.0, Does u) rest.1)

pub makes_it : (op : Op) (u : Update) → update_in op ≡ Some u → HasUpdate op u
makes_it op u is = first_made (acts_of op) u is

none_made : (acts : List (Half × Act)) → head_of (updates_in acts) ≡ None → list_any (λ (act : Half × Act). is_some (update_of act.1)) acts ≡ false
none_made [] is = refl
none_made ((half, Does v) ∷ acts) is = absurd (none-some v (sym is))
none_made ((half, Asks query) ∷ acts) is = none_made acts is

pub makes_none : (op : Op) → update_in op ≡ None → is_update op ≡ false
makes_none op is = update_iff_part_is_update op ∙ none_made (acts_of op) is

any_made : (acts : List (Half × Act)) (u : Update) → head_of (updates_in acts) ≡ Some u → list_any (λ (act : Half × Act). is_some (update_of act.1)) acts ≡ true
any_made [] u is = absurd (none-some u is)
any_made ((half, Does v) ∷ acts) u is = refl
any_made ((half, Asks query) ∷ acts) u is = any_made acts u is

pub makes_some : (op : Op) (u : Update) → update_in op ≡ Some u → is_update op ≡ true
makes_some op u is = update_iff_part_is_update op ∙ any_made (acts_of op) u is

counted_in_turn : (records : Records) → length (reverse (labels_of records)) ≡ label_count records
counted_in_turn records = length-reverse (labels_of records) ∙ labels_counted records

abbrev done_by : Label → Option Update
done_by label = update_in label.op

pub updates_counted : (records : Records) → length (updates_by_number records) ≡ label_count records
updates_counted records = length-map (reverse (labels_of records)) done_by ∙ counted_in_turn records

-- the update of the newest label is appended
pub updates_more : (records : Records) (next : NextOperation)
    → updates_by_number (operate next ∷ records) ≡ updates_by_number records ++ update_in next.op ∷ []
updates_more records next =
    let label = label_of records next in
    ap (map done_by) (reverse-cons label (labels_of records)) ∙ map-append done_by (reverse (labels_of records)) (label ∷ [])

-- label n exists and is an update, which is found at its number
pub record IsUpdateAt (records : Records) (n : ℕ) (label : Label) : Type 0 where
  pub there : Contains (labels_of records) label
  pub number : label.number ≡ n
  pub update : is_update label.op ≡ true
  pub found : update_at (updates_by_number records) n ≡ update_in label.op

its_update : (records : Records) (n : ℕ) (label : Label) → n ≡ label_count records → (b : Bool) → (label_count records == n) ≡ b → b ≡ true
    → option_map_or (λ (l : Label). is_update l.op) (cond (label_count records == n) (Some label) (label_at records n)) false ≡ true → is_update label.op ≡ true
its_update records n label same b is passes h =
    sym (ap (λ c. option_map_or (λ (l : Label). is_update l.op) (cond c (Some label) (label_at records n)) false) (is ∙ passes)) ∙ h

pub update_found : (records : Records) (n : ℕ) → is_update_at records n ≡ true → (label : Label) × IsUpdateAt records n label
update_found [] n is = absurd (cc (is))
update_found (Operate by op clock ∷ before) n is =
    let label = next_label before by op clock in
    elim (cases_eq (label_count before) n) [
      | inl same ↦ (
        label,
        record {
          there = at_head label (labels_of before) label refl;
          number = same;
          update = its_update before n label (sym same) true (eq-eqb (label_count before) n same) refl is;
          found =
              ap (λ us. get_or us n None) (updates_more before (next_operation by op clock))
              ∙ get_or_at (updates_by_number before) (update_in op) [] None n (updates_counted before ∙ same);
        },
      )
      | inr other ↦
          let older : is_update_at before n ≡ true =
          sym (ap (λ c. option_map_or (λ (l : Label). is_update l.op) (cond c (Some label) (label_at before n)) false) (ne_eqb (label_count before) n other)) ∙ is in
          let (l, at) = update_found before n older in
          let below : n < length (updates_by_number before) = omega (arith, updates_counted before, delivered_are_updates-there before n older) in (
            l,
            record {
              there = behind_head label (labels_of before) l at.there;
              number = at.number;
              update = at.update;
              found =
                  ap (λ us. get_or us n None) (updates_more before (next_operation by op clock))
                  ∙ get_or_append_left (updates_by_number before) (update_in op ∷ []) None n below
                  ∙ at.found;
            },
          )
    ]
update_found (Deliver to label ∷ before) n is = let (l, at) = update_found before n is in
    (l, record { there = at.there; number = at.number; update = at.update; found = at.found })
update_found (Join joined from ∷ before) n is = let (l, at) = update_found before n is in
    (l, record { there = at.there; number = at.number; update = at.update; found = at.found })
update_found (Verdict ∷ before) n is = let (l, at) = update_found before n is in
    (l, record { there = at.there; number = at.number; update = at.update; found = at.found })

-- the label is found at its number
abbrev pub IsFoundIn : List Label → Label → Type 0
IsFoundIn labels label = slice_get labels label.number ≡ Some label

get_at_seam : (xs : List Label) (y : Label) (ys : List Label) → slice_get (xs ++ y ∷ ys) (length xs) ≡ Some y
get_at_seam [] y ys = refl
get_at_seam (x ∷ xs) y ys = get_at_seam xs y ys

pub found_in_turn : (records : Records) (rest : List Label) → AllByRecursion (IsFoundIn (reverse (labels_of records) ++ rest)) (labels_of records)
found_in_turn [] rest = tt
found_in_turn (Operate by op clock ∷ before) rest =
    let label = next_label before by op clock in
    let older = reverse (labels_of before) in
    let list : reverse (label ∷ labels_of before) ++ rest ≡ older ++ label ∷ rest =
    ap (λ (ls : List Label). ls ++ rest) (reverse-cons label (labels_of before)) ∙ append_assoc older (label ∷ []) rest in
    let head : slice_get (older ++ label ∷ rest) (label_count before) ≡ Some label =
    ap (slice_get (older ++ label ∷ rest)) (sym (counted_in_turn before)) ∙ get_at_seam older label rest in
    subst (λ (ls : List Label). AllByRecursion (IsFoundIn ls) (label ∷ labels_of before)) (sym list) (head, found_in_turn before (label ∷ rest))
found_in_turn (Deliver to label ∷ before) rest = found_in_turn before rest
found_in_turn (Join joined from ∷ before) rest = found_in_turn before rest
found_in_turn (Verdict ∷ before) rest = found_in_turn before rest

-- each label of the named order is found at its number
pub named_found : (kind : Kind) (records : Records) → AllByRecursion (IsFoundIn (reverse (labels_of records))) (named_labels kind records)
named_found kind records =
    let P = IsFoundIn (reverse (labels_of records)) in
    let in_turn = subst (λ (ls : List Label). AllByRecursion (IsFoundIn ls) (labels_of records)) (append-nil (reverse (labels_of records))) (found_in_turn records []) in
    recursion_from_All P (named_labels kind records)
    (All-permutation P (labels_of records) (named_labels kind records) (named_labels_sorted-same kind records) (All-from_recursion P (labels_of records) in_turn))
