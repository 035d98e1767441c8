-- Lemmas on which part stands before which, in a sequence that extends `must_precede`.
use Rattle.std.proofs.Common.{◌≡◌, ℕ, suc, Bool, true, false, List, [], ◌∷◌, ◌++◌, refl, sym, ap, ◌∙◌, subst, inl, inr, arith}
use Rattle.std.specs.Prelude.{◌==◌, ◌||◌, nat_lt, not, is_some, Contains, ◌&&◌, map}
use Rattle.std.specs.List.{list_all, list_any}
use Rattle.std.proofs.lemmas.Bool.{true≢false, not-true, not_from_false, and_parts, and_from, and_right, le-ltb, false_from_ne_true, or_from}
use Rattle.std.proofs.lemmas.List.Elements.{Contains-append_right}
use Rattle.std.proofs.lemmas.List.Sorted.{Contains-permutation}
use Rattle.std.proofs.lemmas.List.Folds.{list_all-append}
use Rattle.ra_labels.specs.declared.kind.Kind.{Kind}
use Rattle.ra_labels.specs.declared.operation.Op.{Op}
use Rattle.ra_labels.specs.declared.operation.Op.TheVariants as op
use Rattle.ra_labels.specs.declared.list_operation.ListOp.TheVariants as list
use Rattle.ra_labels.specs.Records.{Records}
use Rattle.ra_labels.specs.Visibility.{is_update, sees}
use Rattle.ra_labels.specs.Rewriting.{Half, Whole, QueryHalf, UpdateHalf, Part, acts_of, update_of, Act, Does, Asks, part_of}
use Rattle.ra_labels.specs.Linearization.{parts_in, extends, must_precede, are_halves, is_visible_to, is_earlier_at_replica}
use Rattle.ra_labels.specs.Linearization.{is_query_half_of, IsRaLinearizationBy, IsRaLinearization}
use Rattle.ra_labels.specs.TheoremTerms.{StandsBefore, AllStandBefore, HasNoDuplicates}
use Rattle.ra_labels.proofs.InLists.{list_all-contains, list_all-from_contains}
use Rattle.ra_labels.proofs.Members.{head_or_behind, split_at}
use Rattle.ra_theorems.proofs.SeenLabels.{sees_earlier}
use Rattle.ra_labels.specs.declared.operation.Op.TheVariants.{Inc, OrRemove}
use Rattle.ra_labels.specs.declared.operation.Update.TheVariants.{TakeOut}
use Rattle.ra_labels.specs.declared.operation.Update.TheVariants as updates
use Rattle.ra_labels.specs.declared.list_operation.ListUpdate.TheVariants as change
use Rattle.ra_labels.specs.declared.operation.Query.TheVariants.{ReadIds}
use Rattle.ra_labels.specs.declared.operation.Query.TheVariants as queries
use Rattle.ra_labels.specs.declared.list_operation.ListQuery.TheVariants as ask
use Rattle.ra_labels.specs.declared.label.Label.{Label}

-- in a sequence that extends an order, each element stands before those that it must precede
pub extends-stands : {A : Type 0} (precedes : A → A → Bool) → ((p : A) → precedes p p ≡ false) → (xs : List A)
    → extends precedes xs ≡ true → AllStandBefore precedes xs
extends-stands precedes irreflexive [] extended p q (k, within, is) found_q must = absurd (omega arith)
extends-stands precedes irreflexive (x ∷ xs) extended p q found_p found_q must =
    let parts = and_parts (list_all (λ r. not (precedes r x)) xs) (extends precedes xs) extended in
    elim (head_or_behind x xs p found_p) [
      | inl p_here ↦ elim (head_or_behind x xs q found_q) [
        | inl q_here ↦
            let same : p ≡ q = sym p_here ∙ q_here in
            absurd (true≢false (sym must ∙ ap (λ r. precedes p r) (sym same) ∙ irreflexive p))
        | inr q_further ↦
            let rest = split_at xs q q_further in
            ([], rest.0, rest.1, (λ i. p_here i ∷ rest.2 i))
      ]
      | inr p_further ↦ elim (head_or_behind x xs q found_q) [
        | inl q_here ↦
            let not_so = not-true (precedes p x) (list_all-contains (λ r. not (precedes r x)) xs p parts.0 p_further) in
            absurd (true≢false (sym must ∙ ap (λ r. precedes p r) (sym q_here) ∙ not_so))
        | inr q_further ↦
            let rest = extends-stands precedes irreflexive xs parts.1 p q p_further q_further must in
            (x ∷ rest.0, rest.1, rest.2, ap (λ ys. x ∷ ys) rest.3)
      ]
    ]

-- if p is not the head, an element that stands before q stands before it in the tail as well
stands_behind : {A : Type 0} (x : A) (xs : List A) (p q : A) → ¬ (x ≡ p) → StandsBefore p q (x ∷ xs)
    → StandsBefore p q xs
stands_behind x xs p q other ([], between, after, is) = absurd (other (cc is))
stands_behind x xs p q other (y ∷ before, between, after, is) = (before, between, after, cc is)

-- if an element stands before the head, the head also occurs in the tail
head_again : {A : Type 0} (x : A) (xs : List A) (p : A) → StandsBefore p x (x ∷ xs) → Contains xs x
head_again x xs p ([], between, after, is) =
    let behind : between ++ x ∷ after ≡ xs = cc is in
    subst (λ ys. Contains ys x) behind (Contains-append_right between (x ∷ after) x (0, omega arith, refl))
head_again x xs p (y ∷ before, between, after, is) =
    let behind : before ++ p ∷ between ++ x ∷ after ≡ xs = cc is in
    subst (λ ys. Contains ys x) behind
    (Contains-append_right (before ++ p ∷ between) (x ∷ after) x (0, omega arith, refl))

-- the converse, for a list without duplicates
pub stands-extends : {A : Type 0} (precedes : A → A → Bool) (xs : List A) → HasNoDuplicates xs → AllStandBefore precedes xs
    → extends precedes xs ≡ true
stands-extends precedes [] once stand = refl
stands-extends precedes (x ∷ xs) once stand =
    let deeper = λ (y : _) (found : Contains xs y). let at : Contains (x ∷ xs) y =
    (suc found.0, omega (arith, found.1), found.2) in at in
    and_from
    (list_all (λ r. not (precedes r x)) xs)
    (extends precedes xs)
    (list_all-from_contains (λ r. not (precedes r x)) xs (λ r found.
    not_from_false (precedes r x) (false_from_ne_true (precedes r x) (λ must.
    once.0 (head_again x xs r (stand r x (deeper r found) (0, omega arith, refl) must))))))
    (stands-extends precedes xs once.1 (λ p q found_p found_q must.
    stands_behind x xs p q (λ is. once.0 (subst (Contains xs) (sym is) found_p))
    (stand p q (deeper p found_p) (deeper q found_q) must)))

no_halves : (half : Half) → are_halves half half ≡ false
no_halves Whole = refl
no_halves QueryHalf = refl
no_halves UpdateHalf = refl

-- no label sees itself
pub sees_not_itself : (records : Records) (n : ℕ) → sees records n n ≡ false
sees_not_itself records n = false_from_ne_true (sees records n n)
    (λ seen. let earlier = sees_earlier records n n seen in absurd (omega (arith, earlier.0)))

-- no part must precede itself
pub must_precede-irreflexive : (records : Records) (p : Part) → must_precede records p p ≡ false
must_precede-irreflexive records p =
    or_from (is_visible_to records p p || is_earlier_at_replica p p) (is_query_half_of p p)
    (or_from (is_visible_to records p p) (is_earlier_at_replica p p)
    (and_right (is_some (update_of p.act)) (sees records p.label.number p.label.number)
    (sees_not_itself records p.label.number))
    (and_right (p.label.replica == p.label.replica) (nat_lt p.label.number p.label.number)
    (le-ltb p.label.number p.label.number (omega arith))))
    (and_right (p.label.number == p.label.number) (are_halves p.half p.half) (no_halves p.half))

-- in an RA-linearization by an order, each part stands before those that it must precede
pub linearization_by-stands : (precedes : Part → Part → Bool) → ((p : Part) → precedes p p ≡ false)
    → (kind : Kind) (records : Records) (sequence : List Part) → IsRaLinearizationBy precedes kind records sequence
    → (p q : Part) → Contains (parts_in records) p → Contains (parts_in records) q → precedes p q ≡ true
    → StandsBefore p q sequence
linearization_by-stands precedes irreflexive kind records sequence linearizes p q there_p there_q must =
    extends-stands
    precedes irreflexive sequence linearizes.visibility p q
    (Contains-permutation (parts_in records) sequence p linearizes.each_part_once there_p)
    (Contains-permutation (parts_in records) sequence q linearizes.each_part_once there_q)
    must

pub linearization-stands : (kind : Kind) (records : Records) (sequence : List Part)
    → IsRaLinearization kind records sequence → (p q : Part) → Contains (parts_in records) p
    → Contains (parts_in records) q → must_precede records p q ≡ true → StandsBefore p q sequence
linearization-stands kind records =
    linearization_by-stands (must_precede records) (must_precede-irreflexive records) kind records

-- a sequence that extends an order extends each weaker order
pub extends-weaker : {A : Type 0} (precedes weaker : A → A → Bool) → ((p q : A) → weaker p q ≡ true → precedes p q ≡ true)
    → (xs : List A) → extends precedes xs ≡ true → extends weaker xs ≡ true
extends-weaker precedes weaker implies [] extended = refl
extends-weaker precedes weaker implies (x ∷ xs) extended =
    let parts = and_parts (list_all (λ r. not (precedes r x)) xs) (extends precedes xs) extended in
    and_from (list_all (λ r. not (weaker r x)) xs) (extends weaker xs)
    (list_all-from_contains (λ r. not (weaker r x)) xs (λ r found.
    not_from_false (weaker r x) (false_from_ne_true (weaker r x) (λ must.
    true≢false
    (sym (implies r x must)
    ∙ not-true (precedes r x) (list_all-contains (λ s. not (precedes s x)) xs r parts.0 found))))))
    (extends-weaker precedes weaker implies xs parts.1)

pub linearization_by-weaker : (precedes weaker : Part → Part → Bool)
    → ((p q : Part) → weaker p q ≡ true → precedes p q ≡ true) → (kind : Kind) (records : Records)
    (sequence : List Part) → IsRaLinearizationBy precedes kind records sequence
    → IsRaLinearizationBy weaker kind records sequence
linearization_by-weaker precedes weaker implies kind records sequence linearizes = record {
  each_part_once = linearizes.each_part_once;
  visibility = extends-weaker precedes weaker implies sequence linearizes.visibility;
  updates = linearizes.updates;
  queries = linearizes.queries;
  explained = linearizes.explained;
}

-- an operation is an update exactly if one of its parts is
pub is_update-acts : (operation : Op)
    → is_update operation ≡ list_any (λ act. is_some (update_of act.1)) (acts_of operation)
is_update-acts op.Inc = refl
is_update-acts (op.List (list.Insert insertion)) = refl
is_update-acts (op.List (list.Remove x)) = refl
is_update-acts (op.List (list.Read elements)) = refl
is_update-acts (op.List (list.Part elements)) = refl
is_update-acts _ = refl

-- ---- concatenated sequences

-- all elements of a concatenation pass a test if those of both lists do
all-append : {A : Type 0} (p : A → Bool) (xs ys : List A) → list_all p xs ≡ true → list_all p ys ≡ true
    → list_all p (xs ++ ys) ≡ true
all-append p xs ys first then = list_all-append p xs ys ∙ and_from (list_all p xs) (list_all p ys) first then

pub extends-append : {A : Type 0} (precedes : A → A → Bool) (xs ys : List A) → extends precedes xs ≡ true
    → extends precedes ys ≡ true → ((x y : A) → Contains xs x → Contains ys y → precedes y x ≡ false)
    → extends precedes (xs ++ ys) ≡ true
extends-append precedes [] ys first then apart = then
extends-append precedes (x ∷ xs) ys first then apart =
    let parts = and_parts (list_all (λ q. not (precedes q x)) xs) (extends precedes xs) first in
    and_from (list_all (λ q. not (precedes q x)) (xs ++ ys)) (extends precedes (xs ++ ys))
    (all-append (λ q. not (precedes q x)) xs ys parts.0
    (list_all-from_contains (λ q. not (precedes q x)) ys
    (λ y there. not_from_false (precedes y x) (apart x y (0, omega arith, refl) there))))
    (extends-append precedes xs ys parts.1 then
    (λ z y found there. apart z y (suc found.0, omega (arith, found.1), found.2) there))

-- the parts of one label extend `must_precede`: the update half need not precede the query half
not_own : (records : Records) (label : Label) (does asks : Act)
    → must_precede records (part_of label (UpdateHalf, does)) (part_of label (QueryHalf, asks)) ≡ false
not_own records label does asks =
    or_from (is_some (update_of does) && sees records label.number label.number || label.replica == label.replica
    && nat_lt label.number label.number) (label.number == label.number && false)
    (or_from (is_some (update_of does) && sees records label.number label.number)
    (label.replica == label.replica && nat_lt label.number label.number)
    (and_right (is_some (update_of does)) (sees records label.number label.number)
    (sees_not_itself records label.number))
    (and_right (label.replica == label.replica) (nat_lt label.number label.number)
    (le-ltb label.number label.number (omega arith))))
    (and_right (label.number == label.number) false refl)

pub own_parts : (records : Records) (label : Label) (op : Op)
    → extends (must_precede records) (map (part_of label) (acts_of op) ++ []) ≡ true
own_parts records label (OrRemove x ids) =
    ap (λ b. (not b && true) && true) (not_own records label (Does (TakeOut x ids)) (Asks (ReadIds x ids)))
own_parts records label (op.List (list.Insert insertion)) =
    ap (λ b. (not b && true) && true)
    (not_own records label (Does (updates.List (change.Put insertion))) (Asks (queries.List (ask.Near insertion))))
own_parts records label (op.List (list.Remove x)) =
    ap (λ b. (not b && true) && true)
    (not_own records label (Does (updates.List (change.Hide x))) (Asks (queries.List (ask.Has x))))
own_parts records label (op.List (list.Read elements)) = refl
own_parts records label (op.List (list.Part elements)) = refl
own_parts records label _ = refl
