-- Lemmas on lists to which an element is added or from which one is removed: their elements, and that they rise.
use Rattle.std.proofs.Common.{◌≡◌, ℕ, ◌<◌, Bool, true, false, List, [], ◌∷◌, filter, refl, sym, ap, ◌∙◌, Ordering}
use Rattle.std.specs.Prelude.{◌==◌, ◌&&◌, ◌||◌, not, nat_lt}
use Rattle.std.specs.List.{list_all}
use Rattle.std.specs.Ordering.{MatchOrdering, nat_cmp, match_ordering}
use Rattle.std.specs.declared.cmp.Ordering.TheVariants.{Less, Equal, Greater}
use Rattle.std.specs.BTreeSet.{insert_key}
use Rattle.std.proofs.lemmas.Bool.{eqb-true, eq-eqb, lt-ltb, and_parts, and_from}
use Rattle.std.proofs.lemmas.Cmp.{ranked}
use Rattle.std.proofs.lemmas.Map.Views.{any-filter_same}
use Rattle.std.proofs.lemmas.List.Kept.{IsStrictlySortedBy-filter}
use Rattle.std.proofs.Math.Bool.{or_assoc, or_comm}
use Rattle.ra_labels.specs.Lists.{is_among, rises}
use Rattle.ra_labels.proofs.RisingLists.{all_lower}
use Rattle.ra_labels.proofs.InLists.{rises-to_sorted, sorted-to_rises}

-- the elements of a list with one more element
or_swap : (a b c : Bool) → (a || (b || c)) ≡ (b || (a || c))
or_swap a b c = sym (or_assoc a b c) ∙ ap (λ d. d || c) (or_comm a b) ∙ or_assoc b a c

or_once : (a b c : Bool) → (a ≡ true → b ≡ true) → (a || (b || c)) ≡ (b || c)
or_once true b c to = sym (ap (λ d. d || c) (to refl))
or_once false b c to = refl

inserted : (y x z : ℕ) (zs rest : List ℕ) (o : Ordering) → MatchOrdering o (x < z) (x ≡ z) (z < x)
    → is_among y rest ≡ (y == x || is_among y zs)
    → is_among y (match_ordering o (x ∷ z ∷ zs) (z ∷ zs) (z ∷ rest)) ≡ (y == x || (y == z || is_among y zs))
inserted y x z zs rest Less known is = refl
inserted y x z zs rest Equal known is =
    sym (or_once (y == x) (y == z) (is_among y zs) (λ same. eq-eqb y z (eqb-true y x same ∙ known)))
inserted y x z zs rest Greater known is = ap (λ b. y == z || b) is ∙ or_swap (y == z) (y == x) (is_among y zs)

pub among-insert : (y x : ℕ) (xs : List ℕ) → is_among y (insert_key nat_cmp xs x) ≡ (y == x || is_among y xs)
among-insert y x [] = refl
among-insert y x (z ∷ zs) = inserted y x z zs (insert_key nat_cmp zs x) (nat_cmp x z) (ranked x z _ refl)
    (among-insert y x zs)

-- and of a list with one element fewer
pub among-remove : (y x : ℕ) (xs : List ℕ) → is_among y (filter (λ z. not (x == z)) xs)
    ≡ (not (x == y) && is_among y xs)
among-remove y x xs = any-filter_same (λ z. y == z) (λ z. not (x == z)) (not (x == y))
    (λ z same. ap (λ w. not (x == w)) (sym (eqb-true y z same))) xs

-- both lists still rise
all_put : (p : ℕ → Bool) (x z : ℕ) (zs rest : List ℕ) (o : Ordering) → p x ≡ true → list_all p (z ∷ zs) ≡ true
    → list_all p rest ≡ true → list_all p (match_ordering o (x ∷ z ∷ zs) (z ∷ zs) (z ∷ rest)) ≡ true
all_put p x z zs rest Less here all also = and_from (p x) (list_all p (z ∷ zs)) here all
all_put p x z zs rest Equal here all also = all
all_put p x z zs rest Greater here all also =
    and_from (p z) (list_all p rest) (and_parts (p z) (list_all p zs) all).0 also

all-insert : (p : ℕ → Bool) (x : ℕ) (xs : List ℕ) → p x ≡ true → list_all p xs ≡ true
    → list_all p (insert_key nat_cmp xs x) ≡ true
all-insert p x [] here all = and_from (p x) true here refl
all-insert p x (z ∷ zs) here all = all_put p x z zs (insert_key nat_cmp zs x) (nat_cmp x z) here all
    (all-insert p x zs here (and_parts (p z) (list_all p zs) all).1)

put_up : (x z : ℕ) (zs rest : List ℕ) (o : Ordering) → MatchOrdering o (x < z) (x ≡ z) (z < x) → rises (z ∷ zs) ≡ true
    → (z < x → list_all (λ y. nat_lt z y) rest ≡ true) → rises rest ≡ true
    → rises (match_ordering o (x ∷ z ∷ zs) (z ∷ zs) (z ∷ rest)) ≡ true
put_up x z zs rest Less known up lower rest_up =
    let parts = and_parts (list_all (λ y. nat_lt z y) zs) (rises zs) up in
    and_from (list_all (λ y. nat_lt x y) (z ∷ zs)) (rises (z ∷ zs))
    (and_from (nat_lt x z) (list_all (λ y. nat_lt x y) zs) (lt-ltb x z known) (all_lower x z zs known parts.0)) up
put_up x z zs rest Equal known up lower rest_up = up
put_up x z zs rest Greater known up lower rest_up =
    and_from (list_all (λ y. nat_lt z y) rest) (rises rest) (lower known) rest_up

pub rises-insert : (x : ℕ) (xs : List ℕ) → rises xs ≡ true → rises (insert_key nat_cmp xs x) ≡ true
rises-insert x [] up = refl
rises-insert x (z ∷ zs) up =
    let parts = and_parts (list_all (λ y. nat_lt z y) zs) (rises zs) up in
    put_up x z zs (insert_key nat_cmp zs x) (nat_cmp x z) (ranked x z _ refl) up
    (λ lower. all-insert (λ y. nat_lt z y) x zs (lt-ltb z x lower) parts.0)
    (rises-insert x zs parts.1)

pub rises-remove : (x : ℕ) (xs : List ℕ) → rises xs ≡ true → rises (filter (λ y. not (x == y)) xs) ≡ true
rises-remove x xs up = sorted-to_rises (filter (λ y. not (x == y)) xs)
    (IsStrictlySortedBy-filter nat_cmp (λ y. not (x == y)) xs (rises-to_sorted xs up))
