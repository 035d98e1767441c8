-- Lemmas on membership in the lists that sets and slices represent, and in the shown elements of a list.
use Rattle.std.proofs.Common.{◌≡◌, ℕ, Bool, List, [], ◌∷◌, filter, refl, ap, ◌∙◌}
use Rattle.std.specs.Prelude.{◌==◌, ◌||◌, ◌&&◌, not, nat_eq}
use Rattle.std.specs.List.{list_any}
use Rattle.std.specs.Ordering.{nat_cmp}
use Rattle.std.specs.BTreeMap.{is_at}
use Rattle.std.proofs.lemmas.Bool.{and_parts, and_from}
use Rattle.ra_labels.specs.Lists.{is_among}
use Rattle.ra_labels.proofs.Comparisons.{is_at-eqb, eqb-comm}
use Rattle.ra_labels.proofs.InLists.{bool_same, among-exactly}
use Rattle.ra_labels.proofs.Members.{there-kept, kept-there}

any_same : (p q : ℕ → Bool) (xs : List ℕ) → ((x : ℕ) → p x ≡ q x) → list_any p xs ≡ list_any q xs
any_same p q [] same = refl
any_same p q (x ∷ xs) same = ap (λ b. b || list_any p xs) (same x) ∙ ap (λ b. q x || b) (any_same p q xs same)

-- as a set tests it
pub among_keys : (x : ℕ) (xs : List ℕ) → list_any (is_at (nat_cmp x)) xs ≡ is_among x xs
among_keys x xs = any_same (is_at (nat_cmp x)) (λ y. x == y) xs (is_at-eqb x)

-- as a slice tests it
pub among_list : (x : ℕ) (xs : List ℕ) → list_any (λ y. nat_eq y x) xs ≡ is_among x xs
among_list x xs = any_same (λ y. nat_eq y x) (λ y. x == y) xs (λ y. eqb-comm y x)

-- an element is shown if it was inserted and not removed
pub among_shown : (x : ℕ) (inserted removed : List ℕ)
    → is_among x (filter (λ y. not (is_among y removed)) inserted) ≡ (is_among x inserted && not (is_among x removed))
among_shown x inserted removed =
    let kept = filter (λ y. not (is_among y removed)) inserted in
    bool_same (is_among x kept) (is_among x inserted && not (is_among x removed))
    (λ is.
    let there = there-kept (λ y. not (is_among y removed)) inserted x ((among-exactly x kept).0 is) in
    and_from (is_among x inserted) (not (is_among x removed)) ((among-exactly x inserted).1 there.0) there.1)
    (λ is.
    let parts = and_parts (is_among x inserted) (not (is_among x removed)) is in
    (among-exactly x kept).1
    (kept-there (λ y. not (is_among y removed)) inserted x ((among-exactly x inserted).0 parts.0) parts.1))
