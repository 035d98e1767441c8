-- The set of the ends of walked edges.
use Rattle.std.proofs.Common.{◌≡◌, ℕ, ◌+◌, ◌-◌, ◌<◌, Bool, true, false, cond, List, [], ◌∷◌, ◌++◌, length, get_or, take, refl, sym, ap, ◌∙◌, inl, inr, arith, length-append}
use Rattle.std.specs.Prelude.{◌==◌, ◌||◌}
use Rattle.std.specs.BTreeSet.{BTreeSet, contains, Updates}
use Rattle.std.specs.Cmp.{Equal-is, nat_cmp_is}
use Rattle.std.specs.List.{list_any, between}
use Rattle.std.specs.declared.cmp.Ordering.TheVariants.{Equal}
use Rattle.std.specs.Ordering.{nat_cmp, is_eq}
use Rattle.std.proofs.Math.Seq.{take-length, drop-append_seam}
use Rattle.std.proofs.lemmas.Bool.{cases_eq, eq-eqb, ne_eqb}
use Rattle.std.proofs.lemmas.List.Folds.{list_any-append, list_any_more}
use Rattle.ra_labels.specs.declared.edge.Edge.{Edge}
use Rattle.ra_list_order.specs.Marks.{is_marked}
use Rattle.ra_list_order.specs.Sweep.{IsSwept, PushesEdgesFrom}
use Rattle.ra_list_order.proofs.Pointed.{apart_test}
use Rattle.ra_list_order.proofs.Sweeps.{next_stays, next_moves}
use Rattle.ra_list_order.proofs.Ways.{ends}

eq_test : (a x : ℕ) → is_eq (nat_cmp a x) ≡ (a == x)
eq_test a x = elim (cases_eq a x) [
  | inl same ↦ (Equal-is (nat_cmp a x)).1 (sym (nat_cmp_is a x Equal same)) ∙ sym (eq-eqb a x same)
  | inr other ↦ apart_test a x (λ same. other (sym same)) ∙ sym (ne_eqb a x other)
]

or_last : (test was any : Bool) → cond test true (was || any) ≡ (was || (any || test))
or_last true true any = refl
or_last true false true = refl
or_last true false false = refl
or_last false true any = refl
or_last false false true = refl
or_last false false false = refl

-- holds if the set has exactly the old elements and the ends of the edges
abbrev pub AddsEnds : BTreeSet ℕ → List Edge → BTreeSet ℕ → Type 0
AddsEnds old edges new = (x : ℕ) → contains nat_cmp new x ≡ (contains nat_cmp old x || list_any (ends x) edges)

pub ends_more : (old now new : BTreeSet ℕ) (edges : List Edge) (i : ℕ) (d : Edge) (a : ℕ) → i < length edges
    → a ≡ (get_or edges i d).after → AddsEnds old (take i edges) now → Updates nat_cmp now new a true
    → AddsEnds old (take (i + 1) edges) new
ends_more old now new edges i d a within is added updates x =
    updates.0 x
    ∙ ap (λ b. cond b true (contains nat_cmp now x)) (eq_test a x)
    ∙ ap (λ b. cond (a == x) true b) (added x)
    ∙ or_last (a == x) (contains nat_cmp old x) (list_any (ends x) (take i edges))
    ∙ ap (λ b. contains nat_cmp old x || (list_any (ends x) (take i edges) || b)) (ap (λ y. y == x) is)
    ∙ ap (λ b. contains nat_cmp old x || b) (sym (list_any_more (ends x) edges i d within))

-- holds if the set has exactly the ends of the edges
abbrev pub AreEnds : BTreeSet ℕ → List Edge → Type 0
AreEnds set edges = (x : ℕ) → contains nat_cmp set x ≡ list_any (ends x) edges

pub ends_joined : (old new : BTreeSet ℕ) (walked begun more rest : List Edge) → AreEnds old walked → AddsEnds old rest new
    → more ≡ walked ++ begun → rest ≡ begun → AreEnds new more
ends_joined old new walked begun more rest are adds more_is rest_is x =
    adds x ∙ ap (λ b. b || list_any (ends x) rest) (are x) ∙ ap (λ es. list_any (ends x) walked || list_any (ends x) es) rest_is
    ∙ sym (list_any-append (ends x) walked begun) ∙ ap (list_any (ends x)) (sym more_is)

reached : (start x : ℕ) (set : BTreeSet ℕ) (walked : List Edge) (answer b : Bool) → AreEnds set walked
    → answer ≡ (x == start || contains nat_cmp set x) → answer ≡ b → is_marked start walked x ≡ b
reached start x set walked answer b are says is = ap (λ c. x == start || c) (sym (are x)) ∙ sym says ∙ is

between_end : (xs ys : List Edge) → between (length xs) (length (xs ++ ys)) (xs ++ ys) ≡ ys
between_end xs ys =
    let long = length-append xs ys in
    let rest : length (xs ++ ys) - length xs ≡ length ys = omega (arith, long) in
    ap (take (length (xs ++ ys) - length xs)) (drop-append_seam xs ys)
    ∙ ap (λ n. take n ys) rest ∙ take-length ys

-- the sweep at the next element, as the code reads it
module _ (stretch : List ℕ) (i : ℕ) (edges : List Edge) (start : ℕ) (stays moves : List ℕ) (walked : List Edge)
    (set : BTreeSet ℕ) (swept : IsSwept (take i stretch) edges start stays moves walked) (are : AreEnds set walked)
    (within : i < length stretch) (answer : Bool)
    (says : answer ≡ (get_or stretch i 0 == start || contains nat_cmp set (get_or stretch i 0))) where
  pub sweep_stays : (new : List ℕ) → new ≡ stays ++ get_or stretch i 0 ∷ [] → answer ≡ false
      → IsSwept (take (i + 1) stretch) edges start new moves walked
  sweep_stays new made is =
      next_stays stretch i edges start stays moves walked swept within new made
      (reached start (get_or stretch i 0) set walked answer false are says is)

  pub sweep_moves : (new : List ℕ) (more rest read : List Edge) (count : ℕ) (new_set : BTreeSet ℕ)
      → new ≡ moves ++ get_or stretch i 0 ∷ [] → answer ≡ true → PushesEdgesFrom (get_or stretch i 0) edges walked more
      → count ≡ length walked → read ≡ more → rest ≡ between count (length read) read → AddsEnds set rest new_set
      → IsSwept (take (i + 1) stretch) edges start stays new more × AreEnds new_set more
  sweep_moves new more rest read count new_set made is pushes count_is reads rest_is adds = (
    next_moves stretch i edges start stays moves walked swept within new pushes.0 more made pushes.2 pushes.1
        (reached start (get_or stretch i 0) set walked answer true are says is),
    ends_joined set new_set walked pushes.0 more rest are adds pushes.1
        (rest_is ∙ ap (λ n. between n (length read) read) count_is
        ∙ ap (λ es. between (length walked) (length es) es) (reads ∙ pushes.1) ∙ between_end walked pushes.0),
  )
