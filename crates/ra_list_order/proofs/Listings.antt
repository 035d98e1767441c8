-- Where an order extends the edges an order is found, and where there is a cycle none is.
use Rattle.std.proofs.Common.{◌≡◌, ℕ, zero, suc, ◌<◌, ◌≤◌, Bool, true, false, List, [], ◌∷◌, length, filter, Some, None, refl, sym, ap, ◌∙◌, subst, inl, inr, arith}
use Rattle.std.specs.Prelude.{◌⊎◌, ◌==◌, ◌&&◌, not, find, Contains}
use Rattle.std.specs.List.{list_any}
use Rattle.std.specs.Option.{option_map, option_and_then}
use Rattle.std.proofs.lemmas.Bool.{false≢true, cases_Bool, cond-true, cond-false, or_cases, and_parts, eq-eqb, eqb-true}
use Rattle.ra_labels.specs.declared.edge.Edge.{Edge}
use Rattle.ra_labels.specs.Edges.{EachOnce, IsBefore, Extends, IsChain, IsCycle}
use Rattle.ra_labels.specs.Listing.{is_free, without, listed, list_order_of}
use Rattle.ra_list_order.proofs.Members.{head_or_behind, at_head, behind_head, none_there, kept-there, there-kept, any_there}
use Rattle.ra_list_order.proofs.Befores.{second_there}
use Rattle.ra_list_order.proofs.Cycles.{AreNew, new_from_once}

any_from : {A : Type 0} (p : A → Bool) (xs : List A) → list_any p xs ≡ true → (x : A) × Contains xs x × (p x ≡ true)
any_from p [] passes = absurd (false≢true passes)
any_from p (x ∷ xs) passes = elim (or_cases (p x) (list_any p xs) passes) [
  | inl here ↦ (x, at_head x xs x refl, here)
  | inr further ↦ let rest = any_from p xs further in (rest.0, behind_head x xs rest.0 rest.1, rest.2)
]

there_from : (xs : List ℕ) (x : ℕ) → list_any (λ y. y == x) xs ≡ true → Contains xs x
there_from xs x passes =
    let found = any_from (λ y. y == x) xs passes in
    subst (λ y. Contains xs y) (eqb-true found.0 x found.2) found.1

there_test : (xs : List ℕ) (x : ℕ) → Contains xs x → list_any (λ y. y == x) xs ≡ true
there_test xs x there = any_there (λ y. y == x) xs x there (eq-eqb x x refl)

both_true : (a b : Bool) → a ≡ true → b ≡ true → (a && b) ≡ true
both_true true b first second = second
both_true false b first second = first

there_some : (xs : List ℕ) (x : ℕ) → Contains xs x → 0 < length xs
there_some xs x there = omega (arith, there.1)

find_there : (p : ℕ → Bool) (xs : List ℕ) (y : ℕ) → Contains xs y → p y ≡ true
    → (z : ℕ) × (find p xs ≡ Some z) × Contains xs z
find_there p [] y there passes = absurd (none_there y there)
find_there p (x ∷ xs) y there passes = elim (cases_Bool (p x)) [
  | inl now ↦ (x, cond-true (p x) (Some x) (find p xs) now, at_head x xs x refl)
  | inr not_now ↦ elim (head_or_behind x xs y there) [
    | inl here ↦ absurd (false≢true (sym not_now ∙ ap p here ∙ passes))
    | inr further ↦
        let rest = find_there p xs y further passes in
        (rest.0, cond-false (p x) (Some x) (find p xs) not_now ∙ rest.1, behind_head x xs rest.0 rest.2)
  ]
]

-- what is found passes, or nothing is found
pub data IsFound (p : ℕ → Bool) (xs : List ℕ) : Type 0 where
  Nothing : find p xs ≡ None → IsFound p xs
  Found : (z : ℕ) → find p xs ≡ Some z → p z ≡ true → IsFound p xs

find_cases : (p : ℕ → Bool) (xs : List ℕ) → IsFound p xs
find_cases p [] = Nothing refl
find_cases p (x ∷ xs) = elim (cases_Bool (p x)) [
  | inl now ↦ Found x (cond-true (p x) (Some x) (find p xs) now) now
  | inr not_now ↦ elim (find_cases p xs) [
    | Nothing none ↦ Nothing (cond-false (p x) (Some x) (find p xs) not_now ∙ none)
    | Found z is passes ↦ Found z (cond-false (p x) (Some x) (find p xs) not_now ∙ is) passes
  ]
]

no_longer : (p : ℕ → Bool) (xs : List ℕ) → length (filter p xs) ≤ length xs
no_longer p [] = omega arith
no_longer p (x ∷ xs) =
    let rest = no_longer p xs in
    elim (cases_Bool (p x)) [
      | inl keeps ↦
          let is = ap length (cond-true (p x) (x ∷ filter p xs) (filter p xs) keeps) in
          omega (arith, rest, is)
      | inr drops ↦
          let is = ap length (cond-false (p x) (x ∷ filter p xs) (filter p xs) drops) in
          omega (arith, rest, is)
    ]

shorter : (p : ℕ → Bool) (xs : List ℕ) (z : ℕ) → Contains xs z → p z ≡ false → length (filter p xs) < length xs
shorter p [] z there fails = absurd (none_there z there)
shorter p (x ∷ xs) z there fails = elim (cases_Bool (p x)) [
  | inl keeps ↦ elim (head_or_behind x xs z there) [
    | inl here ↦ absurd (false≢true (sym fails ∙ sym (ap p here) ∙ keeps))
    | inr further ↦
        let rest = shorter p xs z further fails in
        let is = ap length (cond-true (p x) (x ∷ filter p xs) (filter p xs) keeps) in
        omega (arith, rest, is)
  ]
  | inr drops ↦
      let rest = no_longer p xs in
      let is = ap length (cond-false (p x) (x ∷ filter p xs) (filter p xs) drops) in
      omega (arith, rest, is)
]

-- of those that remain, one before which none of them stands
least : (order remaining : List ℕ) → AreNew order → (y : ℕ) → Contains order y → Contains remaining y
    → (x : ℕ) × Contains remaining x × ((z : ℕ) → Contains remaining z → ¬ IsBefore order z x)
least [] remaining new y there among = absurd (none_there y there)
least (x ∷ xs) remaining new y there among = elim (cases_Bool (list_any (λ z. z == x) remaining)) [
  | inl remains_too ↦ (
    x,
    there_from remaining x remains_too,
    λ z remains before. elim before [
      | inl here ↦ new.0 here.1
      | inr further ↦ new.0 (second_there xs z x further)
    ],
  )
  | inr gone ↦ elim (head_or_behind x xs y there) [
    | inl here ↦ absurd (false≢true (sym gone ∙ there_test remaining x (subst (λ w. Contains remaining w) (sym here) among)))
    | inr further ↦
        let rest = least xs remaining new.1 y further among in (
          rest.0,
          rest.1,
          λ z remains before. elim before [
            | inl here ↦ false≢true (sym gone ∙ there_test remaining x (subst (λ w. Contains remaining w) (sym here.0) remains))
            | inr more ↦ rest.2 z remains more
          ],
        )
  ]
]

free_least : (order : List ℕ) (edges : List Edge) (remaining : List ℕ) (x : ℕ) → Extends order edges
    → ((z : ℕ) → Contains remaining z → ¬ IsBefore order z x) → is_free edges remaining x ≡ true
free_least order edges remaining x extends none =
    let p : Edge → Bool = λ edge. (edge.after == x) && list_any (λ y. y == edge.before) remaining in
    elim (cases_Bool (list_any p edges)) [
      | inl some ↦
          let found = any_from p edges some in
          let parts = and_parts (found.0.after == x) (list_any (λ y. y == found.0.before) remaining) found.2 in
          absurd (none found.0.before (there_from remaining found.0.before parts.1)
          (subst (λ b. IsBefore order found.0.before b) (eqb-true found.0.after x parts.0) (extends found.0 found.1)))
      | inr nobody ↦ ap not nobody
    ]

listed_there : (n : ℕ) (order : List ℕ) (edges : List Edge) (xs : List ℕ) → AreNew order → Extends order edges
    → ((x : ℕ) → Contains xs x → Contains order x) → length xs ≤ n → (ys : List ℕ) × (listed n edges xs ≡ Some ys)
listed_there zero order edges [] new extends among few = ([], refl)
listed_there (suc n) order edges [] new extends among few = ([], refl)
listed_there zero order edges (x ∷ xs) new extends among few = absurd (omega arith)
listed_there (suc n) order edges (x ∷ xs) new extends among few =
    let all : List ℕ = x ∷ xs in
    let head = at_head x xs x refl in
    let low = least order all new x (among x head) head in
    let found = find_there (is_free edges all) all low.0 low.1 (free_least order edges all low.0 extends low.2) in
    let y = found.0 in
    let gone : not (y == y) ≡ false = ap not (eq-eqb y y refl) in
    let less = shorter (λ z. not (z == y)) all y found.2 gone in
    let rest = listed_there n order edges (without y all) new extends
    (λ z there. among z (there-kept (λ w. not (w == y)) all z there).0) (omega (arith, less)) in (
      y ∷ rest.0,
      ap (option_and_then (λ w. option_map (λ ys. w ∷ ys) (listed n edges (without w all)))) found.1
          ∙ ap (option_map (λ ys. y ∷ ys)) rest.1,
    )

pub list_order_there : (order elements : List ℕ) (edges : List Edge) → EachOnce order → Extends order edges
    → ((x : ℕ) → Contains elements x → Contains order x) → (ys : List ℕ) × (list_order_of elements edges ≡ Some ys)
list_order_there order elements edges once extends among =
    listed_there (length elements) order edges elements (new_from_once order once) extends among (omega arith)

-- along a chain each edge but the first begins where another one ends
enters : (cycle : List Edge) (from to : ℕ) → IsChain from cycle to → (edge : Edge) → Contains cycle edge
    → (edge.before ≡ from) ⊎ ((e : Edge) × Contains cycle e × (e.after ≡ edge.before))
enters [] from to chain edge there = absurd (none_there edge there)
enters (e ∷ es) from to chain edge there = elim (head_or_behind e es edge there) [
  | inl here ↦ inl (sym (ap (λ (f : Edge). f.before) here) ∙ chain.0)
  | inr further ↦ elim (enters es e.after to chain.1 edge further) [
    | inl first ↦ inr (e, at_head e es e refl, sym first)
    | inr later ↦ inr (later.0, behind_head e es later.0 later.1, later.2)
  ]
]

leaves : (cycle : List Edge) (from to : ℕ) → IsChain from cycle to → 0 < length cycle
    → (e : Edge) × Contains cycle e × (e.after ≡ to)
leaves [] from to chain some = absurd (omega arith)
leaves (e ∷ []) from to chain some = (e, at_head e [] e refl, chain.1)
leaves (e ∷ f ∷ es) from to chain some =
    let rest = leaves (f ∷ es) e.after to chain.1 (omega arith) in
    (rest.0, behind_head e (f ∷ es) rest.0 rest.1, rest.2)

module _ (edges cycle : List Edge) (is : IsCycle edges cycle) where
  entered : (edge : Edge) → Contains cycle edge → (e : Edge) × Contains cycle e × (e.after ≡ edge.before)
  entered edge there = elim (enters cycle is.start is.start is.chain edge there) [
    | inl first ↦
        let last = leaves cycle is.start is.start is.chain is.some in
        (last.0, last.1, last.2 ∙ sym first)
    | inr other ↦ other
  ]

  -- none of the cycle is free while all of it remains
  bound : (remaining : List ℕ) → ((edge : Edge) → Contains cycle edge → Contains remaining edge.before)
      → (edge : Edge) → Contains cycle edge → is_free edges remaining edge.before ≡ false
  bound remaining all edge there =
      let e = entered edge there in
      let p : Edge → Bool = λ f. (f.after == edge.before) && list_any (λ y. y == f.before) remaining in
      let passes : p e.0 ≡ true = both_true (e.0.after == edge.before) (list_any (λ y. y == e.0.before) remaining)
      (eq-eqb e.0.after edge.before e.2) (there_test remaining e.0.before (all e.0 e.1)) in
      ap not (any_there p edges e.0 (is.among e.0 e.1) passes)

  not_listed : (n : ℕ) (xs : List ℕ) → ((edge : Edge) → Contains cycle edge → Contains xs edge.before)
      → 0 < length xs → listed n edges xs ≡ None
  not_listed n [] all some = absurd (omega arith)
  not_listed zero (x ∷ xs) all some = refl
  not_listed (suc n) (x ∷ xs) all some =
      let whole : List ℕ = x ∷ xs in
      elim (find_cases (is_free edges whole) whole) [
        | Nothing none ↦ ap (option_and_then (λ w. option_map (λ ys. w ∷ ys) (listed n edges (without w whole)))) none
        | Found y found free ↦
            let stays : (edge : Edge) → Contains cycle edge → Contains (without y whole) edge.before =
            λ edge there. kept-there (λ w. not (w == y)) whole edge.before (all edge there)
            (elim (cases_Bool (edge.before == y)) [
              | inl same ↦ absurd (false≢true (sym (bound whole all edge there)
                  ∙ ap (is_free edges whole) (eqb-true edge.before y same) ∙ free))
              | inr other ↦ ap not other
            ]) in
            let one = leaves cycle is.start is.start is.chain is.some in
            ap (option_and_then (λ w. option_map (λ ys. w ∷ ys) (listed n edges (without w whole)))) found
            ∙ ap (option_map (λ ys. y ∷ ys)) (not_listed n (without y whole) stays
            (there_some (without y whole) one.0.before (stays one.0 one.1)))
      ]

  pub no_list_order : (elements : List ℕ) → ((edge : Edge) → Contains cycle edge → Contains elements edge.before)
      → list_order_of elements edges ≡ None
  no_list_order elements all =
      let one = leaves cycle is.start is.start is.chain is.some in
      not_listed (length elements) elements all (there_some elements one.0.before (all one.0 one.1))
