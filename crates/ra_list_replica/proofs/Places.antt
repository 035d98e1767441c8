-- The places at which a list differs from the last read, with one more element.
use Rattle.std.proofs.Common.{◌≡◌, ℕ, ◌+◌, ◌-◌, ◌<◌, ◌≤◌, ◌⊎◌, List, [], ◌∷◌, ◌++◌, length, get_or, refl, sym, ap, ◌∙◌, subst, inl, inr, arith}
use Rattle.std.specs.Prelude.{Contains}
use Rattle.std.proofs.lemmas.Bool.{cases_lt}
use Rattle.std.proofs.lemmas.List.{get_or_append_left, length_push}
use Rattle.std.proofs.lemmas.List.Elements.{Contains-append_left, Contains-append_right, Contains-append_cases}
use Rattle.std.proofs.Math.Seq.{get_or-append_seam}
use Rattle.ra_labels.proofs.Members.{head_or_behind, at_head, none_there}
use Rattle.ra_list_replica.specs.Listing.{IsAdjacent, AreAsLast}

-- holds if the last of the numbers is the one before this index of the last list
pub record IsLastAt (last numbers : List ℕ) (next : ℕ) : Type 0 where
  pub some : 0 < next
  pub within : next ≤ length last
  pub same : get_or last (next - 1) 0 ≡ get_or numbers (length numbers - 1) 0

-- the next number, with its place or directly behind the last one
abbrev pub IsNext : List ℕ → List ℕ → List ℕ → ℕ → List ℕ → Type 0
IsNext last numbers places n new =
    ((new ≡ places ++ length numbers ∷ []) × (0 < length numbers))
    ⊎ ((new ≡ places) × (0 < length numbers → IsAdjacent last (get_or numbers (length numbers - 1) 0) n))

still : (numbers : List ℕ) (n i : ℕ) → i < length numbers → get_or (numbers ++ n ∷ []) i 0 ≡ get_or numbers i 0
still numbers n i below = get_or_append_left numbers (n ∷ []) 0 i below

places_kept : (last numbers places new : List ℕ) (n i : ℕ) → IsNext last numbers places n new → Contains places i
    → Contains new i
places_kept last numbers places new n i next there = elim next [
  | inl more ↦ subst (λ is. Contains is i) (sym more.0) (Contains-append_left places (length numbers ∷ []) i there)
  | inr same ↦ subst (λ is. Contains is i) (sym same.0) there
]

within_more : (last numbers places new : List ℕ) (n i : ℕ) → AreAsLast last numbers places
    → IsNext last numbers places n new → Contains new i → (0 < i) × (i < length (numbers ++ n ∷ []))
within_more last numbers places new n i kept next there =
    let long = length_push numbers n in
    elim next [
      | inl more ↦ elim (Contains-append_cases places (length numbers ∷ []) i (subst (λ is. Contains is i) more.0 there)) [
        | inl before ↦ let (some, below) = kept.within i before in (some, omega (arith, below, long))
        | inr last_one ↦ elim (head_or_behind (length numbers) [] i last_one) [
          | inl is ↦ (omega (arith, is, more.1), omega (arith, is, long))
          | inr further ↦ absurd (none_there i further)
        ]
      ]
      | inr same ↦ let (some, below) = kept.within i (subst (λ is. Contains is i) same.0 there) in (some, omega (arith, below, long))
    ]

rest_more : (last numbers places new : List ℕ) (n i : ℕ) → AreAsLast last numbers places
    → IsNext last numbers places n new → 0 < i → i < length (numbers ++ n ∷ [])
    → Contains new i ⊎ IsAdjacent last (get_or (numbers ++ n ∷ []) (i - 1) 0) (get_or (numbers ++ n ∷ []) i 0)
rest_more last numbers places new n i kept next some below = elim (cases_lt i (length numbers)) [
  | inl before ↦ elim (kept.rest i some before) [
    | inl place ↦ inl (places_kept last numbers places new n i next place)
    | inr adjacent ↦ inr (subst (λ x. IsAdjacent last x (get_or (numbers ++ n ∷ []) i 0)) (sym (still numbers n (i - 1) (omega (arith, before, some))))
        (subst (IsAdjacent last (get_or numbers (i - 1) 0)) (sym (still numbers n i before)) adjacent))
  ]
  | inr past ↦
      let at : i ≡ length numbers = omega (arith, past, below, length_push numbers n) in
      elim next [
        | inl more ↦ inl (subst (λ is. Contains is i) (sym more.0)
            (Contains-append_right places (length numbers ∷ []) i (at_head (length numbers) [] i (sym at))))
        | inr same ↦ inr (subst (λ x. IsAdjacent last x (get_or (numbers ++ n ∷ []) i 0)) (sym (still numbers n (i - 1) (omega (arith, at, some))))
            (subst (IsAdjacent last (get_or numbers (i - 1) 0))
            (sym (ap (λ k. get_or (numbers ++ n ∷ []) k 0) at ∙ get_or-append_seam numbers n [] 0))
            (subst (λ k. IsAdjacent last (get_or numbers (k - 1) 0) n) (sym at) (same.1 (omega (arith, at, some))))))
      ]
]

pub as_last_more : (last numbers places new : List ℕ) (n : ℕ) → AreAsLast last numbers places
    → IsNext last numbers places n new → AreAsLast last (numbers ++ n ∷ []) new
as_last_more last numbers places new n kept next = record {
  within = λ i there. within_more last numbers places new n i kept next there;
  rest = λ i some below. rest_more last numbers places new n i kept next some below;
}

-- the place of a number that is looked up, and of one that is found behind the last one
pub next_placed : (last numbers places new : List ℕ) (n : ℕ)
    → ((length numbers ≡ 0) × (new ≡ places)) ⊎ ((0 < length numbers) × (new ≡ places ++ length numbers ∷ []))
    → IsNext last numbers places n new
next_placed last numbers places new n placed = elim placed [
  | inl none ↦ inr (none.1, (λ some. absurd (omega (arith, none.0, some))))
  | inr some ↦ inl (some.1, some.0)
]

pub next_found : (last numbers places : List ℕ) (at : ℕ) → IsLastAt last numbers at → at < length last
    → IsNext last numbers places (get_or last at 0) places
next_found last numbers places at found below = inr (
  refl,
  (λ some. (
    at - 1,
    omega (arith, below, found.some),
    found.same,
    ap (λ k. get_or last k 0) (omega (arith, found.some)),
  )),
)

-- the number that is found is the last one
pub last_found : (last numbers : List ℕ) (at : ℕ) → at < length last
    → IsLastAt last (numbers ++ get_or last at 0 ∷ []) (at + 1)
last_found last numbers at below =
    let n = get_or last at 0 in
    record {
      some = omega arith;
      within = omega (arith, below);
      same = ap (λ k. get_or last k 0) (omega arith) ∙ sym (get_or-append_seam numbers n [] 0)
          ∙ ap (λ k. get_or (numbers ++ n ∷ []) k 0) (omega (arith, length_push numbers n));
    }
