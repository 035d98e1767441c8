-- Lemmas on the places of a byte, as an iterator of `memchr` yields them.
use Rattle.std.proofs.Common.{◌≡◌, ℕ, zero, suc, ◌+◌, ◌-◌, inl, inr, Bool, true, false, List, [], ◌∷◌, length, Option, Some, None, sym, ap, subst, ◌∙◌, arith}
use Rattle.std.specs.Prelude.{slice_index}
use Rattle.std.proofs.lemmas.Bool.{cases_Bool, cases_lt}
use Rattle.memchr.specs.Find.{places_from, places, Passes, Nowhere, NoneBefore, IsFirst, IsFirstByte, TakesFirst}

-- no place from the first one on, and none behind it
nowhere_more : (P : ℕ → Type 0) (i j : ℕ) → (P i → ⊥) → Nowhere P (i + 1) j → Nowhere P i j
nowhere_more P i j here later k low high =
    elim (cases_lt i k) [
      | inl above ↦ later k (omega (arith, above)) high
      | inr same ↦ let is : i ≡ k = omega (arith, low, same) in subst (λ (p : ℕ). P p → ⊥) is here
    ]

not_both : (b : Bool) → b ≡ false → b ≡ true → ⊥
not_both b off on = absurd cc

none_from : (test : ℕ → Bool) (hay : List ℕ) (i n : ℕ) → places_from test hay i n ≡ []
    → Nowhere (Passes test hay) i (i + n)
unfolding places_from
none_from test hay i zero none = λ k low high. absurd (omega (arith, low, high))
none_from test hay i (suc n) none =
    elim (cases_Bool (test (slice_index hay i))) [
      | inl on ↦ absurd (let some = rw on at none in cc)
      | inr off ↦
          let end : i + 1 + n ≡ i + suc n = omega arith in
          nowhere_more (Passes test hay) i (i + suc n) (not_both (test (slice_index hay i)) off)
          (subst (λ (j : ℕ). Nowhere (Passes test hay) (i + 1) j) end
          (none_from test hay (i + 1) n (rw off at none)))
    ]

first_from : (test : ℕ → Bool) (hay : List ℕ) (i n at : ℕ) (later : List ℕ) → places_from test hay i n ≡ at ∷ later
    → NoneBefore (Passes test hay) i (i + n) at × Passes test hay at
unfolding places_from
first_from test hay i zero at later found = absurd cc
first_from test hay i (suc n) at later found =
    elim (cases_Bool (test (slice_index hay i))) [
      | inl on ↦
          let here : i ≡ at = let some = rw on at found in cc in (
            record { low = omega (arith, here); high = omega (arith, here); before = λ k low high. absurd (omega (arith, here, low, high)) },
            subst (Passes test hay) here on,
          )
      | inr off ↦
          let behind = first_from test hay (i + 1) n at later (rw off at found) in (
            record {
              low = omega (arith, behind.0.low);
              high = omega (arith, behind.0.high);
              before = nowhere_more (Passes test hay) i at (not_both (test (slice_index hay i)) off) behind.0.before;
            },
            behind.1,
          )
    ]

first_of : (test : ℕ → Bool) (hay all : List ℕ) (r : Option ℕ) (later : List ℕ)
    → all ≡ places_from test hay 0 (length hay) → TakesFirst all r later
    → IsFirst (Passes test hay) 0 (0 + length hay) r
first_of test hay all None later is steps = none_from test hay 0 (length hay) (sym is ∙ steps.0)
first_of test hay all (Some at) later is steps = first_from test hay 0 (length hay) at later (sym is ∙ steps)

-- the first of all places is what the iterator yields at first
pub first_yielded : (test : ℕ → Bool) (hay all : List ℕ) (r : Option ℕ) (later : List ℕ) → all ≡ places test hay
    → TakesFirst all r later → IsFirstByte test hay r
first_yielded test hay all r later is steps =
    let whole : length hay - 0 ≡ length hay = omega arith in
    let end : 0 + length hay ≡ length hay = omega arith in
    subst (λ (j : ℕ). IsFirst (Passes test hay) 0 j r) end
    (first_of test hay all r later (is ∙ ap (places_from test hay 0) whole) steps)
