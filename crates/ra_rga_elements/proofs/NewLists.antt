-- Lemmas on a new list and its look-ups.
use Rattle.std.proofs.Common.{◌≡◌, ℕ, zero, suc, ◌<◌, List, [], ◌∷◌, length, map, get_or, cond, refl, sym, ap, ◌∙◌, subst, inl, inr, arith, Option, Some, None}
use Rattle.std.specs.Prelude.{◌↔◌, ◌==◌, Contains}
use Rattle.std.proofs.lemmas.Bool.{cases_Bool, cond-true, cond-false, eqb-true}
use Rattle.std.proofs.lemmas.List.{length-map}
use Rattle.ra_rga_elements.specs.declared.element.Element.{Element}
use Rattle.ra_rga_elements.specs.Entries.{no_entry, entry_at, numbers_in}
use Rattle.ra_rga_elements.specs.Chunk.{Chunk}
use Rattle.ra_rga_elements.specs.Chunks.{chunk_at}
use Rattle.ra_rga_elements.specs.Groups.{no_element, element_at}
use Rattle.ra_rga_elements.specs.ElementList.{Arrival, arrival_at}
use Rattle.ra_rga_elements.specs.Kept.{arrival_of, AreNumbers, ChunksKept, ElementListKept}
use Rattle.ra_rga_elements.proofs.ElementPlaces.{arrival_is}

abbrev one_chunk : ℕ → Chunk
one_chunk room = record { entries = no_entry ∷ []; room = room }

numbers_new : (number_of : ℕ → Option ℕ) → ((x : ℕ) → number_of x ≡ cond (0 == x) (Some 0) None)
    → AreNumbers number_of (no_element ∷ [])
numbers_new number_of is = record {
  found = λ n there. zero_found n there;
  there = λ x n found. elim (cases_Bool (0 == x)) [
    | inl same ↦
        let both : Some 0 ≡ Some n = sym (cond-true (0 == x) (Some 0) None same) ∙ sym (is x) ∙ found in
        let here : 0 ≡ n = cc in (
          subst (λ m. m < 1) here (omega arith),
          subst (λ m. (element_at (no_element ∷ []) m).element ≡ x) here
              (eqb-true 0 x same),
        )
    | inr other ↦ absurd (none_some n (sym (cond-false (0 == x) (Some 0) None other) ∙ sym (is x) ∙ found))
  ];
}
  where
    none_some : (n : ℕ) → None ≡ Some n → ⊥
    none_some n e = cc

    zero_found : (n : ℕ) → n < 1 → number_of (element_at (no_element ∷ []) n).element ≡ Some n
    zero_found zero there = is 0
    zero_found (suc n) there = absurd (omega arith)

chunks_new : (room : ℕ) → ChunksKept (no_element ∷ []) (one_chunk room ∷ []) (0 ∷ []) 0
chunks_new room = record {
  some = omega arith;
  anchored = λ n there. only_zero n there (λ m. (element_at (no_element ∷ []) m).anchor < 1) (omega arith);
  entries = record {
    root = refl;
    known = λ k there. only_zero k there (λ m. (entry_at (no_entry ∷ []) m).number < 1) (omega arith);
    stamps = λ k there. only_zero k there
        (λ m. (entry_at (no_entry ∷ []) m).stamp
        ≡ (element_at (no_element ∷ []) (entry_at (no_entry ∷ []) m).number).stamp) refl;
    distinct = λ j k low high. absurd (omega arith);
  };
  linked = λ k there. absurd (omega arith);
  behind = λ k some there. absurd (omega arith);
  placed = record {
    grouped = λ n there. only_zero n there (λ m. (element_at (no_element ∷ []) m).group < 1) (omega arith);
    inside = λ group there. only_zero group there (λ m. get_or (0 ∷ []) m 0 < 1) (omega arith);
    stands = λ n there. only_zero n there
        (λ m. Contains
        (numbers_in (chunk_at (one_chunk room ∷ []) (get_or (0 ∷ []) (element_at (no_element ∷ []) m).group 0)).entries)
        m) (0, omega arith, refl);
    only = λ place n there among. ap (λ group. get_or (0 ∷ []) group 0) (group_zero n) ∙ first place there;
  };
  filled = λ place there. only_zero place there (λ p. 0 < length (chunk_at (one_chunk room ∷ []) p).entries)
      (omega arith);
  there = omega arith;
  room = λ place there other. absurd (other (omega arith));
}
  where
    only_zero : (n : ℕ) → n < 1 → (P : ℕ → Type 0) → P 0 → P n
    only_zero n there P p = let is : 0 ≡ n = omega arith in subst P is p

    group_zero : (n : ℕ) → (element_at (no_element ∷ []) n).group ≡ 0
    group_zero zero = refl
    group_zero (suc n) = refl

    first : (place : ℕ) → place < 1 → 0 ≡ place
    first place there = omega arith

pub kept_new : (number_of : ℕ → Option ℕ) (elements : List Element) (chunks : List Chunk) (places : List ℕ)
    (chunk : Chunk)
    → ((x : ℕ) → number_of x ≡ cond (0 == x) (Some 0) None) → elements ≡ no_element ∷ [] → chunks ≡ chunk ∷ []
    → chunk.entries ≡ no_entry ∷ [] → places ≡ 0 ∷ []
    → ElementListKept number_of elements chunks places 0
kept_new number_of elements chunks places chunk is of made has at =
    let same : chunk ≡ one_chunk chunk.room = λ i. record { entries = has i; room = chunk.room } in
    let all : chunks ≡ one_chunk chunk.room ∷ [] = made ∙ ap (λ (h : Chunk). h ∷ []) same in
    subst (λ es. ElementListKept number_of es chunks places 0) (sym of)
    (subst (λ cs. ElementListKept number_of (no_element ∷ []) cs places 0) (sym all)
    (subst (λ ps. ElementListKept number_of (no_element ∷ []) (one_chunk chunk.room ∷ []) ps 0) (sym at)
    (record { numbers = numbers_new number_of is; chunks_kept = chunks_new chunk.room })))

-- the number that a look-up returns
pub numbers_exactly : (number_of : ℕ → Option ℕ) (elements : List Element) (arrivals : List Arrival) (x : ℕ)
    (result : Option ℕ) → AreNumbers number_of elements
    → map arrival_of elements ≡ arrivals → result ≡ number_of x → (n : ℕ)
    → (result ≡ Some n) ↔ ((n < length arrivals) × ((arrival_at arrivals n).element ≡ x))
numbers_exactly number_of elements arrivals x result numbers came is n =
    subst (λ came. (result ≡ Some n) ↔ ((n < length came) × ((arrival_at came n).element ≡ x))) came (
      (λ found.
          let at = numbers.there x n (sym is ∙ found) in (
            omega (arith, at.0, length-map elements arrival_of),
            ap (λ (a : Arrival). a.element)
                (arrival_is elements n at.0) ∙ at.1,
          )),
      (λ there.
          let low : n < length elements = omega (arith, there.0, length-map elements arrival_of) in
          is ∙ ap number_of (sym there.1 ∙ ap (λ (a : Arrival). a.element) (arrival_is elements n low))
          ∙ numbers.found n low),
    )
