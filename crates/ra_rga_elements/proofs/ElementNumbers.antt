-- Lemmas on the element numbers after one more element, and on room in chunks.
use Rattle.std.proofs.Common.{◌≡◌, ℕ, zero, suc, ◌<◌, true, List, [], ◌∷◌, length, map, get_or, cond, refl, sym, ap, ◌∙◌, subst, inl, inr, arith, Option, Some}
use Rattle.std.specs.Prelude.{◌==◌, nat_lt}
use Rattle.std.proofs.lemmas.Bool.{cases_Bool, cases_lt, cond-true, cond-false, eqb-true, eq-eqb, ne_eqb, and_parts, and_from, lt-ltb, ltb-true}
use Rattle.std.proofs.lemmas.List.{length-map, get_or_read}
use Rattle.ra_rga_elements.specs.declared.element.Element.{Element}
use Rattle.ra_rga_elements.specs.Chunk.{Chunk}
use Rattle.ra_rga_elements.specs.Chunks.{chunk_at}
use Rattle.ra_rga_elements.specs.Groups.{no_element, element_at}
use Rattle.ra_rga_elements.specs.Links.{IsLinked}
use Rattle.ra_rga_elements.specs.ElementList.{Arrival, arrival_at}
use Rattle.ra_rga_elements.specs.Kept.{arrival_of, have_room, AreNumbers}
use Rattle.ra_rga_elements.proofs.ElementPlaces.{arrival_is}
use Rattle.ra_rga_elements.proofs.NewElements.{element_kept}

-- the map with one more element
pub numbers_with : (number_of number_after : ℕ → Option ℕ) (elements after : List Element) (next : Option ℕ)
    (new : Element) → IsLinked elements next new after
    → AreNumbers number_of elements
    → ((n : ℕ) → n < length elements → ¬ ((element_at elements n).element ≡ new.element))
    → ((y : ℕ) → number_after y ≡ cond (new.element == y) (Some (length elements)) (number_of y))
    → AreNumbers number_after after
numbers_with number_of number_after elements after next new linked numbers fresh says = record {
  found = λ n high. elim (cases_lt n (length elements)) [
    | inl low ↦
        ap number_after (element_kept elements after next new linked n low)
        ∙ says (element_at elements n).element
        ∙ cond-false (new.element == (element_at elements n).element) (Some (length elements))
        (number_of (element_at elements n).element)
        (ne_eqb new.element (element_at elements n).element (λ same. fresh n low (sym same)))
        ∙ numbers.found n low
    | inr past ↦
        let last : length elements ≡ n = omega (arith, linked.one) in
        subst (λ m. number_after (element_at after m).element ≡ Some m) last
        (ap (λ (e : Element). number_after e.element) linked.newest
        ∙ says new.element
        ∙ cond-true (new.element == new.element) (Some (length elements)) (number_of new.element)
        (eq-eqb new.element new.element refl))
  ];
  there = λ y n found. elim (cases_Bool (new.element == y)) [
    | inl same ↦
        let both : Some (length elements) ≡ Some n =
        sym (cond-true (new.element == y) (Some (length elements)) (number_of y) same) ∙ sym (says y) ∙ found in
        let last : length elements ≡ n = cc in (
          omega (arith, linked.one),
          ap (λ m. (element_at after m).element) (sym last) ∙ ap (λ (e : Element). e.element) linked.newest
              ∙ eqb-true new.element y same,
        )
    | inr other ↦
        let at = numbers.there y n
        (sym (cond-false (new.element == y) (Some (length elements)) (number_of y) other) ∙ sym (says y) ∙ found) in
        (omega (arith, at.0, linked.one), element_kept elements after next new linked n at.0 ∙ at.1)
  ];
}

-- a map with equal look-ups
pub numbers_same : (number_of number_after : ℕ → Option ℕ) (elements : List Element) → AreNumbers number_of elements
    → ((y : ℕ) → number_after y ≡ number_of y) → AreNumbers number_after elements
numbers_same number_of number_after elements numbers same = record {
  found = λ n high. same (element_at elements n).element ∙ numbers.found n high;
  there = λ x n found. numbers.there x n (sym (same x) ∙ found);
}

-- there is room in each chunk, as a test
pub room_at : (chunks : List Chunk) → have_room chunks ≡ true → (place : ℕ) → place < length chunks
    → 0 < (chunk_at chunks place).room
room_at [] all place there = absurd (omega arith)
room_at (chunk ∷ chunks) all zero there =
    ltb-true 0 chunk.room (and_parts (nat_lt 0 chunk.room) (have_room chunks) all).0
room_at (chunk ∷ chunks) all (suc place) there =
    room_at chunks (and_parts (nat_lt 0 chunk.room) (have_room chunks) all).1 place (omega arith)

pub room_all : (chunks : List Chunk) → ((place : ℕ) → place < length chunks → 0 < (chunk_at chunks place).room)
    → have_room chunks ≡ true
room_all [] each = refl
room_all (chunk ∷ chunks) each =
    and_from (nat_lt 0 chunk.room) (have_room chunks) (lt-ltb 0 chunk.room (each 0 (omega arith)))
    (room_all chunks (λ place there. each (suc place) (omega arith)))

-- an element that has not arrived is not in the list
pub fresh_among : (elements : List Element) (arrivals : List Arrival) (x : ℕ) → map arrival_of elements ≡ arrivals
    → ((n : ℕ) → n < length arrivals → ¬ ((arrival_at arrivals n).element ≡ x)) → (n : ℕ) → n < length elements
    → ¬ ((element_at elements n).element ≡ x)
fresh_among elements arrivals x came fresh n low same =
    fresh n (omega (arith, low, length-map elements arrival_of, ap (λ (xs : List Arrival). length xs) came))
    (ap (λ xs. (arrival_at xs n).element) (sym came)
    ∙ ap (λ (a : Arrival). a.element) (arrival_is elements n low) ∙ same)

-- the number of arrivals is the number of elements
pub length_came : (elements : List Element) (arrivals : List Arrival) → map arrival_of elements ≡ arrivals
    → length elements ≡ length arrivals
length_came elements arrivals came = sym (length-map elements arrival_of) ∙ ap (λ (xs : List Arrival). length xs) came

-- the number of an arrival is that of an element
pub known_as : (elements : List Element) (arrivals : List Arrival) (n : ℕ) → map arrival_of elements ≡ arrivals
    → n < length arrivals → n < length elements
known_as elements arrivals n came there = omega (arith, there, length_came elements arrivals came)

-- and what is read of the element is its arrival
pub read_as : (elements : List Element) (arrivals : List Arrival) (n : ℕ) (read : Element)
    → map arrival_of elements ≡ arrivals → n < length arrivals → read ≡ get_or elements n read
    → arrival_of read ≡ arrival_at arrivals n
read_as elements arrivals n read came there reads =
    let known : n < length elements = known_as elements arrivals n came there in
    ap arrival_of (get_or_read elements n read known reads no_element)
    ∙ sym (arrival_is elements n known)
    ∙ ap (λ xs. arrival_at xs n) came
