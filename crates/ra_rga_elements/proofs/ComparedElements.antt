-- Lemmas on the comparison of a list of elements with the marked ones, from its end on.
use Rattle.std.proofs.Common.{◌≡◌, ℕ, suc, ◌+◌, ◌<◌, ◌≤◌, Bool, true, false, List, [], ◌∷◌, ◌++◌, length, get_or, filter, refl, sym, ap, ◌∙◌, subst, inl, inr, arith, Option, Some, None}
use Rattle.std.specs.Prelude.{Contains, IfSome}
use Rattle.std.proofs.lemmas.Bool.{false≢true, cases_lt}
use Rattle.std.proofs.lemmas.List.{length-append, append_assoc, get_or_at, get_or-append-add}
use Rattle.ra_rga_elements.specs.declared.element.Element.{Element}
use Rattle.ra_rga_elements.specs.Entries.{entry_at, numbers_in}
use Rattle.ra_rga_elements.specs.Chunk.{Chunk}
use Rattle.ra_rga_elements.specs.Chunks.{joined}
use Rattle.ra_rga_elements.specs.Groups.{element_at}
use Rattle.ra_rga_elements.specs.ElementList.{ElementList, arrival_at, is_marked, marked_count, IsKeptByMark, IsIndexOf, IsBefore, IsMarkedBefore}
use Rattle.ra_rga_elements.specs.Kept.{list_of, ElementListKept}
use Rattle.ra_rga_elements.proofs.ElementPlaces.{index_in, in_numbers, index_of, one_index, one_number}
use Rattle.ra_rga_elements.proofs.KeptElements.{IsTail, tail_more, tail_whole, kept_at, kept_two}
use Rattle.ra_rga_elements.proofs.MarkedNumbers.{numbers_once, elements_counted}
use Rattle.ra_rga_elements.proofs.ElementOrder.{length_listed, length_arrived, name_is, listed_at}

-- Holds of a list in which each element has one number and one index, and the marked ones are counted.
pub record IsNumbered (list : ElementList) : Type 0 where
  pub number : (j : ℕ) → j < length list.elements
      → (n : ℕ) × (n < length list.arrivals) × ((arrival_at list.arrivals n).element ≡ get_or list.elements j 0)
  pub apart : (i j : ℕ) → i < length list.elements → j < length list.elements
      → get_or list.elements i 0 ≡ get_or list.elements j 0 → i ≡ j
  pub counted : (keep : ℕ → Bool) (marks : List Bool) → IsKeptByMark keep marks list.arrivals
      → ((n : ℕ) → length list.arrivals ≤ n → is_marked marks n ≡ false)
      → length (filter keep list.elements) ≡ marked_count marks

-- the first of the compared elements is the one behind all others
abbrev pub IsFirst : ElementList → Option ℕ → List ℕ → Type 0
IsFirst list None done = done ≡ []
IsFirst list (Some n) done = (0 < length done) × (get_or done 0 0 ≡ (arrival_at list.arrivals n).element)

pub record AreCompared (list : ElementList) (marks : List Bool) (listed left : List ℕ)
    (behind : Option ℕ) : Type 0 where
  pub done : List ℕ
  pub whole : listed ≡ left ++ done
  pub index : ℕ
  pub at : IsIndexOf list behind index
  pub first : IsFirst list behind done
  pub tail : (keep : ℕ → Bool) → IsKeptByMark keep marks list.arrivals → IsTail keep list.elements done index

index_among : (list : ElementList) (behind : Option ℕ) (index : ℕ) → IsIndexOf list behind index
    → index ≤ length list.elements
index_among list None index at = omega (arith, at)
index_among list (Some n) index at = omega (arith, at.1)

index_same : (list : ElementList) → IsNumbered list → (behind : Option ℕ) (i j : ℕ) → IsIndexOf list behind i
    → IsIndexOf list behind j → i ≡ j
index_same list numbered None i j at other = at ∙ sym other
index_same list numbered (Some n) i j at other = numbered.apart i j at.1 other.1 (at.2 ∙ sym other.2)

known_number : (list : ElementList) (behind : Option ℕ) (index : ℕ) → IsIndexOf list behind index
    → IfSome behind (λ n. n < length list.arrivals)
known_number list None index at = tt
known_number list (Some n) index at = at.0

-- one more element is compared
pub compared_more : {list : ElementList} {marks : List Bool} {listed left : List ℕ} {behind : Option ℕ}
    (rest : List ℕ) (x n : ℕ) → IsNumbered list → AreCompared list marks listed left behind → left ≡ rest ++ x ∷ []
    → IsMarkedBefore list marks behind x n → AreCompared list marks listed rest (Some n)
compared_more {list = list} {behind = behind} rest x n numbered compared last (known, named, marked, before) =
    let (i, j, at, lower, is) = before in
    let same = index_same list numbered behind i compared.index at compared.at in
    record {
      done = x ∷ compared.done;
      whole = compared.whole ∙ ap (λ ys. ys ++ compared.done) last ∙ append_assoc rest (x ∷ []) compared.done;
      index = j;
      at = (known, omega (arith, lower, index_among list behind i at), is ∙ sym named);
      first = (omega arith, sym named);
      tail = λ keep says. tail_more keep list.elements compared.done x compared.index j
          (omega (arith, lower, same)) (index_among list behind compared.index compared.at) is
          (ap keep (sym named) ∙ says n known ∙ marked) (compared.tail keep says);
    }

-- the end: all elements were compared
pub compared_all : {list : ElementList} {marks : List Bool} {listed left : List ℕ} {behind : Option ℕ}
    → IsNumbered list → AreCompared list marks listed left behind → 0 ≡ length left
    → length listed ≡ marked_count marks → (keep : ℕ → Bool) → IsKeptByMark keep marks list.arrivals
    → ((n : ℕ) → length list.arrivals ≤ n → is_marked marks n ≡ false) → listed ≡ filter keep list.elements
compared_all {list = list} {marks = marks} {listed = listed} {left = left} {behind = behind} numbered compared none
    many keep says beyond =
    let is : listed ≡ compared.done = compared.whole ∙ ap (λ ys. ys ++ compared.done) (sym (no_more left none)) in
    is ∙ tail_whole keep list.elements compared.done compared.index
    (index_among list behind compared.index compared.at) (compared.tail keep says)
    (sym (ap (λ (ys : List ℕ). length ys) is) ∙ many ∙ sym (numbered.counted keep marks says beyond))
  where
    no_more : (ys : List ℕ) → 0 ≡ length ys → [] ≡ ys
    no_more [] empty = refl
    no_more (y ∷ ys) empty = absurd (omega (arith, empty))

-- if the list is that of the kept elements, the next element is found
module _ {list : ElementList} (marks : List Bool) {listed left : List ℕ} (rest : List ℕ) (x : ℕ)
    (numbered : IsNumbered list) (last : left ≡ rest ++ x ∷ []) (keep : ℕ → Bool)
    (says : IsKeptByMark keep marks list.arrivals) (same : listed ≡ filter keep list.elements) where
  found_in : (behind : Option ℕ) → IsBefore list behind x → (j : ℕ) → j < length list.elements
      → get_or list.elements j 0 ≡ x → keep x ≡ true → (n : ℕ) × IsMarkedBefore list marks behind x n
  found_in behind before j there is keeps =
      let (n, known, named) = numbered.number j there in
      (n, (known, named ∙ is, sym (says n known) ∙ ap keep (named ∙ is) ∙ keeps, before))

  read_at : (done : List ℕ) → listed ≡ left ++ done → (length rest < length (filter keep list.elements))
      × (get_or (filter keep list.elements) (length rest) 0 ≡ x)
      × (get_or (filter keep list.elements) (suc (length rest)) 0 ≡ get_or done 0 0)
      × (length (filter keep list.elements) ≡ suc (length rest) + length done)
  read_at done whole =
      let split : filter keep list.elements ≡ rest ++ x ∷ done =
      sym same ∙ whole ∙ ap (λ ys. ys ++ done) last ∙ append_assoc rest (x ∷ []) done in
      let long : length (filter keep list.elements) ≡ suc (length rest) + length done =
      ap (λ (ys : List ℕ). length ys) split ∙ length-append rest (x ∷ done) ∙ omega arith in
      let next : suc (length rest) ≡ length rest + 1 = omega arith in (
        omega (arith, long),
        ap (λ ys. get_or ys (length rest) 0) split ∙ get_or_at rest x done 0 (length rest) refl,
        ap (λ ys. get_or ys (suc (length rest)) 0) split
            ∙ ap (λ k. get_or (rest ++ x ∷ done) k 0) next ∙ get_or-append-add rest (x ∷ done) 1 0,
        long,
      )

  pub next_found : (behind : Option ℕ) → AreCompared list marks listed left behind
      → (n : ℕ) × IsMarkedBefore list marks behind x n
  next_found None compared =
      let (there, is, next, long) = read_at compared.done compared.whole in
      let (j, within, at, keeps) = kept_at keep list.elements (length rest) there in
      found_in None (length list.elements, j, refl, within, at ∙ is) j within (at ∙ is) (sym (ap keep is) ∙ keeps)
  next_found (Some m) compared =
      let (there, is, next, long) = read_at compared.done compared.whole in
      let (some, first) = compared.first in
      let (k, within_k, at_k, keeps) = kept_at keep list.elements (length rest) there in
      let (j, i, lower, within, at, at_next) = kept_two keep list.elements (length rest)
      (omega (arith, long, some)) in
      found_in (Some m)
      (i, j, (compared.at.0, within, at_next ∙ next ∙ first), lower, at ∙ is) j
      (omega (arith, lower, within)) (at ∙ is) (sym (ap keep is) ∙ keeps)

-- the elements of a list, numbered
module _ (number_of : ℕ → Option ℕ) (elements : List Element) (chunks : List Chunk) (places : List ℕ) (newest : ℕ)
    (kept : ElementListKept number_of elements chunks places newest) (fits : Bool) where
  pub list_numbered : IsNumbered (list_of elements chunks fits)
  list_numbered =
      let listed = length_listed number_of elements chunks places newest kept fits in
      let arrived = length_arrived number_of elements chunks places newest kept fits in
      let at = listed_at number_of elements chunks places newest kept fits in
      let name = name_is number_of elements chunks places newest kept fits in
      let of = kept.chunks_kept.entries in
      let entries = joined chunks in
      record {
        number = λ j there.
            let inside : j < length entries = omega (arith, there, listed) in
            let n = (entry_at entries j).number in
            (n, omega (arith, of.known j inside, arrived), name n (of.known j inside) ∙ sym (at j inside));
        apart = λ i j low high same.
            let i_in : i < length entries = omega (arith, low, listed) in
            let j_in : j < length entries = omega (arith, high, listed) in
            one_index elements entries i j of i_in j_in
            (one_number number_of elements (entry_at entries i).number (entry_at entries j).number kept.numbers
            (of.known i i_in) (of.known j j_in) (sym (at i i_in) ∙ same ∙ at j j_in));
        counted = λ keep marks says beyond.
            elements_counted (numbers_in entries) marks keep (λ n. (element_at elements n).element)
            (numbers_once entries of.distinct)
            (λ n marked. elim (cases_lt n (length elements)) [
              | inl known ↦
                  let (k, there, is) = index_of elements chunks places n kept.chunks_kept.placed known in
                  subst (Contains (numbers_in entries)) is (in_numbers entries k there)
              | inr past ↦ absurd (false≢true (sym (beyond n (omega (arith, past, arrived))) ∙ marked))
            ])
            (λ n found.
            let (k, there, is) = index_in entries n found in
            let known : n < length elements = subst (λ m. m < length elements) is (of.known k there) in
            ap keep (sym (name n known)) ∙ says n (omega (arith, known, arrived)));
      }
