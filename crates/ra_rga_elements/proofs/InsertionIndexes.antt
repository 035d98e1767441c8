-- Lemmas on an element that is inserted at its index: the result is that of the definition.
use Rattle.std.proofs.Common.{◌≡◌, ℕ, zero, suc, ◌<◌, ◌≤◌, Bool, true, false, List, [], ◌∷◌, length, get_or, map, refl, sym, ap, ◌∙◌, subst, arith, Option}
use Rattle.std.specs.Prelude.{◌==◌}
use Rattle.std.specs.List.{insert}
use Rattle.std.specs.Ordering.{is_lt}
use Rattle.std.proofs.lemmas.Bool.{cond-true, cond-false, eq-eqb, ne_eqb}
use Rattle.std.proofs.lemmas.List.{length-map, get_or-map}
use Rattle.ra_labels.specs.declared.label.Stamp.{Stamp}
use Rattle.ra_labels.specs.NamedOrder.{stamp_cmp}
use Rattle.ra_labels.specs.TheoremTerms.{elements_in}
use Rattle.ra_labels.specs.Late.{insert_past_greater, insert_late_after}
use Rattle.ra_rga_elements.specs.declared.entry.Entry.{Entry}
use Rattle.ra_rga_elements.specs.declared.element.Element.{Element}
use Rattle.ra_rga_elements.specs.Entries.{entry_at, numbers_in, IsPast}
use Rattle.ra_rga_elements.specs.Groups.{element_at}
use Rattle.ra_rga_elements.specs.Links.{IsLinked}
use Rattle.ra_rga_elements.specs.ElementList.{Arrival, IsBelowByStamp}
use Rattle.ra_rga_elements.specs.Kept.{arrival_of, elements_by, AreEntriesOf, AreNumbers}
use Rattle.ra_rga_elements.proofs.Members.{map-insert, map_same}
use Rattle.ra_rga_elements.proofs.ElementPlaces.{index_in, one_number, arrival_is, element_is}
use Rattle.ra_rga_elements.proofs.NewElements.{element_kept}

module _ (below : ℕ → ℕ → Bool) (x : ℕ) (d : ℕ × Bool) where
  past_at : (list : List (ℕ × Bool)) (q : ℕ) → q ≤ length list → ((k : ℕ) → k < q → below x (get_or list k d).0 ≡ true)
      → (q < length list → below x (get_or list q d).0 ≡ false) → insert_past_greater below x list ≡ insert list q (x, true)
  past_at [] zero few greater stops = refl
  past_at [] (suc q) few greater stops = absurd (omega arith)
  past_at (entry ∷ list) zero few greater stops =
      cond-false (below x entry.0) (entry ∷ insert_past_greater below x list) ((x, true) ∷ entry ∷ list) (stops (omega arith))
  past_at (entry ∷ list) (suc q) few greater stops =
      cond-true (below x entry.0) (entry ∷ insert_past_greater below x list) ((x, true) ∷ entry ∷ list) (greater 0 (omega arith))
      ∙ ap (λ es. entry ∷ es)
      (past_at list q (omega arith) (λ k low. greater (suc k) (omega arith)) (λ there. stops (omega arith)))

  pub after_at : (anchor : ℕ) (list : List (ℕ × Bool)) (i q : ℕ) → i < q → q ≤ length list
      → anchor ≡ (get_or list i d).0
      → ((k : ℕ) → k < i → ¬ (anchor ≡ (get_or list k d).0))
      → ((k : ℕ) → i < k → k < q → below x (get_or list k d).0 ≡ true)
      → (q < length list → below x (get_or list q d).0 ≡ false)
      → insert_late_after below anchor x list ≡ insert list q (x, true)
  after_at anchor [] i q from few is before greater stops = absurd (omega arith)
  after_at anchor (entry ∷ list) i zero from few is before greater stops = absurd (omega arith)
  after_at anchor (entry ∷ list) zero (suc q) from few is before greater stops =
      cond-true (anchor == entry.0) (entry ∷ insert_past_greater below x list) (entry ∷ insert_late_after below anchor x list)
      (eq-eqb anchor entry.0 is)
      ∙ ap (λ es. entry ∷ es)
      (past_at list q (omega arith) (λ k low. greater (suc k) (omega arith) (omega arith))
      (λ there. stops (omega arith)))
  after_at anchor (entry ∷ list) (suc i) (suc q) from few is before greater stops =
      cond-false (anchor == entry.0) (entry ∷ insert_past_greater below x list) (entry ∷ insert_late_after below anchor x list)
      (ne_eqb anchor entry.0 (before 0 (omega arith)))
      ∙ ap (λ es. entry ∷ es)
      (after_at anchor list i q (omega arith) (omega arith) is (λ k low. before (suc k) (omega arith))
      (λ k low high. greater (suc k) (omega arith) (omega arith)) (λ there. stops (omega arith)))

-- the elements with the new one
pub elements_with : (elements after : List Element) (next : Option ℕ) (new : Element) (entries : List Entry) (q : ℕ)
    → IsLinked elements next new after
    → AreEntriesOf elements entries
    → elements_by after (insert entries q (record { number = length elements; stamp = new.stamp }))
    ≡ insert (elements_by elements entries) q new.element
elements_with elements after next new entries q linked of =
    let name : ℕ → ℕ = λ n. (element_at after n).element in
    let one : Entry = record { number = length elements; stamp = new.stamp } in
    ap (map name) (map-insert (λ (e : Entry). e.number) entries q one)
    ∙ map-insert name (numbers_in entries) q (length elements)
    ∙ ap (λ y. insert (map name (numbers_in entries)) q y) (ap (λ (e : Element). e.element) linked.newest)
    ∙ ap (λ ys. insert ys q new.element)
    (map_same name (λ n. (element_at elements n).element) (numbers_in entries) (λ n among.
    let at = index_in entries n among in
    element_kept elements after next new linked n (subst (λ m. m < length elements) at.2 (of.known at.0 at.1))))

-- the default entry of the list
abbrev pub nothing : ℕ × Bool
nothing = (0, false)

module _ (number_of : ℕ → Option ℕ) (elements : List Element) (entries : List Entry)
    (numbers : AreNumbers number_of elements) (of : AreEntriesOf elements entries)
    (all : List (ℕ × Bool)) (same : elements_in all ≡ elements_by elements entries) where
  pub long : length all ≡ length entries
  long =
      let a = length-map all (λ (e : ℕ × Bool). e.0) in
      let b = length-map entries (λ (e : Entry). e.number) in
      let c = length-map (numbers_in entries) (λ n. (element_at elements n).element) in
      omega (arith, ap (λ (xs : List ℕ). length xs) same, a, b, c)

  -- the element at an index
  pub at_index : (k : ℕ) → k < length entries
      → (get_or all k nothing).0 ≡ (element_at elements (entry_at entries k).number).element
  at_index k there =
      sym (get_or-map (λ (e : ℕ × Bool). e.0) all k nothing 0 (omega (arith, long)))
      ∙ ap (λ xs. get_or xs k 0) same
      ∙ element_is elements entries k 0 there

  module _ (below : ℕ → ℕ → Bool) (x : ℕ) (stamp : Stamp)
      (says : IsBelowByStamp below x stamp (map arrival_of elements)) where
    below_at : (k : ℕ) → k < length entries → below x (get_or all k nothing).0
        ≡ is_lt (stamp_cmp stamp (entry_at entries k).stamp)
    below_at k there =
        let n = (entry_at entries k).number in
        let known = of.known k there in
        let came = arrival_is elements n known in
        ap (below x) (at_index k there ∙ sym (ap (λ (a : Arrival). a.element) came))
        ∙ says n (omega (arith, known, length-map elements arrival_of))
        ∙ ap (λ s. is_lt (stamp_cmp stamp s)) (ap (λ (a : Arrival). a.stamp) came ∙ sym (of.stamps k there))

    pub put_in_all : (anchor i q : ℕ) → anchor < length elements → (entry_at entries i).number ≡ anchor
        → IsPast entries (suc i) stamp q
        → elements_in (insert_late_after below (element_at elements anchor).element x all)
        ≡ insert (elements_by elements entries) q x
    put_in_all anchor i q known is past =
        let i_there : i < length entries = omega (arith, past.behind, past.among) in
        ap elements_in
        (after_at below x nothing (element_at elements anchor).element all i q (omega (arith, past.behind))
        (omega (arith, past.among, long))
        (sym (at_index i i_there ∙ ap (λ n. (element_at elements n).element) is))
        (λ k low equal.
        let k_there : k < length entries = omega arith in
        let one = one_number number_of elements anchor (entry_at entries k).number numbers known (of.known k k_there)
        (equal ∙ at_index k k_there) in
        of.distinct k i low i_there (sym one ∙ sym is))
        (λ k low high. below_at k (omega (arith, past.among)) ∙ past.greater k (omega arith) high)
        (λ there. let q_there : q < length entries = omega (arith, long) in below_at q q_there ∙ past.stops q_there))
        ∙ map-insert (λ (e : ℕ × Bool). e.0) all q (x, true)
        ∙ ap (λ xs. insert xs q x) same
