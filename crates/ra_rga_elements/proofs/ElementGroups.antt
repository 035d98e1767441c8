-- Lemmas on moving elements to another group, which changes nothing else.
use Rattle.std.proofs.Common.{◌≡◌, ℕ, ◌+◌, ◌<◌, List, [], ◌∷◌, ◌++◌, length, take, get_or, sym, ap, ◌∙◌, subst, inl, inr, arith, suc, map, Option}
use Rattle.std.specs.Prelude.{set, Contains}
use Rattle.std.proofs.lemmas.Bool.{cases_eq}
use Rattle.std.proofs.lemmas.List.{length-set, get_or-set_same, get_or-set_other, map_more, ext_get_or, length-map, get_or-map, take_at}
use Rattle.std.proofs.lemmas.List.Elements.{Contains-push, Contains-push_cases, Contains-append_left}
use Rattle.ra_rga_elements.specs.declared.entry.Entry.{Entry}
use Rattle.ra_rga_elements.specs.declared.element.Element.{Element}
use Rattle.ra_rga_elements.specs.Entries.{numbers_in, entry_at}
use Rattle.ra_rga_elements.specs.Groups.{no_element, element_at, in_group, IsRegrouped, AreSameButGroups}
use Rattle.ra_rga_elements.specs.ElementList.{root}
use Rattle.ra_rga_elements.specs.Kept.{arrival_of, elements_by, AreEntriesOf, AreLinked, AreBehindAnchors, AreNumbers}
use Rattle.ra_rga_elements.proofs.Members.{map_same}

-- with one more element moved
module _ (elements new : List Element) (entries : List Entry) (i : ℕ) (d : Entry) (group : ℕ) (its : Element)
    (there : i < length entries)
    (so_far : IsRegrouped elements (take i entries) group new) (known : (get_or entries i d).number < length elements)
    (is : its ≡ element_at new (get_or entries i d).number) where
  abbrev one : ℕ
  one = (get_or entries i d).number

  abbrev after : List Element
  after = set new one (in_group group its)

  numbers_more : numbers_in (take (i + 1) entries) ≡ numbers_in (take i entries) ++ one ∷ []
  numbers_more = map_more (λ (e : Entry). e.number) entries i d there

  at_one : element_at after one ≡ in_group group its
  at_one = get_or-set_same new one (in_group group its) no_element (omega (arith, so_far.same))

  at_other : (number : ℕ) → ¬ (one ≡ number) → element_at after number ≡ element_at new number
  at_other number differ = get_or-set_other new one number (in_group group its) no_element (λ e. differ (sym e))

  kept_more : (number other : ℕ) → in_group other (element_at after number)
      ≡ in_group other (element_at elements number)
  kept_more number other = elim (cases_eq one number) [
    | inl same ↦
        subst (λ n. in_group other (element_at after n) ≡ in_group other (element_at elements n)) same
        (ap (in_group other) at_one ∙ ap (in_group other) is ∙ so_far.kept one other)
    | inr differ ↦ ap (in_group other) (at_other number differ) ∙ so_far.kept number other
  ]

  moved_more : (number : ℕ) → Contains (numbers_in (take (i + 1) entries)) number
      → (element_at after number).group ≡ group
  moved_more number among = elim (cases_eq one number) [
    | inl same ↦ subst (λ n. (element_at after n).group ≡ group) same (ap (λ (e : Element). e.group) at_one)
    | inr differ ↦
        elim (Contains-push_cases (numbers_in (take i entries)) one number
        (subst (λ ns. Contains ns number) numbers_more among)) [
          | inl before ↦ ap (λ (e : Element). e.group) (at_other number differ) ∙ so_far.moved number before
          | inr now ↦ absurd (differ now)
        ]
  ]

  others_more : (number : ℕ) → ¬ Contains (numbers_in (take (i + 1) entries)) number
      → (element_at after number).group ≡ (element_at elements number).group
  others_more number none =
      let differ : ¬ (one ≡ number) =
      λ same. none
      (subst (λ ns. Contains ns number) (sym numbers_more)
      (subst (Contains (numbers_in (take i entries) ++ one ∷ [])) same
      (Contains-push (numbers_in (take i entries)) one))) in
      ap (λ (e : Element). e.group) (at_other number differ)
      ∙ so_far.others number
      (λ before. none
      (subst (λ ns. Contains ns number) (sym numbers_more)
      (Contains-append_left (numbers_in (take i entries)) (one ∷ []) number before)))

  pub regrouped_more : IsRegrouped elements (take (i + 1) entries) group after
  regrouped_more = record {
    same = length-set new one (in_group group its) ∙ so_far.same;
    kept = kept_more;
    moved = moved_more;
    others = others_more;
  }

-- ---- what is unchanged

module _ (elements new : List Element) (same : AreSameButGroups elements new) where
  pub name_same : (n : ℕ) → (element_at new n).element ≡ (element_at elements n).element
  name_same n = ap (λ (e : Element). e.element) (same.kept n 0)

  pub entries_same : (entries : List Entry) → AreEntriesOf elements entries → AreEntriesOf new entries
  entries_same entries of = record {
    root = of.root;
    known = λ k there. omega (arith, of.known k there, same.same);
    stamps = λ k there. of.stamps k there
        ∙ sym (ap (λ (e : Element). e.stamp) (same.kept (entry_at entries k).number 0));
    distinct = of.distinct;
  }

  pub links_same : (entries : List Entry) → AreLinked elements entries → AreLinked new entries
  links_same entries links = λ k there. ap (λ (e : Element). e.before) (same.kept (entry_at entries (suc k)).number 0)
      ∙ links k there

  pub behind_same : (entries : List Entry) → AreBehindAnchors elements entries → AreBehindAnchors new entries
  behind_same entries behind = λ k some there.
      let old = behind k some there in
      (old.0, old.1, old.2 ∙ sym (ap (λ (e : Element). e.anchor) (same.kept (entry_at entries k).number 0)))

  pub anchors_same : ((n : ℕ) → n < length elements → (element_at elements n).anchor < length elements) → (n : ℕ)
      → n < length new → (element_at new n).anchor < length new
  anchors_same anchored n there =
      omega (arith, ap (λ (e : Element). e.anchor) (same.kept n 0), anchored n (omega (arith, same.same)), same.same)

  pub numbers_kept : (number_of : ℕ → Option ℕ) → AreNumbers number_of elements → AreNumbers number_of new
  numbers_kept number_of numbers = record {
    found = λ n high. ap number_of (name_same n) ∙ numbers.found n (omega (arith, same.same));
    there = λ x n found. let at = numbers.there x n found in (omega (arith, at.0, same.same), name_same n ∙ at.1);
  }

  pub arrivals_same : map arrival_of new ≡ map arrival_of elements
  arrivals_same =
      ext_get_or root (map arrival_of new) (map arrival_of elements)
      (length-map new arrival_of ∙ same.same ∙ sym (length-map elements arrival_of)) (λ k there.
      let high : k < length new = omega (arith, length-map new arrival_of) in
      get_or-map arrival_of new k no_element root high
      ∙ ap arrival_of (same.kept k 0)
      ∙ sym (get_or-map arrival_of elements k no_element root (omega (arith, same.same))))

  pub elements_same : (entries : List Entry) → elements_by new entries ≡ elements_by elements entries
  elements_same entries =
      map_same (λ n. (element_at new n).element) (λ n. (element_at elements n).element) (numbers_in entries)
      (λ n among. name_same n)

-- regrouping a slice changes the vector's elements only in their groups
pub slice_left : (old slice new : List Element) (len : ℕ) → slice ≡ old → AreSameButGroups slice new
    → length slice ≡ len → AreSameButGroups old new × ((more : List Element) → take len (new ++ more) ≡ new)
slice_left old slice new len is same long = (
  subst (λ es. AreSameButGroups es new) is same,
  (λ more. take_at new more len (same.same ∙ long)),
)
