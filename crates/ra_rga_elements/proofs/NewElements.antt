-- Lemmas on one more element among the others.
use Rattle.std.proofs.Common.{◌≡◌, ℕ, suc, ◌+◌, ◌-◌, ◌<◌, ◌≤◌, List, length, sym, ap, ◌∙◌, subst, inl, inr, arith, Option}
use Rattle.std.specs.List.{insert}
use Rattle.std.proofs.lemmas.Bool.{cases_lt, cases_eq}
use Rattle.std.proofs.lemmas.List.Edits.{length-insert, get_or-insert_below, get_or-insert_at, get_or-insert_above}
use Rattle.ra_rga_elements.specs.declared.entry.Entry.{Entry}
use Rattle.ra_rga_elements.specs.declared.element.Element.{Element}
use Rattle.ra_rga_elements.specs.Entries.{no_entry, entry_at, IsNumberAt}
use Rattle.ra_rga_elements.specs.Groups.{element_at}
use Rattle.ra_rga_elements.specs.Links.{IsLinked}
use Rattle.ra_rga_elements.specs.Kept.{AreEntriesOf, AreLinked, AreBehindAnchors}
use Rattle.ra_rga_elements.proofs.Members.{IsFrom, Before, Here, Behind, from_insert}
use Rattle.ra_rga_elements.proofs.ElementPlaces.{one_index, next_is, next_some}

module _ (elements after : List Element) (next : Option ℕ) (new : Element)
    (linked : IsLinked elements next new after) where
  pub element_kept : (n : ℕ) → n < length elements → (element_at after n).element ≡ (element_at elements n).element
  element_kept n there = ap (λ (e : Element). e.element) (linked.kept n 0 there)

  pub stamp_kept : (n : ℕ) → n < length elements → (element_at after n).stamp ≡ (element_at elements n).stamp
  stamp_kept n there = ap (λ (e : Element). e.stamp) (linked.kept n 0 there)

  pub anchor_kept : (n : ℕ) → n < length elements → (element_at after n).anchor ≡ (element_at elements n).anchor
  anchor_kept n there = ap (λ (e : Element). e.anchor) (linked.kept n 0 there)

  pub group_kept : (n : ℕ) → n < length elements → (element_at after n).group ≡ (element_at elements n).group
  group_kept n there = ap (λ (e : Element). e.group) (linked.kept n 0 there)

  module _ (entries : List Entry) (q : ℕ) (of : AreEntriesOf elements entries) (some : 0 < q)
      (few : q ≤ length entries) where
    abbrev one : Entry
    one = record { number = length elements; stamp = new.stamp }

    abbrev all : List Entry
    all = insert entries q one

    abbrev FromAll : ℕ → Type 0
    FromAll k = IsFrom entries q one no_entry k

    from_all : (k : ℕ) → k < length all → FromAll k
    from_all k there = from_insert entries q one no_entry k few there

    -- an entry is the new one, or stood at an earlier index
    known_from : (k : ℕ) → FromAll k → (entry_at all k).number < length after
    known_from k (Before low is) = omega (arith, linked.one, ap (λ (e : Entry). e.number) is, of.known k (omega arith))
    known_from k (Here same is) = omega (arith, linked.one, ap (λ (e : Entry). e.number) is)
    known_from k (Behind j step from high is) =
        omega (arith, linked.one, ap (λ (e : Entry). e.number) is, of.known j high)

    stamp_old : (k j : ℕ) → j < length entries → entry_at all k ≡ entry_at entries j
        → (entry_at all k).stamp ≡ (element_at after (entry_at all k).number).stamp
    stamp_old k j high is =
        subst (λ (e : Entry). e.stamp ≡ (element_at after e.number).stamp) (sym is)
        (of.stamps j high ∙ sym (stamp_kept (entry_at entries j).number (of.known j high)))

    stamp_from : (k : ℕ) → FromAll k → (entry_at all k).stamp ≡ (element_at after (entry_at all k).number).stamp
    stamp_from k (Before low is) = stamp_old k k (omega arith) is
    stamp_from k (Here same is) = subst (λ (e : Entry). e.stamp ≡ (element_at after e.number).stamp) (sym is)
        (sym (ap (λ (e : Element). e.stamp) linked.newest))
    stamp_from k (Behind j step from high is) = stamp_old k j high is

    old_apart : (i j k l : ℕ) → i < j → j < length entries → entry_at all k ≡ entry_at entries i
        → entry_at all l ≡ entry_at entries j
        → ¬ ((entry_at all k).number ≡ (entry_at all l).number)
    old_apart i j k l low high k_is l_is same =
        of.distinct i j low high (sym (ap (λ (e : Entry). e.number) k_is) ∙ same ∙ ap (λ (e : Entry). e.number) l_is)

    new_apart : (j k l : ℕ) → j < length entries → entry_at all k ≡ one → entry_at all l ≡ entry_at entries j
        → (entry_at all k).number ≡ (entry_at all l).number → ⊥
    new_apart j k l high k_is l_is same =
        let here : length elements ≡ (entry_at entries j).number = sym (ap (λ (e : Entry). e.number) k_is) ∙ same
        ∙ ap (λ (e : Entry). e.number) l_is in
        omega (arith, of.known j high, here)

    apart_from : (k l : ℕ) → k < l → FromAll k → FromAll l → ¬ ((entry_at all k).number ≡ (entry_at all l).number)
    apart_from k l less (Before k_low k_is) (Before l_low l_is) = old_apart k l k l less (omega arith) k_is l_is
    apart_from k l less (Before k_low k_is) (Here l_same l_is) =
        λ same. new_apart k l k (omega arith) l_is k_is (sym same)
    apart_from k l less (Before k_low k_is) (Behind j step from high l_is) =
        old_apart k j k l (omega arith) high k_is l_is
    apart_from k l less (Here k_same k_is) (Before l_low l_is) = absurd (omega arith)
    apart_from k l less (Here k_same k_is) (Here l_same l_is) = absurd (omega arith)
    apart_from k l less (Here k_same k_is) (Behind j step from high l_is) = new_apart j k l high k_is l_is
    apart_from k l less (Behind i k_step k_from k_high k_is) (Before l_low l_is) = absurd (omega arith)
    apart_from k l less (Behind i k_step k_from k_high k_is) (Here l_same l_is) = absurd (omega arith)
    apart_from k l less (Behind i k_step k_from k_high k_is) (Behind j l_step l_from l_high l_is) =
        old_apart i j k l (omega arith) l_high k_is l_is

    pub entries_entered : AreEntriesOf after all
    entries_entered = record {
      root = ap (λ (e : Entry). e.number) (get_or-insert_below entries q one no_entry 0 some few) ∙ of.root;
      known = λ k there. known_from k (from_all k there);
      stamps = λ k there. stamp_from k (from_all k there);
      distinct = λ j k low high. apart_from j k low (from_all j (omega arith)) (from_all k high);
    }

    -- the new element stands behind its anchor
    module _ (behind : AreBehindAnchors elements entries) (i : ℕ) (low : i < q)
        (is : (entry_at entries i).number ≡ new.anchor) where
      -- the new index of an old element
      now_at : (j : ℕ) → j < length entries → (l : ℕ) × (l ≤ suc j) × (entry_at all l ≡ entry_at entries j)
      now_at j high = elim (cases_lt j q) [
        | inl under ↦ (j, omega arith, get_or-insert_below entries q one no_entry j under few)
        | inr over ↦ (j + 1, omega arith, get_or-insert_above entries q one no_entry j over few)
      ]

      anchor_at : (k j : ℕ) → j < length entries → entry_at all k ≡ entry_at entries j
          → (element_at after (entry_at all k).number).anchor ≡ (element_at elements (entry_at entries j).number).anchor
      anchor_at k j high same = ap (λ (e : Entry). (element_at after e.number).anchor) same
          ∙ anchor_kept (entry_at entries j).number (of.known j high)

      abbrev IsBehindNow : ℕ → Type 0
      IsBehindNow k = (j : ℕ) × (j < k) × ((entry_at all j).number ≡ (element_at after (entry_at all k).number).anchor)

      behind_from : (k : ℕ) → 0 < k → FromAll k → IsBehindNow k
      behind_from k more (Before under same) =
          let old = behind k more (omega arith) in (
            old.0,
            old.1,
            ap (λ (e : Entry). e.number)
                (get_or-insert_below entries q one no_entry old.0 (omega (arith, old.1)) few) ∙ old.2
                ∙ sym (anchor_at k k (omega arith) same),
          )
      behind_from k more (Here at same) = (
        i,
        omega arith,
        ap (λ (e : Entry). e.number) (get_or-insert_below entries q one no_entry i low few)
            ∙ is
            ∙ sym (ap (λ (e : Entry). (element_at after e.number).anchor) same
            ∙ ap (λ (e : Element). e.anchor) linked.newest),
      )
      behind_from k more (Behind j step from high same) =
          let old = behind j (omega arith) high in
          let now = now_at old.0 (omega (arith, old.1)) in (
            now.0,
            omega (arith, now.1, old.1),
            ap (λ (e : Entry). e.number) now.2 ∙ old.2
                ∙ sym (anchor_at k j high same),
          )

      pub behind_entered : AreBehindAnchors after all
      behind_entered = λ k more there. behind_from k more (from_all k there)

    module _ (links : AreLinked elements entries) (at : IsNumberAt entries q next)
        (before : new.before ≡ (entry_at entries (q - 1)).number) where
      -- an old element keeps its predecessor, unless the new element is inserted before it
      link_old : (j : ℕ) → suc j < length entries → ¬ (suc j ≡ q)
          → (element_at after (entry_at entries (suc j)).number).before ≡ (entry_at entries j).number
      link_old j high other =
          linked.others (entry_at entries (suc j)).number (of.known (suc j) high) (λ moved.
          let here = next_is entries q next (entry_at entries (suc j)).number at moved in
          other (one_index elements entries (suc j) q of high here.0 (sym here.1)))
          ∙ links j high

      link_before : (k : ℕ) → suc k < q → (element_at after (entry_at all (suc k)).number).before
          ≡ (entry_at all k).number
      link_before k low =
          ap (λ (e : Entry). (element_at after e.number).before)
          (get_or-insert_below entries q one no_entry (suc k) low few)
          ∙ link_old k (omega arith) (λ e. omega (arith, e))
          ∙ sym (ap (λ (e : Entry). e.number) (get_or-insert_below entries q one no_entry k (omega arith) few))

      link_here : (k : ℕ) → suc k ≡ q → (element_at after (entry_at all (suc k)).number).before
          ≡ (entry_at all k).number
      link_here k here =
          let last : q - 1 ≡ k = omega arith in
          ap (λ n. (element_at after (entry_at all n).number).before) here
          ∙ ap (λ (e : Entry). (element_at after e.number).before) (get_or-insert_at entries q one no_entry few)
          ∙ ap (λ (e : Element). e.before) linked.newest
          ∙ before
          ∙ ap (λ n. (entry_at entries n).number) last
          ∙ sym (ap (λ (e : Entry). e.number) (get_or-insert_below entries q one no_entry k (omega arith) few))

      link_next : (k : ℕ) → k ≡ q → k < length entries → (element_at after (entry_at all (suc k)).number).before
          ≡ (entry_at all k).number
      link_next k here high =
          let step : suc k ≡ q + 1 = omega arith in
          ap (λ n. (element_at after (entry_at all n).number).before) step
          ∙ ap (λ (e : Entry). (element_at after e.number).before)
          (get_or-insert_above entries q one no_entry q (omega arith) few)
          ∙ linked.moved (entry_at entries q).number (next_some entries q next at (omega arith))
          (of.known q (omega arith))
          ∙ sym (ap (λ n. (entry_at all n).number) here
          ∙ ap (λ (e : Entry). e.number) (get_or-insert_at entries q one no_entry few))

      link_behind : (k : ℕ) → q < k → k < length entries
          → (element_at after (entry_at all (suc k)).number).before ≡ (entry_at all k).number
      link_behind k low high =
          let j : ℕ = k - 1 in
          let step : suc k ≡ k + 1 = omega arith in
          let back : k ≡ j + 1 = omega arith in
          let up : k ≡ suc j = omega arith in
          ap (λ n. (element_at after (entry_at all n).number).before) step
          ∙ ap (λ (e : Entry). (element_at after e.number).before)
          (get_or-insert_above entries q one no_entry k (omega arith) few)
          ∙ ap (λ n. (element_at after (entry_at entries n).number).before) up
          ∙ link_old j (omega arith) (λ e. omega (arith, e))
          ∙ sym (ap (λ n. (entry_at all n).number) back
          ∙ ap (λ (e : Entry). e.number) (get_or-insert_above entries q one no_entry j (omega arith) few))

      pub links_entered : AreLinked after all
      links_entered = λ k there. elim (cases_lt (suc k) q) [
        | inl low ↦ link_before k low
        | inr high ↦ elim (cases_eq (suc k) q) [
          | inl here ↦ link_here k here
          | inr more ↦ elim (cases_eq k q) [
            | inl next ↦ link_next k next (omega (arith, length-insert entries q one few))
            | inr behind ↦ link_behind k (omega (arith, more, behind)) (omega (arith, length-insert entries q one few))
          ]
        ]
      ]
