-- Lemmas on the last one of an element's newest updates: it decides whether the element is listed.
use Rattle.std.proofs.Common.{◌≡◌, ℕ, ◌+◌, Bool, true, false, List, [], ◌∷◌, ◌++◌, Option, Some, None, BTreeMap, length, refl, sym, ap, ◌∙◌, subst, inl, inr, arith, zero, suc, add-one}
use Rattle.std.specs.Prelude.{◌⊎◌, ◌==◌, ◌&&◌, not, slice_get, Contains}
use Rattle.std.specs.Option.{option_map_or}
use Rattle.std.proofs.lemmas.Bool.{false≢true, or_left, ne_eqb}
use Rattle.ra_labels.specs.declared.operation.Op.{Op}
use Rattle.ra_labels.specs.declared.operation.Op.TheVariants as op
use Rattle.ra_labels.specs.Edges.{EachOnce, IsBefore}
use Rattle.ra_labels.specs.Lists.{is_among}
use Rattle.ra_labels.proofs.Members.{none_there, kept-there, there-kept}
use Rattle.ra_precedence.specs.Conditions.{Condition, Meets}
use Rattle.ra_precedence.specs.Lasts.{IsLastOf}
use Rattle.ra_some_order.specs.VisibleUpdates.{removes}
use Rattle.ra_any_order.specs.declared.seen_updates.SeenUpdates.{SeenUpdates}
use Rattle.ra_any_order.specs.Reading.{passes_at}
use Rattle.ra_any_order.specs.Changes.{changes, newest_in}
use Rattle.ra_any_order.specs.Elements.{leads, narrow_element, is_possible_element, AreNewestOf}
use Rattle.ra_any_order.proofs.ElementReads.{added, option_sides}
use Rattle.ra_any_order.proofs.ElementSets.{newest_at_first, newest_with, newest_without}
use Rattle.ra_any_order.proofs.LastMembers.{find_last, none_behind, same_last}

-- no operation both adds an element and removes it
one_side : (x : ℕ) (operation : Op) → leads true x operation ≡ true → ¬ (leads false x operation ≡ true)
one_side x operation adds_it removes_it =
    false≢true (sym (ap (removes x) (added x operation adds_it)) ∙ removes_it)

one_side_of : (x : ℕ) (o : Option Op) → option_map_or (leads true x) o false ≡ true
    → ¬ (option_map_or (leads false x) o false ≡ true)
one_side_of x None adds_it removes_it = false≢true adds_it
one_side_of x (Some operation) adds_it removes_it = one_side x operation adds_it removes_it

module _ (operations : List Op) (x : ℕ) where
  pub not_both : (side : Bool) (w : ℕ) → passes_at operations (leads side x) w ≡ true
      → ¬ (passes_at operations (leads (not side) x) w ≡ true)
  not_both true w first second = one_side_of x (slice_get operations w) first second
  not_both false w first second = one_side_of x (slice_get operations w) second first

  pub sides_at : (side : Bool) (w : ℕ) → passes_at operations (changes x) w ≡ true
      → (passes_at operations (leads (not side) x) w ≡ true) ⊎ (passes_at operations (leads side x) w ≡ true)
  sides_at side w is = option_sides side x (slice_get operations w) is

  module _ (newest : List ℕ) (side : Bool) where
    abbrev narrow : Condition
    narrow = narrow_element operations newest side x

    -- if the last update leads there, the condition is met
    pub met_by_last : (order : List ℕ) (w : ℕ) → IsLastOf order newest w
        → passes_at operations (leads side x) w ≡ true → Meets order narrow
    met_by_last order w is leads_it b first =
        let (among, other) = there-kept (passes_at operations (leads (not side) x)) newest b first in (
          w,
          kept-there (passes_at operations (leads side x)) newest w is.member leads_it,
          is.last b among (λ same. not_both side w leads_it
              (subst (λ k. passes_at operations (leads (not side) x) k ≡ true) same other)),
        )

    -- and if the condition is met, it leads there
    pub last_by_met : (order : List ℕ) → EachOnce order → ((m : ℕ) → Contains newest m → Contains order m) → (w : ℕ)
        → IsLastOf order newest w → passes_at operations (changes x) w ≡ true → Meets order narrow
        → passes_at operations (leads side x) w ≡ true
    last_by_met order once there w is changes_it met = elim (sides_at side w changes_it) [
      | inr leads_it ↦ leads_it
      | inl other ↦
          let (c, after, stands) = met w (kept-there (passes_at operations (leads (not side) x)) newest w is.member other) in
          let found = find_last order newest once there w is.member in
          absurd (none_behind order newest once there found c
          (there-kept (passes_at operations (leads side x)) newest c after).0
          (subst (λ k. IsBefore order k c) (sym (same_last order newest once there found w is)) stands))
    ]

    pub possible_by_member : (w : ℕ) → Contains newest w → passes_at operations (leads side x) w ≡ true
        → is_possible_element narrow side ≡ true
    possible_by_member w among leads_it =
        some_after narrow.after (kept-there (passes_at operations (leads side x)) newest w among leads_it)
      where
        some_after : (xs : List ℕ) → Contains xs w
            → is_possible_element (record { before = narrow.before; after = xs }) side ≡ true
        some_after [] there = absurd (none_there w there)
        some_after (y ∷ ys) there =
            or_left (not (length (y ∷ ys) == 0)) (not side && length narrow.before == 0)
            (ap not (ne_eqb (length (y ∷ ys)) 0 (λ is. omega (arith, is))))

-- ---- the newest updates of an element
module _ (found : BTreeMap (ℕ × ℕ) ℕ) (x : ℕ) where
  pub newest_exist : (bound : ℕ) → (newest : List ℕ) × AreNewestOf found x bound newest
  newest_exist zero = ([], newest_at_first found x [] refl)
  newest_exist (suc bound) =
      let (newest, are) = newest_exist bound in
      subst (λ b. (more : List ℕ) × AreNewestOf found x b more) (add-one bound)
      (one_more newest are (newest_in found x bound) refl)
    where
      one_more : (newest : List ℕ) → AreNewestOf found x bound newest → (o : Option ℕ)
          → newest_in found x bound ≡ o → (more : List ℕ) × AreNewestOf found x (bound + 1) more
      one_more newest are (Some m) at =
          (newest ++ m ∷ [], newest_with found x bound m newest (newest ++ m ∷ []) at refl are)
      one_more newest are None at = (newest, newest_without found x bound newest newest at refl are)

  pub same_newest : (bound : ℕ) (newest other : List ℕ) → AreNewestOf found x bound newest
      → AreNewestOf found x bound other → (m : ℕ) → Contains newest m → Contains other m
  same_newest bound newest other are its m among =
      let (replica, low, at) = are.each m among in its.all replica m low at

  pub same_last_of : (bound : ℕ) (newest other : List ℕ) → AreNewestOf found x bound newest
      → AreNewestOf found x bound other → (order : List ℕ) (w : ℕ) → IsLastOf order newest w → IsLastOf order other w
  same_last_of bound newest other are its order w is = record {
    member = same_newest bound newest other are its w is.member;
    last = λ m among apart. is.last m (same_newest bound other newest its are m among) apart;
  }

-- holds if the last one of the newest updates of each element adds it if it is listed, and removes it if not
abbrev pub AreListedLast : List Op → SeenUpdates → List ℕ → List ℕ → Type 0
AreListedLast operations seen order list = (x : ℕ) (newest : List ℕ) → AreNewestOf seen.newest x seen.replicas newest
    → (w : ℕ) → IsLastOf order newest w → passes_at operations (leads (is_among x list) x) w ≡ true
