-- Lemmas on the search for the longest beginning.
use Rattle.std.proofs.Common.{◌≡◌, ℕ, ◌+◌, ◌<◌, ◌≤◌, List, Option, Some, None, length, refl, sym, ap, subst, ◌∙◌, inl, inr, arith}
use Rattle.std.specs.Prelude.{take, drop, Contains}
use Rattle.std.proofs.lemmas.Option.{none-some, same_Some}
use Rattle.std.proofs.lemmas.List.{take-append-drop, take_all}
use Rattle.std.proofs.lemmas.List.Elements.{Contains-append_left}
use Rattle.ra_precedence.specs.Conditions.{Condition, NameOnlyBelow}
use Rattle.ra_precedence.specs.Lasts.{IsOrderFor}
use Rattle.ra_rga_precedence.specs.declared.beginning.Beginning.{Beginning}
use Rattle.ra_rga_precedence.specs.Beginnings.{IsLongest, SomeStuck}
use Rattle.ra_rga_precedence.specs.UpdateConditions.{NameBelow}
use Rattle.ra_rga_precedence.proofs.Conclusions.{names_only}

-- the first conditions name what all of them name
pub first_named : (count : ℕ) (conditions : List Condition) (k : ℕ) → NameBelow count conditions
    → NameBelow count (take k conditions)
first_named count conditions k named condition there =
    named condition (subst (λ cs. Contains cs condition) (take-append-drop k conditions)
    (Contains-append_left (take k conditions) (drop k conditions) condition there))

pub named_first : (count : ℕ) (conditions : List Condition) (k : ℕ) → NameBelow count conditions
    → NameOnlyBelow count (take k conditions)
named_first count conditions k named = names_only count (take k conditions) (first_named count conditions k named)

-- holds if no order meets the conditions with the refused number of pairs, and the beginning that was found has the
-- number that is kept
pub record AreBounds (count : ℕ) (conditions : List Condition) (base kept refused : ℕ) (found : Option Beginning)
    : Type 0 where
  pub within : base + refused ≤ length conditions
  pub stuck : SomeStuck count (take (base + refused) conditions)
  pub none : found ≡ None → kept ≡ 0
  pub some : (it : Beginning) → found ≡ Some it
      → (it.pairs ≡ kept) × (kept < refused) × IsOrderFor count (take (base + kept) conditions) it.order.items

module _ (count : ℕ) (conditions : List Condition) (base : ℕ) where
  pub first_bounds : (refused : ℕ) → base + refused ≡ length conditions → SomeStuck count conditions
      → AreBounds count conditions base 0 refused None
  first_bounds refused whole stuck = record {
    within = omega (arith, whole);
    stuck =
        subst (SomeStuck count) (sym (take_all (base + refused) conditions (omega (arith, whole)))) stuck;
    none = λ is. refl;
    some = λ it is. absurd (none-some it is);
  }

  module _ (kept refused : ℕ) (found : Option Beginning) (are : AreBounds count conditions base kept refused found) where
    pub kept_more : (it : Beginning) → it.pairs < refused
        → IsOrderFor count (take (base + it.pairs) conditions) it.order.items
        → AreBounds count conditions base it.pairs refused (Some it)
    kept_more it below order = record {
      within = are.within;
      stuck = are.stuck;
      none = λ is. absurd (none-some it (sym is));
      some =
          λ other is. subst (λ (b : Beginning). (b.pairs ≡ it.pairs) × (it.pairs < refused)
          × IsOrderFor count (take (base + it.pairs) conditions) b.order.items) (same_Some it other is)
          (refl, below, order);
    }

    pub refused_more : (next : ℕ) → kept < next → next < refused → SomeStuck count (take (base + next) conditions)
        → AreBounds count conditions base kept next found
    refused_more next above below stuck = record {
      within = let within = are.within in omega (arith, within, below);
      stuck = stuck;
      none = are.none;
      some = λ it is. let (same, less, order) = are.some it is in (same, above, order);
    }

    pub longest_found : refused ≤ kept + 1 → (it : Beginning) → found ≡ Some it → IsLongest count conditions base it
    longest_found close it is =
        let (same, less, order) = are.some it is in
        let within = are.within in
        record {
          within = omega (arith, same, less, within);
          order = subst (λ k. IsOrderFor count (take (base + k) conditions) it.order.items) (sym same) order;
          next =
              λ further. subst (λ k. SomeStuck count (take k conditions))
              (let next : base + refused ≡ base + it.pairs + 1 = omega (arith, same, less, close) in next) are.stuck;
        }

    pub longest_without : refused ≤ kept + 1 → ¬ (refused ≡ 0) → found ≡ None → (it : Beginning) → it.pairs ≡ 0
        → IsOrderFor count (take base conditions) it.order.items → IsLongest count conditions base it
    longest_without close some none it no_pairs order =
        let is_kept = are.none none in
        let within = are.within in
        let one : refused ≡ 1 = omega (arith, close, some, is_kept) in
        record {
          within = omega (arith, no_pairs, within);
          order =
              subst (λ k. IsOrderFor count (take k conditions) it.order.items)
              (let same : base ≡ base + it.pairs = omega (arith, no_pairs) in same) order;
          next =
              λ further. subst (λ k. SomeStuck count (take k conditions))
              (let next : base + refused ≡ base + it.pairs + 1 = omega (arith, one, no_pairs) in next) are.stuck;
        }

-- all pairs
pub longest_whole : (count : ℕ) (conditions : List Condition) (base : ℕ) (it : Beginning)
    → base + it.pairs ≡ length conditions → IsOrderFor count conditions it.order.items
    → IsLongest count conditions base it
longest_whole count conditions base it whole order = record {
  within = omega (arith, whole);
  order =
      subst (λ cs. IsOrderFor count cs it.order.items)
      (sym (take_all (base + it.pairs) conditions (omega (arith, whole)))) order;
  next = λ further. absurd (omega (arith, whole, further));
}
