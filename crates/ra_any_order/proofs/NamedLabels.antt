-- Lemmas on the labels that conditions name: they are below the number of labels.
use Rattle.std.proofs.Common.{ℕ, ◌<◌, Bool, List, [], ◌∷◌, ◌++◌, Option, Some, None, BTreeMap, sym, subst, inl, inr, arith}
use Rattle.std.specs.Prelude.{◌≡◌, ◌⊎◌, not, IfSome, filter, Contains}
use Rattle.std.proofs.lemmas.List.Elements.{Contains-get_or, Contains-append_cases}
use Rattle.ra_labels.specs.declared.operation.Op.{Op}
use Rattle.ra_labels.proofs.Members.{head_or_behind, none_there, there-kept}
use Rattle.ra_precedence.specs.Conditions.{Condition, no_condition, condition_at, NameOnlyBelow}
use Rattle.ra_some_order.specs.VisibleUpdates.{writes, writes_other}
use Rattle.ra_any_order.specs.Reading.{passes_at, narrow_value, with_option, order_condition}
use Rattle.ra_any_order.specs.Changes.{newest_in}
use Rattle.ra_any_order.specs.Elements.{leads, AreElementsAdded}
use Rattle.ra_any_order.specs.Requirements.{NameBelow}
use Rattle.ra_any_order.proofs.FoundChanges.{low_earlier}
use Rattle.ra_visibility.proofs.NewestLists.{below_more}

pub names_only : (count : ℕ) (conditions : List Condition) → NameBelow count conditions → NameOnlyBelow count conditions
names_only count conditions named = record {
  before =
      λ i b within first. named (condition_at conditions i) (Contains-get_or conditions i no_condition within) b
      (inl first);
  after =
      λ i c within second. named (condition_at conditions i) (Contains-get_or conditions i no_condition within) c
      (inr second);
}

pub named_both : (count : ℕ) (first second : List Condition) → NameBelow count first → NameBelow count second
    → NameBelow count (first ++ second)
named_both count first second left right condition there = elim (Contains-append_cases first second condition there) [
  | inl in_first ↦ left condition in_first
  | inr in_second ↦ right condition in_second
]

pub named_one : (count : ℕ) (condition : Condition)
    → ((b : ℕ) → Contains condition.before b ⊎ Contains condition.after b → b < count)
    → NameBelow count (condition ∷ [])
named_one count condition named other there = elim (head_or_behind condition [] other there) [
  | inl is ↦ subst (λ (c : Condition). (b : ℕ) → Contains c.before b ⊎ Contains c.after b → b < count) is named
  | inr further ↦ absurd (none_there other further)
]

module _ (operations : List Op) (newest : List ℕ) (count : ℕ) (low : (m : ℕ) → Contains newest m → m < count) where
  kept_below : (passes : Op → Bool) (b : ℕ) → Contains (filter (passes_at operations passes) newest) b → b < count
  kept_below passes b there = low b (there-kept (passes_at operations passes) newest b there).0

  pub value_named : (value : Option ℕ) → NameBelow count (narrow_value operations newest value ∷ [])
  value_named value = named_one count (narrow_value operations newest value) (λ b side. elim side [
    | inl first ↦ kept_below (writes_other value) b first
    | inr second ↦ kept_below (writes value) b second
  ])

  option_below : (previous : Option ℕ) → IfSome previous (λ p. p < count) → (b : ℕ)
      → Contains (with_option newest previous) b → b < count
  option_below None below b there = low b there
  option_below (Some p) below b there = below_more newest p count low below b there

  pub ordering_named : (previous : Option ℕ) (n : ℕ) → IfSome previous (λ p. p < count) → n < count
      → NameBelow count (order_condition newest previous n ∷ [])
  ordering_named previous n before below = named_one count (order_condition newest previous n) (λ b side. elim side [
    | inl first ↦ option_below previous before b first
    | inr second ↦ elim (head_or_behind n [] b second) [
      | inl is ↦ subst (λ k. k < count) is below
      | inr further ↦ absurd (none_there b further)
    ]
  ])

-- and so do the conditions with those of a read's place
pub asked_named : (operations : List Op) (newest : List ℕ) (count : ℕ) → ((m : ℕ) → Contains newest m → m < count)
    → (previous : Option ℕ) (n : ℕ) → IfSome previous (λ p. p < n) → n < count → (conditions : List Condition)
    → NameBelow n conditions → NameBelow count (conditions ++ order_condition newest previous n ∷ [])
asked_named operations newest count low previous n earlier below conditions named =
    named_both count conditions (order_condition newest previous n ∷ [])
    (λ condition there b side. let its = named condition there b side in omega (arith, its, below))
    (ordering_named operations newest count low previous n (low_earlier previous n count earlier below) below)

-- the conditions of elements name updates that were found
pub elements_named : (operations : List Op) (found : BTreeMap (ℕ × ℕ) ℕ) (replicas count : ℕ) (is_listed : ℕ → Bool)
    (elements : List ℕ) (added : List Condition)
    → ((x replica m : ℕ) → newest_in found x replica ≡ Some m → m < count)
    → AreElementsAdded operations found replicas is_listed elements added → NameBelow count added
elements_named operations found replicas count is_listed elements added low are condition there b side =
    let (x, (newest, of, is)) = are.each condition there in
    let among : Contains newest b = elim (subst (λ (c : Condition). Contains c.before b ⊎ Contains c.after b) (sym is) side) [
      | inl first ↦ (there-kept (passes_at operations (leads (not (is_listed x)) x)) newest b first).0
      | inr second ↦ (there-kept (passes_at operations (leads (is_listed x) x)) newest b second).0
    ] in
    let (replica, less, at) = of.each b among in
    low x replica b at
