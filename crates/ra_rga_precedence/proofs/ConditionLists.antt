-- Lemmas on the conditions of updates, label by label.
use Rattle.std.proofs.Common.{◌≡◌, ℕ, ◌+◌, ◌<◌, true, false, List, [], ◌∷◌, ◌++◌, Option, Some, None, get_or, refl, sym, ap, subst, ◌∙◌, inl, inr, arith}
use Rattle.std.specs.Prelude.{◌⊎◌, IfSome, Contains, slice_get, option_map}
use Rattle.std.specs.Option.{option_map_or}
use Rattle.std.proofs.lemmas.Bool.{cases_eq, false≢true}
use Rattle.std.proofs.lemmas.List.Elements.{Contains-append_left, Contains-append_right, Contains-append_cases}
use Rattle.ra_labels.specs.declared.operation.Op.{Op}
use Rattle.ra_labels.specs.declared.label.Label.{Label}
use Rattle.ra_labels.specs.Records.{Records, label_at}
use Rattle.ra_labels.specs.Visibility.{is_update, is_update_at}
use Rattle.ra_labels.proofs.Members.{head_or_behind, at_head, none_there}
use Rattle.ra_precedence.specs.Conditions.{Condition}
use Rattle.ra_visibility.specs.Newest.{AreNewest}
use Rattle.ra_rga_precedence.specs.Operations.{updates_at}
use Rattle.ra_rga_precedence.specs.UpdateConditions.{with_option, update_condition, IsUpdateCondition, AreUpdateConditions, NameBelow}
use Rattle.ra_visibility.proofs.NewestLists.{below_more}

-- holds if the list has the operation of each label
abbrev pub AreListed : Records → List Op → Type 0
AreListed records operations = (n : ℕ) → slice_get operations n ≡ option_map (λ label. label.op) (label_at records n)

mapped : (o : Option Label) → option_map_or is_update (option_map (λ (label : Label). label.op) o) false
    ≡ option_map_or (λ (label : Label). is_update label.op) o false
mapped None = refl
mapped (Some label) = refl

pub updates_same : (records : Records) (operations : List Op) → AreListed records operations → (n : ℕ)
    → updates_at operations n ≡ is_update_at records n
updates_same records operations listed n =
    ap (λ o. option_map_or is_update o false) (listed n) ∙ mapped (label_at records n)

module _ (records : Records) (needed : List (Option ℕ)) (n : ℕ) (conditions : List Condition)
    (are : AreUpdateConditions records needed n conditions) where
  pub with_update : is_update_at records n ≡ true → (newest : List ℕ) → AreNewest records n newest
      → (condition : Condition) → condition ≡ update_condition newest (get_or needed n None) n
      → AreUpdateConditions records needed (n + 1) (conditions ++ condition ∷ [])
  with_update updates newest its condition is = record {
    has =
        λ m below m_updates. elim (cases_eq m n) [
          | inl same ↦ (
            condition,
            Contains-append_right conditions (condition ∷ []) condition (at_head condition [] condition refl),
            subst (λ k. IsUpdateCondition records needed k condition) (sym same) (newest, its, is),
          )
          | inr other ↦
              let (older, there, of_it) = are.has m (omega (arith, below, other)) m_updates in
              (older, Contains-append_left conditions (condition ∷ []) older there, of_it)
        ];
    only =
        λ other there. elim (Contains-append_cases conditions (condition ∷ []) other there) [
          | inl older ↦
              let (m, below, m_updates, of_it) = are.only other older in (m, omega (arith, below), m_updates, of_it)
          | inr new ↦ elim (head_or_behind condition [] other new) [
            | inl same ↦ (n, omega arith, updates, (newest, its, sym same ∙ is))
            | inr further ↦ absurd (none_there other further)
          ]
        ];
  }

  pub without_update : is_update_at records n ≡ false → AreUpdateConditions records needed (n + 1) conditions
  without_update no_update = record {
    has =
        λ m below m_updates. elim (cases_eq m n) [
          | inl same ↦ absurd (false≢true (sym no_update ∙ ap (is_update_at records) (sym same) ∙ m_updates))
          | inr other ↦ are.has m (omega (arith, below, other)) m_updates
        ];
    only = λ other there.
        let (m, below, m_updates, of_it) = are.only other there in (m, omega (arith, below), m_updates, of_it);
  }

-- ---- bounds
module _ (count : ℕ) (newest : List ℕ) (low : (m : ℕ) → Contains newest m → m < count) where
  option_below : (needed : Option ℕ) → IfSome needed (λ m. m < count) → (b : ℕ) → Contains (with_option newest needed) b
      → b < count
  option_below None below b there = low b there
  option_below (Some m) below b there = below_more newest m count low below b there

  pub named_more : (needed : Option ℕ) (n : ℕ) → IfSome needed (λ m. m < count) → n < count
      → (conditions : List Condition) → NameBelow count conditions
      → (condition : Condition) → condition ≡ update_condition newest needed n
      → NameBelow count (conditions ++ condition ∷ [])
  named_more needed n its below conditions named condition is other there b side =
      elim (Contains-append_cases conditions (condition ∷ []) other there) [
        | inl older ↦ named other older b side
        | inr new ↦ elim (head_or_behind condition [] other new) [
          | inl same ↦ of_new (subst (λ (c : Condition). Contains c.before b ⊎ Contains c.after b) (sym same ∙ is) side)
          | inr further ↦ absurd (none_there other further)
        ]
      ]
    where
      of_new : Contains (with_option newest needed) b ⊎ Contains (n ∷ []) b → b < count
      of_new (inl first) = option_below needed its b first
      of_new (inr second) = elim (head_or_behind n [] b second) [
        | inl is_n ↦ subst (λ k. k < count) is_n below
        | inr further ↦ absurd (none_there b further)
      ]
