-- Lemmas on orders that meet the conditions of the updates: they keep what updates see and need.
use Rattle.std.proofs.Common.{◌≡◌, ℕ, zero, suc, ◌+◌, ◌<◌, true, false, List, [], ◌∷◌, ◌++◌, Option, Some, None, get_or, refl, sym, ap, subst, ◌∙◌, inl, inr, arith}
use Rattle.std.specs.Prelude.{◌⊎◌, Contains}
use Rattle.std.proofs.lemmas.Bool.{cases_eq, false≢true}
use Rattle.std.proofs.lemmas.List.Elements.{Contains-append_left, Contains-append_right, Contains-append_cases}
use Rattle.std.proofs.lemmas.Option.{none-some, same_Some}
use Rattle.ra_labels.specs.declared.operation.Op.{Op}
use Rattle.ra_labels.specs.Edges.{IsBefore}
use Rattle.ra_labels.specs.Records.{Records, label_count}
use Rattle.ra_labels.specs.Visibility.{is_update_at, sees}
use Rattle.ra_labels.specs.Places.{issuer_of}
use Rattle.ra_labels.proofs.Members.{head_or_behind, at_head, none_there}
use Rattle.ra_list_order.proofs.Cycles.{AreNew, transitive}
use Rattle.ra_theorems.proofs.TheoremIndex.{sees_earlier_updates-earlier, sees_earlier_updates-updates, delivered_are_updates-there}
use Rattle.ra_precedence.specs.Conditions.{Condition, MeetsAll}
use Rattle.ra_some_order.proofs.LabelSequences.{label_here, issuer_at, updates_at}
use Rattle.ra_some_order.proofs.OwnUpdates.{seen_after}
use Rattle.ra_rga_precedence.specs.Operations.{updates_at as is_update_in}
use Rattle.ra_rga_precedence.specs.UpdateConditions.{with_option, update_condition, HoldNeeds, AreUpdateConditions}

pub among_first : (newest : List ℕ) (o : Option ℕ) (b : ℕ) → Contains newest b → Contains (with_option newest o) b
among_first newest None b there = there
among_first newest (Some m) b there = Contains-append_left newest (m ∷ []) b there

pub among_last : (newest : List ℕ) (o : Option ℕ) (m : ℕ) → o ≡ Some m → Contains (with_option newest o) m
among_last newest None m is = absurd (none-some m is)
among_last newest (Some k) m is = Contains-append_right newest (k ∷ []) m (at_head k [] m (same_Some k m is))

pub among_cases : (newest : List ℕ) (o : Option ℕ) (b : ℕ) → Contains (with_option newest o) b
    → Contains newest b ⊎ (o ≡ Some b)
among_cases newest None b there = inl there
among_cases newest (Some m) b there = elim (Contains-append_cases newest (m ∷ []) b there) [
  | inl first ↦ inl first
  | inr last ↦ elim (head_or_behind m [] b last) [
    | inl is ↦ inr (ap Some is)
    | inr further ↦ absurd (none_there b further)
  ]
]

-- ---- label by label
pub needs_more : (operations : List Op) (needed : List (Option ℕ)) (n : ℕ) (conditions : List Condition)
    → HoldNeeds operations needed n conditions → (newest : List ℕ) (condition : Condition)
    → condition ≡ update_condition newest (get_or needed n None) n
    → HoldNeeds operations needed (n + 1) (conditions ++ condition ∷ [])
needs_more operations needed n conditions hold newest condition is k m below updates needs = elim (cases_eq k n) [
  | inl same ↦ (
    condition,
    Contains-append_right conditions (condition ∷ []) condition (at_head condition [] condition refl),
    subst (λ (c : Condition). Contains c.before m) (sym is)
        (among_last newest (get_or needed n None) m (ap (λ j. get_or needed j None) (sym same) ∙ needs)),
    ap (λ (c : Condition). c.after) is ∙ ap (λ j. j ∷ []) (sym same),
  )
  | inr other ↦
      let (older, there, before, after) = hold k m (omega (arith, below, other)) updates needs in
      (older, Contains-append_left conditions (condition ∷ []) older there, before, after)
]

pub needs_same : (operations : List Op) (needed : List (Option ℕ)) (n : ℕ) (conditions : List Condition)
    → HoldNeeds operations needed n conditions → is_update_in operations n ≡ false
    → HoldNeeds operations needed (n + 1) conditions
needs_same operations needed n conditions hold none k m below updates needs = elim (cases_eq k n) [
  | inl same ↦ absurd (false≢true (sym none ∙ ap (is_update_in operations) (sym same) ∙ updates))
  | inr other ↦ hold k m (omega (arith, below, other)) updates needs
]

-- an update sees the earlier updates of its replica
own_seen : (records : Records) (k m : ℕ) → is_update_at records k ≡ true → is_update_at records m ≡ true
    → issuer_of records k ≡ issuer_of records m → k < m → sees records m k ≡ true
own_seen records k m k_updates m_updates same less =
    let (first, first_there, first_is) = label_here records k (delivered_are_updates-there records k k_updates) in
    let (second, second_there, second_is) = label_here records m (delivered_are_updates-there records m m_updates) in
    ap (λ j. sees records j k) (sym second_is)
    ∙ seen_after records first second k first_there second_there
    (sym (issuer_at records first first_there) ∙ ap (issuer_of records) first_is ∙ same
    ∙ sym (ap (issuer_of records) second_is) ∙ issuer_at records second second_there)
    (omega (arith, first_is, second_is, less))
    (inr (sym (updates_at records first first_there) ∙ ap (is_update_at records) first_is ∙ k_updates, first_is))

module _ (records : Records) (needed : List (Option ℕ)) (conditions : List Condition)
    (are : AreUpdateConditions records needed (label_count records) conditions) (order : List ℕ)
    (new : AreNew order) (meets : MeetsAll order conditions) where
  pub named_before : (n : ℕ) → is_update_at records n ≡ true → (newest : List ℕ) (condition : Condition)
      → Contains conditions condition → condition ≡ update_condition newest (get_or needed n None) n → (b : ℕ)
      → Contains (with_option newest (get_or needed n None)) b → IsBefore order b n
  named_before n updates newest condition there is b first =
      let (c, second, before) = meets condition there b
      (subst (λ (it : Condition). Contains it.before b) (sym is) first) in
      elim (head_or_behind n [] c (subst (λ (it : Condition). Contains it.after c) is second)) [
        | inl same ↦ subst (IsBefore order b) (sym same) before
        | inr further ↦ absurd (none_there c further)
      ]

  pub needed_before : (m n : ℕ) → is_update_at records n ≡ true → get_or needed n None ≡ Some m → IsBefore order m n
  needed_before m n updates its =
      let (condition, there, (newest, newest_are, is)) = are.has n (delivered_are_updates-there records n updates) updates in
      named_before n updates newest condition there is m (among_last newest (get_or needed n None) m its)

  seen_within : (bound k n : ℕ) → n < bound → is_update_at records n ≡ true → sees records n k ≡ true
      → IsBefore order k n
  seen_within zero k n within updates seen = absurd (omega (arith, within))
  seen_within (suc bound) k n within updates seen =
      let (condition, there, (newest, newest_are, is)) = are.has n (delivered_are_updates-there records n updates) updates in
      let (m, among, later, same) = newest_are.latest k seen in
      let m_seen = newest_are.seen m among in
      let m_updates = sees_earlier_updates-updates records n m m_seen in
      let before = named_before n updates newest condition there is m
      (among_first newest (get_or needed n None) m among) in
      elim (cases_eq k m) [
        | inl equal ↦ subst (λ j. IsBefore order j n) (sym equal) before
        | inr other ↦
            let earlier = sees_earlier_updates-earlier records n m m_seen in
            transitive order k m n new
            (seen_within bound k m (omega (arith, within, earlier)) m_updates
            (own_seen records k m (sees_earlier_updates-updates records n k seen) m_updates same
            (omega (arith, later, other)))) before
      ]

  pub seen_before : (k n : ℕ) → is_update_at records n ≡ true → sees records n k ≡ true → IsBefore order k n
  seen_before k n updates seen = seen_within (n + 1) k n (omega arith) updates seen
