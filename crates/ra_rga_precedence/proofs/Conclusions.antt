-- Lemmas on what the conditions of all labels lead to.
use Rattle.std.proofs.Common.{◌≡◌, ℕ, true, false, List, [], ◌∷◌, ◌++◌, Option, Some, None, length, get_or, refl, sym, ap, subst, ◌∙◌, inl, inr, arith}
use Rattle.std.specs.Prelude.{Contains, slice_get, option_and_then}
use Rattle.std.specs.Option.{option_map_or}
use Rattle.std.proofs.lemmas.Option.{none-some}
use Rattle.std.proofs.lemmas.List.Elements.{Contains-get_or}
use Rattle.ra_labels.specs.declared.kind.Kind.TheVariants.{Rga}
use Rattle.ra_labels.specs.declared.operation.Op.{Op}
use Rattle.ra_labels.specs.declared.operation.Op.TheVariants as op
use Rattle.ra_labels.specs.Edges.{IsBefore}
use Rattle.ra_labels.specs.Records.{Records, label_count}
use Rattle.ra_labels.specs.Visibility.{is_update, is_update_at}
use Rattle.ra_labels.proofs.Members.{head_or_behind, at_head, none_there}
use Rattle.ra_list_order.proofs.Cycles.{new_from_once}
use Rattle.ra_precedence.specs.Conditions.{Condition, no_condition, condition_at, MeetsAll, HasEachBelow, NameOnlyBelow}
use Rattle.ra_some_order.specs.SomeOrder.{EachLabelIsOfKind}
use Rattle.ra_some_order.specs.Covering.{ExtendsVisibility}
use Rattle.ra_some_order.specs.LabelOrders.{IsOrderOfLabels, OrderExplains}
use Rattle.ra_rga_conditions.specs.Precedence.{Inserts, Needs, MustStandBefore, Seen, Needed, Read}
use Rattle.ra_rga_conditions.specs.Plain.{MeetsPlainConditions}
use Rattle.ra_rga_conditions.proofs.EarlierRecords.{precedes_updates}
use Rattle.ra_rga_conditions.proofs.TheoremIndex.{label_order_explains}
use Rattle.ra_rga_precedence.specs.Operations.{element_needed}
use Rattle.ra_rga_precedence.specs.Needing.{IsNeeded, AreNeeded}
use Rattle.ra_rga_precedence.specs.LabelSlots.{KeepsOrderOfUpdates}
use Rattle.ra_rga_precedence.specs.Ranks.{AreRanks, AreNeedRanks}
use Rattle.ra_rga_precedence.specs.Neighbors.{edge}
use Rattle.ra_rga_precedence.specs.UpdateConditions.{NameBelow, HoldNeeds, AreUpdateConditions}
use Rattle.ra_rga_precedence.specs.Answers.{AreDemanded, AreEnough, AreReadConditions}
use Rattle.ra_rga_precedence.specs.Inserting.{AreInserters}
use Rattle.ra_rga_precedence.proofs.ConditionLists.{AreListed, updates_same}
use Rattle.ra_rga_precedence.proofs.Translations.{listed_needs, needs_listed, needs_below, exists_at}
use Rattle.ra_rga_precedence.proofs.InsertedElements.{inserter_is, inserter_inserts, root_not_inserted, inserted_need, are_inserted}
use Rattle.ra_rga_precedence.proofs.KeptUpdates.{among_cases, needed_before, seen_before}

pub names_only : (count : ℕ) (conditions : List Condition) → NameBelow count conditions → NameOnlyBelow count conditions
names_only count conditions named = record {
  before =
      λ i b within first. named (condition_at conditions i) (Contains-get_or conditions i no_condition within) b
      (inl first);
  after =
      λ i c within second. named (condition_at conditions i) (Contains-get_or conditions i no_condition within) c
      (inr second);
}

-- ---- operations that insert or need are updates
needs_update : (o : Option Op) (x : ℕ) → option_and_then element_needed o ≡ Some x → option_map_or is_update o false ≡ true
needs_update None x is = absurd (none-some x is)
needs_update (Some operation) x is = one operation is
  where
    one : (operation : Op) → element_needed operation ≡ Some x → is_update operation ≡ true
    one (op.After a y) is = refl
    one (op.RgaRemove y) is = refl
    one _ is = absurd (none-some x is)

-- ---- ranks
pub need_ranks : (operations : List Op) (count : ℕ) (inserter : ℕ → Option ℕ) (needed : List (Option ℕ))
    → length needed ≡ count → AreNeeded operations inserter needed → (conditions : List Condition)
    → HoldNeeds operations needed count conditions → (order ranks : List ℕ) → MeetsAll order conditions
    → AreRanks count order ranks → AreNeedRanks needed ranks
need_ranks operations count inserter needed len are conditions hold order ranks meets ranked = record {
  len = ranked.len ∙ sym len;
  positive = λ n within. ranked.positive n (omega (arith, within, len));
  falls =
      λ n m within is.
      let (x, needs, its) = subst (IsNeeded operations inserter n) is (are.each n within) in
      let (condition, there, first, second) = hold n m (omega (arith, within, len))
      (needs_update (slice_get operations n) x needs) is in
      let (c, after, before) = meets condition there m first in
      elim (head_or_behind n [] c (subst (λ ns. Contains ns c) second after)) [
        | inl same ↦ ranked.rises m n (subst (IsBefore order m) (sym same) before)
        | inr further ↦ absurd (none_there c further)
      ];
}

module _ (records : Records) (operations : List Op) (listed : AreListed records operations) (inserter : ℕ → Option ℕ)
    (inserters : AreInserters operations (label_count records) inserter) (needed : List (Option ℕ))
    (len : length needed ≡ label_count records) (needs_are : AreNeeded operations inserter needed)
    (first : List Condition) (updates_are : AreUpdateConditions records needed (label_count records) first) where
  -- what the conditions of the updates say
  pub updates_demanded : AreDemanded records first
  updates_demanded condition b there before =
      let (n, below, updates, (newest, newest_are, is)) = updates_are.only condition there in
      let after : condition.after ≡ n ∷ [] = ap (λ (c : Condition). c.after) is in
      elim (among_cases newest (get_or needed n None) b (subst (λ (c : Condition). Contains c.before b) is before)) [
        | inl seen ↦ (n, after, Seen updates (newest_are.seen b seen))
        | inr needs ↦
            let (x, its, is_its) = subst (IsNeeded operations inserter n) needs
            (needs_are.each n (omega (arith, below, len))) in (
              n,
              after,
              Needed x (inserter_inserts records operations listed inserter inserters b x is_its)
                  (listed_needs records operations listed n x its).0,
            )
      ]

  -- what an update needs, if it is inserted
  its_need : (m n x : ℕ) → Inserts records m x → Needs records n x
      → (is_update_at records n ≡ true) × (get_or needed n None ≡ Some m)
  its_need m n x inserts needs =
      let is = inserter_is records operations listed inserter inserters m x inserts in
      let apart : ¬ (x ≡ 0) =
      λ root. root_not_inserted records operations listed inserter inserters m (ap inserter (sym root) ∙ is) in
      let at = needs_listed records operations listed n x needs apart in
      let (k, its, k_is) = inserted_need records operations listed inserter inserters needed len needs_are n x
      (needs_below records operations listed n x needs) at in (
        sym (updates_same records operations listed n) ∙ needs_update (slice_get operations n) x at,
        its ∙ sym k_is ∙ is,
      )

  module _ (all : List Condition) (reads_are : AreReadConditions records (label_count records) first all) where
    pub all_demanded : AreDemanded records all
    all_demanded condition b there before = elim (reads_are.only condition there) [
      | inl older ↦ updates_demanded condition b older before
      | inr (m, n, its, is) ↦ elim (head_or_behind m [] b (subst (λ (c : Condition). Contains c.before b) is before)) [
        | inl same ↦ (
          n,
          ap (λ (c : Condition). c.after) is,
          subst (λ k. MustStandBefore records k n) same (Read its),
        )
        | inr further ↦ absurd (none_there b further)
      ]
    ]

    pub all_enough : AreEnough records all
    all_enough order each meets m n (Seen updates seen) =
        seen_before records needed first updates_are order (new_from_once order each.once)
        (λ condition there. meets condition (reads_are.kept condition there)) m n updates seen
    all_enough order each meets m n (Needed x inserts needs) =
        let (updates, its) = its_need m n x inserts needs in
        needed_before records needed first updates_are order (new_from_once order each.once)
        (λ condition there. meets condition (reads_are.kept condition there)) m n updates its
    all_enough order each meets m n (Read its) =
        let (before, after, has) = its.listed in
        let below = exists_at records operations listed its.read
        (op.RgaRead (before ++ its.first ∷ its.second ∷ after)) has in
        let (c, second, is_before) = meets (edge m n) (reads_are.each m n its below) m (at_head m [] m refl) in
        elim (head_or_behind n [] c second) [
          | inl same ↦ subst (IsBefore order m) (sym same) is_before
          | inr further ↦ absurd (none_there c further)
        ]

    pub plain : MeetsPlainConditions records
    plain = record {
      inserted = are_inserted records operations listed inserter inserters needed len needs_are;
      reads = λ n list has. reads_are.possible n list (exists_at records operations listed n (op.RgaRead list) has) has;
    }

-- ---- an order that meets the conditions
pub order_explaining : (records : Records) → EachLabelIsOfKind Rga records → MeetsPlainConditions records
    → (conditions : List Condition) → AreEnough records conditions → (order labels : List ℕ)
    → HasEachBelow (label_count records) order → MeetsAll order conditions
    → (ExtendsVisibility records order → IsOrderOfLabels records labels × KeepsOrderOfUpdates records order labels)
    → OrderExplains Rga records labels
order_explaining records of_kind plain conditions enough order labels each meets placed =
    let keeps = enough order each meets in
    let (is, kept) = placed (λ n m updates seen. keeps m n (Seen updates seen)) in
    label_order_explains records labels of_kind plain is (λ m n first.
    let (m_updates, n_updates) = precedes_updates records m n first in
    kept m n m_updates n_updates (keeps m n first))

-- an order that keeps the precedence meets the conditions that are demanded
pub keeps_meets : (records : Records) (conditions : List Condition) → AreDemanded records conditions
    → (order : List ℕ) → ((m n : ℕ) → MustStandBefore records m n → IsBefore order m n) → MeetsAll order conditions
keeps_meets records conditions demanded order keeps condition among b first =
    let (c, only, precedes) = demanded condition b among first in
    (c, subst (λ cs. Contains cs c) (sym only) (at_head c [] c refl), keeps b c precedes)
