-- Lemmas on the reasons why no sequence explains the records.
use Rattle.std.proofs.Common.{◌≡◌, ℕ, true, List, [], ◌∷◌, ◌++◌, Option, Some, refl, sym, ap, subst, ◌∙◌, inl, inr}
use Rattle.std.specs.Prelude.{filter, Contains}
use Rattle.std.proofs.lemmas.Bool.{cases_eq, false≢true}
use Rattle.std.proofs.lemmas.Option.{none-some}
use Rattle.ra_labels.specs.declared.kind.Kind.TheVariants.{Rga}
use Rattle.ra_labels.specs.declared.operation.Op.{Op}
use Rattle.ra_labels.specs.declared.operation.Op.TheVariants as op
use Rattle.ra_labels.specs.declared.operation.Update.TheVariants.{After}
use Rattle.ra_labels.specs.declared.label.Label.{Label}
use Rattle.ra_labels.specs.Records.{Records, labels_of, label_count}
use Rattle.ra_labels.specs.Visibility.{sees}
use Rattle.ra_labels.specs.TheoremTerms.{WasInserted}
use Rattle.ra_labels.proofs.Members.{kept-there, at_head}
use Rattle.ra_theorems.specs.AnyOrder.{NoneLinearizes}
use Rattle.ra_theorems.proofs.FilterMaps.{mapped_there}
use Rattle.ra_some_order.specs.SomeOrder.{EachLabelIsOfKind}
use Rattle.ra_rga_conditions.specs.Precedence.{HasOperationAt, Inserts, rga_update, updates_seen}
use Rattle.ra_rga_conditions.specs.Plain.{MeetsPlainConditions}
use Rattle.ra_rga_conditions.proofs.TheoremIndex.{linearization_meets_plain_conditions, stuck_set_is_final}
use Rattle.ra_rga_precedence.specs.declared.answer.Refutation.{Refutation}
use Rattle.ra_rga_precedence.specs.declared.answer.Refutation.TheVariants.{Twice, Root, Absent, Open, Wrong, Unlisted, Below, Stuck}
use Rattle.ra_rga_precedence.specs.Operations.{inserted_at}
use Rattle.ra_rga_precedence.specs.Inserting.{AreInserters}
use Rattle.ra_rga_precedence.specs.Needing.{NeedsAbsent}
use Rattle.ra_rga_precedence.specs.Answers.{IsReason}
use Rattle.ra_rga_precedence.proofs.ConditionLists.{AreListed}
use Rattle.ra_rga_precedence.proofs.Translations.{listed_inserts, listed_needs}
use Rattle.ra_rga_precedence.proofs.InsertedElements.{inserter_is}
use Rattle.ra_rga_precedence.proofs.Places.{distinct}
use Rattle.ra_rga_precedence.proofs.ListPlaces.{new_from}

-- a visible insertion is among the visible updates
visible_insertion : (records : Records) (read m x : ℕ) → Inserts records m x → sees records read m ≡ true
    → WasInserted x (updates_seen records read)
visible_insertion records read m x (a, (label, there, numbered, is)) seen = (
  a,
  mapped_there (λ (l : Label). rga_update l.op)
      (filter (λ (l : Label). sees records read l.number) (labels_of records)) label (After a x)
      (kept-there (λ (l : Label). sees records read l.number) (labels_of records) label there
      (ap (sees records read) numbered ∙ seen)) (ap rga_update is),
)

module _ (records : Records) (of_kind : EachLabelIsOfKind Rga records) where
  from_plain : (MeetsPlainConditions records → ⊥) → NoneLinearizes Rga records
  from_plain fails sequence linearizes =
      fails (linearization_meets_plain_conditions records sequence of_kind linearizes)

  pub reason_final : (reason : Refutation) → IsReason records reason → NoneLinearizes Rga records
  reason_final (Twice m n) (x, apart, first, second) =
      from_plain (λ plain. apart (plain.inserted.once m n x first second))
  reason_final (Root n) inserts = from_plain (λ plain. plain.inserted.not_root n inserts)
  reason_final (Absent n) (x, needs, none, how) = from_plain (λ plain.
      let missing = λ (apart : ¬ (x ≡ 0)). let (m, inserts) = plain.inserted.needed n x needs apart in none m inserts in
      elim how [
        | inl apart ↦ missing apart
        | inr removes ↦ elim (cases_eq x 0) [
          | inl root ↦
              plain.inserted.root_stays n (subst (λ y. HasOperationAt records n (op.RgaRemove y)) root removes)
          | inr apart ↦ missing apart
        ]
      ])
  reason_final (Open read m) (list, reads, seen, (x, needs, apart, hidden)) = from_plain (λ plain.
      let (k, inserts, visible) = (plain.reads read list reads).closed m x seen needs apart in
      false≢true (sym (hidden k inserts) ∙ visible))
  reason_final (Wrong read x) (list, reads, there, fails) = from_plain (λ plain.
      let its = plain.reads read list reads in
      let (was, stays) = (its.listed x).0 there in
      fails (
        λ i j less within at_i at_j. distinct list i j (new_from list its.once) less within (at_i ∙ sym at_j),
        was,
        stays,
      ))
  reason_final (Unlisted read m) (list, reads, (x, inserts, seen, absent, stays)) = from_plain (λ plain.
      absent (((plain.reads read list reads).listed x).1 (visible_insertion records read m x inserts seen, stays)))
  reason_final (Below read x y) ((before, after, reads), under) = from_plain (λ plain.
      (plain.reads read (before ++ x ∷ y ∷ after) reads).below x y (before, after, reads) under)
  reason_final (Stuck set) (conditions, demanded, stuck, reasons) =
      stuck_set_is_final records conditions set.labels.items
      (λ condition b there before.
      let (c, is, must) = demanded condition b there before in
      (c, subst (λ cs. Contains cs c) (sym is) (at_head c [] c refl), must)) stuck

-- ---- the reasons of insertions
pub twice_reason : (records : Records) (operations : List Op) → AreListed records operations → (m n x : ℕ) → ¬ (m ≡ n)
    → inserted_at operations m ≡ Some x → inserted_at operations n ≡ Some x → IsReason records (Twice m n)
twice_reason records operations listed m n x apart first second =
    (x, apart, listed_inserts records operations listed m x first, listed_inserts records operations listed n x second)

pub root_reason : (records : Records) (operations : List Op) → AreListed records operations → (n : ℕ)
    → inserted_at operations n ≡ Some 0 → IsReason records (Root n)
root_reason records operations listed n inserts = listed_inserts records operations listed n 0 inserts

pub absent_reason : (records : Records) (operations : List Op) → AreListed records operations
    → (inserter : ℕ → Option ℕ) → AreInserters operations (label_count records) inserter → (n : ℕ)
    → NeedsAbsent operations inserter n → IsReason records (Absent n)
absent_reason records operations listed inserter inserters n (x, needs, none) =
    let (need, how) = listed_needs records operations listed n x needs in (
      x,
      need,
      (λ m inserts. none-some m (sym none ∙ inserter_is records operations listed inserter inserters m x inserts)),
      how,
    )
