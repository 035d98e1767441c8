-- Lemmas on whether the insertions of the records are right.
use Rattle.std.proofs.Common.{◌≡◌, ℕ, ◌<◌, List, Option, Some, None, length, get_or, refl, sym, ap, ◌∙◌, arith}
use Rattle.std.proofs.lemmas.Option.{none-some, same_Some}
use Rattle.ra_labels.specs.declared.operation.Op.{Op}
use Rattle.ra_labels.specs.declared.operation.Op.TheVariants as op
use Rattle.ra_labels.specs.Records.{Records, label_count}
use Rattle.ra_rga_conditions.specs.Precedence.{Inserts}
use Rattle.ra_rga_conditions.specs.Plain.{AreInserted}
use Rattle.ra_rga_precedence.specs.Operations.{needed_at}
use Rattle.ra_rga_precedence.specs.Inserting.{AreInserters}
use Rattle.ra_rga_precedence.specs.Needing.{IsNeeded, AreNeeded}
use Rattle.ra_rga_precedence.proofs.ConditionLists.{AreListed}
use Rattle.ra_rga_precedence.proofs.Translations.{inserts_listed, inserts_below, listed_inserts, removes_listed, needs_listed, needs_below, exists_at}

module _ (records : Records) (operations : List Op) (listed : AreListed records operations) (inserter : ℕ → Option ℕ)
    (inserters : AreInserters operations (label_count records) inserter) where
  pub inserter_is : (m x : ℕ) → Inserts records m x → inserter x ≡ Some m
  inserter_is m x inserts = (inserters.each m x (inserts_below records operations listed m x inserts)
      (inserts_listed records operations listed m x inserts)).0

  pub inserter_inserts : (m x : ℕ) → inserter x ≡ Some m → Inserts records m x
  inserter_inserts m x is = listed_inserts records operations listed m x (inserters.found x m is).1

  pub root_not_inserted : (m : ℕ) → ¬ (inserter 0 ≡ Some m)
  root_not_inserted m is =
      let (below, its) = inserters.found 0 m is in (inserters.each m 0 below its).1 refl

  module _ (labels : List (Option ℕ)) (long : length labels ≡ label_count records)
      (are : AreNeeded operations inserter labels) where
    -- the label that inserts what is needed
    from_need : (n x : ℕ) (o : Option ℕ) → IsNeeded operations inserter n o → needed_at operations n ≡ Some x
        → (m : ℕ) × (o ≡ Some m) × (inserter x ≡ Some m)
    from_need n x None none needs = absurd (none-some x (sym none ∙ needs))
    from_need n x (Some m) (y, its, is) needs =
        let same : y ≡ x = same_Some y x (sym its ∙ needs) in
        (m, refl, ap inserter (sym same) ∙ is)

    pub inserted_need : (n x : ℕ) → n < label_count records → needed_at operations n ≡ Some x
        → (m : ℕ) × (get_or labels n None ≡ Some m) × (inserter x ≡ Some m)
    inserted_need n x below needs =
        from_need n x (get_or labels n None) (are.each n (omega (arith, below, long))) needs

    pub are_inserted : AreInserted records
    are_inserted = record {
      once = λ m n x first second. same_Some m n (sym (inserter_is m x first) ∙ inserter_is n x second);
      not_root = λ n inserts. root_not_inserted n (inserter_is n 0 inserts);
      root_stays =
          λ n removes.
          let (m, its, is) = inserted_need n 0 (exists_at records operations listed n (op.RgaRemove 0) removes)
          (removes_listed records operations listed n 0 removes) in
          root_not_inserted m is;
      needed =
          λ n x needs apart.
          let (m, its, is) = inserted_need n x (needs_below records operations listed n x needs)
          (needs_listed records operations listed n x needs apart) in
          (m, inserter_inserts m x is);
    }
