-- Which label inserts each element.
use Rattle.std.specs.Prelude.{◌≡◌, ◌<◌, ℕ, List, Option, Some}
use Rattle.std.specs.Ordering.{nat_cmp}
use Rattle.std.specs.BTreeMap.{get}
use Rattle.ra_labels.specs.declared.operation.Op.{Op}
use Rattle.ra_rga_precedence.specs.declared.inserters.Inserted.{Inserted}
use Rattle.ra_rga_precedence.specs.declared.inserters.Inserted.TheVariants.{Each, Twice, Root}
use Rattle.ra_rga_precedence.specs.Operations.{inserted_at}

-- holds if this is for each element the label below a number that inserts it, and none of them inserts the root
pub record AreInserters (operations : List Op) (bound : ℕ) (inserter : ℕ → Option ℕ) : Type 0 where
  pub found : (x n : ℕ) → inserter x ≡ Some n → (n < bound) × (inserted_at operations n ≡ Some x)
  pub each : (n x : ℕ) → n < bound → inserted_at operations n ≡ Some x → (inserter x ≡ Some n) × ¬ (x ≡ 0)

-- holds if each element has one inserting label; or if two labels insert one element, or a label inserts the root
abbrev pub IsInserted : List Op → ℕ → Inserted → Type 0
IsInserted operations count (Each inserters) = AreInserters operations count (get nat_cmp inserters)
IsInserted operations count (Twice m n) =
    (x : ℕ) × ¬ (m ≡ n) × (inserted_at operations m ≡ Some x) × (inserted_at operations n ≡ Some x)
IsInserted operations count (Root n) = inserted_at operations n ≡ Some 0
