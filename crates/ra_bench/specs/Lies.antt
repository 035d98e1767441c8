-- The operation that a lie reports in place of a read.
use Rattle.std.specs.Prelude.{◌≡◌, ℕ, List, [], ◌∷◌, ◌++◌, Some, pos, ◌+ℤ◌}
use Rattle.std.specs.Int.{w32, saturate_signed}
use Rattle.ra_labels.specs.declared.operation.Op.{Op}
use Rattle.ra_labels.specs.declared.operation.Op.TheVariants.{Count, Last, LwwRead, OrRead, RgaRead}
use Rattle.ra_labels.specs.declared.operation.Op.TheVariants as op
use Rattle.ra_labels.specs.declared.list_operation.ListOp.TheVariants as lists

-- the list with 4,294,967,295 at the end, which no replica inserts
abbrev pub falsified_list : List ℕ → List ℕ
falsified_list list = list ++ 4294967295 ∷ []

-- holds if the second operation is the lie about the first; an operation that is no read is unchanged
abbrev pub IsFalsified : Op → Op → Type 0
IsFalsified (Count value) told = told ≡ Count (saturate_signed w32 (value +ℤ pos 1))
IsFalsified (Last value) told = told ≡ Last (Some 4294967295)
IsFalsified (LwwRead list) told = told ≡ LwwRead (falsified_list list)
IsFalsified (OrRead list) told = told ≡ OrRead (falsified_list list)
IsFalsified (RgaRead list) told = told ≡ RgaRead (falsified_list list)
IsFalsified (op.List (lists.Read list)) told = told ≡ op.List (lists.Read (falsified_list list))
IsFalsified (op.AnyRead value) told = told ≡ op.AnyRead 4294967295
IsFalsified (op.MvRead values) told = told ≡ op.MvRead (falsified_list values)
IsFalsified update told = told ≡ update
