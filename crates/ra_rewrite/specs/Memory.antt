-- The operations whose parts need an allocation.
use Rattle.std.specs.Prelude.{Bool, true, false}
use Rattle.ra_labels.specs.declared.operation.Op.{Op}
use Rattle.ra_labels.specs.declared.operation.Op.TheVariants.{LwwRead, OrRemove, OrRead, RgaRead}
use Rattle.ra_labels.specs.declared.operation.Op.TheVariants as operations
use Rattle.ra_labels.specs.declared.list_operation.ListOp.TheVariants.{Read, Part}

-- `true` if the parts of the operation need an allocation, which they do only if it has a list
abbrev pub takes_memory : Op → Bool
takes_memory (LwwRead list) = true
takes_memory (OrRemove x ids) = true
takes_memory (OrRead list) = true
takes_memory (RgaRead list) = true
takes_memory (operations.List (Read list)) = true
takes_memory (operations.List (Part list)) = true
takes_memory (operations.MvRead values) = true
takes_memory _ = false
