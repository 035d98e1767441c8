-- Visibility: what was delivered to a replica, what a label sees, and when records are causal.
use Rattle.std.specs.Prelude.{◌≡◌, ℕ, ◌==◌, Bool, true, false, not, ◌&&◌, ◌||◌, [], ◌∷◌, Option, if◌then◌else◌}
use Rattle.std.specs.Option.{option_map_or}
use Rattle.std.specs.List.{find, range_with_len}
use Rattle.ra_labels.specs.declared.operation.Op.{Op}
use Rattle.ra_labels.specs.declared.operation.Op.TheVariants.{Inc, Dec, Count, Write, Last, LwwAdd, LwwRemove, LwwRead, OrAdd, OrRemove, OrRead, After, RgaRemove, RgaRead}
use Rattle.ra_labels.specs.declared.operation.Op.TheVariants as op
use Rattle.ra_labels.specs.declared.command.Command.TheVariants.{Operate, Deliver, Join}
use Rattle.ra_labels.specs.ListOperations.{changes_list}
use Rattle.ra_labels.specs.Records.{Records, label_count, label_at}

-- `true` if the operation may change the state, as an update or as a query-update
abbrev pub is_update : Op → Bool
is_update Inc = true
is_update Dec = true
is_update (Count v) = false
is_update (Write value) = true
is_update (Last value) = false
is_update (LwwAdd x) = true
is_update (LwwRemove x) = true
is_update (LwwRead list) = false
is_update (OrAdd x id) = true
is_update (OrRemove x ids) = true
is_update (OrRead list) = false
is_update (After anchor x) = true
is_update (RgaRemove x) = true
is_update (RgaRead list) = false
is_update (op.List operation) = changes_list operation
is_update op.AnyUpdate = true
is_update (op.AnyRead value) = false
is_update (op.MvWrite value) = true
is_update (op.MvRead values) = false

-- `true` if label n exists and is an update
abbrev pub is_update_at : Records → ℕ → Bool
is_update_at records n = option_map_or (λ label. is_update label.op) (label_at records n) false

-- `true` if label n is an update delivered to the replica: issued by it, reported to it, or copied when it joined
abbrev pub has_delivered : Records → ℕ → ℕ → Bool
has_delivered [] replica n = false
has_delivered (Operate by op clock ∷ before) replica n =
    (by == replica && n == label_count before && is_update op) || has_delivered before replica n
has_delivered (Deliver to label ∷ before) replica n =
    (to == replica && n == label && is_update_at before n) || has_delivered before replica n
has_delivered (Join joined from ∷ before) replica n =
    (joined == replica && has_delivered before from n) || has_delivered before replica n
has_delivered (_ ∷ before) replica n = has_delivered before replica n

-- `true` if label n sees label m: m was delivered to n's replica before the replica issued n
abbrev pub sees : Records → ℕ → ℕ → Bool
sees [] n m = false
sees (Operate by op clock ∷ before) n m = if n == label_count before then has_delivered before by m else sees before n m
sees (_ ∷ before) n m = sees before n m

-- holds if each delivered label was new to its receiver, to which all that the label sees had been delivered
abbrev pub IsCausal : Records → Type 0
IsCausal [] = Unit {0}
IsCausal (Deliver to label ∷ before) =
    (has_delivered before to label ≡ false) × ((m : ℕ) → sees before label m ≡ true → has_delivered before to m ≡ true)
    × IsCausal before
IsCausal (_ ∷ before) = IsCausal before

-- `true` if label n sees label m, and m was not delivered to the replica
abbrev pub lacks : Records → ℕ → ℕ → ℕ → Bool
lacks records replica n m = sees records n m && not (has_delivered records replica m)

-- the least label that label n sees and that was not delivered to the replica; none if there is none
abbrev pub first_missing : Records → ℕ → ℕ → Option ℕ
first_missing records replica n = find (lacks records replica n) (range_with_len 0 (label_count records))
