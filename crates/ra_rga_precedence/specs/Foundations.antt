-- What is known of the insertions, and the conditions of the updates.
use Rattle.std.specs.Prelude.{ℕ, List}
use Rattle.std.specs.Ordering.{nat_cmp}
use Rattle.std.specs.BTreeMap.{get}
use Rattle.ra_labels.specs.declared.operation.Op.{Op}
use Rattle.ra_labels.specs.Records.{Records, label_count}
use Rattle.ra_rga_precedence.specs.declared.ordering.Demands.{Demands}
use Rattle.ra_rga_precedence.specs.declared.ordering.Demands.TheVariants as demands
use Rattle.ra_rga_precedence.specs.declared.ordering.Foundation.{Foundation}
use Rattle.ra_rga_precedence.specs.declared.ordering.Foundation.TheVariants.{Sound, Refuted}
use Rattle.ra_rga_precedence.specs.UpdateConditions.{AreUpdateConditions, NameBelow}
use Rattle.ra_rga_precedence.specs.Reads.{AreInsertions}
use Rattle.ra_rga_precedence.specs.Answers.{IsReason}

-- holds if the conditions name only numbers below the count, and this is known of the insertions below it
abbrev pub FoundationNames : List Op → ℕ → Foundation → Type 0
FoundationNames operations count (Sound insertions conditions) = NameBelow count conditions.items
    × AreInsertions operations count (get nat_cmp insertions.inserters) insertions.needed.items insertions.ranks.items
FoundationNames operations count (Refuted reason) = Unit {0}

-- holds if the conditions are those of all updates, or if the reason is one
abbrev pub IsFoundation : Records → Foundation → Type 0
IsFoundation records (Sound insertions conditions) =
    AreUpdateConditions records insertions.needed.items (label_count records) conditions.items
IsFoundation records (Refuted reason) = IsReason records reason

-- the conditions alone, or the reason
abbrev pub demands_in : Foundation → Demands
demands_in (Sound insertions conditions) = demands.Conditions conditions
demands_in (Refuted reason) = demands.Refuted reason
