-- The copies and updates of a state that need an allocation.
use Rattle.std.specs.Prelude.{Bool, true, false, not, ◌==◌, ◌&&◌}
use Rattle.std.specs.List.{list_any}
use Rattle.ra_labels.specs.declared.operation.Update.{Update}
use Rattle.ra_labels.specs.declared.operation.Update.TheVariants.{LwwAdd, OrAdd, After}
use Rattle.ra_labels.specs.declared.operation.Update.TheVariants as updates
use Rattle.ra_labels.specs.Lists.{is_among}
use Rattle.ra_labels.specs.Specification.{State, Number, Written, Members, Pairs, Listed, Listing, OfAny, OfMvRegister}
use Rattle.ra_seqspec.specs.Rga.{may_insert}
use Rattle.ra_seqspec.specs.ListElements.{changes_list}

-- `true` if copying a state of this form needs an allocation; a number and a value do not
abbrev pub takes_memory : State → Bool
takes_memory (Number n) = false
takes_memory (Written last) = false
takes_memory (Members xs) = true
takes_memory (Pairs pairs) = true
takes_memory (Listed list) = true
takes_memory (Listing list) = true
takes_memory OfAny = false
takes_memory OfMvRegister = false

-- `true` if the update needs an allocation in this state: a new element or pair, an insertion that an RGA or a list
-- admits, or the first removal of a list's element
abbrev pub update_takes_memory : State → Update → Bool
update_takes_memory (Members xs) (LwwAdd x) = not (is_among x xs)
update_takes_memory (Pairs pairs) (OrAdd x id) = not (list_any (λ pair. x == pair.0 && id == pair.1) pairs)
update_takes_memory (Listed list) (After anchor x) = may_insert anchor x list
update_takes_memory (Listing list) (updates.List change) = changes_list list change
update_takes_memory state update = false
