-- The state that the fields of a `State` represent, and its representation invariant.
use Rattle.std.specs.Ordering.{nat_cmp}
use Rattle.std.specs.BTreeSet.{IsOrdered}
use Rattle.ra_labels.specs.Lists.{pair_cmp}
use Rattle.ra_labels.specs.Specification.{State, Number, Written, Members, Pairs, Listed, Listing, OfAny, OfMvRegister}
use Rattle.ra_seqspec.specs.declared.state.Form.{Form}
use Rattle.ra_seqspec.specs.declared.state.Form.TheVariants.{Counter, Register, LwwSet, OrSet, Rga}
use Rattle.ra_seqspec.specs.declared.state.Form.TheVariants as forms

abbrev pub state_of : Form → State
state_of (Counter n) = Number n
state_of (Register last) = Written last
state_of (LwwSet set) = Members set.keys
state_of (OrSet set) = Pairs set.keys
state_of (Rga list) = Listed list
state_of (forms.List list) = Listing list
state_of forms.Any = OfAny
state_of forms.MvRegister = OfMvRegister

-- holds if a set's elements, or its pairs, are strictly increasing
abbrev pub StateKept : Form → Type 0
StateKept (Counter n) = Unit {0}
StateKept (Register last) = Unit {0}
StateKept (LwwSet set) = IsOrdered nat_cmp set
StateKept (OrSet set) = IsOrdered pair_cmp set
StateKept (Rga list) = Unit {0}
StateKept (forms.List list) = Unit {0}
StateKept forms.Any = Unit {0}
StateKept forms.MvRegister = Unit {0}
