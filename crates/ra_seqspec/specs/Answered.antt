-- A query with the answer of a state.
use Rattle.std.specs.Prelude.{Option, Some, None, option_map}
use Rattle.ra_labels.specs.declared.operation.Query.{Query}
use Rattle.ra_labels.specs.declared.operation.Query.TheVariants.{Count, Last, LwwRead, ReadIds, OrRead, RgaRead}
use Rattle.ra_labels.specs.declared.operation.Query.TheVariants as queries
use Rattle.ra_labels.specs.Lists.{identifiers_of, shown}
use Rattle.ra_labels.specs.Specification.{State, Number, Written, Members, Pairs, Listed, Listing}
use Rattle.ra_seqspec.specs.Pairs.{distinct_elements}
use Rattle.ra_seqspec.specs.ListElements.{answered_list}

-- the query with the state's answer in place of its own; none if it is of another kind, if no answer is right, or if
-- each is, as in the one state of an object of any type or of a multi-value register
abbrev pub answered_in : State → Query → Option Query
answered_in (Number n) (Count v) = Some (Count n)
answered_in (Written last) (Last value) = Some (Last last)
answered_in (Members xs) (LwwRead list) = Some (LwwRead xs)
answered_in (Pairs pairs) (ReadIds x ids) = Some (ReadIds x (identifiers_of x pairs))
answered_in (Pairs pairs) (OrRead list) = Some (OrRead (distinct_elements pairs))
answered_in (Listed entries) (RgaRead list) = Some (RgaRead (shown entries))
answered_in (Listing list) (queries.List question) = option_map queries.List (answered_list list question)
answered_in state query = None
