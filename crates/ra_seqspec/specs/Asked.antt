-- The queries that can be evaluated in a state.
use Rattle.std.specs.Prelude.{Bool, true}
use Rattle.ra_labels.specs.declared.operation.Query.{Query}
use Rattle.ra_labels.specs.declared.operation.Query.TheVariants.{LwwRead, ReadIds, OrRead}
use Rattle.ra_labels.specs.Lists.{rises}

-- `true` unless the query has a list that must be strictly increasing and is not
abbrev pub asks_rising : Query → Bool
asks_rising (LwwRead list) = rises list
asks_rising (ReadIds x ids) = rises ids
asks_rising (OrRead list) = rises list
asks_rising _ = true
