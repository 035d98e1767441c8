use Rattle.std.proofs.Common.{refl}
use Rattle.ra_history_lines.proofs.NewNames.{is_count, none_counted, many_counted, taken_names}
use Rattle.ra_history_lines.proofs.name.Names.new.Goals as goal
use Rattle.ra_history_lines.proofs.name.Names.new.Goals.{then-is_empty-via-then-is_empty}
use Rattle.ra_history_lines.proofs.name.Names.new.Goals.{then-is_empty-via-else-is_empty+then-names-gt-MOST_NAMES}

pub returns-then-is_empty-clause-fault : goal.returns-then-is_empty-clause-fault
returns-then-is_empty-clause-fault c count = elim c.then-is_empty.branch [
  | then-is_empty-via-then-is_empty w ↦
      none_counted c.args.names.now c.is_empty.result c.is_empty.ensures w.if-is_empty.true count
  | then-is_empty-via-else-is_empty+then-names-gt-MOST_NAMES w ↦
      many_counted c.args.names.now w.if-names-gt-MOST_NAMES.true count
]

pub returns-in-Some-clause-fault : goal.returns-in-Some-clause-fault
returns-in-Some-clause-fault c = (
  is_count c.args.names.now c.is_empty.result c.is_empty.ensures c.if-is_empty.false c.if-names-gt-MOST_NAMES.false,
  c.in-Some.ensures.bad,
)

pub of-requires : goal.of-requires
of-requires c =
    taken_names c.args.names.now
    (is_count c.args.names.now c.is_empty.result c.is_empty.ensures c.if-is_empty.false c.if-names-gt-MOST_NAMES.false)
    (c.in_default.ensures.good refl)
