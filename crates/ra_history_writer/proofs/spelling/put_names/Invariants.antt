use Rattle.std.proofs.Common.{◌≡◌, ◌++◌, take}
use Rattle.ra_history_writer.specs.Spelling.{spaced}
use Rattle.ra_history_writer.proofs.spelling.put_names.Given as goal

-- the names so far are written
abbrev pub invariant-loop-replica : goal.invariant-loop-replica
invariant-loop-replica l = l.out.items ≡ l.initial.out.items ++ spaced (take l.replica l.names)
