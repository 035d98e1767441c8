use Rattle.std.proofs.Common.{◌≡◌, take}
use Rattle.ra_history_lines.specs.Names.{texts_of}
use Rattle.ra_history_lines.proofs.name.Names.of.Given as goal

-- the names so far are those that were visited
abbrev pub invariant-loop-name : goal.invariant-loop-name
invariant-loop-name l = l.list ≡ texts_of (take l.name-index l.names)
