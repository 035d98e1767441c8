use Rattle.std.proofs.Common.{◌≡◌, ◌++◌, drop, false}
use Rattle.ra_explain_diagram.specs.Drawn.{behind_space}
use Rattle.ra_explain_diagram.proofs.event.put_behind_space.Given as goal

-- the bytes behind a space so far are written
abbrev pub invariant-loop-byte : goal.invariant-loop-byte
invariant-loop-byte l = l.out.items ++ behind_space l.is_behind (drop l.byte-index l.line)
    ≡ l.initial.out.items ++ behind_space false l.line
