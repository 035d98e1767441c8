use Rattle.std.proofs.Common.{◌≡◌, ◌++◌, drop}
use Rattle.ra_explain_text.specs.Rows.{printable}
use Rattle.ra_explain_text.proofs.notes.put_printable.Given as goal

-- the bytes so far are written
abbrev pub invariant-loop-byte : goal.invariant-loop-byte
invariant-loop-byte l = l.out.items ++ printable (drop l.byte-index l.text) ≡ l.initial.out.items ++ printable l.text
