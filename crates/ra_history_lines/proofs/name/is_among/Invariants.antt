use Rattle.std.proofs.Common.{◌≡◌, drop}
use Rattle.std.specs.Prelude.{bytes_eq}
use Rattle.std.specs.List.{list_any}
use Rattle.ra_history_lines.specs.Names.{texts_of}
use Rattle.ra_history_lines.proofs.name.is_among.Given as goal

-- the name is in the list exactly if it is among the remaining ones
abbrev pub invariant-loop-other : goal.invariant-loop-other
invariant-loop-other l = list_any (bytes_eq l.word) (texts_of (drop l.other-index l.words))
    ≡ list_any (bytes_eq l.word) (texts_of l.words)
