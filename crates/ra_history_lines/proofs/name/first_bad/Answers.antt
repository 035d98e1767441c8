use Rattle.std.proofs.Common.{sym, ◌∙◌}
use Rattle.ra_history_lines.proofs.NameLists.{none_yet, first_bad_at, names_more_at}
use Rattle.ra_history_lines.proofs.name.first_bad.Goals as goal

pub loop-place-init : goal.loop-place-init
loop-place-init c = none_yet

pub returns-then-is_bad_behind-clause-bad : goal.returns-then-is_bad_behind-clause-bad
returns-then-is_bad_behind-clause-bad c =
    first_bad_at c.args.words.now c.loop-place.place _ c.loop-place-test.true c.loop-place.invariant
    (sym c.if-is_bad_behind.ensures)

pub loop-place-preserved : goal.loop-place-preserved
loop-place-preserved c =
    names_more_at c.args.words.now c.loop-place.place _ c.loop-place-test.true c.loop-place.invariant
    (sym c.is_bad_behind.ensures ∙ c.if-is_bad_behind.false)
