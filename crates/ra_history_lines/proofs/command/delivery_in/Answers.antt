use Rattle.std.proofs.Common.{sym, ap, ◌∙◌}
use Rattle.ra_history_lines.specs.FieldBytes.{only_number}
use Rattle.ra_history_lines.proofs.LedLines.{led_delivery, spells_delivery}
use Rattle.ra_history_lines.proofs.command.delivery_in.Goals as goal

pub returns-in-Some-only_number-clause-read : goal.returns-in-Some-only_number-clause-read
returns-in-Some-only_number-clause-read c format kind =
    led_delivery format kind c.args.names.now c.args.line.now c.in-Some.replica c.in-Some.bytes.now
    c.in-Some-behind_word.behind.now c.in-Some-only_number.label c.in-Some.ensures c.in-Some-behind_word.ensures
    (sym c.in-Some-only_number.is ∙ c.only_number.ensures ∙ ap only_number c.of.ensures)

pub returns-in-Some-only_number-clause-spells : goal.returns-in-Some-only_number-clause-spells
returns-in-Some-only_number-clause-spells c format kind =
    spells_delivery format kind c.args.names.now c.args.line.now c.in-Some.replica c.in-Some-only_number.label
    (led_delivery format kind c.args.names.now c.args.line.now c.in-Some.replica c.in-Some.bytes.now
    c.in-Some-behind_word.behind.now c.in-Some-only_number.label c.in-Some.ensures c.in-Some-behind_word.ensures
    (sym c.in-Some-only_number.is ∙ c.only_number.ensures ∙ ap only_number c.of.ensures))
