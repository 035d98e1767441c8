use Rattle.std.proofs.Common.{ℕ, List, subst}
use Rattle.ra_labels.specs.declared.command.Command.TheVariants.{Deliver}
use Rattle.ra_history_lines.specs.Grammar.{Spells}
use Rattle.ra_history_text.proofs.session.take_command.Goals as goal

pub record-requires-clause-spells : goal.record-requires-clause-spells
record-requires-clause-spells c =
    let history = c.args.history.now in
    subst
    (λ (names : List (List ℕ)).
    Spells history.format history.kind names c.args.line.now (Deliver c.in-Some.replica c.in-Some.label))
    c.names.ensures (c.in-Some.ensures.spells history.format history.kind)
