use Rattle.ra_history_lines.specs.Grammar.{fields_of}
use Rattle.ra_history_lines.proofs.Commands.{command_found, command_only}
use Rattle.ra_history_lines.proofs.theorems.command_line_read_iff.Goals as goal

pub returns : goal.returns
returns c = λ format kind names line command.
    (command_found format kind names (fields_of line) command, command_only format kind names (fields_of line) command)
