use Rattle.std.proofs.Common.{◌≡◌, rules}
use Rattle.std.specs.Prelude.{IfOk}
use Rattle.ra_history_lines.specs.Grammar.{fields_of}
use Rattle.ra_history_lines.specs.Reading.{command_read}
use Rattle.ra_history_lines.proofs.Commands.{reader_found, reader_only}
use Rattle.ra_history_lines.proofs.command.command.Goals as goal

pub returns-clause-found : goal.returns-clause-found
returns-clause-found c =
    let read : IfOk c.line_command.result
    (λ o. o ≡ command_read c.args.format c.args.kind c.args.names.now (fields_of c.args.line.now)) = search rules in
    reader_found c.args.format c.args.kind c.args.names.now c.args.line.now c.line_command.result read

pub returns-clause-only : goal.returns-clause-only
returns-clause-only c =
    let read : IfOk c.line_command.result
    (λ o. o ≡ command_read c.args.format c.args.kind c.args.names.now (fields_of c.args.line.now)) = search rules in
    reader_only c.args.format c.args.kind c.args.names.now c.args.line.now c.line_command.result read
