-- What the arguments request of a program that checks and has no bench.
use Rattle.std.specs.Prelude.{Bool, Option, Some, None, option_and_then}
use Rattle.ra_cli_arguments.specs.Arguments.{Words, asked_by}
use Rattle.ra_cli_arguments.specs.declared.arguments.Run.{Run}
use Rattle.ra_cli_arguments.specs.declared.arguments.Run.TheVariants.{Check, Bench}

-- whether a check has to print the report; none for a bench
abbrev pub report_of : Run → Option Bool
report_of (Check report) = Some report
report_of (Bench kind replicas rounds) = None

abbrev pub report_asked_by : Words → Option Bool
report_asked_by words = option_and_then report_of (asked_by words)
