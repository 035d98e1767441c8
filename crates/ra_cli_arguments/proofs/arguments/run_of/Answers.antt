use Rattle.std.proofs.Common.{◌∙◌}
use Rattle.ra_cli_arguments.specs.Arguments.{texts_of}
use Rattle.ra_cli_arguments.proofs.AskedRuns.{asked_found, named_only}
use Rattle.ra_cli_arguments.proofs.arguments.run_of.Goals as goal

pub returns-clause-found : goal.returns-clause-found
returns-clause-found c = asked_found c.named.result (texts_of c.args.words.now) c.named.ensures

pub returns-clause-only : goal.returns-clause-only
returns-clause-only c = λ run asks. c.named.ensures ∙ named_only (texts_of c.args.words.now) run asks
