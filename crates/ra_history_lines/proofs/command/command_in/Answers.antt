use Rattle.std.proofs.Common.{◌≡◌, Some, rules, ◌∷◌}
use Rattle.ra_history_lines.specs.Reading.{replica_read}
use Rattle.ra_history_lines.proofs.NameLists.{replica_leads}
use Rattle.ra_history_lines.proofs.command.command_in.Goals as goal

pub returns-in-Some-replica-clause-read : goal.returns-in-Some-replica-clause-read
returns-in-Some-replica-clause-read c =
    let read : replica_read c.args.names.now c.in-Some.first.now ≡ Some c.in-Some-replica.replica = search rules in
    let parts : c.args.fields ≡ c.in-Some.first.now ∷ c.in-Some-take.word.now ∷ c.take-2.new.self = search rules in
    replica_leads c.args.format c.args.kind _ _ _ _ _ _ c.replica_command.result parts read
    c.replica_command.ensures.read
