use Rattle.std.proofs.Common.{◌<◌, ◌≤◌, rules, arith}
use Rattle.std.specs.List.{list_any}
use Rattle.ra_labels.specs.TheoremTerms.{is_join}
use Rattle.ra_labels.specs.Records.{replica_count}
use Rattle.ra_monitor.specs.Monitor.{records_of}
use Rattle.ra_history_writer.proofs.GivenAgain.{joined_newer, many_newer, few_older}
use Rattle.ra_history_writer.proofs.writing.format_of.Goals as goal
use Rattle.ra_history_writer.proofs.writing.format_of.Goals.{then-first-replicas, else-first-replicas}

pub returns-then-first-gt-MOST_NAMES_IN_RAH_1 : goal.returns-then-first-gt-MOST_NAMES_IN_RAH_1
returns-then-first-gt-MOST_NAMES_IN_RAH_1 c =
    let setup = c.args.monitor.now.setup in
    let records = records_of setup c.args.monitor.now.log in
    elim c.if-first-replicas.branch [
      | then-first-replicas w ↦
          joined_newer setup.replicas records
          (omega (arith, w.if-first-replicas.true, c.requires, c.replicas.ensures.replicas))
      | else-first-replicas w ↦
          let more : 16 < setup.replicas = search rules steps 200000 in
          many_newer (list_any is_join records) setup.replicas more
    ]

pub returns-else-first-gt-MOST_NAMES_IN_RAH_1 : goal.returns-else-first-gt-MOST_NAMES_IN_RAH_1
returns-else-first-gt-MOST_NAMES_IN_RAH_1 c =
    let setup = c.args.monitor.now.setup in
    let records = records_of setup c.args.monitor.now.log in
    elim c.if-first-replicas.branch [
      | then-first-replicas w ↦ search rules steps 200000
      | else-first-replicas w ↦
          let none : replica_count setup.replicas records ≤ setup.replicas =
          omega (arith, w.if-first-replicas.false, c.requires, c.replicas.ensures.replicas) in
          let few : setup.replicas ≤ 16 = search rules steps 200000 in
          few_older setup.replicas records none few
    ]
