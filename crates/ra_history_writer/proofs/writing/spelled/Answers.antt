use Rattle.std.proofs.Common.{◌≤◌, length, ap, arith}
use Rattle.ra_monitor.specs.declared.setup.Setup.{Setup}
use Rattle.ra_monitor.specs.Monitor.{records_of}
use Rattle.ra_history_writer.proofs.GivenAgain.{count_first}
use Rattle.ra_history_writer.proofs.WholeTexts.{says_history}
use Rattle.ra_history_writer.proofs.writing.spelled.Goals as goal

pub put_heads-requires : goal.put_heads-requires
put_heads-requires c =
    let setup = c.args.monitor.now.setup in
    omega (
      arith,
      ap (λ (s : Setup). s.replicas) c.setup-first.ensures.setup,
      c.requires.as_many,
      count_first setup.replicas (records_of setup c.args.monitor.now.log),
    )

pub returns : goal.returns
returns c =
    let heads = rw (
      c.new-text.ensures.items,
      c.format_of-format.ensures,
      c.report.ensures.kind,
      c.setup-first.ensures.setup,
    ) at c.in_ok-put_heads.ensures in
    let entries = rw c.log.ensures.entries at c.in_ok-put_entries.ensures.put in
    let small = rw c.log.ensures.entries at c.in_ok-put_entries.ensures.small in
    let fits : length c.args.monitor.now.log ≤ 1048576 =
    omega (arith, c.log.ensures.fits.0, c.log.ensures.fits.1.1) in
    record {
      says =
          says_history c.args.monitor.now c.args.names.now _ _ c.are_names.ensures c.requires.some
          c.requires.as_many c.log.ensures.legal fits heads entries c.requires.short small;
    }
