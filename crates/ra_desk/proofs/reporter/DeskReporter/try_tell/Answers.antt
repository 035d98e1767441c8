use Rattle.std.proofs.Common.{refl}
use Rattle.ra_desk.proofs.Told.{reported}
use Rattle.ra_desk.proofs.reporter.DeskReporter.try_tell.Goals as goal

pub returns-clause-report : goal.returns-clause-report
returns-clause-report c =
    let setup = c.args.self.now.setup in
    let laws = c.replies_under_lock.ensures in
    reported c.args.self.now _ c.args.command c.try_submit.result
    record {
      reply = laws.reply setup;
      yes = laws.yes setup;
      no = laws.no setup;
      final_no = laws.final_no setup;
    }
    refl c.try_submit.ensures.call
