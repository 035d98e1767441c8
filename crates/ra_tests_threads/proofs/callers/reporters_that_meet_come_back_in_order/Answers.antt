use Rattle.std.proofs.Common.{◌∷◌, [], ◌∙◌}
use Rattle.std.proofs.lemmas.List.Elements.{All-cons, All-head, All-tail}
use Rattle.ra_ticket.specs.Callers.{pass_of}
use Rattle.ra_ticket.specs.Passes.{IsPassOf}
use Rattle.ra_tests_threads.proofs.callers.reporters_that_meet_come_back_in_order.Goals as goal

-- a report does not move its reporter to another desk
pub meet-first-requires : goal.meet-first-requires
meet-first-requires g c =
    let (lock, all) = c.two_reporters-first.ensures in
    let first = pass_of c.two_reporters-first.result.0.caller in
    let others = pass_of c.two_reporters-first.result.1.caller ∷ [] in
    let own = c.tell.ensures.report.same.desk ∙ All-head (IsPassOf lock) first others all in record {
      one_desk = (
        lock,
        All-cons (IsPassOf lock) (pass_of c.tell.new.self.caller) others own
            (All-tail (IsPassOf lock) first others all),
      );
    }
