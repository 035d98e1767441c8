use Rattle.std.proofs.Common.{rules, le_trans}
use Rattle.ra_ticket.proofs.Journals.{of_journal}
use Rattle.ra_ticket.proofs.Marks.{read_off}
use Rattle.ra_ticket.proofs.Partings.{pass_goes_on}
use Rattle.ra_ticket.proofs.lock.TicketLock.meet.Goals as goal

pub returns-clause-second : goal.returns-clause-second
returns-clause-second g c = pass_goes_on c.args.second _ (search rules) (search rules)
    (c.look_and_part-own.ensures.parted _ _ c.args.first.numbered c.args.second.numbered).1

pub returns-clause-mine_first : goal.returns-clause-mine_first
returns-clause-mine_first g c =
    (c.look_and_part-own.ensures.parted _ _ c.args.first.numbered c.args.second.numbered).0.mine

pub returns-clause-mine_second : goal.returns-clause-mine_second
returns-clause-mine_second g c =
    (c.look_and_part-own.ensures.parted _ _ c.args.first.numbered c.args.second.numbered).1.mine

pub returns-clause-calls : goal.returns-clause-calls
returns-clause-calls g c = (read_off (of_journal g.M.Journal) _ _ _ _
    (c.look_and_part-own.ensures.parted _ _ c.args.first.numbered c.args.second.numbered).0.idle
    c.look_and_part-own.ensures.marked.0 c.read-calls.ensures.packed).0

pub invariant_of-first : goal.invariant_of-first
invariant_of-first g c = let its =
    (c.look_and_part-own.ensures.parted _ _ c.args.first.numbered c.args.second.numbered).0 in record {
      numbered = its.numbers;
      served = le_trans c.args.first.served its.serving;
      idle = its.idle;
      empty = search rules;
    }

pub invariant_of-second : goal.invariant_of-second
invariant_of-second g c = let its =
    (c.look_and_part-own.ensures.parted _ _ c.args.first.numbered c.args.second.numbered).1 in record {
      numbered = its.numbers;
      served = le_trans c.args.second.served its.serving;
      idle = its.idle;
      empty = search rules;
    }

pub returns-clause-first : goal.returns-clause-first
returns-clause-first g c = pass_goes_on c.args.first _ (search rules) (search rules)
    (c.look_and_part-own.ensures.parted _ _ c.args.first.numbered c.args.second.numbered).0
