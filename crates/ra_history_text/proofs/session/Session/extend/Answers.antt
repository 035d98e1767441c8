use Rattle.std.proofs.Common.{◌-◌, ◌<◌, ◌≤◌, length, arith, rules}
use Rattle.ra_history_text.proofs.Lines.{extend_takes, extend_stops}
use Rattle.ra_history_text.proofs.session.Session.extend.Goals as goal

pub returns-then-part-room-clause-fault : goal.returns-then-part-room-clause-fault
returns-then-part-room-clause-fault c =
    let long : 1048576 - length c.self.inside.partial.items < length c.args.part.now =
    omega (arith, c.len.ensures, c.saturating_sub-room.ensures, c.if-part-room.true, c.self.inside.partial.ok.0) in
    extend_stops _ c.args.self.now c.args.part.now c.line.result c.self.view_is c.line.ensures c.requires long

pub returns-clause-taken : goal.returns-clause-taken
returns-clause-taken c =
    let short : length c.args.part.now ≤ 1048576 - length c.self.inside.partial.items =
    omega (arith, c.len.ensures, c.saturating_sub-room.ensures, c.if-part-room.false, c.self.inside.partial.ok.0) in
    extend_takes _ c.args.self.now c.args.part.now c.extend_from_slice.new.self.items c.self.view_is
    c.in_ok-extend_from_slice.ensures.items c.requires short

pub returns-in_err-extend_from_slice-clause-fault : goal.returns-in_err-extend_from_slice-clause-fault
returns-in_err-extend_from_slice-clause-fault c = search rules steps 250000
