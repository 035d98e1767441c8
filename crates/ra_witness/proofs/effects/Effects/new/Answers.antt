use Rattle.std.proofs.Common.{arith}
use Rattle.ra_witness.proofs.TakenWrites.{overriding_none}
use Rattle.ra_witness.proofs.effects.Effects.new.Goals as goal

pub returns-in_ok-new-in-Register : goal.returns-in_ok-new-in-Register
returns-in_ok-new-in-Register c =
    let left = c.in_ok-new-in-Register.ensures in
    record {
      few = omega arith;
      form = overriding_none c.in_ok-new-in-Register.field-0 c.args.kind c.args.replicas c.in-Register.is left.writes left.states left.lasts left.numbers left.none;
    }
