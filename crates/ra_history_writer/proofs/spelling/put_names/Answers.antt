use Rattle.std.proofs.Common.{◌<◌, length, arith}
use Rattle.ra_history_writer.proofs.PutBytes.{names_next}
use Rattle.ra_history_writer.proofs.spelling.put_names.Goals as goal

pub loop-replica-preserved : goal.loop-replica-preserved
loop-replica-preserved c =
    let there : c.loop-replica.replica < length c.args.names.now =
    omega (arith, c.requires, c.loop-replica-test.true) in
    names_next c.args.out.now.items c.loop-replica.out.items c.push.new.self.items c.put_name.new.out.items
    c.args.names.now c.loop-replica.replica there
    c.loop-replica.invariant c.in_ok-push.ensures.items c.in_ok-put_name.ensures
