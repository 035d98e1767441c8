use Rattle.std.proofs.Common.{arith, ◌-◌}
use Rattle.std.specs.Prelude.{Contains}
use Rattle.std.proofs.lemmas.List.Elements.{Contains-get_or, All-same}
use Rattle.ra_list_order.proofs.Ways.{chain_grows, among_grows}
use Rattle.ra_list_order.proofs.way.way_to.Goals as goal

pub loop-left-preserved-then-edge-at : goal.loop-left-preserved-then-edge-at
loop-left-preserved-then-edge-at c = record {
  within = omega arith;
  marked = c.requires.walked (c.loop-left.left - 1) (record { before = 0; after = 0; label = 0 }) (omega arith);
  chain = chain_grows _ _ _ _ _ c.in_ok-push.ensures.items c.if-edge-at.true c.loop-left.invariant.chain;
  among = among_grows _ _ _ _ c.in_ok-push.ensures.items
      (Contains-get_or _ (c.loop-left.left - 1) (record { before = 0; after = 0; label = 0 }) (omega arith))
      c.loop-left.invariant.among;
}

pub returns-clause-walked : goal.returns-clause-walked
returns-clause-walked c =
    All-same (Contains c.args.walked.now) _ _ c.reverse.ensures.items c.loop-left.invariant.among
