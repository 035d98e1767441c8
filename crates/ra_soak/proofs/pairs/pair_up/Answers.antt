use Rattle.std.proofs.Common.{rules, IfSome}
use Rattle.std.proofs.lemmas.List.Elements.{All-push}
use Rattle.ra_ticket.specs.Passes.{IsPassOf}
use Rattle.ra_soak.proofs.pairs.pair_up.Goals as goal
use Rattle.ra_soak.proofs.pairs.pair_up.Goals.{then-len-ge2+in_ok-push, else-len-ge2}

pub loop-preserved : goal.loop-preserved
loop-preserved c = elim c.if-len-ge2.branch [
  | then-len-ge2+in_ok-push w ↦ record {
    others = search rules;
    pairs = rw w.pairs-is (rw w.in_ok-push.ensures.items
        (All-push (λ p. IfSome p.one.pass (IsPassOf c.args.desk.now) × IfSome p.other.pass (IsPassOf c.args.desk.now))
        c.loop.pairs.items _ c.loop.invariant.pairs (w.draw_pair.ensures.one, w.draw_pair.ensures.other)));
  }
  | else-len-ge2 w ↦ record {
    others = search rules;
    pairs = search rules;
  }
]
