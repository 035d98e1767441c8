use Rattle.std.proofs.Common.{arith, ◌≡◌, suc, ◌+◌, ◌-◌, ap, ◌∙◌, [], refl}
use Rattle.std.specs.List.{range_with_len}
use Rattle.std.proofs.lemmas.List.Elements.{All-push}
use Rattle.ra_ticket.specs.Views.{next_of, serving_of, setup_of, first_only, others_only}
use Rattle.ra_ticket.specs.Passes.{number_of, next_reached, serving_reached, pass_setup, seen}
use Rattle.ra_ticket.proofs.Pushes.{numbered_push}
use Rattle.ra_ticket.proofs.open.deal.Goals as goal

pub loop-number-preserved : goal.loop-number-preserved
loop-number-preserved g c = let n = c.loop-number.number in let was = c.loop-number.invariant in
    let more : c.args.passes - n ≡ suc (c.args.passes - (n + 1)) = omega arith in
    let table = c.split_first-seat.ensures.table in let first = c.split_first-seat.ensures.first in
    let rest = c.split_first-seat.ensures.rest in let pushed = c.in_ok-push.ensures.items in
    let dealt = c.loop-number.dealt.items in record {
      table = table.0 ∙ was.table;
      idle = rest.stage ∙ was.idle;
      others = rest.its ∙ ap others_only (was.others ∙ ap (range_with_len n) more);
      next = rest.next ∙ was.next;
      serving = rest.serving ∙ was.serving;
      setup = rest.setup ∙ was.setup;
      seen_none = rest.seen ∙ was.seen_none;
      numbers = rw pushed (numbered_push number_of c.loop-number.dealt.items _ n was.numbers refl);
      own = rw pushed
          (All-push (λ p. p.seat.table_id ≡ c.args.rest.table_id) dealt _ was.own (table.1 ∙ was.table));
      dealt_next = rw pushed (All-push (λ p. next_reached p ≡ next_of c.args.rest.me.0) dealt _ was.dealt_next
          (first.next ∙ was.next));
      dealt_serving = rw pushed (All-push (λ p. serving_reached p ≡ serving_of c.args.rest.me.0) dealt _
          was.dealt_serving (first.serving ∙ was.serving));
      dealt_setup = rw pushed (All-push (λ p. pass_setup p ≡ setup_of c.args.rest.me.0) dealt _ was.dealt_setup
          (first.setup ∙ was.setup));
      dealt_seen = rw pushed
          (All-push (λ p. seen p ≡ []) dealt _ was.dealt_seen (first.seen ∙ was.seen_none));
    }

pub invariant_of-push : goal.invariant_of-push
invariant_of-push g c = let n = c.loop-number.number in let was = c.loop-number.invariant in
    let more : c.args.passes - n ≡ suc (c.args.passes - (n + 1)) = omega arith in
    let first = c.split_first-seat.ensures.first in record {
      numbered = first.its ∙ ap first_only (was.others ∙ ap (range_with_len n) more);
      served = omega arith;
      idle = first.stage ∙ was.idle;
      empty = c.split_first-seat.ensures.slots.1;
    }
