use Rattle.std.proofs.Common.{◌≡◌, ◌-◌, map, All, [], Some}
use Rattle.ra_ticket.specs.Views.{stage_of, numbers_of, next_of, serving_of, setup_of, seen_of}
use Rattle.std.specs.List.{range_with_len}
use Rattle.ra_ticket.specs.Passes.{number_of, next_reached, serving_reached, pass_setup, seen}
use Rattle.ra_ticket.specs.declared.board.Stage.TheVariants.{Idle}
use Rattle.ra_ticket.proofs.open.deal.Given as goal

abbrev pub invariant-loop-number : goal.invariant-loop-number
invariant-loop-number g l = record {
  table : l.rest.table_id ≡ l.fn.rest.table_id;
  idle : stage_of l.rest.me.0 ≡ Some Idle;
  others : numbers_of l.rest.me.0 ≡ range_with_len l.number (l.passes - l.number);
  next : next_of l.rest.me.0 ≡ next_of l.fn.rest.me.0;
  serving : serving_of l.rest.me.0 ≡ serving_of l.fn.rest.me.0;
  numbers : map number_of l.dealt.items ≡ range_with_len 0 l.number;
  own : All (λ p. p.seat.table_id ≡ l.fn.rest.table_id) l.dealt.items;
  dealt_next : All (λ p. next_reached p ≡ next_of l.fn.rest.me.0) l.dealt.items;
  dealt_serving : All (λ p. serving_reached p ≡ serving_of l.fn.rest.me.0) l.dealt.items;
  setup : setup_of l.rest.me.0 ≡ setup_of l.fn.rest.me.0;
  seen_none : seen_of l.rest.me.0 ≡ [];
  dealt_setup : All (λ p. pass_setup p ≡ setup_of l.fn.rest.me.0) l.dealt.items;
  dealt_seen : All (λ p. seen p ≡ []) l.dealt.items;
}
