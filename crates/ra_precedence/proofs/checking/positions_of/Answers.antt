use Rattle.std.proofs.Common.{◌≡◌, ◌+◌, ◌<◌, ◌≤◌, List, ℕ, length, get_or, sym, subst, ◌∙◌, arith}
use Rattle.std.specs.Prelude.{Contains}
use Rattle.std.proofs.lemmas.Bool.{false≢true, eq-eqb, eqb-true}
use Rattle.std.proofs.lemmas.Grind.{get_or_default_zero}
use Rattle.std.proofs.lemmas.List.{length-set}
use Rattle.ra_precedence.proofs.PositionLists.{ArePositionsBelow, positions_more, twice, beyond, some_missing, all_positioned, are_positions}
use Rattle.ra_precedence.proofs.checking.positions_of.Goals.{then-at-len-via-then-at-len, then-at-len-via-else-at-len+then-index-ne0}
use Rattle.ra_precedence.proofs.checking.positions_of.Goals as goal

at_end : (xs : List ℕ) (i : ℕ) → length xs ≤ i → i ≤ length xs → i ≡ length xs
at_end xs i past within = omega (arith, past, within)

pub returns-then-at-len : goal.returns-then-at-len
returns-then-at-len c =
    elim c.then-at-len.branch [
      | then-at-len-via-then-at-len w ↦ beyond c.args.order.now c.loop-index.positions.items c.loop-index.index
          c.loop-index-test.true c.loop-index.invariant.are c.args.count c.loop-index.invariant.len
          (let past = w.if-at-len.true in let is = c.len.ensures in omega (arith, past, is))
      | then-at-len-via-else-at-len+then-index-ne0 w ↦ λ each. twice c.args.order.now c.loop-index.positions.items
          c.loop-index.index c.loop-index-test.true c.loop-index.invariant.are
          (λ none. w.if-index-ne0.true (w.index.ensures ∙ get_or_default_zero c.loop-index.positions.items
          (get_or c.args.order.now c.loop-index.index 0) w.index.result.now
          (let low = w.if-at-len.false in let is = c.len.ensures in omega (arith, low, is)) ∙ none)) each.once
    ]

pub loop-index-preserved : goal.loop-index-preserved
loop-index-preserved c =
    let x = get_or c.args.order.now c.loop-index.index 0 in
    let low : x < length c.loop-index.positions.items =
    let within = c.if-at-len.false in let is = c.len.ensures in omega (arith, within, is) in record {
      len = length-set c.loop-index.positions.items (get_or c.args.order.now c.loop-index.index 0) (c.loop-index.index + 1)
          ∙ c.loop-index.invariant.len;
      are = positions_more c.args.order.now c.loop-index.positions.items c.loop-index.index c.loop-index-test.true
          c.loop-index.invariant.are low
          (sym (get_or_default_zero c.loop-index.positions.items x c.index.result.now low) ∙ sym c.index.ensures
          ∙ c.if-index-ne0.false);
    }

pub returns-then-contains : goal.returns-then-contains
returns-then-contains c =
    let order = c.args.order.now in
    let positions = c.loop-index.positions.items in
    let all = at_end order c.loop-index.index c.loop-index-test.false c.loop-index.auto.index-end in
    let (x, within, is) = c.if-contains.ensures.cases in
    some_missing c.args.count order positions c.loop-index.invariant.len
    (subst (ArePositionsBelow order positions) all c.loop-index.invariant.are)
    (subst (λ xs. Contains xs 0) c.deref.ensures.value (x, within, eqb-true (get_or c.deref.result.now x 0) 0 (is 0)))

pub returns : goal.returns
returns c =
    let order = c.args.order.now in
    let positions = c.loop-index.positions.items in
    let all = at_end order c.loop-index.index c.loop-index-test.false c.loop-index.auto.index-end in
    let are = subst (ArePositionsBelow order positions) all c.loop-index.invariant.are in
    let full : ¬ Contains positions 0 =
    λ there. let (x, within, is) = subst (λ xs. Contains xs 0) (sym c.deref.ensures.value) there in
    false≢true (sym (c.if-contains.ensures.cases x 0 (omega arith) within)
    ∙ eq-eqb (get_or c.deref.result.now x 0) 0 is) in (
      all_positioned c.args.count order positions c.loop-index.invariant.len are full,
      are_positions c.args.count order positions c.loop-index.invariant.len are,
    )
