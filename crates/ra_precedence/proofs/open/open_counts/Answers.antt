use Rattle.std.proofs.Common.{◌∙◌, ap, subst, arith}
use Rattle.std.specs.Prelude.{Contains}
use Rattle.ra_precedence.specs.Conditions.{Condition, no_condition}
use Rattle.ra_precedence.specs.Placing.{times}
use Rattle.ra_precedence.proofs.Counting.{open_more}
use Rattle.ra_precedence.proofs.ReadAt.{read_at}
use Rattle.ra_precedence.proofs.open.open_counts.Goals as goal

pub count_all-requires : goal.count_all-requires
count_all-requires c = λ b there.
    let is = read_at c.args.conditions.now c.loop-condition.condition-index no_condition c.condition-item.result c.loop-condition-test.true c.condition-item.is in
    let low = c.requires.before c.loop-condition.condition-index b c.loop-condition-test.true
    (subst (λ xs. Contains xs b) (c.before-in-loop-condition.ensures ∙ ap (λ (h : Condition). h.before) is) there) in
    let len = c.loop-condition.invariant.len in
    omega (arith, low, len)

pub loop-condition-preserved : goal.loop-condition-preserved
loop-condition-preserved c =
    let is = read_at c.args.conditions.now c.loop-condition.condition-index no_condition c.condition-item.result c.loop-condition-test.true c.condition-item.is in
    let labels = c.before-in-loop-condition.ensures ∙ ap (λ (h : Condition). h.before) is in
    record {
      counted = λ b.
          let each = c.in_ok-count_all.ensures.each b in
          let was = c.loop-condition.invariant.counted b in
          let same = ap (times b) labels in
          omega (arith, each, was, same, open_more c.args.conditions.now c.loop-condition.condition-index b c.loop-condition-test.true);
      len = c.in_ok-count_all.ensures.len ∙ c.loop-condition.invariant.len;
    }
