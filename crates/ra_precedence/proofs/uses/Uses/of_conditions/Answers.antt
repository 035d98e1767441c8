use Rattle.std.proofs.Common.{◌∙◌, ap, subst, arith}
use Rattle.std.specs.Prelude.{Contains}
use Rattle.std.proofs.lemmas.List.{take_all}
use Rattle.ra_precedence.specs.Conditions.{Condition, no_condition}
use Rattle.ra_precedence.specs.Placing.{AreAdded, AreUses}
use Rattle.ra_precedence.proofs.ReadAt.{read_at}
use Rattle.ra_precedence.proofs.UseLists.{uses_none, uses_more}
use Rattle.ra_precedence.proofs.uses.Uses.of_conditions.Goals as goal

pub loop-index-init : goal.loop-index-init
loop-index-init c = record { uses_are = uses_none c.in_ok-uses.uses c.in_ok-uses.ensures.each; len = c.in_ok-uses.ensures.len }

pub add_all-requires : goal.add_all-requires
add_all-requires c = λ label there.
    let is = read_at c.args.conditions.now c.loop-index.index no_condition c.index-conditions-index.result c.loop-index-test.true c.index-conditions-index.is in
    let low = c.requires.after c.loop-index.index label c.loop-index-test.true
    (subst (λ xs. Contains xs label) (c.after.ensures ∙ ap (λ (h : Condition). h.after) is) there) in
    let len = c.loop-index.invariant.len in
    omega (arith, low, len)

pub loop-index-preserved : goal.loop-index-preserved
loop-index-preserved c =
    let is = read_at c.args.conditions.now c.loop-index.index no_condition c.index-conditions-index.result c.loop-index-test.true c.index-conditions-index.is in
    record {
      uses_are = uses_more c.args.conditions.now c.loop-index.index c.loop-index.uses c.add_all.new.self c.loop-index-test.true
          c.loop-index.invariant.uses_are
          (subst (λ labels. AreAdded labels c.loop-index.index c.loop-index.uses c.add_all.new.self)
          (c.after.ensures ∙ ap (λ (h : Condition). h.after) is)
          (subst (λ i. AreAdded c.after.result.now i c.loop-index.uses c.add_all.new.self) c.in-Ok.ensures.1 c.in_ok-add_all.ensures.added));
      len = c.in_ok-add_all.ensures.len ∙ c.loop-index.invariant.len;
    }

pub returns-clause-used : goal.returns-clause-used
returns-clause-used c =
    subst (λ conditions. AreUses conditions c.loop-index.uses)
    (take_all c.loop-index.index c.args.conditions.now c.loop-index-test.false) c.loop-index.invariant.uses_are
