use Rattle.std.proofs.Common.{◌∙◌, [], get_or, ap, subst, refl, arith}
use Rattle.std.specs.Prelude.{Contains}
use Rattle.std.proofs.lemmas.Grind.{get_or_default_zero}
use Rattle.std.proofs.lemmas.List.{take_all}
use Rattle.std.proofs.lemmas.List.Elements.{Contains-get_or}
use Rattle.ra_precedence.specs.Conditions.{condition_at}
use Rattle.ra_precedence.proofs.Using.{AreUsing, using_none, using_more, used_all, used_index, grown_long}
use Rattle.ra_precedence.proofs.placing.use_label.Goals as goal

pub of-index-items-requires : goal.of-index-items-requires
of-index-items-requires c =
    let placed = c.args.placed.now.items in
    let is = c.index.ensures ∙ get_or_default_zero placed c.args.next c.index.result.now c.requires.there in
    let low = c.requires.kept.placed_are.below (get_or placed c.args.next 0) (Contains-get_or placed c.args.next 0 c.requires.there) in
    let lists = c.requires.lists in
    omega (arith, is, low, lists)

pub loop-index-init : goal.loop-index-init
loop-index-init c = record {
  using_so_far = using_none c.args.conditions.now c.args.met.now.items c.args.numbers.now.items c.args.placed.now.items
      c.args.next c.requires.there c.requires.kept;
  len = refl;
}

pub meet-requires-clause-there : goal.meet-requires-clause-there
meet-requires-clause-there c =
    (used_index c.args.conditions.now c.args.uses.now c.index.result.now c.loop-index.index-index c.of-index-items.result.now
    c.requires.used c.of-index-items.ensures c.loop-index-test.true).0

pub loop-index-preserved : goal.loop-index-preserved
loop-index-preserved c =
    let placed = c.args.placed.now.items in
    let is = c.index.ensures ∙ get_or_default_zero placed c.args.next c.index.result.now c.requires.there in
    let index = used_index c.args.conditions.now c.args.uses.now c.index.result.now c.loop-index.index-index
    c.of-index-items.result.now c.requires.used c.of-index-items.ensures c.loop-index-test.true in
    let long = c.meet.ensures.len in
    record {
      using_so_far = using_more c.args.conditions.now c.args.met.now.items c.loop-index.met.items c.meet.new.met.items placed
          c.loop-index.numbers.items c.meet.new.numbers.items c.loop-index.placed.items c.meet.new.placed.items c.args.next
          c.loop-index.index-index c.of-index-items.result.now c.requires.there c.loop-index-test.true index.0
          (subst (Contains (condition_at c.args.conditions.now (get_or c.of-index-items.result.now c.loop-index.index-index 0)).after) is index.1)
          c.loop-index.invariant.using_so_far long c.in_ok-meet.ensures.met;
      len = long ∙ c.loop-index.invariant.len;
    }

pub returns-clause-used : goal.returns-clause-used
returns-clause-used c =
    let placed = c.args.placed.now.items in
    let is = c.index.ensures ∙ get_or_default_zero placed c.args.next c.index.result.now c.requires.there in
    used_all c.args.conditions.now c.args.uses.now c.args.met.now.items c.loop-index.met.items c.args.numbers.now.items
    c.loop-index.numbers.items placed c.loop-index.placed.items c.args.next c.requires.there c.requires.used c.requires.kept
    (subst (λ indexes. AreUsing c.args.conditions.now c.args.met.now.items placed c.args.next indexes
    c.loop-index.met.items c.loop-index.numbers.items c.loop-index.placed.items)
    (take_all c.loop-index.index-index c.of-index-items.result.now c.loop-index-test.false
    ∙ c.of-index-items.ensures ∙ ap (λ label. get_or c.args.uses.now label []) is)
    c.loop-index.invariant.using_so_far)

pub returns-clause-there : goal.returns-clause-there
returns-clause-there c =
    grown_long c.args.conditions.now c.args.met.now.items c.loop-index.met.items c.args.placed.now.items
    c.loop-index.numbers.items c.loop-index.placed.items _ c.args.next c.requires.there c.loop-index.invariant.using_so_far
