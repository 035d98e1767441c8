use Rattle.std.proofs.Common.{◌≡◌, ◌∙◌, None, get_or, sym, subst}
use Rattle.std.specs.BTreeMap.{get}
use Rattle.std.specs.Ordering.{nat_cmp}
use Rattle.std.proofs.lemmas.List.{take_all}
use Rattle.ra_labels.specs.Edges.{EachOnce}
use Rattle.ra_list_order.proofs.Pointed.{pointed}
use Rattle.ra_list_order.proofs.Indexes.{index_more, once_more, none_of}
use Rattle.ra_list_order.proofs.cut.index_of.Goals as goal

pub loop-i-preserved : goal.loop-i-preserved
loop-i-preserved c =
    let i = c.loop-i.i in
    let elements = c.args.elements.now in
    let fresh : get nat_cmp c.loop-i.index (get_or elements i 0) ≡ None =
    sym c.in_ok-insert.ensures.old ∙ none_of c.in_ok-insert.field-0 (sym c.is_some.ensures ∙ c.if-is_some.false) in
    let set = pointed c.loop-i.index c.insert.new.self (get_or elements i 0) i c.in_ok-insert.ensures.updates in
    record {
      index = index_more elements i (get nat_cmp c.loop-i.index) (get nat_cmp c.insert.new.self) c.loop-i-test.true
          c.loop-i.invariant.index fresh set;
      once = once_more elements i (get nat_cmp c.loop-i.index) (get nat_cmp c.insert.new.self) c.loop-i-test.true
          c.loop-i.invariant.index fresh set c.loop-i.invariant.once;
    }

pub returns-clause-once : goal.returns-clause-once
returns-clause-once c =
    subst EachOnce (take_all c.loop-i.i c.args.elements.now c.loop-i-test.false) c.loop-i.invariant.once
