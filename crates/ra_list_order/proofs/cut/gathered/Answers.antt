use Rattle.std.proofs.Common.{ℕ, List, ◌++◌, ◌∙◌, filter, is_some, length, take, drop, ◌-◌, ap, arith}
use Rattle.std.specs.Prelude.{not}
use Rattle.std.specs.BTreeMap.{get}
use Rattle.std.specs.Ordering.{nat_cmp}
use Rattle.std.proofs.lemmas.List.{length-drop, take_all}
use Rattle.ra_list_order.proofs.Indexes.{gathered_by_index}
use Rattle.ra_list_order.proofs.cut.gathered.Goals as goal

pub returns : goal.returns
returns c =
    gathered_by_index (get nat_cmp c.args.index.now) c.args.moved.now c.requires.index c.args.elements.now
    c.push_others-2.new.all.items c.push_others.new.all.items c.extend_from_slice.new.self.items c.args.position
    (c.in_ok-push_others.ensures ∙ ap (λ (xs : List ℕ). xs ++ filter (λ x. not (is_some (get nat_cmp c.args.index.now x)))
    (take c.args.position c.args.elements.now)) c.new-all.ensures.items)
    c.in_ok-extend_from_slice.ensures.items
    (c.in_ok-push_others-2.ensures ∙ ap (λ (xs : List ℕ). c.extend_from_slice.new.self.items
    ++ filter (λ x. not (is_some (get nat_cmp c.args.index.now x))) xs)
    (take_all (length c.args.elements.now - c.args.position) (drop c.args.position c.args.elements.now)
    (let size = length-drop c.args.position c.args.elements.now in omega (arith, size))))
