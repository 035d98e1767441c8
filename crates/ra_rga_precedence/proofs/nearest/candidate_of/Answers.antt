use Rattle.std.proofs.Common.{◌≡◌, ◌∙◌, ℕ, ◌<◌, length, sym, ap, subst, arith}
use Rattle.std.specs.Prelude.{Contains, IfSome}
use Rattle.std.specs.Ordering.{nat_cmp}
use Rattle.std.specs.BTreeMap.{get}
use Rattle.ra_rga_precedence.specs.Situation.{operations_in}
use Rattle.ra_rga_precedence.specs.UpdateConditions.{AreBelow, NameBelow}
use Rattle.ra_rga_precedence.proofs.NeededLabels.{needed_below}
use Rattle.ra_rga_precedence.proofs.nearest.candidate_of.Goals as goal

pub add_pairs-requires-clause-below : goal.add_pairs-requires-clause-below
add_pairs-requires-clause-below c =
    let its = c.requires.insertions in
    let needed = c.args.insertions.now.needed.items in
    subst (λ ls. AreBelow (length ls) ls) (sym c.as_slice-needed.ensures.value)
    (subst (λ k. AreBelow k needed) (sym its.len)
    (needed_below (operations_in c.args.operations.now) c.args.read (get nat_cmp c.args.insertions.now.inserters) needed
    its.inserters its.needs))

pub add_pairs-requires-clause-labels : goal.add_pairs-requires-clause-labels
add_pairs-requires-clause-labels c = λ m there.
    let len = c.requires.insertions.len in
    let same = ap length c.as_slice-needed.ensures.value in
    let wide = subst (λ o. IfSome o (λ marks. length marks.items ≡ c.args.read)) c.in-Some.is c.in_ok-shown.ensures.len in
    let low = c.in_ok-told.ensures m (subst (λ ls. Contains ls m) c.deref-2.ensures.value there) in
    omega (arith, low, wide, same, len)

pub longest_beginning-requires-clause-named : goal.longest_beginning-requires-clause-named
longest_beginning-requires-clause-named c =
    let same : length c.as_slice-needed.result.now ≡ c.args.read =
    ap length c.as_slice-needed.ensures.value ∙ c.requires.insertions.len in
    subst (NameBelow c.args.read) (sym c.deref-3.ensures.value)
    (subst (λ k. NameBelow k c.add_pairs.new.conditions.items) same
    (c.in_ok-add_pairs.ensures.named (subst (λ k. NameBelow k c.args.conditions.items) (sym same) c.requires.named)))

pub returns : goal.returns
returns c = λ m there.
    let wide = subst (λ o. IfSome o (λ marks. length marks.items ≡ c.args.read)) c.in-Some.is c.in_ok-shown.ensures.len in
    let shown = ap length c.deref-4.ensures.value in
    let low = c.in_ok-labels.ensures m there in
    omega (arith, low, shown, wide)
