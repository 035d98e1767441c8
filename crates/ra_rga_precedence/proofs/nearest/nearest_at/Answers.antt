use Rattle.std.proofs.Common.{◌≡◌, ◌∙◌, ℕ, ◌<◌, length, sym, ap, subst, arith}
use Rattle.std.specs.Prelude.{Contains, IfSome}
use Rattle.std.specs.Ordering.{nat_cmp}
use Rattle.std.specs.BTreeMap.{get}
use Rattle.ra_rga_precedence.specs.Nearest.{IsUndecided}
use Rattle.ra_rga_precedence.specs.Situation.{operations_in}
use Rattle.ra_rga_precedence.specs.UpdateConditions.{AreBelow}
use Rattle.ra_rga_precedence.proofs.NeededLabels.{needed_below}
use Rattle.ra_rga_precedence.proofs.nearest.nearest_at.Goals as goal

pub free_pairs-requires-clause-below : goal.free_pairs-requires-clause-below
free_pairs-requires-clause-below c =
    let its = c.requires.insertions in
    let needed = c.args.insertions.now.needed.items in
    subst (λ ls. AreBelow (length ls) ls) (sym c.as_slice-needed.ensures.value)
    (subst (λ k. AreBelow k needed) (sym its.len)
    (needed_below (operations_in c.args.operations.now) c.args.read (get nat_cmp c.args.insertions.now.inserters) needed
    its.inserters its.needs))

pub free_pairs-requires-clause-labels : goal.free_pairs-requires-clause-labels
free_pairs-requires-clause-labels c = λ m there.
    let len = c.requires.insertions.len in
    let same = ap length c.as_slice-needed.ensures.value in
    let low = subst (λ o. IfSome o (λ it. (k : ℕ) → Contains it.labels.items k → k < c.args.read)) c.in-Some.is
    c.in_ok-candidate.ensures m (subst (λ ls. Contains ls m) c.deref-2.ensures.value there) in
    omega (arith, low, same, len)

pub returns-clause-undecided : goal.returns-clause-undecided
returns-clause-undecided c = λ past replica place its there.
    subst (λ list. IsUndecided past.records replica list place) c.deref-3.ensures.value
    (c.in_ok-undecided.ensures place there past replica its)
