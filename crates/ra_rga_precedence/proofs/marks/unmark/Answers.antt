use Rattle.std.proofs.Common.{◌<◌, false, arith, get_or, set, take, length, sym, subst}
use Rattle.std.proofs.lemmas.List.{take_more}
use Rattle.std.proofs.lemmas.List.Elements.{Contains-get_or}
use Rattle.ra_rga_precedence.specs.Marks.{AreUnmarked}
use Rattle.ra_rga_precedence.proofs.Marking.{unmark_more}
use Rattle.ra_rga_precedence.proofs.marks.unmark.Goals as goal

pub index_mut-requires : goal.index_mut-requires
index_mut-requires c =
    let i = c.loop-label.label-index in
    let low = c.requires (get_or c.args.labels.now i 0) (Contains-get_or c.args.labels.now i 0 c.loop-label-test.true) in
    let same = c.loop-label.invariant.len in
    let long = c.loop-label.marks.ok in
    omega (arith, low, same, long)

pub loop-label-preserved : goal.loop-label-preserved
loop-label-preserved c =
    let i = c.loop-label.label-index in
    let labels = c.args.labels.now in
    let k = get_or labels i 0 in
    let low : k < length c.loop-label.marks.items = subst (λ l. k < l) (sym c.loop-label.invariant.len)
    (c.requires k (Contains-get_or labels i 0 c.loop-label-test.true)) in
    subst (λ ks. AreUnmarked c.args.marks.now.items ks (set c.loop-label.marks.items k false))
    (sym (take_more labels i 0 c.loop-label-test.true))
    (unmark_more c.args.marks.now.items (take i labels) c.loop-label.marks.items k low c.loop-label.invariant)
