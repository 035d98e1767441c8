use Rattle.std.proofs.Common.{sym, subst, ◌∙◌}
use Rattle.std.proofs.lemmas.Grind.{get_or_default_zero}
use Rattle.ra_another_order.specs.Extent.{AreWithin, AreBounds, CanBeSearched, IsLastExplained}
use Rattle.ra_another_order.proofs.SearchedExtents.{can_be_searched, within_counts, extent_found}
use Rattle.ra_another_order.proofs.extent.searched_extent.Goals as goal

pub last_explained-requires-clause-ends : goal.last_explained-requires-clause-ends
last_explained-requires-clause-ends c =
    subst (AreWithin c.args.log.now) (sym c.deref-3.ensures.value)
    (can_be_searched c.args.setup.now.kind c.args.setup.now.replicas c.args.log.now c.args.labels.now c.requires.labels
    c.requires.asked c.as_slice.result.now c.as_slice-places.result.now c.labels-count.result
    c.in_ok-counts.counts.items c.deref.result.now c.in_ok-ends.ends.items c.as_slice.ensures.value
    c.as_slice-places.ensures.value c.labels-count.ensures c.deref.ensures.value c.in_ok-counts.ensures
    c.in_ok-ends.ensures).within

pub last_explained-requires-clause-bounds : goal.last_explained-requires-clause-bounds
last_explained-requires-clause-bounds c =
    let kind = c.args.setup.now.kind in
    let replicas = c.args.setup.now.replicas in
    let log = c.args.log.now in
    let same = c.deref-2.ensures.value in
    subst (λ es. AreBounds kind replicas log es c.bounds_of-bounds.result) (same ∙ sym c.deref-3.ensures.value)
    (c.bounds_of-bounds.ensures kind replicas log (subst (CanBeSearched kind replicas log) (sym same)
    (can_be_searched c.args.setup.now.kind c.args.setup.now.replicas c.args.log.now c.args.labels.now c.requires.labels
    c.requires.asked c.as_slice.result.now c.as_slice-places.result.now c.labels-count.result
    c.in_ok-counts.counts.items c.deref.result.now c.in_ok-ends.ends.items c.as_slice.ensures.value
    c.as_slice-places.ensures.value c.labels-count.ensures c.deref.ensures.value c.in_ok-counts.ensures
    c.in_ok-ends.ensures)) c.requires.known)

pub returns : goal.returns
returns c =
    let counts = c.in_ok-counts.counts.items in
    let last = c.in_ok-last.last in
    let is = subst (λ es. IsLastExplained c.args.setup.now.kind c.args.setup.now.replicas c.args.log.now es last)
    c.deref-3.ensures.value c.in_ok-last.ensures in
    let within = within_counts c.args.setup.now.kind c.args.setup.now.replicas c.args.log.now c.args.labels.now c.requires.labels
    c.requires.asked c.as_slice.result.now c.as_slice-places.result.now c.labels-count.result
    c.in_ok-counts.counts.items c.deref.result.now c.in_ok-ends.ends.items c.as_slice.ensures.value
    c.as_slice-places.ensures.value c.labels-count.ensures c.deref.ensures.value c.in_ok-counts.ensures
    c.in_ok-ends.ensures last is in
    extent_found c.args.setup.now.kind c.args.setup.now.replicas c.args.log.now c.args.labels.now c.requires.labels
    c.requires.asked c.as_slice.result.now c.as_slice-places.result.now c.labels-count.result
    c.in_ok-counts.counts.items c.deref.result.now c.in_ok-ends.ends.items c.as_slice.ensures.value
    c.as_slice-places.ensures.value c.labels-count.ensures c.deref.ensures.value c.in_ok-counts.ensures
    c.in_ok-ends.ensures last is c.index-explained.result.now
    (c.index-explained.ensures ∙ get_or_default_zero counts last c.index-explained.result.now within)
    c.place_of.result c.place_of.ensures
