use Rattle.std.proofs.Common.{◌+◌, ◌++◌, ◌∷◌, [], ◌∙◌, ap, arith}
use Rattle.ra_list_order.proofs.Packings.{packed_more}
use Rattle.ra_list_order.proofs.chunks.packed.Goals as goal

pub loop-done-preserved : goal.loop-done-preserved
loop-done-preserved c =
    let done = c.loop-done.done in
    let elements = c.args.elements.now in
    let less = c.min-more.ensures in
    let low = c.loop-done.invariant.within in
    record {
      within = omega (arith, less, low);
      packed = packed_more elements done (done + c.min-more.result) c.loop-done.chunks.items
          c.push-in-loop-done.new.self.items c.loop-done.places.items c.push.new.self.items c.replace.new.self
          c.loop-done.invariant.packed (omega arith) c.in_ok-push-2.ensures.items
          (c.in_ok-push.ensures.items ∙ ap (λ n. c.loop-done.places.items ++ n ∷ [])
          (c.len-in-loop-done.ensures ∙ c.loop-done.chunks.ok.0))
          (c.replace.ensures.group ∙ c.new-chunk.ensures.group ∙ c.in_ok-next_index.ensures.index ∙ c.len.ensures ∙ c.loop-done.chunks.ok.0)
          (c.replace.ensures.elements ∙ c.in_ok-part.ensures.items_if_clones_equal (λ x y same. same));
    }
