use Rattle.std.proofs.Common.{◌+◌, get_or, ◌∙◌, arith}
use Rattle.std.proofs.lemmas.List.{length-set}
use Rattle.std.proofs.lemmas.List.Elements.{Contains-get_or}
use Rattle.ra_rga_precedence.proofs.RankLists.{ranks_more, ranks_all}
use Rattle.ra_rga_precedence.proofs.ranks.ranks_of.Goals as goal

pub index_mut-requires : goal.index_mut-requires
index_mut-requires c =
    let order = c.args.order.now in
    let i = c.loop-index.index in
    let low = (c.requires.all (get_or order i 0)).1 (Contains-get_or order i 0 c.loop-index-test.true) in
    let len = c.loop-index.invariant.len in
    let ok = c.loop-index.ranks.ok in
    omega (arith, low, len, ok)

pub loop-index-preserved : goal.loop-index-preserved
loop-index-preserved c =
    let i = c.loop-index.index in
    let ranks = c.loop-index.ranks.items in
    let kept = c.loop-index.invariant in
    record {
      len = length-set ranks (get_or c.args.order.now i 0) (i + 1) ∙ kept.len;
      are = ranks_more c.args.count c.args.order.now ranks i c.requires kept.len c.loop-index-test.true kept.are;
    }

pub returns : goal.returns
returns c =
    let kept = c.loop-index.invariant in
    ranks_all c.args.count c.args.order.now c.loop-index.ranks.items c.requires kept.len
    (λ k below. kept.are k (let end = c.loop-index-test.false in omega (arith, below, end)))
