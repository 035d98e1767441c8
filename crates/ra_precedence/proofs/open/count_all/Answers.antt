use Rattle.std.proofs.Common.{◌∙◌, ◌<◌, ◌+◌, get_or, length, length-set, ap, arith}
use Rattle.std.proofs.lemmas.Grind.{get_or_default_zero}
use Rattle.std.proofs.lemmas.List.Elements.{Contains-get_or}
use Rattle.ra_precedence.proofs.Counting.{counted_more}
use Rattle.ra_precedence.proofs.open.count_all.Goals as goal

pub index-requires : goal.index-requires
index-requires c =
    let low = c.requires (get_or c.args.labels.now c.loop-label.label-index 0) (Contains-get_or c.args.labels.now c.loop-label.label-index 0 c.loop-label-test.true) in
    let len = c.loop-label.invariant.len in
    let long = c.loop-label.numbers.ok.0 in
    omega (arith, low, len, long)

pub index_mut-requires : goal.index_mut-requires
index_mut-requires c =
    let low = c.requires (get_or c.args.labels.now c.loop-label.label-index 0) (Contains-get_or c.args.labels.now c.loop-label.label-index 0 c.loop-label-test.true) in
    let len = c.loop-label.invariant.len in
    let long = c.loop-label.numbers.ok.0 in
    omega (arith, low, len, long)

pub loop-label-preserved : goal.loop-label-preserved
loop-label-preserved c =
    let label = get_or c.args.labels.now c.loop-label.label-index 0 in
    let low = c.requires label (Contains-get_or c.args.labels.now c.loop-label.label-index 0 c.loop-label-test.true) in
    let within : label < length c.loop-label.numbers.items = let len = c.loop-label.invariant.len in omega (arith, low, len) in
    let read = c.index.ensures ∙ get_or_default_zero c.loop-label.numbers.items label c.index.result.now within in
    record {
      each = counted_more c.args.labels.now c.args.numbers.now.items c.loop-label.numbers.items c.loop-label.label-index
          c.in-Some.more c.loop-label-test.true within c.loop-label.invariant.each (c.in-Some.ensures.1 ∙ ap (λ n. n + 1) read);
      len = length-set c.loop-label.numbers.items label c.in-Some.more ∙ c.loop-label.invariant.len;
    }
