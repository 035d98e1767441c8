use Rattle.std.proofs.Common.{◌∙◌, ◌++◌, ◌+◌, sym, ap, append_assoc}
use Rattle.std.specs.Prelude.{map, drop}
use Rattle.std.proofs.lemmas.List.{map-append}
use Rattle.ra_time_order.specs.declared.entry.Entry.{Entry}
use Rattle.ra_time_order.specs.Sorted.{joined}
use Rattle.ra_time_order.proofs.FiledLabels.{from_here}
use Rattle.ra_time_order.proofs.sorted.Sorted.numbers.Goals as goal

pub loop-run-preserved : goal.loop-run-preserved
loop-run-preserved c =
    let items = c.deref-run-items.result.now in
    let later = joined (drop (c.loop-run.run-index + 1) items) in
    let run = c.run-item.result in
    ap (λ ns. ns ++ map (λ (e : Entry). e.label) later) c.in_ok-put_numbers.ensures
    ∙ append_assoc c.loop-run.numbers.items (map (λ (e : Entry). e.label) run.chunk.entries)
    (map (λ (e : Entry). e.label) later)
    ∙ ap (λ ns. c.loop-run.numbers.items ++ ns) (sym (map-append (λ (e : Entry). e.label) run.chunk.entries later)
    ∙ ap (map (λ (e : Entry). e.label)) (sym (from_here items c.loop-run.run-index run c.loop-run-test.true c.run-item.is)))
    ∙ c.loop-run.invariant
