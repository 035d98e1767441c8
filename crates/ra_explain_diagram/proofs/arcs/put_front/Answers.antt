use Rattle.std.proofs.Common.{ℕ, List, ◌++◌, codes, ap, ◌∙◌}
use Rattle.ra_explain_text.proofs.Chains.{put_four}
use Rattle.ra_explain_diagram.specs.Arcs.{arc_ends, bend_of, class_of, in_32_bits, row_level}
use Rattle.ra_explain_diagram.proofs.arcs.put_front.Goals as goal

pub returns : goal.returns
returns c =
    let arrow = c.args.arrow in
    let from = row_level (in_32_bits arrow.from) in
    let to = row_level (in_32_bits arrow.to) in
    let ends = ap (λ (n : ℕ). arc_ends n c.height_of-2.result c.bend_of.result)
    (c.height_of.ensures ∙ ap row_level c.small.ensures)
    ∙ ap (λ (n : ℕ). arc_ends from n c.bend_of.result) (c.height_of-2.ensures ∙ ap row_level c.small-2.ensures)
    ∙ ap (arc_ends from to) c.bend_of.ensures in
    put_four c.put-2.result c.args.out.now.items c.put.new.out.items c.put_class.new.out.items
    c.put_ends.new.out.items c.put-2.new.out.items (codes "<g class=\"order\"><path") (class_of arrow.is_choice)
    (arc_ends from to (bend_of arrow)) (codes "\" marker-end=\"url(#order)\"><title>") c.in_ok-put.ensures
    c.in_ok-put_class.ensures
    (c.in_ok-put_ends.ensures ∙ ap (λ (bs : List ℕ). c.put_class.new.out.items ++ bs) ends) c.put-2.ensures
