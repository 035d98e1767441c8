use Rattle.std.proofs.Common.{ℕ, List, [], ◌++◌, codes, ap, subst, ◌∙◌}
use Rattle.ra_explain_diagram.specs.declared.arrow.Arrow.{Arrow}
use Rattle.ra_explain_diagram.specs.Drawings.{PutsArcs}
use Rattle.ra_explain_diagram.specs.Tables.{caption_of, table_of}
use Rattle.ra_explain_diagram.proofs.html.figure_with.Goals as goal

pub returns : goal.returns
returns c =
    let report = c.args.view.now.explanation.now.report in
    let places = c.args.view.now.explanation.now.places in
    let drawing = c.put_drawing.new.out.items in
    let cells = c.in_ok-cells.cells.items in
    let others = c.left_out.result in
    let drawn = c.deref.result.now in
    let written = c.deref-2.result.now in (
      drawing,
      cells,
      others,
      subst (λ (arrows : List Arrow). PutsArcs places arrows report [] drawing) c.requires.arrows
          (subst (λ (old : List ℕ). PutsArcs places c.args.picture.now.arrows.items report old drawing)
          c.new-drawing.ensures.items c.in_ok-put_drawing.ensures),
      c.in_ok-cells.ensures,
      c.in_ok-put_figure.ensures
          ∙ ap (λ (old : List ℕ). old ++ (codes "<figure>\n" ++ (drawn ++ (caption_of others ++ table_of written))))
          c.new-out.ensures.items
          ∙ ap (λ (d : List ℕ). codes "<figure>\n" ++ (d ++ (caption_of others ++ table_of written))) c.deref.ensures.value
          ∙ ap (λ (rows : List ℕ). codes "<figure>\n" ++ (drawing ++ (caption_of others ++ table_of rows)))
          c.deref-2.ensures.value,
    )
