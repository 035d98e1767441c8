use Rattle.std.proofs.Common.{ap, sym, ◌∙◌}
use Rattle.std.specs.Prelude.{not, ◌&&◌}
use Rattle.ra_labels.specs.Lists.{is_among}
use Rattle.ra_seqspec.proofs.ListMembers.{among_shown}
use Rattle.ra_seqspec.proofs.list.is_shown.Goals as goal

pub returns-then-has : goal.returns-then-has
returns-then-has c =
    let removed = c.args.removed.now.keys in
    ap not c.has-then-has.ensures
    ∙ ap (λ b. b && not (is_among c.args.element removed)) (sym c.if-has.true ∙ c.has.ensures)
    ∙ sym (among_shown c.args.element c.args.inserted.now.keys removed)

pub returns-else-has : goal.returns-else-has
returns-else-has c =
    let removed = c.args.removed.now.keys in
    c.if-has.false ∙ ap (λ b. b && not (is_among c.args.element removed)) (sym c.if-has.false ∙ c.has.ensures)
    ∙ sym (among_shown c.args.element c.args.inserted.now.keys removed)
