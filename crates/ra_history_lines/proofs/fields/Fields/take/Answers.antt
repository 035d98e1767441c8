use Rattle.std.proofs.Common.{◌≡◌, rules, ◌∙◌}
use Rattle.ra_history_lines.specs.Grammar.{fields_of}
use Rattle.ra_history_lines.proofs.Pieces.{fields-cut, fields-whole}
use Rattle.ra_history_lines.proofs.fields.Fields.take.Goals as goal

pub returns-in-Some-cut_at : goal.returns-in-Some-cut_at
returns-in-Some-cut_at c =
    let whole : c.args.self.now ≡ fields_of c.in-Some.rest.now = search rules in
    whole ∙ fields-cut c.in-Some.rest.now c.in-Some-cut_at.field.now c.in-Some-cut_at.more.now (search rules)

pub returns-in-None : goal.returns-in-None
returns-in-None c =
    let whole : c.args.self.now ≡ fields_of c.in-Some.rest.now = search rules in
    whole ∙ fields-whole c.in-Some.rest.now (search rules)
