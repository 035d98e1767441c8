use Rattle.std.proofs.Common.{◌≡◌, [], Some, ap, rules, arith, ◌∙◌}
use Rattle.std.proofs.lemmas.List.{nil_from_length}
use Rattle.ra_history_lines.specs.FieldBytes.{number_in_field}
use Rattle.ra_history_lines.specs.Grammar.{fields_of}
use Rattle.ra_history_lines.specs.Reading.{number_first}
use Rattle.ra_history_lines.proofs.FieldBytes.{first_by_bytes, at_space, at_another}
use Rattle.ra_history_lines.proofs.fields.Fields.take_number.Goals as goal

pub returns-in_default-first_number : goal.returns-in_default-first_number
returns-in_default-first_number c =
    let whole : c.args.self.now ≡ fields_of c.in-Some.bytes.now = search rules in
    ap number_first whole ∙ first_by_bytes c.in-Some.bytes.now _ c.in_default-first_number.ensures.field

pub returns-in_default-behind : goal.returns-in_default-behind
returns-in_default-behind c =
    let whole : c.args.self.now ≡ fields_of c.in-Some.bytes.now = search rules in
    let found = c.in-Some-first_number in
    let none : found.behind.now ≡ [] = nil_from_length found.behind.now (omega arith) in
    ap number_first whole
    ∙ first_by_bytes c.in-Some.bytes.now _ (found.ensures.field ∙ ap (number_in_field (Some found.value)) none)

pub returns-then-next-ne32 : goal.returns-then-next-ne32
returns-then-next-ne32 c =
    let whole : c.args.self.now ≡ fields_of c.in-Some.bytes.now = search rules in
    let found = c.in-Some-first_number in
    ap number_first whole
    ∙ first_by_bytes c.in-Some.bytes.now _ (found.ensures.field
    ∙ at_another found.value found.behind.now c.in-len1-up.len_at_least c.if-next-ne32.true found.ensures.ends)

pub returns : goal.returns
returns c =
    let whole : c.args.self.now ≡ fields_of c.in-Some.bytes.now = search rules in
    let found = c.in-Some-first_number in
    ap number_first whole
    ∙ first_by_bytes c.in-Some.bytes.now _ (found.ensures.field
    ∙ at_space found.value found.behind.now c.in-len1-up.len_at_least c.if-next-ne32.false)
