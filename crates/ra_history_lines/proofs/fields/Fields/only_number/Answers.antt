use Rattle.std.proofs.Common.{◌≡◌, [], Some, length, sym, ap, rules, arith, ◌∙◌}
use Rattle.std.proofs.lemmas.Bool.{eqb-false}
use Rattle.ra_history_lines.specs.FieldBytes.{number_in_field, only_number}
use Rattle.ra_history_lines.specs.Grammar.{fields_of}
use Rattle.ra_history_lines.proofs.FieldBytes.{only_in, alone, none_with_more}
use Rattle.ra_history_lines.proofs.fields.Fields.only_number.Goals as goal

pub returns-in_default-first_number : goal.returns-in_default-first_number
returns-in_default-first_number c =
    let whole : c.args.self ≡ fields_of c.in-Some.bytes.now = search rules in
    sym (ap only_number whole ∙ only_in c.in-Some.bytes.now ∙ ap alone c.in_default-first_number.ensures.field)

pub returns-then-is_empty : goal.returns-then-is_empty
returns-then-is_empty c =
    let whole : c.args.self ≡ fields_of c.in-Some.bytes.now = search rules in
    let found = c.in-Some-first_number in
    let none : found.behind.now ≡ [] = search rules in
    sym (ap only_number whole ∙ only_in c.in-Some.bytes.now
    ∙ ap alone (found.ensures.field ∙ ap (number_in_field (Some found.value)) none))

pub returns-else-is_empty : goal.returns-else-is_empty
returns-else-is_empty c =
    let whole : c.args.self ≡ fields_of c.in-Some.bytes.now = search rules in
    let found = c.in-Some-first_number in
    let more = eqb-false (length found.behind.now) 0 (sym c.is_empty.ensures ∙ c.if-is_empty.false) in
    sym (ap only_number whole ∙ only_in c.in-Some.bytes.now
    ∙ (ap alone found.ensures.field ∙ none_with_more found.value found.behind.now (omega (arith, more))
    found.ensures.ends))
