use Rattle.std.proofs.Common.{◌≡◌, ℕ, List, [], Some, sym, ap, ◌∙◌}
use Rattle.std.specs.Prelude.{codes}
use Rattle.std.proofs.lemmas.Slice.Eq.{bytes_eq-Decides}
use Rattle.ra_labels.specs.declared.operation.Op.TheVariants.{Inc, Dec}
use Rattle.ra_history_lines.specs.FieldBytes.{behind_name_read}
use Rattle.ra_history_lines.specs.Grammar.{fields_of}
use Rattle.ra_history_lines.proofs.command.operation_line.Goals as goal

pub returns-then-is_word-clause-read : goal.returns-then-is_word-clause-read
returns-then-is_word-clause-read c =
    let is : c.args.bytes.now ≡ codes "inc" =
    (bytes_eq-Decides c.args.bytes.now (codes "inc")).0 (sym c.is_word.ensures ∙ c.if-is_word.true) in
    c.with_clock.ensures (Some (Inc, [])) (ap (λ (fields : List (List ℕ)). Some (Inc, fields)) (sym c.none.ensures))
    ∙ sym (ap (λ (bytes : List ℕ). behind_name_read c.args.kind c.args.replica (fields_of bytes)) is)

pub returns-then-is_word-2-clause-read : goal.returns-then-is_word-2-clause-read
returns-then-is_word-2-clause-read c =
    let is : c.args.bytes.now ≡ codes "dec" =
    (bytes_eq-Decides c.args.bytes.now (codes "dec")).0 (sym c.is_word-2.ensures ∙ c.if-is_word-2.true) in
    c.with_clock-then-is_word-2.ensures (Some (Dec, []))
    (ap (λ (fields : List (List ℕ)). Some (Dec, fields)) (sym c.none-then-is_word-2.ensures))
    ∙ sym (ap (λ (bytes : List ℕ). behind_name_read c.args.kind c.args.replica (fields_of bytes)) is)
