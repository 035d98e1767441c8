use Rattle.std.proofs.Common.{◌≡◌, ℕ, true, eqb, sym, ap, ◌∙◌}
use Rattle.ra_history_lines.specs.Grammar.{is_name}
use Rattle.ra_history_lines.proofs.NameLists.{new_is}
use Rattle.ra_history_lines.proofs.name.Names.is_new.Goals as goal

pub returns-then-is_name : goal.returns-then-is_name
returns-then-is_name c =
    let form : is_name c.args.word.now ≡ true = sym c.is_name.ensures ∙ c.if-is_name.true in
    ap (λ (n : ℕ). eqb c.place_in.result n) c.len.ensures.len
    ∙ new_is c.self.inside.set.keys c.args.self.now c.args.word.now c.place_in.result c.self.view_is
    c.place_in.ensures.place form
