use Rattle.std.proofs.Common.{rules, sym, ◌∙◌}
use Rattle.std.proofs.lemmas.Slice.Eq.{bytes_eq-Decides}
use Rattle.ra_history_lines.proofs.NameLists.{place_of_key}
use Rattle.ra_history_lines.proofs.name.place_near.Goals as goal

pub returns-in-Some-clause-place : goal.returns-in-Some-clause-place
returns-in-Some-clause-place c =
    place_of_key c.args.set.now.keys c.args.word.now c.args.guess c.in-Some.name.now c.requires (search rules)
    (sym c.as_slice.ensures.value
    ∙ (bytes_eq-Decides c.as_slice.result.now c.args.word.now).0 (sym c.eq.ensures ∙ c.if-eq.true))
