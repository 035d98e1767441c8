use Rattle.std.proofs.Common.{◌≡◌, ℕ, List, ◌∷◌, ◌++◌, Some, rules, ap, ◌∙◌}
use Rattle.std.specs.Prelude.{slice_get}
use Rattle.std.proofs.lemmas.Option.{slice_get_within}
use Rattle.ra_history_lines.proofs.LedLines.{led}
use Rattle.ra_history_lines.proofs.name.Names.lead.Goals as goal

pub returns-in-Some-behind_word : goal.returns-in-Some-behind_word
returns-in-Some-behind_word c =
    let keys = c.self.inside.set.keys in
    let place = c.guess-place.result in
    let key = c.in-Some.name.now in
    let behind = c.in-Some-behind_word.behind.now in
    let there : slice_get keys place ≡ Some key = search rules in
    led keys c.args.self.now c.args.line.now behind place key c.self.invariant c.self.view_is there
    (slice_get_within keys place key there)
    (c.in-Some-behind_word.ensures ∙ ap (λ (bytes : List ℕ). bytes ++ 32 ∷ behind) c.as_slice.ensures.value)
