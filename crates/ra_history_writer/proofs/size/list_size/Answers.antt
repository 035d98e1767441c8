use Rattle.std.proofs.Common.{◌≡◌, ◌∷◌, rules}
use Rattle.ra_history_writer.proofs.Sizes.{size_list}
use Rattle.ra_history_writer.proofs.size.list_size.Goals as goal

pub returns-in-Some-clause-exact : goal.returns-in-Some-clause-exact
returns-in-Some-clause-exact c =
    let parts : c.args.numbers.now ≡ c.in-Some.first.now ∷ c.in-Some.more.now = search rules in
    size_list c.in-Some.first.now c.in-Some.more.now c.args.numbers.now c.number_size.result c.more_size.result parts
    c.number_size.ensures.exact c.more_size.ensures.exact
