use Rattle.std.proofs.Common.{ℕ, List, [], ◌∷◌, ◌++◌, ap, ◌∙◌}
use Rattle.ra_history_lines.proofs.NameLists.{key_joins, joins_last, kept_next}
use Rattle.ra_history_lines.proofs.name.Names.push.Goals as goal

pub returns-clause-ok : goal.returns-clause-ok
returns-clause-ok c =
    let keys = c.self.inside.set.keys in
    key_joins keys c.insert.new.self.keys c.in_ok-own.own c.args.name.now c.in_ok-own.ensures.items
    c.in_ok-insert.ensures.keys
    (joins_last keys c.args.self.now c.args.name.now c.self.view_is c.requires)
    ∙ ap (λ (names : List (List ℕ)). names ++ c.args.name.now ∷ []) c.self.view_is

pub invariant_of-self-2 : goal.invariant_of-self-2
invariant_of-self-2 c =
    let keys = c.self.inside.set.keys in
    let grown = key_joins keys c.insert.new.self.keys c.in_ok-own.own c.args.name.now c.in_ok-own.ensures.items
    c.in_ok-insert.ensures.keys
    (joins_last keys c.args.self.now c.args.name.now c.self.view_is c.requires) in
    kept_next keys c.insert.new.self.keys c.args.name.now c.args.self.now c.self.invariant c.self.view_is
    c.requires grown
