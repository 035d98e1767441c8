use Rattle.std.proofs.Common.{◌≡◌, ◌∙◌, ◌<◌, ◌++◌, ◌∷◌, [], get_or, length, sym, ap, arith}
use Rattle.std.specs.Prelude.{map}
use Rattle.std.proofs.lemmas.List.{get_or-map, length-map}
use Rattle.ra_precedence.proofs.UseLists.{replaced, not_replaced}
use Rattle.ra_precedence.proofs.uses.Uses.add.Goals as goal

pub returns-in_err-push-clause-others : goal.returns-in_err-push-clause-others
returns-in_err-push-clause-others c = λ other apart.
    not_replaced (λ list. list.items) c.self.inside.lists.items c.args.label other c.push.new.self apart
    ∙ ap (λ lists. get_or lists other []) c.self.view_is

pub returns-clause-added : goal.returns-clause-added
returns-clause-added c =
    let lists = c.self.inside.lists.items in
    let low : c.args.label < length lists =
    let there = c.requires in
    let same : length (map (λ list. list.items) lists) ≡ length c.args.self.now = ap length c.self.view_is in
    omega (arith, there, same, length-map lists (λ list. list.items)) in
    replaced (λ list. list.items) lists c.args.label c.push.new.self low
    ∙ c.in_ok-push.ensures.ok
    ∙ ap (λ xs. xs ++ c.args.index ∷ [])
    (ap (λ list. list.items) c.index_mut.ensures.value
    ∙ sym (get_or-map (λ list. list.items) lists c.args.label c.index_mut.result.now [] low)
    ∙ ap (λ lists. get_or lists c.args.label []) c.self.view_is)

pub returns-clause-others : goal.returns-clause-others
returns-clause-others c = λ other apart.
    not_replaced (λ list. list.items) c.self.inside.lists.items c.args.label other c.push.new.self apart
    ∙ ap (λ lists. get_or lists other []) c.self.view_is
