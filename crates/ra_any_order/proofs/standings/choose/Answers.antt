use Rattle.std.proofs.Common.{inl, inr, sym, subst, ◌∙◌}
use Rattle.std.specs.Prelude.{Contains}
use Rattle.std.proofs.lemmas.Bool.{false≢true}
use Rattle.ra_any_order.specs.Situation.{operations_in}
use Rattle.ra_any_order.proofs.SortedElements.{taken_wider, none_in}
use Rattle.ra_any_order.proofs.standings.choose.Goals as goal

pub returns-clause-first : goal.returns-clause-first
returns-clause-first c = λ x there.
    taken_wider (operations_in c.args.operations.now) c.args.seen.now c.add_contested.new.asked c.add_contested-2.new.asked
    c.in_ok-add_contested-2.ensures.kept x (c.in_ok-add_contested.ensures.first c.new-asked.ensures.len x there)

pub returns-clause-full : goal.returns-clause-full
returns-clause-full c = λ x there.
    c.in_ok-add_contested-2.ensures.full x (subst (λ xs. Contains xs x) (sym c.deref.ensures.value) there)

pub returns-clause-contested : goal.returns-clause-contested
returns-clause-contested c = λ x there. elim (c.in_ok-add_contested-2.ensures.contested x there) [
  | inr both ↦ both
  | inl before ↦ elim (c.in_ok-add_contested.ensures.contested x before) [
    | inr both ↦ both
    | inl at_first ↦ absurd (false≢true (sym (none_in c.new-asked.result x c.new-asked.ensures.empty) ∙ at_first))
  ]
]
