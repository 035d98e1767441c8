use Rattle.std.proofs.Common.{sym, ap, ◌∙◌, subst}
use Rattle.ra_labels.specs.Edges.{IsCycle}
use Rattle.ra_list_edges.specs.Pairs.{AddsPairs, with_pairs}
use Rattle.ra_list_replica.specs.Numbers.{AreNumbersOf}
use Rattle.ra_list_witness.specs.Named.{all_named}
use Rattle.ra_list_witness.proofs.LastReads.{within}
use Rattle.ra_list_witness.proofs.Kept.{kept_by_pairs}
use Rattle.ra_list_witness.proofs.NamedAnswers.{read_added, read_cycle}
use Rattle.ra_list_witness.proofs.list_witness.ListWitness.read_part.Goals as goal

pub add_part-requires : goal.add_part-requires
add_part-requires c = λ n there.
    c.self.invariant.ordered n (within c.args.self.now.elements c.self.inside.numbers c.args.part.now
    (ap (λ v. v.elements) c.self.view_is) c.requires n there)

pub invariant_of-self : goal.invariant_of-self
invariant_of-self c =
    let inside = c.self.inside in
    let new = c.add_part.new.order in
    kept_by_pairs (λ cycle. cycle.items) c.add_part.result inside.numbers inside.views.items inside.order.order new.order
    inside.order.edges new.edges c.args.label c.args.part.now c.self.invariant c.add_part.ensures.elements
    (within c.args.self.now.elements inside.numbers c.args.part.now (ap (λ v. v.elements) c.self.view_is) c.requires)
    c.add_part.ensures.answer c.add_part.ensures.failed

pub invariant_of-self-in_default : goal.invariant_of-self-in_default
invariant_of-self-in_default c =
    let inside = c.self.inside in
    let new = c.add_part.new.order in
    kept_by_pairs (λ cycle. cycle.items) c.add_part.result inside.numbers inside.views.items inside.order.order new.order
    inside.order.edges new.edges c.args.label c.args.part.now c.self.invariant c.add_part.ensures.elements
    (within c.args.self.now.elements inside.numbers c.args.part.now (ap (λ v. v.elements) c.self.view_is) c.requires)
    c.add_part.ensures.answer c.add_part.ensures.failed

pub returns-in_default-clause-edges : goal.returns-in_default-clause-edges
returns-in_default-clause-edges c = λ list are.
    let inside = c.self.inside in
    let mine = subst (λ xs. AreNumbersOf xs list c.args.part.now) (sym (ap (λ v. v.elements) c.self.view_is)) are in
    let new = c.add_part.new.order.edges in
    subst (λ es. AddsPairs c.args.label list es (all_named inside.numbers new)) (ap (λ v. v.edges) c.self.view_is)
    (read_added inside.numbers c.args.label inside.order.edges list c.args.part.now new mine
    (rw c.in_default.is at c.in_ok-cycle.ensures.answer))

pub invariant_of-self-2 : goal.invariant_of-self-2
invariant_of-self-2 c =
    let inside = c.self.inside in
    let new = c.add_part.new.order in
    kept_by_pairs (λ cycle. cycle.items) c.add_part.result inside.numbers inside.views.items inside.order.order new.order
    inside.order.edges new.edges c.args.label c.args.part.now c.self.invariant c.add_part.ensures.elements
    (within c.args.self.now.elements inside.numbers c.args.part.now (ap (λ v. v.elements) c.self.view_is) c.requires)
    c.add_part.ensures.answer c.add_part.ensures.failed

pub returns-clause-edges : goal.returns-clause-edges
returns-clause-edges c = λ list are.
    let inside = c.self.inside in
    let edges = ap (λ v. v.edges) c.self.view_is in
    let mine = subst (λ xs. AreNumbersOf xs list c.args.part.now) (sym (ap (λ v. v.elements) c.self.view_is)) are in
    let answer = rw c.in-Some.is at c.in_ok-cycle.ensures.answer in (
      ap (all_named inside.numbers) answer.0 ∙ edges,
      subst (λ es. IsCycle (with_pairs c.args.label list es) c.name_edges.new.edges.items) edges
          (read_cycle inside.numbers c.args.label inside.order.edges list c.args.part.now c.in-Some.cycle.items
          c.name_edges.new.edges.items mine answer.1 c.name_edges.ensures),
    )
