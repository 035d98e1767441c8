use Rattle.std.proofs.Common.{◌≡◌, sym, ◌∙◌, subst, Some}
use Rattle.std.proofs.lemmas.Bool.{not-true}
use Rattle.ra_seqspec.specs.Pairs.{IsRestOf}
use Rattle.ra_seqspec.proofs.DistinctElements.{found_next, skipped, IsNext}
use Rattle.ra_seqspec.proofs.pairs.next_element.Goals.{in-Some, in_default}
use Rattle.ra_seqspec.proofs.pairs.next_element.Goals as goal

-- the pair is one of the next element
found : (c : goal.Then-ne) → IsNext c.args.pairs.now.keys c.args.last c.in_ok-pair.pair.now c.next.new.self
found c =
    let keys = c.args.pairs.now.keys in
    found_next keys c.args.last c.in_ok-pair.pair.now c.next.new.self c.requires.ordered
    (subst (IsRestOf keys c.args.last) c.in_ok-pair.ensures.steps c.loop.invariant.rest)
    (not-true _ (sym c.ne.ensures ∙ c.if-ne.true))

pub returns-then-ne-clause-next : goal.returns-then-ne-clause-next
returns-then-ne-clause-next c = (found c).next

pub returns-then-ne-clause-rest : goal.returns-then-ne-clause-rest
returns-then-ne-clause-rest c = (found c).rest

pub loop-pair-init : goal.loop-pair-init
loop-pair-init c =
    let keys = c.args.pairs.now.keys in
    elim c.match-last.branch [
      | in-Some w ↦ record {
        can = tt;
        ends = tt;
        rest = subst (λ last. IsRestOf keys last c.match-last.rest) (sym w.last-is)
            (subst (IsRestOf keys (Some w.in-Some.element)) (sym (w.rest-is ∙ w.range.ensures.between tt))
            (skipped w.in-Some.element 4294967295 keys w.range.ensures.ordered));
      }
      | in_default w ↦ record {
        can = tt;
        ends = tt;
        rest = subst (λ last. IsRestOf keys last c.match-last.rest) (sym w.last-is)
            (subst (IsRestOf keys c.args.last) (sym w.rest-is) c.loop.invariant.rest);
      }
    ]

-- so it is behind the skipped ones
found_later : (c : goal.Then-ne-2)
    → IsNext c.args.pairs.now.keys c.args.last c.in-Some-next.pair.now c.next-in-loop-pair.new.self
found_later c =
    let keys = c.args.pairs.now.keys in
    let same : c.match-last.last ≡ c.args.last = elim c.match-last.branch [
      | in-Some w ↦ w.last-is ∙ sym w.in-Some.is
      | in_default w ↦ w.last-is
    ] in
    let p = c.in-Some-next.pair.now in
    let rest = c.next-in-loop-pair.new.self in
    subst (λ last. IsNext keys last p rest) same
    (found_next keys c.match-last.last p rest c.requires.ordered
    (subst (IsRestOf keys c.match-last.last) c.in-Some-next.ensures.steps c.loop-pair.invariant.rest)
    (not-true _ (sym c.ne-in-Some-next.ensures ∙ c.if-ne-2.true)))

pub returns-then-ne-2-clause-next : goal.returns-then-ne-2-clause-next
returns-then-ne-2-clause-next c = (found_later c).next

pub returns-then-ne-2-clause-rest : goal.returns-then-ne-2-clause-rest
returns-then-ne-2-clause-rest c = (found_later c).rest
