use Rattle.std.proofs.Common.{ℕ, ◌-◌, ◌<◌, List, length, get_or, sym, subst, arith, rules}
use Rattle.std.specs.Prelude.{Contains}
use Rattle.std.proofs.lemmas.List.{take_all}
use Rattle.std.proofs.lemmas.List.Elements.{Contains-get_or}
use Rattle.std.proofs.lemmas.List.Sorted.{IsPermutation-trans, Contains-permutation}
use Rattle.ra_list_edges.proofs.PairEdges.{pair_among, some_more, at_more, cycle_wider, adds_at}
use Rattle.ra_list_edges.proofs.pairs.add_pairs_at.Goals as goal

-- one of the indexes, which is that of a listed element with another one before it
within : (list places : List ℕ) (k : ℕ) → k < length places
    → ((i : ℕ) → Contains places i → (0 < i) × (i < length list))
    → (0 < get_or places k 0) × (get_or places k 0 < length list)
within list places k below all = all (get_or places k 0) (Contains-get_or places k 0 below)

pub overflow_sub-before : goal.overflow_sub-before
overflow_sub-before c =
    omega (arith, within c.args.list.now c.args.places.now c.loop-place.place-index (omega arith) c.requires.others.within)

pub offset_bounds-list-place : goal.offset_bounds-list-place
offset_bounds-list-place c =
    let (some, below) = within c.args.list.now c.args.places.now c.loop-place.place-index (omega arith) c.requires.others.within in
    search rules

pub bounds-list-place : goal.bounds-list-place
bounds-list-place c =
    omega (arith, within c.args.list.now c.args.places.now c.loop-place.place-index (omega arith) c.requires.others.within)

pub offset_bounds-list-place-in-loop-place : goal.offset_bounds-list-place-in-loop-place
offset_bounds-list-place-in-loop-place c =
    let (some, below) = within c.args.list.now c.args.places.now c.loop-place.place-index (omega arith) c.requires.others.within in
    search rules

pub bounds-list-place-in-loop-place : goal.bounds-list-place-in-loop-place
bounds-list-place-in-loop-place c =
    omega (arith, within c.args.list.now c.args.places.now c.loop-place.place-index (omega arith) c.requires.others.within)

pub add_edge-requires-clause-before : goal.add_edge-requires-clause-before
add_edge-requires-clause-before c =
    let list = c.args.list.now in
    let i = get_or c.args.places.now c.loop-place.place-index 0 in
    let (some, below) = within list c.args.places.now c.loop-place.place-index (omega arith) c.requires.others.within in
    Contains-permutation c.args.order.now.order c.loop-place.order.order (get_or list (i - 1) 0) c.loop-place.invariant.elements
    (c.requires.listed (get_or list (i - 1) 0) (Contains-get_or list (i - 1) 0 (omega (arith, below))))

pub add_edge-requires-clause-after : goal.add_edge-requires-clause-after
add_edge-requires-clause-after c =
    let list = c.args.list.now in
    let i = get_or c.args.places.now c.loop-place.place-index 0 in
    let (some, below) = within list c.args.places.now c.loop-place.place-index (omega arith) c.requires.others.within in
    Contains-permutation c.args.order.now.order c.loop-place.order.order (get_or list i 0) c.loop-place.invariant.elements
    (c.requires.listed (get_or list i 0) (Contains-get_or list i 0 below))

pub returns-in_err-cycle-clause-elements : goal.returns-in_err-cycle-clause-elements
returns-in_err-cycle-clause-elements c =
    IsPermutation-trans c.args.order.now.order c.loop-place.order.order c.add_edge.new.order.order
    c.loop-place.invariant.elements c.add_edge.ensures.elements

pub returns-in_err-cycle-clause-some : goal.returns-in_err-cycle-clause-some
returns-in_err-cycle-clause-some c =
    let list = c.args.list.now in
    let (some, below) = within list c.args.places.now c.loop-place.place-index (omega arith) c.requires.others.within in
    some_more c.args.label list c.args.order.now.edges c.loop-place.order.edges c.add_edge.new.order.edges _
    (pair_among c.args.label list (get_or c.args.places.now c.loop-place.place-index 0) some below)
    c.loop-place.invariant.some c.add_edge.ensures.some

pub returns-in-Some-clause-elements : goal.returns-in-Some-clause-elements
returns-in-Some-clause-elements c =
    IsPermutation-trans c.args.order.now.order c.loop-place.order.order c.add_edge.new.order.order
    c.loop-place.invariant.elements c.add_edge.ensures.elements

pub returns-in-Some-clause-some : goal.returns-in-Some-clause-some
returns-in-Some-clause-some c =
    let list = c.args.list.now in
    let (some, below) = within list c.args.places.now c.loop-place.place-index (omega arith) c.requires.others.within in
    some_more c.args.label list c.args.order.now.edges c.loop-place.order.edges c.add_edge.new.order.edges _
    (pair_among c.args.label list (get_or c.args.places.now c.loop-place.place-index 0) some below)
    c.loop-place.invariant.some c.add_edge.ensures.some

pub returns-in-Some-clause-answer : goal.returns-in-Some-clause-answer
returns-in-Some-clause-answer c =
    let list = c.args.list.now in
    let (some, below) = within list c.args.places.now c.loop-place.place-index (omega arith) c.requires.others.within in
    let found = rw c.in-Some.is at c.in_ok-cycle.ensures.answer in
    cycle_wider c.args.label list c.args.order.now.edges c.loop-place.order.edges _ _
    (pair_among c.args.label list (get_or c.args.places.now c.loop-place.place-index 0) some below)
    c.loop-place.invariant.some found

pub loop-place-preserved : goal.loop-place-preserved
loop-place-preserved c =
    let list = c.args.list.now in
    let places = c.args.places.now in
    let k = c.loop-place.place-index in
    let (some, below) = within list places k (omega arith) c.requires.others.within in
    let has = rw c.in_default.is at c.in_ok-cycle.ensures.answer in
    record {
      elements = IsPermutation-trans c.args.order.now.order c.loop-place.order.order c.add_edge.new.order.order
          c.loop-place.invariant.elements c.add_edge.ensures.elements;
      some = some_more c.args.label list c.args.order.now.edges c.loop-place.order.edges c.add_edge.new.order.edges _
          (pair_among c.args.label list (get_or places k 0) some below) c.loop-place.invariant.some c.add_edge.ensures.some;
      all = at_more list places k c.loop-place.order.edges c.add_edge.new.order.edges _ (omega arith)
          c.loop-place.invariant.all c.add_edge.ensures.some has;
    }

pub returns-clause-answer : goal.returns-clause-answer
returns-clause-answer c =
    let places = c.args.places.now in
    adds_at c.args.label c.args.list.now places c.args.order.now.edges c.loop-place.order.edges c.requires.others
    c.loop-place.invariant.some
    (λ i there. c.loop-place.invariant.all i (subst (λ is. Contains is i) (sym (take_all c.loop-place.place-index places (omega arith))) there))
