use Rattle.std.proofs.Common.{◌≡◌, ℕ, ◌<◌, List, length, sym, ap, ◌∙◌, subst, arith}
use Rattle.std.specs.Prelude.{Contains}
use Rattle.std.proofs.lemmas.List.{get_or_default}
use Rattle.ra_labels.specs.Edges.{IsCycle}
use Rattle.ra_list_edges.specs.Pairs.{AddsPairs, HasEdgesBut, with_pairs}
use Rattle.ra_list_replica.specs.Numbers.{AreNumbersOf}
use Rattle.ra_list_replica.specs.Listing.{AreAsLast}
use Rattle.ra_list_replica.specs.View.{mark_at}
use Rattle.ra_list_witness.specs.Adjacent.{HasPairs}
use Rattle.ra_list_witness.specs.ListWitness.{no_view, view_at, ListWitnessKept}
use Rattle.ra_list_witness.specs.Named.{all_named}
use Rattle.ra_list_witness.proofs.AdjacentPairs.{has_pairs}
use Rattle.ra_list_witness.proofs.LastReads.{others_had, within}
use Rattle.ra_list_witness.proofs.Kept.{kept_set, kept_by_pairs}
use Rattle.ra_list_witness.proofs.NamedAnswers.{read_added, read_cycle}
use Rattle.ra_list_witness.proofs.list_witness.ListWitness.read.Goals as goal

-- the numbers that were read are those of elements
read_within : (now inside numbers read : List ℕ) → inside ≡ now → read ≡ numbers
    → (list : List ℕ) × AreNumbersOf now list numbers → (n : ℕ) → Contains read n → n < length inside
read_within now inside numbers read same is are n there =
    within now inside numbers same are n (subst (λ xs. Contains xs n) is there)

pub add_read-requires-clause-listed : goal.add_read-requires-clause-listed
add_read-requires-clause-listed c = λ n there.
    c.self.invariant.ordered n
    (read_within c.args.self.now.elements c.self.inside.numbers c.args.listed.numbers.items c.deref.result.now
    (ap (λ v. v.elements) c.self.view_is) c.deref.ensures.value c.requires.numbers n there)

pub add_read-requires-clause-others : goal.add_read-requires-clause-others
add_read-requires-clause-others c =
    let inside = c.self.inside in
    let numbers = c.args.listed.numbers.items in
    let places = c.args.listed.places.items in
    let as_last = subst (λ vs. AreAsLast (view_at vs c.args.replica).last numbers places)
    (sym (ap (λ v. v.views) c.self.view_is)) c.requires.as_last in
    subst (λ xs. HasEdgesBut inside.order.edges xs c.deref-2.result.now) (sym c.deref.ensures.value)
    (subst (HasEdgesBut inside.order.edges numbers) (sym c.deref-2.ensures.value)
    (others_had (view_at inside.views.items c.args.replica).last numbers places inside.order.edges as_last
    (c.self.invariant.lasts c.args.replica)))

pub invariant_of-self : goal.invariant_of-self
invariant_of-self c =
    let inside = c.self.inside in
    let new = c.add_read.new.order in
    let below = read_within c.args.self.now.elements inside.numbers c.args.listed.numbers.items c.deref.result.now
    (ap (λ v. v.elements) c.self.view_is) c.deref.ensures.value c.requires.numbers in
    kept_by_pairs (λ cycle. cycle.items) c.add_read.result inside.numbers inside.views.items inside.order.order new.order
    inside.order.edges new.edges c.args.label c.deref.result.now c.self.invariant c.add_read.ensures.elements below
    c.add_read.ensures.answer c.add_read.ensures.failed

pub invariant_of-self-in-None-1 : goal.invariant_of-self-in-None-1
invariant_of-self-in-None-1 c =
    let inside = c.self.inside in
    let views = inside.views.items in
    let new = c.add_read.new.order in
    let numbers = c.args.listed.numbers.items in
    let below = read_within c.args.self.now.elements inside.numbers numbers c.deref.result.now
    (ap (λ v. v.elements) c.self.view_is) c.deref.ensures.value c.requires.numbers in
    let there = subst (λ vs. c.args.replica < length vs) (sym (ap (λ v. v.views) c.self.view_is)) c.requires.replica in
    let marks : c.keep.new.self.marks ≡ (view_at views c.args.replica).marks =
    c.keep.ensures.marks
    ∙ ap (λ v. v.marks) (c.index_mut.ensures.value ∙ get_or_default views c.args.replica _ no_view there) in
    let adds : AddsPairs c.args.label c.deref.result.now inside.order.edges new.edges =
    rw c.in-None.is at c.in_ok-add_read.ensures.answer in
    let kept : ListWitnessKept inside.numbers views new.order new.edges =
    kept_by_pairs (λ cycle. cycle.items) c.add_read.result inside.numbers views inside.order.order new.order inside.order.edges
    new.edges c.args.label c.deref.result.now c.self.invariant c.add_read.ensures.elements below c.add_read.ensures.answer
    c.add_read.ensures.failed in
    kept_set inside.numbers inside.numbers views new.order new.order new.edges new.edges c.args.replica c.keep.new.self kept
    there (omega arith) kept.few kept.ordered kept.between (λ xs has. has)
    (λ n past. ap (λ ms. mark_at ms n) marks ∙ kept.beyond c.args.replica n past)
    (subst (HasPairs new.edges) (c.deref.ensures.value ∙ sym c.keep.ensures.last)
    (has_pairs c.args.label c.deref.result.now new.edges adds.all))

pub invariant_of-self-in-Some-1 : goal.invariant_of-self-in-Some-1
invariant_of-self-in-Some-1 c =
    let inside = c.self.inside in
    let new = c.add_read.new.order in
    let below = read_within c.args.self.now.elements inside.numbers c.args.listed.numbers.items c.deref.result.now
    (ap (λ v. v.elements) c.self.view_is) c.deref.ensures.value c.requires.numbers in
    kept_by_pairs (λ cycle. cycle.items) c.add_read.result inside.numbers inside.views.items inside.order.order new.order
    inside.order.edges new.edges c.args.label c.deref.result.now c.self.invariant c.add_read.ensures.elements below
    c.add_read.ensures.answer c.add_read.ensures.failed

pub returns-in-None-clause-edges : goal.returns-in-None-clause-edges
returns-in-None-clause-edges c = λ list are.
    let inside = c.self.inside in
    let numbers = c.args.listed.numbers.items in
    let mine = subst (λ xs. AreNumbersOf xs list numbers) (sym (ap (λ v. v.elements) c.self.view_is)) are in
    let new = c.add_read.new.order.edges in
    subst (λ es. AddsPairs c.args.label list es (all_named inside.numbers new)) (ap (λ v. v.edges) c.self.view_is)
    (read_added inside.numbers c.args.label inside.order.edges list c.deref.result.now new
    (subst (AreNumbersOf inside.numbers list) (sym c.deref.ensures.value) mine)
    (rw c.in-None.is at c.in_ok-add_read.ensures.answer))

pub returns-in-Some-clause-edges : goal.returns-in-Some-clause-edges
returns-in-Some-clause-edges c = λ list are.
    let inside = c.self.inside in
    let numbers = c.args.listed.numbers.items in
    let edges = ap (λ v. v.edges) c.self.view_is in
    let mine = subst (λ xs. AreNumbersOf xs list numbers) (sym (ap (λ v. v.elements) c.self.view_is)) are in
    let answer = rw c.in-Some.is at c.in_ok-add_read.ensures.answer in (
      ap (all_named inside.numbers) answer.0 ∙ edges,
      subst (λ es. IsCycle (with_pairs c.args.label list es) c.name_edges.new.edges.items) edges
          (read_cycle inside.numbers c.args.label inside.order.edges list c.deref.result.now c.in-Some.closed.items
          c.name_edges.new.edges.items (subst (AreNumbersOf inside.numbers list) (sym c.deref.ensures.value) mine) answer.1
          c.name_edges.ensures),
    )
