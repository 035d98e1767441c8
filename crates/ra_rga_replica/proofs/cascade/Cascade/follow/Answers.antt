use Rattle.std.proofs.Common.{◌≡◌, ◌∙◌, ◌++◌, ◌∷◌, [], List, ℕ, length, ap, subst, arith, rules}
use Rattle.std.specs.Prelude.{Contains}
use Rattle.std.proofs.lemmas.List.{length-append}
use Rattle.ra_rga_elements.specs.ElementList.{is_marked}
use Rattle.ra_rga_replica.specs.Cascade.{shown_after, IsAmidst}
use Rattle.ra_rga_replica.proofs.Edits.{edits_stand, marked_label}
use Rattle.ra_rga_replica.proofs.ShownElements.{marked_within}
use Rattle.ra_rga_replica.proofs.Followers.{amidst_alike}
use Rattle.ra_rga_replica.proofs.LastFollowers.{not_many}
use Rattle.ra_rga_replica.proofs.cascade.Cascade.follow.Goals as goal

pub follow_one-requires : goal.follow_one-requires
follow_one-requires c =
    let asked = c.requires.amidst in
    let now = c.loop-label.self in
    let shows : ℕ → _ = λ n. is_marked c.args.shown.now n in
    let popped : now.ready.items ≡ c.pop.new.self.items ++ c.in-Some.label ∷ [] = search rules in (
      shows,
      record {
        all = asked.all;
        records = asked.records;
        had = asked.had;
        settled = asked.settled;
        first = asked.first;
        amidst =
            subst (λ (ls : List ℕ). IsAmidst (shown_after c.args.edits.now shows now.labels.items)
            c.loop-label.there.marks.items now.labels.items ls c.args.waiting.now asked.all c.args.edits.now
            asked.records asked.had asked.settled asked.first)
            popped (c.loop-label.invariant.followed asked.all asked.records asked.had asked.settled asked.first
            asked.amidst);
      },
    )

pub loop-label-smaller : goal.loop-label-smaller
loop-label-smaller c =
    let asked = c.requires.amidst in
    let now = c.loop-label.self in
    let shows : ℕ → _ = λ n. is_marked c.args.shown.now n in
    let popped : now.ready.items ≡ c.pop.new.self.items ++ c.in-Some.label ∷ [] = search rules in
    let amidst = subst (λ (ls : List ℕ). IsAmidst (shown_after c.args.edits.now shows now.labels.items)
    c.loop-label.there.marks.items now.labels.items ls c.args.waiting.now asked.all c.args.edits.now asked.records
    asked.had asked.settled asked.first)
    popped (c.loop-label.invariant.followed asked.all asked.records asked.had asked.settled asked.first asked.amidst) in
    let after = c.in_ok-follow_one.ensures.followed shows asked.all asked.records asked.had asked.settled asked.first
    amidst in
    omega (
      arith,
      not_many asked.amidst.elements after.freeing,
      ap length c.in_ok-follow_one.ensures.labels,
      length-append now.labels.items (c.in-Some.label ∷ []),
    )

pub make_all-requires : goal.make_all-requires
make_all-requires c = λ label number found is.
    let asked = c.requires.amidst in
    let now = c.loop-label.self in
    let amidst = c.loop-label.invariant.followed asked.all asked.records asked.had asked.settled asked.first
    asked.amidst in
    let free = amidst.freeing in
    let gone = free.gone label (subst (λ (ls : List ℕ). Contains ls label) c.as_slice.ensures.value found) in
    let within = marked_within c.loop-label.there.marks.items number
    (marked_label (edits_stand amidst.elements) free.there label number is ∙ gone) in
    omega (
      arith,
      within,
      c.len.ensures,
      c.loop-label.there.marks.ok.0,
      c.in_ok-reserve.ensures.room,
    )

pub returns-clause-followed : goal.returns-clause-followed
returns-clause-followed c = λ all records had settled first amidst.
    let now = c.loop-label.self in
    let edits = c.args.edits.now in
    let ended = c.loop-label.invariant.followed all records had settled first amidst in
    let none : now.ready.items ≡ [] = search rules in
    amidst_alike
    (λ k. c.make_all.ensures k
    ∙ ap (λ ls. shown_after edits (λ n. is_marked c.reserve.new.self n) ls k) c.as_slice.ensures.value
    ∙ ap (λ test. shown_after edits test now.labels.items k) (λ i n. c.in_ok-reserve.ensures.same n i))
    (subst (λ (ls : List ℕ). IsAmidst (shown_after edits (λ n. is_marked c.args.shown.now n) now.labels.items)
    c.loop-label.there.marks.items now.labels.items ls c.args.waiting.now all edits records had settled first) none
    ended)
