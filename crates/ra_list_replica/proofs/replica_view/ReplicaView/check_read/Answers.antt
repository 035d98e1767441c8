use Rattle.std.proofs.Common.{◌≡◌, sym, ap, ◌∙◌, subst}
use Rattle.std.proofs.lemmas.Bool.{false≢true}
use Rattle.ra_list_replica.specs.Listing.{AreShownInTurn}
use Rattle.ra_list_replica.specs.View.{View, shown_count}
use Rattle.ra_list_replica.proofs.Shows.{read_from_turns, turns_from_part, many_from_read, unnumbered}
use Rattle.ra_list_replica.proofs.replica_view.ReplicaView.check_read.Goals as goal
use Rattle.ra_list_replica.proofs.replica_view.ReplicaView.check_read.Goals.{else-are_shown_once-via-then-are_shown_once+else-list-self, else-are_shown_once-via-else-are_shown_once}

pub returns-in_default-clause-exactly : goal.returns-in_default-clause-exactly
returns-in_default-clause-exactly c = λ read.
    let missed = rw c.in_default.is at c.in_ok-listed.ensures.numbers in
    unnumbered c.args.elements.now c.args.self.now.marks c.args.list.now missed read.part

pub returns-then-list-self-clause-exactly : goal.returns-then-list-self-clause-exactly
returns-then-list-self-clause-exactly c =
    let elements = c.args.elements.now in
    let list = c.args.list.now in
    let marks = c.args.self.now.marks in
    let ns = c.in-Some.listed.numbers.items in
    let are = rw c.in-Some.is at c.in_ok-listed.ensures.numbers in
    let these = c.deref-3.ensures.value in
    let kept = ap (λ (v : View). v.marks) c.self.view_is in
    let marked : c.deref_mut.result.now ≡ marks = c.deref_mut.ensures.value ∙ kept in
    read_from_turns elements marks list ns c.invariant.ensures are
    (subst (λ ms. AreShownInTurn ms ns) marked (subst (AreShownInTurn c.deref_mut.result.now) these
    (c.are_shown_once.ensures.exactly.0 c.if-are_shown_once.true)))
    (c.if-list-self.true ∙ c.self.invariant ∙ ap shown_count kept)

pub returns-else-are_shown_once-clause-exactly : goal.returns-else-are_shown_once-clause-exactly
returns-else-are_shown_once-clause-exactly c = λ read.
    let elements = c.args.elements.now in
    let list = c.args.list.now in
    let marks = c.args.self.now.marks in
    let ns = c.in-Some.listed.numbers.items in
    let are = rw c.in-Some.is at c.in_ok-listed.ensures.numbers in
    let these = c.deref-3.ensures.value in
    let kept = ap (λ (v : View). v.marks) c.self.view_is in
    let marked : c.deref_mut.result.now ≡ marks = c.deref_mut.ensures.value ∙ kept in
    elim c.else-are_shown_once.branch [
      | else-are_shown_once-via-then-are_shown_once+else-list-self w ↦
          w.if-list-self.false (many_from_read elements marks list ns c.invariant.ensures are read
          ∙ sym (c.self.invariant ∙ ap shown_count kept))
      | else-are_shown_once-via-else-are_shown_once w ↦
          let turns = turns_from_part elements marks list ns c.invariant.ensures are read.part in
          false≢true (sym w.if-are_shown_once.false ∙ c.are_shown_once.ensures.exactly.1
          (subst (AreShownInTurn c.deref_mut.result.now) (sym these)
          (subst (λ ms. AreShownInTurn ms ns) (sym marked) turns)))
    ]
