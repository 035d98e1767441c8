use Rattle.std.proofs.Common.{◌≡◌, sym, ap, ◌∙◌, subst}
use Rattle.std.proofs.lemmas.Bool.{false≢true}
use Rattle.ra_list_replica.specs.Listing.{AreShownInTurn}
use Rattle.ra_list_replica.specs.View.{View}
use Rattle.ra_list_replica.proofs.Shows.{part_from_turns, turns_from_part, unnumbered}
use Rattle.ra_list_replica.proofs.replica_view.ReplicaView.check_part.Goals as goal
use Rattle.ra_list_replica.proofs.replica_view.ReplicaView.check_part.Goals.{then-are_shown_once, else-are_shown_once}

pub returns-in_default-clause-exactly : goal.returns-in_default-clause-exactly
returns-in_default-clause-exactly c = λ part.
    let missed = rw c.in_default.is at c.in_ok-part.ensures in
    unnumbered c.args.numbers.now c.args.self.now.marks c.args.list.now missed part

pub returns-clause-exactly : goal.returns-clause-exactly
returns-clause-exactly c =
    let elements = c.args.numbers.now in
    let list = c.args.list.now in
    let marks = c.args.self.now.marks in
    let ns = c.in-Some.part.items in
    let are = rw c.in-Some.is at c.in_ok-part.ensures in
    let exactly = c.are_shown_once.ensures.exactly in
    let these = c.deref.ensures.value in
    let marked : c.deref_mut.result.now ≡ marks = c.deref_mut.ensures.value ∙ ap (λ (v : View). v.marks) c.self.view_is in
    elim c.if-are_shown_once.branch [
      | then-are_shown_once w ↦
          let turns = subst (λ ms. AreShownInTurn ms ns) marked (subst (AreShownInTurn c.deref_mut.result.now) these
          (exactly.0 w.if-are_shown_once.true)) in
          rw w.result-is (part_from_turns elements marks list ns c.invariant.ensures are turns)
      | else-are_shown_once w ↦ rw w.result-is (λ part.
          let turns = turns_from_part elements marks list ns c.invariant.ensures are part in
          false≢true (sym w.if-are_shown_once.false ∙ exactly.1 (subst (AreShownInTurn c.deref_mut.result.now) (sym these)
          (subst (λ ms. AreShownInTurn ms ns) (sym marked) turns))))
    ]
