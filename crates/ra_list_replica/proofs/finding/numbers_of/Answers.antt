use Rattle.std.proofs.Common.{◌≡◌, ℕ, ◌+◌, ◌<◌, List, [], ◌∷◌, ◌++◌, length, get_or, take, Some, sym, subst, arith}
use Rattle.std.specs.List.{slice_get}
use Rattle.std.proofs.lemmas.List.{take_more}
use Rattle.std.proofs.lemmas.Grind.{common_steps}
use Rattle.ra_list_replica.specs.Numbers.{AreNumbersOf}
use Rattle.ra_list_replica.specs.Listing.{AreAsLast}
use Rattle.ra_list_replica.proofs.Lists.{numbers_more}
use Rattle.ra_list_replica.proofs.Places.{IsLastAt, IsNext, as_last_more, next_placed, next_found, last_found}
use Rattle.ra_list_replica.proofs.finding.numbers_of.Goals as goal
use Rattle.ra_list_replica.proofs.finding.numbers_of.Goals.{then-is_at+in_ok-push, then-not-follows+in_ok-push_place, else-not-follows+else-at-next, else-is_at+in-Some+in_ok-push_place-2+in_ok-push-2}

-- the numbers of one element more
numbers_next : (elements list numbers pushed : List ℕ) (i n : ℕ) → i < length list → AreNumbersOf elements (take i list) numbers
    → slice_get elements n ≡ Some (get_or list i 0) → pushed ≡ numbers ++ n ∷ []
    → AreNumbersOf elements (take (i + 1) list) pushed
numbers_next elements list numbers pushed i n below are is more =
    subst (AreNumbersOf elements (take (i + 1) list)) (sym more)
    (subst (λ xs. AreNumbersOf elements xs (numbers ++ n ∷ [])) (sym (take_more list i 0 below))
    (numbers_more elements (take i list) numbers (get_or list i 0) n are is))

pub loop-element-preserved : goal.loop-element-preserved
loop-element-preserved c =
    let elements = c.args.elements.now in
    let list = c.args.list.now in
    let last = c.args.last.now in
    let i = c.loop-element.element-index in
    let at = c.first_not_removed-at.result in
    let numbers = c.loop-element.numbers.items in
    let places = c.loop-element.places.items in
    let kept = c.loop-element.invariant in
    elim c.if-is_at.branch [
      | then-is_at+in_ok-push w ↦
          let found = c.is_at.ensures w.if-is_at.true in
          let n = get_or last at 0 in
          let pushed : c.if-is_at.numbers.items ≡ numbers ++ n ∷ [] = grind (arith, common_steps) in
          let next : IsNext last numbers places n c.if-is_at.places.items = elim w.if-not-follows.branch [
            | then-not-follows+in_ok-push_place v ↦
                next_placed last numbers places c.if-is_at.places.items n (grind (arith, common_steps))
            | else-not-follows+else-at-next v ↦
                let same : c.if-is_at.places.items ≡ places = grind (arith, common_steps) in
                subst (IsNext last numbers places n) (sym same) (next_found last numbers places at
                (subst (IsLastAt last numbers) (omega arith) (kept.follows (grind (arith, common_steps)))) found.0)
          ] in
          record {
            numbers = numbers_next elements list numbers c.if-is_at.numbers.items i n (omega arith) kept.numbers found.1 pushed;
            as_last = subst (λ ns. AreAsLast last ns c.if-is_at.places.items) (sym pushed)
                (as_last_more last numbers places c.if-is_at.places.items n kept.as_last next);
            follows = λ is. subst (λ ns. IsLastAt last ns c.if-is_at.next) (sym pushed)
                (subst (IsLastAt last (numbers ++ n ∷ [])) (omega arith) (last_found last numbers at found.0));
          }
      | else-is_at+in-Some+in_ok-push_place-2+in_ok-push-2 w ↦
          let n = w.in-Some.number in
          let pushed : c.if-is_at.numbers.items ≡ numbers ++ n ∷ [] = grind (arith, common_steps) in
          let next : IsNext last numbers places n c.if-is_at.places.items =
          next_placed last numbers places c.if-is_at.places.items n (grind (arith, common_steps)) in
          record {
            numbers = numbers_next elements list numbers c.if-is_at.numbers.items i n (omega arith) kept.numbers (grind (arith, common_steps)) pushed;
            as_last = subst (λ ns. AreAsLast last ns c.if-is_at.places.items) (sym pushed)
                (as_last_more last numbers places c.if-is_at.places.items n kept.as_last next);
            follows = λ is. absurd (grind (arith, common_steps));
          }
    ]
