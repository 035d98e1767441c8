-- Lemmas on a run that is split into two.
use Rattle.std.proofs.Common.{◌≡◌, ◌≢◌, ℕ, zero, suc, ◌+◌, ◌<◌, true, List, [], ◌∷◌, ◌++◌, length, get_or, sym, ap, ◌∙◌, subst, refl, arith, append_assoc}
use Rattle.std.specs.Prelude.{set, nat_lt}
use Rattle.std.specs.List.{AllByRecursion, list_all}
use Rattle.std.proofs.lemmas.Bool.{lt-ltb, ltb-true, and_from, and_parts}
use Rattle.ra_labels.specs.NamedOrder.{lowest_rank}
use Rattle.ra_labels.proofs.Halves.{halved, halved_is, length_halved}
use Rattle.ra_time_order.specs.declared.entry.Entry.{Entry}
use Rattle.ra_time_order.specs.declared.run.Run.{Run}
use Rattle.ra_time_order.specs.Positions.{no_entry}
use Rattle.ra_time_order.specs.Stamps.{AtMost}
use Rattle.ra_time_order.specs.Sorted.{joined, Rise, AreBetween, IsSplit, RunsKept, UpTo, From, StartsFrom, HasRoom}
use Rattle.ra_time_order.proofs.Ranks.{at_most_itself, at_most_through}
use Rattle.ra_time_order.proofs.Each.{each_left, each_right, each_at, each_from, each_insert, each_set}
use Rattle.ra_time_order.proofs.RisingRanks.{rise_round}
use Rattle.ra_time_order.proofs.Runs.{before_first, own_first}

module _ (left right : Run) where
  -- the labels are unchanged
  joined_split : (runs : List Run) (at : ℕ) (d : Run) → at < length runs
      → left.chunk.entries ++ right.chunk.entries ≡ (get_or runs at d).chunk.entries
      → joined (halved runs at left right) ≡ joined runs
  joined_split [] at d there same = absurd (omega arith)
  joined_split (run ∷ runs) zero d there same =
      sym (append_assoc left.chunk.entries right.chunk.entries (joined runs)) ∙ ap (λ xs. xs ++ joined runs) same
  joined_split (run ∷ runs) (suc at) d there same =
      ap (λ xs. run.chunk.entries ++ xs) (joined_split runs at d (omega arith) same)

  -- each run has room if each other one had
  room_split : (runs : List Run) (at : ℕ) → at < length runs → 0 < left.chunk.room → 0 < right.chunk.room
      → ((k : ℕ) (d : Run) → k < length runs → k ≢ at → 0 < (get_or runs k d).chunk.room)
      → AllByRecursion HasRoom (halved runs at left right)
  room_split [] at there room_left room_right room = absurd (omega arith)
  room_split (run ∷ runs) zero there room_left room_right room = (
    room_left,
    (
      room_right,
      each_from HasRoom runs (λ k d high.
          room (suc k) d (omega arith) (λ e. omega (arith, e))),
    ),
  )
  room_split (run ∷ runs) (suc at) there room_left room_right room = (
    room 0 run (omega arith) (λ e. omega (arith, e)),
    room_split runs at (omega arith) room_left room_right
        (λ k d high other. room (suc k) d (omega arith) (λ e. other (omega (arith, e)))),
  )

  lowest_split : (runs : List Run) (at : ℕ) (d : Run) → at < length runs → left.first ≡ (get_or runs at d).first
      → ((d : Run) → (get_or runs 0 d).first ≡ lowest_rank) → (d : Run)
      → (get_or (halved runs at left right) 0 d).first ≡ lowest_rank
  lowest_split [] at d there first lowest e = absurd (omega arith)
  lowest_split (run ∷ runs) zero d there first lowest e = first ∙ lowest e
  lowest_split (run ∷ runs) (suc at) d there first lowest e = lowest e

  module _ (next : Entry) (later : List Entry) (begins : right.chunk.entries ≡ next ∷ later)
      (first_is : next.rank ≡ right.first) where
    between_here : (before : List Entry) (run : Run) (runs : List Run) → AreBetween before (run ∷ runs)
        → Rise (before ++ (run.chunk.entries ++ joined runs))
        → left.chunk.entries ++ right.chunk.entries ≡ run.chunk.entries → left.first ≡ run.first
        → AreBetween before (left ∷ right ∷ runs)
    between_here before run runs between rise same first =
        let ls = left.chunk.entries in
        let rs = right.chunk.entries in
        let whole : ls ++ (rs ++ joined runs) ≡ run.chunk.entries ++ joined runs =
        sym (append_assoc ls rs (joined runs)) ∙ ap (λ xs. xs ++ joined runs) same in
        let split : before ++ (run.chunk.entries ++ joined runs) ≡ (before ++ ls) ++ next ∷ (later ++ joined runs) =
        ap (λ xs. before ++ xs) (sym whole) ∙ sym (append_assoc before ls (rs ++ joined runs))
        ∙ ap (λ xs. (before ++ ls) ++ (xs ++ joined runs)) begins in
        let round = rise_round (before ++ ls) next (later ++ joined runs) (subst Rise split rise) in
        let own : AllByRecursion (From run.first) rs =
        each_right (From run.first) ls rs (subst (AllByRecursion (From run.first)) (sym same)
        (each_left (From run.first) run.chunk.entries (joined runs) between.1)) in
        let over_first : AtMost run.first right.first =
        subst (AtMost run.first) first_is (subst (AllByRecursion (From run.first)) begins own).0 in
        let joined_before : (before ++ ls) ++ rs ≡ before ++ run.chunk.entries =
        append_assoc before ls rs ∙ ap (λ xs. before ++ xs) same in (
          subst (λ s. AllByRecursion (UpTo s) before) (sym first) between.0,
          subst (λ s. AllByRecursion (From s) (ls ++ (rs ++ joined runs))) (sym first)
              (subst (AllByRecursion (From run.first)) (sym whole) between.1),
          (
            subst (λ s. AtMost s right.first) (sym first) over_first,
            subst (λ s. AllByRecursion (StartsFrom s) runs)
                (sym first) between.2,
          ),
          (
            subst (λ s. AllByRecursion (UpTo s) (before ++ ls)) first_is round.0,
            subst (λ s. AllByRecursion (From s) (rs ++ joined runs)) first_is
                (subst (λ xs. AllByRecursion (From next.rank) (xs ++ joined runs)) (sym begins)
                (at_most_itself next.rank, round.1)),
            each_from (StartsFrom right.first) runs (λ k d there.
                let under = each_right (UpTo (get_or runs k d).first) before run.chunk.entries
                (before_first (before ++ run.chunk.entries) runs k d between.3 there) in
                let under_right = each_right (UpTo (get_or runs k d).first) ls rs
                (subst (AllByRecursion (UpTo (get_or runs k d).first)) (sym same) under) in
                subst (λ s. AtMost s (get_or runs k d).first) first_is
                (subst (AllByRecursion (UpTo (get_or runs k d).first)) begins under_right).0),
            subst (λ xs. AreBetween xs runs) (sym joined_before) between.3,
          ),
        )

    between_split : (before : List Entry) (runs : List Run) (at : ℕ) (d : Run) → at < length runs
        → AreBetween before runs → Rise (before ++ joined runs)
        → left.chunk.entries ++ right.chunk.entries ≡ (get_or runs at d).chunk.entries
        → left.first ≡ (get_or runs at d).first
        → AreBetween before (halved runs at left right)
    between_split before [] at d there between rise same first = absurd (omega arith)
    between_split before (run ∷ runs) zero d there between rise same first =
        between_here before run runs between rise same first
    between_split before (run ∷ runs) (suc at) d there between rise same first =
        let short : at < length runs = omega arith in
        let its = each_at (StartsFrom run.first) runs at d between.2 short in
        let own = own_first (before ++ run.chunk.entries) runs at d between.3 short in
        let own_right = each_right (From (get_or runs at d).first) left.chunk.entries right.chunk.entries
        (subst (AllByRecursion (From (get_or runs at d).first)) (sym same) own) in
        let over : AtMost (get_or runs at d).first right.first =
        subst (AtMost (get_or runs at d).first) first_is (subst (AllByRecursion (From (get_or runs at d).first)) begins
        own_right).0 in (
          between.0,
          subst (λ xs. AllByRecursion (From run.first) (run.chunk.entries ++ xs))
              (sym (joined_split runs at d short same)) between.1,
          subst (AllByRecursion (StartsFrom run.first)) (halved_is runs at left right short)
              (each_insert (StartsFrom run.first) (set runs at left) (at + 1) right
              (each_set (StartsFrom run.first) runs at left between.2 (subst (AtMost run.first) (sym first) its))
              (at_most_through run.first (get_or runs at d).first right.first its over)),
          between_split (before ++ run.chunk.entries) runs at d short between.3
              (subst Rise (sym (append_assoc before run.chunk.entries (joined runs))) rise) same first,
        )

head_of : (xs : List Entry) (d : Entry) → 0 < length xs
    → (next : Entry) × (later : List Entry) × (xs ≡ next ∷ later) × (next ≡ get_or xs 0 d)
head_of [] d some = absurd (omega arith)
head_of (x ∷ xs) d some = (x, xs, refl, refl)

-- the result of a split
pub split_keeps : (runs new : List Run) (labels at : ℕ) → RunsKept runs labels at → IsSplit runs at new
    → (joined new ≡ joined runs) × RunsKept new labels at × AllByRecursion HasRoom new
split_keeps runs new labels at kept (left, right, halves, made) =
    let there = kept.there in
    let is : new ≡ halved runs at left right = made ∙ halved_is runs at left right there in
    let same = joined_split left right runs at left there halves.entries in
    let head = head_of right.chunk.entries no_entry halves.some in
    let first : head.0.rank ≡ right.first = ap (λ (e : Entry). e.rank) head.3 ∙ halves.begins in
    let between = between_split left right head.0 head.1 head.2 first [] runs at left there kept.between kept.rise
    halves.entries halves.first in
    let room = room_split left right runs at there halves.left_room halves.right_room kept.room in
    let after : RunsKept (halved runs at left right) labels at = record {
      count = kept.count ∙ ap (λ xs. length xs) (sym same);
      there = omega (arith, there, length_halved runs at left right there);
      rise = subst Rise (sym same) kept.rise;
      between = between;
      lowest = lowest_split left right runs at left there halves.first kept.lowest;
      room = λ k d high other. each_at HasRoom (halved runs at left right) k d room high;
    } in (
      ap joined is ∙ same,
      subst (λ rs. RunsKept rs labels at) (sym is) after,
      subst (AllByRecursion HasRoom) (sym is) room,
    )

-- there is room in each run, as a test
pub room_in_each : (runs : List Run) → AllByRecursion HasRoom runs
    → list_all (λ run. nat_lt 0 run.chunk.room) runs ≡ true
room_in_each [] each = refl
room_in_each (run ∷ runs) each =
    and_from (nat_lt 0 run.chunk.room) (list_all (λ (r : Run). nat_lt 0 r.chunk.room) runs)
    (lt-ltb 0 run.chunk.room each.0) (room_in_each runs each.1)

pub each_has_room : (runs : List Run) → list_all (λ run. nat_lt 0 run.chunk.room) runs ≡ true
    → AllByRecursion HasRoom runs
each_has_room [] all = tt
each_has_room (run ∷ runs) all =
    let parts = and_parts (nat_lt 0 run.chunk.room) (list_all (λ (r : Run). nat_lt 0 r.chunk.room) runs) all in
    (ltb-true 0 run.chunk.room parts.0, each_has_room runs parts.1)
