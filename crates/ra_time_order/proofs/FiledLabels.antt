-- Lemmas on inserting a label into its run, and on finding labels in their runs.
use Rattle.std.proofs.Common.{◌≡◌, ℕ, zero, suc, ◌+◌, ◌-◌, ◌<◌, ◌≤◌, true, List, [], ◌∷◌, ◌++◌, length, get_or, sym, ap, ◌∙◌, subst, refl, inl, inr, arith}
use Rattle.std.specs.Prelude.{take, drop, set, nat_lt}
use Rattle.std.specs.List.{AllByRecursion, insert, list_all, slice_get}
use Rattle.std.specs.List.Sorted.{IsPartitionedBy}
use Rattle.std.proofs.lemmas.Bool.{cases_Bool, cases_eq, cond-true, cond-false, ltb-true}
use Rattle.std.proofs.lemmas.List.{length-set, get_or-set_other, length-drop, take_all}
use Rattle.std.proofs.lemmas.List.Edits.{length-insert}
use Rattle.std.proofs.lemmas.List.Elements.{recursion_from_All, All-from_get_or}
use Rattle.ra_labels.specs.declared.label.Stamp.{Stamp}
use Rattle.ra_labels.specs.NamedOrder.{lowest_rank, greater_of}
use Rattle.ra_time_order.specs.declared.entry.Entry.{Entry}
use Rattle.ra_time_order.specs.declared.run.Run.{Run}
use Rattle.ra_time_order.specs.Chunk.{Chunk}
use Rattle.ra_time_order.specs.Positions.{not_above, IsPositionOf}
use Rattle.ra_time_order.specs.Sorted.{Sorted, joined, sorted_of, Rise, IsRunOf, RunsKept, UpTo, From, HasRoom}
use Rattle.ra_time_order.proofs.Ranks.{at_most_through, greater_above}
use Rattle.ra_time_order.proofs.Each.{each_left, each_at, each_insert, each_weaker}
use Rattle.ra_time_order.proofs.RisingRanks.{rise_partitioned, rise_insert}
use Rattle.ra_time_order.proofs.Runs.{offset, offset_rest, joined_set, position_joined, between_set}
use Rattle.ra_time_order.proofs.Halves.{room_in_each, each_has_room}

rise_left : (xs ys : List Entry) → Rise (xs ++ ys) → Rise xs
rise_left [] ys rise = tt
rise_left (x ∷ xs) ys rise = (each_left (From x.rank) xs ys rise.0, rise_left xs ys rise.1)

rise_right : (xs ys : List Entry) → Rise (xs ++ ys) → Rise ys
rise_right [] ys rise = rise
rise_right (x ∷ xs) ys rise = rise_right xs ys rise.1

-- the labels of a run rise
pub rise_in_run : (runs : List Run) (at : ℕ) (d : Run) → at < length runs → Rise (joined runs)
    → Rise (get_or runs at d).chunk.entries
rise_in_run [] at d there rise = absurd (omega arith)
rise_in_run (run ∷ runs) zero d there rise = rise_left run.chunk.entries (joined runs) rise
rise_in_run (run ∷ runs) (suc at) d there rise =
    rise_in_run runs at d (omega arith) (rise_right run.chunk.entries (joined runs) rise)

lowest_set : (runs : List Run) (at : ℕ) (new d : Run) → at < length runs → new.first ≡ (get_or runs at d).first
    → ((d : Run) → (get_or runs 0 d).first ≡ lowest_rank) → (e : Run)
    → (get_or (set runs at new) 0 e).first ≡ lowest_rank
lowest_set [] at new d there first lowest e = absurd (omega arith)
lowest_set (run ∷ runs) zero new d there first lowest e = first ∙ lowest e
lowest_set (run ∷ runs) (suc at) new d there first lowest e = lowest e

-- if there is room, there is room in each run
pub room_says : (runs : List Run) (sorted : Sorted) → sorted_of runs ≡ sorted → 0 < sorted.room
    → list_all (λ run. nat_lt 0 run.chunk.room) runs ≡ true
room_says runs sorted view room = elim (cases_Bool (list_all (λ (r : Run). nat_lt 0 r.chunk.room) runs)) [
  | inl all ↦ all
  | inr none ↦
      let is : (sorted_of runs).room ≡ 0 = cond-false (list_all (λ (r : Run). nat_lt 0 r.chunk.room) runs) 1 0 none in
      absurd (omega (arith, is, ap (λ (s : Sorted). s.room) view))
]

pub record IsFiled (runs : List Run) (labels at : ℕ) (e : Entry) (new : List Run) (position : ℕ) : Type 0 where
  pub found : IsPositionOf e.rank (joined runs) position
  pub made : joined new ≡ insert (joined runs) position e
  pub kept : RunsKept new (labels + 1) at

-- a label is inserted into its run
pub filed : (runs : List Run) (labels newest at : ℕ) (run : Run) (chunk : Chunk) (e : Entry)
    → RunsKept runs labels newest
    → list_all (λ run. nat_lt 0 run.chunk.room) runs ≡ true → IsRunOf runs e.rank at → run ≡ get_or runs at run
    → (IsPartitionedBy (not_above e.rank) run.chunk.entries
    → (p : ℕ) × IsPositionOf e.rank run.chunk.entries p × (chunk.entries ≡ insert run.chunk.entries p e))
    → (position : ℕ) × IsFiled runs labels at e (set runs at (record { first = run.first; chunk = chunk })) position
filed runs labels newest at run chunk e kept room of is inserted =
    let new : Run = record { first = run.first; chunk = chunk } in
    let own : run.chunk.entries ≡ (get_or runs at run).chunk.entries = ap (λ (r : Run). r.chunk.entries) is in
    let first : new.first ≡ (get_or runs at run).first = ap (λ (r : Run). r.first) is in
    let rise = rise_in_run runs at run of.there kept.rise in
    let put = inserted (subst (IsPartitionedBy (not_above e.rank)) (sym own)
    (rise_partitioned e.rank (get_or runs at run).chunk.entries rise)) in
    let p = put.0 in
    let found : IsPositionOf e.rank (get_or runs at run).chunk.entries p =
    subst (λ xs. IsPositionOf e.rank xs p) own put.1 in
    let made : new.chunk.entries ≡ insert (get_or runs at run).chunk.entries p e =
    put.2 ∙ ap (λ xs. insert xs p e) own in
    let all = joined_set runs at p new run e of.there made found.among in
    let position = position_joined [] runs at p run e.rank kept.between of found in (
      offset runs at + p,
      record {
        found = position;
        made = all;
        kept = record {
          count = omega (
            arith,
            kept.count,
            ap (λ (xs : List Entry). length xs) all,
            length-insert (joined runs)
                (offset runs at + p) e position.among,
          );
          there = omega (arith, of.there, length-set runs at new);
          rise = subst Rise (sym all) (rise_insert (joined runs) (offset runs at + p) e kept.rise position);
          between = between_set [] runs at p new run e kept.between of first made found.among;
          lowest = lowest_set runs at new run of.there first kept.lowest;
          room = λ k d high other.
              let same = get_or-set_other runs at k new d other in
              omega (
                arith,
                ap (λ (r : Run). r.chunk.room) same,
                each_at HasRoom runs k d (each_has_room runs room)
                    (omega (arith, high, length-set runs at new)),
              );
        };
      },
    )

-- the labels of the runs from a given one on
from_run : (runs : List Run) (at n : ℕ) → n ≡ length runs
    → joined (take (n - at) (drop at runs)) ≡ joined (drop at runs)
from_run runs at n is = ap joined (take_all (n - at) (drop at runs) (omega (arith, is, length-drop at runs)))

pub behind_is : (slice runs : List Run) (at : ℕ) → slice ≡ runs
    → joined (take (length slice - at) (drop at slice)) ≡ joined (drop at runs)
behind_is slice runs at same =
    ap (λ (rs : List Run). joined (take (length rs - at) (drop at rs))) same ∙ from_run runs at (length runs) refl

-- the position in the whole list, from the position in the run
pub position_in_all : (runs : List Run) (labels newest at p behind : ℕ) (rank : Stamp) (run : Run)
    → RunsKept runs labels newest → IsRunOf runs rank at → run ≡ get_or runs at run
    → (IsPartitionedBy (not_above rank) run.chunk.entries → IsPositionOf rank run.chunk.entries p)
    → behind ≡ length (joined (drop at runs))
    → IsPositionOf rank (joined runs) (labels - behind + p)
position_in_all runs labels newest at p behind rank run kept of is found behind_is =
    let own : run.chunk.entries ≡ (get_or runs at run).chunk.entries = ap (λ (r : Run). r.chunk.entries) is in
    let rise = rise_in_run runs at run of.there kept.rise in
    let there = found (subst (IsPartitionedBy (not_above rank)) (sym own)
    (rise_partitioned rank (get_or runs at run).chunk.entries rise)) in
    let place : offset runs at + p ≡ labels - behind + p =
    omega (arith, kept.count, behind_is, offset_rest runs at (omega (arith, of.there))) in
    subst (IsPositionOf rank (joined runs)) place (position_joined [] runs at p run rank kept.between of
    (subst (λ xs. IsPositionOf rank xs p) own there))

pub few_behind : (runs : List Run) (labels newest at : ℕ) → RunsKept runs labels newest → at ≤ length runs
    → length (joined (drop at runs)) ≤ labels
few_behind runs labels newest at kept few = omega (arith, kept.count, offset_rest runs at few)

-- the label at a position of two concatenated lists
get_first : (xs ys : List Entry) (i : ℕ) → i < length xs → slice_get (xs ++ ys) i ≡ slice_get xs i
get_first [] ys i there = absurd (omega arith)
get_first (x ∷ xs) ys zero there = refl
get_first (x ∷ xs) ys (suc i) there = get_first xs ys i (omega arith)

less : (j : ℕ) → 0 + j ≡ j
less j = omega arith

up : (at : ℕ) → suc (at + 1) ≡ suc at + 1
up at = omega arith

get_then : (xs ys : List Entry) (i j : ℕ) → i ≡ length xs + j → slice_get (xs ++ ys) i ≡ slice_get ys j
get_then [] ys i j is = ap (slice_get ys) (is ∙ less j)
get_then (x ∷ xs) ys zero j is = absurd (omega arith)
get_then (x ∷ xs) ys (suc i) j is = get_then xs ys i j (omega arith)

pub from_here : (runs : List Run) (at : ℕ) (run : Run) → at < length runs → run ≡ get_or runs at run
    → joined (drop at runs) ≡ run.chunk.entries ++ joined (drop (at + 1) runs)
from_here [] at run there is = absurd (omega arith)
from_here (r ∷ runs) zero run there is = ap (λ (x : Run). x.chunk.entries ++ joined runs) (sym is)
from_here (r ∷ runs) (suc at) run there is =
    from_here runs at run (omega arith) is ∙ ap (λ k. run.chunk.entries ++ joined (drop k (r ∷ runs))) (up at)

pub label_here : (runs : List Run) (at i : ℕ) (run : Run) → at < length runs → run ≡ get_or runs at run
    → i < length run.chunk.entries
    → slice_get (joined (drop at runs)) i ≡ slice_get run.chunk.entries i
label_here runs at i run there is short =
    ap (λ xs. slice_get xs i) (from_here runs at run there is)
    ∙ get_first run.chunk.entries (joined (drop (at + 1) runs)) i short

pub label_further : (runs : List Run) (at i : ℕ) (run : Run) → at < length runs → run ≡ get_or runs at run
    → length run.chunk.entries ≤ i
    → slice_get (joined (drop at runs)) i ≡ slice_get (joined (drop (at + 1) runs)) (i - length run.chunk.entries)
label_further runs at i run there is far =
    ap (λ xs. slice_get xs i) (from_here runs at run there is)
    ∙ get_then run.chunk.entries (joined (drop (at + 1) runs)) i (i - length run.chunk.entries) (omega arith)

-- there is room if there is room in each run
pub room_given : (runs : List Run) → AllByRecursion HasRoom runs → 0 < (sorted_of runs).room
room_given runs each =
    let is : (sorted_of runs).room ≡ 1 = cond-true (list_all (λ (r : Run). nat_lt 0 r.chunk.room) runs) 1 0
    (room_in_each runs each) in
    omega (arith, is)

-- there is room if there is room in the newest label's run
pub room_there : (runs : List Run) (labels newest : ℕ) (run : Run) (sorted : Sorted) → RunsKept runs labels newest
    → run ≡ get_or runs newest run
    → nat_lt 0 run.chunk.room ≡ true → sorted_of runs ≡ sorted → 0 < sorted.room
room_there runs labels newest run sorted kept is room view =
    let each = recursion_from_All HasRoom runs (All-from_get_or HasRoom runs run (λ k high. elim (cases_eq k newest) [
      | inl here ↦
          omega (
            arith,
            ltb-true 0 run.chunk.room room,
            ap (λ (r : Run). r.chunk.room)
                (is ∙ ap (λ i. get_or runs i run) (sym here)),
          )
      | inr other ↦ kept.room k run high other
    ])) in
    omega (arith, room_given runs each, ap (λ (s : Sorted). s.room) view)

-- no label is greater than the greatest of all, also with one more label
pub under_with : (entries new : List Entry) (p : ℕ) (e : Entry) (last greatest : Stamp)
    → greatest ≡ greater_of last e.rank → new ≡ insert entries p e → AllByRecursion (UpTo last) entries
    → AllByRecursion (UpTo greatest) new
under_with entries new p e last greatest is made each =
    let both = greater_above last e.rank in
    subst (λ s. AllByRecursion (UpTo s) new) (sym is)
    (subst (AllByRecursion (UpTo (greater_of last e.rank))) (sym made)
    (each_insert (UpTo (greater_of last e.rank)) entries p e
    (each_weaker (UpTo last) (UpTo (greater_of last e.rank))
    (λ entry most. at_most_through entry.rank last (greater_of last e.rank) most both.0) entries each) both.1))
