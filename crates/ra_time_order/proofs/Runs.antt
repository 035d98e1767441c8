-- Lemmas on a label in its run.
use Rattle.std.proofs.Common.{◌≡◌, ℕ, zero, suc, ◌+◌, ◌-◌, ◌<◌, ◌≤◌, true, false, List, [], ◌∷◌, ◌++◌, length, get_or, sym, ap, ◌∙◌, subst, refl, inl, inr, arith, length-append}
use Rattle.std.specs.Prelude.{drop, set}
use Rattle.std.specs.List.{AllByRecursion, insert}
use Rattle.std.specs.Ordering.{is_lt}
use Rattle.std.proofs.lemmas.Bool.{not_from_true}
use Rattle.std.proofs.lemmas.List.Edits.{insert-append_left, insert-append_right}
use Rattle.ra_labels.specs.declared.label.Stamp.{Stamp}
use Rattle.ra_labels.specs.NamedOrder.{stamp_cmp}
use Rattle.ra_labels.proofs.StampOrder.{below_tested}
use Rattle.ra_time_order.specs.declared.entry.Entry.{Entry}
use Rattle.ra_time_order.specs.declared.run.Run.{Run}
use Rattle.ra_time_order.specs.Positions.{not_above, IsPositionOf}
use Rattle.ra_time_order.specs.Stamps.{AtMost}
use Rattle.ra_time_order.specs.Sorted.{joined, AreBetween, IsRunOf, UpTo, From, StartsFrom}
use Rattle.ra_time_order.proofs.Ranks.{at_most_below, at_most_through, below_to}
use Rattle.ra_time_order.proofs.Each.{each_append, each_left, each_right, each_at, each_from, each_insert, each_set, each_weaker}
use Rattle.ra_time_order.proofs.RisingRanks.{under_to, position_left, position_right}

-- the number of labels before the run
pub offset : List Run → ℕ → ℕ
offset [] at = 0
offset (run ∷ runs) zero = 0
offset (run ∷ runs) (suc at) = length run.chunk.entries + offset runs at

pub offset_rest : (runs : List Run) (at : ℕ) → at ≤ length runs
    → offset runs at + length (joined (drop at runs)) ≡ length (joined runs)
unfolding offset
offset_rest [] zero few = refl
offset_rest [] (suc at) few = absurd (omega arith)
offset_rest (run ∷ runs) zero few = omega arith
offset_rest (run ∷ runs) (suc at) few =
    omega (arith, offset_rest runs at (omega arith), length-append run.chunk.entries (joined runs))

-- inserting into a run inserts into the whole list
pub joined_set : (runs : List Run) (at p : ℕ) (new d : Run) (e : Entry) → at < length runs
    → new.chunk.entries ≡ insert (get_or runs at d).chunk.entries p e
    → p ≤ length (get_or runs at d).chunk.entries → joined (set runs at new)
    ≡ insert (joined runs) (offset runs at + p) e
unfolding offset
joined_set [] at p new d e there made few = absurd (omega arith)
joined_set (run ∷ runs) zero p new d e there made few =
    let same : p ≡ 0 + p = omega arith in
    ap (λ xs. xs ++ joined runs) made
    ∙ sym (insert-append_left run.chunk.entries (joined runs) p e few)
    ∙ ap (λ k. insert (run.chunk.entries ++ joined runs) k e) same
joined_set (run ∷ runs) (suc at) p new d e there made few =
    let long = length run.chunk.entries in
    let short : long + offset runs at + p - long ≡ offset runs at + p = omega arith in
    ap (λ xs. run.chunk.entries ++ xs) (joined_set runs at p new d e (omega arith) made few)
    ∙ ap (λ k. run.chunk.entries ++ insert (joined runs) k e) (sym short)
    ∙ sym (insert-append_right run.chunk.entries (joined runs) long (long + offset runs at + p) e refl (omega arith))

-- no label before a run is greater than its first rank
pub before_first : (before : List Entry) (runs : List Run) (at : ℕ) (d : Run) → AreBetween before runs
    → at < length runs
    → AllByRecursion (UpTo (get_or runs at d).first) before
before_first before [] at d between there = absurd (omega arith)
before_first before (run ∷ runs) zero d between there = between.0
before_first before (run ∷ runs) (suc at) d between there =
    each_left (UpTo (get_or runs at d).first) before run.chunk.entries
    (before_first (before ++ run.chunk.entries) runs at d between.3 (omega arith))

-- and no label of the run is less
pub own_first : (before : List Entry) (runs : List Run) (at : ℕ) (d : Run) → AreBetween before runs → at < length runs
    → AllByRecursion (From (get_or runs at d).first) (get_or runs at d).chunk.entries
own_first before [] at d between there = absurd (omega arith)
own_first before (run ∷ runs) zero d between there =
    each_left (From run.first) run.chunk.entries (joined runs) between.1
own_first before (run ∷ runs) (suc at) d between there =
    own_first (before ++ run.chunk.entries) runs at d between.3 (omega arith)

-- less than something that is at most t is less than t
less_through : (r s t : Stamp) → is_lt (stamp_cmp r s) ≡ true → AtMost s t → is_lt (stamp_cmp r t) ≡ true
less_through r s t less most = elim (below_tested r s less) [
  | inl under ↦ elim (most.is) [
    | inl more ↦ below_to r t (inl (omega arith))
    | inr tie ↦ below_to r t (inl (omega (arith, tie.0)))
  ]
  | inr tie ↦ elim (most.is) [
    | inl more ↦ below_to r t (inl (omega (arith, tie.0)))
    | inr tie_too ↦ below_to r t (inr (tie.0 ∙ tie_too.0, omega (arith, tie.1, tie_too.1)))
  ]
]

over_all : (rank : Stamp) (entry : Entry) (first : Stamp) → is_lt (stamp_cmp rank first) ≡ true
    → AtMost first entry.rank → not_above rank entry ≡ false
over_all rank entry first less most =
    not_from_true (is_lt (stamp_cmp rank entry.rank)) (less_through rank first entry.rank less most)

next_run : (rank : Stamp) (run : Run) (runs : List Run) (at : ℕ) → IsRunOf (run ∷ runs) rank (suc at)
    → IsRunOf runs rank at
next_run rank run runs at is = record {
  there = omega (arith, is.there);
  under = λ d. is.under d;
  over = λ k d low high. is.over (suc k) d (omega arith) (omega arith);
}

behind_over : (before : List Entry) (run : Run) (runs : List Run) (rank : Stamp) → AreBetween before (run ∷ runs)
    → IsRunOf (run ∷ runs) rank zero
    → AllByRecursion (λ later. not_above rank later ≡ false) (joined runs)
behind_over before run [] rank between is = tt
behind_over before run (next ∷ runs) rank between is =
    each_weaker (From next.first) (λ (later : Entry). not_above rank later ≡ false)
    (λ later most. over_all rank later next.first (is.over 1 run (omega arith) (omega arith)) most)
    (next.chunk.entries ++ joined runs) between.3.1

-- the position in the run gives the position in the whole list
pub position_joined : (before : List Entry) (runs : List Run) (at p : ℕ) (d : Run) (rank : Stamp)
    → AreBetween before runs → IsRunOf runs rank at
    → IsPositionOf rank (get_or runs at d).chunk.entries p → IsPositionOf rank (joined runs) (offset runs at + p)
unfolding offset
position_joined before [] at p d rank between of is = absurd (omega (arith, of.there))
position_joined before (run ∷ runs) zero p d rank between of is =
    let same : p ≡ 0 + p = omega arith in
    subst (IsPositionOf rank (run.chunk.entries ++ joined runs)) same
    (position_left rank run.chunk.entries (joined runs) p is (behind_over before run runs rank between of))
position_joined before (run ∷ runs) (suc at) p d rank between of is =
    let later = next_run rank run runs at of in
    let rest = position_joined (before ++ run.chunk.entries) runs at p d rank between.3 later is in
    let under = each_right (UpTo (get_or runs at d).first) before run.chunk.entries
    (before_first (before ++ run.chunk.entries) runs at d between.3 later.there) in
    let same : length run.chunk.entries + (offset runs at + p) ≡ length run.chunk.entries + offset runs at + p =
    omega arith in
    subst (IsPositionOf rank (run.chunk.entries ++ joined runs)) same
    (position_right rank run.chunk.entries (joined runs) (offset runs at + p)
    (each_weaker (UpTo (get_or runs at d).first) (λ (earlier : Entry). not_above rank earlier ≡ true)
    (λ earlier most. under_to rank earlier (at_most_through earlier.rank (get_or runs at d).first rank most
    (later.under d))) run.chunk.entries under)
    rest)

-- one more label before the runs
between_more : (before more : List Entry) (e : Entry) (runs : List Run)
    → ((s : Stamp) → AllByRecursion (UpTo s) before → AtMost e.rank s → AllByRecursion (UpTo s) more)
    → AllByRecursion (StartsFrom e.rank) runs → AreBetween before runs → AreBetween more runs
between_more before more e [] grows under between = tt
between_more before more e (run ∷ runs) grows under between = (
  grows run.first between.0 under.0,
  between.1,
  between.2,
  between_more (before ++ run.chunk.entries) (more ++ run.chunk.entries) e runs
      (λ s each less.
      each_append (UpTo s) more run.chunk.entries
      (grows s (each_left (UpTo s) before run.chunk.entries each) less)
      (each_right (UpTo s) before run.chunk.entries each))
      under.1 between.3,
)

-- and in one of them
pub between_set : (before : List Entry) (runs : List Run) (at p : ℕ) (new d : Run) (e : Entry) → AreBetween before runs
    → IsRunOf runs e.rank at
    → new.first ≡ (get_or runs at d).first → new.chunk.entries ≡ insert (get_or runs at d).chunk.entries p e
    → p ≤ length (get_or runs at d).chunk.entries
    → AreBetween before (set runs at new)
between_set before [] at p new d e between of first made few = absurd (omega (arith, of.there))
between_set before (run ∷ runs) zero p new d e between of first made few = (
  subst (λ s. AllByRecursion (UpTo s) before) (sym first) between.0,
  subst (λ s. AllByRecursion (From s) (new.chunk.entries ++ joined runs)) (sym first)
      (subst (λ xs. AllByRecursion (From run.first) (xs ++ joined runs)) (sym made)
      (each_append (From run.first) (insert run.chunk.entries p e) (joined runs)
      (each_insert (From run.first) run.chunk.entries p e (each_left (From run.first) run.chunk.entries (joined runs)
      between.1) (of.under d))
      (each_right (From run.first) run.chunk.entries (joined runs) between.1))),
  subst (λ s. AllByRecursion (StartsFrom s) runs) (sym first) between.2,
  between_more (before ++ run.chunk.entries) (before ++ new.chunk.entries) e runs
      (λ s each less.
      each_append (UpTo s) before new.chunk.entries
      (each_left (UpTo s) before run.chunk.entries each)
      (subst (AllByRecursion (UpTo s)) (sym made)
      (each_insert (UpTo s) run.chunk.entries p e (each_right (UpTo s) before run.chunk.entries each) less)))
      (each_from (StartsFrom e.rank) runs (λ k d' there. at_most_below e.rank (get_or runs k d').first
      (of.over (suc k) d' (omega arith) (omega arith))))
      between.3,
)
between_set before (run ∷ runs) (suc at) p new d e between of first made few =
    let later = next_run e.rank run runs at of in
    let its = each_at (StartsFrom run.first) runs at d between.2 later.there in (
      between.0,
      each_append (From run.first) run.chunk.entries (joined (set runs at new))
          (each_left (From run.first) run.chunk.entries (joined runs) between.1)
          (subst (AllByRecursion (From run.first)) (sym (joined_set runs at p new d e later.there made few))
          (each_insert (From run.first) (joined runs) (offset runs at + p) e
          (each_right (From run.first) run.chunk.entries (joined runs) between.1)
          (at_most_through run.first (get_or runs at d).first e.rank its (later.under d)))),
      each_set (StartsFrom run.first) runs at new between.2 (subst (AtMost run.first) (sym first) its),
      between_set (before ++ run.chunk.entries) runs at p new d e between.3 later first made few,
    )
