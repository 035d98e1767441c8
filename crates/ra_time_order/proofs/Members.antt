-- Lemmas on the greatest stamps of all replicas, one by one.
use Rattle.std.proofs.Common.{◌≡◌, ℕ, zero, suc, ◌+◌, ◌<◌, ◌≤◌, true, List, [], length, get_or, sym, ap, ◌∙◌, inl, inr, arith, add-one, Option}
use Rattle.std.specs.Prelude.{All, set, nat_lt, replicate, take}
use Rattle.std.proofs.Math.Nat.{min-le_left, min-le_right}
use Rattle.std.proofs.Math.Seq.{map-set_same, take-nil}
use Rattle.std.proofs.lemmas.Bool.{cases_eq, cases_lt, lt-ltb, ltb-true}
use Rattle.std.proofs.lemmas.List.{get_or-take, length-map, length-take, length-set, length-replicate, map-set, get_or-map, get_or-replicate, get_or-set_same, get_or-set_other, get_or_past}
use Rattle.std.proofs.lemmas.List.Elements.{All-get_or}
use Rattle.std.proofs.lemmas.List.Sums.{list_all-from_AllPass, AllPass-from_list_all}
use Rattle.ra_labels.specs.declared.label.Stamp.{Stamp}
use Rattle.ra_labels.specs.NamedOrder.{greater_of}
use Rattle.ra_time_order.specs.RunningMaximum.{RunningMaximum, last_of, greatest_among, with_stamp}
use Rattle.ra_time_order.specs.Stamps.{stamps_at, greatest_in}
use Rattle.ra_time_order.specs.RunningMaxima.{stamps_of, have_room, RunningMaximaKept}
use Rattle.ra_time_order.proofs.Ranks.{greater_lowest}

stamps_there : (members : List RunningMaximum) (q : ℕ) (had : RunningMaximum) → q < length members → had ≡ get_or members q had
    → stamps_at (stamps_of members) q ≡ had.stamps
stamps_there members q had there is =
    get_or-map (λ (m : RunningMaximum). m.stamps) members q had [] there ∙ ap (λ (m : RunningMaximum). m.stamps) (sym is)

pub stamps_pushed : (members : List RunningMaximum) (q : ℕ) (new had : RunningMaximum) (own : Option Stamp) → q < length members
    → had ≡ get_or members q had
    → new.stamps ≡ with_stamp had.stamps own
    → stamps_of (set members q new) ≡ set (stamps_of members) q (with_stamp (stamps_at (stamps_of members) q) own)
stamps_pushed members q new had own there is made =
    map-set (λ (m : RunningMaximum). m.stamps) members q new
    ∙ ap (set (stamps_of members) q) (made ∙ ap (λ row. with_stamp row own) (sym (stamps_there members q had there is)))

-- one more of the first replicas
pub greatest_more : (members : List RunningMaximum) (n : ℕ) (stamps : List (List Stamp)) (count : ℕ → ℕ) (q : ℕ)
    (g new : Stamp) (had : RunningMaximum)
    → stamps_of members ≡ stamps → q < length (take n members) → had ≡ get_or (take n members) q had
    → g ≡ greatest_in stamps count q
    → new ≡ greater_of g (greatest_among had.stamps (count q)) → new ≡ greatest_in stamps count (q + 1)
greatest_more members n stamps count q g new had same first is so_far made =
    let there : q < length members = omega (arith, first, length-take n members, min-le_right n (length members)) in
    let among : q < n = omega (arith, first, length-take n members, min-le_left n (length members)) in
    let row : stamps_at stamps q ≡ had.stamps =
    ap (λ ss. stamps_at ss q) (sym same) ∙ stamps_there members q had there (is ∙ get_or-take n members q had among) in
    made
    ∙ ap (λ s. greater_of s (greatest_among had.stamps (count q))) so_far
    ∙ ap (λ r. greater_of (greatest_in stamps count q) (greatest_among r (count q))) (sym row)
    ∙ ap (greatest_in stamps count) (sym (add-one q))

-- replicas without stamps contribute nothing
pub greatest_without : (stamps : List (List Stamp)) (count : ℕ → ℕ) (used q : ℕ)
    → ((k : ℕ) → used ≤ k → stamps_at stamps k ≡ []) → used ≤ q
    → greatest_in stamps count used ≡ greatest_in stamps count q
greatest_without stamps count used zero none over = let is : used ≡ 0 = omega arith in ap (greatest_in stamps count) is
greatest_without stamps count used (suc q) none over = elim (cases_lt q used) [
  | inl last ↦ let is : used ≡ suc q = omega arith in ap (greatest_in stamps count) is
  | inr further ↦
      let before = greatest_in stamps count q in
      greatest_without stamps count used q none (omega arith)
      ∙ sym (ap (λ row. greater_of before (greatest_among row (count q))) (none q (omega arith))
      ∙ ap (λ row. greater_of before (last_of row)) (take-nil (count q))
      ∙ greater_lowest before)
]

pub stamps_spared : (members : List RunningMaximum) (q : ℕ) (new had : RunningMaximum) → had ≡ get_or members q had
    → new.stamps ≡ had.stamps
    → stamps_of (set members q new) ≡ stamps_of members
stamps_spared members q new had is same =
    map-set_same (λ (m : RunningMaximum). m.stamps) members q new had (same ∙ ap (λ (m : RunningMaximum). m.stamps) is)

no_stamps : (n k : ℕ) → stamps_at (replicate n []) k ≡ []
no_stamps n k = elim (cases_lt k n) [
  | inl there ↦ get_or-replicate n k [] [] there
  | inr past ↦ get_or_past (replicate n []) k [] (omega (arith, past, length-replicate {A = List Stamp} n []))
]

pub kept_at_first : (members : List RunningMaximum) (n : ℕ) → stamps_of members ≡ replicate n [] → 0 < n → n < 256
    → All (λ (m : RunningMaximum). 0 < m.room) members → RunningMaximaKept members 0 0
kept_at_first members n are some few room =
    let long : length members ≡ n =
    sym (length-map members (λ (m : RunningMaximum). m.stamps)) ∙ ap (λ (ss : List (List Stamp)). length ss) are
    ∙ length-replicate n [] in
    record {
      few = omega (arith, few, long);
      there = omega (arith, some, long);
      room = λ k d below other. All-get_or (λ (m : RunningMaximum). 0 < m.room) members k d below room;
      within = omega arith;
      unused = λ k over. ap (λ ss. stamps_at ss k) are ∙ no_stamps n k;
    }

module _ (members : List RunningMaximum) (newest used : ℕ) (kept : RunningMaximaKept members newest used) (new : RunningMaximum) where
  pub kept_spared : (had : RunningMaximum) → had ≡ get_or members newest had → new.stamps ≡ had.stamps
      → RunningMaximaKept (set members newest new) newest used
  kept_spared had is same =
      let long = length-set members newest new in
      record {
        few = omega (arith, kept.few, long);
        there = omega (arith, kept.there, long);
        room = λ k d below other.
            let one : get_or (set members newest new) k d ≡ get_or members k d =
            get_or-set_other members newest k new d other in
            omega (arith, ap (λ (m : RunningMaximum). m.room) one, kept.room k d (omega (arith, below, long)) other);
        within = omega (arith, kept.within, long);
        unused =
            λ k over. ap (λ ss. stamps_at ss k) (stamps_spared members newest new had is same) ∙ kept.unused k over;
      }

  -- if there is room for the newest replica, there is room for each
  pub room_for_all : 0 < new.room → have_room (set members newest new) ≡ true
  room_for_all some =
      list_all-from_AllPass (λ (m : RunningMaximum). nat_lt 0 m.room) (set members newest new) (λ k d below.
      let there : k < length members = omega (arith, below, length-set members newest new) in
      lt-ltb 0 (get_or (set members newest new) k d).room (elim (cases_eq k newest) [
        | inl here ↦
            let one : get_or (set members newest new) k d ≡ new =
            ap (λ i. get_or (set members newest new) i d) here ∙ get_or-set_same members newest new d kept.there in
            omega (arith, ap (λ (m : RunningMaximum). m.room) one, some)
        | inr other ↦
            let one : get_or (set members newest new) k d ≡ get_or members k d =
            get_or-set_other members newest k new d other in
            omega (arith, ap (λ (m : RunningMaximum). m.room) one, kept.room k d there other)
      ]))

  pub kept_pushed : (q now : ℕ) → q < length members → have_room members ≡ true → used ≤ now → q < now
      → now ≤ length members
      → RunningMaximaKept (set members q new) q now
  kept_pushed q now there all no_less further within =
      let long = length-set members q new in
      record {
        few = omega (arith, kept.few, long);
        there = omega (arith, there, long);
        room = λ k d below other.
            let one : get_or (set members q new) k d ≡ get_or members k d = get_or-set_other members q k new d other in
            let old : k < length members = omega (arith, below, long) in
            let some = ltb-true 0 (get_or members k d).room (AllPass-from_list_all (λ (m : RunningMaximum). nat_lt 0 m.room)
            members all k d old) in
            omega (arith, ap (λ (m : RunningMaximum). m.room) one, some);
        within = omega (arith, long, within);
        unused = λ k over.
            let other : k ≡ q → ⊥ = λ e. omega (arith, e, over, further) in
            ap (λ ss. stamps_at ss k) (map-set (λ (m : RunningMaximum). m.stamps) members q new)
            ∙ get_or-set_other (stamps_of members) q k new.stamps [] other
            ∙ kept.unused k (omega (arith, over, no_less));
      }
