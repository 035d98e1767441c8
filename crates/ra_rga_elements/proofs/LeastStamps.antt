-- Lemmas on the least stamp of some elements.
use Rattle.std.proofs.Common.{◌≡◌, ℕ, ◌+◌, ◌<◌, ◌≤◌, false, List, ◌∷◌, length, take, drop, get_or, sym, subst, inl, inr}
use Rattle.std.specs.List.{insert}
use Rattle.std.specs.Ordering.{is_lt}
use Rattle.std.specs.Cmp.{IsStrictWeakOrder}
use Rattle.std.proofs.lemmas.Bool.{cases_Bool, cond-true, cond-false}
use Rattle.std.proofs.lemmas.List.MinMax.{ranks_by}
use Rattle.std.proofs.lemmas.List.{take_all}
use Rattle.std.proofs.lemmas.List.Elements.{All-cons, All-append, All-take, All-drop, All-more, All-weaker, All-same}
use Rattle.ra_labels.specs.declared.label.Stamp.{Stamp}
use Rattle.ra_labels.specs.NamedOrder.{stamp_cmp}
use Rattle.ra_labels.proofs.StampOrder.{stamp_cmp-total}
use Rattle.ra_rga_elements.specs.declared.entry.Entry.{Entry}
use Rattle.ra_rga_elements.specs.Entries.{lesser_of, AllAtLeast}

stamps_ranked : IsStrictWeakOrder (λ (s t : Stamp). is_lt (stamp_cmp s t))
stamps_ranked = ranks_by stamp_cmp-total (λ (s : Stamp). s)

-- the lesser of two stamps is not greater than either
pub lesser_first : (s t : Stamp) → is_lt (stamp_cmp s (lesser_of s t)) ≡ false
lesser_first s t = elim (cases_Bool (is_lt (stamp_cmp s t))) [
  | inl less ↦ subst (λ u. is_lt (stamp_cmp s u) ≡ false) (sym (cond-true (is_lt (stamp_cmp s t)) s t less))
      (elim (cases_Bool (is_lt (stamp_cmp s s))) [
        | inl itself ↦ stamps_ranked.one_way s s itself
        | inr not_itself ↦ not_itself
      ])
  | inr not_less ↦ subst (λ u. is_lt (stamp_cmp s u) ≡ false)
      (sym (cond-false (is_lt (stamp_cmp s t)) s t not_less)) not_less
]

lesser_other : (e s t : Stamp) → is_lt (stamp_cmp e t) ≡ false → is_lt (stamp_cmp e (lesser_of s t)) ≡ false
lesser_other e s t over = elim (cases_Bool (is_lt (stamp_cmp s t))) [
  | inl less ↦ subst (λ u. is_lt (stamp_cmp e u) ≡ false) (sym (cond-true (is_lt (stamp_cmp s t)) s t less))
      (stamps_ranked.chain e t s over (stamps_ranked.one_way s t less))
  | inr not_less ↦ subst (λ u. is_lt (stamp_cmp e u) ≡ false)
      (sym (cond-false (is_lt (stamp_cmp s t)) s t not_less)) over
]

pub lesser_all : (s least : Stamp) (xs : List Entry) → AllAtLeast least xs → AllAtLeast (lesser_of s least) xs
lesser_all s least xs all =
    All-weaker (λ (e : Entry). is_lt (stamp_cmp e.stamp least) ≡ false)
    (λ (e : Entry). is_lt (stamp_cmp e.stamp (lesser_of s least)) ≡ false)
    (λ e over. lesser_other e.stamp s least over) xs all

-- with one more element
pub least_more : (xs : List Entry) (i : ℕ) (d : Entry) (least new : Stamp) → i < length xs
    → AllAtLeast least (take i xs)
    → new ≡ lesser_of (get_or xs i d).stamp least → AllAtLeast new (take (i + 1) xs)
least_more xs i d least new there all made =
    let e = get_or xs i d in
    subst (λ s. AllAtLeast s (take (i + 1) xs)) (sym made)
    (All-more (λ (x : Entry). is_lt (stamp_cmp x.stamp (lesser_of e.stamp least)) ≡ false) xs i d there
    (lesser_all e.stamp least (take i xs) all) (lesser_first e.stamp least))

pub least_insert : (xs ys : List Entry) (i : ℕ) (e : Entry) (least new : Stamp) → AllAtLeast least xs
    → ys ≡ insert xs i e
    → new ≡ lesser_of e.stamp least → AllAtLeast new ys
least_insert xs ys i e least new all inserted made =
    let over = lesser_all e.stamp least xs all in
    let at : Entry → Type 0 = λ (x : Entry). is_lt (stamp_cmp x.stamp (lesser_of e.stamp least)) ≡ false in
    subst (λ s. AllAtLeast s ys) (sym made)
    (All-same at ys (insert xs i e) inserted
    (All-append at (take i xs) (e ∷ drop i xs) (All-take at i xs over)
    (All-cons at e (drop i xs) (lesser_first e.stamp least) (All-drop at i xs over))))

pub least_of_all : (xs : List Entry) (i : ℕ) (least : Stamp) → length xs ≤ i → AllAtLeast least (take i xs)
    → AllAtLeast least xs
least_of_all xs i least past all = subst (λ ys. AllAtLeast least ys) (take_all i xs past) all
