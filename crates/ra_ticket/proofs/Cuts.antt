-- Lemmas on cutting an idle seat in two, and on the initial state: both satisfy the rule of the lock.
use Rattle.std.proofs.Common.{◌≡◌, ◌≢◌, ◌⊎◌, ℕ, zero, suc, ◌+◌, ◌^◌, ◌<◌, ◌≤◌, List, [], ◌∷◌, ◌++◌, length, set, Option}
use Rattle.std.proofs.Common.{Some, None, refl, sym, ap, ◌∙◌, subst, ⊎_elim, inl, inr, le_refl, arith, length-set}
use mathlib.Core.Option.{some, some-ne-none, some-injective}
use lib.ListN.{get_elem?}
use Rattle.atomic_table.specs.Table.{State, opening, Splits}
use Rattle.atomic_table.proofs.Lists.{at_set, at_longer, set_else}
use Rattle.std.specs.List.{range_with_len}
use Rattle.ra_journal.specs.declared.entry.Entry.{Entry}
use Rattle.ra_ticket.specs.declared.board.View.{View}
use Rattle.ra_ticket.specs.declared.board.View.TheVariants.{Knows}
use Rattle.ra_ticket.specs.declared.board.Known.{Known}
use Rattle.ra_ticket.specs.declared.board.Stage.TheVariants.{Idle}
use Rattle.ra_journal.specs.Log.{Readings, AllBelow}
use Rattle.ra_ticket.specs.Mark.{IsMarkOf}
use Rattle.ra_ticket.specs.Views.{stage_of, numbers_of, next_of, serving_of, ticket_at, ticket_of, held_at, held_of}
use Rattle.ra_ticket.specs.Views.{HasBegun, HasOwn, SeesOwn, IsSetUp, starting, first_only, others_only}
use Rattle.ra_ticket.specs.Views.{first_pass, other_passes}
use Rattle.ra_ticket.specs.Rule.{At, SitsAt, TurnsKept}
use Rattle.ra_ticket.specs.Steps.{IsPart}
use Rattle.ra_ticket.proofs.Changes as changes
use Rattle.ra_ticket.proofs.Seats.{inside, elsewhere}
use Rattle.ra_ticket.proofs.Logs.{begins_same}
use Rattle.std.proofs.lemmas.List.Elements.{All-nil}

-- an element of a list with one more element at its end
at_end : {A : Type 0} (l : List A) (a b : A) (j : ℕ) → get_elem? (l ++ a ∷ []) j ≡ some b
    → ((j < length l) × (get_elem? l j ≡ some b)) ⊎ ((j ≡ length l) × (a ≡ b))
at_end [] a b zero e = inr (refl, some-injective a b e)
at_end [] a b (suc j) e = absurd (some-ne-none b (sym e))
at_end (x ∷ xs) a b zero e = inl (omega arith, e)
at_end (x ∷ xs) a b (suc j) e =
    ⊎_elim (λ (t : (j < length xs) × (get_elem? xs j ≡ some b)). let l = t.0 in inl (omega arith, t.1))
    (λ (t : (j ≡ length xs) × (a ≡ b)). inr (ap suc t.0, t.1)) (at_end xs a b j e)

-- element j of consecutive numbers from k on
number_at : (k n j x : ℕ) → get_elem? (range_with_len k n) j ≡ some x → x ≡ k + j
number_at k zero j x e = absurd (some-ne-none x (sym e))
number_at k (suc n) zero x e = let s = some-injective k x e in omega arith
number_at k (suc n) (suc j) x e = let s = number_at (k + 1) n j x e in omega arith

at_others_only : (l : List ℕ) (j x : ℕ) → get_elem? (others_only l) j ≡ some x → get_elem? l (suc j) ≡ some x
at_others_only [] j x e = absurd (some-ne-none x (sym e))
at_others_only (y ∷ ys) j x e = e

at_first_only : (l : List ℕ) (j x : ℕ) → get_elem? (first_only l) j ≡ some x → (j ≡ 0) × (get_elem? l 0 ≡ some x)
at_first_only [] j x e = absurd (some-ne-none x (sym e))
at_first_only (y ∷ ys) zero x e = (refl, e)
at_first_only (y ∷ ys) (suc j) x e = absurd (some-ne-none x (sym e))

-- the only seat of the initial table
only : {C R S : Type 0} (v u : View C R S) (seat : ℕ) → get_elem? (v ∷ []) seat ≡ some u → (seat ≡ 0) × (v ≡ u)
only v u zero e = (refl, some-injective v u e)
only v u (suc seat) e = absurd (some-ne-none u (sym e))

module _ {M C R S : Type 0} (j : Readings M C R S) (opened : S) where
  abbrev Rule : State (Option M) (View C R S) → Type 0
  Rule = TurnsKept j opened

  pub starts : (passes first mark : ℕ) (journal : M) → first < 2 ^ 64 → j.setup journal ≡ opened → j.log journal ≡ []
      → IsMarkOf j (j.setup journal) (j.log journal) mark
      → Rule (opening (first ∷ first ∷ mark ∷ []) (Some journal ∷ []) (starting passes first opened))
  starts passes first mark journal fits so empty is_mark = let v : View C R S = starting passes first opened in record {
    next = first;
    serving = first;
    mark = mark;
    others = [];
    words = refl;
    order = le_refl first;
    fits = fits;
    reached = λ seat u e. subst (λ (x : View C R S). (next_of x ≤ first) × (serving_of x ≤ first)) (only v u seat e).1
        (le_refl first, le_refl first);
    drawn = λ seat t a. let none_drawn : None ≡ Some t = ap ticket_of (only v a.0 seat a.1).1 ∙ a.2 in absurd (cc);
    tickets_apart = λ a b t p q. (only v p.0 a p.1).0 ∙ sym (only v q.0 b q.1).0;
    out = λ seat t a. let none_held : None ≡ Some t = ap held_of (only v a.0 seat a.1).1 ∙ a.2 in absurd (cc);
    home = λ _. (journal, refl);
    front = [];
    held = λ seat t u at e. let none_held : None ≡ Some t = ap held_of (only v u seat at).1 ∙ e in absurd (cc);
    rests = λ other at. let is : journal ≡ other = cc in
        subst (λ (m : M). (j.log m ≡ []) × AllBelow {C = C} {R = R} first []) is
        (empty, All-nil (λ (e : Entry C R). e.ticket < first));
    served = All-nil (λ (e : Entry C R). e.ticket < first + 1);
    legal = tt;
    marked = subst (λ (l : List (Entry C R)). IsMarkOf j opened l mark) empty
        (subst (λ (x : S). IsMarkOf j x (j.log journal) mark) so is_mark);
    begun = λ seat u e. subst (λ (x : View C R S). HasBegun x []) (only v u seat e).1
        (begins_same {C = C} {R = R} [] [] refl);
    own = λ seat u e. subst (λ (x : View C R S). HasOwn x []) (only v u seat e).1 (λ k n at. refl);
    set_up = λ seat u e. subst (IsSetUp opened) (only v u seat e).1 refl;
    home_set_up = λ other at. let is : journal ≡ other = cc in subst (λ (m : M). j.setup m ≡ opened) is so;
    passes_apart = λ a b j k number p q. (
      (only v p.0 a p.1).0 ∙ sym (only v q.0 b q.1).0,
      let x : number ≡ 0 + j = number_at 0 passes j number
          (ap (λ (u : View C R S). get_elem? (numbers_of u) j) (only v p.0 a p.1).1 ∙ p.2) in
          let y : number ≡ 0 + k = number_at 0 passes k number
          (ap (λ (u : View C R S). get_elem? (numbers_of u) k) (only v q.0 b q.1).1 ∙ q.2) in omega arith,
    );
  }

  module _ (s : State (Option M) (View C R S)) (r : Rule s) (id : ℕ) (k : Known C R S)
      (here : get_elem? s.views id ≡ some (Knows k)) (idle : k.stage ≡ Idle) where
    abbrev left : View C R S
    left = Knows (record k { numbers = others_only k.numbers })

    abbrev right : View C R S
    right = Knows (record k { numbers = first_only k.numbers })

    abbrev cut : List (View C R S)
    cut = set s.views id left ++ right ∷ []

    abbrev IsCut : ℕ → View C R S → Type 0
    IsCut seat u = (((seat ≡ id) × (left ≡ u)) ⊎ ((seat ≢ id) × (get_elem? s.views seat ≡ some u)))
        ⊎ ((seat ≡ length s.views) × (right ≡ u))

    -- the view of a seat after the cut
    cut_at : (seat : ℕ) (u : View C R S) → get_elem? cut seat ≡ some u → IsCut seat u
    cut_at seat u e = ⊎_elim
        (λ (t : (seat < length (set s.views id left)) × (get_elem? (set s.views id left) seat ≡ some u)).
        inl (at_set s.views id seat left u t.1))
        (λ (t : (seat ≡ length (set s.views id left)) × (right ≡ u)). inr (t.0 ∙ length-set s.views id left, t.1))
        (at_end (set s.views id left) right u seat e)

    -- both parts fit
    fits : (numbers : List ℕ) → SeesOwn (record k { numbers = numbers }) r.front
        → changes.Fits j opened s r (Knows (record k { numbers = numbers }))
    fits numbers own = record {
      reached = r.reached id (Knows k) here;
      no_ticket = ap ticket_at idle;
      set_up = r.set_up id (Knows k) here;
      begun = r.begun id (Knows k) here;
      own = own;
    }

    fitting : (seat : ℕ) (u : View C R S) → IsCut seat u
        → (get_elem? s.views seat ≡ some u) ⊎ changes.Fits j opened s r u
    fitting seat u (inl (inl x)) = inr (subst (changes.Fits j opened s r) x.1 (fits (others_only k.numbers)
        (λ i n at. r.own id (Knows k) here (suc i) n (at_others_only k.numbers i n at))))
    fitting seat u (inl (inr x)) = inl x.1
    fitting seat u (inr x) = inr (subst (changes.Fits j opened s r) x.1 (fits (first_only k.numbers)
        (λ i n at. r.own id (Knows k) here 0 n (at_first_only k.numbers i n at).1)))

    -- a seat that held the lock still does
    forth : (seat t : ℕ) → At held_of s.views seat t → At held_of cut seat t
    forth seat t a = (
      a.0,
      at_longer (set s.views id left) (right ∷ []) seat a.0 (set_else s.views id seat left
          (elsewhere held_of s.views seat id t (Knows k) here (ap held_at idle) a) ∙ a.1),
      a.2,
    )

    -- the seat of a pass before the cut
    abbrev Was : ℕ → ℕ → ℕ → ℕ → Type 0
    Was seat j seat' j' = ((seat ≡ id) × (seat' ≡ id) × (j' ≡ suc j))
        ⊎ (((seat ≢ id) × (seat < length s.views) × (seat' ≡ seat) × (j' ≡ j))
        ⊎ ((seat ≡ length s.views) × (seat' ≡ id) × (j' ≡ 0) × (j ≡ 0)))

    was : (seat j number : ℕ) (a : SitsAt cut seat j number) → IsCut seat a.0
        → (seat' j' : ℕ) × SitsAt s.views seat' j' number × Was seat j seat' j'
    was seat j number a (inl (inl x)) = (
      id,
      suc j,
      (
        Knows k,
        here,
        at_others_only k.numbers j number (ap (λ (u : View C R S). get_elem? (numbers_of u) j) x.1 ∙ a.2),
      ),
      inl (x.0, refl, refl),
    )
    was seat j number a (inl (inr x)) =
        (seat, j, (a.0, x.1, a.2), inr (inl (x.0, inside s.views seat a.0 x.1, refl, refl)))
    was seat j number a (inr x) = let f =
        at_first_only k.numbers j number (ap (λ (u : View C R S). get_elem? (numbers_of u) j) x.1 ∙ a.2) in
        (id, 0, (Knows k, here, f.1), inr (inr (x.0, refl, refl, f.0)))

    -- two positions after the cut are equal if the positions before it are
    kept_apart : (a b i j a' b' i' j' : ℕ) → id < length s.views → (a' ≡ b') × (i' ≡ j') → Was a i a' i' → Was b j b' j'
        → (a ≡ b) × (i ≡ j)
    kept_apart a b i j a' b' i' j' within same p q = (omega arith, omega arith)

    pub splits_here : Rule record { words = s.words; homes = s.homes; views = cut }
    splits_here = changes.reseated j opened s r cut (λ seat u e. fitting seat u (cut_at seat u e)) forth
        (λ a b i j number p q. let x = was a i number p (cut_at a p.0 p.1) in
        let y = was b j number q (cut_at b q.0 q.1) in
        kept_apart a b i j x.0 y.0 x.1 y.1 (inside s.views id (Knows k) here)
        (r.passes_apart x.0 y.0 x.1 y.1 number x.2 y.2) x.3 y.3)

  -- an idle seat is cut in two
  pub splits : (id : ℕ) (v : View C R S) → stage_of v ≡ Some Idle → Splits Rule id v (other_passes v) (first_pass v)
  splits id (Knows k) idle s r at = let is : k.stage ≡ Idle = cc in splits_here s r id k at is
  splits id _ idle s r at = absurd (cc)

-- the parts of an idle seat
module _ {C R S : Type 0} where
  pub first_part : (v : View C R S) → stage_of v ≡ Some Idle → IsPart v (first_pass v) (first_only (numbers_of v))
  first_part (Knows k) idle =
      record { its = refl; stage = refl; next = refl; serving = refl; setup = refl; seen = refl }
  first_part _ idle = absurd (cc)

  pub others_part : (v : View C R S) → stage_of v ≡ Some Idle → IsPart v (other_passes v) (others_only (numbers_of v))
  others_part (Knows k) idle =
      record { its = refl; stage = refl; next = refl; serving = refl; setup = refl; seen = refl }
  others_part _ idle = absurd (cc)
