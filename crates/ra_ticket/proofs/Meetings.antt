-- Lemmas on joining an idle seat to another one, which then reads the mark: both steps preserve the rule of the lock.
use Rattle.std.proofs.Common.{◌≡◌, ◌≢◌, ◌⊎◌, ℕ, zero, suc, ◌+◌, ◌<◌, ◌≤◌, List, [], ◌∷◌, ◌++◌, length, set, max}
use Rattle.std.proofs.Common.{Option, Some, refl, sym, ap, ◌∙◌, subst, ⊎_elim, inl, inr, le_refl, arith}
use mathlib.Core.Option.{some, some-ne-none}
use lib.ListN.{get_elem?}
use Rattle.atomic_table.specs.Table.{State, Step, keeps, Allows, Joins}
use Rattle.atomic_table.proofs.Lists.{at_set, set_else}
use Rattle.ra_ticket.specs.declared.board.View.{View}
use Rattle.ra_ticket.specs.declared.board.View.TheVariants.{Spent, Knows, Met}
use Rattle.ra_ticket.specs.declared.board.Known.{Known}
use Rattle.ra_ticket.specs.declared.board.Stage.TheVariants.{Idle}
use Rattle.ra_journal.specs.Log.{Readings}
use Rattle.ra_ticket.specs.Views.{stage_of, numbers_of, held_at, held_of, IsMet, met}
use Rattle.ra_ticket.specs.Rule.{At, SitsAt, TurnsKept}
use Rattle.ra_ticket.specs.Steps.{looked_together}
use Rattle.ra_ticket.proofs.Logs.{begins_same}
use Rattle.ra_ticket.proofs.Steps.{spelled}
use Rattle.ra_ticket.proofs.Seats.{elsewhere}
use Rattle.ra_ticket.proofs.Changes as changes

-- an element of two concatenated lists
at_either : (l m : List ℕ) (i n : ℕ) → get_elem? (l ++ m) i ≡ some n
    → ((i < length l) × (get_elem? l i ≡ some n)) ⊎ ((j : ℕ) × (i ≡ length l + j) × (get_elem? m j ≡ some n))
at_either [] m i n e = inr (i, omega arith, e)
at_either (x ∷ xs) m zero n e = inl (omega arith, e)
at_either (x ∷ xs) m (suc i) n e =
    ⊎_elim (λ (t : (i < length xs) × (get_elem? xs i ≡ some n)). let l = t.0 in inl (omega arith, t.1))
    (λ (t : (j : ℕ) × (i ≡ length xs + j) × (get_elem? m j ≡ some n)). let is = t.1 in inr (t.0, omega arith, t.2))
    (at_either xs m i n e)

module _ {M C R S : Type 0} (j : Readings M C R S) (opened : S) where
  abbrev Rule : State (Option M) (View C R S) → Type 0
  Rule = TurnsKept j opened

  module _ (s : State (Option M) (View C R S)) (r : Rule s) (id other : ℕ) (k l : Known C R S) (apart : other ≢ id)
      (here : get_elem? s.views id ≡ some (Knows k)) (there : get_elem? s.views other ≡ some (Knows l))
      (idle : k.stage ≡ Idle) (idle_too : l.stage ≡ Idle) where
    abbrev joined : List (View C R S)
    joined = set (set s.views id (Met k l)) other Spent

    abbrev IsElse : ℕ → View C R S → Type 0
    IsElse seat u = (seat ≢ id) × (seat ≢ other) × (get_elem? s.views seat ≡ some u)

    abbrev IsJoined : ℕ → View C R S → Type 0
    IsJoined seat u = ((seat ≡ other) × (Spent ≡ u)) ⊎ (((seat ≡ id) × (Met k l ≡ u)) ⊎ IsElse seat u)

    -- the view of a seat after joining
    joined_at : (seat : ℕ) (u : View C R S) → get_elem? joined seat ≡ some u → IsJoined seat u
    joined_at seat u e = ⊎_elim (λ (t : (seat ≡ other) × (Spent ≡ u)). inl t)
        (λ (t : (seat ≢ other) × (get_elem? (set s.views id (Met k l)) seat ≡ some u)). inr
        (⊎_elim (λ (x : (seat ≡ id) × (Met k l ≡ u)). inl x)
        (λ (x : (seat ≢ id) × (get_elem? s.views seat ≡ some u)). inr (x.0, t.0, x.1))
        (at_set s.views id seat (Met k l) u t.1)))
        (at_set (set s.views id (Met k l)) other seat Spent u e)

    joined_fits : changes.Fits j opened s r (Met k l)
    joined_fits = let low = r.reached id (Knows k) here in let low_too = r.reached other (Knows l) there in
        let a : k.next ≤ r.next = low.0 in let b : l.next ≤ r.next = low_too.0 in
        let c : k.serving ≤ r.serving = low.1 in let d : l.serving ≤ r.serving = low_too.1 in record {
          reached = (omega arith, omega arith);
          no_ticket = refl;
          set_up = (r.set_up id (Knows k) here, r.set_up other (Knows l) there);
          begun = (r.begun id (Knows k) here, r.begun other (Knows l) there);
          own = (r.own id (Knows k) here, r.own other (Knows l) there);
        }

    fitting : (seat : ℕ) (u : View C R S) → IsJoined seat u
        → (get_elem? s.views seat ≡ some u) ⊎ changes.Fits j opened s r u
    fitting seat u (inl x) = inr (subst (changes.Fits j opened s r) x.1
        record { reached = (omega arith, omega arith); no_ticket = refl; set_up = tt; begun = tt; own = tt })
    fitting seat u (inr (inl x)) = inr (subst (changes.Fits j opened s r) x.1 joined_fits)
    fitting seat u (inr (inr x)) = inl x.2

    -- a seat that held the lock still does
    forth : (seat t : ℕ) → At held_of s.views seat t → At held_of joined seat t
    forth seat t a = (
      a.0,
      set_else (set s.views id (Met k l)) other seat Spent
          (elsewhere held_of s.views seat other t (Knows l) there (ap held_at idle_too) a)
          ∙ (set_else s.views id seat (Met k l) (elsewhere held_of s.views seat id t (Knows k) here (ap held_at idle) a)
          ∙ a.1),
      a.2,
    )

    -- the seat of a pass before joining
    abbrev Was : ℕ → ℕ → ℕ → ℕ → Type 0
    Was seat i seat' i' = ((seat ≡ id) × (seat' ≡ id) × (i' ≡ i) × (i < length k.numbers))
        ⊎ (((seat ≡ id) × (seat' ≡ other) × (i ≡ length k.numbers + i'))
        ⊎ ((seat ≢ id) × (seat ≢ other) × (seat' ≡ seat) × (i' ≡ i)))

    was : (seat i number : ℕ) (a : SitsAt joined seat i number) → IsJoined seat a.0
        → (seat' i' : ℕ) × SitsAt s.views seat' i' number × Was seat i seat' i'
    was seat i number a (inl x) = absurd
        (some-ne-none number (sym (ap (λ (u : View C R S). get_elem? (numbers_of u) i) x.1 ∙ a.2)))
    was seat i number a (inr (inl x)) = ⊎_elim
        (λ (t : (i < length k.numbers) × (get_elem? k.numbers i ≡ some number)).
        (id, i, (Knows k, here, t.1), inl (x.0, refl, refl, t.0)))
        (λ (t : (m : ℕ) × (i ≡ length k.numbers + m) × (get_elem? l.numbers m ≡ some number)).
        (other, t.0, (Knows l, there, t.2), inr (inl (x.0, refl, t.1))))
        (at_either k.numbers l.numbers i number (ap (λ (u : View C R S). get_elem? (numbers_of u) i) x.1 ∙ a.2))
    was seat i number a (inr (inr x)) = (seat, i, (a.0, x.2, a.2), inr (inr (x.0, x.1, refl, refl)))

    kept_apart : (a b i m a' b' i' m' : ℕ) → (a' ≡ b') × (i' ≡ m') → Was a i a' i' → Was b m b' m' → (a ≡ b) × (i ≡ m)
    kept_apart a b i m a' b' i' m' same p q = let ne = apart in (omega arith, omega arith)

    pub joins_here : Rule record { words = s.words; homes = s.homes; views = joined }
    joins_here = changes.reseated j opened s r joined (λ seat u e. fitting seat u (joined_at seat u e)) forth
        (λ a b i m number p q. let x = was a i number p (joined_at a p.0 p.1) in
        let y = was b m number q (joined_at b q.0 q.1) in
        kept_apart a b i m x.0 y.0 x.1 y.1 (r.passes_apart x.0 y.0 x.1 y.1 number x.2 y.2) x.3 y.3)

  -- an idle seat is joined to another one
  pub joins : (id : ℕ) (v : View C R S) (other : ℕ) (w : View C R S) → stage_of v ≡ Some Idle → stage_of w ≡ Some Idle
      → Joins Rule id v other w (met v w) Spent
  joins id (Knows k) other (Knows l) idle idle_too s r here apart there = let is : k.stage ≡ Idle = cc in
      let is_too : l.stage ≡ Idle = cc in
      joins_here s r id other k l apart here (sym (set_else s.views id other (Met k l) apart) ∙ there) is is_too
  joins id _ other _ idle idle_too s r here apart there = absurd (cc)

  -- a seat to which another was joined reads `mark`, and has then seen the front
  pub looks_together : (slots id : ℕ) (v : View C R S) (c : List (ℕ × Option M)) (st : Step (Option M)) → IsMet v
      → Allows Rule slots id (v, c) 2 (λ n. n) (looked_together j st (v, c))
  looks_together slots id (Met k l) c st is s r deep here fits =
      spelled j opened s r id c 2 (λ n. n) (looked_together j st (Met k l, c)) (
        Knows together,
        keeps,
        tt,
        changes.seeing j opened s r id (Met k l) (Knows together) here r.next r.fits (le_refl r.next)
            (r.reached id (Met k l) here) refl refl refl (begins_same r.front r.front refl) (λ a n sits. refl)
            (λ t e. absurd (cc)) (λ t e. absurd (cc)) (λ seat t e _ _. cc),
        λ _. (
          refl,
          refl,
          refl,
          ((opened, refl, r.set_up id (Met k l) here), r.begun id (Met k l) here, r.own id (Met k l) here),
          (r.legal, r.marked),
          refl,
          refl,
        ),
      )
    where
      together : Known C R S
      together = record {
        numbers = k.numbers ++ l.numbers;
        next = max k.next l.next;
        serving = max k.serving l.serving;
        stage = Idle;
        setup = opened;
        seen = r.front;
      }
  looks_together slots id _ c st is s r deep here fits = absurd is
