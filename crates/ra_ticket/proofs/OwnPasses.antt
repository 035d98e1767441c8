-- Lemmas on the entries of a seat's own passes.
use Rattle.std.proofs.Common.{◌≡◌, ◌≢◌, ℕ, suc, List, [], ◌∷◌, ◌++◌, Bool, cond, eqb, Some, refl, sym, ap, ◌∙◌}
use mathlib.Core.Option.{some}
use lib.ListN.{get_elem?}
use Rattle.std.proofs.lemmas.List.{append-nil}
use Rattle.std.proofs.lemmas.List.Elements.{filter-append}
use Rattle.std.proofs.lemmas.Bool.{eq-eqb, ne_eqb}
use Rattle.ra_journal.specs.declared.entry.Entry.{Entry}
use Rattle.atomic_table.proofs.Lists.{at_longer}
use Rattle.ra_ticket.specs.declared.board.Known.{Known}
use Rattle.ra_ticket.specs.declared.board.Stage.{Stage}
use Rattle.ra_ticket.specs.declared.board.View.{View}
use Rattle.ra_ticket.specs.declared.board.View.TheVariants.{Spent, Knows, Met}
use Rattle.ra_journal.specs.Log.{entry, entries_of}
use Rattle.ra_ticket.specs.Views.{stage_of, numbers_of, seen_of, HasOwn, SeesOwn}

module _ {C R : Type 0} where
  -- one more entry, of another pass or of this one
  more : (n : ℕ) (log : List (Entry C R)) (e : Entry C R)
      → entries_of n (log ++ e ∷ []) ≡ entries_of n log ++ cond (eqb e.pass n) (e ∷ []) []
  more n log e = filter-append (λ (x : Entry C R). eqb x.pass n) log (e ∷ [])

  pub entries_skip : (n : ℕ) (log : List (Entry C R)) (e : Entry C R) → e.pass ≢ n
      → entries_of n (log ++ e ∷ []) ≡ entries_of n log
  entries_skip n log e other = more n log e
      ∙ (ap (λ (b : Bool). entries_of n log ++ cond b (e ∷ []) []) (ne_eqb e.pass n other)
      ∙ append-nil (entries_of n log))

  pub entries_keep : (n : ℕ) (log : List (Entry C R)) (e : Entry C R) → e.pass ≡ n
      → entries_of n (log ++ e ∷ []) ≡ entries_of n log ++ e ∷ []
  entries_keep n log e is = more n log e
      ∙ ap (λ (b : Bool). entries_of n log ++ cond b (e ∷ []) []) (eq-eqb e.pass n is)

  -- a call of pass n, which had seen all its entries before
  pub own_push : (n t : ℕ) (c : C) (r : R) (old before new : List (Entry C R)) → entries_of n old ≡ entries_of n before
      → new ≡ before ++ entry n t c r ∷ [] → entries_of n new ≡ entries_of n old ++ entry n t c r ∷ []
  own_push n t c r old before new own last = ap (entries_of n) last ∙ (entries_keep n before (entry n t c r) refl
      ∙ ap (λ (l : List (Entry C R)). l ++ entry n t c r ∷ []) (sym own))

at_behind : (l m : List ℕ) (i n : ℕ) → get_elem? m i ≡ some n → (k : ℕ) × (get_elem? (l ++ m) k ≡ some n)
at_behind [] m i n at = (i, at)
at_behind (x ∷ xs) m i n at = let behind = at_behind xs m i n at in (suc behind.0, behind.1)

module _ {C R S : Type 0} where
  -- a seat with only one pass
  pub own_alone : (v : View C R S) (log : List (Entry C R)) (n : ℕ) (st : Stage) → stage_of v ≡ Some st
      → numbers_of v ≡ n ∷ [] → HasOwn v log → entries_of n (seen_of v) ≡ entries_of n log
  own_alone (Knows k) log n st there alone own = own 0 n (ap (λ (l : List ℕ). get_elem? l 0) alone)
  own_alone _ log n st there alone own = absurd (cc)

  -- an entry of a pass of another seat is added
  sees_skip : (k : Known C R S) (log : List (Entry C R)) (e : Entry C R)
      → ((i : ℕ) → get_elem? k.numbers i ≡ some e.pass → ⊥) → SeesOwn k log → SeesOwn k (log ++ e ∷ [])
  sees_skip k log e elsewhere own i n at = own i n at
      ∙ sym (entries_skip n log e (λ is. elsewhere i (at ∙ ap (λ (x : ℕ). some x) (sym is))))

  pub own_skip : (v : View C R S) (log : List (Entry C R)) (e : Entry C R)
      → ((i : ℕ) → get_elem? (numbers_of v) i ≡ some e.pass → ⊥) → HasOwn v log → HasOwn v (log ++ e ∷ [])
  own_skip Spent log e elsewhere own = tt
  own_skip (Knows k) log e elsewhere own = sees_skip k log e elsewhere own
  own_skip (Met k l) log e elsewhere own = (
    sees_skip k log e (λ i at. elsewhere i (at_longer k.numbers l.numbers i e.pass at)) own.0,
    sees_skip l log e
        (λ i at. let behind = at_behind k.numbers l.numbers i e.pass at in elsewhere behind.0 behind.1) own.1,
  )
