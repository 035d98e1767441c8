-- Lemmas on two passes that met and part again.
use Rattle.std.proofs.Common.{◌≡◌, ℕ, ◌≤◌, List, [], ◌∷◌, ◌++◌, max, Some, IfSome, sym, ap, ◌∙◌, subst, arith}
use lib.ListN.{get_elem?}
use Rattle.ra_journal.specs.declared.entry.Entry.{Entry}
use Rattle.ra_ticket.specs.declared.board.View.{View}
use Rattle.ra_ticket.specs.declared.board.View.TheVariants.{Knows, Met}
use Rattle.ra_ticket.specs.declared.board.Known.{Known}
use Rattle.ra_ticket.specs.declared.board.Stage.TheVariants.{Idle}
use Rattle.ra_journal.specs.Log.{Readings, BeginsWith, IsLegal, entries_of}
use Rattle.ra_journal.specs.declared.journal.Journal.{Ghosts}
use Rattle.ra_ticket.specs.Mark.{IsMarkOf}
use Rattle.ra_ticket.specs.declared.pass.Pass.{Pass}
use Rattle.ra_ticket.specs.Passes.{number_of, IsSamePass}
use Rattle.ra_ticket.specs.Views.{stage_of, numbers_of, next_of, serving_of, setup_of, seen_of}
use Rattle.ra_ticket.specs.Views.{first_only, others_only, IsMet, SeesOwn, met}
use Rattle.ra_ticket.specs.Steps.{SeesMarked, IsPart, SeesFor, GoesOn}

module _ {C R S : Type 0} where
  pub met_so : (v w : View C R S) → stage_of v ≡ Some Idle → stage_of w ≡ Some Idle → IsMet (met v w)
  met_so (Knows k) (Knows l) idle idle_too = tt
  met_so _ _ idle idle_too = absurd (cc)

  -- one of them, whose seat is this part of the seat that has seen the log for both
  goes_on : (k : Known C R S) (u w : View C R S) (numbers : List ℕ) (n : ℕ) → k.numbers ≡ n ∷ [] → numbers ≡ n ∷ []
      → stage_of u ≡ Some Idle → k.next ≤ next_of u → k.serving ≤ serving_of u → setup_of u ≡ Some k.setup
      → BeginsWith (seen_of u) k.seen → SeesOwn k (seen_of u) → IsPart u w numbers → GoesOn (Knows k) w n
  goes_on k u w numbers n of is idle next serving setup begun own part = record {
    idle = part.stage ∙ idle;
    numbers = part.its ∙ is;
    next = let e = part.next in omega arith;
    serving = let e = part.serving in omega arith;
    setup = part.setup ∙ setup;
    begins = subst (λ (log : List (Entry C R)). BeginsWith log k.seen) (sym part.seen) begun;
    mine = ap (entries_of n) part.seen ∙ sym (own 0 n (ap (λ (l : List ℕ). get_elem? l 0) of));
  }

  -- two seats of one pass each were joined into one, which read the mark and was then cut
  pub parted : (v w joined u own rest : View C R S) (n m : ℕ) → stage_of v ≡ Some Idle → numbers_of v ≡ n ∷ []
      → stage_of w ≡ Some Idle → numbers_of w ≡ m ∷ [] → joined ≡ met v w → stage_of u ≡ Some Idle
      → numbers_of u ≡ numbers_of joined → SeesFor joined u → next_of u ≡ next_of joined
      → serving_of u ≡ serving_of joined → IsPart u own (first_only (numbers_of u))
      → IsPart u rest (others_only (numbers_of u)) → GoesOn v own n × GoesOn w rest m
  parted (Knows k) (Knows l) joined u own rest n m i of i' of' is idle numbers sees next serving first others =
      let both : numbers_of u ≡ n ∷ m ∷ [] = numbers ∙ (ap numbers_of is
      ∙ (ap (λ (x : List ℕ). x ++ l.numbers) of ∙ ap (λ (x : List ℕ). n ∷ x) of')) in
      let so : SeesFor (Met k l) u = subst (λ (x : View C R S). SeesFor x u) is sees in
      let a : next_of u ≡ max k.next l.next = next ∙ ap next_of is in
      let b : serving_of u ≡ max k.serving l.serving = serving ∙ ap serving_of is in (
        goes_on k u own (first_only (numbers_of u)) n of (ap first_only both) idle (omega arith) (omega arith)
            (so.0.1 ∙ ap (λ (x : S). Some x) (sym so.0.2.0)) so.1.0 so.2.0 first,
        goes_on l u rest (others_only (numbers_of u)) m of' (ap others_only both) idle (omega arith) (omega arith)
            (so.0.1 ∙ ap (λ (x : S). Some x) (sym so.0.2.1)) so.1.1 so.2.1 others,
      )
  parted _ _ joined u own rest n m i of i' of' is idle numbers sees next serving first others = absurd (cc)

  -- what a part then knows of the words
  pub bounds_are : (v w joined u own : View C R S) (numbers : List ℕ) → stage_of v ≡ Some Idle → stage_of w ≡ Some Idle
      → joined ≡ met v w → (next_of u ≡ next_of joined) × (serving_of u ≡ serving_of joined) → IsPart u own numbers
      → (next_of own ≡ max (next_of v) (next_of w)) × (serving_of own ≡ max (serving_of v) (serving_of w))
  bounds_are (Knows k) (Knows l) joined u own numbers i i' is learned part =
      (part.next ∙ (learned.0 ∙ ap next_of is), part.serving ∙ (learned.1 ∙ ap serving_of is))
  bounds_are _ _ joined u own numbers i i' is learned part = absurd (cc)

module _ {M C R S : Type 0} (j : Readings M C R S) where
  -- a part has seen the log whose mark its whole had
  pub part_marked : (u own : View C R S) (numbers : List ℕ) (mark : ℕ) → IsPart u own numbers → SeesMarked j u mark
      → SeesMarked j own mark
  part_marked u own numbers mark part sees =
      subst (λ o. IfSome o (λ s. IsLegal (j.reply_of s) (seen_of own) × IsMarkOf j s (seen_of own) mark))
      (sym part.setup)
      (subst (λ log. IfSome (setup_of u) (λ s. IsLegal (j.reply_of s) log × IsMarkOf j s log mark))
      (sym part.seen) sees)

-- the pass whose seat continues
module _ {M C R S : Type 0} {g : Ghosts M C R S} where
  pub pass_goes_on : (p q : Pass M C R S g) → number_of q ≡ number_of p → q.seat.table_id ≡ p.seat.table_id
      → GoesOn p.seat.me.0 q.seat.me.0 (number_of p) → IsSamePass p q
  pass_goes_on p q number lock on = record {
    number = number;
    lock = lock;
    next = on.next;
    serving = on.serving;
    setup = on.setup;
    seen_more = on.begins;
  }
