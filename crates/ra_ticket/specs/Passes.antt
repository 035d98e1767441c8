-- A lock and its passes, as callers see them.
use Rattle.std.specs.Prelude.{◌≡◌, ℕ, ◌+◌, ◌<◌, ◌≤◌, List, [], ◌∷◌, ◌++◌, max, Option, Some, IfSome}
use Rattle.ra_journal.specs.declared.entry.Entry.{Entry}
use Rattle.ra_ticket.specs.declared.fault.CallFault.{CallFault}
use Rattle.ra_ticket.specs.declared.fault.CallFault.TheVariants.{Busy}
use Rattle.ra_journal.specs.declared.journal.Journal.{Ghosts}
use Rattle.ra_ticket.specs.declared.lock.TicketLock.{TicketLock}
use Rattle.ra_ticket.specs.declared.pass.Pass.{Pass}
use Rattle.ra_ticket.specs.Views.{next_of, serving_of, setup_of, seen_of}
use Rattle.ra_journal.specs.Log.{entry, entries_of, BeginsWith, IsLegal}

module _ {M C R S : Type 0} {g : Ghosts M C R S} where
  abbrev pub number_of : Pass M C R S g → ℕ
  number_of p = p.number

  -- a number that the word `next` has reached; below, one that `serving` has reached
  abbrev pub next_reached : Pass M C R S g → ℕ
  next_reached p = next_of p.seat.me.0

  abbrev pub serving_reached : Pass M C R S g → ℕ
  serving_reached p = serving_of p.seat.me.0

  -- the setup of the journal, as it was given to `open`
  abbrev pub pass_setup : Pass M C R S g → Option S
  pass_setup p = setup_of p.seat.me.0

  -- holds if the pass has a setup
  abbrev pub HasSetup : Pass M C R S g → Type 0
  HasSetup p = (setup : S) × (pass_setup p ≡ Some setup)

  -- the log as far as the pass has seen it
  abbrev pub seen : Pass M C R S g → List (Entry C R)
  seen p = seen_of p.seat.me.0

  -- the entries of its own calls
  abbrev pub mine : Pass M C R S g → List (Entry C R)
  mine p = entries_of (number_of p) (seen p)

  -- holds if the log that the pass has seen is legal under its setup
  abbrev pub KnowsLegal : (S → List (Entry C R) → C → R) → Pass M C R S g → Type 0
  KnowsLegal reply_of p = IfSome (pass_setup p) (λ s. IsLegal (reply_of s) (seen p))

  -- holds if the pass is of this lock
  abbrev pub IsPassOf : TicketLock M C R S → Pass M C R S g → Type 0
  IsPassOf lock p = p.seat.table_id ≡ lock.table.shared.table_id

  -- holds if q is the same pass of the same lock, and knows no less of the words and of the log
  pub record IsSamePass (p q : Pass M C R S g) : Type 0 where
    pub number : number_of q ≡ number_of p
    pub lock : q.seat.table_id ≡ p.seat.table_id
    pub next : next_reached p ≤ next_reached q
    pub serving : serving_reached p ≤ serving_reached q
    pub setup : pass_setup q ≡ pass_setup p
    pub seen_more : BeginsWith (seen q) (seen p)

  -- Holds if the log that the pass has seen ends with this call of its own, after all that it had seen before. Its
  -- ticket was served during the call.
  pub record IsLogged (p q : Pass M C R S g) (command : C) (reply : R) : Type 0 where
    pub before : List (Entry C R)
    pub ticket : ℕ
    pub begins : BeginsWith before (seen p)
    pub last : seen q ≡ before ++ entry (number_of p) ticket command reply ∷ []
    pub since : serving_reached p ≤ ticket
    pub until : serving_reached q ≡ ticket + 1

  -- holds if its own calls are those that it had made, followed by this one
  abbrev pub IsMineAndThen : Pass M C R S g → Pass M C R S g → C → R → Type 0
  IsMineAndThen p q command reply = (ticket : ℕ) × (mine q ≡ mine p ++ entry (number_of p) ticket command reply ∷ [])

  -- holds if, of two passes that met, this one knows of the words exactly what either knew
  abbrev pub KnowsWhatEitherKnew : Pass M C R S g → Pass M C R S g → Pass M C R S g → Type 0
  KnowsWhatEitherKnew p q met = (next_reached met ≡ max (next_reached p) (next_reached q))
      × (serving_reached met ≡ max (serving_reached p) (serving_reached q))

  -- holds if a call found the lock busy, and reports what its pass has learned: `serving`, and `next` above it
  abbrev pub IsFoundBusy : Pass M C R S g → CallFault C → Type 0
  IsFoundBusy q (Busy at found command) =
      (at < found) × (serving_reached q ≡ at) × (next_reached q ≡ found)
  IsFoundBusy q _ = ⊥
