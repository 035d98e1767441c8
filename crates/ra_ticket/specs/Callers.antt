-- A pass together with its lock, as callers see it.
use Rattle.std.specs.Prelude.{◌≡◌, ◌<◌, ◌≤◌, List, map, All}
use Rattle.std.specs.Arc.{arc_value}
use Rattle.ra_journal.specs.declared.journal.Journal.{Ghosts}
use Rattle.ra_ticket.specs.declared.caller.Caller.{Caller}
use Rattle.ra_ticket.specs.declared.caller.CloseFault.{CloseFault}
use Rattle.ra_ticket.specs.declared.caller.CloseFault.TheVariants.{Shared, Unsettled}
use Rattle.ra_ticket.specs.declared.lock.TicketLock.{TicketLock}
use Rattle.ra_ticket.specs.declared.pass.Pass.{Pass}
use Rattle.ra_ticket.specs.Passes.{IsPassOf, next_reached, serving_reached}

module _ {M C R S : Type 0} {g : Ghosts M C R S} where
  abbrev pub pass_of : Caller M C R S g → Pass M C R S g
  pass_of c = c.pass

  abbrev pub lock_of : Caller M C R S g → TicketLock M C R S
  lock_of c = arc_value c.lock

  abbrev pub passes_of : List (Caller M C R S g) → List (Pass M C R S g)
  passes_of callers = map pass_of callers

  -- holds if all these passes are of one lock
  abbrev pub AreOfOneLock : List (Pass M C R S g) → Type 0
  AreOfOneLock passes = (lock : TicketLock M C R S) × All (IsPassOf lock) passes

  -- holds if the caller that `Shared` returns is this one
  abbrev pub HandsBack : CloseFault M C R S g → Caller M C R S g → Type 0
  HandsBack (Shared c) caller = (pass_of c ≡ pass_of caller) × (lock_of c ≡ lock_of caller)
  HandsBack (Unsettled u) caller = Unit {0}

  -- holds if `Unsettled` reports two numbers, the first below the second, each at least the one that the pass knew
  abbrev pub TellsUnsettled : CloseFault M C R S g → Pass M C R S g → Type 0
  TellsUnsettled (Shared c) p = Unit {0}
  TellsUnsettled (Unsettled u) p =
      (u.serving < u.next) × (serving_reached p ≤ u.serving) × (next_reached p ≤ u.next)
