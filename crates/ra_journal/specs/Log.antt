-- Logs of calls, as a journal keeps them.
use Rattle.std.specs.Prelude.{◌≡◌, ℕ, ◌-◌, ◌<◌, List, [], ◌∷◌, ◌++◌, length, All, Option, option_map, slice_get, eqb}
use Rattle.std.specs.Option.{ForSome}
use Rattle.std.specs.List.{filter}
use Rattle.ra_journal.specs.declared.entry.Entry.{Entry}
use Rattle.ra_journal.specs.declared.journal.StepFault.{StepFault}
use Rattle.ra_journal.specs.declared.journal.StepFault.TheVariants.{Full, NoMemory}

-- The functions by which the lock reads a journal: its setup and its log, and for a log under a setup the reply to a
-- command and the number of its fault.
pub record Readings (M C R S : Type 0) : Type 0 where
  pub setup : M → S
  pub log : M → List (Entry C R)
  pub reply_of : S → List (Entry C R) → C → R
  pub fault_of : S → List (Entry C R) → Option ℕ

abbrev pub readings : {M C R S : Type 0} → (M → S) → (M → List (Entry C R)) → (S → List (Entry C R) → C → R)
    → (S → List (Entry C R) → Option ℕ) → Readings M C R S
readings setup log reply_of fault_of =
    record { setup = setup; log = log; reply_of = reply_of; fault_of = fault_of }

module _ {C R : Type 0} where
  abbrev pub entry : ℕ → ℕ → C → R → Entry C R
  entry p t c r = record { pass = p; ticket = t; command = c; reply = r }

  -- the ticket of the last entry, if there is one
  abbrev pub last_ticket_of : List (Entry C R) → Option ℕ
  last_ticket_of log = option_map (λ e. e.ticket) (slice_get log (length log - 1))

  -- holds if the ticket is above that of the last entry, if there is one
  abbrev pub IsAboveLast : List (Entry C R) → ℕ → Type 0
  IsAboveLast log ticket = ForSome (last_ticket_of log) (λ last. last < ticket)

  -- holds if each entry's ticket is below this one
  abbrev pub AllBelow : ℕ → List (Entry C R) → Type 0
  AllBelow ticket log = All (λ e. e.ticket < ticket) log

  -- the entries of one pass, in the order of the log
  abbrev pub entries_of : ℕ → List (Entry C R) → List (Entry C R)
  entries_of number log = filter (λ e. eqb e.pass number) log

  -- holds if the log begins with these entries
  abbrev pub BeginsWith : List (Entry C R) → List (Entry C R) → Type 0
  BeginsWith log first = (rest : List (Entry C R)) × (log ≡ first ++ rest)

  -- a legal log: each reply is the answer after the entries before it, and tickets increase strictly
  module _ (answer_after : List (Entry C R) → C → R) where
    -- holds if the entry can come next
    abbrev pub MayFollow : List (Entry C R) → Entry C R → Type 0
    MayFollow before e = (e.reply ≡ answer_after before e.command) × IsAboveLast before e.ticket

    -- holds if each of the entries can follow those before it, of which the first ones are given
    abbrev pub IsLegalAfter : List (Entry C R) → List (Entry C R) → Type 0
    IsLegalAfter before [] = Unit {0}
    IsLegalAfter before (e ∷ rest) = MayFollow before e × IsLegalAfter (before ++ e ∷ []) rest

    abbrev pub IsLegal : List (Entry C R) → Type 0
    IsLegal log = IsLegalAfter [] log

-- the command that the fault of a step returns
abbrev pub unstepped : {C : Type 0} → StepFault C → C
unstepped (Full command) = command
unstepped (NoMemory command) = command
