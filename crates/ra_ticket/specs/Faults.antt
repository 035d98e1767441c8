-- What a failed call returns.
use Rattle.ra_journal.specs.declared.journal.StepFault as step
use Rattle.ra_journal.specs.declared.journal.StepFault.TheVariants as step_is
use Rattle.ra_ticket.specs.declared.fault.CallFault.{CallFault}
use Rattle.ra_ticket.specs.declared.fault.CallFault.TheVariants.{Worn, Full, NoMemory, Busy}

module _ {C : Type 0} where
  -- the command that the fault returns
  abbrev pub unserved : CallFault C → C
  unserved (Worn command) = command
  unserved (Full command) = command
  unserved (NoMemory command) = command
  unserved (Busy at found command) = command

  abbrev pub IsWorn : CallFault C → Type 0
  IsWorn (Worn command) = Unit {0}
  IsWorn _ = ⊥

  abbrev pub IsFull : CallFault C → Type 0
  IsFull (Full command) = Unit {0}
  IsFull _ = ⊥

  abbrev pub IsNoMemory : CallFault C → Type 0
  IsNoMemory (NoMemory command) = Unit {0}
  IsNoMemory _ = ⊥

  abbrev pub IsBusy : CallFault C → Type 0
  IsBusy (Busy at found command) = Unit {0}
  IsBusy _ = ⊥

  -- the fault of the call whose step failed
  abbrev pub fault_of_step : step.StepFault C → CallFault C
  fault_of_step (step_is.Full command) = Full command
  fault_of_step (step_is.NoMemory command) = NoMemory command
