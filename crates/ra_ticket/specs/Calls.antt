-- What a call with a command returns, whether it waits or not: over the pass before and after it, the command and the
-- result. `TicketLock` and `Caller` cite it.
use Rattle.std.specs.Prelude.{◌≡◌, ◌≢◌, ℕ, ◌+◌, ◌<◌, ◌⊎◌, List, length, IfOk, IfErr, IfSome}
use Rattle.std.specs.declared.result.Result.{Result}
use Rattle.ra_journal.specs.declared.entry.Entry.{Entry}
use Rattle.ra_journal.specs.declared.journal.Journal.{Ghosts}
use Rattle.ra_ticket.specs.declared.draw.TheConstants.{GREATEST_TICKET}
use Rattle.ra_ticket.specs.declared.fault.CallFault.{CallFault}
use Rattle.ra_ticket.specs.declared.pass.Pass.{Pass}
use Rattle.ra_ticket.specs.Faults.{unserved, IsWorn, IsFull, IsNoMemory}
use Rattle.ra_ticket.specs.Passes.{next_reached, serving_reached, pass_setup, seen, mine, IsSamePass, IsLogged, IsMineAndThen, KnowsLegal}

module _ {M C R S : Type 0} {g : Ghosts M C R S} where
  pub record IsCall (reply_of : S → List (Entry C R) → C → R) (limit_of : S → ℕ) (p q : Pass M C R S g) (command : C)
      (result : Result R (CallFault C)) : Type 0 where
    -- The pass keeps its number, lock and setup, and knows no less of the tickets and of the log than before.
    pub pass : IsSamePass p q
    -- After a reply, the log that the pass has seen is legal.
    pub legal : IfOk result (λ _. KnowsLegal reply_of q)
    -- If the log that the pass had seen was legal, the log that it has then seen is legal, even after an error.
    pub legal_still : KnowsLegal reply_of p → KnowsLegal reply_of q
    -- After a reply, the log that the pass has seen begins with all that it had seen and ends with this call and its
    -- reply. The entry's ticket was served during the call.
    pub logged : IfOk result (IsLogged p q command)
    -- After a reply, the pass's own entries are those before and this one, once.
    pub mine_and_then : IfOk result (IsMineAndThen p q command)
    -- After an error, the pass's own entries are those before.
    pub mine_still : IfErr result (λ _. mine q ≡ mine p)
    -- An error returns the command to the caller.
    pub handed_back : IfErr result (λ fault. unserved fault ≡ command)
    -- `Worn` is returned only if all 18,446,744,073,709,551,615 tickets are drawn.
    pub worn_at_the_end : IfErr result (λ fault. IsWorn fault → next_reached q ≡ GREATEST_TICKET + 1)
    -- After `Full`, the log that the pass has seen has as many entries as the limit allows.
    pub full_at_the_limit : IfErr result (λ fault. IsFull fault
        → IfSome (pass_setup q) (λ setup. length (seen q) ≡ limit_of setup))
    -- After `NoMemory`, the log that the pass has seen is not at the limit.
    pub no_memory_below_the_limit : IfErr result (λ fault. IsNoMemory fault
        → IfSome (pass_setup q) (λ setup. length (seen q) ≢ limit_of setup))
    -- After `Full` or `NoMemory`, more tickets are served than the pass knew of before the call.
    pub served : IfErr result (λ fault. IsFull fault ⊎ IsNoMemory fault → serving_reached p < serving_reached q)
