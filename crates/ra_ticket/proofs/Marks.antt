-- Lemmas on what is read from the mark of a log.
use Rattle.std.proofs.Common.{◌≡◌, ℕ, ◌^◌, ◌<◌, length, Option, Some, None, IfSome, arith}
use Rattle.ra_ticket.specs.declared.board.View.{View}
use Rattle.ra_ticket.specs.declared.board.View.TheVariants.{Knows}
use Rattle.ra_ticket.specs.declared.board.Stage.TheVariants.{Idle}
use Rattle.ra_journal.specs.Log.{Readings}
use Rattle.ra_ticket.specs.Mark.{mark_of, IsNumbered}
use Rattle.ra_ticket.specs.Steps.{SeesMarked}
use Rattle.ra_ticket.specs.Views.{stage_of, setup_of, seen_of}

numbered : (o : Option ℕ) (n : ℕ) → IfSome o (λ f. f < n) → n < 2 ^ 32 → IsNumbered o
numbered None n below short = tt
numbered (Some f) n below short = omega arith

-- the number of calls and the fault from which the mark was made
abbrev IsReadOff : ℕ → ℕ → Option ℕ → Type 0
IsReadOff mark calls fault = (n : ℕ) (o : Option ℕ) → IsNumbered o → mark ≡ mark_of n o → (calls ≡ n) × (fault ≡ o)

-- the number of calls that an idle seat reads is the length of the log that it has seen, and the fault is that log's
pub read_off : {M C R S : Type 0} (j : Readings M C R S) (v : View C R S) (mark calls : ℕ) (fault : Option ℕ)
    → stage_of v ≡ Some Idle → SeesMarked j v mark → IsReadOff mark calls fault
    → (calls ≡ length (seen_of v)) × IfSome (setup_of v) (λ s. fault ≡ j.fault_of s (seen_of v))
read_off j (Knows k) mark calls fault idle sees off = let its = j.fault_of k.setup k.seen in
    off (length k.seen) its (numbered its (length k.seen) sees.1.below sees.1.short) sees.1.marked
read_off j _ mark calls fault idle sees off = absurd (cc)
