-- The messages that reach a replica in a round.
use Rattle.std.specs.Prelude.{ℕ, ◌+◌, ◌%◌, ◌==◌, Bool, not, ◌&&◌, List, ◌++◌}
use Rattle.std.specs.List.{filter}
use Rattle.ra_bench_replicas.specs.declared.message.Message.{Message}

-- `true` if a message of one of the two rounds before arrives at this replica in this round. The update of round k
-- arrives in round k + 1 if sender, receiver and k have an even sum, and otherwise in round k + 2: in each case sender,
-- receiver and the round of arrival have an odd sum.
abbrev pub arrives : ℕ → ℕ → Message → Bool
arrives receiver round message =
    not (message.from == receiver) && ((message.from + receiver + round % 2) % 2 == 1)

-- the messages of the last round that arrive, followed by those of the round before
abbrev pub inbox_of : List Message → List Message → ℕ → ℕ → List Message
inbox_of last before receiver round = filter (arrives receiver round) (last ++ before)
