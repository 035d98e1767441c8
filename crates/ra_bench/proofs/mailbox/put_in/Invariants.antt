use Rattle.std.proofs.Common.{◌≡◌, ◌++◌, take}
use Rattle.std.specs.List.{filter}
use Rattle.ra_bench.specs.Mailbox.{arrives}
use Rattle.ra_bench.proofs.mailbox.put_in.Given as goal

-- the messages so far that arrive are inserted
abbrev pub invariant-loop-message : goal.invariant-loop-message
invariant-loop-message l =
    l.inbox.items ≡ l.initial.inbox.items ++ filter (arrives l.replica l.round) (take l.message-index l.sent)
