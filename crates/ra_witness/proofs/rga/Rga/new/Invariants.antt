use Rattle.std.proofs.Common.{◌≡◌, [], ◌∷◌, length}
use Rattle.ra_rga_elements.specs.ElementList.{root}
use Rattle.ra_witness.proofs.ReplicaLists.{AreListsOf}
use Rattle.ra_witness.proofs.rga.Rga.new.Given as goal

-- one list for each replica so far
abbrev pub invariant-loop : goal.invariant-loop
invariant-loop l = record { count : length l.lists.items ≡ l.counter; lists : AreListsOf l.lists.items (root ∷ []) [] [] }
