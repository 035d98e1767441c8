use Rattle.std.proofs.Common.{◌∙◌, ap, List, Bool, arith}
use Rattle.ra_rga_elements.specs.ElementList.{is_marked}
use Rattle.ra_rga_replica.proofs.EmptyLists.{starts}
use Rattle.ra_rga_replica.proofs.replica_list.ReplicaList.new.Goals as goal

pub returns : goal.returns
returns c = λ replica.
    starts c.new.result c.reserve.new.self.marks.items c.put.new.self.marks.items c.new-2.result replica
    c.new.ensures (omega (arith, c.in_ok-reserve.ensures.room, c.reserve.new.self.marks.ok.0))
    (λ k. c.in_ok-reserve.ensures.same k ∙ ap (λ (ms : List Bool). is_marked ms k) c.new-there.ensures)
    c.put.ensures c.new-2.ensures
