use Rattle.ra_monitor.specs.Monitor.{records_before_fault_in}
use Rattle.ra_explain.proofs.Steps.{HasMade}
use Rattle.ra_explain.proofs.replica_state.replica_state.Given as goal

abbrev pub invariant-loop-part : goal.invariant-loop-part
invariant-loop-part l =
    HasMade l.monitor.setup.kind (records_before_fault_in l.monitor.setup l.monitor.log) l.replica l.part-index l.state
