use Rattle.std.proofs.Common.{◌≡◌, List, Ok, Err, map, ap, subst}
use Rattle.std.specs.Prelude.{IfOk, OnOk, Result}
use Rattle.ra_labels.specs.Records.{Records}
use Rattle.ra_labels.specs.NamedOrder.{named_sequence}
use Rattle.ra_labels.specs.Fault.{records_before_fault}
use Rattle.ra_theorems.proofs.TheoremIndex.{fault_none_implies_holds, records_before_fault_have_none-none}
use Rattle.ra_witness.specs.declared.part_ref.PartRef.{PartRef}
use Rattle.ra_witness.specs.Sequence.{ref_of}
use Rattle.ra_monitor.specs.Monitor.{Monitor, records_of}
use Rattle.ra_monitor.proofs.monitor.Monitor.sequence.Goals as goal
use Rattle.ra_monitor.specs.History.{history_in}

-- the records whose named sequence is returned
abbrev sound : Monitor → Records
sound m = records_before_fault m.setup.kind (records_of m.setup m.log)

pub returns-clause-named : goal.returns-clause-named
returns-clause-named c =
    let m = c.self.inside.parts.value in
    let all = ap (λ (l : Monitor). map ref_of (named_sequence l.setup.kind (sound l))) c.self.view_is in
    subst (λ (refs : List PartRef). IfOk c.sequence.result (λ parts. parts.items ≡ refs)) all
    (c.sequence.ensures (history_in m.setup (records_of m.setup m.log.items)) (rw c.deref.ensures c.self.invariant.history))

-- a fact holds after either outcome
either_way : {T E P : Type 0} (r : Result T E) → P → OnOk r P
either_way (Ok x) p = p
either_way (Err e) p = tt

pub returns-clause-linearizes : goal.returns-clause-linearizes
returns-clause-linearizes c =
    let m = c.args.self.now in
    either_way c.sequence.result (fault_none_implies_holds m.setup.kind (sound m) (records_before_fault_have_none-none m.setup.kind (records_of m.setup m.log)))
