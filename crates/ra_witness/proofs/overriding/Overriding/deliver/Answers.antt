use Rattle.std.proofs.Common.{arith}
use Rattle.ra_witness.specs.Overriding.{write_at}
use Rattle.ra_witness.proofs.Lasts.{if_some_at, lasts-same, lasts-delivered, write_found}
use Rattle.ra_witness.proofs.overriding.Overriding.deliver.Goals as goal
use Rattle.ra_labels.proofs.Results.{on_ok, on_err}

pub returns-clause-lasts : goal.returns-clause-lasts
returns-clause-lasts c =
    let writes = c.args.self.now.writes.items in
    let read = c.as_slice-writes.result.now in
    let lasts = c.args.self.now.lasts.items in
    let written = c.in-Some.written in
    let found = write_found writes read c.args.label c.index-writes-label.result written c.as_slice-writes.ensures.value (omega arith) c.index-writes-label.is c.in-Some.is in
    if_some_at (write_at writes c.args.label) written _ found
    (on_ok c.apply_delivered.result c.apply_delivered.ensures.last
    (lasts-delivered writes read lasts c.args.replica c.args.label written c.index_mut-last.result.now c.apply_delivered.new.last c.as_slice-writes.ensures.value (omega arith) c.index_mut-last.ensures.value))

pub returns-clause-same_lasts : goal.returns-clause-same_lasts
returns-clause-same_lasts c =
    on_err c.apply_delivered.result c.apply_delivered.ensures.same_last
    (lasts-same c.args.self.now.lasts.items c.args.replica c.index_mut-last.result.now c.apply_delivered.new.last (omega arith) c.index_mut-last.ensures.value)
