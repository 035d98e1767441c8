use Rattle.std.proofs.Common.{rules, arith}
use Rattle.ra_history_text.proofs.Runs.{read_none_left, comes_as_far, run_first, run_next, run_last}
use Rattle.ra_history_text.proofs.Halts.{halts_between, none_consumed, kept_whole, halts_ending, halts_writing_end, halts_writing}
use Rattle.ra_history_text.proofs.Halts.{halts_feeding, passed_on, given_none, given_more, given_less}
use Rattle.ra_history_text.proofs.run.check_by_pieces.Goals as goal

pub loop-init : goal.loop-init
loop-init g c = (
  run_first _ _ c.args.session.now c.args.out.now.items c.requires.start c.requires.none,
  given_none (g.R.Read.remaining c.args.reader.now),
)

pub returns-then-count-eq0-clause-end : goal.returns-then-count-eq0-clause-end
returns-then-count-eq0-clause-end g c =
    (read_none_left _ _ _ _ c.if-count-eq0.true (omega arith) c.in-Ok.ensures.bytes).1

pub returns-then-count-eq0-clause-answered : goal.returns-then-count-eq0-clause-answered
returns-then-count-eq0-clause-answered g c =
    let ended = read_none_left _ _ _ _ c.if-count-eq0.true (omega arith) c.in-Ok.ensures.bytes in
    run_last _ _ _ _ _ _ _ _ _ c.in_ok-report.report c.loop.invariant.0 ended c.in_ok-report.ensures.ended
    (rw c.as_slice.ensures.value at c.in_ok-write_out.ensures.written)

pub returns-then-count-eq0-clause-taken : goal.returns-then-count-eq0-clause-taken
returns-then-count-eq0-clause-taken g c =
    comes_as_far _ _ _ _ c.loop.invariant.0.read
    (read_none_left _ _ _ _ c.if-count-eq0.true (omega arith) c.in-Ok.ensures.bytes)

pub loop-preserved : goal.loop-preserved
loop-preserved g c = (
  run_next _ _ _ _ _ _ _ _ _ _ _ _ c.loop.invariant.0 c.in-Ok.ensures.bytes.0 c.in_ok-fed.ensures.taken
      c.in_ok-fed.ensures.replied (rw c.as_slice-in-loop.ensures.value at c.in_ok-write_out-2.ensures.written)
      c.clear.ensures.items,
  given_more _ _ _ c.loop.counter c.in-Ok.count c.read.new.buf c.loop.invariant.1 c.in-Ok.ensures.bytes.0
      (search rules) (search rules),
)

pub returns-in_default-clause-stopped : goal.returns-in_default-clause-stopped
returns-in_default-clause-stopped g c =
    halts_between _ _ _ _ _ _ _ c.loop.invariant.0 (kept_whole _ _ c.in_default.ensures.bytes)

pub returns-clause-stopped : goal.returns-clause-stopped
returns-clause-stopped g c = halts_between _ _ _ _ _ _ _ c.loop.invariant.0 (none_consumed _)

pub returns-in_err-report-clause-stopped : goal.returns-in_err-report-clause-stopped
returns-in_err-report-clause-stopped g c =
    passed_on c.from_residual.result _ _ c.from_residual.ensures.1
    (halts_ending _ _ _ _ _ _ _ _ c.loop.invariant.0
    (read_none_left _ _ _ _ c.if-count-eq0.true (omega arith) c.in-Ok.ensures.bytes) c.in_err-report.ensures.fault)

pub returns-in_err-write_out-clause-stopped : goal.returns-in_err-write_out-clause-stopped
returns-in_err-write_out-clause-stopped g c =
    let unwritten = c.in_err-write_out.ensures.part in
    passed_on c.from_residual-in_err-write_out.result _ _ c.from_residual-in_err-write_out.ensures.1
    (halts_writing_end _ _ _ _ _ _ _ _ _ _ c.in_ok-report.report unwritten.1 c.loop.invariant.0
    (read_none_left _ _ _ _ c.if-count-eq0.true (omega arith) c.in-Ok.ensures.bytes) c.in_ok-report.ensures.ended
    (rw c.as_slice.ensures.value at unwritten.2))

pub returns-in_err-write_out-2-clause-stopped : goal.returns-in_err-write_out-2-clause-stopped
returns-in_err-write_out-2-clause-stopped g c =
    let unwritten = c.in_err-write_out-2.ensures.part in
    passed_on c.from_residual-in_err-write_out-2.result _ _ c.from_residual-in_err-write_out-2.ensures.1
    (halts_writing c.feed-fed.result _ _ _ _ _ _ _ _ _ _ _ _ unwritten.1 c.loop.invariant.0 c.in-Ok.ensures.bytes.0
    c.feed-fed.ensures.taken c.feed-fed.ensures.replied c.feed-fed.ensures.fault
    (rw c.as_slice-in-loop.ensures.value at unwritten.2))

pub returns-in_err-fed-clause-stopped : goal.returns-in_err-fed-clause-stopped
returns-in_err-fed-clause-stopped g c =
    passed_on c.from_residual-in_err-fed.result _ _ c.from_residual-in_err-fed.ensures.1
    (halts_feeding _ _ _ _ _ _ _ _ _ _ _ c.loop.invariant.0 c.in-Ok.ensures.bytes.0 c.in_err-fed.ensures.fault
    (rw c.as_slice-in-loop.ensures.value at c.in_ok-write_out-2.ensures.written))

pub returns-clause-endless : goal.returns-clause-endless
returns-clause-endless g c same = given_less (g.R.Read.remaining c.args.reader.now)
    (g.R.Read.remaining c.loop.reader) 4294967296 c.loop.counter c.loop-test.false c.loop.invariant.1
