use Rattle.std.proofs.Common.{◌≡◌, length, subst, arith}
use Rattle.std.proofs.lemmas.Option.{slice_get-get_or}
use Rattle.ra_explain.proofs.Agreements.{AreScanned, absent_next, all_scanned, behind_next, reversed_here}
use Rattle.ra_explain.proofs.agreement.reversed_pair.Goals as goal
use Rattle.ra_explain.proofs.agreement.reversed_pair.Goals.{in-Some+else-span-last, in_default}

pub returns-then-span-last : goal.returns-then-span-last
returns-then-span-last c =
    let l = c.loop-position in
    reversed_here c.args.list.now c.args.other.now l.position l.latest l.last _ c.in-Some.span l.invariant
    (slice_get-get_or c.args.list.now l.position 0 (omega (arith, c.loop-position-test.true))) c.in-Some.ensures
    (omega (arith, c.if-span-last.true))

pub loop-position-preserved : goal.loop-position-preserved
loop-position-preserved c =
    let l = c.loop-position in
    let at = slice_get-get_or c.args.list.now l.position 0 (omega (arith, c.loop-position-test.true)) in
    elim c.match-span.branch [
      | in-Some+else-span-last w ↦ rw (w.latest-is, w.last-is)
          (behind_next c.args.list.now c.args.other.now l.position l.latest l.last _ w.in-Some.span l.invariant at
          w.in-Some.ensures (omega (arith, w.if-span-last.false)))
      | in_default w ↦ rw (w.latest-is, w.last-is)
          (absent_next c.args.list.now c.args.other.now l.position l.latest l.last _ l.invariant at w.in_default.ensures)
    ]

pub returns : goal.returns
returns c =
    let l = c.loop-position in
    let all : l.position ≡ length c.args.list.now = omega (arith, l.auto.position-end, c.loop-position-test.false) in
    all_scanned c.args.list.now c.args.other.now l.latest l.last
    (subst (λ n. AreScanned c.args.list.now c.args.other.now n l.latest l.last) all l.invariant)
