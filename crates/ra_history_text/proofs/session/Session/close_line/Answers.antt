use Rattle.std.proofs.Common.{◌≡◌, ◌≤◌, [], length, vec_len, rules, arith}
use Rattle.std.proofs.lemmas.List.{nil_from_length}
use Rattle.ra_history_text.specs.Sessions.{StopsClosing}
use Rattle.ra_history_text.proofs.Lines.{close_whole, close_whole_stops, gathering_stops, no_parts, gathered_stops, gathered_takes}
use Rattle.ra_history_text.proofs.Halts.{passed_on}
use Rattle.ra_history_text.proofs.session.Session.close_line.Goals as goal
use Rattle.ra_history_text.proofs.session.Session.close_line.Goals.{else-is_empty-via-then-is_empty+else-last-le-LONGEST_LINE, else-is_empty-via-else-is_empty}

pub returns-then-last-le-LONGEST_LINE-clause-taken : goal.returns-then-last-le-LONGEST_LINE-clause-taken
returns-then-last-le-LONGEST_LINE-clause-taken c =
    let zero : vec_len c.self.inside.partial ≡ 0 = search rules in
    let nothing : c.self.inside.partial.items ≡ [] =
    nil_from_length c.self.inside.partial.items (omega (arith, zero, c.self.inside.partial.ok.0)) in
    close_whole c.take_or_keep.result _ c.args.self.now _ _ c.args.last.now c.self.view_is
    nothing c.take_or_keep.ensures.same c.requires c.if-last-le-LONGEST_LINE.true c.take_or_keep.ensures.taken

pub returns-then-last-le-LONGEST_LINE-clause-fault : goal.returns-then-last-le-LONGEST_LINE-clause-fault
returns-then-last-le-LONGEST_LINE-clause-fault c =
    let zero : vec_len c.self.inside.partial ≡ 0 = search rules in
    let nothing : c.self.inside.partial.items ≡ [] =
    nil_from_length c.self.inside.partial.items (omega (arith, zero, c.self.inside.partial.ok.0)) in
    close_whole_stops c.take_or_keep.result _ c.args.self.now c.args.last.now c.self.view_is nothing c.requires
    c.if-last-le-LONGEST_LINE.true c.take_or_keep.ensures.fault

-- if the line arrived in parts, the last part is not the whole line
pub returns-in_err-extend-clause-fault : goal.returns-in_err-extend-clause-fault
returns-in_err-extend-clause-fault c =
    let in_parts : c.args.self.now.partial ≡ [] → length c.args.last.now ≤ 1048576 → ⊥ =
    elim c.else-is_empty.branch [
      | else-is_empty-via-then-is_empty+else-last-le-LONGEST_LINE w ↦
          λ nothing short. omega (arith, w.if-last-le-LONGEST_LINE.false, short)
      | else-is_empty-via-else-is_empty w ↦ λ nothing short.
          no_parts _ _ _ _ c.self.view_is c.self.inside.partial.ok.0 c.is_empty.ensures w.if-is_empty.false nothing
    ] in
    passed_on c.from_residual.result (StopsClosing c.args.self.now c.args.last.now) _ c.from_residual.ensures.1
    (gathering_stops c.args.self.now c.args.last.now _ in_parts c.in_err-extend.ensures.fault)

pub returns-in_err-take_line-clause-fault : goal.returns-in_err-take_line-clause-fault
returns-in_err-take_line-clause-fault c =
    let in_parts : c.args.self.now.partial ≡ [] → length c.args.last.now ≤ 1048576 → ⊥ =
    elim c.else-is_empty.branch [
      | else-is_empty-via-then-is_empty+else-last-le-LONGEST_LINE w ↦
          λ nothing short. omega (arith, w.if-last-le-LONGEST_LINE.false, short)
      | else-is_empty-via-else-is_empty w ↦ λ nothing short.
          no_parts _ _ _ _ c.self.view_is c.self.inside.partial.ok.0 c.is_empty.ensures w.if-is_empty.false nothing
    ] in
    passed_on c.from_residual-in_err-take_line.result (StopsClosing c.args.self.now c.args.last.now) _
    c.from_residual-in_err-take_line.ensures.1
    (gathered_stops _ _ _ _ _ _ c.requires c.in_ok-extend.ensures.taken c.in_ok-extend.ensures.said in_parts
    c.self-2.view_is c.deref.ensures.value c.in_err-take_line.ensures.fault)

pub returns-clause-taken : goal.returns-clause-taken
returns-clause-taken c =
    gathered_takes c.args.self.now _ _ c.args.last.now _ _ _ c.in_ok-extend.ensures.taken c.self-2.view_is
    c.deref.ensures.value
    c.in_ok-take_line.ensures.taken c.clear.ensures.items
