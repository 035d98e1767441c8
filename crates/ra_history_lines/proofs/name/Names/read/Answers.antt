use Rattle.std.proofs.Common.{◌≡◌, ◌∷◌, rules, ap}
use Rattle.ra_history_lines.specs.Names.{ListsSoFar}
use Rattle.ra_history_lines.specs.declared.fault.LineFault.TheVariants.{Syntax}
use Rattle.ra_history_lines.proofs.NameLists.{so_far_first, so_far_next, so_far_refused, failed}
use Rattle.ra_history_lines.proofs.name.Names.read.Goals as goal

pub loop-name-init : goal.loop-name-init
loop-name-init c =
    let front = so_far_first c.args.format c.args.line.now c.in-Some.word.now c.take.new.self (search rules)
    (search rules) in
    rw c.none-names.ensures front

pub loop-name-preserved : goal.loop-name-preserved
loop-name-preserved c =
    let front : ListsSoFar c.args.format c.args.line.now c.loop-name.names
    (c.in-Some-take.name.now ∷ c.take-in-loop-name.new.self) =
    rw c.in-Some-take.ensures at c.loop-name.invariant in
    rw c.in_default-list.ensures.ok (so_far_next _ _ _ _ _ front c.in_default-list.ensures.may)

pub returns-in-Err-clause-syntax : goal.returns-in-Err-clause-syntax
returns-in-Err-clause-syntax c is_syntax others lists =
    let front : ListsSoFar c.args.format c.args.line.now c.loop-name.names
    (c.in-Some-take.name.now ∷ c.take-in-loop-name.new.self) =
    rw c.in-Some-take.ensures at c.loop-name.invariant in
    let same : c.in-Err.fault ≡ Syntax = let e = is_syntax in cc in
    so_far_refused _ _ _ _ _ others front (c.in-Err.ensures.syntax (ap failed same)) lists
