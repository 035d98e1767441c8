use Rattle.std.proofs.Common.{◌≡◌, true, false, rules, arith, sym, ◌∙◌}
use Rattle.ra_history_lines.proofs.NameLists.{as_many, in_any, not_bad}
use Rattle.ra_history_lines.proofs.NewNames.{new_may_join, bad_tested}
use Rattle.ra_history_lines.proofs.name.Names.list.Goals as goal
use Rattle.ra_history_lines.proofs.name.Names.list.Goals.{then-len-most_names-via-then-len-most_names}
use Rattle.ra_history_lines.proofs.name.Names.list.Goals.{then-len-most_names-via-else-len-most_names+then-not-is_new}

pub returns-then-len-most_names-clause-syntax : goal.returns-then-len-most_names-clause-syntax
returns-then-len-most_names-clause-syntax c is_syntax may =
    let keys = c.self.inside.set.keys in
    let names = as_many keys c.args.self.now c.self.view_is in
    elim c.then-len-most_names.branch [
      | then-len-most_names-via-then-len-most_names w ↦
          absurd (omega (arith, may.room, names, c.len.ensures.len, c.most_names.ensures, w.if-len-most_names.true))
      | then-len-most_names-via-else-len-most_names+then-not-is_new w ↦
          let good = not_bad c.args.format c.args.self.now c.args.name.now may in
          let bad = bad_tested w.is_new.result c.args.self.now c.args.name.now w.is_new.ensures w.if-not-is_new.true in
          let both : true ≡ false = sym bad ∙ good in
          absurd cc
    ]

pub push-requires : goal.push-requires
push-requires c = in_any c.args.format _ _
    (new_may_join c.args.format c.self.inside.set.keys _ _ _ c.self.view_is (search rules steps 100000)
    c.is_new.ensures c.if-not-is_new.false)

pub returns-in-Ok-clause-may : goal.returns-in-Ok-clause-may
returns-in-Ok-clause-may c = new_may_join c.args.format c.self.inside.set.keys _ _ _ c.self.view_is
    (search rules steps 100000) c.is_new.ensures c.if-not-is_new.false
