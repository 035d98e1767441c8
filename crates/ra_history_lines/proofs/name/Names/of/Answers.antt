use Rattle.std.proofs.Common.{ℕ, List, sym, subst}
use Rattle.ra_history_lines.specs.Names.{MayJoin}
use Rattle.ra_history_lines.specs.declared.format.Format.TheVariants.{Rah2}
use Rattle.ra_history_lines.proofs.NameLists.{may_join_at}
use Rattle.ra_history_lines.proofs.name.Names.of.Goals as goal

pub push-requires : goal.push-requires
push-requires c =
    subst (λ (name : List ℕ). MayJoin Rah2 c.loop-name.list name) (sym c.as_bytes.ensures.value)
    (may_join_at c.args.names.now c.loop-name.name-index _ c.loop-name.list c.loop-name-test.true
    c.loop-name.invariant c.requires)
