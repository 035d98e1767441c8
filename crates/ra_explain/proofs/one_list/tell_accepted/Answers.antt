use Rattle.std.proofs.Common.{sym, ◌∙◌}
use Rattle.ra_explain.proofs.ListRetold.{list_next, list_more, list_same}
use Rattle.ra_explain.proofs.one_list.tell_accepted.Goals as goal
use Rattle.ra_explain.proofs.one_list.tell_accepted.Goals.{then-is_accepting_reply+in_ok-list_command+in_ok-tell, else-is_accepting_reply}

pub loop-entry-preserved : goal.loop-entry-preserved
loop-entry-preserved c =
    let l = c.loop-entry in
    let next = list_next _ _ _ _ c.loop-entry-test.true c.entry-item.is l.invariant.told in
    elim c.if-is_accepting_reply.branch [
      | then-is_accepting_reply+in_ok-list_command+in_ok-tell w ↦ rw w.trial-is record {
        told = list_more _ _ _ _ _ next (sym c.is_accepting_reply.ensures ∙ w.if-is_accepting_reply.true)
            (λ commands told. rw w.in_ok-list_command.ensures at (w.in_ok-tell.ensures.told commands told).1);
        setup = w.tell.ensures.same_setup ∙ l.invariant.setup;
      }
      | else-is_accepting_reply w ↦ rw w.trial-is record {
        told = list_same _ _ _ _ next (sym c.is_accepting_reply.ensures ∙ w.if-is_accepting_reply.false);
        setup = l.invariant.setup;
      }
    ]
