use Rattle.std.proofs.Common.{◌≡◌, ◌+◌, ap, sym, ◌∙◌}
use Rattle.ra_explain.proofs.Retold.{told_next, told_more, told_same}
use Rattle.ra_explain.proofs.changes.tell_kept.Goals as goal
use Rattle.ra_explain.proofs.changes.tell_kept.Goals.{then-is_kept+in_ok-copy+in_ok-tell, else-is_kept}

pub loop-entry-preserved : goal.loop-entry-preserved
loop-entry-preserved c =
    let l = c.loop-entry in
    let next = told_next _ _ _ _ _ _ _ c.loop-entry-test.true c.entry-item.is l.invariant.told in
    let place : l.place + 1 ≡ l.entry-index + 1 = ap (λ n. n + 1) l.invariant.place in
    elim c.if-is_kept.branch [
      | then-is_kept+in_ok-copy+in_ok-tell w ↦ rw w.trial-is record {
        told = told_more _ _ _ _ _ _ _ _ next (sym c.is_kept.ensures ∙ w.if-is_kept.true)
            (λ commands told. rw w.in_ok-copy.ensures at (w.in_ok-tell.ensures.told commands told).1);
        place = place;
        setup = w.tell.ensures.same_setup ∙ l.invariant.setup;
      }
      | else-is_kept w ↦ rw w.trial-is record {
        told = told_same _ _ _ _ _ _ _ next (sym c.is_kept.ensures ∙ w.if-is_kept.false);
        place = place;
        setup = l.invariant.setup;
      }
    ]
