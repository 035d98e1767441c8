use Rattle.std.proofs.Common.{◌≡◌, ◌-◌, [], ◌∷◌, ◌++◌, get_or, sym, ap, ◌∙◌, arith, append_assoc, take}
use Rattle.ra_labels.specs.Reads.{edges_of_read}
use Rattle.ra_explain.proofs.Conflicts.{pairs_more, edge_of}
use Rattle.ra_explain.proofs.edges.add_read.Goals as goal

pub loop-next-preserved : goal.loop-next-preserved
loop-next-preserved c =
    let list = c.args.list.now in
    let l = c.loop-next in
    let more = edge_of c.args.label (get_or list (l.next - 1) 0) (get_or list l.next 0) ∷ [] in
    c.in_ok-push.ensures.items ∙ ap (λ es. es ++ more) l.invariant
    ∙ append_assoc c.args.edges.now.items (edges_of_read c.args.label (take l.next list)) more
    ∙ ap (λ es. c.args.edges.now.items ++ es) (sym (pairs_more c.args.label list l.next (omega arith) (omega arith)))
