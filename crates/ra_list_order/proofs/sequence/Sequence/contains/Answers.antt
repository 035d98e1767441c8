use Rattle.std.proofs.Common.{subst}
use Rattle.std.specs.Prelude.{Contains, IsTrue, ◌↔◌}
use Rattle.ra_list_order.specs.Chunks.{joined, group_in}
use Rattle.ra_list_order.proofs.Spans.{contains_read}
use Rattle.ra_list_order.proofs.sequence.Sequence.contains.Goals as goal

pub returns : goal.returns
returns c =
    subst (λ cs. IsTrue c.has_group.result ↔ Contains (joined cs) c.args.element) c.self.view_is
    (contains_read (group_in c.self.inside.groups.items) c.self.inside.chunks.items c.self.inside.places.items
    c.self.invariant c.args.element c.has_group.result c.has_group.ensures)
