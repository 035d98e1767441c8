use Rattle.ra_list_edges.proofs.PairEdges.{edge_added}
use Rattle.ra_list_edges.proofs.pairs.add_edge.Goals as goal

pub returns-clause-answer : goal.returns-clause-answer
returns-clause-answer c =
    edge_added (λ cycle. cycle.items) c.add.result c.args.order.now.edges c.add.new.self.edges
    (record { before = c.args.before; after = c.args.after; label = c.args.label }) _ c.add.ensures.answer
