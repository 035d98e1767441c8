use Rattle.std.proofs.Common.{ℕ, ◌∙◌, ap, rules}
use Rattle.std.specs.Prelude.{◌==◌, not}
use Rattle.std.proofs.lemmas.Fn.{filter_same}
use Rattle.ra_list_order.specs.Chunks.{Chunk}
use Rattle.ra_labels.specs.Listing.{without}
use Rattle.ra_list_order.proofs.chunk.Chunk.remove.Goals as goal

pub returns-clause-elements : goal.returns-clause-elements
returns-clause-elements c =
    filter_same _ (λ (y : ℕ). not (y == c.args.element)) _ (λ x b f' k. search rules) _ _ c.retain.ensures.filtered
    ∙ ap (λ (h : Chunk). without c.args.element h.elements) c.self.view_is
