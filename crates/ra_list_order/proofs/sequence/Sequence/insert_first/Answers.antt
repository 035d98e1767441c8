use Rattle.std.proofs.Common.{◌≡◌, ◌<◌, ◌∷◌, ◌∙◌, List, ℕ, length, vec_len, ap, sym, arith}
use Rattle.std.proofs.lemmas.Bool.{eqb-false}
use Rattle.ra_labels.proofs.Results.{on_ok}
use Rattle.ra_list_order.specs.Chunks.{Chunk, joined, IsInsertedAt}
use Rattle.ra_list_order.proofs.Insertions.{put_first_in}
use Rattle.ra_list_order.proofs.sequence.Sequence.insert_first.Goals as goal
use Rattle.ra_list_order.proofs.sequence.Sequence.insert_first.Goals.{then-is_empty+in_ok-push_chunk, else-is_empty}

same : (c : goal.After-insert_at) → joined c.make_room.new.self ≡ joined c.args.self.now
same c = c.make_room.ensures.joined ∙ elim c.if-is_empty.branch [
  | then-is_empty+in_ok-push_chunk w ↦ ap joined w.self-is ∙ w.push_chunk.ensures.joined
  | else-is_empty w ↦ ap joined w.self-is
]

some : (c : goal.After-insert_at) → 0 < length c.make_room.new.self
some c = elim c.if-is_empty.branch [
  | then-is_empty+in_ok-push_chunk w ↦
      let one = w.in_ok-push_chunk.ensures.some in
      let is = ap (λ (cs : List Chunk). length cs) w.self-is in
      let more = c.make_room.ensures.as_many in
      omega (arith, one, is, more)
  | else-is_empty w ↦
      let some_there = eqb-false (vec_len c.self.inside.chunks) 0 (sym w.if-is_empty.ensures) in
      let size = c.self.inside.chunks.ok.0 in
      let view = ap (λ (cs : List Chunk). length cs) c.self.view_is in
      let is = ap (λ (cs : List Chunk). length cs) w.self-is in
      let more = c.make_room.ensures.as_many in
      omega (arith, some_there, size, view, is, more)
]

pub returns-clause-put : goal.returns-clause-put
returns-clause-put c =
    on_ok c.insert_at.result c.insert_at.ensures.inserted
    (λ (made : IsInsertedAt c.make_room.new.self 0 0 c.args.element
    c.insert_at.new.self). put_first_in c.make_room.new.self c.insert_at.new.self c.args.element (some c) made
    ∙ ap (λ (xs : List ℕ). c.args.element ∷ xs) (same c))
