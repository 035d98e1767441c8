use Rattle.std.proofs.Common.{◌≡◌, true, ℕ, List, sym, ap, ◌∙◌, arith}
use Rattle.std.proofs.lemmas.List.{length-map}
use Rattle.ra_history_lines.specs.Grammar.{is_name, index_of_name}
use Rattle.ra_history_lines.specs.Names.{bytes_of_each}
use Rattle.ra_history_lines.proofs.NameLists.{placed_is_name, replica_is_read}
use Rattle.ra_history_lines.proofs.name.Names.replica.Goals as goal
use Rattle.ra_history_lines.proofs.name.Names.replica.Goals.{then-place-len, else-place-len}

pub returns-then-is_name : goal.returns-then-is_name
returns-then-is_name c =
    let keys = c.self.inside.set.keys in
    let word = c.args.word.now in
    let place : c.place_near-place.result ≡ index_of_name (bytes_of_each keys) word = c.place_near-place.ensures.place in
    let is : is_name word ≡ true =
    elim c.if-place-len.branch [
      | then-place-len w ↦
          placed_is_name (bytes_of_each keys) word c.self.invariant.each
          (omega (arith, place, w.if-place-len.true, c.len.ensures.len, length-map keys (λ name. name.items)))
      | else-place-len w ↦ sym w.is_name.ensures ∙ sym w.value-is ∙ c.if-is_name.true
    ] in
    replica_is_read c.args.self.now word c.place_near-place.result is
    (place ∙ ap (λ (names : List (List ℕ)). index_of_name names word) c.self.view_is)
