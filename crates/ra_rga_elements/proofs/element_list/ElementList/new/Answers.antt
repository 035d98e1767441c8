use Rattle.std.proofs.Common.{◌≡◌, ℕ, ap, ◌∙◌, cond, Some, None, [], ◌∷◌, rules}
use Rattle.std.specs.Prelude.{nat_eq, ◌==◌}
use Rattle.std.specs.HashMap.{get}
use Rattle.ra_rga_elements.specs.Groups.{no_element}
use Rattle.ra_rga_elements.proofs.NewLists.{kept_new}
use Rattle.ra_rga_elements.proofs.element_list.ElementList.new.Goals as goal

pub invariant_of-result : goal.invariant_of-result
invariant_of-result c =
    let empty : (x : ℕ) → get nat_eq c.new-numbers.result x ≡ None = λ x. search rules in
    let is : (x : ℕ) → get nat_eq c.insert.new.self x ≡ cond (0 == x) (Some 0) None =
    λ x. c.in_ok-insert.ensures.updates.0 x ∙ ap (λ n. cond (0 == x) (Some 0) n) (empty x) in
    let elements : c.in_ok-vec.field-0.items ≡ no_element ∷ [] = search rules in
    let chunks : c.in_ok-vec-2.field-0.items ≡ c.in_ok-chunk.chunk ∷ [] = search rules in
    let places : c.in_ok-vec-3.field-0.items ≡ 0 ∷ [] = search rules in
    kept_new (get nat_eq c.insert.new.self) c.in_ok-vec.field-0.items c.in_ok-vec-2.field-0.items
    c.in_ok-vec-3.field-0.items c.in_ok-chunk.chunk is elements chunks c.in_ok-chunk.ensures.entries places
