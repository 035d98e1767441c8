-- A lemma on the arcs of a drawing, one after another.
use Rattle.std.proofs.Common.{◌≡◌, ℕ, ◌+◌, ◌<◌, List, ◌++◌, drop, get_or, length, ap, sym, ◌∙◌}
use Rattle.std.specs.Prelude.{flat_map}
use Rattle.std.proofs.lemmas.List.{append_assoc, drop_more}

-- after the bytes of one more item
pub flat_next : {X : Type 0} (f : X → List ℕ) (xs : List X) (i : ℕ) (d : X) (old new all : List ℕ) → i < length xs
    → old ++ flat_map f (drop i xs) ≡ all → new ≡ old ++ f (get_or xs i d)
    → new ++ flat_map f (drop (i + 1) xs) ≡ all
flat_next f xs i d old new all below so_far same =
    ap (λ (bs : List ℕ). bs ++ flat_map f (drop (i + 1) xs)) same
    ∙ append_assoc old (f (get_or xs i d)) (flat_map f (drop (i + 1) xs))
    ∙ sym (ap (λ (ys : List _). old ++ flat_map f ys) (drop_more xs i d below)) ∙ so_far
