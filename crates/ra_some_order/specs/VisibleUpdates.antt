-- The updates of a register and of an LWW set among the labels that a label sees.
use Rattle.std.specs.Prelude.{◌≡◌, ℕ, ◌==◌, Bool, false, not, List, [], ◌∷◌, map, filter, flat_map, Contains, Option, Some}
use Rattle.ra_labels.specs.declared.operation.Op.{Op}
use Rattle.ra_labels.specs.declared.operation.Op.TheVariants as op
use Rattle.ra_labels.specs.declared.label.Label.{Label}
use Rattle.ra_labels.specs.Records.{Records, labels_of}
use Rattle.ra_labels.specs.Visibility.{sees}

-- `true` if the operation writes the value to a register; no operation writes none
abbrev pub writes : Option ℕ → Op → Bool
writes (Some value) (op.Write written) = value == written
writes _ _ = false

-- `true` if the operation writes another value to a register
abbrev pub writes_other : Option ℕ → Op → Bool
writes_other value (op.Write written) = not (writes value (op.Write written))
writes_other value _ = false

-- `true` if the operation adds the element to an LWW set
abbrev pub adds : ℕ → Op → Bool
adds x (op.LwwAdd y) = x == y
adds x _ = false

-- `true` if the operation removes the element from an LWW set
abbrev pub removes : ℕ → Op → Bool
removes x (op.LwwRemove y) = x == y
removes x _ = false

-- the elements that the operation adds to an LWW set or removes from it: one at most
abbrev pub elements_changed : Op → List ℕ
elements_changed (op.LwwAdd x) = x ∷ []
elements_changed (op.LwwRemove x) = x ∷ []
elements_changed _ = []

-- the labels that label n sees, newest first
abbrev pub visible_labels : Records → ℕ → List Label
visible_labels records n = filter (λ label. sees records n label.number) (labels_of records)

-- the numbers of the labels whose operation passes the test
abbrev pub numbers_where : (Op → Bool) → List Label → List ℕ
numbers_where passes labels = map (λ label. label.number) (filter (λ label. passes label.op) labels)

-- the elements that the labels add or remove
abbrev pub elements_in : List Label → List ℕ
elements_in labels = flat_map (λ label. elements_changed label.op) labels

-- holds if one of the labels has this operation
abbrev pub HasOperation : List Label → Op → Type 0
HasOperation labels operation = (label : Label) × Contains labels label × (label.op ≡ operation)
