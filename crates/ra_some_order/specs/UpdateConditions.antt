-- The conditions that records place on an order of their updates. An update comes after those that it sees. The updates
-- that a read sees have to lead to its answer: the last write is one of the value that was read; the last update on an
-- element is an addition if the element was read, and a removal if not.
use Rattle.std.specs.Prelude.{◌≡◌, ℕ, true, List, [], ◌∷◌, map, flat_map, Contains, Option, ◌↔◌, if◌then◌else◌}
use Rattle.ra_labels.specs.declared.operation.Op.{Op}
use Rattle.ra_labels.specs.declared.operation.Op.TheVariants as op
use Rattle.ra_labels.specs.declared.label.Label.{Label}
use Rattle.ra_labels.specs.Lists.{is_among}
use Rattle.ra_labels.specs.Edges.{EachOnce}
use Rattle.ra_labels.specs.Records.{Records, labels_of}
use Rattle.ra_labels.specs.Visibility.{is_update, is_update_at}
use Rattle.ra_precedence.specs.Conditions.{Condition}
use Rattle.ra_some_order.specs.VisibleUpdates.{writes, writes_other, adds, removes, visible_labels, numbers_where, elements_in}

-- label m stands before label n
abbrev pub precedence : ℕ → ℕ → Condition
precedence m n = record { before = m ∷ []; after = n ∷ [] }

-- the last visible write is of the value
abbrev pub value_condition : List Label → Option ℕ → Condition
value_condition visible value =
    record { before = numbers_where (writes_other value) visible; after = numbers_where (writes value) visible }

-- the last visible update on the element is an addition if the element is listed, and a removal if not
abbrev pub element_condition : List Label → List ℕ → ℕ → Condition
element_condition visible list x =
    let added = numbers_where (adds x) visible in
    let removed = numbers_where (removes x) visible in
    if is_among x list then record { before = removed; after = added } else record { before = added; after = removed }

-- what the answer of an operation requires of the visible labels; nothing if it is no read
abbrev pub read_conditions : List Label → Op → List Condition
read_conditions visible (op.Last value) = value_condition visible value ∷ []
read_conditions visible (op.LwwRead list) = map (element_condition visible list) (elements_in visible)
read_conditions visible _ = []

-- the label comes after each visible one
abbrev pub visibility_conditions : List Label → ℕ → List Condition
visibility_conditions visible n = map (λ seen. precedence seen.number n) visible

-- an update comes after those that it sees, and a read's answer is right
abbrev pub conditions_of_label : Records → Label → List Condition
conditions_of_label records label =
    let visible = visible_labels records label.number in
    if is_update label.op then visibility_conditions visible label.number else read_conditions visible label.op

-- the conditions of all labels
abbrev pub conditions_of : Records → List Condition
conditions_of records = flat_map (conditions_of_label records) (labels_of records)

-- holds if the list has the number of each update once, and nothing else
pub record IsOrderOfUpdates (records : Records) (order : List ℕ) : Type 0 where
  pub once : EachOnce order
  pub all : (n : ℕ) → (is_update_at records n ≡ true) ↔ Contains order n
