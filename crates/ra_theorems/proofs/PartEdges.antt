-- Lemmas on the edges that the parts of a list require: together they are those that the records require.
use Rattle.std.proofs.Common.{◌≡◌, ℕ, List, [], ◌∷◌, refl, sym, subst, inl, inr}
use Rattle.std.specs.Prelude.{Contains, flat_map}
use Rattle.std.proofs.lemmas.List.{append-nil}
use Rattle.std.proofs.lemmas.List.Elements.{Contains-append_left, Contains-append_right, Contains-append_cases}
use Rattle.ra_labels.specs.declared.edge.Edge.{Edge}
use Rattle.ra_labels.specs.declared.label.Label.{Label}
use Rattle.ra_labels.specs.declared.operation.Op.{Op}
use Rattle.ra_labels.specs.declared.operation.Op.TheVariants as op
use Rattle.ra_labels.specs.declared.operation.Update.TheVariants as updates
use Rattle.ra_labels.specs.declared.operation.Query.TheVariants as queries
use Rattle.ra_labels.specs.declared.list_operation.ListOp.TheVariants as list
use Rattle.ra_labels.specs.declared.list_operation.ListUpdate.TheVariants.{Put}
use Rattle.ra_labels.specs.declared.list_operation.ListQuery.TheVariants as ask
use Rattle.ra_labels.specs.declared.command.Command.TheVariants.{Operate}
use Rattle.ra_labels.specs.Edges.{Extends}
use Rattle.ra_labels.specs.ListOperations.{edges_of_update, edges_of_query}
use Rattle.ra_labels.specs.ListHistory.{inserted_by, edges_required_by, inserted_elements, required_edges}
use Rattle.ra_labels.specs.Records.{Records, label_count, next_label, labels_of}
use Rattle.ra_labels.specs.Rewriting.{Part, Half, Act, Does, Asks, acts_of, part_of, parts_of}
use Rattle.ra_labels.specs.Linearization.{parts_in}
use Rattle.ra_labels.proofs.Members.{head_or_behind, at_head, behind_head, none_there, reached, from_where, piece_of, in_piece}
use Rattle.ra_theorems.proofs.Deliveries.{part_makes, made_by}
use Rattle.ra_theorems.proofs.ListsInAnyOrder.{Inserts}

-- the edges that an act of the label with this number requires
abbrev pub edges_of_act : ℕ → Act → List Edge
edges_of_act n (Does (updates.List change)) = edges_of_update n change
edges_of_act n (Asks (queries.List question)) = edges_of_query n question
edges_of_act n _ = []

abbrev pub edges_of_part : Part → List Edge
edges_of_part part = edges_of_act part.label.number part.act

abbrev edges_of_half : ℕ → Half × Act → List Edge
edges_of_half n act = edges_of_act n act.1

-- the edges of an operation are those of what it is rewritten into
edges_of_halves : (n : ℕ) (operation : Op)
    → flat_map (edges_of_half n) (acts_of operation) ≡ edges_required_by n operation
edges_of_halves n op.Inc = refl
edges_of_halves n op.Dec = refl
edges_of_halves n (op.Count v) = refl
edges_of_halves n (op.Write value) = refl
edges_of_halves n (op.Last value) = refl
edges_of_halves n (op.LwwAdd x) = refl
edges_of_halves n (op.LwwRemove x) = refl
edges_of_halves n (op.LwwRead elements) = refl
edges_of_halves n (op.OrAdd x id) = refl
edges_of_halves n (op.OrRemove x ids) = refl
edges_of_halves n (op.OrRead elements) = refl
edges_of_halves n (op.After anchor x) = refl
edges_of_halves n (op.RgaRemove x) = refl
edges_of_halves n (op.RgaRead elements) = refl
edges_of_halves n (op.List (list.Insert insertion)) = append-nil (edges_of_update n (Put insertion))
edges_of_halves n (op.List (list.Remove x)) = refl
edges_of_halves n (op.List (list.Read elements)) = append-nil (edges_of_query n (ask.Read elements))
edges_of_halves n (op.List (list.Part elements)) = append-nil (edges_of_query n (ask.Part elements))
edges_of_halves n op.AnyUpdate = refl
edges_of_halves n (op.AnyRead value) = refl
edges_of_halves n (op.MvWrite value) = refl
edges_of_halves n (op.MvRead values) = refl

-- the records require the edges of their labels
pub required_by_label : (records : Records) (edge : Edge) → Contains (required_edges records) edge
    → (label : Label) × Contains (labels_of records) label
    × Contains (edges_required_by label.number label.op) edge
required_by_label [] edge there = absurd (none_there edge there)
required_by_label (Operate by operation clock ∷ before) edge there =
    let newest = next_label before by operation clock in
    elim (Contains-append_cases (required_edges before) (edges_required_by (label_count before) operation) edge there) [
      | inl earlier ↦
          let (label, found, requires) = required_by_label before edge earlier in
          (label, behind_head newest (labels_of before) label found, requires)
      | inr here ↦ (newest, at_head newest (labels_of before) newest refl, here)
    ]
required_by_label (_ ∷ before) edge there = required_by_label before edge there

pub label_requires : (records : Records) (label : Label) (edge : Edge) → Contains (labels_of records) label
    → Contains (edges_required_by label.number label.op) edge → Contains (required_edges records) edge
label_requires [] label edge found requires = absurd (none_there label found)
label_requires (Operate by operation clock ∷ before) label edge found requires =
    let newest = next_label before by operation clock in
    let own = edges_required_by (label_count before) operation in
    elim (head_or_behind newest (labels_of before) label found) [
      | inl here ↦ Contains-append_right (required_edges before) own edge
          (subst (λ (l : Label). Contains (edges_required_by l.number l.op) edge) (sym here) requires)
      | inr earlier ↦ Contains-append_left (required_edges before) own edge
          (label_requires before label edge earlier requires)
    ]
label_requires (_ ∷ before) label edge found requires = label_requires before label edge found requires

-- holds if the order extends the edges of each of the parts
abbrev pub ExtendsEach : List ℕ → List Part → Type 0
ExtendsEach order parts = (part : Part) → Contains parts part → Extends order (edges_of_part part)

pub each_from_required : (order : List ℕ) (records : Records) → Extends order (required_edges records)
    → ExtendsEach order (parts_in records)
each_from_required order records extends part there edge edge_there =
    let (label, found, of_label) = piece_of parts_of (labels_of records) part there in
    let (act, act_there, same) = from_where (part_of label) (acts_of label.op) part of_label in
    let requires = in_piece (edges_of_half label.number) (acts_of label.op) act edge act_there
    (subst (λ p. Contains (edges_of_part p) edge) (sym same) edge_there) in
    extends edge (label_requires records label edge found
    (subst (λ edges. Contains edges edge) (edges_of_halves label.number label.op) requires))

-- each required edge is one of a part
pub required_by_part : (records : Records) (edge : Edge) → Contains (required_edges records) edge
    → (part : Part) × Contains (parts_in records) part × Contains (edges_of_part part) edge
required_by_part records edge there =
    let (label, found, requires) = required_by_label records edge there in
    let (act, act_there, edge_there) = piece_of (edges_of_half label.number) (acts_of label.op) edge
    (subst (λ edges. Contains edges edge) (sym (edges_of_halves label.number label.op)) requires) in
    let part = part_of label act in (
      part,
      in_piece parts_of (labels_of records) label part found
          (reached (part_of label) (acts_of label.op) act act_there),
      edge_there,
    )

pub required_from_each : (order : List ℕ) (records : Records) → ExtendsEach order (parts_in records)
    → Extends order (required_edges records)
required_from_each order records each edge there =
    let (part, found, edge_there) = required_by_part records edge there in
    each part found edge edge_there

-- ---- the inserted elements

-- the records insert the elements of their labels
pub label_inserts : (records : Records) (label : Label) (x : ℕ) → Contains (labels_of records) label
    → Contains (inserted_by label.op) x → Contains (inserted_elements records) x
label_inserts [] label x found inserts = absurd (none_there label found)
label_inserts (Operate by operation clock ∷ before) label x found inserts =
    let newest = next_label before by operation clock in
    let own = inserted_by operation in
    elim (head_or_behind newest (labels_of before) label found) [
      | inl here ↦ Contains-append_right (inserted_elements before) own x
          (subst (λ (l : Label). Contains (inserted_by l.op) x) (sym here) inserts)
      | inr earlier ↦ Contains-append_left (inserted_elements before) own x
          (label_inserts before label x earlier inserts)
    ]
label_inserts (_ ∷ before) label x found inserts = label_inserts before label x found inserts

pub inserted_by_label : (records : Records) (x : ℕ) → Contains (inserted_elements records) x
    → (label : Label) × Contains (labels_of records) label × Contains (inserted_by label.op) x
inserted_by_label [] x there = absurd (none_there x there)
inserted_by_label (Operate by operation clock ∷ before) x there =
    let newest = next_label before by operation clock in
    elim (Contains-append_cases (inserted_elements before) (inserted_by operation) x there) [
      | inl earlier ↦
          let (label, found, inserts) = inserted_by_label before x earlier in
          (label, behind_head newest (labels_of before) label found, inserts)
      | inr here ↦ (newest, at_head newest (labels_of before) newest refl, here)
    ]
inserted_by_label (_ ∷ before) x there = inserted_by_label before x there

-- an element that a part inserts is among those that the records insert
pub inserted_by_part : (records : Records) (part : Part) (x : ℕ) → Contains (parts_in records) part → Inserts part x
    → Contains (inserted_elements records) x
inserted_by_part records part x there (insertion, does, is) =
    let (label, found, of_label) = piece_of parts_of (labels_of records) part there in
    let operation = made_by label.op (updates.List (Put insertion))
    (part_makes label part (updates.List (Put insertion)) of_label does) in
    label_inserts records label x found
    (subst (λ o. Contains (inserted_by o) x) (sym operation) (at_head insertion.element [] x is))
