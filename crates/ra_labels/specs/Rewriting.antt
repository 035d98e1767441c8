-- The rewriting: a query-update becomes a query half and an update half; any other label is a single part.
use Rattle.std.specs.Prelude.{◌∷◌, [], List, map, Option, Some, None, filter_map}
use Rattle.ra_labels.specs.declared.operation.Op.{Op}
use Rattle.ra_labels.specs.declared.operation.Op.TheVariants as op
use Rattle.ra_labels.specs.declared.list_operation.ListOp.TheVariants as list
use Rattle.ra_labels.specs.declared.list_operation.ListUpdate.TheVariants as change
use Rattle.ra_labels.specs.declared.list_operation.ListQuery.TheVariants as ask
use Rattle.ra_labels.specs.declared.operation.Update.{Update}
use Rattle.ra_labels.specs.declared.operation.Update.TheVariants.{Inc, Dec, Write, LwwAdd, LwwRemove, OrAdd, TakeOut, After, RgaRemove}
use Rattle.ra_labels.specs.declared.operation.Update.TheVariants as updates
use Rattle.ra_labels.specs.declared.operation.Query.{Query}
use Rattle.ra_labels.specs.declared.operation.Query.TheVariants.{Count, Last, LwwRead, ReadIds, OrRead, RgaRead}
use Rattle.ra_labels.specs.declared.operation.Query.TheVariants as queries
use Rattle.ra_labels.specs.declared.label.Label.{Label}

-- which part of its label a part is: the whole label, or one of its two halves
pub data Half : Type 0 where
  Whole : Half
  QueryHalf : Half
  UpdateHalf : Half

-- what a part does: an update, or a query with its answer
pub data Act : Type 0 where
  Does : Update → Act
  Asks : Query → Act

pub record Part : Type 0 where
  pub label : Label
  pub half : Half
  pub act : Act

-- the parts that an operation is rewritten into, the query half before the update half
abbrev pub acts_of : Op → List (Half × Act)
acts_of op.Inc = (Whole, Does Inc) ∷ []
acts_of op.Dec = (Whole, Does Dec) ∷ []
acts_of (op.Count v) = (Whole, Asks (Count v)) ∷ []
acts_of (op.Write value) = (Whole, Does (Write value)) ∷ []
acts_of (op.Last value) = (Whole, Asks (Last value)) ∷ []
acts_of (op.LwwAdd x) = (Whole, Does (LwwAdd x)) ∷ []
acts_of (op.LwwRemove x) = (Whole, Does (LwwRemove x)) ∷ []
acts_of (op.LwwRead list) = (Whole, Asks (LwwRead list)) ∷ []
acts_of (op.OrAdd x id) = (Whole, Does (OrAdd x id)) ∷ []
acts_of (op.OrRemove x ids) = (QueryHalf, Asks (ReadIds x ids)) ∷ (UpdateHalf, Does (TakeOut x ids)) ∷ []
acts_of (op.OrRead list) = (Whole, Asks (OrRead list)) ∷ []
acts_of (op.After anchor x) = (Whole, Does (After anchor x)) ∷ []
acts_of (op.RgaRemove x) = (Whole, Does (RgaRemove x)) ∷ []
acts_of (op.RgaRead list) = (Whole, Asks (RgaRead list)) ∷ []
acts_of (op.List (list.Insert insertion)) =
    (QueryHalf, Asks (queries.List (ask.Near insertion))) ∷
    (UpdateHalf, Does (updates.List (change.Put insertion))) ∷
    []
acts_of (op.List (list.Remove x)) =
    (QueryHalf, Asks (queries.List (ask.Has x))) ∷ (UpdateHalf, Does (updates.List (change.Hide x))) ∷ []
acts_of (op.List (list.Read elements)) = (Whole, Asks (queries.List (ask.Read elements))) ∷ []
acts_of (op.List (list.Part elements)) = (Whole, Asks (queries.List (ask.Part elements))) ∷ []
acts_of op.AnyUpdate = (Whole, Does updates.AnyUpdate) ∷ []
acts_of (op.AnyRead value) = (Whole, Asks (queries.AnyRead value)) ∷ []
acts_of (op.MvWrite value) = (Whole, Does (updates.MvWrite value)) ∷ []
acts_of (op.MvRead values) = (Whole, Asks (queries.MvRead values)) ∷ []

abbrev pub part_of : Label → Half × Act → Part
part_of from act = record { label = from; half = act.0; act = act.1 }

abbrev pub parts_of : Label → List Part
parts_of label = map (part_of label) (acts_of label.op)

abbrev pub update_of : Act → Option Update
update_of (Does update) = Some update
update_of (Asks query) = None

abbrev pub query_of : Act → Option Query
query_of (Does update) = None
query_of (Asks query) = Some query

-- the updates among the parts, in their order
abbrev pub updates_of : List Part → List Update
updates_of parts = filter_map (λ part. update_of part.act) parts
