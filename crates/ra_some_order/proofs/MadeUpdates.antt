-- Lemmas on the update that an operation makes, and on the parts of labels.
use Rattle.std.proofs.Common.{◌≡◌, true, Option, Some, None, refl, sym, ap, ◌∙◌, subst, inl, inr, arith}
use Rattle.std.specs.Prelude.{◌⊎◌, is_some, Contains}
use Rattle.std.specs.List.{AllByRecursion}
use Rattle.std.proofs.lemmas.Bool.{false≢true}
use Rattle.std.proofs.lemmas.Option.{none-some}
use Rattle.ra_labels.specs.declared.operation.Op.{Op}
use Rattle.ra_labels.specs.declared.operation.Op.TheVariants as op
use Rattle.ra_labels.specs.declared.list_operation.ListOp.TheVariants as list
use Rattle.ra_labels.specs.declared.list_operation.ListUpdate.TheVariants as change
use Rattle.ra_labels.specs.declared.operation.Update.{Update}
use Rattle.ra_labels.specs.declared.operation.Update.TheVariants as updates
use Rattle.ra_labels.specs.declared.label.Label.{Label}
use Rattle.ra_labels.specs.Records.{Records, labels_of}
use Rattle.ra_labels.specs.Visibility.{is_update}
use Rattle.ra_labels.specs.Rewriting.{Half, Part, Act, acts_of, part_of, parts_of, update_of}
use Rattle.ra_labels.specs.Linearization.{parts_in}
use Rattle.ra_labels.proofs.Members.{everyone, reached, from_where, piece_of, in_piece}
use Rattle.ra_labels.proofs.Parts.{part_is_of}

-- the update that the operation makes; none if it is no update
abbrev pub update_made : Op → Option Update
update_made op.Inc = Some updates.Inc
update_made op.Dec = Some updates.Dec
update_made (op.Count v) = None
update_made (op.Write value) = Some (updates.Write value)
update_made (op.Last value) = None
update_made (op.LwwAdd x) = Some (updates.LwwAdd x)
update_made (op.LwwRemove x) = Some (updates.LwwRemove x)
update_made (op.LwwRead list) = None
update_made (op.OrAdd x id) = Some (updates.OrAdd x id)
update_made (op.OrRemove x ids) = Some (updates.TakeOut x ids)
update_made (op.OrRead list) = None
update_made (op.After anchor x) = Some (updates.After anchor x)
update_made (op.RgaRemove x) = Some (updates.RgaRemove x)
update_made (op.RgaRead list) = None
update_made (op.List (list.Insert insertion)) = Some (updates.List (change.Put insertion))
update_made (op.List (list.Remove x)) = Some (updates.List (change.Hide x))
update_made (op.List (list.Read elements)) = None
update_made (op.List (list.Part elements)) = None
update_made op.AnyUpdate = Some updates.AnyUpdate
update_made (op.AnyRead value) = None
update_made (op.MvWrite value) = Some (updates.MvWrite value)
update_made (op.MvRead values) = None

-- an act of the operation is no update, or makes its update
abbrev IsMadeBy : Op → Half × Act → Type 0
IsMadeBy operation act = (update_of act.1 ≡ None) ⊎ (update_of act.1 ≡ update_made operation)

all_made : (operation : Op) → AllByRecursion (IsMadeBy operation) (acts_of operation)
all_made op.Inc = (inr refl, tt)
all_made (op.OrRemove x ids) = (inl refl, (inr refl, tt))
all_made (op.List (list.Insert insertion)) = (inl refl, (inr refl, tt))
all_made (op.List (list.Remove x)) = (inl refl, (inr refl, tt))
all_made (op.List (list.Read elements)) = (inr refl, tt)
all_made (op.List (list.Part elements)) = (inr refl, tt)
all_made _ = (inr refl, tt)

-- and one act makes it
pub making_act : (operation : Op) (u : Update) → update_made operation ≡ Some u
    → (act : Half × Act) × Contains (acts_of operation) act × (update_of act.1 ≡ Some u)
making_act op.Inc u is = (_, (0, omega arith, refl), is)
making_act op.Dec u is = (_, (0, omega arith, refl), is)
making_act (op.Write value) u is = (_, (0, omega arith, refl), is)
making_act (op.LwwAdd x) u is = (_, (0, omega arith, refl), is)
making_act (op.LwwRemove x) u is = (_, (0, omega arith, refl), is)
making_act (op.OrAdd x id) u is = (_, (0, omega arith, refl), is)
making_act (op.OrRemove x ids) u is = (_, (1, omega arith, refl), is)
making_act (op.After anchor x) u is = (_, (0, omega arith, refl), is)
making_act (op.RgaRemove x) u is = (_, (0, omega arith, refl), is)
making_act (op.List (list.Insert insertion)) u is = (_, (1, omega arith, refl), is)
making_act (op.List (list.Remove x)) u is = (_, (1, omega arith, refl), is)
making_act (op.List (list.Read elements)) u is = absurd (none-some u is)
making_act (op.List (list.Part elements)) u is = absurd (none-some u is)
making_act op.AnyUpdate u is = (_, (0, omega arith, refl), is)
making_act (op.MvWrite value) u is = (_, (0, omega arith, refl), is)
making_act _ u is = absurd (none-some u is)

pub update_if_made : (operation : Op) → is_some (update_made operation) ≡ is_update operation
update_if_made op.Inc = refl
update_if_made (op.List (list.Insert insertion)) = refl
update_if_made (op.List (list.Remove x)) = refl
update_if_made (op.List (list.Read elements)) = refl
update_if_made (op.List (list.Part elements)) = refl
update_if_made _ = refl

pub is_some-value : {A : Type 0} (o : Option A) → is_some o ≡ true → (x : A) × (o ≡ Some x)
is_some-value None is = absurd (false≢true is)
is_some-value (Some x) is = (x, refl)

pub some_update : (operation : Op) → is_update operation ≡ true → (u : Update) × (update_made operation ≡ Some u)
some_update operation is = is_some-value (update_made operation) (update_if_made operation ∙ is)

-- the label of a part belongs to the records, and its operation makes the update of the part
pub part_makes : (records : Records) (p : Part) (u : Update) → Contains (parts_in records) p → update_of p.act ≡ Some u
    → Contains (labels_of records) p.label × (update_made p.label.op ≡ Some u)
part_makes records p u there does =
    let (label, found, of_label) = piece_of parts_of (labels_of records) p there in
    let same = part_is_of label p of_label in
    let (act, among, is) = from_where (part_of label) (acts_of label.op) p of_label in
    let at_act : update_of act.1 ≡ Some u = ap (λ (q : Part). update_of q.act) is ∙ does in (
      subst (Contains (labels_of records)) (sym same) found,
      subst (λ (l : Label). update_made l.op ≡ Some u) (sym same)
          (elim (everyone (IsMadeBy label.op) (acts_of label.op) act (all_made label.op) among) [
            | inl none ↦ absurd (none-some u (sym none ∙ at_act))
            | inr made ↦ sym made ∙ at_act
          ]),
    )

-- a label whose operation makes an update has a part that does it
pub making_part : (records : Records) (label : Label) (u : Update) → Contains (labels_of records) label
    → update_made label.op ≡ Some u
    → (p : Part) × Contains (parts_in records) p × (p.label ≡ label) × (update_of p.act ≡ Some u)
making_part records label u found makes =
    let (act, there, does) = making_act label.op u makes in (
      part_of label act,
      in_piece parts_of (labels_of records) label (part_of label act) found
          (reached (part_of label) (acts_of label.op) act there),
      refl,
      does,
    )
