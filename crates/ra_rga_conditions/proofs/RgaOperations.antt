-- The operations of an RGA: what they update and what they ask.
use Rattle.std.proofs.Common.{◌≡◌, ℕ, Bool, true, false, List, Option, Some, None, refl, sym, ap, ◌∙◌, subst}
use Rattle.std.specs.Prelude.{Contains}
use Rattle.std.specs.List.{AllByRecursion}
use Rattle.std.proofs.lemmas.Bool.{false≢true}
use Rattle.std.proofs.lemmas.Option.{none-some, same_Some}
use Rattle.ra_labels.specs.declared.kind.Kind.{Kind}
use Rattle.ra_labels.specs.declared.kind.Kind.TheVariants.{Rga}
use Rattle.ra_labels.specs.declared.operation.Op.{Op}
use Rattle.ra_labels.specs.declared.operation.Op.TheVariants as op
use Rattle.ra_labels.specs.declared.operation.Update.{Update}
use Rattle.ra_labels.specs.declared.operation.Update.TheVariants.{After, RgaRemove}
use Rattle.ra_labels.specs.declared.operation.Query.{Query}
use Rattle.ra_labels.specs.declared.operation.Query.TheVariants.{RgaRead}
use Rattle.ra_labels.specs.Answer.{kind_of}
use Rattle.ra_labels.specs.Records.{Records, labels_of}
use Rattle.ra_labels.specs.Rewriting.{Part, Half, Act, Asks, part_of, parts_of, acts_of, query_of}
use Rattle.ra_labels.specs.Linearization.{parts_in}
use Rattle.ra_labels.proofs.Members.{piece_of, from_where, everyone}
use Rattle.ra_some_order.specs.SomeOrder.{EachLabelIsOfKind}
use Rattle.ra_some_order.proofs.MadeUpdates.{update_made}
use Rattle.ra_rga_conditions.specs.Precedence.{rga_update}

abbrev is_rga : Kind → Bool
is_rga Rga = true
is_rga _ = false

-- the update of an operation of an RGA
pub data IsUpdateOf (operation : Op) (u : Update) : Type 0 where
  Inserting : (a x : ℕ) → operation ≡ op.After a x → u ≡ After a x → IsUpdateOf operation u
  Removing : (x : ℕ) → operation ≡ op.RgaRemove x → u ≡ RgaRemove x → IsUpdateOf operation u

pub rga_made : (operation : Op) (u : Update) → kind_of operation ≡ Rga → update_made operation ≡ Some u
    → IsUpdateOf operation u
rga_made (op.After a x) u is made = Inserting a x refl (sym (same_Some (After a x) u made))
rga_made (op.RgaRemove x) u is made = Removing x refl (sym (same_Some (RgaRemove x) u made))
rga_made (op.RgaRead list) u is made = absurd (none-some u made)
rga_made _ u is made = absurd (false≢true (ap is_rga is))

pub as_rga : (operation : Op) (u : Update) → IsUpdateOf operation u → rga_update operation ≡ Some u
as_rga operation u (Inserting a x is u_is) = ap rga_update is ∙ ap Some (sym u_is)
as_rga operation u (Removing x is u_is) = ap rga_update is ∙ ap Some (sym u_is)

-- the query of an operation of an RGA
abbrev rga_query : Op → Option Query
rga_query (op.RgaRead list) = Some (RgaRead list)
rga_query _ = None

all_ask : (operation : Op) → kind_of operation ≡ Rga
    → AllByRecursion (λ (act : Half × Act). query_of act.1 ≡ rga_query operation) (acts_of operation)
all_ask (op.After a x) is = (refl, tt)
all_ask (op.RgaRemove x) is = (refl, tt)
all_ask (op.RgaRead list) is = (refl, tt)
all_ask _ is = absurd (false≢true (ap is_rga is))

read_asked : (operation : Op) (query : Query) → rga_query operation ≡ Some query
    → (list : List ℕ) × (operation ≡ op.RgaRead list) × (query ≡ RgaRead list)
read_asked (op.RgaRead list) query is = (list, refl, sym (same_Some (RgaRead list) query is))
read_asked _ query is = absurd (none-some query is)

-- a part that asks is one of a read
pub asking_part : (records : Records) → EachLabelIsOfKind Rga records → (p : Part) (query : Query)
    → Contains (parts_in records) p → p.act ≡ Asks query
    → (list : List ℕ) × Contains (labels_of records) p.label × (p.label.op ≡ op.RgaRead list) × (query ≡ RgaRead list)
asking_part records of_kind p query there asks =
    let (label, found, of_label) = piece_of parts_of (labels_of records) p there in
    let (act, among, is) = from_where (part_of label) (acts_of label.op) p of_label in
    let asked : query_of act.1 ≡ rga_query label.op =
    everyone (λ (act : Half × Act). query_of act.1 ≡ rga_query label.op) (acts_of label.op) act
    (all_ask label.op (of_kind label found)) among in
    let its : query_of p.act ≡ Some query = ap query_of asks in
    let label_is : label ≡ p.label = ap (λ (q : Part). q.label) is in
    let (list, op_is, query_is) = read_asked label.op query (sym asked ∙ ap (λ (q : Part). query_of q.act) is ∙ its) in (
      list,
      subst (Contains (labels_of records)) label_is found,
      ap (λ l. l.op) (sym label_is) ∙ op_is,
      query_is,
    )

-- an update of an RGA is the one that the operation makes
pub made_update : (operation : Op) (u : Update) → rga_update operation ≡ Some u → update_made operation ≡ Some u
made_update (op.After anchor x) u is = is
made_update (op.RgaRemove x) u is = is
made_update _ u is = absurd (none-some u is)
