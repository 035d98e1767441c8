-- Lemmas on the parts of the operations of a register and of an LWW set: each operation is one part, and its kind
-- decides what the part does.
use Rattle.std.proofs.Common.{◌≡◌, ℕ, Bool, true, false, List, [], ◌∷◌, Option, Some, None, refl, sym, ap, ◌∙◌, subst}
use Rattle.std.specs.Prelude.{◌↔◌, is_some, Contains}
use Rattle.std.specs.List.{cons_option, list_all, AllByRecursion}
use Rattle.std.proofs.lemmas.Bool.{false≢true, and_from}
use Rattle.std.proofs.lemmas.Option.{none-some, same_Some}
use Rattle.ra_labels.specs.declared.kind.Kind.{Kind}
use Rattle.ra_labels.specs.declared.kind.Kind.TheVariants.{Register, LwwSet}
use Rattle.ra_labels.specs.declared.operation.Op.{Op}
use Rattle.ra_labels.specs.declared.operation.Op.TheVariants as op
use Rattle.ra_labels.specs.declared.list_operation.ListOp.TheVariants as list
use Rattle.ra_labels.specs.declared.operation.Update.{Update}
use Rattle.ra_labels.specs.declared.operation.Update.TheVariants as updates
use Rattle.ra_labels.specs.declared.operation.Query.{Query}
use Rattle.ra_labels.specs.declared.operation.Query.TheVariants as queries
use Rattle.ra_labels.specs.declared.label.Label.{Label}
use Rattle.ra_labels.specs.Records.{Records, labels_of}
use Rattle.ra_labels.specs.Rewriting.{Half, Whole, QueryHalf, UpdateHalf, Part, Act, Does, Asks, acts_of, part_of, parts_of, update_of, query_of, updates_of}
use Rattle.ra_labels.specs.Specification.{State, Written, Members, state_after, is_admitted}
use Rattle.ra_labels.specs.Linearization.{parts_in, are_halves}
use Rattle.ra_labels.specs.Explained.{is_explained}
use Rattle.ra_labels.specs.Answer.{kind_of, is_kind}
use Rattle.ra_labels.specs.Commuting.{last_written, last_on}
use Rattle.ra_labels.specs.TheoremTerms.{kind_of_state, kind_of_update, kind_of_act, admits_all, IsAnsweredAfter}
use Rattle.ra_labels.proofs.InLists.{list_all-contains}
use Rattle.ra_labels.proofs.Members.{everyone, at_head, behind_head, from_where, piece_of}
use Rattle.ra_theorems.proofs.TheoremIndex.{part_kind, kind_updates_admitted-exactly, state_kind, register_last_write_wins-last, register_read_answer, lww_set_last_update_wins-has, lww_set_read_answer}
use Rattle.ra_some_order.specs.SomeOrder.{is_decided_by_conditions}
use Rattle.ra_some_order.proofs.MadeUpdates.{is_some-value}
use Rattle.ra_some_order.proofs.RightReads.{IsRightAfter}

-- the query of an operation; none if it is no read
abbrev pub query_asked : Op → Option Query
query_asked (op.Last value) = Some (queries.Last value)
query_asked (op.LwwRead list) = Some (queries.LwwRead list)
query_asked _ = None

-- an act asks the query of its operation
abbrev AsksIt : Op → Half × Act → Type 0
AsksIt operation act = query_of act.1 ≡ query_asked operation

all_ask : (operation : Op) → is_decided_by_conditions (kind_of operation) ≡ true
    → AllByRecursion (AsksIt operation) (acts_of operation)
all_ask (op.Write value) decided = (refl, tt)
all_ask (op.Last value) decided = (refl, tt)
all_ask (op.LwwAdd x) decided = (refl, tt)
all_ask (op.LwwRemove x) decided = (refl, tt)
all_ask (op.LwwRead list) decided = (refl, tt)
all_ask _ decided = absurd (false≢true decided)

-- ---- halves
-- `true` unless an update is the query half, or a query the update half
abbrev half_fits : Half → Bool → Bool
half_fits QueryHalf true = false
half_fits UpdateHalf false = false
half_fits _ _ = true

all_fit : (operation : Op) → list_all (λ act. half_fits act.0 (is_some (update_of act.1))) (acts_of operation) ≡ true
all_fit op.Inc = refl
all_fit (op.List (list.Insert insertion)) = refl
all_fit (op.List (list.Remove x)) = refl
all_fit (op.List (list.Read elements)) = refl
all_fit (op.List (list.Part elements)) = refl
all_fit _ = refl

update_half : (half : Half) → half_fits half true ≡ true → (other : Half) → are_halves half other ≡ false
update_half Whole fits other = refl
update_half QueryHalf fits other = absurd (false≢true fits)
update_half UpdateHalf fits other = refl

query_half : (half : Half) → half_fits half false ≡ true → (other : Half) → are_halves other half ≡ false
query_half UpdateHalf fits other = absurd (false≢true fits)
query_half Whole fits Whole = refl
query_half Whole fits QueryHalf = refl
query_half Whole fits UpdateHalf = refl
query_half QueryHalf fits Whole = refl
query_half QueryHalf fits QueryHalf = refl
query_half QueryHalf fits UpdateHalf = refl

-- a part of the records: its label, and of which parts it is not the half
pub record IsFittingPart (records : Records) (p : Part) : Type 0 where
  pub there : Contains (labels_of records) p.label
  pub update : is_some (update_of p.act) ≡ true → (other : Half) → are_halves p.half other ≡ false
  pub query : is_some (update_of p.act) ≡ false → (other : Half) → are_halves other p.half ≡ false

pub fitting_part : (records : Records) (p : Part) → Contains (parts_in records) p → IsFittingPart records p
fitting_part records p there =
    let (label, found, of_label) = piece_of parts_of (labels_of records) p there in
    let (act, among, is) = from_where (part_of label) (acts_of label.op) p of_label in
    let fits = list_all-contains (λ (a : Half × Act). half_fits a.0 (is_some (update_of a.1))) (acts_of label.op) act
    (all_fit label.op) among in
    subst (IsFittingPart records) is (record {
      there = found;
      update = λ updates. update_half act.0 (ap (half_fits act.0) (sym updates) ∙ fits);
      query = λ asks. query_half act.0 (ap (half_fits act.0) (sym asks) ∙ fits);
    })

module _ (kind : Kind) (decided : is_decided_by_conditions kind ≡ true) (records : Records)
    (of_kind : (label : Label) → Contains (labels_of records) label → kind_of label.op ≡ kind) where
  -- a part of the records: its label, its query, and its kind
  pub record IsPartOfKind (p : Part) : Type 0 where
    pub there : Contains (labels_of records) p.label
    pub query : query_of p.act ≡ query_asked p.label.op
    pub its_kind : is_kind kind (kind_of_act p.act) ≡ true

  pub part_of_kind : (p : Part) → Contains (parts_in records) p → IsPartOfKind p
  part_of_kind p there =
      let (label, found, of_label) = piece_of parts_of (labels_of records) p there in
      let (act, among, is) = from_where (part_of label) (acts_of label.op) p of_label in
      let is_of = of_kind label found in
      subst IsPartOfKind is (record {
        there = found;
        query =
            everyone (AsksIt label.op) (acts_of label.op) act
            (all_ask label.op (ap is_decided_by_conditions is_of ∙ decided)) among;
        its_kind =
            ap (λ k. is_kind k (kind_of_act act.1)) (sym is_of)
            ∙ list_all-contains (λ (a : Half × Act). is_kind (kind_of label.op) (kind_of_act a.1))
            (acts_of label.op) act
            (part_kind label.op) among;
      })

  admits : (k : Kind) → is_decided_by_conditions k ≡ true → admits_all k ≡ true
  admits Register is = refl
  admits LwwSet is = refl
  admits _ is = absurd (false≢true is)

  abbrev is_of_kind : Update → Bool
  is_of_kind update = is_kind kind (kind_of_update update)

  option_of_kind : (act : Act) (us : List Update) → is_kind kind (kind_of_act act) ≡ true
      → list_all is_of_kind us ≡ true → list_all is_of_kind (cons_option (update_of act) us) ≡ true
  option_of_kind (Does update) us is rest = and_from (is_of_kind update) (list_all is_of_kind us) is rest
  option_of_kind (Asks query) us is rest = rest

  updates_of_kind : (ps : List Part) → ((p : Part) → Contains ps p → Contains (parts_in records) p)
      → list_all is_of_kind (updates_of ps) ≡ true
  updates_of_kind [] among = refl
  updates_of_kind (p ∷ ps) among =
      option_of_kind p.act (updates_of ps) (part_of_kind p (among p (at_head p ps p refl))).its_kind
      (updates_of_kind ps (λ q there. among q (behind_head p ps q there)))

  -- parts of the records have admitted updates, in any order
  pub parts_admitted : (ps : List Part) → ((p : Part) → Contains ps p → Contains (parts_in records) p)
      → is_admitted kind (updates_of ps) ≡ true
  parts_admitted ps among =
      kind_updates_admitted-exactly kind (updates_of ps) (admits kind decided) ∙ updates_of_kind ps among

-- the kinds have no condition on the records as a whole
pub nothing_else : (kind : Kind) (records : Records) → is_decided_by_conditions kind ≡ true
    → is_explained kind records ≡ true
nothing_else Register records is = refl
nothing_else LwwSet records is = refl
nothing_else _ records is = absurd (false≢true is)

-- ---- answers
register_answer : (us : List Update) (value : Option ℕ) → is_admitted Register us ≡ true → last_written us ≡ value
    → IsAnsweredAfter Register us (queries.Last value)
register_answer us value admitted right = (
  Written (last_written us),
  register_last_write_wins-last us admitted,
  (register_read_answer (last_written us) value).1 (sym right),
)

set_answer : (us : List Update) (list : List ℕ) → is_admitted LwwSet us ≡ true
    → ((x : ℕ) → Contains list x ↔ (last_on x us ≡ Some (updates.LwwAdd x))) → IsAnsweredAfter LwwSet us
    (queries.LwwRead list)
set_answer us list admitted right =
    let (state, led) = is_some-value (state_after LwwSet us) admitted in
    members state (state_kind LwwSet us state led) led
  where
    members : (state : State) → kind_of_state state ≡ LwwSet → state_after LwwSet us ≡ Some state
        → IsAnsweredAfter LwwSet us (queries.LwwRead list)
    members (Members xs) its_kind led =
        let has = λ (x : ℕ). lww_set_last_update_wins-has us xs x led in (
          Members xs,
          led,
          (lww_set_read_answer xs list).1
              (λ x. ((λ there. (has x).1 ((right x).0 there)), (λ there. (right x).1 ((has x).0 there)))),
        )
    members _ its_kind led = absurd (false≢true (ap (is_kind LwwSet) its_kind))

-- a read that is right after admitted updates is answered
pub answered_if_right : (operation : Op) (us : List Update) (query : Query) → query_asked operation ≡ Some query
    → is_admitted (kind_of operation) us ≡ true → IsRightAfter us operation
    → IsAnsweredAfter (kind_of operation) us query
answered_if_right (op.Last value) us query is admitted right =
    subst (IsAnsweredAfter Register us) (same_Some (queries.Last value) query is)
    (register_answer us value admitted right)
answered_if_right (op.LwwRead list) us query is admitted right =
    subst (IsAnsweredAfter LwwSet us) (same_Some (queries.LwwRead list) query is) (set_answer us list admitted right)
answered_if_right _ us query is admitted right = absurd (none-some query is)
