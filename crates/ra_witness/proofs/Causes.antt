-- Lemmas on the cause at a new label: it depends only on the label's queries and the state of its replica.
use Rattle.std.proofs.Common.{◌≡◌, Bool, true, false, cond, List, [], ◌∷◌, ◌++◌, Option, Some, None, refl, sym, ap, ◌∙◌, subst, inl, inr, arith}
use Rattle.std.specs.Prelude.{◌&&◌, not, Contains, map, flat_map}
use Rattle.std.specs.List.{list_all}
use Rattle.std.proofs.lemmas.Bool.{and_parts, and_from, false≢true}
use Rattle.std.proofs.lemmas.Option.{none-some}
use Rattle.std.proofs.lemmas.List.{append-nil}
use Rattle.std.proofs.lemmas.List.Folds.{list_all-append}
use Rattle.std.proofs.lemmas.List.Elements.{filter_map-append}
use Rattle.std.proofs.lemmas.Grind.{flat_map-append}
use Rattle.ra_labels.specs.declared.kind.Kind.{Kind}
use Rattle.ra_labels.specs.declared.operation.Update.{Update}
use Rattle.ra_labels.specs.declared.operation.Query.{Query}
use Rattle.ra_labels.specs.declared.label.Label.{Label}
use Rattle.ra_labels.specs.declared.reply.Cause.TheVariants as cause
use Rattle.ra_labels.specs.Records.{Records, label_count}
use Rattle.ra_labels.specs.Rewriting.{Part, Half, Act, Does, Asks, acts_of, part_of, parts_of, update_of, updates_of}
use Rattle.ra_labels.specs.Specification.{State, answers, state_after}
use Rattle.ra_labels.specs.Linearization.{visible_updates, extends_visibility, updates_admitted, queries_admitted}
use Rattle.ra_labels.specs.NamedOrder.{named_labels, named_sequence}
use Rattle.ra_labels.specs.Fault.{Holds, sequence_cause}
use Rattle.ra_labels.specs.Answer.{kind_of, is_kind}
use Rattle.ra_labels.specs.TheoremTerms.{IsAnsweredAfter, kind_of_update, kind_of_act, admits_all}
use Rattle.ra_labels.specs.Insertion.{delivered_updates, OwnQueriesAnswered}
use Rattle.ra_labels.proofs.Members.{head_or_behind, at_head, behind_head, reached, from_where}
use Rattle.ra_labels.proofs.InLists.{bool_same}
use Rattle.ra_labels.proofs.SameKind.{one_kind}
use Rattle.ra_labels.specs.HistorySoFar.{NextOperation, operate, label_of}
use Rattle.ra_theorems.proofs.TheoremIndex.{new_label_decides-query, new_label_preserves_visibility-own, new_label_preserves_order, kind_updates_admitted-only, kind_updates_admitted-exactly, part_kind}
use Rattle.ra_witness.specs.Labels.{queries_in, answers_in, cause_in}

-- all queries are admitted if each one is
all_answered : (o : Option State) (acts : List (Half × Act)) → ((half : Half) (query : Query) → Contains acts (half, Asks query) → answers_in o query ≡ true)
    → list_all (answers_in o) (queries_in acts) ≡ true
all_answered o [] each = refl
all_answered o ((half, Does u) ∷ acts) each =
    all_answered o acts (λ h query there. each h query (behind_head (half, Does u) acts (h, Asks query) there))
all_answered o ((half, Asks asked) ∷ acts) each =
    and_from (answers_in o asked) (list_all (answers_in o) (queries_in acts)) (each half asked (at_head (half, Asks asked) acts (half, Asks asked) refl))
    (all_answered o acts (λ h query there. each h query (behind_head (half, Asks asked) acts (h, Asks query) there)))

same_query : (o : Option State) (asked query : Query) → Asks asked ≡ Asks query → answers_in o asked ≡ true → answers_in o query ≡ true
same_query o asked query is passes =
    let same : asked ≡ query = cc in
    subst (λ q. answers_in o q ≡ true) same passes

each_answered : (o : Option State) (acts : List (Half × Act)) → list_all (answers_in o) (queries_in acts) ≡ true
    → (act : Half × Act) (query : Query) → Contains acts act → act.1 ≡ Asks query → answers_in o query ≡ true
each_answered o [] pass act query there is = absurd (omega (arith, there.1))
each_answered o ((half, Does u) ∷ acts) pass act query there is = elim (head_or_behind (half, Does u) acts act there) [
  | inl here ↦ absurd (none-some u (sym (ap (λ (a : Half × Act). update_of a.1) here ∙ ap update_of is)))
  | inr further ↦ each_answered o acts pass act query further is
]
each_answered o ((half, Asks asked) ∷ acts) pass act query there is =
    let parts = and_parts (answers_in o asked) (list_all (answers_in o) (queries_in acts)) pass in
    elim (head_or_behind (half, Asks asked) acts act there) [
      | inl here ↦ same_query o asked query (ap (λ (a : Half × Act). a.1) here ∙ is) parts.0
      | inr further ↦ each_answered o acts parts.1 act query further is
    ]

yes_in : (o : Option State) (query : Query) → answers_in o query ≡ true → (state : State) × (o ≡ Some state) × (answers state query ≡ true)
yes_in None query passes = absurd (false≢true passes)
yes_in (Some state) query passes = (state, refl, passes)

module _ (kind : Kind) (records : Records) (next : NextOperation) where
  abbrev now : Records
  now = operate next ∷ records

  abbrev label : Label
  label = label_of records next

  abbrev before : Option State
  before = state_after kind (delivered_updates kind records next.by)

  sees_had : visible_updates now (named_sequence kind now) (label_count records) ≡ delivered_updates kind records next.by
  sees_had = new_label_preserves_visibility-own kind records next

  answered_before : (query : Query) → IsAnsweredAfter kind (visible_updates now (named_sequence kind now) (label_count records)) query → answers_in before query ≡ true
  answered_before query (state, led, passes) =
      ap (λ o. answers_in o query) (sym (ap (state_after kind) sees_had) ∙ led) ∙ passes

  answered_itself : (query : Query) → answers_in before query ≡ true → IsAnsweredAfter kind (visible_updates now (named_sequence kind now) (label_count records)) query
  answered_itself query passes =
      let (state, led, is) = yes_in before query passes in
      (state, ap (state_after kind) sees_had ∙ led, is)

  from_itself : OwnQueriesAnswered kind now label (named_sequence kind now) → list_all (answers_in before) (queries_in (acts_of next.op)) ≡ true
  from_itself itself = all_answered before (acts_of next.op) (λ half query there.
      answered_before query (itself (part_of label (half, Asks query)) query (reached (part_of label) (acts_of next.op) (half, Asks query) there) refl))

  to_itself : list_all (answers_in before) (queries_in (acts_of next.op)) ≡ true → OwnQueriesAnswered kind now label (named_sequence kind now)
  to_itself pass = λ part query there is.
      let (act, found, same) = from_where (part_of label) (acts_of next.op) part there in
      answered_itself query (each_answered before (acts_of next.op) pass act query found (ap (λ (p : Part). p.act) same ∙ is))

  queries_agree : queries_admitted kind records (named_sequence kind records) ≡ true
      → queries_admitted kind now (named_sequence kind now) ≡ list_all (answers_in before) (queries_in (acts_of next.op))
  queries_agree held =
      let decides = new_label_decides-query kind records next held in
      bool_same (queries_admitted kind now (named_sequence kind now)) (list_all (answers_in before) (queries_in (acts_of next.op)))
      (λ admitted. from_itself (decides.0 admitted)) (λ pass. decides.1 (to_itself pass))

cause_by_tests : (kind : Kind) (records : Records) (updates queries : Bool)
    → extends_visibility records (named_sequence kind records) ≡ true
    → updates_admitted kind (named_sequence kind records) ≡ updates
    → queries_admitted kind records (named_sequence kind records) ≡ queries
    → sequence_cause kind records ≡ cond (not updates) (Some cause.Update) (cond (not queries) (Some cause.Query) None)
cause_by_tests kind records updates queries e u q = rw (e, u, q) refl

swapped : (b : Bool) → cond (not b) (Some cause.Query) None ≡ cond b None (Some cause.Query)
swapped true = refl
swapped false = refl

-- if a new label fits, its cause is `Update` if the updates of all labels are not admitted, and else that of its
-- queries
pub cause_where_it_fits : (kind : Kind) (records : Records) (next : NextOperation) (admitted : Bool) → Holds kind records
    → let now = operate next ∷ records in extends_visibility now (named_sequence kind now) ≡ true
    → updates_admitted kind (named_sequence kind now) ≡ admitted
    → sequence_cause kind now ≡ cond (not admitted) (Some cause.Update) (cause_in (state_after kind (delivered_updates kind records next.by)) (acts_of next.op))
cause_where_it_fits kind records next admitted holds extended is =
    let now = operate next ∷ records in
    let asked = list_all (answers_in (state_after kind (delivered_updates kind records next.by))) (queries_in (acts_of next.op)) in
    cause_by_tests kind now admitted asked extended is (queries_agree kind records next holds.queries)
    ∙ ap (λ c. cond (not admitted) (Some cause.Update) c) (swapped asked)

-- whether all updates are of the kind
abbrev pub are_of : Kind → List Update → Bool
are_of kind updates = list_all (λ update. is_kind kind (kind_of_update update)) updates

of_kind-acts : (kind other : Kind) (own : Label) (acts : List (Half × Act)) → is_kind kind other ≡ true → list_all (λ (act : Half × Act). is_kind other (kind_of_act act.1)) acts ≡ true
    → are_of kind (updates_of (map (part_of own) acts)) ≡ true
of_kind-acts kind other own [] is pass = refl
of_kind-acts kind other own ((half, Asks query) ∷ acts) is pass =
    of_kind-acts kind other own acts is (and_parts (is_kind other (kind_of_act (Asks query))) (list_all (λ (act : Half × Act). is_kind other (kind_of_act act.1)) acts) pass).1
of_kind-acts kind other own ((half, Does u) ∷ acts) is pass =
    let parts = and_parts (is_kind other (kind_of_update u)) (list_all (λ (act : Half × Act). is_kind other (kind_of_act act.1)) acts) pass in
    and_from (is_kind kind (kind_of_update u)) (are_of kind (updates_of (map (part_of own) acts))) (one_kind kind other (kind_of_update u) is parts.0)
    (of_kind-acts kind other own acts is parts.1)

-- the updates of labels
abbrev pub updates_by : List Label → List Update
updates_by labels = updates_of (flat_map parts_of labels)

updates_by-both : (xs ys : List Label) → updates_by (xs ++ ys) ≡ updates_by xs ++ updates_by ys
updates_by-both xs ys =
    ap updates_of (flat_map-append parts_of xs ys) ∙ filter_map-append (λ (p : Part). update_of p.act) (flat_map parts_of xs) (flat_map parts_of ys)

pub are_of-both : (kind : Kind) (xs ys : List Label) → are_of kind (updates_by (xs ++ ys)) ≡ (are_of kind (updates_by xs) && are_of kind (updates_by ys))
are_of-both kind xs ys =
    ap (are_of kind) (updates_by-both xs ys) ∙ list_all-append (λ update. is_kind kind (kind_of_update update)) (updates_by xs) (updates_by ys)

-- for a kind other than RGA, the updates of all labels stay admitted with a new label of the kind
pub still_admitted : (kind : Kind) (records : Records) (next : NextOperation) → admits_all kind ≡ true → Holds kind records
    → is_kind kind (kind_of next.op) ≡ true → updates_admitted kind (named_sequence kind (operate next ∷ records)) ≡ true
still_admitted kind records next admits holds of_kind =
    let label = label_of records next in
    let (before, behind, was, is) = new_label_preserves_order kind records next in
    let all = kind_updates_admitted-only kind (updates_by (named_labels kind records)) holds.updates in
    let two = and_parts (are_of kind (updates_by before)) (are_of kind (updates_by behind)) (sym (ap (λ ls. are_of kind (updates_by ls)) was ∙ are_of-both kind before behind) ∙ all) in
    let own : are_of kind (updates_by (label ∷ [])) ≡ true =
    ap (λ ps. are_of kind (updates_of ps)) (append-nil (parts_of label))
    ∙ of_kind-acts kind (kind_of next.op) label (acts_of next.op) of_kind (part_kind next.op) in
    let later : are_of kind (updates_by (label ∷ behind)) ≡ true =
    are_of-both kind (label ∷ []) behind ∙ and_from (are_of kind (updates_by (label ∷ []))) (are_of kind (updates_by behind)) own two.1 in
    let every : are_of kind (updates_by (named_labels kind (operate next ∷ records))) ≡ true =
    ap (λ ls. are_of kind (updates_by ls)) is
    ∙ are_of-both kind before (label ∷ behind)
    ∙ and_from (are_of kind (updates_by before)) (are_of kind (updates_by (label ∷ behind))) two.0 later in
    kind_updates_admitted-exactly kind (updates_by (named_labels kind (operate next ∷ records))) admits ∙ every
