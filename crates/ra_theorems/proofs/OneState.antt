-- Lemmas on kinds with one state: no sequence of their labels fails, so the records decide.
use Rattle.std.proofs.Common.{◌≡◌, ℕ, Bool, true, false, List, ◌∷◌, [], filter, Option, Some, None, refl, sym, ap, ◌∙◌, subst, inl, inr}
use Rattle.std.specs.Prelude.{◌↔◌, ◌⊎◌, Contains, ◌&&◌, option_map}
use Rattle.std.specs.Option.{option_or, option_map_or}
use Rattle.std.specs.List.{list_all}
use Rattle.std.proofs.lemmas.Bool.{false≢true, and_parts, and_right}
use Rattle.ra_labels.specs.declared.kind.Kind.{Kind}
use Rattle.ra_labels.specs.declared.kind.Kind.TheVariants as kinds
use Rattle.ra_labels.specs.declared.operation.Update.{Update}
use Rattle.ra_labels.specs.declared.operation.Query.{Query}
use Rattle.ra_labels.specs.declared.operation.Query.TheVariants as queries
use Rattle.ra_labels.specs.declared.label.Label.{Label}
use Rattle.ra_labels.specs.declared.command.Command.TheVariants.{Operate}
use Rattle.ra_labels.specs.Records.{Records, labels_of, label_count}
use Rattle.ra_labels.specs.Visibility.{sees}
use Rattle.ra_labels.specs.Explained.{is_explained, value_read, value_written, values_listed}
use Rattle.ra_labels.specs.Agreement.{reads_agree, agrees_with_earlier}
use Rattle.ra_labels.specs.Siblings.{reads_list_siblings, lists_values, values_at}
use Rattle.ra_labels.specs.Specification.{State, OfAny, OfMvRegister, answers, state_after, is_admitted}
use Rattle.ra_labels.specs.Rewriting.{Part, Does, Asks, acts_of, part_of, parts_of, updates_of}
use Rattle.ra_labels.specs.Linearization.{visible_updates, extends_visibility, updates_admitted, queries_admitted}
use Rattle.ra_labels.specs.NamedOrder.{named_labels, named_sequence, rank_of}
use Rattle.ra_labels.specs.Answer.{kind_of, is_kind}
use Rattle.ra_labels.specs.Fault.{Holds, sequence_cause, cause_of, fault_of, fault_at}
use Rattle.ra_labels.specs.TheoremTerms.{kind_of_state, kind_of_update, kind_of_query, kind_of_act, admits_all}
use Rattle.ra_labels.proofs.InLists.{list_all-contains, list_all-from_contains}
use Rattle.ra_labels.proofs.Members.{piece_of, from_where, there-kept, behind_head}
use Rattle.ra_labels.proofs.SameKind.{same_kind, kind_itself}
use Rattle.ra_theorems.specs.OneState.{HasOneState, EachLabelIsOf}
use Rattle.ra_theorems.proofs.StateKinds.{acts-of_kind}
use Rattle.ra_theorems.proofs.States.{admitted-of_kind, state-of_kind}
use Rattle.ra_theorems.proofs.Deliveries.{update_from}
use Rattle.ra_theorems.proofs.PassingUpdates.{in-labels}
use Rattle.ra_theorems.proofs.Meanings.{some-exactly, queries-exactly}
use Rattle.ra_theorems.proofs.Ranks.{execution-extends}
use Rattle.ra_theorems.proofs.Faults.{sequence_cause-none, holds_from_no_cause, no_cause_from_no_fault, holds_from_no_fault, no_cause_from_holds}

-- the one state answers each query of its kind
any_answers : (state : State) (query : Query) → kind_of_state state ≡ kinds.Any → kind_of_query query ≡ kinds.Any
    → answers state query ≡ true
any_answers OfAny (queries.AnyRead value) of asked = refl
any_answers OfAny _ of asked = absurd (cc asked)
any_answers _ _ of asked = absurd (cc of)

mv_register_answers : (state : State) (query : Query) → kind_of_state state ≡ kinds.MvRegister
    → kind_of_query query ≡ kinds.MvRegister → answers state query ≡ true
mv_register_answers OfMvRegister (queries.MvRead values) of asked = refl
mv_register_answers OfMvRegister _ of asked = absurd (cc asked)
mv_register_answers _ _ of asked = absurd (cc of)

one_answers : (kind : Kind) (state : State) (query : Query) → HasOneState kind → kind_of_state state ≡ kind
    → kind_of_query query ≡ kind → answers state query ≡ true
one_answers kind state query (inl is) of asked = any_answers state query (of ∙ is) (asked ∙ is)
one_answers kind state query (inr is) of asked = mv_register_answers state query (of ∙ is) (asked ∙ is)

one_admits : (kind : Kind) → HasOneState kind → admits_all kind ≡ true
one_admits kind (inl is) = ap admits_all is
one_admits kind (inr is) = ap admits_all is

one_extends : (kind : Kind) (records : Records) → HasOneState kind
    → extends_visibility records (named_sequence kind records) ≡ true
one_extends kind records (inl is) = execution-extends kind records (λ label. ap (λ k. rank_of k records label) is)
one_extends kind records (inr is) = execution-extends kind records (λ label. ap (λ k. rank_of k records label) is)

-- parts of the kind make updates of the kind
updates_of_kind : (kind : Kind) (parts : List Part)
    → ((p : Part) → Contains parts p → kind_of_act p.act ≡ kind)
    → list_all (λ update. is_kind kind (kind_of_update update)) (updates_of parts) ≡ true
updates_of_kind kind parts each =
    list_all-from_contains (λ update. is_kind kind (kind_of_update update)) (updates_of parts) (λ u there.
    let (p, found, does) = update_from parts u there in
    let of : kind_of_update u ≡ kind = sym (ap kind_of_act does) ∙ each p found in
    ap (is_kind kind) of ∙ kind_itself kind)

module _ (kind : Kind) (records : Records) (one : HasOneState kind) (all : EachLabelIsOf kind records) where
  abbrev named : List Part
  named = named_sequence kind records

  part_kind : (p : Part) → Contains named p → kind_of_act p.act ≡ kind
  part_kind p there =
      let (m, m_there, of_m) = piece_of parts_of (named_labels kind records) p there in
      let (act, found, is) = from_where (part_of m) (acts_of m.op) p of_m in
      let own = list_all-contains (λ a. is_kind (kind_of m.op) (kind_of_act a.1)) (acts_of m.op) act
      (acts-of_kind m.op) found in
      sym (ap (λ (q : Part). kind_of_act q.act) is) ∙ same_kind (kind_of m.op) (kind_of_act act.1) own
      ∙ all m (in-labels kind records m m_there)

  some_admitted : (parts : List Part) → ((p : Part) → Contains parts p → Contains named p)
      → is_admitted kind (updates_of parts) ≡ true
  some_admitted parts among = admitted-of_kind kind (updates_of parts) (one_admits kind one)
      ∙ updates_of_kind kind parts (λ p there. part_kind p (among p there))

  answered : queries_admitted kind records named ≡ true
  answered = (queries-exactly kind records named).1 (λ part query there asks.
      let n = part.label.number in
      let seen = λ (p : Part). sees records n p.label.number in
      let us = visible_updates records named n in
      let (state, led) = (some-exactly (state_after kind us)).0
      (some_admitted (filter seen named) (λ p found. (there-kept seen named p found).0)) in
      let asked : kind_of_query query ≡ kind = sym (ap kind_of_act asks) ∙ part_kind part there in
      (state, led, one_answers kind state query one (state-of_kind kind us state led) asked))

  pub no_sequence_cause : sequence_cause kind records ≡ None
  no_sequence_cause = (sequence_cause-none kind records).1
      (one_extends kind records one, some_admitted named (λ p there. there), answered)

  no_cause : is_explained kind records ≡ true → cause_of kind records ≡ None
  no_cause explained = rw (no_sequence_cause, explained) refl

  pub holds_if_explained : Holds kind records ↔ (is_explained kind records ≡ true)
  holds_if_explained = (λ holds. holds.explained, λ explained. holds_from_no_cause kind records (no_cause explained))

-- records that meet the condition of their kind met it before
earlier_any : (before : Records) (by : ℕ) (op : _) (clock : Option ℕ)
    → is_explained kinds.Any (Operate by op clock ∷ before) ≡ true → is_explained kinds.Any before ≡ true
earlier_any before by op clock is =
    (and_parts (option_map_or (agrees_with_earlier value_read before by) (value_read op) true)
    (reads_agree value_read before) is).1

earlier_mv_register : (before : Records) (by : ℕ) (op : _) (clock : Option ℕ)
    → is_explained kinds.MvRegister (Operate by op clock ∷ before) ≡ true → is_explained kinds.MvRegister before ≡ true
earlier_mv_register before by op clock is =
    (and_parts (lists_values values_listed op (values_at value_written before by))
    (reads_list_siblings value_written values_listed before) is).1

explained_earlier : (kind : Kind) (before : Records) (by : ℕ) (op : _) (clock : Option ℕ) → HasOneState kind
    → is_explained kind (Operate by op clock ∷ before) ≡ true → is_explained kind before ≡ true
explained_earlier kind before by op clock (inl is) now =
    ap (λ k. is_explained k before) is
    ∙ earlier_any before by op clock (sym (ap (λ k. is_explained k (Operate by op clock ∷ before)) is) ∙ now)
explained_earlier kind before by op clock (inr is) now =
    ap (λ k. is_explained k before) is
    ∙ earlier_mv_register before by op clock (sym (ap (λ k. is_explained k (Operate by op clock ∷ before)) is) ∙ now)

explained_alike : (kind : Kind) (command : _) (before : Records) → HasOneState kind
    → is_explained kinds.Any (command ∷ before) ≡ is_explained kinds.Any before
    → is_explained kinds.MvRegister (command ∷ before) ≡ is_explained kinds.MvRegister before
    → is_explained kind (command ∷ before) ≡ true → is_explained kind before ≡ true
explained_alike kind command before (inl is) any mv_register now =
    ap (λ k. is_explained k before) is ∙ sym any ∙ sym (ap (λ k. is_explained k (command ∷ before)) is) ∙ now
explained_alike kind command before (inr is) any mv_register now =
    ap (λ k. is_explained k before) is ∙ sym mv_register ∙ sym (ap (λ k. is_explained k (command ∷ before)) is) ∙ now

no_fault : (kind : Kind) (records : Records) → HasOneState kind → EachLabelIsOf kind records
    → is_explained kind records ≡ true → fault_of kind records ≡ None
no_fault kind [] one all explained = refl
no_fault kind (Operate by op clock ∷ before) one all explained =
    let earlier = no_fault kind before one (λ label there. all label (behind_head _ (labels_of before) label there))
    (explained_earlier kind before by op clock one explained) in
    rw (earlier, no_cause kind (Operate by op clock ∷ before) one all explained) refl
no_fault kind (command ∷ before) one all explained =
    no_fault kind before one all (explained_alike kind command before one refl refl explained)

pub no_fault_if_explained : (kind : Kind) (records : Records) → HasOneState kind → EachLabelIsOf kind records
    → (fault_of kind records ≡ None) ↔ (is_explained kind records ≡ true)
no_fault_if_explained kind records one all =
    (λ none. (holds_from_no_fault kind records none).explained, no_fault kind records one all)
