-- Lemmas on the answer of an OR-Set to a query with a rising list, and on its state after updates.
use Rattle.std.proofs.Common.{◌≡◌, ℕ, Bool, true, List, refl, sym, ap, ◌∙◌, subst}
use Rattle.std.specs.Prelude.{◌↔◌, IsTrue, unwrap_or}
use Rattle.std.specs.BTreeSet.{BTreeSet, IsOrdered, insert_key}
use Rattle.ra_labels.specs.declared.operation.Query.{Query}
use Rattle.ra_labels.specs.declared.operation.Query.TheVariants.{ReadIds, OrRead, LwwRead}
use Rattle.ra_labels.specs.declared.operation.Update.{Update}
use Rattle.ra_labels.specs.declared.operation.Update.TheVariants.{OrAdd, TakeOut}
use Rattle.ra_labels.specs.Lists.{rises, pair_cmp, identifiers_of, elements_of, without_pairs}
use Rattle.ra_labels.specs.Specification.{State, Pairs, step_of, answers, Members}
use Rattle.ra_seqspec.specs.declared.state.Form.{Form}
use Rattle.ra_seqspec.specs.declared.state.Form.TheVariants.{OrSet, LwwSet}
use Rattle.ra_seqspec.specs.Form.{state_of, StateKept}
use Rattle.ra_seqspec.specs.Asked.{asks_rising}
use Rattle.ra_seqspec.specs.Pairs.{distinct_elements}
use Rattle.ra_seqspec.proofs.RisingLists.{is_answer}
use Rattle.ra_seqspec.proofs.PairKeys.{identifiers_rise, distinct_rise, distinct_same}
use Rattle.std.specs.Ordering.{nat_cmp}
use Rattle.ra_labels.proofs.TheoremIndex.{rises_iff_sorted-sorted}

pub asked_identifiers : (form : Form) (pairs : BTreeSet (ℕ × ℕ)) (now : State) (query : Query) (x : ℕ)
    (list shown : List ℕ) (r : Bool) → StateKept form → state_of form ≡ now → form ≡ OrSet pairs
    → query ≡ ReadIds x list → asks_rising query ≡ true
    → shown ≡ list → IsTrue r ↔ (shown ≡ identifiers_of x pairs.keys) → r ≡ answers now query
asked_identifiers form pairs now query x list shown r kept view is asks up same answer =
    let ordered : IsOrdered pair_cmp pairs = subst StateKept is kept in
    let before : now ≡ Pairs pairs.keys = sym view ∙ ap state_of is in
    let rising : rises list ≡ true = sym (ap asks_rising asks) ∙ up in
    is_answer list (identifiers_of x pairs.keys) (identifiers_of x pairs.keys) r rising
    (identifiers_rise x pairs.keys ordered) (λ y. refl)
    ((λ holds. sym same ∙ answer.0 holds), (λ equal. answer.1 (same ∙ equal)))
    ∙ sym (λ i. answers (before i) (asks i))

pub asked_elements : (form : Form) (pairs : BTreeSet (ℕ × ℕ)) (now : State) (query : Query) (list shown : List ℕ)
    (r : Bool) → StateKept form → state_of form ≡ now → form ≡ OrSet pairs → query ≡ OrRead list
    → asks_rising query ≡ true
    → shown ≡ list → IsTrue r ↔ (shown ≡ distinct_elements pairs.keys) → r ≡ answers now query
asked_elements form pairs now query list shown r kept view is asks up same answer =
    let ordered : IsOrdered pair_cmp pairs = subst StateKept is kept in
    let before : now ≡ Pairs pairs.keys = sym view ∙ ap state_of is in
    let rising : rises list ≡ true = sym (ap asks_rising asks) ∙ up in
    is_answer list (distinct_elements pairs.keys) (elements_of pairs.keys) r rising (distinct_rise pairs.keys ordered)
    (λ y. distinct_same y pairs.keys)
    ((λ holds. sym same ∙ answer.0 holds), (λ equal. answer.1 (same ∙ equal)))
    ∙ sym (λ i. answers (before i) (asks i))

-- the state after a removal
pub taken_out_state : (form : Form) (pairs : BTreeSet (ℕ × ℕ)) (now : State) (update : Update) (x : ℕ)
    (ids shown : List ℕ) (left : List (ℕ × ℕ)) → state_of form ≡ now → form ≡ OrSet pairs → update ≡ TakeOut x ids
    → shown ≡ ids
    → left ≡ without_pairs x shown pairs.keys → Pairs left ≡ unwrap_or (step_of now update) now
taken_out_state form pairs now update x ids shown left view is takes same kept =
    let before : now ≡ Pairs pairs.keys = sym view ∙ ap state_of is in
    ap Pairs (kept ∙ ap (λ list. without_pairs x list pairs.keys) same)
    ∙ sym (λ i. unwrap_or (step_of (before i) (takes i)) (before i))

-- the state after an addition
pub grown_state : (form : Form) (pairs : BTreeSet (ℕ × ℕ)) (now : State) (update : Update) (x id : ℕ)
    (more : List (ℕ × ℕ)) → state_of form ≡ now → form ≡ OrSet pairs → update ≡ OrAdd x id
    → more ≡ insert_key pair_cmp pairs.keys (x, id) → Pairs more ≡ unwrap_or (step_of now update) now
grown_state form pairs now update x id more view is puts kept =
    let before : now ≡ Pairs pairs.keys = sym view ∙ ap state_of is in
    ap Pairs kept ∙ sym (λ i. unwrap_or (step_of (before i) (puts i)) (before i))

-- and the answer of an LWW set
pub asked : (form : Form) (elements : BTreeSet ℕ) (now : State) (query : Query) (list shown : List ℕ) (r : Bool)
    → StateKept form → state_of form ≡ now → form ≡ LwwSet elements → query ≡ LwwRead list → asks_rising query ≡ true
    → shown ≡ list → IsTrue r ↔ (shown ≡ elements.keys) → r ≡ answers now query
asked form elements now query list shown r kept view is asks up same answer =
    let ordered : IsOrdered nat_cmp elements = subst StateKept is kept in
    let before : now ≡ Members elements.keys = sym view ∙ ap state_of is in
    let rising : rises list ≡ true = sym (ap asks_rising asks) ∙ up in
    is_answer list elements.keys elements.keys r rising
    ((rises_iff_sorted-sorted elements.keys).1 ordered) (λ y. refl)
    ((λ holds. sym same ∙ answer.0 holds), (λ equal. answer.1 (same ∙ equal)))
    ∙ sym (λ i. answers (before i) (asks i))
