-- An order decides the answers of queries.
use Rattle.std.proofs.Common.{◌≡◌, ◌↔◌, ℕ, true, List, [], sym, ◌∙◌, subst}
use Rattle.std.specs.Prelude.{not, nat_eq, Contains}
use Rattle.std.specs.List.{list_all}
use Rattle.std.specs.Cmp.Lexicographic.{pointwise, pointwise_decides}
use Rattle.std.proofs.lemmas.Bool.{and_parts, and_from}
use Rattle.std.specs.Cmp.{unsigned_Decides}
use Rattle.ra_labels.specs.Lists.{is_among, have_same_elements}
use Rattle.ra_labels.proofs.InLists.{among-exactly, same-exactly, list_all-contains}
use Rattle.ra_labels.proofs.Members.{there-kept, none_there}
use Rattle.ra_labels.specs.Edges.{EachOnce, Extends}
use Rattle.ra_labels.specs.Reads.{edges_of_read, in_order}
use Rattle.ra_list_order.proofs.ReadLists.{extends_read_iff}
use Rattle.ra_labels.specs.declared.list_operation.ListQuery.{ListQuery}
use Rattle.ra_labels.specs.declared.list_operation.ListQuery.TheVariants.{Near, Has, Read, Part}
use Rattle.ra_labels.specs.ListOperations.{edges_of_query}
use Rattle.ra_labels.specs.FreeList.{ListState, shown_in, has_each_once, list_answers}
use Rattle.ra_list_model.specs.Ordered.{list_answers_at, IsOrderFor}
use Rattle.ra_list_model.proofs.OnceListed.{once_exactly, once_kept, in_order_exactly, in_order_same}

pub no_edges : (order : List ℕ) → Extends order []
no_edges order edge there = absurd (none_there edge there)

-- what is shown is in the order
shown_ordered : (order : List ℕ) (state : ListState) (x : ℕ) → IsOrderFor order state → Contains (shown_in state) x
    → Contains order x
shown_ordered order state x is there =
    is.all x (there-kept (λ y. not (is_among y state.removed)) state.inserted x there).0

as_listed : (list shown : List ℕ) → (pointwise nat_eq list shown ≡ true) ↔ (list ≡ shown)
as_listed list shown = pointwise_decides unsigned_Decides list shown

read_at : (order list : List ℕ) (state : ListState) (label : ℕ) → IsOrderFor order state
    → (list ≡ in_order order (shown_in state)) → (list_answers state (Read list) ≡ true) × Extends order (edges_of_read label list)
read_at order list state label is listed =
    let shown = shown_in state in
    let once : EachOnce list = subst EachOnce (sym listed) (once_kept _ order is.once) in
    let same : (x : ℕ) → Contains list x ↔ Contains shown x = λ x. (
      (λ there. ((in_order_exactly order shown x).0 (subst (λ xs. Contains xs x) listed there)).1),
      (λ there. subst (λ xs. Contains xs x) (sym listed)
          ((in_order_exactly order shown x).1 (shown_ordered order state x is there, there))),
    ) in (
      and_from (has_each_once list) (have_same_elements list shown) ((once_exactly list).1 once) ((same-exactly list shown).1 same),
      (extends_read_iff order list label is.once once
          (λ x there. shown_ordered order state x is ((same x).0 there))).1 (listed ∙ sym (in_order_same order list shown same)),
    )

read_from : (order list : List ℕ) (state : ListState) (label : ℕ) → IsOrderFor order state
    → list_answers state (Read list) ≡ true → Extends order (edges_of_read label list)
    → list ≡ in_order order (shown_in state)
read_from order list state label is answered extends =
    let shown = shown_in state in
    let parts = and_parts (has_each_once list) (have_same_elements list shown) answered in
    let same = (same-exactly list shown).0 parts.1 in
    (extends_read_iff order list label is.once ((once_exactly list).0 parts.0)
    (λ x there. shown_ordered order state x is ((same x).0 there))).0 extends ∙ in_order_same order list shown same

part_iff : (order list : List ℕ) (state : ListState) (label : ℕ) → IsOrderFor order state
    → list_answers state (Part list) ≡ true → Extends order (edges_of_read label list) ↔ (list ≡ in_order order list)
part_iff order list state label is answered =
    let parts = and_parts (has_each_once list) (list_all (λ x. is_among x (shown_in state)) list) answered in
    extends_read_iff order list label is.once ((once_exactly list).0 parts.0) (λ x there.
    shown_ordered order state x is ((among-exactly x (shown_in state)).0
    (list_all-contains (λ y. is_among y (shown_in state)) list x parts.1 there)))

pub query_decided : (order : List ℕ) (state : ListState) (query : ListQuery) (label : ℕ) → IsOrderFor order state
    → (list_answers_at order state query ≡ true)
    ↔ ((list_answers state query ≡ true) × Extends order (edges_of_query label query))
query_decided order state (Near insertion) label is = ((λ answered. (answered, no_edges order)), (λ both. both.0))
query_decided order state (Has x) label is = ((λ answered. (answered, no_edges order)), (λ both. both.0))
query_decided order state (Read list) label is = (
  (λ answered. read_at order list state label is ((as_listed list (in_order order (shown_in state))).0 answered)),
  (λ both. (as_listed list (in_order order (shown_in state))).1 (read_from order list state label is both.0 both.1)),
)
query_decided order state (Part list) label is = (
  (λ answered.
      let parts = and_parts (list_answers state (Part list)) (pointwise nat_eq list (in_order order list)) answered in
      (parts.0, (part_iff order list state label is parts.0).1 ((as_listed list (in_order order list)).0 parts.1))),
  (λ both. and_from (list_answers state (Part list)) (pointwise nat_eq list (in_order order list)) both.0
      ((as_listed list (in_order order list)).1 ((part_iff order list state label is both.0).0 both.1))),
)

pub one_read : (order : List ℕ) (state : ListState) (first second : List ℕ)
    → list_answers_at order state (Read first) ≡ true → list_answers_at order state (Read second) ≡ true → first ≡ second
one_read order state first second one other =
    (as_listed first (in_order order (shown_in state))).0 one
    ∙ sym ((as_listed second (in_order order (shown_in state))).0 other)
