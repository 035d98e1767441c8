-- The edges of a list, added one after another.
use Rattle.std.proofs.Common.{◌≡◌, ℕ, zero, suc, ◌+◌, ◌-◌, ◌<◌, ◌≤◌, ◌⊎◌, List, [], ◌∷◌, ◌++◌, length, get_or, take, refl, sym, ap, ◌∙◌, subst, inl, inr, arith, append_assoc}
use Rattle.std.specs.Prelude.{Contains, Option, Some, None, Result, Ok, Err, IfOk, MatchOption}
use Rattle.std.proofs.lemmas.List.{append-nil, take_more}
use Rattle.std.proofs.lemmas.List.Elements.{Contains-append_left, Contains-append_right, Contains-append_cases}
use Rattle.ra_labels.proofs.Members.{head_or_behind, at_head, behind_head, none_there}
use Rattle.ra_labels.specs.declared.edge.Edge.{Edge}
use Rattle.ra_labels.specs.Edges.{HasEdge, IsCycle}
use Rattle.ra_labels.specs.Reads.{edges_of_read}
use Rattle.ra_list_edges.specs.Pairs.{AddsSome, AddsPairs, HasEdgeAt, HasEdgesBut, with_pairs}

abbrev pub edge_of : ℕ → ℕ → ℕ → Edge
edge_of label x y = record { before = x; after = y; label = label }

-- each pair of adjacent elements is one of the edges
pair_there : (label : ℕ) (list : List ℕ) (j : ℕ) → suc j < length list
    → Contains (edges_of_read label list) (edge_of label (get_or list j 0) (get_or list (suc j) 0))
pair_there label [] j within = absurd (omega arith)
pair_there label (x ∷ []) j within = absurd (omega arith)
pair_there label (x ∷ y ∷ list) zero within =
    at_head (edge_of label x y) (edges_of_read label (y ∷ list)) (edge_of label x y) refl
pair_there label (x ∷ y ∷ list) (suc j) within =
    behind_head (edge_of label x y) (edges_of_read label (y ∷ list))
    (edge_of label (get_or (y ∷ list) j 0) (get_or list j 0))
    (pair_there label (y ∷ list) j (omega arith))

pub pair_among : (label : ℕ) (list : List ℕ) (i : ℕ) → 0 < i → i < length list
    → Contains (edges_of_read label list) (edge_of label (get_or list (i - 1) 0) (get_or list i 0))
pair_among label list i some within =
    let next : suc (i - 1) ≡ i = omega arith in
    subst (λ k. Contains (edges_of_read label list) (edge_of label (get_or list (i - 1) 0) (get_or list k 0))) next
    (pair_there label list (i - 1) (omega arith))

-- holds if the edge is from the element at this index to the next one
abbrev pub IsPairAt : ℕ → List ℕ → ℕ → Edge → Type 0
IsPairAt label list i edge =
    (suc i < length list) × (edge ≡ edge_of label (get_or list i 0) (get_or list (suc i) 0))

pub pair_index : (label : ℕ) (list : List ℕ) (edge : Edge) → Contains (edges_of_read label list) edge
    → (i : ℕ) × IsPairAt label list i edge
pair_index label [] edge there = absurd (none_there edge there)
pair_index label (x ∷ []) edge there = absurd (none_there edge there)
pair_index label (x ∷ y ∷ list) edge there =
    elim (head_or_behind (edge_of label x y) (edges_of_read label (y ∷ list)) edge there) [
      | inl here ↦ (zero, (omega arith, sym here))
      | inr further ↦
          let (i, (within, is)) = pair_index label (y ∷ list) edge further in (suc i, (omega arith, is))
    ]

pub pair_from_index : (label : ℕ) (list : List ℕ) (edge : Edge) (i : ℕ) → IsPairAt label list i edge
    → Contains (edges_of_read label list) edge
pair_from_index label list edge i (within, is) =
    let back : suc i - 1 ≡ i = omega arith in
    subst (Contains (edges_of_read label list)) (sym is)
    (subst (λ j. Contains (edges_of_read label list) (edge_of label (get_or list j 0) (get_or list (suc i) 0))) back
    (pair_among label list (suc i) (omega arith) within))

-- one more element adds the pair with the one before
pairs_push : (label : ℕ) (list : List ℕ) (j : ℕ) → suc j < length list
    → edges_of_read label (take (suc (suc j)) list)
    ≡ edges_of_read label (take (suc j) list) ++ edge_of label (get_or list j 0) (get_or list (suc j) 0) ∷ []
pairs_push label [] j within = absurd (omega arith)
pairs_push label (x ∷ []) j within = absurd (omega arith)
pairs_push label (x ∷ y ∷ list) zero within = refl
pairs_push label (x ∷ y ∷ list) (suc j) within =
    ap (λ es. edge_of label x y ∷ es) (pairs_push label (y ∷ list) j (omega arith))

pub pairs_more : (label : ℕ) (list : List ℕ) (i : ℕ) → 0 < i → i < length list
    → edges_of_read label (take (i + 1) list)
    ≡ edges_of_read label (take i list) ++ edge_of label (get_or list (i - 1) 0) (get_or list i 0) ∷ []
pairs_more label list i some within =
    let next : suc (i - 1) ≡ i = omega arith in
    let more : suc (suc (i - 1)) ≡ i + 1 = omega arith in
    ap (λ k. edges_of_read label (take k list)) (sym more) ∙ pairs_push label list (i - 1) (omega arith)
    ∙ ap (λ k. edges_of_read label (take k list) ++ edge_of label (get_or list (i - 1) 0) (get_or list k 0) ∷ []) next

-- no element, or one, has no edges
pub no_pairs : (label : ℕ) (list : List ℕ) → length list ≤ 1 → edges_of_read label list ≡ []
no_pairs label [] few = refl
no_pairs label (x ∷ []) few = refl
no_pairs label (x ∷ y ∷ list) few = absurd (omega arith)

pub none_added : (label : ℕ) (list : List ℕ) (edges : List Edge) → AddsSome label list edges edges
none_added label list edges = ([], sym (append-nil edges), (λ edge there. absurd (none_there edge there)))

-- with one more edge, or none
pub some_more : (label : ℕ) (list : List ℕ) (old now new : List Edge) (edge : Edge)
    → Contains (edges_of_read label list) edge → AddsSome label list old now
    → (new ≡ now) ⊎ (new ≡ now ++ edge ∷ []) → AddsSome label list old new
some_more label list old now new edge there (added, is, among) step = elim step [
  | inl same ↦ (added, same ∙ is, among)
  | inr more ↦ (
    added ++ edge ∷ [],
    more ∙ ap (λ es. es ++ edge ∷ []) is ∙ append_assoc old added (edge ∷ []),
    λ e one. elim (Contains-append_cases added (edge ∷ []) e one) [
      | inl before ↦ among e before
      | inr last ↦ elim (head_or_behind edge [] e last) [
        | inl here ↦ subst (Contains (edges_of_read label list)) here there
        | inr further ↦ absurd (none_there e further)
      ]
    ],
  )
]

-- edges that are there stay there
pub has_still : (now new : List Edge) (edge : Edge) (a b : ℕ) → HasEdge now a b
    → (new ≡ now) ⊎ (new ≡ now ++ edge ∷ []) → HasEdge new a b
has_still now new edge a b (e, there, before, after) step = elim step [
  | inl same ↦ (e, subst (λ es. Contains es e) (sym same) there, before, after)
  | inr more ↦ (e, subst (λ es. Contains es e) (sym more) (Contains-append_left now (edge ∷ []) e there), before, after)
]

-- a cycle of some of the edges is one of all of them
pub cycle_wider : (label : ℕ) (list : List ℕ) (old now : List Edge) (edge : Edge) (cycle : List Edge)
    → Contains (edges_of_read label list) edge → AddsSome label list old now → IsCycle (now ++ edge ∷ []) cycle
    → IsCycle (with_pairs label list old) cycle
cycle_wider label list old now edge cycle there (added, is, among) found = record {
  start = found.start;
  chain = found.chain;
  some = found.some;
  among = λ e one. elim (Contains-append_cases now (edge ∷ []) e (found.among e one)) [
    | inl before ↦ elim (Contains-append_cases old added e (subst (λ es. Contains es e) is before)) [
      | inl mine ↦ Contains-append_left old (edges_of_read label list) e mine
      | inr theirs ↦ Contains-append_right old (edges_of_read label list) e (among e theirs)
    ]
    | inr last ↦ elim (head_or_behind edge [] e last) [
      | inl here ↦ Contains-append_right old (edges_of_read label list) e (subst (Contains (edges_of_read label list)) here there)
      | inr further ↦ absurd (none_there e further)
    ]
  ];
}

-- all pairs so far, with one more
pub all_more : (label : ℕ) (list : List ℕ) (i : ℕ) (now new : List Edge) → 0 < i → i < length list
    → ((edge : Edge) → Contains (edges_of_read label (take i list)) edge → HasEdge now edge.before edge.after)
    → (new ≡ now) ⊎ (new ≡ now ++ edge_of label (get_or list (i - 1) 0) (get_or list i 0) ∷ [])
    → HasEdge new (get_or list (i - 1) 0) (get_or list i 0)
    → (edge : Edge) → Contains (edges_of_read label (take (i + 1) list)) edge → HasEdge new edge.before edge.after
all_more label list i now new some within before step last edge there =
    let pair = edge_of label (get_or list (i - 1) 0) (get_or list i 0) in
    elim (Contains-append_cases (edges_of_read label (take i list)) (pair ∷ []) edge
    (subst (λ es. Contains es edge) (pairs_more label list i some within) there)) [
      | inl earlier ↦ has_still now new pair edge.before edge.after (before edge earlier) step
      | inr here ↦ elim (head_or_behind pair [] edge here) [
        | inl same ↦ subst (λ (e : Edge). HasEdge new e.before e.after) same last
        | inr further ↦ absurd (none_there edge further)
      ]
    ]

-- what `ListOrder::add` answers for one edge
pub edge_added : {T E : Type 0} (items : T → List Edge) (r : Result (Option T) E) (old new : List Edge) (edge : Edge)
    (Same : Type 0)
    → IfOk r (λ found. MatchOption found (new ≡ old ++ edge ∷ []) (λ cycle. Same × IsCycle (old ++ edge ∷ []) (items cycle)))
    → IfOk r (λ found. MatchOption found (HasEdge new edge.before edge.after)
    (λ cycle. IsCycle (old ++ edge ∷ []) (items cycle)))
edge_added items (Ok None) old new edge Same is =
    (edge, subst (λ es. Contains es edge) (sym is) (Contains-append_right old (edge ∷ []) edge (at_head edge [] edge refl)), refl, refl)
edge_added items (Ok (Some cycle)) old new edge Same is = is.1
edge_added items (Err e) old new edge Same is = tt

-- edges that were there are there after an operation
pub has_more : (old added : List Edge) (a b : ℕ) → HasEdge old a b → HasEdge (old ++ added) a b
has_more old added a b (edge, there, before, after) =
    (edge, Contains-append_left old added edge there, before, after)

pub has_after : (label : ℕ) (list : List ℕ) (old new : List Edge) (a b : ℕ) → AddsSome label list old new
    → HasEdge old a b → HasEdge new a b
has_after label list old new a b (added, is, among) has = subst (λ es. HasEdge es a b) (sym is) (has_more old added a b has)

-- the edges that were there, and those of the other indexes, are all edges of the list
pub adds_at : (label : ℕ) (list places : List ℕ) (old new : List Edge) → HasEdgesBut old list places
    → AddsSome label list old new → ((i : ℕ) → Contains places i → HasEdgeAt new list i) → AddsPairs label list old new
adds_at label list places old new others some added = record {
  some = some;
  all = λ edge there.
      let (i, (within, is)) = pair_index label list edge there in
      let at : HasEdgeAt new list (suc i) = elim (others.rest (suc i) (omega arith) within) [
        | inl place ↦ added (suc i) place
        | inr had ↦ has_after label list old new (get_or list (suc i - 1) 0) (get_or list (suc i) 0) some had
      ] in
      subst (λ (e : Edge). HasEdge new e.before e.after) (sym is)
      (subst (λ j. HasEdge new (get_or list j 0) (get_or list (suc i) 0)) (omega arith) at);
}

-- the edges at the indexes so far, with one more
pub at_more : (list places : List ℕ) (k : ℕ) (now new : List Edge) (edge : Edge) → k < length places
    → ((i : ℕ) → Contains (take k places) i → HasEdgeAt now list i) → (new ≡ now) ⊎ (new ≡ now ++ edge ∷ [])
    → HasEdgeAt new list (get_or places k 0) → (i : ℕ) → Contains (take (k + 1) places) i → HasEdgeAt new list i
at_more list places k now new edge within before step last i there =
    elim (Contains-append_cases (take k places) (get_or places k 0 ∷ []) i
    (subst (λ is. Contains is i) (take_more places k 0 within) there)) [
      | inl earlier ↦ has_still now new edge (get_or list (i - 1) 0) (get_or list i 0) (before i earlier) step
      | inr here ↦ elim (head_or_behind (get_or places k 0) [] i here) [
        | inl same ↦ subst (HasEdgeAt new list) same last
        | inr further ↦ absurd (none_there i further)
      ]
    ]
