-- Lemmas on the edges that labels require, and on chains of edges.
use Rattle.std.proofs.Common.{◌≡◌, ℕ, zero, suc, ◌+◌, ◌-◌, ◌<◌, Bool, true, false, cond, ltb, List, [], ◌∷◌, ◌++◌, length, get_or, take, refl, sym, ap, ◌∙◌, subst, inl, inr, arith}
use Rattle.std.specs.Prelude.{All, Contains, flat_map}
use Rattle.std.specs.BTreeSet.{BTreeSet, contains, Updates}
use Rattle.std.specs.Ordering.{nat_cmp}
use Rattle.std.specs.List.{range_with_len}
use Rattle.std.proofs.lemmas.Grind.{flat_map-append}
use Rattle.std.proofs.lemmas.List.{append-nil, map-append}
use Rattle.std.proofs.lemmas.Bool.{false≢true, ltb-true}
use Rattle.std.proofs.lemmas.List.Elements.{All-contains, Contains-append_cases}
use Rattle.ra_labels.specs.declared.edge.Edge.{Edge}
use Rattle.ra_labels.specs.Edges.{IsChain}
use Rattle.ra_labels.specs.Reads.{edges_of_read}
use Rattle.ra_labels.specs.TheoremTerms.{HasNoDuplicates}
use Rattle.ra_labels.proofs.Members.{head_or_behind, at_head, behind_head, none_there}
use Rattle.ra_explain.specs.Conflicts.{starts_of, IsCycleOrNone}
use Rattle.ra_explain.proofs.Ranges.{range_more}

-- the edges of one more label are added
pub edges_next : {A : Type 0} (f : ℕ → List A) (n : ℕ) (old new : List A) → new ≡ old ++ f n
    → old ≡ flat_map f (range_with_len 0 n) → new ≡ flat_map f (range_with_len 0 (n + 1))
edges_next f n old new made so_far =
    let next : n + 1 ≡ suc n = omega arith in
    made ∙ ap (λ xs. xs ++ f n) so_far
    ∙ ap (λ xs. flat_map f (range_with_len 0 n) ++ xs) (sym (append-nil (f n)))
    ∙ sym (flat_map-append f (range_with_len 0 n) (n ∷ []))
    ∙ sym (ap (λ (k : ℕ). flat_map f (range_with_len 0 k)) next ∙ ap (flat_map f) (range_more 0 n n (omega arith)))

abbrev pub edge_of : ℕ → ℕ → ℕ → Edge
edge_of label x y = record { before = x; after = y; label = label }

-- one more element adds the edge from the one before
pairs_push : (label : ℕ) (list : List ℕ) (j : ℕ) → suc j < length list
    → edges_of_read label (take (suc (suc j)) list)
    ≡ edges_of_read label (take (suc j) list) ++ edge_of label (get_or list j 0) (get_or list (suc j) 0) ∷ []
pairs_push label [] j within = absurd (omega arith)
pairs_push label (x ∷ []) j within = absurd (omega arith)
pairs_push label (x ∷ y ∷ list) zero within = refl
pairs_push label (x ∷ y ∷ list) (suc j) within =
    ap (λ es. edge_of label x y ∷ es) (pairs_push label (y ∷ list) j (omega arith))

pub pairs_more : (label : ℕ) (list : List ℕ) (i : ℕ) → 0 < i → i < length list
    → edges_of_read label (take (i + 1) list)
    ≡ edges_of_read label (take i list) ++ edge_of label (get_or list (i - 1) 0) (get_or list i 0) ∷ []
pairs_more label list i some within =
    let next : suc (i - 1) ≡ i = omega arith in
    let more : suc (suc (i - 1)) ≡ i + 1 = omega arith in
    ap (λ k. edges_of_read label (take k list)) (sym more) ∙ pairs_push label list (i - 1) (omega arith)
    ∙ ap (λ k. edges_of_read label (take k list) ++ edge_of label (get_or list (i - 1) 0) (get_or list k 0) ∷ []) next

-- a chain with one more edge at its end
pub chain_push : (start at : ℕ) (chain : List Edge) (edge : Edge) → IsChain start chain at → edge.before ≡ at
    → IsChain start (chain ++ edge ∷ []) edge.after
chain_push start at [] edge is from = (from ∙ sym is, refl)
chain_push start at (first ∷ chain) edge is from = (is.0, chain_push first.after at chain edge is.1 from)

-- a chain that ends where it begins, and passes no element twice, is empty or a cycle
pub closed : (edges walk : List Edge) (start at : ℕ) → IsChain start walk at → at ≡ start → All (Contains edges) walk
    → HasNoDuplicates (starts_of walk) → IsCycleOrNone edges walk
closed edges [] start at chain is among once = inl refl
closed edges (edge ∷ walk) start at chain is among once = inr (
  record {
    start = start;
    chain = subst (λ n. IsChain start (edge ∷ walk) n) is chain;
    some = omega arith;
    among = λ e there. All-contains (Contains edges) (edge ∷ walk) e among there;
  },
  once,
)

-- the elements that a walk passed are among those of a set
abbrev pub ArePassed : BTreeSet ℕ → List Edge → Type 0
ArePassed set walk = (x : ℕ) → Contains (starts_of walk) x → contains nat_cmp set x ≡ true

-- the elements of a walk with one more edge
more_starts : (walk : List Edge) (edge : Edge) → starts_of (walk ++ edge ∷ []) ≡ starts_of walk ++ edge.before ∷ []
more_starts walk edge = map-append (λ (e : Edge). e.before) walk (edge ∷ [])

once_push : (xs : List ℕ) (x : ℕ) → HasNoDuplicates xs → ¬ Contains xs x → HasNoDuplicates (xs ++ x ∷ [])
once_push [] x once new = (none_there x, tt)
once_push (y ∷ ys) x once new = (
  (λ there. elim (Contains-append_cases ys (x ∷ []) y there) [
    | inl before ↦ once.0 before
    | inr last ↦ elim (head_or_behind x [] y last) [
      | inl same ↦ new (at_head y ys x (sym same))
      | inr none ↦ none_there y none
    ]
  ]),
  once_push ys x once.1 (λ there. new (behind_head y ys x there)),
)

-- a walk goes on from an element that it has not passed
pub passes_once : (old : BTreeSet ℕ) (walk : List Edge) (edge : Edge) (at : ℕ) → edge.before ≡ at
    → contains nat_cmp old at ≡ false → ArePassed old walk → HasNoDuplicates (starts_of walk)
    → HasNoDuplicates (starts_of (walk ++ edge ∷ []))
passes_once old walk edge at from new passed once =
    subst HasNoDuplicates (sym (more_starts walk edge))
    (once_push (starts_of walk) edge.before once
    (λ there. false≢true (sym new ∙ passed at (subst (Contains (starts_of walk)) from there))))

pub passed_more : (old new : BTreeSet ℕ) (walk : List Edge) (edge : Edge) (at : ℕ) → edge.before ≡ at
    → Updates nat_cmp old new at true → ArePassed old walk → ArePassed new (walk ++ edge ∷ [])
passed_more old new walk edge at from updates passed x there =
    elim (Contains-append_cases (starts_of walk) (edge.before ∷ []) x (subst (λ xs. Contains xs x) (more_starts walk edge) there)) [
      | inl before ↦ updates.0 x ∙ either _ (contains nat_cmp old x) (passed x before)
      | inr last ↦ elim (head_or_behind edge.before [] x last) [
        | inl same ↦ subst (λ y. contains nat_cmp new y ≡ true) (sym from ∙ same) updates.1
        | inr none ↦ absurd (none_there x none)
      ]
    ]
  where
    either : (b was : Bool) → was ≡ true → cond b true was ≡ true
    either true was is = refl
    either false was is = is

-- an edge that was looked up is one of the edges
pub found_there : (edges : List Edge) (i : ℕ) (edge : Edge) → true ≡ ltb i (length edges) → edge ≡ get_or edges i edge
    → Contains edges edge
found_there edges i edge within is = (i, ltb-true i (length edges) (sym within), sym is)
