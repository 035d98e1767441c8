-- The order with elements moved to a cut extends the edges and the new one.
use Rattle.std.proofs.Common.{◌≡◌, ℕ, ◌+◌, ◌<◌, List, [], ◌∷◌, ◌++◌, length, get_or, take, ◌∙◌, sym, subst, inl, inr}
use Rattle.std.specs.Prelude.{Contains}
use Rattle.std.proofs.lemmas.List.{take_more}
use Rattle.std.proofs.lemmas.List.Elements.{Contains-append_left, Contains-append_right, Contains-append_cases, Contains-push_cases}
use Rattle.ra_labels.specs.declared.edge.Edge.{Edge}
use Rattle.ra_labels.specs.Edges.{EachOnce, IsBefore, Extends}
use Rattle.ra_list_order.specs.Gathering.{others, gathered, CanBeGathered, HasEdgesAt}
use Rattle.ra_list_order.specs.Sweep.{PushesEdgesFrom, PushesEdgesInto}
use Rattle.ra_list_order.proofs.Befores.{Left, Right, Across, first_there, second_there, before_left, before_right, before_across, before_cases}
use Rattle.ra_list_order.proofs.JoinedChunks.{side, once_apart}
use Rattle.ra_list_order.proofs.Members.{none_there, same_read}
use Rattle.ra_list_order.proofs.Others.{kept_other, before_others}

module _ (left right ancestors descendants : List ℕ) (edges : List Edge) (new : Edge)
    (can : CanBeGathered left right ancestors descendants edges new) (once : EachOnce (left ++ right)) where
  abbrev moved : List ℕ
  moved = ancestors ++ descendants

  abbrev now : List ℕ
  now = gathered left moved right

  not_moved : (x : ℕ) → ¬ Contains ancestors x → ¬ Contains descendants x → ¬ Contains moved x
  not_moved x one two there = elim (Contains-append_cases ancestors descendants x there) [
    | inl first ↦ one first
    | inr second ↦ two second
  ]

  both_stay : (a b : ℕ) → ¬ Contains moved a → ¬ Contains moved b → IsBefore (left ++ right) a b → IsBefore now a b
  both_stay a b first second before = elim (before_cases left right a b before) [
    | Left both ↦ before_left (others moved left) (moved ++ others moved right) a b
        (before_others moved left a b first second both)
    | Right both ↦ before_right (others moved left) (moved ++ others moved right) a b
        (before_right moved (others moved right) a b (before_others moved right a b first second both))
    | Across near far ↦ before_across (others moved left) (moved ++ others moved right) a b
        (kept_other moved left a near first)
        (Contains-append_right moved (others moved right) b (kept_other moved right b far second))
  ]

  behind_ancestor : (a b : ℕ) → Contains ancestors a → ¬ Contains moved b → IsBefore (left ++ right) a b → IsBefore now a b
  behind_ancestor a b mine second before =
      let there : Contains right b = elim (before_cases left right a b before) [
        | Left both ↦ absurd (once_apart left right a once (first_there left a b both) (can.behind a mine))
        | Right both ↦ second_there right a b both
        | Across near far ↦ far
      ] in
      before_right (others moved left) (moved ++ others moved right) a b
      (before_across moved (others moved right) a b (Contains-append_left ancestors descendants a mine)
      (kept_other moved right b there second))

  in_front_of_descendant : (a b : ℕ) → ¬ Contains moved a → Contains descendants b → IsBefore (left ++ right) a b
      → IsBefore now a b
  in_front_of_descendant a b first mine before =
      let there : Contains left a = elim (before_cases left right a b before) [
        | Left both ↦ first_there left a b both
        | Right both ↦ absurd (once_apart left right b once (can.in_front b mine) (second_there right a b both))
        | Across near far ↦ near
      ] in
      before_across (others moved left) (moved ++ others moved right) a b (kept_other moved left a there first)
      (Contains-append_left moved (others moved right) b (Contains-append_right ancestors descendants b mine))

  from_ancestor : (a b : ℕ) → Contains ancestors a → ¬ Contains ancestors b → IsBefore (left ++ right) a b
      → IsBefore now a b
  from_ancestor a b mine none before = elim (side descendants b) [
    | inl there ↦ before_right (others moved left) (moved ++ others moved right) a b
        (before_left moved (others moved right) a b (before_across ancestors descendants a b mine there))
    | inr other ↦ behind_ancestor a b mine (not_moved b none other) before
  ]

  from_other : (a b : ℕ) → ¬ Contains moved a → ¬ Contains ancestors b → IsBefore (left ++ right) a b → IsBefore now a b
  from_other a b first none before = elim (side descendants b) [
    | inl there ↦ in_front_of_descendant a b first there before
    | inr other ↦ both_stay a b first (not_moved b none other) before
  ]

  still_before : (edge : Edge) → Contains edges edge → IsBefore (left ++ right) edge.before edge.after
      → IsBefore now edge.before edge.after
  still_before edge is before = elim (side ancestors edge.after) [
    | inl ends ↦ can.into edge is ends
    | inr none ↦ elim (side descendants edge.before) [
      | inl begins ↦ can.from edge is begins
      | inr no_descendant ↦ elim (side ancestors edge.before) [
        | inl mine ↦ from_ancestor edge.before edge.after mine none before
        | inr other ↦ from_other edge.before edge.after (not_moved edge.before other no_descendant) none before
      ]
    ]
  ]

  pub gathered_extends : Extends (left ++ right) edges → Extends now (edges ++ new ∷ [])
  gathered_extends extends edge is = elim (Contains-push_cases edges new edge is) [
    | inl old ↦ still_before edge old (extends edge old)
    | inr last ↦ subst (λ (e : Edge). IsBefore now e.before e.after) last can.leads
  ]

pub no_edges_at : (edges : List Edge) → HasEdgesAt edges [] [] []
no_edges_at edges = record {
  into = λ edge is there. absurd (none_there edge.after there);
  from = λ edge is there. absurd (none_there edge.before there);
}

-- the edges to one more ancestor
pub edges_into_more : (edges : List Edge) (ancestors : List ℕ) (walked more : List Edge) (i : ℕ) → i < length ancestors
    → HasEdgesAt edges (take i ancestors) [] walked → PushesEdgesInto (get_or ancestors i 0) edges walked more
    → HasEdgesAt edges (take (i + 1) ancestors) [] more
edges_into_more edges ancestors walked more i within has pushes = record {
  into = λ edge is there. subst (λ es. Contains es edge) (sym pushes.1)
      (elim (Contains-push_cases (take i ancestors) (get_or ancestors i 0) edge.after
      (subst (λ xs. Contains xs edge.after) (take_more ancestors i 0 within) there)) [
        | inl earlier ↦ Contains-append_left walked pushes.0 edge (has.into edge is earlier)
        | inr last ↦ Contains-append_right walked pushes.0 edge (pushes.2.each edge is (sym last))
      ]);
  from = λ edge is there. absurd (none_there edge.before there);
}

-- the edges from one more descendant
pub edges_from_more : (edges : List Edge) (ancestors descendants : List ℕ) (walked more : List Edge) (i : ℕ)
    → i < length descendants → HasEdgesAt edges ancestors (take i descendants) walked
    → PushesEdgesFrom (get_or descendants i 0) edges walked more
    → HasEdgesAt edges ancestors (take (i + 1) descendants) more
edges_from_more edges ancestors descendants walked more i within has pushes = record {
  into = λ edge is there. subst (λ es. Contains es edge) (sym pushes.1)
      (Contains-append_left walked pushes.0 edge (has.into edge is there));
  from = λ edge is there. subst (λ es. Contains es edge) (sym pushes.1)
      (elim (Contains-push_cases (take i descendants) (get_or descendants i 0) edge.before
      (subst (λ xs. Contains xs edge.before) (take_more descendants i 0 within) there)) [
        | inl earlier ↦ Contains-append_left walked pushes.0 edge (has.from edge is earlier)
        | inr last ↦ Contains-append_right walked pushes.0 edge (pushes.2.each edge is (sym last))
      ]);
}

at_each : (xs ys : List ℕ) → ((k : ℕ) → k < length xs → Contains ys (get_or xs k 0)) → (x : ℕ) → Contains xs x
    → Contains ys x
at_each xs ys each x there =
    subst (λ y. Contains ys y) (same_read xs there.0 0 x there.1 ∙ there.2) (each there.0 there.1)

pub can_be_gathered : (left right ancestors descendants read_ancestors read_descendants : List ℕ) (edges walked read : List Edge)
    (new : Edge)
    → read_ancestors ≡ ancestors → read_descendants ≡ descendants
    → ((k : ℕ) → k < length read_ancestors → Contains right (get_or read_ancestors k 0))
    → ((k : ℕ) → k < length read_descendants → Contains left (get_or read_descendants k 0))
    → IsBefore (gathered left (ancestors ++ descendants) right) new.before new.after
    → HasEdgesAt edges ancestors descendants walked → read ≡ walked
    → ((edge : Edge) → Contains read edge
    → IsBefore (gathered left (ancestors ++ descendants) right) edge.before edge.after)
    → CanBeGathered left right ancestors descendants edges new
can_be_gathered left right ancestors descendants read_ancestors read_descendants edges walked read new ancestors_are
    descendants_are behind in_front leads has reads all = record {
      behind = λ x there. at_each read_ancestors right behind x (subst (λ xs. Contains xs x) (sym ancestors_are) there);
      in_front = λ x there. at_each read_descendants left in_front x
          (subst (λ xs. Contains xs x) (sym descendants_are) there);
      into = λ edge is there. all edge (subst (λ es. Contains es edge) (sym reads) (has.into edge is there));
      from = λ edge is there. all edge (subst (λ es. Contains es edge) (sym reads) (has.from edge is there));
      leads = leads;
    }
