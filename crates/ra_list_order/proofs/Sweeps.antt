-- One more element of the stretch.
use Rattle.std.proofs.Common.{◌≡◌, ℕ, Bool, ◌+◌, ◌<◌, true, false, List, [], ◌∷◌, ◌++◌, filter, length, get_or, take, sym, ap, ◌∙◌, subst, inl, inr, append_assoc}
use Rattle.std.specs.Prelude.{◌==◌, Contains}
use Rattle.std.specs.List.Sorted.{IsPermutation}
use Rattle.std.proofs.lemmas.Bool.{false≢true, eqb-true, eq-eqb}
use Rattle.std.proofs.lemmas.List.Elements.{Contains-append_left, Contains-append_right, Contains-append_cases, Contains-push_cases}
use Rattle.std.proofs.lemmas.List.{take_more}
use Rattle.std.proofs.lemmas.List.Sorted.{IsPermutation-refl, IsPermutation-sym, IsPermutation-append_left, IsPermutation-push_more, IsPermutation-middle, Contains-permutation}
use Rattle.ra_labels.specs.declared.edge.Edge.{Edge}
use Rattle.ra_labels.specs.Edges.{IsBefore}
use Rattle.ra_list_order.specs.Marks.{is_marked}
use Rattle.ra_list_order.specs.Sweep.{AreEdgesFrom, IsSwept}
use Rattle.ra_list_order.proofs.Members.{head_or_behind, none_there, kept-there, there-kept}
use Rattle.ra_list_order.proofs.Befores.{Left, Right, Across, before_left, before_across, before_cases, before_wider}
use Rattle.ra_list_order.proofs.Ways.{start_marked, still_marked, end_marked, walked_none, walked_more}

not_in_one : (x a b : ℕ) → ¬ IsBefore (x ∷ []) a b
not_in_one x a b before = elim before [
  | inl here ↦ none_there b here.1
  | inr further ↦ further
]

in_one : (x y : ℕ) → Contains (x ∷ []) y → x ≡ y
in_one x y there = elim (head_or_behind x [] y there) [
  | inl here ↦ here
  | inr further ↦ absurd (none_there y further)
]

pub swept_none : (edges : List Edge) (start : ℕ) → IsSwept [] edges start [] [] []
swept_none edges start = record {
  parts = IsPermutation-refl [];
  keeps = λ edge among before. before;
  start_moves = none_there start;
  marked = λ x there. absurd (none_there x there);
  closed = λ edge among there. absurd (none_there edge.before there);
  among = λ edge there. absurd (none_there edge there);
  rooted = walked_none start;
}

module _ (done : List ℕ) (edges : List Edge) (start : ℕ) (stays moves : List ℕ) (walked : List Edge)
    (swept : IsSwept done edges start stays moves walked) (x : ℕ) where
  in_parts : (y : ℕ) → Contains done y → Contains (stays ++ moves) y
  in_parts y there = Contains-permutation done (stays ++ moves) y swept.parts there

  stays_keeps : is_marked start walked x ≡ false → (edge : Edge) → Contains edges edge
      → IsBefore (done ++ x ∷ []) edge.before edge.after
      → IsBefore ((stays ++ x ∷ []) ++ moves) edge.before edge.after
  stays_keeps unmarked edge among before = elim (before_cases done (x ∷ []) edge.before edge.after before) [
    | Left both ↦ before_wider stays (x ∷ []) moves edge.before edge.after (swept.keeps edge among both)
    | Right both ↦ absurd (not_in_one x edge.before edge.after both)
    | Across near far ↦ elim (Contains-append_cases stays moves edge.before (in_parts edge.before near)) [
      | inl staying ↦ before_left (stays ++ x ∷ []) moves edge.before edge.after
          (before_across stays (x ∷ []) edge.before edge.after staying far)
      | inr moving ↦ absurd (false≢true (sym unmarked ∙ ap (is_marked start walked) (in_one x edge.after far)
          ∙ end_marked start walked edge (swept.closed edge among moving)))
    ]
  ]

  pub swept_stays : is_marked start walked x ≡ false → IsSwept (done ++ x ∷ []) edges start (stays ++ x ∷ []) moves walked
  swept_stays unmarked = record {
    parts = IsPermutation-push_more done (stays ++ moves) ((stays ++ x ∷ []) ++ moves) x swept.parts
        (subst (λ zs. IsPermutation (x ∷ (stays ++ moves)) zs) (sym (append_assoc stays (x ∷ []) moves))
        (IsPermutation-sym (stays ++ x ∷ moves) (x ∷ (stays ++ moves)) (IsPermutation-middle stays x moves)));
    keeps = stays_keeps unmarked;
    start_moves = λ there. elim (Contains-push_cases stays x start there) [
      | inl earlier ↦ swept.start_moves earlier
      | inr now ↦ false≢true (sym unmarked ∙ ap (is_marked start walked) now ∙ start_marked start walked)
    ];
    marked = swept.marked;
    closed = swept.closed;
    among = swept.among;
    rooted = swept.rooted;
  }

  moves_keeps : (edge : Edge) → Contains edges edge
      → IsBefore (done ++ x ∷ []) edge.before edge.after
      → IsBefore ((stays ++ moves) ++ x ∷ []) edge.before edge.after
  moves_keeps edge among before = elim (before_cases done (x ∷ []) edge.before edge.after before) [
    | Left both ↦ before_left (stays ++ moves) (x ∷ []) edge.before edge.after (swept.keeps edge among both)
    | Right both ↦ absurd (not_in_one x edge.before edge.after both)
    | Across near far ↦
        before_across (stays ++ moves) (x ∷ []) edge.before edge.after (in_parts edge.before near) far
  ]

  pub swept_moves : (begun : List Edge) → AreEdgesFrom x edges begun → is_marked start walked x ≡ true
      → IsSwept (done ++ x ∷ []) edges start stays (moves ++ x ∷ []) (walked ++ begun)
  swept_moves begun from now_marked =
      let same : (stays ++ moves) ++ x ∷ [] ≡ stays ++ (moves ++ x ∷ []) = append_assoc stays moves (x ∷ []) in
      record {
        parts = subst (λ zs. IsPermutation (done ++ x ∷ []) zs) same
            (IsPermutation-append_left (x ∷ []) done (stays ++ moves) swept.parts);
        keeps = λ edge among before. subst (λ zs. IsBefore zs edge.before edge.after) same (moves_keeps edge among before);
        start_moves = swept.start_moves;
        marked = λ y there. elim (Contains-push_cases moves x y there) [
          | inl earlier ↦ still_marked start walked begun y (swept.marked y earlier)
          | inr now ↦ still_marked start walked begun y (subst (λ z. is_marked start walked z ≡ true) now now_marked)
        ];
        closed = λ edge among there. elim (Contains-push_cases moves x edge.before there) [
          | inl earlier ↦ Contains-append_left walked begun edge (swept.closed edge among earlier)
          | inr now ↦ Contains-append_right walked begun edge (from.each edge among (sym now))
        ];
        among = λ edge there. elim (Contains-append_cases walked begun edge there) [
          | inl earlier ↦ swept.among edge earlier
          | inr now ↦ (from.only edge now).0
        ];
        rooted = walked_more start walked begun x swept.rooted now_marked
            (λ edge there. (from.only edge there).1);
      }

pub edges_from : (x : ℕ) (edges : List Edge) → AreEdgesFrom x edges (filter (λ (edge : Edge). edge.before == x) edges)
edges_from x edges =
    let test : Edge → Bool = λ edge. edge.before == x in
    record {
      only = λ edge there.
          let both = there-kept test edges edge there in
          (both.0, eqb-true edge.before x both.1);
      each = λ edge among is. kept-there test edges edge among (eq-eqb edge.before x is);
    }

-- the same at the next element of a stretch
module _ (stretch : List ℕ) (i : ℕ) (edges : List Edge) (start : ℕ) (stays moves : List ℕ) (walked : List Edge)
    (swept : IsSwept (take i stretch) edges start stays moves walked) (within : i < length stretch) where
  pub next_stays : (new : List ℕ) → new ≡ stays ++ get_or stretch i 0 ∷ []
      → is_marked start walked (get_or stretch i 0) ≡ false
      → IsSwept (take (i + 1) stretch) edges start new moves walked
  next_stays new made unmarked =
      subst (λ xs. IsSwept (take (i + 1) stretch) edges start xs moves walked) (sym made)
      (subst (λ xs. IsSwept xs edges start (stays ++ get_or stretch i 0 ∷ []) moves walked)
      (sym (take_more stretch i 0 within))
      (swept_stays (take i stretch) edges start stays moves walked swept (get_or stretch i 0) unmarked))

  pub next_moves : (new : List ℕ) (begun more : List Edge) → new ≡ moves ++ get_or stretch i 0 ∷ []
      → AreEdgesFrom (get_or stretch i 0) edges begun → more ≡ walked ++ begun
      → is_marked start walked (get_or stretch i 0) ≡ true
      → IsSwept (take (i + 1) stretch) edges start stays new more
  next_moves new begun more made from pushed marked =
      let x = get_or stretch i 0 in
      subst (λ xs. IsSwept (take (i + 1) stretch) edges start stays xs more) (sym made)
      (subst (λ es. IsSwept (take (i + 1) stretch) edges start stays (moves ++ x ∷ []) es) (sym pushed)
      (subst (λ xs. IsSwept xs edges start stays (moves ++ x ∷ []) (walked ++ begun))
      (sym (take_more stretch i 0 within))
      (swept_moves (take i stretch) edges start stays moves walked swept x begun from marked)))
