-- Lemmas on the reasons why none of some labels can be the last one of them.
use Rattle.std.proofs.Common.{◌≡◌, ℕ, ◌+◌, ◌<◌, Bool, true, false, List, [], ◌∷◌, ◌++◌, length, get_or, set, take, sym, subst, ◌∙◌, inl, inr}
use Rattle.std.specs.Prelude.{Contains, map}
use Rattle.std.proofs.lemmas.Bool.{cases_eq}
use Rattle.std.proofs.lemmas.List.{get_or-set_other, take_more, length-map}
use Rattle.std.proofs.lemmas.List.Elements.{Contains-append_cases, Contains-append_left, Contains-append_right}
use Rattle.ra_labels.proofs.Members.{head_or_behind, at_head, none_there, reached, from_where}
use Rattle.ra_precedence.specs.declared.reasons.Held.{Held}
use Rattle.ra_precedence.specs.Conditions.{Condition, IsStuck}
use Rattle.ra_precedence.specs.Reasons.{IsHeld, AreHeld, AreReasons, AreMarked}
use Rattle.ra_precedence.specs.Certificates.{AreAmong, IsHeldBack, AreHeldBack}
use Rattle.ra_precedence.proofs.Using.{still_in, last_in}

-- what holds of some and of one more holds of them all
module _ {A : Type 0} (P : A → Type 0) (xs : List A) where
  pub of_more : (x : A) → ((y : A) → Contains xs y → P y) → P x → (y : A) → Contains (xs ++ x ∷ []) y → P y
  of_more x so_far last y there = elim (Contains-append_cases xs (x ∷ []) y there) [
    | inl before ↦ so_far y before
    | inr behind ↦ elim (head_or_behind x [] y behind) [
      | inl same ↦ subst P same last
      | inr further ↦ absurd (none_there y further)
    ]
  ]

  pub of_next : (i : ℕ) (d : A) → i < length xs → ((y : A) → Contains (take i xs) y → P y) → P (get_or xs i d)
      → (y : A) → Contains (take (i + 1) xs) y → P y
  of_next i d within so_far last y there =
      elim (Contains-append_cases (take i xs) (get_or xs i d ∷ []) y
      (subst (λ ys. Contains ys y) (take_more xs i d within) there)) [
        | inl before ↦ so_far y before
        | inr behind ↦ elim (head_or_behind (get_or xs i d) [] y behind) [
          | inl same ↦ subst P same last
          | inr further ↦ absurd (none_there y further)
        ]
      ]

pub held_more : (conditions : List Condition) (reasons now : List Held) (held : Held) → now ≡ reasons ++ held ∷ []
    → IsHeld conditions held → AreHeld conditions reasons → AreHeld conditions now
held_more conditions reasons now held is holds so_far other there =
    of_more (IsHeld conditions) reasons held so_far holds other (subst (λ hs. Contains hs other) is there)

pub marked_more : (reasons : List Held) (marks now : List Bool) (held : Held) → Contains reasons held
    → now ≡ set marks held.label true → AreMarked reasons marks → AreMarked reasons now
marked_more reasons marks now held there is so_far c marked = elim (cases_eq c held.label) [
  | inl same ↦ (held, there, sym same)
  | inr other ↦
      so_far c (sym (get_or-set_other marks held.label c true false other)
      ∙ subst (λ ms. get_or ms c false ≡ true) is marked)
]

pub reasons_show_stuck : (conditions : List Condition) (reasons : List Held) → AreReasons conditions reasons
    → 0 < length reasons → IsStuck conditions (map (λ held. held.label) reasons)
reasons_show_stuck conditions reasons are some = record {
  some = subst (λ n. 0 < n) (sym (length-map reasons (λ (held : Held). held.label))) some;
  held = λ b there.
      let (held, its, label) = from_where (λ (h : Held). h.label) reasons b there in
      let (condition, in_them, before, after) = are.each held its in (
        condition,
        in_them,
        record {
          before = subst (Contains condition.before) label before;
          after = λ c later.
              let (other, also, named) = are.closed held c its (subst (λ cs. Contains cs c) after later) in
              subst (Contains (map (λ (h : Held). h.label) reasons)) named
              (reached (λ (h : Held). h.label) reasons other also);
        },
      );
}

-- one more label is marked, or has no mark
module _ (labels : List ℕ) (old marks now : List Bool) (i : ℕ) (within : i < length labels) where
  pub one_marked : now ≡ set marks (get_or labels i 0) true → AreAmong (take i labels) old marks
      → AreAmong (take (i + 1) labels) old now
  one_marked is so_far c marked = elim (cases_eq c (get_or labels i 0)) [
    | inl same ↦ inr (subst (Contains (take (i + 1) labels)) (sym same) (last_in labels i within))
    | inr other ↦
        elim (so_far c (sym (get_or-set_other marks (get_or labels i 0) c true false other)
        ∙ subst (λ ms. get_or ms c false ≡ true) is marked)) [
          | inl before ↦ inl before
          | inr there ↦ inr (still_in labels i c within there)
        ]
  ]

  pub none_marked : now ≡ marks → AreAmong (take i labels) old marks → AreAmong (take (i + 1) labels) old now
  none_marked is so_far c marked = elim (so_far c (subst (λ ms. get_or ms c false ≡ true) is marked)) [
    | inl before ↦ inl before
    | inr there ↦ inr (still_in labels i c within there)
  ]

-- one more condition holds labels back, or does not
module _ (conditions : List Condition) (marks old now : List Bool) (k : ℕ) (within : k < length conditions)
    (so_far : AreHeldBack (take k conditions) marks old) where
  wider : (b : ℕ) → IsHeldBack (take k conditions) marks b → IsHeldBack (take (k + 1) conditions) marks b
  wider b (condition, there, before, after) = (
    condition,
    subst (λ cs. Contains cs condition) (sym (take_more conditions k condition within))
        (Contains-append_left (take k conditions) (get_or conditions k condition ∷ []) condition there),
    before,
    after,
  )

  pub more_held_back : (condition : Condition) → condition ≡ get_or conditions k condition
      → AreAmong condition.before old now
      → ((c : ℕ) → Contains condition.after c → get_or marks c false ≡ true)
      → AreHeldBack (take (k + 1) conditions) marks now
  more_held_back condition is among all b marked = elim (among b marked) [
    | inl before ↦ wider b (so_far b before)
    | inr there ↦ (
      condition,
      subst (λ cs. Contains cs condition) (sym (take_more conditions k condition within))
          (Contains-append_right (take k conditions) (get_or conditions k condition ∷ []) condition
          (at_head (get_or conditions k condition) [] condition (sym is))),
      there,
      all,
    )
  ]

  pub none_held_back : now ≡ old → AreHeldBack (take (k + 1) conditions) marks now
  none_held_back is b marked = wider b (so_far b (subst (λ ms. get_or ms b false ≡ true) is marked))

-- the labels of a set that is marked are stuck if all are held back by marked ones
pub set_stuck : (conditions : List Condition) (labels : List ℕ) (marks held : List Bool) → 0 < length labels
    → ((c : ℕ) → get_or marks c false ≡ true → Contains labels c) → AreHeldBack conditions marks held
    → ((c : ℕ) → Contains labels c → get_or held c false ≡ true) → IsStuck conditions labels
set_stuck conditions labels marks held some marked are all = record {
  some = some;
  held = λ b there.
      let (condition, in_them, before, after) = are b (all b there) in
      (condition, in_them, record { before = before; after = λ c later. marked c (after c later) });
}
