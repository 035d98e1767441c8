-- An element that is inserted directly behind another one, and the order of the others.
use Rattle.std.proofs.Common.{◌≡◌, ℕ, List, [], ◌∷◌, refl, sym, ◌∙◌, subst, inl, inr}
use Rattle.std.specs.Prelude.{◌⊎◌, ◌==◌, Contains, if◌then◌else◌}
use Rattle.std.proofs.lemmas.Bool.{cases_eq, eq-eqb, ne_eqb, cond-true, cond-false}
use Rattle.ra_labels.specs.Edges.{IsBefore}
use Rattle.ra_labels.proofs.Members.{head_or_behind, at_head, behind_head, none_there}

-- the list with x inserted directly behind the anchor
abbrev pub behind : ℕ → ℕ → List ℕ → List ℕ
behind anchor x [] = []
behind anchor x (e ∷ es) = if anchor == e then e ∷ x ∷ es else e ∷ behind anchor x es

here : (anchor x e : ℕ) (es : List ℕ) → anchor ≡ e → behind anchor x (e ∷ es) ≡ e ∷ x ∷ es
here anchor x e es is = cond-true (anchor == e) (e ∷ x ∷ es) (e ∷ behind anchor x es) (eq-eqb anchor e is)

further : (anchor x e : ℕ) (es : List ℕ) → ¬ (anchor ≡ e) → behind anchor x (e ∷ es) ≡ e ∷ behind anchor x es
further anchor x e es not = cond-false (anchor == e) (e ∷ x ∷ es) (e ∷ behind anchor x es) (ne_eqb anchor e not)

-- holds if no element is in the list again behind its first place
abbrev pub Once : List ℕ → Type 0
Once [] = Unit {0}
Once (e ∷ es) = (¬ Contains es e) × Once es

-- what comes before another element is in the list, and so is the other one
pub first_there : (es : List ℕ) (p q : ℕ) → IsBefore es p q → Contains es p
first_there [] p q is = absurd is
first_there (e ∷ es) p q (inl both) = at_head e es p both.0
first_there (e ∷ es) p q (inr later) = behind_head e es p (first_there es p q later)

pub second_there : (es : List ℕ) (p q : ℕ) → IsBefore es p q → Contains es q
second_there [] p q is = absurd is
second_there (e ∷ es) p q (inl both) = behind_head e es q both.1
second_there (e ∷ es) p q (inr later) = behind_head e es q (second_there es p q later)

-- the elements are those of before and the new one
pub in_behind : (anchor x : ℕ) (es : List ℕ) (p : ℕ) → Contains (behind anchor x es) p → (p ≡ x) ⊎ Contains es p
in_behind anchor x [] p there = absurd (none_there p there)
in_behind anchor x (e ∷ es) p there = elim (cases_eq anchor e) [
  | inl is ↦ elim (head_or_behind e (x ∷ es) p (subst (λ ys. Contains ys p) (here anchor x e es is) there)) [
    | inl first ↦ inr (at_head e es p first)
    | inr rest ↦ elim (head_or_behind x es p rest) [
      | inl new ↦ inl (sym new)
      | inr later ↦ inr (behind_head e es p later)
    ]
  ]
  | inr not ↦ elim (head_or_behind e (behind anchor x es) p (subst (λ ys. Contains ys p) (further anchor x e es not) there)) [
    | inl first ↦ inr (at_head e es p first)
    | inr rest ↦ elim (in_behind anchor x es p rest) [
      | inl new ↦ inl new
      | inr later ↦ inr (behind_head e es p later)
    ]
  ]
]

pub still_there : (anchor x : ℕ) (es : List ℕ) (p : ℕ) → Contains es p → Contains (behind anchor x es) p
still_there anchor x [] p there = absurd (none_there p there)
still_there anchor x (e ∷ es) p there = elim (cases_eq anchor e) [
  | inl is ↦ subst (λ ys. Contains ys p) (sym (here anchor x e es is)) (elim (head_or_behind e es p there) [
    | inl first ↦ at_head e (x ∷ es) p first
    | inr rest ↦ behind_head e (x ∷ es) p (behind_head x es p rest)
  ])
  | inr not ↦ subst (λ ys. Contains ys p) (sym (further anchor x e es not)) (elim (head_or_behind e es p there) [
    | inl first ↦ at_head e (behind anchor x es) p first
    | inr rest ↦ behind_head e (behind anchor x es) p (still_there anchor x es p rest)
  ])
]

pub new_there : (anchor x : ℕ) (es : List ℕ) → Contains es anchor → Contains (behind anchor x es) x
new_there anchor x [] there = absurd (none_there anchor there)
new_there anchor x (e ∷ es) there = elim (cases_eq anchor e) [
  | inl is ↦ subst (λ ys. Contains ys x) (sym (here anchor x e es is)) (behind_head e (x ∷ es) x (at_head x es x refl))
  | inr not ↦ subst (λ ys. Contains ys x) (sym (further anchor x e es not)) (elim (head_or_behind e es anchor there) [
    | inl first ↦ absurd (not (sym first))
    | inr rest ↦ behind_head e (behind anchor x es) x (new_there anchor x es rest)
  ])
]

-- each element is there once
pub once_behind : (anchor x : ℕ) (es : List ℕ) → ¬ Contains es x → Once es → Once (behind anchor x es)
once_behind anchor x [] new once = tt
once_behind anchor x (e ∷ es) new once = elim (cases_eq anchor e) [
  | inl is ↦ subst Once (sym (here anchor x e es is)) (
    (λ there. elim (head_or_behind x es e there) [
      | inl same ↦ new (at_head e es x (sym same))
      | inr rest ↦ once.0 rest
    ]),
    ((λ there. new (behind_head e es x there)), once.1),
  )
  | inr not ↦ subst Once (sym (further anchor x e es not)) (
    (λ there. elim (in_behind anchor x es e there) [
      | inl same ↦ new (at_head e es x same)
      | inr rest ↦ once.0 rest
    ]),
    once_behind anchor x es (λ there. new (behind_head e es x there)) once.1,
  )
]

-- the order of the others
pub others_after : (anchor x : ℕ) (es : List ℕ) (p q : ℕ) → IsBefore es p q → IsBefore (behind anchor x es) p q
others_after anchor x [] p q is = absurd is
others_after anchor x (e ∷ es) p q is = elim (cases_eq anchor e) [
  | inl same ↦ subst (λ ys. IsBefore ys p q) (sym (here anchor x e es same)) (elim is [
    | inl both ↦ inl (both.0, behind_head x es q both.1)
    | inr later ↦ inr (inr later)
  ])
  | inr not ↦ subst (λ ys. IsBefore ys p q) (sym (further anchor x e es not)) (elim is [
    | inl both ↦ inl (both.0, still_there anchor x es q both.1)
    | inr later ↦ inr (others_after anchor x es p q later)
  ])
]

pub others_before : (anchor x : ℕ) (es : List ℕ) (p q : ℕ) → ¬ (p ≡ x) → ¬ (q ≡ x) → IsBefore (behind anchor x es) p q
    → IsBefore es p q
others_before anchor x [] p q other_p other_q is = absurd is
others_before anchor x (e ∷ es) p q other_p other_q is = elim (cases_eq anchor e) [
  | inl same ↦ elim (subst (λ ys. IsBefore ys p q) (here anchor x e es same) is) [
    | inl both ↦ elim (head_or_behind x es q both.1) [
      | inl new ↦ absurd (other_q (sym new))
      | inr rest ↦ inl (both.0, rest)
    ]
    | inr rest ↦ elim rest [
      | inl new ↦ absurd (other_p (sym new.0))
      | inr later ↦ inr later
    ]
  ]
  | inr not ↦ elim (subst (λ ys. IsBefore ys p q) (further anchor x e es not) is) [
    | inl both ↦ elim (in_behind anchor x es q both.1) [
      | inl new ↦ absurd (other_q new)
      | inr rest ↦ inl (both.0, rest)
    ]
    | inr later ↦ inr (others_before anchor x es p q other_p other_q later)
  ]
]

-- the new element comes before what its anchor comes before
pub new_before : (anchor x : ℕ) (es : List ℕ) (q : ℕ) → Once es → IsBefore es anchor q → IsBefore (behind anchor x es) x q
new_before anchor x [] q once is = absurd is
new_before anchor x (e ∷ es) q once is = elim (cases_eq anchor e) [
  | inl same ↦ subst (λ ys. IsBefore ys x q) (sym (here anchor x e es same)) (elim is [
    | inl both ↦ inr (inl (refl, both.1))
    | inr later ↦ absurd (once.0 (subst (Contains es) same (first_there es anchor q later)))
  ])
  | inr not ↦ subst (λ ys. IsBefore ys x q) (sym (further anchor x e es not)) (elim is [
    | inl both ↦ absurd (not (sym both.0))
    | inr later ↦ inr (new_before anchor x es q once.1 later)
  ])
]

-- and behind its anchor and what comes before that
pub new_behind_anchor : (anchor x : ℕ) (es : List ℕ) → Contains es anchor → IsBefore (behind anchor x es) anchor x
new_behind_anchor anchor x [] there = absurd (none_there anchor there)
new_behind_anchor anchor x (e ∷ es) there = elim (cases_eq anchor e) [
  | inl same ↦ subst (λ ys. IsBefore ys anchor x) (sym (here anchor x e es same)) (inl (sym same, at_head x es x refl))
  | inr not ↦ subst (λ ys. IsBefore ys anchor x) (sym (further anchor x e es not)) (elim (head_or_behind e es anchor there) [
    | inl first ↦ absurd (not (sym first))
    | inr rest ↦ inr (new_behind_anchor anchor x es rest)
  ])
]

pub new_behind : (anchor x : ℕ) (es : List ℕ) (p : ℕ) → Once es → IsBefore es p anchor → IsBefore (behind anchor x es) p x
new_behind anchor x [] p once is = absurd is
new_behind anchor x (e ∷ es) p once is = elim (cases_eq anchor e) [
  | inl same ↦ subst (λ ys. IsBefore ys p x) (sym (here anchor x e es same)) (elim is [
    | inl both ↦ inl (both.0, at_head x es x refl)
    | inr later ↦ absurd (once.0 (subst (Contains es) same (second_there es p anchor later)))
  ])
  | inr not ↦ subst (λ ys. IsBefore ys p x) (sym (further anchor x e es not)) (elim is [
    | inl both ↦ inl (both.0, new_there anchor x es both.1)
    | inr later ↦ inr (new_behind anchor x es p once.1 later)
  ])
]

-- of two elements in a list with each once, only one comes before the other
pub not_both : (es : List ℕ) (p q : ℕ) → Once es → IsBefore es p q → ¬ IsBefore es q p
not_both [] p q once first second = absurd first
not_both (e ∷ es) p q once first second = elim first [
  | inl both ↦ elim second [
    | inl again ↦ once.0 (subst (Contains es) (sym both.0) again.1)
    | inr later ↦ once.0 (subst (Contains es) (sym both.0) (second_there es q p later))
  ]
  | inr later ↦ elim second [
    | inl again ↦ once.0 (subst (Contains es) (sym again.0) (second_there es p q later))
    | inr further ↦ not_both es p q once.1 later further
  ]
]

-- and one of two different ones does
pub either_first : (es : List ℕ) (p q : ℕ) → Contains es p → Contains es q → ¬ (p ≡ q) → IsBefore es p q ⊎ IsBefore es q p
either_first [] p q there_p there_q apart = absurd (none_there p there_p)
either_first (e ∷ es) p q there_p there_q apart = elim (head_or_behind e es p there_p) [
  | inl first_p ↦ elim (head_or_behind e es q there_q) [
    | inl first_q ↦ absurd (apart (sym first_p ∙ first_q))
    | inr rest_q ↦ inl (inl (first_p, rest_q))
  ]
  | inr rest_p ↦ elim (head_or_behind e es q there_q) [
    | inl first_q ↦ inr (inl (first_q, rest_p))
    | inr rest_q ↦ elim (either_first es p q rest_p rest_q apart) [
      | inl later ↦ inl (inr later)
      | inr later ↦ inr (inr later)
    ]
  ]
]
