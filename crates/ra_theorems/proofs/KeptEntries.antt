-- Lemmas on an RGA's list of which only some elements are kept.
use Rattle.std.proofs.Common.{◌≡◌, ℕ, Bool, true, false, List, [], ◌∷◌, ◌++◌, refl, sym, ap, ◌∙◌, subst, inl, inr, arith, append_assoc}
use Rattle.std.specs.Prelude.{◌==◌, ◌&&◌, ◌||◌, not, Contains}
use Rattle.std.specs.List.{list_all}
use Rattle.std.proofs.lemmas.Bool.{cases_Bool, cond-true, cond-false, and_parts, or_left, or_right, or_from, eqb-true, eq-eqb, ne_eqb, not-true}
use Rattle.std.proofs.lemmas.List.{map-append}
use Rattle.std.proofs.lemmas.List.Elements.{filter-append, Contains-append_right}
use Rattle.ra_labels.specs.Lists.{insert_after, hide}
use Rattle.ra_labels.specs.TheoremTerms.{elements_in, HasNoDuplicates}
use Rattle.ra_labels.specs.Late.{kept_entries}
use Rattle.ra_labels.proofs.Members.{head_or_behind, at_head, behind_head, from_where, there-kept, reached}
use Rattle.ra_theorems.proofs.Rgas.{insert_here, insert_on}

keeps_it : (keep : ℕ → Bool) (entry : ℕ × Bool) (list : List (ℕ × Bool)) → keep entry.0 ≡ true
    → kept_entries keep (entry ∷ list) ≡ entry ∷ kept_entries keep list
keeps_it keep entry list is = cond-true (keep entry.0) (entry ∷ kept_entries keep list) (kept_entries keep list) is

drops_it : (keep : ℕ → Bool) (entry : ℕ × Bool) (list : List (ℕ × Bool)) → keep entry.0 ≡ false
    → kept_entries keep (entry ∷ list) ≡ kept_entries keep list
drops_it keep entry list is = cond-false (keep entry.0) (entry ∷ kept_entries keep list) (kept_entries keep list) is

pub kept-inserted : (keep : ℕ → Bool) (anchor x : ℕ) (list : List (ℕ × Bool)) → keep anchor ≡ true → keep x ≡ true
    → kept_entries keep (insert_after anchor x list) ≡ insert_after anchor x (kept_entries keep list)
kept-inserted keep anchor x [] anchored kept = refl
kept-inserted keep anchor x (entry ∷ list) anchored kept = elim (cases_Bool (anchor == entry.0)) [
  | inl here ↦
      let it : keep entry.0 ≡ true = ap keep (sym (eqb-true anchor entry.0 here)) ∙ anchored in
      ap (kept_entries keep) (insert_here anchor x entry list here) ∙ keeps_it keep entry ((x, true) ∷ list) it
      ∙ ap (λ es. entry ∷ es) (keeps_it keep (x, true) list kept)
      ∙ sym (ap (insert_after anchor x) (keeps_it keep entry list it)
      ∙ insert_here anchor x entry (kept_entries keep list) here)
  | inr other ↦ ap (kept_entries keep) (insert_on anchor x entry list other) ∙ elim (cases_Bool (keep entry.0)) [
    | inl it ↦
        keeps_it keep entry (insert_after anchor x list) it
        ∙ ap (λ es. entry ∷ es) (kept-inserted keep anchor x list anchored kept)
        ∙ sym (ap (insert_after anchor x) (keeps_it keep entry list it)
        ∙ insert_on anchor x entry (kept_entries keep list) other)
    | inr not_it ↦
        drops_it keep entry (insert_after anchor x list) not_it ∙ kept-inserted keep anchor x list anchored kept
        ∙ sym (ap (insert_after anchor x) (drops_it keep entry list not_it))
  ]
]

pub kept-dropped : (keep : ℕ → Bool) (anchor x : ℕ) (list : List (ℕ × Bool)) → keep x ≡ false
    → kept_entries keep (insert_after anchor x list) ≡ kept_entries keep list
kept-dropped keep anchor x [] dropped = refl
kept-dropped keep anchor x (entry ∷ list) dropped = elim (cases_Bool (anchor == entry.0)) [
  | inl here ↦ ap (kept_entries keep) (insert_here anchor x entry list here) ∙ elim (cases_Bool (keep entry.0)) [
    | inl it ↦ keeps_it keep entry ((x, true) ∷ list) it ∙ ap (λ es. entry ∷ es) (drops_it keep (x, true) list dropped)
        ∙ sym (keeps_it keep entry list it)
    | inr not_it ↦ drops_it keep entry ((x, true) ∷ list) not_it ∙ drops_it keep (x, true) list dropped
        ∙ sym (drops_it keep entry list not_it)
  ]
  | inr other ↦ ap (kept_entries keep) (insert_on anchor x entry list other) ∙ elim (cases_Bool (keep entry.0)) [
    | inl it ↦ keeps_it keep entry (insert_after anchor x list) it
        ∙ ap (λ es. entry ∷ es) (kept-dropped keep anchor x list dropped) ∙ sym (keeps_it keep entry list it)
    | inr not_it ↦ drops_it keep entry (insert_after anchor x list) not_it ∙ kept-dropped keep anchor x list dropped
        ∙ sym (drops_it keep entry list not_it)
  ]
]

pub kept-hidden : (keep : ℕ → Bool) (x : ℕ) (list : List (ℕ × Bool))
    → kept_entries keep (hide x list) ≡ hide x (kept_entries keep list)
kept-hidden keep x [] = refl
kept-hidden keep x (entry ∷ list) =
    let shaded : ℕ × Bool = (entry.0, entry.1 && not (x == entry.0)) in
    elim (cases_Bool (keep entry.0)) [
      | inl it ↦ keeps_it keep shaded (hide x list) it ∙ ap (λ es. shaded ∷ es) (kept-hidden keep x list)
          ∙ sym (ap (hide x) (keeps_it keep entry list it))
      | inr not_it ↦ drops_it keep shaded (hide x list) not_it ∙ kept-hidden keep x list
          ∙ sym (ap (hide x) (drops_it keep entry list not_it))
    ]

-- keeping one more element does not affect the entries of other elements
others_kept : (keep : ℕ → Bool) (x : ℕ) (list : List (ℕ × Bool)) → ¬ Contains (elements_in list) x
    → kept_entries (λ y. keep y || x == y) list ≡ kept_entries keep list
others_kept keep x [] out = refl
others_kept keep x (entry ∷ list) out =
    let other : (x == entry.0) ≡ false = ne_eqb x entry.0 (λ is. out (at_head entry.0 (elements_in list) x (sym is))) in
    let rest = others_kept keep x list (λ there. out (behind_head entry.0 (elements_in list) x there)) in
    elim (cases_Bool (keep entry.0)) [
      | inl it ↦ keeps_it (λ y. keep y || x == y) entry list (or_left (keep entry.0) (x == entry.0) it)
          ∙ ap (λ es. entry ∷ es) rest ∙ sym (keeps_it keep entry list it)
      | inr not_it ↦
          drops_it (λ y. keep y || x == y) entry list (or_from (keep entry.0) (x == entry.0) not_it other) ∙ rest
          ∙ sym (drops_it keep entry list not_it)
    ]

none_kept : (keep : ℕ → Bool) (list : List (ℕ × Bool)) → list_all (λ entry. not (keep entry.0)) list ≡ true
    → kept_entries keep list ≡ []
none_kept keep [] none = refl
none_kept keep (entry ∷ list) none =
    let parts = and_parts (not (keep entry.0)) (list_all (λ e. not (keep e.0)) list) none in
    drops_it keep entry list (not-true (keep entry.0) parts.0) ∙ none_kept keep list parts.1

-- a kept element is in the original list
pub in-kept : (keep : ℕ → Bool) (list : List (ℕ × Bool)) (y : ℕ) → Contains (elements_in (kept_entries keep list)) y
    → Contains (elements_in list) y
in-kept keep list y there =
    let (entry, found, is) = from_where (λ (e : ℕ × Bool). e.0) (kept_entries keep list) y there in
    subst (Contains (elements_in list)) is
    (reached (λ (e : ℕ × Bool). e.0) list entry (there-kept (λ (e : ℕ × Bool). keep e.0) list entry found).0)

-- an insertion after an element that has no earlier entry
insert_at : (p x : ℕ) (is_shown : Bool) (before behind : List (ℕ × Bool)) → ¬ Contains (elements_in before) p
    → insert_after p x (before ++ (p, is_shown) ∷ behind) ≡ before ++ (p, is_shown) ∷ (x, true) ∷ behind
insert_at p x is_shown [] behind out = insert_here p x (p, is_shown) behind (eq-eqb p p refl)
insert_at p x is_shown (entry ∷ before) behind out =
    insert_on p x entry (before ++ (p, is_shown) ∷ behind)
    (ne_eqb p entry.0 (λ is. out (at_head entry.0 (elements_in before) p (sym is))))
    ∙ ap (λ es. entry ∷ es)
    (insert_at p x is_shown before behind (λ there. out (behind_head entry.0 (elements_in before) p there)))

-- an element that occurs once is in neither piece around it
once_round : (before behind : List (ℕ × Bool)) (x : ℕ) (is_shown : Bool)
    → HasNoDuplicates (elements_in (before ++ (x, is_shown) ∷ behind)) → (¬ Contains (elements_in before) x)
    × (¬ Contains (elements_in behind) x)
once_round [] behind x is_shown once = ((λ there. absurd (omega (arith, there.1))), once.0)
once_round (entry ∷ before) behind x is_shown once =
    let rest = once_round before behind x is_shown once.1 in (
      (λ there. elim (head_or_behind entry.0 (elements_in before) x there) [
        | inl here ↦
            once.0 (subst (λ els. Contains els entry.0)
            (sym (map-append (λ (e : ℕ × Bool). e.0) before ((x, is_shown) ∷ behind)))
            (Contains-append_right (elements_in before) (x ∷ elements_in behind) entry.0
            (at_head x (elements_in behind) entry.0 (sym here))))
        | inr further ↦ rest.0 further
      ]),
      rest.1,
    )

pub in_append : (first later : List (ℕ × Bool)) → elements_in (first ++ later) ≡ elements_in first ++ elements_in later
in_append first later = map-append (λ (e : ℕ × Bool). e.0) first later

-- an element that becomes kept is inserted after the nearest kept element before it
pub kept-nearest : (keep : ℕ → Bool) (before between behind : List (ℕ × Bool)) (p x : ℕ) (is_shown was_shown : Bool)
    → HasNoDuplicates (elements_in (before ++ (p, is_shown) ∷ between ++ (x, was_shown) ∷ behind))
    → keep p ≡ true → list_all (λ entry. not (keep entry.0)) between ≡ true → keep x ≡ false
    → elements_in (kept_entries (λ y. keep y || x == y) (before ++ (p, is_shown) ∷ between ++ (x, was_shown) ∷ behind))
    ≡ elements_in
    (insert_after p x (kept_entries keep (before ++ (p, is_shown) ∷ between ++ (x, was_shown) ∷ behind)))
kept-nearest keep before between behind p x is_shown was_shown once kept none dropped =
    let more : ℕ → Bool = λ y. keep y || x == y in
    let rest : List (ℕ × Bool) = between ++ (x, was_shown) ∷ behind in
    let first : List (ℕ × Bool) = before ++ (p, is_shown) ∷ between in
    let split : before ++ (p, is_shown) ∷ rest ≡ first ++ (x, was_shown) ∷ behind =
    sym (append_assoc before ((p, is_shown) ∷ between) ((x, was_shown) ∷ behind)) in
    let round_x = once_round first behind x was_shown once in
    let round_p = once_round before rest p is_shown (subst (λ es. HasNoDuplicates (elements_in es)) (sym split) once) in
    let kept_first : kept_entries keep first ≡ kept_entries keep before ++ (p, is_shown) ∷ [] =
    filter-append (λ (e : ℕ × Bool). keep e.0) before ((p, is_shown) ∷ between)
    ∙ ap (λ es. kept_entries keep before ++ es)
    (keeps_it keep (p, is_shown) between kept ∙ ap (λ es. (p, is_shown) ∷ es) (none_kept keep between none)) in
    let now : kept_entries more (first ++ (x, was_shown) ∷ behind) ≡ (kept_entries keep before ++ (p, is_shown) ∷ [])
    ++ (x, was_shown) ∷ kept_entries keep behind =
    filter-append (λ (e : ℕ × Bool). more e.0) first ((x, was_shown) ∷ behind)
    ∙ (λ i. (others_kept keep x first round_x.0 ∙ kept_first) i
    ++ (keeps_it more (x, was_shown) behind (or_right (keep x) (x == x) (eq-eqb x x refl))
    ∙ ap (λ es. (x, was_shown) ∷ es) (others_kept keep x behind round_x.1)) i) in
    let was : kept_entries keep (first ++ (x, was_shown) ∷ behind)
    ≡ kept_entries keep before ++ (p, is_shown) ∷ kept_entries keep behind =
    filter-append (λ (e : ℕ × Bool). keep e.0) first ((x, was_shown) ∷ behind)
    ∙ (λ i. kept_first i ++ drops_it keep (x, was_shown) behind dropped i)
    ∙ append_assoc (kept_entries keep before) ((p, is_shown) ∷ []) (kept_entries keep behind) in
    let out : ¬ Contains (elements_in (kept_entries keep before)) p =
    λ there. round_p.0 (in-kept keep before p there) in
    ap elements_in now
    ∙ in_append (kept_entries keep before ++ (p, is_shown) ∷ []) ((x, was_shown) ∷ kept_entries keep behind)
    ∙ sym (in_append (kept_entries keep before ++ (p, is_shown) ∷ []) ((x, true) ∷ kept_entries keep behind))
    ∙ ap elements_in
    (append_assoc (kept_entries keep before) ((p, is_shown) ∷ []) ((x, true) ∷ kept_entries keep behind))
    ∙ sym (ap elements_in
    (ap (insert_after p x) was ∙ insert_at p x is_shown (kept_entries keep before) (kept_entries keep behind) out))
