-- Lemmas on the slots along links, if a slot is inserted behind one of them.
use Rattle.std.proofs.Common.{◌≡◌, ℕ, zero, suc, Bool, true, false, cond, List, [], ◌∷◌, map, refl, sym, ap, ◌∙◌, subst, inl, inr}
use Rattle.std.specs.Prelude.{◌==◌, ◌||◌}
use Rattle.std.proofs.lemmas.Bool.{false≢true, cases_Bool, cond-true, cond-false, eqb-true, eqb-false, eq-eqb, ne_eqb}
use Rattle.std.proofs.lemmas.Bool.{or_cases, or_left, or_right, or_parts, or_from}
use Rattle.ra_labels.specs.Lists.{is_among, insert_after}
use Rattle.ra_seqspec.specs.Rga.{along, AreDistinct}

-- the slots with a new one behind slot i
abbrev pub put_behind : ℕ → ℕ → List ℕ → List ℕ
put_behind i new [] = []
put_behind i new (slot ∷ slots) = cond (i == slot) (slot ∷ new ∷ slots) (slot ∷ put_behind i new slots)

-- a member of a list differs from a non-member
pub differs : (k other : ℕ) (slots : List ℕ) → is_among k slots ≡ true → is_among other slots ≡ false
    → (k == other) ≡ false
differs k other slots there apart =
    ne_eqb k other (λ same. false≢true (sym apart ∙ subst (λ z. is_among z slots ≡ true) same there))

among_head : (k : ℕ) (slots : List ℕ) → is_among k (k ∷ slots) ≡ true
among_head k slots = or_left (k == k) _ (eq-eqb k k refl)

among_tail : (k slot : ℕ) (slots : List ℕ) → is_among k slots ≡ true → is_among k (slot ∷ slots) ≡ true
among_tail k slot slots there = or_right (k == slot) (is_among k slots) there

-- links that agree on the slots along them lead along the same slots
pub along_same : (next other : ℕ → ℕ) (n slot : ℕ)
    → ((k : ℕ) → is_among k (along next n slot) ≡ true → other k ≡ next k) → along other n slot ≡ along next n slot
along_same next other zero slot same = refl
along_same next other (suc n) slot same =
    let here : other slot ≡ next slot = same slot (among_head slot (along next n (next slot))) in
    let rest : along other n (next slot) ≡ along next n (next slot) =
    along_same next other n (next slot) (λ k there. same k (among_tail k slot (along next n (next slot)) there)) in
    ap (λ slots. slot ∷ slots) (ap (along other n) here ∙ rest)

-- the new slot's link is the old link of slot i, which now leads to the new slot; all other links are unchanged
pub record Relinked (next other : ℕ → ℕ) (i new : ℕ) : Type 0 where
  pub at_new : other new ≡ next i
  pub at_i : other i ≡ new
  pub others : (k : ℕ) → (k == new) ≡ false → (k == i) ≡ false → other k ≡ next k

-- relinking inserts the new slot behind slot i
pub along_put : (next other : ℕ → ℕ) (n slot i new : ℕ) → Relinked next other i new → AreDistinct (along next n slot)
    → is_among i (along next n slot) ≡ true → is_among new (along next n slot) ≡ false
    → along other (suc n) slot ≡ put_behind i new (along next n slot)
along_put next other zero slot i new links once there apart = absurd (cc there)
along_put next other (suc n) slot i new links once there apart = elim (cases_Bool (i == slot)) [
  | inl here ↦
      let same : i ≡ slot = eqb-true i slot here in
      let rest = along next n (next slot) in
      let to_new : other slot ≡ new = ap other (sym same) ∙ links.at_i in
      let on : other (other slot) ≡ next slot = ap other to_new ∙ links.at_new ∙ ap next same in
      let kept : along other n (next slot) ≡ rest = along_same next other n (next slot) (λ k among.
      links.others k (differs k new rest among (or_parts (new == slot) (is_among new rest) apart).1)
      (differs k i rest among (subst (λ z. is_among z rest ≡ false) (sym same) once.0))) in
      ap (λ z. slot ∷ z ∷ along other n (other (other slot))) to_new
      ∙ ap (λ z. slot ∷ new ∷ along other n z) on
      ∙ ap (λ z. slot ∷ new ∷ z) kept
      ∙ sym (cond-true (i == slot) (slot ∷ new ∷ rest) (slot ∷ put_behind i new rest) here)
  | inr away ↦
      let rest = along next n (next slot) in
      let parts = or_parts (new == slot) (is_among new rest) apart in
      let stays : other slot ≡ next slot =
      links.others slot (ne_eqb slot new (λ same. eqb-false new slot parts.0 (sym same)))
      (ne_eqb slot i (λ same. eqb-false i slot away (sym same))) in
      let later : is_among i rest ≡ true = elim (or_cases (i == slot) (is_among i rest) there)
      [ inl here ↦ absurd (false≢true (sym away ∙ here)) | inr behind ↦ behind ] in
      ap (λ z. slot ∷ along other (suc n) z) stays
      ∙ ap (λ z. slot ∷ z) (along_put next other n (next slot) i new links once.1 later parts.1)
      ∙ sym (cond-false (i == slot) (slot ∷ new ∷ rest) (slot ∷ put_behind i new rest) away)
]

later_among : (i slot : ℕ) (slots : List ℕ) → is_among i (slot ∷ slots) ≡ true → (i == slot) ≡ false
    → is_among i slots ≡ true
later_among i slot slots there away = elim (or_cases (i == slot) (is_among i slots) there)
    [ inl here ↦ absurd (false≢true (sym away ∙ here)) | inr behind ↦ behind ]

swapped : (a b c : Bool) → (a || (b || c)) ≡ (b || (a || c))
swapped true true c = refl
swapped true false c = refl
swapped false b c = refl

pub map_same : (f g : ℕ → ℕ × Bool) (slots : List ℕ) → ((k : ℕ) → is_among k slots ≡ true → g k ≡ f k)
    → map g slots ≡ map f slots
map_same f g [] each = refl
map_same f g (slot ∷ slots) each =
    ap (λ z. z ∷ map g slots) (each slot (among_head slot slots))
    ∙ ap (λ z. f slot ∷ z) (map_same f g slots (λ k among. each k (among_tail k slot slots among)))

-- the members after a slot is inserted behind another
pub among_put : (i new k : ℕ) (slots : List ℕ) → is_among i slots ≡ true
    → is_among k (put_behind i new slots) ≡ (k == new || is_among k slots)
among_put i new k [] there = absurd (cc there)
among_put i new k (slot ∷ slots) there = elim (cases_Bool (i == slot)) [
  | inl here ↦
      ap (is_among k) (cond-true (i == slot) (slot ∷ new ∷ slots) (slot ∷ put_behind i new slots) here)
      ∙ swapped (k == slot) (k == new) (is_among k slots)
  | inr away ↦
      let later : is_among i slots ≡ true = later_among i slot slots there away in
      ap (is_among k) (cond-false (i == slot) (slot ∷ new ∷ slots) (slot ∷ put_behind i new slots) away)
      ∙ ap (λ z. k == slot || z) (among_put i new k slots later)
      ∙ swapped (k == slot) (k == new) (is_among k slots)
]

-- no slot occurs twice after a new one is inserted behind another
pub distinct_put : (i new : ℕ) (slots : List ℕ) → AreDistinct slots → is_among i slots ≡ true
    → is_among new slots ≡ false → AreDistinct (put_behind i new slots)
distinct_put i new [] once there apart = once
distinct_put i new (slot ∷ slots) once there apart =
    let parts = or_parts (new == slot) (is_among new slots) apart in
    let unlike : (slot == new) ≡ false = ne_eqb slot new (λ same. eqb-false new slot parts.0 (sym same)) in
    elim (cases_Bool (i == slot)) [
      | inl here ↦
          subst AreDistinct (sym (cond-true (i == slot) (slot ∷ new ∷ slots) (slot ∷ put_behind i new slots) here))
          (or_from (slot == new) (is_among slot slots) unlike once.0, (parts.1, once.1))
      | inr away ↦
          let later : is_among i slots ≡ true = later_among i slot slots there away in
          subst AreDistinct (sym (cond-false (i == slot) (slot ∷ new ∷ slots) (slot ∷ put_behind i new slots) away)) (
            among_put i new slot slots later ∙ or_from (slot == new)
                (is_among slot slots) unlike once.0,
            distinct_put i new slots once.1 later parts.1,
          )
    ]

-- the entries of the slots, if a new one is inserted behind slot i, the only one with the anchor
pub entries_put : (f g : ℕ → ℕ × Bool) (i new anchor x : ℕ) (slots : List ℕ) → is_among i slots ≡ true
    → g new ≡ (x, true)
    → ((k : ℕ) → is_among k slots ≡ true → (g k ≡ f k) × ((anchor == (f k).0) ≡ (i == k)))
    → map g (put_behind i new slots) ≡ insert_after anchor x (map f slots)
entries_put f g i new anchor x [] there is each = absurd (cc there)
entries_put f g i new anchor x (slot ∷ slots) there is each =
    let here_is = each slot (among_head slot slots) in
    let kept : map g slots ≡ map f slots = map_same f g slots (λ k among. (each k (among_tail k slot slots among)).0) in
    elim (cases_Bool (i == slot)) [
      | inl here ↦
          ap (map g) (cond-true (i == slot) (slot ∷ new ∷ slots) (slot ∷ put_behind i new slots) here)
          ∙ ap (λ z. z ∷ g new ∷ map g slots) here_is.0
          ∙ ap (λ z. f slot ∷ z ∷ map g slots) is
          ∙ ap (λ z. f slot ∷ (x, true) ∷ z) kept
          ∙ sym (cond-true (anchor == (f slot).0) (f slot ∷ (x, true) ∷ map f slots)
          (f slot ∷ insert_after anchor x (map f slots)) (here_is.1 ∙ here))
      | inr away ↦
          let later : is_among i slots ≡ true = later_among i slot slots there away in
          ap (map g) (cond-false (i == slot) (slot ∷ new ∷ slots) (slot ∷ put_behind i new slots) away)
          ∙ ap (λ z. z ∷ map g (put_behind i new slots)) here_is.0
          ∙ ap (λ z. f slot ∷ z)
          (entries_put f g i new anchor x slots later is (λ k among. each k (among_tail k slot slots among)))
          ∙ sym (cond-false (anchor == (f slot).0) (f slot ∷ (x, true) ∷ map f slots)
          (f slot ∷ insert_after anchor x (map f slots)) (here_is.1 ∙ away))
    ]
