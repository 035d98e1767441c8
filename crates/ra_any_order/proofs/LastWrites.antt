-- Lemmas on the values of the last writes, found one by one.
use Rattle.std.proofs.Common.{◌≡◌, ◌↔◌, ℕ, ◌+◌, ◌<◌, List, [], ◌∷◌, ◌++◌, Option, Some, None, length, get_or, take, sym, ap, ◌∙◌, inl, inr}
use Rattle.std.specs.Prelude.{Contains}
use Rattle.std.proofs.lemmas.Option.{none-some}
use Rattle.std.proofs.lemmas.List.Elements.{Contains-append_left, Contains-append_right, Contains-append_cases}
use Rattle.ra_labels.specs.declared.operation.Op.{Op}
use Rattle.ra_labels.proofs.Members.{head_or_behind, at_head, none_there}
use Rattle.ra_precedence.proofs.Using.{in_more, still_in, last_in}
use Rattle.ra_any_order.specs.PossibleValues.{IsValueAmong, written_at}

module _ (operations : List Op) (newest : List ℕ) where
  pub none_written : newest ≡ [] → (v : Option ℕ) → Contains (None ∷ []) v ↔ IsValueAmong operations newest [] v
  none_written empty v = (
    (λ there. elim (head_or_behind None [] v there) [
      | inl here ↦ inr (empty, sym here)
      | inr further ↦ absurd (none_there v further)
    ]),
    (λ among. elim among [
      | inl found ↦ absurd (none_there found.0 found.1)
      | inr both ↦ at_head None [] v (sym both.1)
    ]),
  )

  pub some_written : ¬ (newest ≡ []) → (v : Option ℕ) → Contains [] v ↔ IsValueAmong operations newest [] v
  some_written some v = (
    (λ there. absurd (none_there v there)),
    (λ among. elim among [
      | inl found ↦ absurd (none_there found.0 found.1)
      | inr both ↦ absurd (some both.0)
    ]),
  )

  module _ (lasts : List ℕ) (values : List (Option ℕ)) (i : ℕ) (within : i < length lasts)
      (so_far : (v : Option ℕ) → Contains values v ↔ IsValueAmong operations newest (take i lasts) v) where
    abbrev pub written_by : ℕ
    written_by = get_or lasts i 0

    still_among : (v : Option ℕ) → IsValueAmong operations newest (take i lasts) v
        → IsValueAmong operations newest (take (i + 1) lasts) v
    still_among v among = elim among [
      | inl found ↦ inl (found.0, still_in lasts i found.0 within found.1, found.2)
      | inr both ↦ inr both
    ]

    pub one_more_value : (x : ℕ) → written_at operations written_by ≡ Some x → (v : Option ℕ)
        → Contains (values ++ Some x ∷ []) v ↔ IsValueAmong operations newest (take (i + 1) lasts) v
    one_more_value x is v = (
      (λ there. elim (Contains-append_cases values (Some x ∷ []) v there) [
        | inl before ↦ still_among v ((so_far v).0 before)
        | inr last ↦ elim (head_or_behind (Some x) [] v last) [
          | inl here ↦ inl (written_by, last_in lasts i within, (x, is, sym here))
          | inr further ↦ absurd (none_there v further)
        ]
      ]),
      (λ among. elim among [
        | inr both ↦ Contains-append_left values (Some x ∷ []) v ((so_far v).1 (inr both))
        | inl found ↦ elim (in_more lasts i found.0 within found.1) [
          | inl before ↦ Contains-append_left values (Some x ∷ []) v ((so_far v).1 (inl (found.0, before, found.2)))
          | inr here ↦ Contains-append_right values (Some x ∷ []) v
              (at_head (Some x) [] v (sym is ∙ ap (written_at operations) here ∙ found.2.1 ∙ sym found.2.2))
        ]
      ]),
    )

    pub no_more_value : written_at operations written_by ≡ None → (v : Option ℕ)
        → Contains values v ↔ IsValueAmong operations newest (take (i + 1) lasts) v
    no_more_value none v = (
      (λ there. still_among v ((so_far v).0 there)),
      (λ among. elim among [
        | inr both ↦ (so_far v).1 (inr both)
        | inl found ↦ elim (in_more lasts i found.0 within found.1) [
          | inl before ↦ (so_far v).1 (inl (found.0, before, found.2))
          | inr here ↦ absurd (none-some found.2.0 (sym none ∙ ap (written_at operations) here ∙ found.2.1))
        ]
      ]),
    )
