-- Lemmas on one update that is put into the map of the newest ones.
use Rattle.std.proofs.Common.{◌≡◌, ℕ, true, false, List, [], ◌∷◌, Option, Some, None, BTreeMap, refl, sym, ◌∙◌, subst, inl, inr, arith}
use Rattle.std.specs.Prelude.{◌⊎◌, Contains, slice_get, option_and_then}
use Rattle.std.specs.Option.{option_map_or}
use Rattle.std.proofs.lemmas.Bool.{cases_eq, false≢true, or_cases, or_left, or_right, eqb-true, eq-eqb}
use Rattle.std.proofs.lemmas.Option.{same_Some, none-some}
use Rattle.std.proofs.lemmas.List.Elements.{Contains-append_left, Contains-append_right}
use Rattle.ra_labels.specs.declared.operation.Op.{Op}
use Rattle.ra_labels.specs.declared.operation.Op.TheVariants as op
use Rattle.ra_labels.proofs.Members.{at_head}
use Rattle.ra_list_order.proofs.EdgeCounts.{paired}
use Rattle.ra_some_order.specs.VisibleUpdates.{adds, removes}
use Rattle.ra_any_order.specs.Reading.{passes_at}
use Rattle.ra_any_order.specs.Changes.{changes, element_of, element_at, newest_in, IsPut, IsTaken}

-- either both are equal, or not
both_or_not : (a b x y : ℕ) → ((x ≡ a) × (y ≡ b)) ⊎ ¬ ((x ≡ a) × (y ≡ b))
both_or_not a b x y = elim (cases_eq x a) [
  | inl one ↦ elim (cases_eq y b) [
    | inl two ↦ inl (one, two)
    | inr other ↦ inr (λ both. other both.1)
  ]
  | inr other ↦ inr (λ both. other both.0)
]

-- holds if the operation of the label changes this element and no other one
record ChangesOnly (operations : List Op) (m x : ℕ) : Type 0 where
  it : passes_at operations (changes x) m ≡ true
  only : (y : ℕ) → passes_at operations (changes y) m ≡ true → y ≡ x

put_taken : (operations : List Op) (x replica m : ℕ) (old new : BTreeMap (ℕ × ℕ) ℕ) (before after : List ℕ)
    → ChangesOnly operations m x → IsPut x replica m old new before after
    → IsTaken operations replica m old new before after
put_taken operations x replica m old new before after only (inl ((k, at, less), same, same_list)) = record {
  taken = λ y passes. (
    k,
    subst (λ z. newest_in new z replica ≡ Some k) (sym (only.only y passes))
        (subst (λ (n : BTreeMap (ℕ × ℕ) ℕ). newest_in n x replica ≡ Some k) (sym same) at),
    less,
  );
  kept = λ y other l there. (
    l,
    subst (λ (n : BTreeMap (ℕ × ℕ) ℕ). newest_in n y other ≡ Some l) (sym same) there,
    omega arith,
  );
  from = λ y other l there. inl (subst (λ (n : BTreeMap (ℕ × ℕ) ℕ). newest_in n y other ≡ Some l) same there);
  listed = λ y there. subst (λ ys. Contains ys y) (sym same_list) there;
}
put_taken operations x replica m old new before after only (inr (newer, updates, pushed)) =
    let put = paired old new x replica m updates in
    let last : Contains after x =
    subst (λ ys. Contains ys x) (sym pushed) (Contains-append_right before (x ∷ []) x (at_head x [] x refl)) in
    record {
      taken = λ y passes. (
        m,
        subst (λ z. newest_in new z replica ≡ Some m) (sym (only.only y passes)) put.here,
        omega arith,
      );
      kept =
          λ y other l there. elim (both_or_not x replica y other) [
            | inl (is, of) ↦ (
              m,
              subst (λ z. newest_in new z other ≡ Some m) (sym is)
                  (subst (λ r. newest_in new x r ≡ Some m) (sym of) put.here),
              let less = newer l (subst (λ r. newest_in old x r ≡ Some l) of
                  (subst (λ z. newest_in old z other ≡ Some l) is there)) in
                  omega (arith, less),
            )
            | inr apart ↦ (l, put.apart y other apart ∙ there, omega arith)
          ];
      from =
          λ y other l there. elim (both_or_not x replica y other) [
            | inl (is, of) ↦ inr (
              same_Some l m (sym there
                  ∙ subst (λ z. newest_in new z other ≡ Some m) (sym is)
                  (subst (λ r. newest_in new x r ≡ Some m) (sym of) put.here)),
              of,
              subst (λ z. passes_at operations (changes z) m ≡ true) (sym is) only.it,
              subst (Contains after) (sym is) last,
            )
            | inr apart ↦ inl (sym (put.apart y other apart) ∙ there)
          ];
      listed = λ y there. subst (λ ys. Contains ys y) (sym pushed) (Contains-append_left before (x ∷ []) y there);
    }

changes_only : (o : Option Op) (x : ℕ) → option_and_then element_of o ≡ Some x → (y : ℕ)
    → option_map_or (changes y) o false ≡ true → y ≡ x
changes_only (Some (op.LwwAdd z)) x is y passes =
    elim (or_cases (adds y (op.LwwAdd z)) (removes y (op.LwwAdd z)) passes) [
      | inl added ↦ eqb-true y z added ∙ same_Some z x is
      | inr removed ↦ absurd (false≢true removed)
    ]
changes_only (Some (op.LwwRemove z)) x is y passes =
    elim (or_cases (adds y (op.LwwRemove z)) (removes y (op.LwwRemove z)) passes) [
      | inl added ↦ absurd (false≢true added)
      | inr removed ↦ eqb-true y z removed ∙ same_Some z x is
    ]
changes_only _ x is y passes = absurd (none-some x is)

changes_it : (o : Option Op) (x : ℕ) → option_and_then element_of o ≡ Some x → option_map_or (changes x) o false ≡ true
changes_it (Some (op.LwwAdd z)) x is =
    or_left (adds x (op.LwwAdd z)) (removes x (op.LwwAdd z)) (eq-eqb x z (sym (same_Some z x is)))
changes_it (Some (op.LwwRemove z)) x is =
    or_right (adds x (op.LwwRemove z)) (removes x (op.LwwRemove z)) (eq-eqb x z (sym (same_Some z x is)))
changes_it _ x is = absurd (none-some x is)

changes_none : (o : Option Op) → option_and_then element_of o ≡ None → (x : ℕ)
    → ¬ (option_map_or (changes x) o false ≡ true)
changes_none (Some (op.LwwAdd z)) is x passes = none-some z (sym is)
changes_none (Some (op.LwwRemove z)) is x passes = none-some z (sym is)
changes_none _ is x passes = false≢true passes

pub taken_if_put : (operations : List Op) (x replica m : ℕ) (old new : BTreeMap (ℕ × ℕ) ℕ) (before after : List ℕ)
    → element_at operations m ≡ Some x → IsPut x replica m old new before after
    → IsTaken operations replica m old new before after
taken_if_put operations x replica m old new before after is put =
    put_taken operations x replica m old new before after
    (record { it = changes_it (slice_get operations m) x is; only = changes_only (slice_get operations m) x is }) put

-- nothing is taken of another operation
pub none_taken : (operations : List Op) (replica m : ℕ) (found : BTreeMap (ℕ × ℕ) ℕ) (listed : List ℕ)
    → element_at operations m ≡ None → IsTaken operations replica m found found listed listed
none_taken operations replica m found listed none = record {
  taken = λ x passes. absurd (changes_none (slice_get operations m) none x passes);
  kept = λ x other k there. (k, there, omega arith);
  from = λ x other k there. inl there;
  listed = λ x there. there;
}
