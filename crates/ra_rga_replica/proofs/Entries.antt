-- Lemmas on a map of pending labels, if one of its entries changes.
use Rattle.std.proofs.Common.{◌≡◌, ◌≢◌, ℕ, cond, List, [], ◌∷◌, ◌++◌, length, Option, Some, None, refl, sym, ap, ◌∙◌, subst, inl, inr}
use Rattle.std.specs.Prelude.{nat_eq, unwrap_or, option_map, Vec, Contains}
use Rattle.std.specs.Map.{lookup}
use Rattle.std.specs.List.{AllZip}
use Rattle.std.specs.declared.alloc.Global.{Global}
use Rattle.std.proofs.lemmas.Bool.{cases_eq, eq-eqb, ne_eqb, cond-true, cond-false}
use Rattle.std.proofs.lemmas.Option.{none-some, same_Some}
use Rattle.std.proofs.lemmas.Map.Made.{lookup-map_values}
use Rattle.ra_rga_replica.specs.PendingLabels.{labels_under, waiting_in, NoneEmpty}
use Rattle.ra_labels.proofs.Members.{at_head}

abbrev pub Entries : Type 0
Entries = List (ℕ × Vec ℕ Global)

abbrev pub items_of : Vec ℕ Global → List ℕ
items_of labels = labels.items

abbrev pub under_it : Option (Vec ℕ Global) → List ℕ
under_it labels = unwrap_or (option_map items_of labels) []

pub looked_up : (entries : Entries) (number : ℕ) → lookup (nat_eq number) (waiting_in entries)
    ≡ option_map items_of (lookup (nat_eq number) entries)
looked_up entries number = lookup-map_values items_of (nat_eq number) entries

pub under_in : (entries : Entries) (number : ℕ) → labels_under (waiting_in entries) number
    ≡ under_it (lookup (nat_eq number) entries)
under_in entries number = ap (λ o. unwrap_or o []) (looked_up entries number)

pub under_some : (entries : Entries) (number : ℕ) (labels : Vec ℕ Global) → lookup (nat_eq number) entries ≡ Some labels
    → labels_under (waiting_in entries) number ≡ labels.items
under_some entries number labels is = under_in entries number ∙ ap under_it is

pub under_none : (entries : Entries) (number : ℕ) → lookup (nat_eq number) entries ≡ None
    → labels_under (waiting_in entries) number ≡ []
under_none entries number is = under_in entries number ∙ ap under_it is

filled_at : (o : Option (Vec ℕ Global)) (labels : List ℕ) → ((v : Vec ℕ Global) → o ≡ Some v → ¬ (v.items ≡ []))
    → option_map items_of o ≡ Some labels → ¬ (labels ≡ [])
filled_at None labels all is_some empty = none-some labels is_some
filled_at (Some v) labels all is_some empty = all v refl (same_Some v.items labels is_some ∙ empty)

-- one entry changes
module _ (entries next : Entries) (number : ℕ) (now : Option (Vec ℕ Global))
    (updates : (q : ℕ) → lookup (nat_eq q) next ≡ cond (nat_eq number q) now (lookup (nat_eq q) entries)) where
  here_now : lookup (nat_eq number) next ≡ now
  here_now =
      updates number ∙ cond-true (nat_eq number number) now (lookup (nat_eq number) entries) (eq-eqb number number refl)

  elsewhere : (q : ℕ) → q ≢ number → lookup (nat_eq q) next ≡ lookup (nat_eq q) entries
  elsewhere q other =
      updates q ∙ cond-false (nat_eq number q) now (lookup (nat_eq q) entries) (ne_eqb number q (λ is. other (sym is)))

  pub under_now : labels_under (waiting_in next) number ≡ under_it now
  under_now = under_in next number ∙ ap under_it here_now

  pub under_other : (q : ℕ) → q ≢ number → labels_under (waiting_in next) q ≡ labels_under (waiting_in entries) q
  under_other q other = under_in next q ∙ ap under_it (elsewhere q other) ∙ sym (under_in entries q)

  pub none_empty : NoneEmpty (waiting_in entries) → ((labels : Vec ℕ Global) → now ≡ Some labels
      → ¬ (labels.items ≡ [])) → NoneEmpty (waiting_in next)
  none_empty none filled q labels found is = elim (cases_eq q number) [
    | inl here ↦
        filled_at now labels filled
        (sym (looked_up next q ∙ ap (λ (k : ℕ). option_map items_of (lookup (nat_eq k) next)) here
        ∙ ap (option_map items_of) here_now) ∙ found) is
    | inr other ↦
        none q labels (looked_up entries q ∙ ap (option_map items_of) (sym (elsewhere q other)) ∙ sym (looked_up next q)
        ∙ found) is
  ]

pub filled_push : (labels : List ℕ) (label : ℕ) → ¬ (labels ++ label ∷ [] ≡ [])
filled_push [] label is = absurd (cc is)
filled_push (first ∷ labels) label is = absurd (cc is)

-- under a number with an entry, some label is pending
abbrev SomeWaits : List (ℕ × List ℕ) → Type 0
SomeWaits waiting = (number : ℕ) × (label : ℕ) × Contains (labels_under waiting number) label

one_waits : (waiting : List (ℕ × List ℕ)) (number : ℕ) (labels : List ℕ) → labels_under waiting number ≡ labels
    → ¬ (labels ≡ []) → SomeWaits waiting
one_waits waiting number [] is filled = absurd (filled refl)
one_waits waiting number (label ∷ labels) is filled =
    (number, label, subst (λ ls. Contains ls label) (sym is) (at_head label labels label refl))

pub some_waits : (entries : Entries) → ¬ (length entries ≡ 0) → NoneEmpty (waiting_in entries)
    → SomeWaits (waiting_in entries)
some_waits [] some filled = absurd (some refl)
some_waits ((number, labels) ∷ entries) some filled =
    let rest = lookup (nat_eq number) (waiting_in entries) in
    let found : lookup (nat_eq number) (waiting_in ((number, labels) ∷ entries)) ≡ Some labels.items =
    cond-true (nat_eq number number) (Some labels.items) rest (eq-eqb number number refl) in
    one_waits (waiting_in ((number, labels) ∷ entries)) number labels.items (ap (λ o. unwrap_or o []) found)
    (filled number labels.items found)

-- an insertion after a failed look-up
pub put_back : (entries same next : Entries) (number : ℕ) (labels : Vec ℕ Global) → same ≡ entries → (q : ℕ)
    → lookup (nat_eq q) next ≡ cond (nat_eq number q) (Some labels) (lookup (nat_eq q) same)
    → lookup (nat_eq q) next ≡ cond (nat_eq number q) (Some labels) (lookup (nat_eq q) entries)
put_back entries same next number labels is q updates =
    updates ∙ ap (λ (es : Entries). cond (nat_eq number q) (Some labels) (lookup (nat_eq q) es)) is

-- cloned entries have the same content
module _ (C : ℕ → ℕ → Type 0) (D : Vec ℕ Global → Vec ℕ Global → Type 0) (same_number : (x y : ℕ) → C x y → y ≡ x)
    (same_labels : (v w : Vec ℕ Global) → D v w → w.items ≡ v.items) where
  pub cloned : (entries next : Entries) → AllZip (λ p q. C p.0 q.0 × D p.1 q.1) entries next
      → waiting_in next ≡ waiting_in entries
  cloned [] [] each = refl
  cloned [] (q ∷ next) each = absurd each
  cloned (p ∷ entries) [] each = absurd each
  cloned (p ∷ entries) (q ∷ next) ((number, labels), each) =
      ap (λ (k : ℕ). (k, q.1.items) ∷ waiting_in next) (same_number p.0 q.0 number)
      ∙ ap (λ (ls : List ℕ). (p.0, ls) ∷ waiting_in next) (same_labels p.1 q.1 labels)
      ∙ ap (λ (es : List (ℕ × List ℕ)). (p.0, p.1.items) ∷ es) (cloned entries next each)
