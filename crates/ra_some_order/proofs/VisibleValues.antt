-- Lemmas on the last value among the updates that a label sees, in a sequence: it is the value v exactly if each
-- visible update with another value stands before a visible one with v.
use Rattle.std.proofs.Common.{◌≡◌, ℕ, true, List, [], ◌∷◌, ◌++◌, Option, Some, None, refl, sym, ap, ◌∙◌, subst, inl, inr}
use Rattle.std.specs.Prelude.{◌⊎◌, is_some, Contains, IsPermutation, option_and_then}
use Rattle.std.proofs.lemmas.Bool.{cases_Bool, cond-true, cond-false}
use Rattle.std.proofs.lemmas.Option.{none-some, same_Some}
use Rattle.std.proofs.lemmas.List.Elements.{Contains-append_right, Contains-append_cases}
use Rattle.std.proofs.lemmas.List.Sorted.{Contains-permutation, IsPermutation-sym}
use Rattle.ra_labels.specs.declared.operation.Update.{Update}
use Rattle.ra_labels.specs.declared.label.Label.{Label}
use Rattle.ra_labels.specs.Edges.{EachOnce, IsBefore}
use Rattle.ra_labels.specs.Records.{Records, labels_of}
use Rattle.ra_labels.specs.Visibility.{sees}
use Rattle.ra_labels.specs.Rewriting.{Part, update_of}
use Rattle.ra_labels.specs.Linearization.{parts_in}
use Rattle.ra_labels.proofs.Members.{head_or_behind, at_head, behind_head}
use Rattle.ra_list_order.proofs.Befores.{Left, Right, Across, first_there, before_across, before_cases}
use Rattle.ra_list_order.proofs.JoinedChunks.{once_right, once_apart}
use Rattle.ra_theorems.proofs.TheoremIndex.{label_at_each_number-one}
use Rattle.ra_some_order.specs.SomeOrder.{update_order}
use Rattle.ra_some_order.proofs.LastValues.{through, last_value, HasLastValue, where_last, last_if_some, none_if_no_last}
use Rattle.ra_some_order.proofs.MadeUpdates.{update_made, part_makes, is_some-value}
use Rattle.ra_some_order.proofs.UpdateOrders.{is_update_part, order-append, order-cons, in_order, from_order, order_once, update_in_order}

and_then_some : {A B : Type 0} (h : A → Option B) (o : Option A) (v : B) → option_and_then h o ≡ Some v
    → (u : A) × (o ≡ Some u) × (h u ≡ Some v)
and_then_some h None v is = absurd (none-some v is)
and_then_some h (Some u) v is = (u, refl, is)

-- in a list that has each number once, what stands behind a number is in the rest
pub before_behind : (xs ys : List ℕ) (a b : ℕ) → EachOnce (xs ++ a ∷ ys) → IsBefore (xs ++ a ∷ ys) a b → Contains ys b
before_behind xs ys a b once before = elim (before_cases xs (a ∷ ys) a b before) [
  | Left both ↦ absurd (once_apart xs (a ∷ ys) a once (first_there xs a b both) (at_head a ys a refl))
  | Right both ↦ elim both [
    | inl here ↦ here.1
    | inr further ↦ absurd (once_apart (a ∷ []) ys a (once_right xs (a ∷ ys) once) (at_head a [] a refl)
        (first_there ys a b further))
  ]
  | Across near far ↦ absurd (once_apart xs (a ∷ ys) a once near (at_head a ys a refl))
]

module _ (records : Records) (n : ℕ) {V : Type 0} (h : Update → Option V) where
  -- the value of a part whose label n sees
  abbrev pub visible_value : Part → Option V
  visible_value = through (λ p. sees records n p.label.number) (λ p. update_of p.act) h

  -- label n sees label m, whose update has the value
  pub record HasVisible (v : V) (m : ℕ) : Type 0 where
    pub label : Label
    pub there : Contains (labels_of records) label
    pub seen : sees records n label.number ≡ true
    pub makes : option_and_then h (update_made label.op) ≡ Some v
    pub numbered : label.number ≡ m

module _ (records : Records) (sequence : List Part) (same : IsPermutation (parts_in records) sequence) (n : ℕ)
    {V : Type 0} (h : Update → Option V) where
  abbrev value_of : Part → Option V
  value_of = visible_value records n h

  abbrev Visible : V → ℕ → Type 0
  Visible = HasVisible records n h

  in_parts : (p : Part) → Contains sequence p → Contains (parts_in records) p
  in_parts p found = Contains-permutation sequence (parts_in records) p
      (IsPermutation-sym (parts_in records) sequence same) found

  value_from : (p : Part) (v : V) → Contains sequence p → value_of p ≡ Some v
      → Visible v p.label.number × (is_update_part p ≡ true)
  value_from p v found is = elim (cases_Bool (sees records n p.label.number)) [
    | inl seen ↦
        let at_update = sym (cond-true (sees records n p.label.number) (option_and_then h (update_of p.act)) None seen)
        ∙ is in
        let (u, does, value) = and_then_some h (update_of p.act) v at_update in
        let (there, makes) = part_makes records p u (in_parts p found) does in (
          record {
            label = p.label;
            there = there;
            seen = seen;
            makes = ap (option_and_then h) makes ∙ value;
            numbered = refl;
          },
          ap is_some does,
        )
    | inr unseen ↦ absurd (none-some v
        (sym (cond-false (sees records n p.label.number) (option_and_then h (update_of p.act)) None unseen) ∙ is))
  ]

  value_at : (p : Part) (u : Update) (v : V) → sees records n p.label.number ≡ true → update_of p.act ≡ Some u
      → h u ≡ Some v → value_of p ≡ Some v
  value_at p u v seen does value =
      cond-true (sees records n p.label.number) (option_and_then h (update_of p.act)) None seen
      ∙ ap (option_and_then h) does ∙ value

  visible_part : (v : V) (m : ℕ) → Visible v m
      → (p : Part) × Contains sequence p × (p.label.number ≡ m) × (value_of p ≡ Some v) × (is_update_part p ≡ true)
  visible_part v m visible =
      let (u, makes, value) = and_then_some h (update_made visible.label.op) v visible.makes in
      let (p, found, of_label, does) = update_in_order records sequence same visible.label u visible.there makes in
      let number : p.label.number ≡ visible.label.number = ap (λ (l : Label). l.number) of_label in (
        p,
        found,
        number ∙ visible.numbered,
        value_at p u v (ap (sees records n) number ∙ visible.seen) does value,
        ap is_some does,
      )

  abbrev Last : V → Type 0
  Last = HasLastValue value_of sequence

  last_there : (v : V) (place : Last v) → Contains sequence place.last
  last_there v place = subst (λ ps. Contains ps place.last) (sym place.split)
      (Contains-append_right place.front (place.last ∷ place.back) place.last
      (at_head place.last place.back place.last refl))

  last_is_update : (v : V) (place : Last v) → is_update_part place.last ≡ true
  last_is_update v place = (value_from place.last v (last_there v place) place.is).1

  pub last_visible : (v : V) (place : Last v) → Visible v place.last.label.number
  last_visible v place = (value_from place.last v (last_there v place) place.is).0

  -- a part with another value is in front of the last one with a value
  in_front : (v w : V) (place : Last v) (p : Part) → Contains sequence p → value_of p ≡ Some w → ¬ (w ≡ v)
      → Contains place.front p
  in_front v w place p found value other =
      let either = Contains-append_cases place.front (place.last ∷ place.back) p
      (subst (λ ps. Contains ps p) place.split found) in
      elim either [
        | inl before ↦ before
        | inr behind ↦ elim (head_or_behind place.last place.back p behind) [
          | inl here ↦ absurd (other (same_Some w v (sym value ∙ ap value_of (sym here) ∙ place.is)))
          | inr further ↦ absurd (none-some w (sym (place.none p further) ∙ value))
        ]
      ]

  -- each visible update with another value stands before the last one with a value
  pub others_before : (v : V) (place : Last v) (w : V) (b : ℕ) → Visible w b → ¬ (w ≡ v)
      → IsBefore (update_order sequence) b place.last.label.number
  others_before v place w b visible other =
      let (p, found, numbered, value, updates) = visible_part w b visible in
      subst (λ order. IsBefore order b place.last.label.number)
      (sym (ap update_order place.split ∙ order-append place.front (place.last ∷ place.back)))
      (before_across (update_order place.front) (update_order (place.last ∷ place.back)) b place.last.label.number
      (subst (Contains (update_order place.front)) numbered
      (in_order place.front p (in_front v w place p found value other) updates))
      (in_order (place.last ∷ place.back) place.last (at_head place.last place.back place.last refl)
      (last_is_update v place)))

  -- if there is no last value, no visible update has one
  pub none_visible : last_value value_of sequence ≡ None → (w : V) (b : ℕ) → ¬ Visible w b
  none_visible none w b visible =
      let (p, found, numbered, value, updates) = visible_part w b visible in
      none-some w (sym (none_if_no_last value_of sequence none p found) ∙ value)

  -- a part of a visible label with the value has the value
  has_value : (v : V) (c : ℕ) → Visible v c → (q : Part) → Contains sequence q → is_update_part q ≡ true
      → q.label.number ≡ c
      → value_of q ≡ Some v
  has_value v c its q there updates numbered =
      let (u, does) = is_some-value (update_of q.act) updates in
      let (among, makes) = part_makes records q u (in_parts q there) does in
      let label : its.label ≡ q.label = label_at_each_number-one records its.label q.label its.there among
      (its.numbered ∙ sym numbered) in
      value_at q u v
      (ap (λ (l : Label). sees records n l.number) (sym label) ∙ its.seen) does
      (sym (ap (option_and_then h) makes) ∙ ap (λ (l : Label). option_and_then h (update_made l.op)) (sym label)
      ∙ its.makes)

  -- no visible update stands behind the last one with a value
  none_after_last : (w : V) (place : Last w) (v : V) (c : ℕ)
      → Visible v c → ¬ IsBefore (update_order sequence) place.last.label.number c
  none_after_last w place v c its later =
      let order = ap update_order place.split ∙ order-append place.front (place.last ∷ place.back)
      ∙ ap (λ ns. update_order place.front ++ ns) (order-cons place.last place.back (last_is_update w place)) in
      let behind = before_behind (update_order place.front) (update_order place.back) place.last.label.number c
      (subst EachOnce order (order_once records sequence same))
      (subst (λ ns. IsBefore ns place.last.label.number c) order later) in
      let (q, in_back, q_updates, q_numbered) = from_order place.back c behind in
      let q_there : Contains sequence q = subst (λ ps. Contains ps q) (sym place.split)
      (Contains-append_right place.front (place.last ∷ place.back) q (behind_head place.last place.back q in_back)) in
      none-some v (sym (place.none q in_back) ∙ has_value v c its q q_there q_updates q_numbered)

  -- if each visible update with another value stands before one with this value, and there is one, it is the last
  pub last_is : (v : V) →
      ((w : V) (b : ℕ) → Visible w b → (w ≡ v) ⊎ (¬ (w ≡ v)))
      → (m : ℕ) → Visible v m
      → ((w : V) (b : ℕ) → Visible w b → ¬ (w ≡ v) → (c : ℕ) × Visible v c × IsBefore (update_order sequence) b c)
      → last_value value_of sequence ≡ Some v
  last_is v decide m visible before =
      let (p, found, numbered, value, updates) = visible_part v m visible in
      let (w, last) = last_if_some value_of sequence p v found value in
      last ∙ ap Some (never_overtaken w (where_last value_of sequence w last))
    where
      never_overtaken : (w : V) (place : Last w) → w ≡ v
      never_overtaken w place =
          elim (decide w place.last.label.number (last_visible w place)) [
            | inl equal ↦ equal
            | inr other ↦
                let (c, its, later) = before w place.last.label.number (last_visible w place) other in
                absurd (none_after_last w place v c its later)
          ]
