-- Lemmas on updates that commute.
use Rattle.std.proofs.Common.{◌≡◌, ℕ, Bool, true, false, List, [], ◌∷◌, ◌++◌, Option, Some, None, refl, sym, ap, ◌∙◌, subst, inl, inr, arith}
use Rattle.std.specs.Prelude.{ℤ, pos, ◌+ℤ◌, ◌-ℤ◌, ◌⊎◌, ◌==◌, ◌&&◌, not, option_map, Contains}
use Rattle.std.specs.List.Sorted.{IsStrictlySortedBy}
use Rattle.std.specs.BTreeSet.{insert_key}
use Rattle.std.proofs.lemmas.Int.{ints}
use Rattle.std.proofs.lemmas.Bool.{not-true, not_from_false}
use Rattle.std.proofs.lemmas.Option.{none-some, same_Some}
use Rattle.std.proofs.lemmas.List.Sums.{fold-append}
use Rattle.std.proofs.lemmas.List.Kept.{IsStrictlySortedBy-filter}
use Rattle.ra_labels.specs.declared.kind.Kind.{Kind}
use Rattle.ra_labels.specs.declared.kind.Kind.TheVariants.{Counter, OrSet}
use Rattle.ra_labels.specs.declared.operation.Update.{Update}
use Rattle.ra_labels.specs.declared.operation.Update.TheVariants.{Inc, Dec, OrAdd, TakeOut}
use Rattle.ra_labels.specs.Lists.{is_among, pair_cmp, without_pairs}
use Rattle.ra_labels.specs.Specification.{State, Number, Pairs, initial_state, step_of, state_after}
use Rattle.ra_labels.specs.Commuting.{then_step, clash, NoneClashes}
use Rattle.ra_labels.proofs.InLists.{list_all-contains}
use Rattle.ra_labels.proofs.Members.{kept-there, there-kept, behind_head}
use Rattle.ra_theorems.proofs.Keys.{inserted-sorted, sorted_same}
use Rattle.ra_theorems.proofs.OrSets.{pair_total, pair_same, put, nothing_sorted}
use Rattle.ra_theorems.proofs.States.{state_from, stuck}

-- the states of one kind, as values of a type that updates change
module _ {X : Type 0} (S : X → State) (P : X → Type 0) (change : Update → Option (X → X))
    (steps : (x : X) (u : Update) → step_of (S x) u ≡ option_map (λ f. S (f x)) (change u))
    (keeps : (x : X) (u : Update) (f : X → X) → change u ≡ Some f → P x → P (f x)) where
  abbrev Commute : Update → Update → Type 0
  Commute u v = (f g : X → X) → change u ≡ Some f → change v ≡ Some g → (x : X) → P x → g (f x) ≡ f (g x)

  step_some : (u : Update) (f : X → X) → change u ≡ Some f → (x : X) → step_of (S x) u ≡ Some (S (f x))
  step_some u f is x = steps x u ∙ ap (option_map (λ g. S (g x))) is

  step_none : (u : Update) → change u ≡ None → (x : X) → step_of (S x) u ≡ None
  step_none u is x = steps x u ∙ ap (option_map (λ g. S (g x))) is

  two_steps : (u v : Update) (x : X) (a b : Option (X → X)) → change u ≡ a → change v ≡ b → Commute u v → P x
      → then_step (step_of (S x) u) v ≡ then_step (step_of (S x) v) u
  two_steps u v x None None is_u is_v commute holds =
      ap (λ o. then_step o v) (step_none u is_u x) ∙ sym (ap (λ o. then_step o u) (step_none v is_v x))
  two_steps u v x None (Some g) is_u is_v commute holds =
      ap (λ o. then_step o v) (step_none u is_u x)
      ∙ sym (ap (λ o. then_step o u) (step_some v g is_v x) ∙ step_none u is_u (g x))
  two_steps u v x (Some f) None is_u is_v commute holds =
      ap (λ o. then_step o v) (step_some u f is_u x) ∙ step_none v is_v (f x)
      ∙ sym (ap (λ o. then_step o u) (step_none v is_v x))
  two_steps u v x (Some f) (Some g) is_u is_v commute holds =
      ap (λ o. then_step o v) (step_some u f is_u x) ∙ step_some v g is_v (f x)
      ∙ ap (λ y. Some (S y)) (commute f g is_u is_v x holds)
      ∙ sym (ap (λ o. then_step o u) (step_some v g is_v x) ∙ step_some u f is_u (g x))

  pub steps-commute : (u v : Update) (x : X) → Commute u v → P x
      → then_step (step_of (S x) u) v ≡ then_step (step_of (S x) v) u
  steps-commute u v x commute holds = two_steps u v x (change u) (change v) refl refl commute holds

  -- an update that commutes with all later ones has the same effect as if it came last
  late_further : (u : Update) (x : X) (v : Update) (later : List Update) (a : Option (X → X)) → change v ≡ a → P x
      → ((y : X) → P y → state_from (Some (S y)) (u ∷ later) ≡ then_step (state_from (Some (S y)) later) u)
      → state_from (then_step (step_of (S x) v) u) later ≡ then_step (state_from (step_of (S x) v) later) u
  late_further u x v later None is holds rest =
      ap (λ o. state_from (then_step o u) later) (step_none v is x) ∙ stuck later
      ∙ sym (ap (λ o. then_step (state_from o later) u) (step_none v is x) ∙ ap (λ o. then_step o u) (stuck later))
  late_further u x v later (Some g) is holds rest =
      ap (λ o. state_from (then_step o u) later) (step_some v g is x)
      ∙ rest (g x) (keeps x v g is holds)
      ∙ sym (ap (λ o. then_step (state_from o later) u) (step_some v g is x))

  late_from : (u : Update) (later : List Update) → ((v : Update) → Contains later v → Commute u v) → (x : X) → P x
      → state_from (Some (S x)) (u ∷ later) ≡ then_step (state_from (Some (S x)) later) u
  late_from u [] each x holds = refl
  late_from u (v ∷ later) each x holds =
      ap (λ o. state_from o later) (steps-commute u v x (each v (0, omega arith, refl)) holds)
      ∙ late_further u x v later (change v) refl holds
      (late_from u later (λ w there. each w (behind_head v later w there)))

  -- a state that updates lead to from such a state, if there is one, has the same form
  abbrev Reached : Option State → Type 0
  Reached o = (o ≡ None) ⊎ ((x : X) × P x × (o ≡ Some (S x)))

  reached_further : (x : X) (u : Update) (us : List Update) (a : Option (X → X)) → change u ≡ a → P x
      → ((y : X) → P y → Reached (state_from (Some (S y)) us)) → Reached (state_from (step_of (S x) u) us)
  reached_further x u us None is holds rest = inl (ap (λ o. state_from o us) (step_none u is x) ∙ stuck us)
  reached_further x u us (Some f) is holds rest =
      subst (λ o. Reached (state_from o us)) (sym (step_some u f is x)) (rest (f x) (keeps x u f is holds))

  reached_from : (us : List Update) (x : X) → P x → Reached (state_from (Some (S x)) us)
  reached_from [] x holds = inr (x, holds, refl)
  reached_from (u ∷ us) x holds = reached_further x u us (change u) refl holds (reached_from us)

  late_after : (u : Update) (o : Option State) (later : List Update) → Reached o
      → ((v : Update) → Contains later v → Commute u v) → state_from o (u ∷ later) ≡ then_step (state_from o later) u
  late_after u o later (inl none) each =
      ap (λ p. state_from p (u ∷ later)) none ∙ stuck (u ∷ later)
      ∙ sym (ap (λ p. then_step (state_from p later) u) none ∙ ap (λ p. then_step p u) (stuck later))
  late_after u o later (inr (x, holds, is)) each =
      ap (λ p. state_from p (u ∷ later)) is ∙ late_from u later each x holds
      ∙ sym (ap (λ p. then_step (state_from p later) u) is)

  pub late-last : (kind : Kind) (start : X) → initial_state kind ≡ S start → P start
      → (first later : List Update) (u : Update) → ((v : Update) → Contains later v → Commute u v)
      → state_after kind (first ++ u ∷ later) ≡ then_step (state_after kind (first ++ later)) u
  late-last kind start is holds first later u each =
      let step = λ (state : Option State) (update : Update). then_step state update in
      let reached : Reached (state_after kind first) =
      subst (λ s. Reached (state_from (Some s) first)) (sym is) (reached_from first start holds) in
      fold-append step (Some (initial_state kind)) first (u ∷ later)
      ∙ late_after u (state_after kind first) later reached each
      ∙ sym (ap (λ o. then_step o u) (fold-append step (Some (initial_state kind)) first later))

-- counter: how an update changes the number
abbrev counts : Update → Option (ℤ → ℤ)
counts Inc = Some (λ n. n +ℤ pos 1)
counts Dec = Some (λ n. n -ℤ pos 1)
counts _ = None

number_step : (n : ℤ) (u : Update) → step_of (Number n) u ≡ option_map (λ f. Number (f n)) (counts u)
number_step n Inc = refl
number_step n _ = refl

down_up : (n : ℤ) → (n -ℤ pos 1) +ℤ pos 1 ≡ (n +ℤ pos 1) -ℤ pos 1
down_up n = omega (arith, ints)

-- the functions of two updates commute if the functions equal to them do
as_they_are : {A : Type 0} (f g h k : A → A) (x : A) → Some h ≡ Some f → Some k ≡ Some g → k (h x) ≡ h (k x)
    → g (f x) ≡ f (g x)
as_they_are f g h k x is_f is_g commute =
    let first : h ≡ f = same_Some h f is_f in
    let second : k ≡ g = same_Some k g is_g in
    sym (λ i. second i (first i x)) ∙ commute ∙ (λ i. first i (second i x))

counts-commute : (u v : Update) (f g : ℤ → ℤ) → counts u ≡ Some f → counts v ≡ Some g → (n : ℤ) → Unit {0}
    → g (f n) ≡ f (g n)
counts-commute Inc Inc f g is_u is_v n holds = as_they_are f g _ _ n is_u is_v refl
counts-commute Dec Dec f g is_u is_v n holds = as_they_are f g _ _ n is_u is_v refl
counts-commute Inc Dec f g is_u is_v n holds = as_they_are f g _ _ n is_u is_v (sym (down_up n))
counts-commute Dec Inc f g is_u is_v n holds = as_they_are f g _ _ n is_u is_v (down_up n)
counts-commute Inc _ f g is_u is_v n holds = absurd (none-some g is_v)
counts-commute Dec _ f g is_u is_v n holds = absurd (none-some g is_v)
counts-commute _ v f g is_u is_v n holds = absurd (none-some f is_u)

pub counter-steps : (n : ℤ) (u v : Update) → then_step (step_of (Number n) u) v ≡ then_step (step_of (Number n) v) u
counter-steps n u v = steps-commute Number (λ m. Unit {0}) counts number_step (λ m w f is holds. tt) u v n
    (counts-commute u v) tt

pub counter-late : (first later : List Update) (update : Update)
    → state_after Counter (first ++ update ∷ later) ≡ then_step (state_after Counter (first ++ later)) update
counter-late first later update =
    late-last Number (λ m. Unit {0}) counts number_step (λ m w f is holds. tt) Counter
    (pos 0) refl tt first later update (λ v there. counts-commute update v)

-- OR-Set: how an update changes the list of pairs
abbrev changes : Update → Option (List (ℕ × ℕ) → List (ℕ × ℕ))
changes (OrAdd x id) = Some (λ ps. insert_key pair_cmp ps (x, id))
changes (TakeOut x ids) = Some (λ ps. without_pairs x ids ps)
changes _ = None

pairs_step : (ps : List (ℕ × ℕ)) (u : Update) → step_of (Pairs ps) u ≡ option_map (λ f. Pairs (f ps)) (changes u)
pairs_step ps Inc = refl
pairs_step ps _ = refl

with_pair : (p : ℕ × ℕ) (ps : List (ℕ × ℕ)) → IsStrictlySortedBy pair_cmp ps
    → IsStrictlySortedBy pair_cmp (insert_key pair_cmp ps p)
with_pair p ps sorted = inserted-sorted pair_cmp pair_total p ps sorted

abbrev stays : ℕ → List ℕ → ℕ × ℕ → Bool
stays x ids pair = not (x == pair.0 && is_among pair.1 ids)

without : (x : ℕ) (ids : List ℕ) (ps : List (ℕ × ℕ)) → IsStrictlySortedBy pair_cmp ps
    → IsStrictlySortedBy pair_cmp (without_pairs x ids ps)
without x ids ps sorted = IsStrictlySortedBy-filter pair_cmp (stays x ids) ps sorted

changes-sorted : (ps : List (ℕ × ℕ)) (u : Update) (f : List (ℕ × ℕ) → List (ℕ × ℕ)) → changes u ≡ Some f
    → IsStrictlySortedBy pair_cmp ps → IsStrictlySortedBy pair_cmp (f ps)
changes-sorted ps (OrAdd x id) f is sorted =
    subst (λ g. IsStrictlySortedBy pair_cmp (g ps)) (same_Some _ _ is) (with_pair (x, id) ps sorted)
changes-sorted ps (TakeOut x ids) f is sorted =
    subst (λ g. IsStrictlySortedBy pair_cmp (g ps)) (same_Some _ _ is) (without x ids ps sorted)
changes-sorted ps _ f is sorted = absurd (none-some f is)

-- strictly rising lists with the same pairs are equal
same_pairs : (ps qs : List (ℕ × ℕ)) → IsStrictlySortedBy pair_cmp ps → IsStrictlySortedBy pair_cmp qs
    → ((r : ℕ × ℕ) → Contains ps r → Contains qs r) → ((r : ℕ × ℕ) → Contains qs r → Contains ps r) → ps ≡ qs
same_pairs ps qs sorted also there back =
    sorted_same pair_cmp pair_total (λ p q tie. (pair_same p q).0 tie) ps qs sorted also (λ r. (there r, back r))

adds_swap : (p q : ℕ × ℕ) (ps : List (ℕ × ℕ)) (r : ℕ × ℕ) → Contains
    (insert_key pair_cmp (insert_key pair_cmp ps p) q) r → Contains (insert_key pair_cmp (insert_key pair_cmp ps q) p) r
adds_swap p q ps r there = (put p r (insert_key pair_cmp ps q)).1 (elim ((put q r (insert_key pair_cmp ps p)).0 there) [
  | inl new ↦ inr ((put q r ps).1 (inl new))
  | inr older ↦ elim ((put p r ps).0 older) [
    | inl other ↦ inl other
    | inr old ↦ inr ((put q r ps).1 (inr old))
  ]
])

adds-commute : (p q : ℕ × ℕ) (ps : List (ℕ × ℕ)) → IsStrictlySortedBy pair_cmp ps
    → insert_key pair_cmp (insert_key pair_cmp ps p) q ≡ insert_key pair_cmp (insert_key pair_cmp ps q) p
adds-commute p q ps sorted =
    same_pairs _ _ (with_pair q _ (with_pair p ps sorted)) (with_pair p _ (with_pair q ps sorted)) (adds_swap p q ps)
    (adds_swap q p ps)

removals_swap : (x y : ℕ) (is js : List ℕ) (ps : List (ℕ × ℕ)) (r : ℕ × ℕ)
    → Contains (without_pairs y js (without_pairs x is ps)) r → Contains (without_pairs x is (without_pairs y js ps)) r
removals_swap x y is js ps r there =
    let outer = there-kept (stays y js) (without_pairs x is ps) r there in
    let inner = there-kept (stays x is) ps r outer.0 in
    kept-there (stays x is) (without_pairs y js ps) r (kept-there (stays y js) ps r inner.0 outer.1) inner.1

removals-commute : (x y : ℕ) (is js : List ℕ) (ps : List (ℕ × ℕ)) → IsStrictlySortedBy pair_cmp ps
    → without_pairs y js (without_pairs x is ps) ≡ without_pairs x is (without_pairs y js ps)
removals-commute x y is js ps sorted =
    same_pairs _ _ (without y js _ (without x is ps sorted)) (without x is _ (without y js ps sorted))
    (removals_swap x y is js ps) (removals_swap y x js is ps)

mixed-commute : (p : ℕ × ℕ) (y : ℕ) (js : List ℕ) (ps : List (ℕ × ℕ)) → stays y js p ≡ true
    → IsStrictlySortedBy pair_cmp ps → without_pairs y js (insert_key pair_cmp ps p)
    ≡ insert_key pair_cmp (without_pairs y js ps) p
mixed-commute p y js ps kept sorted =
    same_pairs _ _ (without y js _ (with_pair p ps sorted)) (with_pair p _ (without y js ps sorted))
    (λ r there.
    let known = there-kept (stays y js) (insert_key pair_cmp ps p) r there in
    (put p r (without_pairs y js ps)).1 (elim ((put p r ps).0 known.0) [
      | inl new ↦ inl new
      | inr old ↦ inr (kept-there (stays y js) ps r old known.1)
    ]))
    (λ r there. elim ((put p r (without_pairs y js ps)).0 there) [
      | inl new ↦ kept-there (stays y js) (insert_key pair_cmp ps p) r ((put p r ps).1 (inl new))
          (ap (stays y js) new ∙ kept)
      | inr old ↦
          let known = there-kept (stays y js) ps r old in
          kept-there (stays y js) (insert_key pair_cmp ps p) r ((put p r ps).1 (inr known.0)) known.1
    ])

changes-commute : (u v : Update) (f g : List (ℕ × ℕ) → List (ℕ × ℕ)) → clash u v ≡ false → changes u ≡ Some f
    → changes v ≡ Some g → (ps : List (ℕ × ℕ)) → IsStrictlySortedBy pair_cmp ps → g (f ps) ≡ f (g ps)
changes-commute (OrAdd x i) (OrAdd y j) f g apart is_u is_v ps sorted =
    as_they_are f g _ _ ps is_u is_v (adds-commute (x, i) (y, j) ps sorted)
changes-commute (OrAdd x i) (TakeOut y js) f g apart is_u is_v ps sorted =
    as_they_are f g _ _ ps is_u is_v
    (mixed-commute (x, i) y js ps (not_from_false (y == x && is_among i js) apart) sorted)
changes-commute (TakeOut x is) (OrAdd y j) f g apart is_u is_v ps sorted =
    as_they_are f g _ _ ps is_u is_v
    (sym (mixed-commute (y, j) x is ps (not_from_false (x == y && is_among j is) apart) sorted))
changes-commute (TakeOut x is) (TakeOut y js) f g apart is_u is_v ps sorted =
    as_they_are f g _ _ ps is_u is_v (removals-commute x y is js ps sorted)
changes-commute (OrAdd x i) _ f g apart is_u is_v ps sorted = absurd (none-some g is_v)
changes-commute (TakeOut x is) _ f g apart is_u is_v ps sorted = absurd (none-some g is_v)
changes-commute _ v f g apart is_u is_v ps sorted = absurd (none-some f is_u)

pub or_set-steps : (ps : List (ℕ × ℕ)) (u v : Update) → IsStrictlySortedBy pair_cmp ps → clash u v ≡ false
    → then_step (step_of (Pairs ps) u) v ≡ then_step (step_of (Pairs ps) v) u
or_set-steps ps u v sorted apart =
    steps-commute Pairs (IsStrictlySortedBy pair_cmp) changes pairs_step changes-sorted u v ps
    (λ f g. changes-commute u v f g apart) sorted

pub or_set-late : (first later : List Update) (update : Update) → NoneClashes update later
    → state_after OrSet (first ++ update ∷ later) ≡ then_step (state_after OrSet (first ++ later)) update
or_set-late first later update none =
    late-last Pairs (IsStrictlySortedBy pair_cmp) changes pairs_step changes-sorted OrSet [] refl nothing_sorted first
    later update
    (λ v there f g. changes-commute update v f g
    (not-true (clash update v) (list_all-contains (λ w. not (clash update w)) later v none there)))
