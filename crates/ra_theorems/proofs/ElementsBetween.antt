-- Lemmas on an RGA's list of all labels: only elements of later labels stand between an anchor and its element.
use Rattle.std.proofs.Common.{◌≡◌, ℕ, Bool, true, List, [], ◌∷◌, ◌++◌, Some, refl, sym, ap, ◌∙◌, subst, inl, inr, arith, append_assoc}
use Rattle.std.specs.Prelude.{◌⊎◌, ◌==◌, Contains, is_some}
use Rattle.std.specs.declared.cmp.Ordering.TheVariants.{Less}
use Rattle.std.proofs.lemmas.Bool.{cases_Bool, cond-true, cond-false}
use Rattle.std.proofs.lemmas.List.Elements.{Contains-append_right}
use Rattle.ra_labels.specs.declared.kind.Kind.TheVariants.{Rga}
use Rattle.ra_labels.specs.declared.operation.Update.{Update}
use Rattle.ra_labels.specs.declared.operation.Update.TheVariants.{After}
use Rattle.ra_labels.specs.declared.label.Label.{Label}
use Rattle.ra_labels.specs.Records.{Records, labels_of}
use Rattle.ra_labels.specs.Rewriting.{updates_of}
use Rattle.ra_labels.specs.Specification.{Listed, step_of, state_after}
use Rattle.ra_labels.specs.Linearization.{updates_admitted}
use Rattle.ra_labels.specs.NamedOrder.{label_cmp, named_labels, named_sequence}
use Rattle.ra_labels.specs.TheoremTerms.{elements_in, HasNoDuplicates, WasInserted}
use Rattle.ra_labels.specs.Insertion.{updates_among, HasUpdate}
use Rattle.ra_labels.proofs.Members.{head_or_behind, at_head, behind_head, split_at}
use Rattle.ra_theorems.proofs.States.{state_from}
use Rattle.ra_theorems.proofs.HadUpdates.{among-append, among-one}
use Rattle.ra_theorems.proofs.Rgas.{after-puts, hide-places, list-once}
use Rattle.ra_theorems.proofs.KeptEntries.{in_append}
use Rattle.ra_theorems.proofs.LateUpdates.{one_step}
use Rattle.ra_theorems.proofs.KeptUpdates.{GoesIn, GoesOut, which_step, insert_in, elements-inserted}
use Rattle.ra_theorems.proofs.PassingUpdates.{in-named, in-labels, each, each_passes, among-from}
use Rattle.ra_theorems.proofs.RgaSteps.{split-led, put_in-once}
use Rattle.ra_theorems.proofs.Arrivals.{stands-behind}

-- a list in which only elements with `P` precede x, and one in which only such elements stand between anchor and x
abbrev EndsAt : ℕ → (ℕ → Type 0) → List ℕ → Type 0
EndsAt x P list = (between behind : List ℕ) × (list ≡ between ++ x ∷ behind) × ((y : ℕ) → Contains between y → P y)

abbrev Between : ℕ → ℕ → (ℕ → Type 0) → List ℕ → Type 0
Between anchor x P list =
    (before between behind : List ℕ) × (list ≡ before ++ anchor ∷ (between ++ x ∷ behind))
    × ((y : ℕ) → Contains between y → P y)

-- one more element with `P` preserves this
ends_on : (x b y : ℕ) (P : ℕ → Type 0) (between behind : List ℕ) → P y → ((z : ℕ) → Contains between z → P z)
    → EndsAt x P (insert_in b y (between ++ x ∷ behind))
ends_on x b y P [] behind it all = elim (cases_Bool (b == x)) [
  | inl here ↦ ([], y ∷ behind, cond-true (b == x) (x ∷ y ∷ behind) (x ∷ insert_in b y behind) here, all)
  | inr on ↦ ([], insert_in b y behind, cond-false (b == x) (x ∷ y ∷ behind) (x ∷ insert_in b y behind) on, all)
]
ends_on x b y P (z ∷ between) behind it all =
    let rest = between ++ x ∷ behind in
    let first : P z = all z (at_head z between z refl) in
    elim (cases_Bool (b == z)) [
      | inl here ↦ (
        z ∷ y ∷ between,
        behind,
        cond-true (b == z) (z ∷ y ∷ rest) (z ∷ insert_in b y rest) here,
        (λ w found. elim (head_or_behind z (y ∷ between) w found) [
          | inl is ↦ subst P is first
          | inr later ↦ elim (head_or_behind y between w later) [
            | inl new ↦ subst P new it
            | inr old ↦ all w (behind_head z between w old)
          ]
        ]),
      )
      | inr on ↦
          let (more, others, is, known) =
          ends_on x b y P between behind it (λ w found. all w (behind_head z between w found)) in (
            z ∷ more,
            others,
            cond-false (b == z) (z ∷ y ∷ rest) (z ∷ insert_in b y rest) on ∙ ap (λ ws. z ∷ ws) is,
            (λ w found. elim (head_or_behind z more w found) [
              | inl same ↦ subst P same first
              | inr later ↦ known w later
            ]),
          )
    ]

between_on : (anchor x b y : ℕ) (P : ℕ → Type 0) (before between behind : List ℕ) → P y
    → ((z : ℕ) → Contains between z → P z)
    → Between anchor x P (insert_in b y (before ++ anchor ∷ (between ++ x ∷ behind)))
between_on anchor x b y P [] between behind it all =
    let rest = between ++ x ∷ behind in
    elim (cases_Bool (b == anchor)) [
      | inl here ↦ (
        [],
        y ∷ between,
        behind,
        cond-true (b == anchor) (anchor ∷ y ∷ rest) (anchor ∷ insert_in b y rest) here,
        (λ w found. elim (head_or_behind y between w found) [
          | inl new ↦ subst P new it
          | inr old ↦ all w old
        ]),
      )
      | inr on ↦
          let (more, others, is, known) = ends_on x b y P between behind it all in (
            [],
            more,
            others,
            cond-false (b == anchor) (anchor ∷ y ∷ rest) (anchor ∷ insert_in b y rest) on
                ∙ ap (λ ws. anchor ∷ ws) is,
            known,
          )
    ]
between_on anchor x b y P (z ∷ before) between behind it all =
    let rest = before ++ anchor ∷ (between ++ x ∷ behind) in
    elim (cases_Bool (b == z)) [
      | inl here ↦
          (z ∷ y ∷ before, between, behind, cond-true (b == z) (z ∷ y ∷ rest) (z ∷ insert_in b y rest) here, all)
      | inr on ↦
          let (first, more, others, is, known) = between_on anchor x b y P before between behind it all in (
            z ∷ first,
            more,
            others,
            cond-false (b == z) (z ∷ y ∷ rest) (z ∷ insert_in b y rest) on
                ∙ ap (λ ws. z ∷ ws) is,
            known,
          )
    ]

step_between : (anchor x : ℕ) (P : ℕ → Type 0) (ls next : List (ℕ × Bool)) (u : Update)
    → GoesIn ls u next ⊎ GoesOut ls u next → ((b y : ℕ) → u ≡ After b y → P y) → Between anchor x P (elements_in ls)
    → Between anchor x P (elements_in next)
step_between anchor x P ls next u (inl (b, y, which, there, new, same)) puts (before, between, behind, is, all) =
    subst (Between anchor x P) (sym (elements-inserted b y ls ∙ ap (insert_in b y) is) ∙ ap elements_in same)
    (between_on anchor x b y P before between behind (puts b y which) all)
step_between anchor x P ls next u (inr (z, which, there, other, same)) puts known =
    subst (Between anchor x P) (sym (hide-places z ls) ∙ ap elements_in same) known

between_from : (anchor x : ℕ) (P : ℕ → Type 0) (us : List Update) (ls qs : List (ℕ × Bool))
    → state_from (Some (Listed ls)) us ≡ Some (Listed qs) → ((b y : ℕ) → Contains us (After b y) → P y)
    → Between anchor x P (elements_in ls) → Between anchor x P (elements_in qs)
between_from anchor x P [] ls qs is puts known = let same : ls ≡ qs = cc (is) in
    subst (λ es. Between anchor x P (elements_in es)) same known
between_from anchor x P (u ∷ us) ls qs is puts known =
    let (next, step, rest) = one_step ls u us qs is in
    between_from anchor x P us next qs rest (λ b y found. puts b y (behind_head u us (After b y) found))
    (step_between anchor x P ls next u (which_step ls next u step)
    (λ b y which. puts b y (at_head u us (After b y) which)) known)

-- a list without duplicates splits at an element in one way
one_split : (xs ys zs ws : List ℕ) (y : ℕ) → HasNoDuplicates (xs ++ y ∷ ys) → xs ++ y ∷ ys ≡ zs ++ y ∷ ws
    → (xs ≡ zs) × (ys ≡ ws)
one_split [] ys [] ws y once is = (refl, cc (is))
one_split [] ys (z ∷ zs) ws y once is =
    let rest : ys ≡ zs ++ y ∷ ws = cc (is) in
    absurd (once.0 (subst (λ es. Contains es y) (sym rest) (Contains-append_right zs (y ∷ ws) y (at_head y ws y refl))))
one_split (x ∷ xs) ys [] ws y once is =
    let head : x ≡ y = cc (is) in
    absurd (once.0 (Contains-append_right xs (y ∷ ys) x (at_head y ys x (sym head))))
one_split (x ∷ xs) ys (z ∷ zs) ws y once is =
    let head : x ≡ z = cc (is) in
    let tail : xs ++ y ∷ ys ≡ zs ++ y ∷ ws = cc (is) in
    let rest = one_split xs ys zs ws y once.1 tail in
    ((λ i. head i ∷ rest.0 i), rest.1)

once_behind : (xs ys : List ℕ) (y : ℕ) → HasNoDuplicates (xs ++ y ∷ ys) → HasNoDuplicates ys
once_behind [] ys y once = once.1
once_behind (x ∷ xs) ys y once = once_behind xs ys y once.1

-- immediately after the insertion, the anchor and the new element are neighbours
neighbours : (anchor x : ℕ) (P : ℕ → Type 0) (older mid : List (ℕ × Bool))
    → step_of (Listed older) (After anchor x) ≡ Some (Listed mid) → Between anchor x P (elements_in mid)
neighbours anchor x P older mid step =
    let (before, behind, is_shown, was, now) = after-puts older mid anchor x step in (
      elements_in before,
      [],
      elements_in behind,
      ap elements_in now
          ∙ in_append before ((anchor, is_shown) ∷ (x, true) ∷ behind),
      (λ y there. absurd (omega (arith, there.1))),
    )

known_between : (P : ℕ → Type 0) (list before between behind : List ℕ) (anchor x : ℕ) → HasNoDuplicates list
    → list ≡ before ++ anchor ∷ (between ++ x ∷ behind) → Between anchor x P list → (y : ℕ) → Contains between y → P y
known_between P list before between behind anchor x once is (fronts, middle, backs, split, known) y stands =
    let once_there : HasNoDuplicates (before ++ anchor ∷ (between ++ x ∷ behind)) = subst HasNoDuplicates is once in
    let tails =
    (one_split before (between ++ x ∷ behind) fronts (middle ++ x ∷ backs) anchor once_there (sym is ∙ split)).1 in
    let same =
    (one_split between behind middle backs x
    (once_behind before (between ++ x ∷ behind) anchor once_there) tails).0 in
    known y (subst (λ es. Contains es y) same stands)

elements_between : (anchor x : ℕ) (before between behind : List (ℕ × Bool)) (is_shown was_shown : Bool)
    → elements_in (before ++ (anchor, is_shown) ∷ between ++ (x, was_shown) ∷ behind)
    ≡ elements_in before ++ anchor ∷ (elements_in between ++ x ∷ elements_in behind)
elements_between anchor x before between behind is_shown was_shown =
    in_append (before ++ (anchor, is_shown) ∷ between) ((x, was_shown) ∷ behind)
    ∙ ap (λ es. es ++ x ∷ elements_in behind) (in_append before ((anchor, is_shown) ∷ between))
    ∙ append_assoc (elements_in before) (anchor ∷ elements_in between) (x ∷ elements_in behind)

-- in a list that updates lead to, the elements between were inserted after this insertion
put_between : (first later : List Update) (anchor x : ℕ) (before between behind : List (ℕ × Bool))
    (is_shown was_shown : Bool)
    → state_after Rga (first ++ After anchor x ∷ later)
    ≡ Some (Listed (before ++ (anchor, is_shown) ∷ between ++ (x, was_shown) ∷ behind)) → (y : ℕ)
    → Contains (elements_in between) y → WasInserted y later
put_between first later anchor x before between behind is_shown was_shown led y stands =
    let all : List (ℕ × Bool) = before ++ (anchor, is_shown) ∷ between ++ (x, was_shown) ∷ behind in
    let (older, led_first, goes) = split-led first (After anchor x ∷ later) all led in
    let (mid, step, rest) = one_step older (After anchor x) later all goes in
    let P : ℕ → Type 0 = λ z. WasInserted z later in
    known_between P (elements_in all) (elements_in before) (elements_in between) (elements_in behind) anchor x
    (list-once (first ++ After anchor x ∷ later) all led)
    (elements_between anchor x before between behind is_shown was_shown)
    (between_from anchor x P later mid all rest (λ a z found. (a, found)) (neighbours anchor x P older mid step))
    y stands

-- and by labels that stand behind the label of the insertion
later_label : (records : Records) (first later : List Label) (label other : Label) (b y : ℕ)
    → updates_admitted Rga (named_sequence Rga records) ≡ true → named_labels Rga records ≡ first ++ label ∷ later
    → WasInserted y (updates_among each later)
    → Contains (labels_of records) other → HasUpdate other.op (After b y) → label_cmp Rga records label other ≡ Less
later_label records first later label other b y admitted is (a, put) other_there other_makes =
    let (k, k_there, it, k_makes) = among-from each later (After a y) put in
    let k_in : Contains (labels_of records) k = in-labels Rga records k
    (subst (λ ls. Contains ls k) (sym is)
    (Contains-append_right first (label ∷ later) k (behind_head label later k k_there))) in
    let this : k ≡ other = put_in-once records k other a b y admitted k_in other_there k_makes other_makes in
    (stands-behind Rga records first later label other is other_there).0 (subst (Contains later) this k_there)

pub between-later : (records : Records) (label other : Label) (anchor x b y : ℕ)
    (before between behind : List (ℕ × Bool)) (is_shown was_shown : Bool)
    → state_after Rga (updates_of (named_sequence Rga records)) ≡ Some
    (Listed (before ++ (anchor, is_shown) ∷ between ++ (x, was_shown) ∷ behind))
    → Contains (labels_of records) label → HasUpdate label.op (After anchor x)
    → Contains (labels_of records) other → HasUpdate other.op (After b y) → Contains (elements_in between) y
    → label_cmp Rga records label other ≡ Less
between-later records label other anchor x b y before between behind is_shown was_shown led there makes other_there
    other_makes stands =
    let (first, later, is) = split_at (named_labels Rga records) label (in-named Rga records label there) in
    let older_us = updates_among each first in
    let later_us = updates_among each later in
    let pieces : updates_among each (named_labels Rga records) ≡ older_us ++ After anchor x ∷ later_us =
    ap (updates_among each) is ∙ among-append each first (label ∷ later)
    ∙ ap (λ us. older_us ++ us) (among-append each (label ∷ []) later
    ∙ ap (λ us. us ++ later_us) (among-one each label (After anchor x) makes refl)) in
    let put = put_between older_us later_us anchor x before between behind is_shown was_shown
    (ap (state_after Rga) (sym pieces ∙ each_passes (named_labels Rga records)) ∙ led) y stands in
    later_label records first later label other b y (ap is_some led) is put other_there other_makes
