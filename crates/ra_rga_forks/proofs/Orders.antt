-- The order of the elements after updates, of which the newest comes first.
use Rattle.std.proofs.Common.{◌≡◌, ℕ, List, [], ◌∷◌, refl, sym, ap, ◌∙◌, subst, inl, inr}
use Rattle.std.specs.Prelude.{◌⊎◌, Contains}
use Rattle.std.proofs.lemmas.Bool.{cases_eq}
use Rattle.ra_labels.specs.declared.operation.Update.{Update}
use Rattle.ra_labels.specs.declared.operation.Update.TheVariants.{After, RgaRemove}
use Rattle.ra_labels.specs.Edges.{IsBefore}
use Rattle.ra_labels.proofs.Members.{head_or_behind, at_head, none_there}
use Rattle.ra_rga_forks.specs.Forks.{IsWay, IsUnder}
use Rattle.ra_rga_forks.proofs.Behind.{behind, Once, still_there, new_there, once_behind, others_after, new_behind_anchor, new_behind}

-- holds if the updates are admitted, and the elements are those after them
abbrev pub IsOrder : List Update → List ℕ → Type 0
IsOrder [] es = es ≡ 0 ∷ []
IsOrder (After anchor x ∷ past) es = (before : List ℕ) × IsOrder past before × Contains before anchor
    × (¬ Contains before x) × (es ≡ behind anchor x before)
IsOrder (RgaRemove x ∷ past) es = IsOrder past es × Contains es x × (¬ (x ≡ 0))
IsOrder (_ ∷ past) es = ⊥

-- holds if the newest of the updates inserts p, and an earlier one q, or so it is of the earlier ones
abbrev pub IsNewer : List Update → ℕ → ℕ → Type 0
IsNewer [] p q = ⊥
IsNewer (update ∷ past) p q =
    ((a b : ℕ) × (update ≡ After a p) × Contains past (After b q)) ⊎ IsNewer past p q

-- the anchor and the element of an insertion
abbrev pub anchor_of : Update → ℕ
anchor_of (After anchor x) = anchor
anchor_of _ = 0

abbrev pub element_of : Update → ℕ
element_of (After anchor x) = x
element_of _ = 0

-- an insertion among the updates is the newest one or an earlier one
pub newest_or_past : (a x b y : ℕ) (past : List Update) → Contains (After b y ∷ past) (After a x)
    → ((b ≡ a) × (y ≡ x)) ⊎ Contains past (After a x)
newest_or_past a x b y past there = elim (head_or_behind (After b y) past (After a x) there) [
  | inl same ↦ inl (ap anchor_of same, ap element_of same)
  | inr rest ↦ inr rest
]

pub past_removal : (a x y : ℕ) (past : List Update) → Contains (RgaRemove y ∷ past) (After a x) → Contains past (After a x)
past_removal a x y past there = elim (head_or_behind (RgaRemove y) past (After a x) there) [
  | inl same ↦ let this : RgaRemove y ≡ After a x = same in absurd (cc (this))
  | inr rest ↦ rest
]

-- each element is there once, and the root is
pub once_in : (past : List Update) (es : List ℕ) → IsOrder past es → Once es
once_in [] es is = subst Once (sym is) ((λ there. none_there 0 there), tt)
once_in (After anchor x ∷ past) es (before, order, there, new, is) =
    subst Once (sym is) (once_behind anchor x before new (once_in past before order))
once_in (RgaRemove x ∷ past) es is = once_in past es is.0
once_in (_ ∷ past) es is = absurd is

pub root_in : (past : List Update) (es : List ℕ) → IsOrder past es → Contains es 0
root_in [] es is = subst (λ ys. Contains ys 0) (sym is) (at_head 0 [] 0 refl)
root_in (After anchor x ∷ past) es (before, order, there, new, is) =
    subst (λ ys. Contains ys 0) (sym is) (still_there anchor x before 0 (root_in past before order))
root_in (RgaRemove x ∷ past) es is = root_in past es is.0
root_in (_ ∷ past) es is = absurd is

-- an inserted element and its anchor are there
pub inserted_in : (past : List Update) (es : List ℕ) (a x : ℕ) → IsOrder past es → Contains past (After a x)
    → Contains es x × Contains es a
inserted_in [] es a x is there = absurd (none_there (After a x) there)
inserted_in (After anchor y ∷ past) es a x (before, order, anchored, new, is) there =
    subst (λ ys. Contains ys x × Contains ys a) (sym is) (elim (newest_or_past a x anchor y past there) [
      | inl both ↦ (
        subst (Contains (behind anchor y before)) both.1 (new_there anchor y before anchored),
        subst (Contains (behind anchor y before)) both.0 (still_there anchor y before anchor anchored),
      )
      | inr earlier ↦
          let both = inserted_in past before a x order earlier in
          (still_there anchor y before x both.0, still_there anchor y before a both.1)
    ])
inserted_in (RgaRemove y ∷ past) es a x is there = inserted_in past es a x is.0 (past_removal a x y past there)
inserted_in (_ ∷ past) es a x is there = absurd is

-- an element has one anchor
pub one_anchor : (past : List Update) (es : List ℕ) (a b x : ℕ) → IsOrder past es → Contains past (After a x)
    → Contains past (After b x) → a ≡ b
one_anchor [] es a b x is first second = absurd (none_there (After a x) first)
one_anchor (After anchor y ∷ past) es a b x (before, order, anchored, new, is) first second =
    elim (newest_or_past a x anchor y past first) [
      | inl both ↦ elim (newest_or_past b x anchor y past second) [
        | inl again ↦ sym both.0 ∙ again.0
        | inr earlier ↦ absurd (new (subst (Contains before) (sym both.1) (inserted_in past before b x order earlier).0))
      ]
      | inr earlier ↦ elim (newest_or_past b x anchor y past second) [
        | inl again ↦ absurd (new (subst (Contains before) (sym again.1) (inserted_in past before a x order earlier).0))
        | inr older ↦ one_anchor past before a b x order earlier older
      ]
    ]
one_anchor (RgaRemove y ∷ past) es a b x is first second =
    one_anchor past es a b x is.0 (past_removal a x y past first) (past_removal b x y past second)
one_anchor (_ ∷ past) es a b x is first second = absurd is

-- what stands under an element before a removal does so without it
pub under_removal : (past : List Update) (y u : ℕ) (way : List ℕ) (top : ℕ) → IsWay (RgaRemove y ∷ past) u way top
    → IsWay past u way top
under_removal past y u [] top is = is
under_removal past y u (a ∷ way) top is = (past_removal a u y past is.0, under_removal past y a way top is.1)

module _ (past : List Update) (before : List ℕ) (anchor x : ℕ) (order : IsOrder past before)
    (anchored : Contains before anchor) (new : ¬ Contains before x) where
  -- nothing stands under the newest element
  pub not_newest : (a y : ℕ) → Contains past (After a y) → ¬ (a ≡ x)
  not_newest a y there is = new (subst (Contains before) is (inserted_in past before a y order there).1)

  pub anchor_apart : ¬ (anchor ≡ x)
  anchor_apart is = new (subst (Contains before) is anchored)

  -- the way from another element is older than the newest one
  pub older_way : (u : ℕ) (way : List ℕ) (top : ℕ) → ¬ (u ≡ x) → IsWay (After anchor x ∷ past) u way top → IsWay past u way top
  older_way u [] top other is = is
  older_way u (a ∷ way) top other is = elim (newest_or_past a u anchor x past is.0) [
    | inl both ↦ absurd (other (sym both.1))
    | inr earlier ↦ (earlier, older_way a way top (not_newest a u earlier) is.1)
  ]

  -- and that from the newest one goes by its anchor
  pub newest_way : (way : List ℕ) (top : ℕ) → IsWay (After anchor x ∷ past) x way top → (x ≡ top) ⊎ IsUnder past anchor top
  newest_way [] top is = inl is
  newest_way (a ∷ way) top is = elim (newest_or_past a x anchor x past is.0) [
    | inl both ↦
        inr (way, older_way anchor way top anchor_apart (subst (λ b. IsWay (After anchor x ∷ past) b way top) (sym both.0) is.1))
    | inr earlier ↦ absurd (new (inserted_in past before a x order earlier).0)
  ]

-- an element stands behind each one under which it stands
pub top_first : (past : List Update) (es : List ℕ) (v top : ℕ) → IsOrder past es → IsUnder past v top → ¬ (v ≡ top)
    → IsBefore es top v
top_first [] es v top is ([], same) apart = absurd (apart same)
top_first [] es v top is (a ∷ way, both) apart = absurd (none_there (After a v) both.0)
top_first (After anchor x ∷ past) es v top (before, order, anchored, new, is) (way, under) apart =
    subst (λ ys. IsBefore ys top v) (sym is) (elim (cases_eq v x) [
      | inl newest ↦
          subst (IsBefore (behind anchor x before) top) (sym newest)
          (elim (newest_way past before anchor x order anchored new way top (subst (λ u. IsWay (After anchor x ∷ past) u way top) newest under)) [
            | inl same ↦ absurd (apart (newest ∙ same))
            | inr further ↦ elim (cases_eq anchor top) [
              | inl here ↦ subst (λ t. IsBefore (behind anchor x before) t x) here (new_behind_anchor anchor x before anchored)
              | inr above ↦
                  new_behind anchor x before top (once_in past before order)
                  (top_first past before anchor top order further above)
            ]
          ])
      | inr older ↦
          others_after anchor x before top v
          (top_first past before v top order (way, older_way past before anchor x order anchored new v way top older under) apart)
    ])
top_first (RgaRemove x ∷ past) es v top is (way, under) apart =
    top_first past es v top is.0 (way, under_removal past x v way top under) apart
top_first (_ ∷ past) es v top is under apart = absurd is
