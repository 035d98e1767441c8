-- Of two elements under two children of one element, the one under the newer child comes first.
use Rattle.std.proofs.Common.{◌≡◌, ℕ, List, [], ◌∷◌, ◌++◌, refl, sym, ap, ◌∙◌, subst, inl, inr}
use Rattle.std.specs.Prelude.{◌⊎◌, Contains}
use Rattle.std.proofs.lemmas.Bool.{cases_eq}
use Rattle.ra_labels.specs.declared.operation.Update.{Update}
use Rattle.ra_labels.specs.declared.operation.Update.TheVariants.{After, RgaRemove}
use Rattle.ra_labels.specs.Edges.{IsBefore}
use Rattle.ra_labels.proofs.Members.{head_or_behind, at_head, behind_head, none_there}
use Rattle.ra_rga_forks.specs.Forks.{IsWay, IsUnder}
use Rattle.ra_rga_forks.proofs.Behind.{behind, others_after, new_before, new_behind, not_both}
use Rattle.ra_rga_forks.proofs.Orders.{IsOrder, IsNewer, element_of, newest_or_past, past_removal, once_in, inserted_in, one_anchor, under_removal, not_newest, anchor_apart, older_way, newest_way, top_first}

-- no element is its own anchor
pub anchor_differs : (past : List Update) (es : List ℕ) (a x : ℕ) → IsOrder past es → Contains past (After a x) → ¬ (a ≡ x)
anchor_differs [] es a x is there same = none_there (After a x) there
anchor_differs (After anchor y ∷ past) es a x (before, order, anchored, new, is) there same =
    elim (newest_or_past a x anchor y past there) [
      | inl both ↦ anchor_apart past before anchor y order anchored new (both.0 ∙ same ∙ sym both.1)
      | inr earlier ↦ anchor_differs past before a x order earlier same
    ]
anchor_differs (RgaRemove y ∷ past) es a x is there same =
    anchor_differs past es a x is.0 (past_removal a x y past there) same
anchor_differs (_ ∷ past) es a x is there same = absurd is

-- no element stands under its own child
child_not_above : (past : List Update) (es : List ℕ) (f c : ℕ) → IsOrder past es → Contains past (After f c) → ¬ IsUnder past f c
child_not_above past es f c is child under =
    let apart = anchor_differs past es f c is child in
    not_both es c f (once_in past es is) (top_first past es f c is under apart)
    (top_first past es c f is (f ∷ [], (child, refl)) (λ same. apart (sym same)))

-- no element stands under two children of one element
not_under_both : (past : List Update) (es : List ℕ) (f p q u : ℕ) → IsOrder past es → Contains past (After f p)
    → Contains past (After f q) → ¬ (p ≡ q) → (first second : List ℕ) → IsWay past u first p → ¬ IsWay past u second q
not_under_both past es f p q u is child_p child_q apart [] [] to_p to_q = apart (sym to_p ∙ to_q)
not_under_both past es f p q u is child_p child_q apart [] (b ∷ second) to_p to_q =
    let same = one_anchor past es b f p is (subst (λ u. Contains past (After b u)) to_p to_q.0) child_p in
    child_not_above past es f q is child_q (second, subst (λ b. IsWay past b second q) same to_q.1)
not_under_both past es f p q u is child_p child_q apart (a ∷ first) [] to_p to_q =
    let same = one_anchor past es a f q is (subst (λ u. Contains past (After a u)) to_q to_p.0) child_q in
    child_not_above past es f p is child_p (first, subst (λ a. IsWay past a first p) same to_p.1)
not_under_both past es f p q u is child_p child_q apart (a ∷ first) (b ∷ second) to_p to_q =
    let same = one_anchor past es b a u is to_q.0 to_p.0 in
    not_under_both past es f p q a is child_p child_q apart first second to_p.1
    (subst (λ b. IsWay past b second q) same to_q.1)

-- what another element stands under is an anchor
has_child : (past : List Update) (u : ℕ) (way : List ℕ) (top : ℕ) → IsWay past u way top → ¬ (u ≡ top)
    → (y : ℕ) × Contains past (After top y)
has_child past u [] top is apart = absurd (apart is)
has_child past u (a ∷ way) top is apart = elim (cases_eq a top) [
  | inl same ↦ (u, subst (λ a. Contains past (After a u)) same is.0)
  | inr other ↦ has_child past a way top is.1 other
]

-- one that stands under a child stands under its anchor
under_anchor : (past : List Update) (v : ℕ) (way : List ℕ) (f c : ℕ) → Contains past (After f c) → IsWay past v way c
    → IsWay past v (way ++ f ∷ []) f
under_anchor past v [] f c child is = (subst (λ v. Contains past (After f v)) (sym is) child, refl)
under_anchor past v (a ∷ way) f c child is = (is.0, under_anchor past a way f c child is.1)

-- the newer one and the older one are inserted
newer_inserted : (past : List Update) (p q : ℕ) → IsNewer past p q
    → ((a : ℕ) × Contains past (After a p)) × ((b : ℕ) × Contains past (After b q))
newer_inserted [] p q is = absurd is
newer_inserted (update ∷ past) p q (inl (a, b, same, there)) =
    ((a, at_head update past (After a p) same), (b, behind_head update past (After b q) there))
newer_inserted (update ∷ past) p q (inr earlier) =
    let (first, second) = newer_inserted past p q earlier in (
      (first.0, behind_head update past (After first.0 p) first.1),
      (second.0, behind_head update past (After second.0 q) second.1),
    )

-- one of two inserted elements is the newer one
newer_or_older : (past : List Update) (a b p q : ℕ) → Contains past (After a p) → Contains past (After b q) → ¬ (p ≡ q)
    → IsNewer past p q ⊎ IsNewer past q p
newer_or_older [] a b p q there_p there_q apart = absurd (none_there (After a p) there_p)
newer_or_older (update ∷ past) a b p q there_p there_q apart = elim (head_or_behind update past (After a p) there_p) [
  | inl first_p ↦ elim (head_or_behind update past (After b q) there_q) [
    | inl first_q ↦ absurd (apart (ap element_of (sym first_p ∙ first_q)))
    | inr rest_q ↦ inl (inl (a, b, first_p, rest_q))
  ]
  | inr rest_p ↦ elim (head_or_behind update past (After b q) there_q) [
    | inl first_q ↦ inr (inl (b, a, first_q, rest_p))
    | inr rest_q ↦ elim (newer_or_older past a b p q rest_p rest_q apart) [
      | inl newer ↦ inl (inr newer)
      | inr older ↦ inr (inr older)
    ]
  ]
]

module _ (past : List Update) (before : List ℕ) (anchor x : ℕ) (order : IsOrder past before)
    (anchored : Contains before anchor) (new : ¬ Contains before x) where
  abbrev later : List Update
  later = After anchor x ∷ past

  abbrev now : List ℕ
  now = behind anchor x before

  -- an element that was inserted earlier is not the newest one
  not_new : (a y : ℕ) → Contains past (After a y) → ¬ (y ≡ x)
  not_new a y there same = new (subst (Contains before) same (inserted_in past before a y order there).0)

  -- the newest one is a child of its anchor alone, and the first one under it
  module _ (u v p q : ℕ) (apart : ¬ (p ≡ q)) (under_u : IsUnder later u p) (under_v : IsUnder later v q) where
    newest_child : Contains past (After anchor q) → x ≡ p → IsBefore now u v
    newest_child child_q same_p =
        let u_is : u ≡ x = elim (cases_eq u x) [
          | inl is ↦ is
          | inr older ↦
              let way = older_way past before anchor x order anchored new u under_u.0 p older under_u.1 in
              let (y, child) = has_child past u under_u.0 p way (λ is. older (is ∙ sym same_p)) in
              absurd (not_newest past before anchor x order anchored new p y child (sym same_p))
        ] in
        let v_older : ¬ (v ≡ x) = λ is.
        elim (newest_way past before anchor x order anchored new under_v.0 q (subst (λ v. IsWay later v under_v.0 q) is under_v.1)) [
          | inl here ↦ apart (sym same_p ∙ here)
          | inr further ↦ child_not_above past before anchor q order child_q further
        ] in
        let way = older_way past before anchor x order anchored new v under_v.0 q v_older under_v.1 in
        let v_apart : ¬ (v ≡ anchor) = λ is.
        child_not_above past before anchor q order child_q (under_v.0, subst (λ v. IsWay past v under_v.0 q) is way) in
        subst (λ u. IsBefore now u v) (sym u_is)
        (new_before anchor x before v (once_in past before order)
        (top_first past before v anchor order (under_v.0 ++ anchor ∷ [], under_anchor past v under_v.0 anchor q child_q way) v_apart))

    older_children : (f : ℕ) → Contains past (After f p) → Contains past (After f q)
        → ((u v : ℕ) → IsUnder past u p → IsUnder past v q → IsBefore before u v) → IsBefore now u v
    older_children f child_p child_q earlier = elim (cases_eq u x) [
      | inl u_new ↦
          elim (newest_way past before anchor x order anchored new under_u.0 p (subst (λ u. IsWay later u under_u.0 p) u_new under_u.1)) [
            | inl here ↦ absurd (not_new f p child_p (sym here))
            | inr above_u ↦ elim (cases_eq v x) [
              | inl v_new ↦
                  elim (newest_way past before anchor x order anchored new under_v.0 q (subst (λ v. IsWay later v under_v.0 q) v_new under_v.1)) [
                    | inl here ↦ absurd (not_new f q child_q (sym here))
                    | inr above_v ↦
                        absurd (not_under_both past before f p q anchor order child_p child_q apart above_u.0 above_v.0 above_u.1 above_v.1)
                  ]
              | inr v_older ↦
                  subst (λ u. IsBefore now u v) (sym u_new)
                  (new_before anchor x before v (once_in past before order)
                  (earlier anchor v above_u (under_v.0, older_way past before anchor x order anchored new v under_v.0 q v_older under_v.1)))
            ]
          ]
      | inr u_older ↦
          let way_u = older_way past before anchor x order anchored new u under_u.0 p u_older under_u.1 in
          elim (cases_eq v x) [
            | inl v_new ↦
                elim (newest_way past before anchor x order anchored new under_v.0 q (subst (λ v. IsWay later v under_v.0 q) v_new under_v.1)) [
                  | inl here ↦ absurd (not_new f q child_q (sym here))
                  | inr above_v ↦
                      subst (IsBefore now u) (sym v_new)
                      (new_behind anchor x before u (once_in past before order) (earlier u anchor (under_u.0, way_u) above_v))
                ]
            | inr v_older ↦
                others_after anchor x before u v
                (earlier u v (under_u.0, way_u)
                (under_v.0, older_way past before anchor x order anchored new v under_v.0 q v_older under_v.1))
          ]
    ]

pub newer_first : (past : List Update) (es : List ℕ) (f p q u v : ℕ) → IsOrder past es → Contains past (After f p)
    → Contains past (After f q) → ¬ (p ≡ q) → IsUnder past u p → IsUnder past v q → IsNewer past p q → IsBefore es u v
newer_first [] es f p q u v is child_p child_q apart under_u under_v newer = absurd newer
newer_first (After anchor x ∷ past) es f p q u v (before, order, anchored, new, is) child_p child_q apart under_u under_v newer =
    subst (λ ys. IsBefore ys u v) (sym is) (elim (newest_or_past f p anchor x past child_p) [
      | inl newest ↦ elim (newest_or_past f q anchor x past child_q) [
        | inl again ↦ absurd (apart (sym newest.1 ∙ again.1))
        | inr child ↦
            newest_child past before anchor x order anchored new u v p q apart under_u under_v
            (subst (λ f. Contains past (After f q)) (sym newest.0) child) newest.1
      ]
      | inr child ↦
          let earlier : IsNewer past p q = elim newer [
            | inl both ↦ absurd (not_new past before anchor x order anchored new f p child (sym (ap element_of both.2)))
            | inr older ↦ older
          ] in
          let other : Contains past (After f q) = elim (newest_or_past f q anchor x past child_q) [
            | inl newest ↦
                let inserted = (newer_inserted past p q earlier).1 in
                absurd (not_new past before anchor x order anchored new inserted.0 q inserted.1 (sym newest.1))
            | inr older ↦ older
          ] in
          older_children past before anchor x order anchored new u v p q apart under_u under_v f child other
          (λ u v under_p under_q. newer_first past before f p q u v order child other apart under_p under_q earlier)
    ])
newer_first (RgaRemove y ∷ past) es f p q u v is child_p child_q apart under_u under_v newer =
    newer_first past es f p q u v is.0 (past_removal f p y past child_p) (past_removal f q y past child_q) apart
    (under_u.0, under_removal past y u under_u.0 p under_u.1) (under_v.0, under_removal past y v under_v.0 q under_v.1)
    (elim newer [
      | inl both ↦ let this : RgaRemove y ≡ After both.0 p = both.2 in absurd (cc (this))
      | inr older ↦ older
    ])
newer_first (_ ∷ past) es f p q u v is child_p child_q apart under_u under_v newer = absurd is

-- so the order tells which child is newer
pub first_newer : (past : List Update) (es : List ℕ) (f p q u v : ℕ) → IsOrder past es → Contains past (After f p)
    → Contains past (After f q) → ¬ (p ≡ q) → IsUnder past u p → IsUnder past v q → IsBefore es u v → IsNewer past p q
first_newer past es f p q u v is child_p child_q apart under_u under_v first =
    elim (newer_or_older past f f p q child_p child_q apart) [
      | inl newer ↦ newer
      | inr older ↦
          absurd (not_both es u v (once_in past es is) first
          (newer_first past es f q p v u is child_q child_p (λ same. apart (sym same)) under_v under_u older))
    ]
