-- Lemmas on stuck sets: no order that has each label once meets conditions that hold each label of a set back.
use Rattle.std.proofs.Common.{◌≡◌, ℕ, ◌<◌, length, List, [], ◌∷◌, ◌++◌, refl, ap, subst, inl, inr, arith}
use Rattle.std.specs.Prelude.{◌⊎◌, Contains}
use Rattle.ra_labels.specs.Edges.{EachOnce, IsBefore}
use Rattle.ra_labels.proofs.Members.{head_or_behind, at_head, none_there}
use Rattle.ra_list_order.proofs.Befores.{first_there}
use Rattle.ra_list_order.proofs.JoinedChunks.{side}
use Rattle.ra_precedence.specs.Conditions.{Condition, MeetsAll, IsStuck}
use Rattle.ra_some_order.proofs.VisibleValues.{before_behind}

-- the last member of a set in an order: none behind it is in the set
pub record HasLastMember (set order : List ℕ) : Type 0 where
  pub front : List ℕ
  pub last : ℕ
  pub back : List ℕ
  pub split : order ≡ front ++ last ∷ back
  pub is : Contains set last
  pub none : (b : ℕ) → Contains back b → ¬ Contains set b

pub none_or_last : (set order : List ℕ) → ((b : ℕ) → Contains order b → ¬ Contains set b) ⊎ HasLastMember set order
none_or_last set [] = inl (λ b there. absurd (none_there b there))
none_or_last set (x ∷ xs) = elim (none_or_last set xs) [
  | inr rest ↦ inr (record {
    front = x ∷ rest.front;
    last = rest.last;
    back = rest.back;
    split = ap (λ ys. x ∷ ys) rest.split;
    is = rest.is;
    none = rest.none;
  })
  | inl none ↦ elim (side set x) [
    | inl member ↦ inr (record { front = []; last = x; back = xs; split = refl; is = member; none = none })
    | inr other ↦ inl (λ b there. elim (head_or_behind x xs b there) [
      | inl here ↦ subst (λ y. ¬ Contains set y) here other
      | inr further ↦ none b further
    ])
  ]
]

some_member : (set : List ℕ) → 0 < length set → (b : ℕ) × Contains set b
some_member [] some = absurd (omega arith)
some_member (b ∷ set) some = (b, at_head b set b refl)

-- the last of the set in the order would have to come before another one of the set
pub no_order_meets_stuck : (order : List ℕ) (conditions : List Condition) (set : List ℕ) → EachOnce order
    → IsStuck conditions set → ¬ MeetsAll order conditions
no_order_meets_stuck order conditions set once stuck meets =
    let (b, member) = some_member set stuck.some in
    let (c, c_member, before) = next b member in
    elim (none_or_last set order) [
      | inl none ↦ none b (first_there order b c before) member
      | inr last ↦
          let (d, d_member, later) = next last.last last.is in
          last.none d (before_behind last.front last.back last.last d (subst EachOnce last.split once)
          (subst (λ ns. IsBefore ns last.last d) last.split later)) d_member
    ]
  where
    next : (b : ℕ) → Contains set b → (c : ℕ) × Contains set c × IsBefore order b c
    next b member =
        let (condition, among, held) = stuck.held b member in
        let (c, after, before) = meets condition among b held.before in
        (c, held.after c after, before)
