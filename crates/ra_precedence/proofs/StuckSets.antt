-- A stuck set rules out every order.
use Rattle.std.proofs.Common.{ℕ, zero, List, [], ◌∷◌, get_or, sym, subst, inl, inr, arith, refl}
use Rattle.std.specs.Prelude.{Contains}
use Rattle.std.proofs.lemmas.List.Elements.{Contains-get_or}
use Rattle.ra_labels.specs.Edges.{EachOnce, IsBefore}
use Rattle.ra_labels.proofs.Members.{behind_head, none_there}
use Rattle.ra_precedence.specs.Conditions.{Condition, MeetsAll, IsStuck}
use Rattle.ra_precedence.proofs.Times.{times_head, times-there, once_each, each_once, behind_there}

pub once_behind : (x : ℕ) (xs : List ℕ) → EachOnce (x ∷ xs) → EachOnce xs
once_behind x xs once = each_once xs (λ b.
    let most = once_each (x ∷ xs) once b in
    omega (arith, most, times_head b x xs))

pub head_not_behind : (x : ℕ) (xs : List ℕ) → EachOnce (x ∷ xs) → ¬ Contains xs x
head_not_behind x xs once there =
    let most = once_each (x ∷ xs) once x in
    let some = times-there x xs there in
    let both = times-there x (x ∷ []) (zero, omega arith, refl) in
    omega (arith, most, some, both, times_head x x xs, times_head x x [])

-- if each member of a set in the order stands before another one, no member is in the order
pub none_last : (set order : List ℕ) → EachOnce order
    → ((b : ℕ) → Contains set b → Contains order b → (c : ℕ) × Contains set c × IsBefore order b c)
    → (b : ℕ) → Contains set b → ¬ Contains order b
none_last set [] once each b among there = none_there b there
none_last set (x ∷ xs) once each b among there =
    let rest : (c : ℕ) → Contains set c → ¬ Contains xs c = none_last set xs (once_behind x xs once) (λ c mine further.
    let (d, is, before) = each c mine (behind_head x xs c further) in (
      d,
      is,
      elim before [
        | inl both ↦ absurd (head_not_behind x xs once (subst (Contains xs) (sym both.0) further))
        | inr later ↦ later
      ],
    )) in
    let (c, is, before) = each b among there in
    elim before [
      | inl both ↦ rest c is both.1
      | inr later ↦ rest c is (behind_there xs b c later)
    ]

pub no_order_meets_stuck : (conditions : List Condition) (set order : List ℕ) → IsStuck conditions set → EachOnce order
    → ((b : ℕ) → Contains set b → Contains order b) → ¬ (MeetsAll order conditions)
no_order_meets_stuck conditions set order stuck once all meets =
    let first = Contains-get_or set 0 0 stuck.some in
    none_last set order once (λ b among there.
    let (condition, is, held) = stuck.held b among in
    let (c, after, before) = meets condition is b held.before in
    (c, held.after c after, before))
    (get_or set 0 0) first (all (get_or set 0 0) first)
