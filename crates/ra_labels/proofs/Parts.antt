-- Lemmas on the parts of labels, and on sequences of parts that extend an order.
use Rattle.std.proofs.Common.{◌≡◌, Bool, true, false, List, [], ◌∷◌, ◌++◌, refl, sym, ap, ◌∙◌, subst, inl, inr, arith}
use Rattle.std.specs.Prelude.{not, Contains, map}
use Rattle.std.specs.List.{list_all}
use Rattle.std.proofs.lemmas.Bool.{and_parts, and_from, not-true}
use Rattle.std.proofs.lemmas.List.Elements.{Contains-append_left, Contains-append_right}
use Rattle.std.proofs.lemmas.List.Folds.{list_all-append}
use Rattle.ra_labels.specs.declared.operation.Op.{Op}
use Rattle.ra_labels.specs.declared.operation.Op.TheVariants as op
use Rattle.ra_labels.specs.declared.list_operation.ListOp.TheVariants as list
use Rattle.ra_labels.specs.declared.label.Label.{Label}
use Rattle.ra_labels.specs.Rewriting.{Part, Half, Act, acts_of, part_of, parts_of}
use Rattle.ra_labels.specs.Linearization.{extends}
use Rattle.ra_labels.proofs.InLists.{list_all-contains, list_all-from_contains}
use Rattle.ra_labels.proofs.Members.{head_or_behind, reached, from_where}

module _ {A : Type 0} where
  -- if a sequence extends an order, so does its front
  pub extends-first : (precedes : A → A → Bool) (xs ys : List A) → extends precedes (xs ++ ys) ≡ true → extends precedes xs ≡ true
  extends-first precedes [] ys extended = refl
  extends-first precedes (x ∷ xs) ys extended =
      let parts = and_parts (list_all (λ q. not (precedes q x)) (xs ++ ys)) (extends precedes (xs ++ ys)) extended in
      and_from (list_all (λ q. not (precedes q x)) xs) (extends precedes xs)
      (list_all-from_contains (λ q. not (precedes q x)) xs (λ q there. list_all-contains (λ r. not (precedes r x)) (xs ++ ys) q parts.0 (Contains-append_left xs ys q there)))
      (extends-first precedes xs ys parts.1)

  -- and so does its rear
  pub extends-behind : (precedes : A → A → Bool) (xs ys : List A) → extends precedes (xs ++ ys) ≡ true → extends precedes ys ≡ true
  extends-behind precedes [] ys extended = extended
  extends-behind precedes (x ∷ xs) ys extended =
      extends-behind precedes xs ys (and_parts (list_all (λ q. not (precedes q x)) (xs ++ ys)) (extends precedes (xs ++ ys)) extended).1

  -- and no element of the rear must precede an element of the front
  pub extends-apart : (precedes : A → A → Bool) (xs ys : List A) → extends precedes (xs ++ ys) ≡ true → (p q : A) → Contains xs p → Contains ys q → precedes q p ≡ false
  extends-apart precedes [] ys extended p q p_there q_there = absurd (omega (arith, p_there.1))
  extends-apart precedes (x ∷ xs) ys extended p q p_there q_there =
      let parts = and_parts (list_all (λ r. not (precedes r x)) (xs ++ ys)) (extends precedes (xs ++ ys)) extended in
      elim (head_or_behind x xs p p_there) [
        | inl here ↦ subst (λ r. precedes q r ≡ false) here (not-true (precedes q x) (list_all-contains (λ r. not (precedes r x)) (xs ++ ys) q parts.0 (Contains-append_right xs ys q q_there)))
        | inr further ↦ extends-apart precedes xs ys parts.1 p q further q_there
      ]

-- a part of a label has that label
pub part_is_of : (label : Label) (part : Part) → Contains (parts_of label) part → part.label ≡ label
part_is_of label part there =
    let from = from_where (part_of label) (acts_of label.op) part there in
    sym (ap (λ (p : Part). p.label) from.2)

-- each label has a part
some_act : (operation : Op) → (act : Half × Act) × Contains (acts_of operation) act
some_act op.Inc = (_, (0, omega arith, refl))
some_act op.Dec = (_, (0, omega arith, refl))
some_act (op.Count v) = (_, (0, omega arith, refl))
some_act (op.Write value) = (_, (0, omega arith, refl))
some_act (op.Last value) = (_, (0, omega arith, refl))
some_act (op.LwwAdd x) = (_, (0, omega arith, refl))
some_act (op.LwwRemove x) = (_, (0, omega arith, refl))
some_act (op.LwwRead list) = (_, (0, omega arith, refl))
some_act (op.OrAdd x id) = (_, (0, omega arith, refl))
some_act (op.OrRemove x ids) = (_, (0, omega arith, refl))
some_act (op.OrRead list) = (_, (0, omega arith, refl))
some_act (op.After anchor x) = (_, (0, omega arith, refl))
some_act (op.RgaRemove x) = (_, (0, omega arith, refl))
some_act (op.RgaRead list) = (_, (0, omega arith, refl))
some_act (op.List (list.Insert insertion)) = (_, (0, omega arith, refl))
some_act (op.List (list.Remove x)) = (_, (0, omega arith, refl))
some_act (op.List (list.Read elements)) = (_, (0, omega arith, refl))
some_act (op.List (list.Part elements)) = (_, (0, omega arith, refl))
some_act op.AnyUpdate = (_, (0, omega arith, refl))
some_act (op.AnyRead value) = (_, (0, omega arith, refl))
some_act (op.MvWrite value) = (_, (0, omega arith, refl))
some_act (op.MvRead values) = (_, (0, omega arith, refl))

pub some_part : (label : Label) → (part : Part) × Contains (parts_of label) part
some_part label =
    let act = some_act label.op in
    (part_of label act.0, reached (part_of label) (acts_of label.op) act.0 act.1)

-- the label has a part that none of the parts behind must precede
abbrev pub IsBefore : (Part → Part → Bool) → Label → List Part → Type 0
IsBefore precedes label behind = (q : Part) × (q.label ≡ label) × (list_all (λ p. not (precedes p q)) behind ≡ true)

pub is_before : (precedes : Part → Part → Bool) (label : Label) (acts : List (Half × Act)) (act : Half × Act) (behind : List Part) → Contains acts act
    → extends precedes (map (part_of label) acts ++ behind) ≡ true → IsBefore precedes label behind
is_before precedes label [] act behind there extended = absurd (omega (arith, there.1))
is_before precedes label (first ∷ acts) act behind there extended =
    let q = part_of label first in
    let test = λ (p : Part). not (precedes p q) in
    let rest = map (part_of label) acts in
    let all = (and_parts (list_all test (rest ++ behind)) (extends precedes (rest ++ behind)) extended).0 in
    (q, refl, (and_parts (list_all test rest) (list_all test behind) (sym (list_all-append test rest behind) ∙ all)).1)
