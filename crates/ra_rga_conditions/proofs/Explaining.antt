-- An order of the updates that keeps the precedence of an RGA explains its records, if they meet the plain conditions.
use Rattle.std.proofs.Common.{◌≡◌, ℕ, Bool, true, List, [], ◌∷◌, ◌++◌, Option, Some, None, refl, sym, ap, ◌∙◌, subst, inl, inr}
use Rattle.std.specs.Prelude.{is_some, filter_map, Contains, IsPermutation}
use Rattle.std.proofs.lemmas.Bool.{cases_eq, cond-true}
use Rattle.std.proofs.lemmas.List.Elements.{Contains-append_left, Contains-append_right}
use Rattle.std.proofs.lemmas.List.Sorted.{Contains-permutation, IsPermutation-sym}
use Rattle.ra_labels.specs.declared.kind.Kind.TheVariants.{Rga}
use Rattle.ra_labels.specs.declared.operation.Op.TheVariants as op
use Rattle.ra_labels.specs.declared.operation.Update.{Update}
use Rattle.ra_labels.specs.declared.operation.Update.TheVariants.{After, RgaRemove}
use Rattle.ra_labels.specs.declared.label.Label.{Label}
use Rattle.ra_labels.specs.Edges.{EachOnce, IsBefore}
use Rattle.ra_labels.specs.Records.{Records, labels_of}
use Rattle.ra_labels.specs.Rewriting.{Part, update_of}
use Rattle.ra_labels.specs.Linearization.{parts_in}
use Rattle.ra_labels.specs.TheoremTerms.{WasInserted}
use Rattle.ra_labels.proofs.Members.{at_head}
use Rattle.ra_list_order.proofs.Befores.{Left, Right, Across, before_cases, second_there}
use Rattle.ra_list_order.proofs.JoinedChunks.{once_right, once_apart}
use Rattle.ra_theorems.proofs.FilterMaps.{split_map, mapped_from, mapped_there}
use Rattle.ra_theorems.proofs.TheoremIndex.{label_at_each_number-one}
use Rattle.ra_some_order.specs.SomeOrder.{EachLabelIsOfKind, update_order}
use Rattle.ra_some_order.proofs.MadeUpdates.{update_made, part_makes, is_some-value}
use Rattle.ra_some_order.proofs.UpdateOrders.{order-append, order-cons, in_order, from_order}
use Rattle.ra_rga_conditions.specs.Precedence.{HasOperationAt, Inserts, Needs, MustStandBefore, Needed}
use Rattle.ra_rga_conditions.specs.Plain.{AreInserted}
use Rattle.ra_rga_conditions.proofs.SequenceOrders.{tested, tested_from}
use Rattle.ra_rga_conditions.proofs.Growing.{IsAdmittedAfter, AllAdmitted}
use Rattle.ra_rga_conditions.proofs.RgaOperations.{IsUpdateOf, Inserting, Removing, rga_made}

-- in an order that has each number once, what comes before a number is in front of it
in_front : (front back : List ℕ) (m n : ℕ) → EachOnce (front ++ n ∷ back) → IsBefore (front ++ n ∷ back) m n → Contains front m
in_front front back m n once is = elim (before_cases front (n ∷ back) m n is) [
  | Left both ↦ absurd (once_apart front (n ∷ back) n once (second_there front m n both) (at_head n back n refl))
  | Right both ↦ absurd (behind_itself (once_right front (n ∷ back) once) both)
  | Across near far ↦ near
]
  where
    behind_itself : EachOnce (n ∷ back) → ¬ IsBefore (n ∷ back) m n
    behind_itself once (inl here) = once_apart (n ∷ []) back n once (at_head n [] n refl) here.1
    behind_itself once (inr later) = once_apart (n ∷ []) back n once (at_head n [] n refl) (second_there back m n later)

module _ (records : Records) (sequence : List Part) (same : IsPermutation (parts_in records) sequence)
    (of_kind : EachLabelIsOfKind Rga records) (once : EachOnce (update_order sequence))
    (keeps : (m n : ℕ) → MustStandBefore records m n → IsBefore (update_order sequence) m n)
    (inserted : AreInserted records) (passes : ℕ → Bool)
    (closed : (n x : ℕ) → passes n ≡ true → Needs records n x → ¬ (x ≡ 0) → (m : ℕ) × Inserts records m x × (passes m ≡ true)) where
  abbrev its : Part → Option Update
  its p = update_of p.act

  abbrev lets : Part → Bool
  lets p = passes p.label.number

  -- the label of a part that makes an update, and its operation
  pub record IsMaking (p : Part) (u : Update) : Type 0 where
    pub found : Contains (labels_of records) p.label
    pub made : update_made p.label.op ≡ Some u
    pub is : IsUpdateOf p.label.op u

  making : (p : Part) (u : Update) → Contains sequence p → update_of p.act ≡ Some u → IsMaking p u
  making p u there does =
      let (found, made) = part_makes records p u
      (Contains-permutation sequence (parts_in records) p (IsPermutation-sym (parts_in records) sequence same) there) does in
      record { found = found; made = made; is = rga_made p.label.op u (of_kind p.label found) made }

  -- an insertion by a part
  pub part_inserts : (p : Part) (a x : ℕ) → Contains sequence p → update_of p.act ≡ Some (After a x) → Inserts records p.label.number x
  part_inserts p a x there does =
      let makes = making p (After a x) there does in
      elim makes.is [
        | Inserting b y op_is u_is ↦
            let same_x : x ≡ y = let this : After a x ≡ After b y = u_is in cc (this) in
            (b, (p.label, makes.found, refl, op_is ∙ ap (op.After b) (sym same_x)))
        | Removing y op_is u_is ↦ let this : After a x ≡ RgaRemove y = u_is in absurd (cc (this))
      ]

  module _ (front later : List Part) (p : Part) (u : Update) (split : sequence ≡ front ++ p ∷ later)
      (does : update_of p.act ≡ Some u) (lets_it : passes p.label.number ≡ true) where
    abbrev n : ℕ
    n = p.label.number

    abbrev first : List Update
    first = filter_map (tested its lets) front

    in_sequence : (q : Part) → Contains front q → Contains sequence q
    in_sequence q there = subst (λ ps. Contains ps q) (sym split) (Contains-append_left front (p ∷ later) q there)

    p_there : Contains sequence p
    p_there = subst (λ ps. Contains ps p) (sym split) (Contains-append_right front (p ∷ later) p (at_head p later p refl))

    order_split : update_order sequence ≡ update_order front ++ n ∷ update_order later
    order_split =
        ap update_order split ∙ order-append front (p ∷ later)
        ∙ ap (λ ns. update_order front ++ ns) (order-cons p later (ap is_some does))

    split_once : EachOnce (update_order front ++ n ∷ update_order later)
    split_once = subst EachOnce order_split once

    -- a label that must stand before this one, and inserts an element, has done so
    inserted_before : (m x : ℕ) → MustStandBefore records m n → Inserts records m x → passes m ≡ true → WasInserted x first
    inserted_before m x precedes (b, (label, found, numbered, op_is)) lets_m =
        let near = in_front (update_order front) (update_order later) m n split_once
        (subst (λ ns. IsBefore ns m n) order_split (keeps m n precedes)) in
        let (q, q_there, q_updates, q_number) = from_order front m near in
        let (v, q_does) = is_some-value (update_of q.act) q_updates in
        let makes = making q v (in_sequence q q_there) q_does in
        let label_is = label_at_each_number-one records q.label label makes.found found (q_number ∙ sym numbered) in
        let v_is : Some v ≡ Some (After b x) = sym makes.made ∙ ap (λ (l : Label). update_made l.op) label_is ∙ ap update_made op_is in
        let lets_q : passes q.label.number ≡ true = ap passes q_number ∙ lets_m in (
          b,
          mapped_there (tested its lets) front q (After b x) q_there
              (cond-true (lets q) (its q) None lets_q ∙ q_does ∙ v_is),
        )

    -- no label before this one inserts what it inserts
    not_before : (x : ℕ) → Inserts records n x → ¬ WasInserted x first
    not_before x inserts (b, there) =
        let (q, q_there, q_is) = mapped_from (tested its lets) front (After b x) there in
        let (q_lets, q_does) = tested_from its lets q (After b x) q_is in
        let q_number = inserted.once q.label.number n x (part_inserts q b x (in_sequence q q_there) q_does) inserts in
        once_apart (update_order front) (n ∷ update_order later) n split_once
        (subst (Contains (update_order front)) q_number (in_order front q q_there (ap is_some q_does)))
        (at_head n (update_order later) n refl)

    admitted_here : IsAdmittedAfter first u
    admitted_here =
        let makes = making p u p_there does in
        elim makes.is [
          | Inserting a x op_is u_is ↦
              let inserts : Inserts records n x = (a, (p.label, makes.found, refl, op_is)) in
              let needs : Needs records n a = inl (x, (p.label, makes.found, refl, op_is)) in
              subst (IsAdmittedAfter first) (sym u_is) (
                elim (cases_eq a 0) [
                  | inl root ↦ inl root
                  | inr apart ↦
                      let (m, inserts_m, lets_m) = closed n a lets_it needs apart in
                      inr (inserted_before m a (Needed a inserts_m needs) inserts_m lets_m)
                ],
                (λ root. inserted.not_root n (subst (Inserts records n) root inserts)),
                not_before x inserts,
              )
          | Removing x op_is u_is ↦
              let has : HasOperationAt records n (op.RgaRemove x) = (p.label, makes.found, refl, op_is) in
              let apart : ¬ (x ≡ 0) = λ root. inserted.root_stays n (subst (λ y. HasOperationAt records n (op.RgaRemove y)) root has) in
              let (m, inserts_m, lets_m) = closed n x lets_it (inr has) apart in
              subst (IsAdmittedAfter first) (sym u_is)
              (apart, inserted_before m x (Needed x inserts_m (inr has)) inserts_m lets_m)
        ]

  -- so all of these updates are admitted, in the sequence's order
  pub each_admitted : AllAdmitted [] (filter_map (tested its lets) sequence)
  each_admitted before rest u is =
      let (front, later, p, split, p_is, front_is) = split_map (tested its lets) sequence before u rest is in
      let (lets_it, does) = tested_from its lets p u p_is in
      subst (λ vs. IsAdmittedAfter vs u) front_is (admitted_here front later p u split does lets_it)
