-- Lemmas on precedence: a new label fits exactly if the sequence still extends visibility.
use Rattle.std.proofs.Common.{◌≡◌, ◌<◌, true, false, [], ◌∷◌, refl, sym, ap, ◌∙◌, inl, inr, arith}
use Rattle.std.specs.Prelude.{◌==◌, ◌&&◌, ◌||◌, nat_lt, is_some, Contains}
use Rattle.std.specs.Option.{option_map_or}
use Rattle.std.proofs.lemmas.Bool.{and_from, or_cases, or_left, or_right, eq-eqb, le-ltb, lt-ltb, false_from_ne_true}
use Rattle.ra_labels.specs.declared.operation.Op.{Op}
use Rattle.ra_labels.specs.declared.operation.Op.TheVariants as op
use Rattle.ra_labels.specs.declared.list_operation.ListOp.TheVariants as list
use Rattle.ra_labels.specs.declared.label.Label.{Label}
use Rattle.ra_labels.specs.Records.{Records, label_count, labels_of}
use Rattle.ra_labels.specs.Visibility.{sees, is_update, is_update_at}
use Rattle.ra_labels.specs.Rewriting.{Part, Half, Act, acts_of, part_of, parts_of, update_of}
use Rattle.ra_labels.specs.Linearization.{must_precede, is_visible_to, is_earlier_at_replica, is_query_half_of, extends}
use Rattle.ra_labels.proofs.Members.{what_passes, reached}
use Rattle.ra_labels.proofs.Parts.{part_is_of, some_part}
use Rattle.ra_labels.specs.HistorySoFar.{NextOperation, operate}
use Rattle.ra_theorems.proofs.TheoremIndex.{must_precede_cases-cases, sees_persists, sees_earlier_updates-earlier, sees_earlier_updates-updates, sees_earlier_updates-itself, label_at_each_number-found, update_iff_part_is_update}
use Rattle.ra_visibility.specs.Order.{must_stand_before}

-- the parts of one label extend the order
pub parts_extend : (records : Records) (label : Label) (operation : Op) → extends (must_precede records) (Rattle.std.specs.Prelude.map (part_of label) (acts_of operation)) ≡ true
parts_extend records label (op.OrRemove x ids) = rw (
  sees_earlier_updates-itself records label.number,
  le-ltb label.number label.number (omega arith),
  eq-eqb label.replica label.replica refl,
  eq-eqb label.number label.number refl,
) refl
parts_extend records label (op.List (list.Insert insertion)) = rw (
  sees_earlier_updates-itself records label.number,
  le-ltb label.number label.number (omega arith),
  eq-eqb label.replica label.replica refl,
  eq-eqb label.number label.number refl,
) refl
parts_extend records label (op.List (list.Remove x)) = rw (
  sees_earlier_updates-itself records label.number,
  le-ltb label.number label.number (omega arith),
  eq-eqb label.replica label.replica refl,
  eq-eqb label.number label.number refl,
) refl
parts_extend records label (op.List (list.Read elements)) = refl
parts_extend records label (op.List (list.Part elements)) = refl
parts_extend records label _ = refl

-- an existing label that is an update has a part that is one
update_part : (records : Records) (label : Label) → Contains (labels_of records) label → is_update_at records label.number ≡ true
    → (part : Part) × Contains (parts_of label) part × (is_some (update_of part.act) ≡ true)
update_part records label there is =
    let found = label_at_each_number-found records label there in
    let update : is_update label.op ≡ true = sym (ap (λ l. option_map_or (λ (m : Label). is_update m.op) l false) found) ∙ is in
    let act = what_passes (λ (a : Half × Act). is_some (update_of a.1)) (acts_of label.op) (sym (update_iff_part_is_update label.op) ∙ update) in
    (part_of label act.0, reached (part_of label) (acts_of label.op) act.0 act.1, act.2)

-- a later operation does not change the order of parts of earlier labels
pub precedes_later : (records : Records) (next : NextOperation) (p q : Part) → q.label.number < label_count records
    → must_precede (operate next ∷ records) p q ≡ must_precede records p q
precedes_later records next p q below =
    ap (λ b. (is_some (update_of p.act) && b) || is_earlier_at_replica p q || is_query_half_of p q)
    (sees_persists (operate next ∷ []) records q.label.number p.label.number below)

-- no part must precede a part of an earlier label
pub not_backwards : (records : Records) (p q : Part) → q.label.number < p.label.number → must_precede records p q ≡ false
not_backwards records p q later = false_from_ne_true (must_precede records p q) (λ must.
    elim ((must_precede_cases-cases records p q).0 must) [
      | inl seen ↦ let earlier = sees_earlier_updates-earlier records q.label.number p.label.number seen.1 in omega arith
      | inr (inl earlier) ↦ omega (arith, earlier.1)
      | inr (inr halves) ↦ omega (arith, halves.0)
    ])

-- a part must precede a part of a later label only if its label must
pub labels_too : (records : Records) (p q : Part) (l m : Label) → p.label ≡ l → q.label ≡ m → l.number < m.number → must_precede records p q ≡ true → must_stand_before records l m ≡ true
labels_too records p q l m is_l is_m later must =
    let sees_it = sees records m.number l.number in
    let earlier_one = l.replica == m.replica && nat_lt l.number m.number in
    elim ((must_precede_cases-cases records p q).0 must) [
      | inl seen ↦ or_left sees_it earlier_one (sym (λ i. sees records (is_m i).number (is_l i).number) ∙ seen.1)
      | inr (inl earlier) ↦
          let replica : l.replica ≡ m.replica = sym (ap (λ (k : Label). k.replica) is_l) ∙ earlier.0 ∙ ap (λ (k : Label). k.replica) is_m in
          or_right sees_it earlier_one (and_from (l.replica == m.replica) (nat_lt l.number m.number) (eq-eqb l.replica m.replica replica) (lt-ltb l.number m.number later))
      | inr (inr halves) ↦ absurd (omega (arith, halves.0, ap (λ (k : Label). k.number) is_l, ap (λ (k : Label). k.number) is_m))
    ]

-- and if its label must, so must one of its parts
pub parts_too : (records : Records) (l m : Label) → Contains (labels_of records) l → must_stand_before records l m ≡ true
    → (q : Part) → q.label ≡ m → (p : Part) × Contains (parts_of l) p × (must_precede records p q ≡ true)
parts_too records l m there must q is_m =
    let sees_it = sees records m.number l.number in
    let earlier_one = l.replica == m.replica && nat_lt l.number m.number in
    elim (or_cases sees_it earlier_one must) [
      | inl seen ↦
          let part = update_part records l there (sees_earlier_updates-updates records m.number l.number seen) in
          let p = part.0 in
          let is_l = part_is_of l p part.1 in
          let visible : is_visible_to records p q ≡ true = and_from (is_some (update_of p.act)) (sees records q.label.number p.label.number) part.2 ((λ i. sees records (is_m i).number (is_l i).number) ∙ seen) in
          (p, part.1, or_left (is_visible_to records p q || is_earlier_at_replica p q) (is_query_half_of p q) (or_left (is_visible_to records p q) (is_earlier_at_replica p q) visible))
      | inr earlier ↦
          let part = some_part l in
          let p = part.0 in
          let is_l = part_is_of l p part.1 in
          let there_too : is_earlier_at_replica p q ≡ true = (λ i. (is_l i).replica == (is_m i).replica && nat_lt (is_l i).number (is_m i).number) ∙ earlier in
          (p, part.1, or_left (is_visible_to records p q || is_earlier_at_replica p q) (is_query_half_of p q) (or_right (is_visible_to records p q) (is_earlier_at_replica p q) there_too))
    ]
