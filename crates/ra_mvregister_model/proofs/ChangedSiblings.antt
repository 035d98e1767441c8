-- Lemmas on what each command changes of the siblings at a replica.
use Rattle.std.proofs.Common.{◌≡◌, ℕ, ◌<◌, true, false, eqb, [], ◌∷◌, Option, refl, sym, ap, ◌∙◌, subst, inl, inr, arith}
use Rattle.std.specs.Prelude.{◌↔◌, ◌⊎◌, ◌==◌, ◌&&◌, ◌||◌, Contains}
use Rattle.std.proofs.lemmas.Bool.{false≢true, cases_Bool, eqb-true, eq-eqb, ne_eqb, cond-true, or_cases, or_left, or_right, and_parts, and_from, false_from_ne_true}
use Rattle.ra_labels.specs.declared.operation.Op.{Op}
use Rattle.ra_labels.specs.declared.command.Command.{Command}
use Rattle.ra_labels.specs.declared.command.Command.TheVariants.{Operate, Deliver, Join}
use Rattle.ra_labels.specs.Records.{Records, label_count}
use Rattle.ra_labels.specs.Visibility.{is_update, is_update_at, has_delivered, sees, IsCausal}
use Rattle.ra_labels.specs.Siblings.{siblings_at, replaced_by}
use Rattle.ra_labels.specs.TheoremTerms.{IsCausalDelivery}
use Rattle.ra_labels.proofs.Members.{head_or_behind, at_head, none_there}
use Rattle.ra_theorems.proofs.TheoremIndex.{sees_persists, sees_earlier_updates-earlier, causal_delivery_transitive-delivered}
use Rattle.ra_mvregister_model.specs.Unseen.{IsUnseenAmong}
use Rattle.ra_labels.proofs.Ranges.{same_rising}
use Rattle.ra_mvregister_model.proofs.UnseenLabels.{delivered_below, siblings_exactly, siblings_rise, unseen_later, replaced_exactly}

-- a command leaves the siblings of a replica as those of another one if it has what was delivered there
pub same_siblings : (command : Command) (before : Records) (replica source : ℕ)
    → ((n : ℕ) → has_delivered (command ∷ before) replica n ≡ has_delivered before source n)
    → siblings_at (command ∷ before) replica ≡ siblings_at before source
same_siblings command before replica source same =
    let now : Records = command ∷ before in
    same_rising (siblings_at now replica) (siblings_at before source) (siblings_rise now replica)
    (siblings_rise before source) (λ m.
    let later = unseen_later command before (has_delivered before source) (has_delivered now replica) m same
    (λ n had_it. delivered_below before source n had_it) in (
      (λ there. (siblings_exactly before source m).1 (later.0 ((siblings_exactly now replica m).0 there))),
      (λ there. (siblings_exactly now replica m).1 (later.1 ((siblings_exactly before source m).0 there))),
    ))

-- a write is its replica's only sibling
written-alone : (before : Records) (by : ℕ) (op : Op) (clock : Option ℕ) (m : ℕ) → is_update op ≡ true
    → Contains (siblings_at (Operate by op clock ∷ before) by) m ↔ Contains (label_count before ∷ []) m
written-alone before by op clock m update =
    let now : Records = Operate by op clock ∷ before in
    let new = label_count before in
    let had_new : has_delivered now by new ≡ true =
    or_left (by == by && new == new && is_update op) (has_delivered before by new)
    (and_from (by == by && new == new) (is_update op)
    (and_from (by == by) (new == new) (eq-eqb by by refl) (eq-eqb new new refl)) update) in (
      (λ there.
          let known = (siblings_exactly now by m).0 there in
          elim (or_cases (by == by && m == new && is_update op) (has_delivered before by m) known.0) [
            | inl own ↦
                let parts = and_parts (by == by && m == new) (is_update op) own in
                at_head new [] m (sym (eqb-true m new (and_parts (by == by) (m == new) parts.0).1))
            | inr older ↦
                let seen : sees now new m ≡ true =
                cond-true (eqb new new) (has_delivered before by m) (sees before new m) (eq-eqb new new refl) ∙ older in
                absurd (false≢true (sym (known.1 new had_new) ∙ seen))
          ]),
      (λ there. elim (head_or_behind new [] m there) [
        | inl here ↦ subst (λ k. Contains (siblings_at now by) k) here ((siblings_exactly now by new).1 (
          had_new,
          λ n had_it. false_from_ne_true (sees now n new) (λ seen.
              let earlier = sees_earlier_updates-earlier now n new seen in
              let below = delivered_below now by n had_it in
              absurd (omega arith)),
        ))
        | inr none ↦ absurd (none_there m none)
      ]),
    )

pub after_write-own : (before : Records) (by : ℕ) (op : Op) (clock : Option ℕ) → is_update op ≡ true
    → siblings_at (Operate by op clock ∷ before) by ≡ label_count before ∷ []
after_write-own before by op clock update =
    let now : Records = Operate by op clock ∷ before in
    same_rising (siblings_at now by) (label_count before ∷ []) (siblings_rise now by) refl
    (λ m. written-alone before by op clock m update)

pub after_write-others : (before : Records) (by replica : ℕ) (op : Op) (clock : Option ℕ) → ¬ (by ≡ replica)
    → siblings_at (Operate by op clock ∷ before) replica ≡ siblings_at before replica
after_write-others before by replica op clock other =
    same_siblings (Operate by op clock) before replica replica
    (λ n. ap (λ b. b && n == label_count before && is_update op || has_delivered before replica n)
    (ne_eqb by replica other))

pub after_read : (before : Records) (by replica : ℕ) (op : Op) (clock : Option ℕ) → is_update op ≡ false
    → siblings_at (Operate by op clock ∷ before) replica ≡ siblings_at before replica
after_read before by replica op clock read =
    same_siblings (Operate by op clock) before replica replica (λ n. none_new n)
  where
    and_no : (a b : _) → b ≡ false → (a && b) ≡ false
    and_no true b fails = fails
    and_no false b fails = refl

    none_new : (n : ℕ) → has_delivered (Operate by op clock ∷ before) replica n ≡ has_delivered before replica n
    none_new n = ap (λ b. b || has_delivered before replica n)
        (and_no (by == replica && n == label_count before) (is_update op) read)

pub after_delivery-others : (before : Records) (to n replica : ℕ) → ¬ (to ≡ replica)
    → siblings_at (Deliver to n ∷ before) replica ≡ siblings_at before replica
after_delivery-others before to n replica other =
    same_siblings (Deliver to n) before replica replica
    (λ m. ap (λ b. b && m == n && is_update_at before m || has_delivered before replica m) (ne_eqb to replica other))

pub after_join-others : (before : Records) (joined from replica : ℕ) → ¬ (joined ≡ replica)
    → siblings_at (Join joined from ∷ before) replica ≡ siblings_at before replica
after_join-others before joined from replica other =
    same_siblings (Join joined from) before replica replica
    (λ m. ap (λ b. b && has_delivered before from m || has_delivered before replica m) (ne_eqb joined replica other))

pub after_join-joined : (before : Records) (joined from : ℕ) → ((n : ℕ) → has_delivered before joined n ≡ false)
    → siblings_at (Join joined from ∷ before) joined ≡ siblings_at before from
after_join-joined before joined from nothing =
    same_siblings (Join joined from) before joined from (λ m.
    ap (λ b. b && has_delivered before from m || has_delivered before joined m) (eq-eqb joined joined refl)
    ∙ ap (λ b. has_delivered before from m || b) (nothing m) ∙ or_no (has_delivered before from m))
  where
    or_no : (b : _) → (b || false) ≡ b
    or_no true = refl
    or_no false = refl

module _ (before : Records) (to n : ℕ) (causal : IsCausal before) (update : is_update_at before n ≡ true)
    (delivery : IsCausalDelivery before to n) where
  abbrev now : Records
  now = Deliver to n ∷ before

  had-new : has_delivered now to n ≡ true
  had-new = or_left (to == to && n == n && is_update_at before n) (has_delivered before to n)
      (and_from (to == to && n == n) (is_update_at before n)
      (and_from (to == to) (n == n) (eq-eqb to to refl) (eq-eqb n n refl)) update)

  had-older : (m : ℕ) → has_delivered before to m ≡ true → has_delivered now to m ≡ true
  had-older m had_it = or_right (to == to && m == n && is_update_at before m) (has_delivered before to m) had_it

  had-cases : (m : ℕ) → has_delivered now to m ≡ true → (n ≡ m) ⊎ (has_delivered before to m ≡ true)
  had-cases m had_it = elim (or_cases (to == to && m == n && is_update_at before m) (has_delivered before to m) had_it) [
    | inl got ↦
        let parts = and_parts (to == to && m == n) (is_update_at before m) got in
        inl (sym (eqb-true m n (and_parts (to == to) (m == n) parts.0).1))
    | inr older ↦ inr older
  ]

  -- what the label sees and does not replace is replaced by another label that it sees
  not_seen : (m : ℕ) → IsUnseenAmong before (has_delivered before to) m → ¬ Contains (replaced_by before n) m
      → sees before n m ≡ false
  not_seen m known kept = false_from_ne_true (sees before n m) (λ seen.
      kept ((replaced_exactly before n m).1 (seen, λ k by_it. known.1 k (delivery.1 k by_it))))

  pub after_delivery-receiver : (m : ℕ) → Contains (siblings_at (Deliver to n ∷ before) to) m
      ↔ ((n ≡ m) ⊎ (Contains (siblings_at before to) m × (¬ Contains (replaced_by before n) m)))
  after_delivery-receiver m = (
    (λ there.
        let known = (siblings_exactly now to m).0 there in
        elim (had-cases m known.0) [
          | inl new ↦ inl new
          | inr older ↦ inr (
            (siblings_exactly before to m).1 (older, λ k had_it. known.1 k (had-older k had_it)),
            λ replaced. false≢true (sym (known.1 n had-new) ∙ ((replaced_exactly before n m).0 replaced).0),
          )
        ]),
    (λ either. (siblings_exactly now to m).1 (elim either [
      | inl new ↦ (
        subst (λ k. has_delivered now to k ≡ true) new had-new,
        λ k had_it. false_from_ne_true (sees before k m) (λ seen. sees_new k had_it (subst (λ l. sees before k l ≡ true) (sym new) seen)),
      )
      | inr kept ↦
          let known = (siblings_exactly before to m).0 kept.0 in (
            had-older m known.0,
            λ k had_it. elim (had-cases k had_it) [
              | inl here ↦ subst (λ l. sees before l m ≡ false) here (not_seen m known kept.1)
              | inr older ↦ known.1 k older
            ],
          )
    ])),
  )
    where
      -- none of what was delivered sees the new label
      sees_new : (k : ℕ) → has_delivered now to k ≡ true → ¬ (sees before k n ≡ true)
      sees_new k had_it seen = elim (had-cases k had_it) [
        | inl here ↦
            let earlier = sees_earlier_updates-earlier before k n seen in
            absurd (omega (arith, here, earlier))
        | inr older ↦
            false≢true (sym delivery.0 ∙ causal_delivery_transitive-delivered before causal to k n older seen)
      ]
