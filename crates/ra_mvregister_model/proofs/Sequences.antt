-- Lemmas on the siblings after writes in any sequence that extends visibility.
use Rattle.std.proofs.Common.{◌≡◌, ℕ, zero, suc, ◌+◌, ◌<◌, Bool, true, false, List, [], ◌∷◌, filter, refl, sym, ap, ◌∙◌, subst, inl, inr, arith}
use Rattle.std.specs.Prelude.{◌↔◌, ◌⊎◌, ◌&&◌, not, fold, Contains}
use Rattle.std.specs.List.{list_all, list_any, range_with_len}
use Rattle.std.proofs.lemmas.Bool.{false≢true, cases_Bool, cond_both, and_parts, and_from, not-true, not_from_false, false_from_ne_true}
use Rattle.std.proofs.lemmas.List.Sorted.{Contains-permutation, IsPermutation-refl}
use Rattle.ra_labels.specs.Lists.{is_among}
use Rattle.ra_labels.specs.Records.{Records, label_count}
use Rattle.ra_labels.specs.Visibility.{sees, IsCausal}
use Rattle.ra_labels.specs.Linearization.{extends}
use Rattle.ra_labels.specs.Siblings.{replaced_by}
use Rattle.ra_labels.proofs.InLists.{among-exactly, list_all-contains, list_all-from_contains}
use Rattle.ra_labels.proofs.Members.{head_or_behind, at_head, behind_head, kept-there, there-kept, what_passes, none_there}
use Rattle.ra_labels.proofs.Ranges.{in_range, range_within, any_passes}
use Rattle.ra_theorems.proofs.TheoremIndex.{sees_earlier_updates-earlier, causal_delivery_transitive-sees}
use Rattle.ra_mvregister_model.specs.Unseen.{IsUnseenAmong}
use Rattle.ra_mvregister_model.specs.Replacing.{replace, siblings_after, seen_in, IsSequenceOf}
use Rattle.ra_mvregister_model.proofs.UnseenLabels.{seen_below, replaced_exactly}

module _ (records : Records) where
  -- holds if none of the writes replaces label m
  abbrev NoneReplaces : List ℕ → ℕ → Type 0
  NoneReplaces writes m = (k : ℕ) → Contains writes k → ¬ Contains (replaced_by records k) m

  -- holds if label m is one of the writes and none behind it replaces it
  abbrev Survives : List ℕ → ℕ → Type 0
  Survives [] m = ⊥
  Survives (k ∷ writes) m = ((k ≡ m) × NoneReplaces writes m) ⊎ Survives writes m

  survivor_there : (writes : List ℕ) (m : ℕ) → Survives writes m → Contains writes m
  survivor_there [] m none = absurd none
  survivor_there (k ∷ writes) m (inl here) = at_head k writes m here.0
  survivor_there (k ∷ writes) m (inr further) = behind_head k writes m (survivor_there writes m further)

  replaced_once : (siblings : List ℕ) (n m : ℕ) → Contains (replace records siblings n) m
      ↔ ((n ≡ m) ⊎ (Contains siblings m × (¬ Contains (replaced_by records n) m)))
  replaced_once siblings n m =
      let others = replaced_by records n in
      let test = λ (k : ℕ). not (is_among k others) in (
        (λ there. elim (head_or_behind n (filter test siblings) m there) [
          | inl here ↦ inl here
          | inr further ↦
              let known = there-kept test siblings m further in
              inr (known.0, λ other. false≢true (sym (not-true (is_among m others) known.1) ∙ (among-exactly m others).1 other))
        ]),
        (λ either. elim either [
          | inl here ↦ at_head n (filter test siblings) m here
          | inr left ↦ behind_head n (filter test siblings) m (kept-there test siblings m left.0
              (not_from_false (is_among m others) (false_from_ne_true (is_among m others)
              (λ among. left.1 ((among-exactly m others).0 among)))))
        ]),
      )

  none_behind : (k : ℕ) (writes : List ℕ) (m : ℕ) → NoneReplaces (k ∷ writes) m → NoneReplaces writes m
  none_behind k writes m none j there = none j (behind_head k writes j there)

  none_with : (k : ℕ) (writes : List ℕ) (m : ℕ) → ¬ Contains (replaced_by records k) m → NoneReplaces writes m
      → NoneReplaces (k ∷ writes) m
  none_with k writes m first rest j there = elim (head_or_behind k writes j there) [
    | inl here ↦ subst (λ l. ¬ Contains (replaced_by records l) m) here first
    | inr further ↦ rest j further
  ]

  -- the siblings after writes are those that were there before or are written, and that no later write replaces
  after_exactly : (siblings writes : List ℕ) (m : ℕ) → Contains (fold (replace records) siblings writes) m
      ↔ ((Contains siblings m × NoneReplaces writes m) ⊎ Survives writes m)
  after_exactly siblings [] m = (
    (λ there. inl (there, λ k none. absurd (none_there k none))),
    (λ either. elim either [ inl there ↦ there.0 | inr none ↦ absurd none ]),
  )
  after_exactly siblings (k ∷ writes) m =
      let rest = after_exactly (replace records siblings k) writes m in
      let first = replaced_once siblings k m in (
        (λ there. elim (rest.0 there) [
          | inl kept ↦ elim (first.0 kept.0) [
            | inl here ↦ inr (inl (here, kept.1))
            | inr old ↦ inl (old.0, none_with k writes m old.1 kept.1)
          ]
          | inr later ↦ inr (inr later)
        ]),
        (λ either. rest.1 (elim either [
          | inl old ↦ inl (first.1 (inr (old.0, old.1 k (at_head k writes k refl))), none_behind k writes m old.1)
          | inr survives ↦ elim survives [
            | inl here ↦ inl (first.1 (inl here.0), here.1)
            | inr later ↦ inr later
          ]
        ])),
      )

  -- of what a label sees and replaces in turn: some label that it sees replaces m, if one that it sees sees m
  replacer : IsCausal records → (bound n k m : ℕ) → k < bound → sees records n k ≡ true → sees records k m ≡ true
      → (j : ℕ) × (sees records n j ≡ true) × Contains (replaced_by records j) m
  replacer causal zero n k m below by_n by_k = absurd (omega (arith, below))
  replacer causal (suc bound) n k m below by_n by_k =
      let test = λ (j : ℕ). sees records k j && sees records j m in
      let labels = range_with_len 0 (label_count records) in
      elim (cases_Bool (list_any test labels)) [
        | inl some ↦
            let (j, there, passes) = what_passes test labels some in
            let parts = and_parts (sees records k j) (sees records j m) passes in
            let earlier = sees_earlier_updates-earlier records k j parts.0 in
            replacer causal bound n j m (omega (arith, earlier, below))
            (causal_delivery_transitive-sees records causal n k j by_n parts.0) parts.1
        | inr none ↦ (
          k,
          by_n,
          (replaced_exactly records k m).1 (
            by_k,
            λ j seen. false_from_ne_true (sees records j m) (λ also.
                false≢true (sym none ∙ any_passes test labels j
                (in_range 0 (label_count records) j (omega arith) (omega (arith, seen_below records k j seen)))
                (and_from (sees records k j) (sees records j m) seen also))),
          ),
        )
      ]

  -- in a sequence that extends visibility, none of the writes replaces one that survives
  survivor_unreplaced : (writes : List ℕ) (m : ℕ) → extends (λ j k. sees records k j) writes ≡ true → Survives writes m
      → NoneReplaces writes m
  survivor_unreplaced [] m extended none k there replaced = absurd none
  survivor_unreplaced (h ∷ writes) m extended survives k there replaced =
      let seen = ((replaced_exactly records k m).0 replaced).0 in
      let parts = and_parts (list_all (λ q. not (sees records h q)) writes) (extends (λ j l. sees records l j) writes) extended in
      elim survives [
        | inl here ↦ elim (head_or_behind h writes k there) [
          | inl itself ↦
              let earlier = sees_earlier_updates-earlier records k m seen in
              omega (arith, earlier, itself, here.0)
          | inr further ↦ here.1 k further replaced
        ]
        | inr later ↦ elim (head_or_behind h writes k there) [
          | inl itself ↦
              let unseen = list_all-contains (λ q. not (sees records h q)) writes m parts.0 (survivor_there writes m later) in
              false≢true (sym (not-true (sees records h m) unseen) ∙ subst (λ l. sees records l m ≡ true) (sym itself) seen)
          | inr further ↦ survivor_unreplaced writes m parts.1 later k further replaced
        ]
      ]

  -- a write that none replaces survives
  unreplaced_survives : (writes : List ℕ) (m : ℕ) → Contains writes m → NoneReplaces writes m → Survives writes m
  unreplaced_survives [] m there none = absurd (none_there m there)
  unreplaced_survives (k ∷ writes) m there none = elim (head_or_behind k writes m there) [
    | inl here ↦ inl (here, none_behind k writes m none)
    | inr further ↦ inr (unreplaced_survives writes m further (none_behind k writes m none))
  ]

-- some of a list extend an order that the list extends
extends_kept : {A : Type 0} (precedes : A → A → Bool) (p : A → Bool) (xs : List A) → extends precedes xs ≡ true
    → extends precedes (filter p xs) ≡ true
extends_kept precedes p [] extended = refl
extends_kept precedes p (x ∷ xs) extended =
    let apart = λ (q : _). not (precedes q x) in
    let parts = and_parts (list_all apart xs) (extends precedes xs) extended in
    let rest = extends_kept precedes p xs parts.1 in
    cond_both (p x) (x ∷ filter p xs) (filter p xs) (λ ys. extends precedes ys ≡ true)
    (λ passes. and_from (list_all apart (filter p xs)) (extends precedes (filter p xs))
    (list_all-from_contains apart (filter p xs)
    (λ q there. list_all-contains apart xs q parts.0 (there-kept p xs q there).0))
    rest)
    (λ fails. rest)

-- the labels by number extend visibility
range_extends : (records : Records) (a n : ℕ) → extends (λ j k. sees records k j) (range_with_len a n) ≡ true
range_extends records a zero = refl
range_extends records a (suc n) =
    let rest = range_with_len (a + 1) n in
    and_from (list_all (λ q. not (sees records a q)) rest) (extends (λ j k. sees records k j) rest)
    (list_all-from_contains (λ q. not (sees records a q)) rest (λ q there.
    not_from_false (sees records a q) (false_from_ne_true (sees records a q) (λ seen.
    let earlier = sees_earlier_updates-earlier records a q seen in
    let within = range_within (a + 1) n q there in
    absurd (omega (arith, earlier, within.0))))))
    (range_extends records (a + 1) n)

pub by_number : (records : Records) → IsSequenceOf records (range_with_len 0 (label_count records))
by_number records = record {
  each_once = IsPermutation-refl (range_with_len 0 (label_count records));
  visibility = range_extends records 0 (label_count records);
}

-- after the writes that a label sees, in any such sequence, the siblings are those that it replaces
pub any_sequence : (records : Records) (sequence : List ℕ) (n m : ℕ) → IsCausal records → IsSequenceOf records sequence
    → Contains (siblings_after records (seen_in records sequence n)) m ↔ Contains (replaced_by records n) m
any_sequence records sequence n m causal is =
    let seen = seen_in records sequence n in
    let after = after_exactly records [] seen m in
    let extended = extends_kept (λ j k. sees records k j) (sees records n) sequence is.visibility in
    let there : (k : ℕ) → sees records n k ≡ true → Contains seen k = λ k by_n. kept-there (sees records n) sequence k
    (Contains-permutation (range_with_len 0 (label_count records)) sequence k is.each_once
    (in_range 0 (label_count records) k (omega arith) (omega (arith, seen_below records n k by_n)))) by_n in (
      (λ found. elim (after.0 found) [
        | inl none ↦ absurd (none_there m none.0)
        | inr survives ↦ (replaced_exactly records n m).1 (
          (there-kept (sees records n) sequence m (survivor_there records seen m survives)).1,
          λ k by_n. false_from_ne_true (sees records k m) (λ by_k.
              let (j, j_by_n, replaced) = replacer records causal (suc k) n k m (omega arith) by_n by_k in
              survivor_unreplaced records seen m extended survives j (there j j_by_n) replaced),
        )
      ]),
      (λ replaced.
          let known = (replaced_exactly records n m).0 replaced in
          after.1 (inr (unreplaced_survives records seen m (there m known.0) (λ k in_seen by_k.
          let by_n = (there-kept (sees records n) sequence k in_seen).1 in
          false≢true (sym (known.1 k by_n) ∙ ((replaced_exactly records k m).0 by_k).0))))),
    )
