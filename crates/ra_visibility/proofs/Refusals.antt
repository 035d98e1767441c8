-- Lemmas on refused deliveries: the tracker's refusal is the specified one, and a delivery that is not refused keeps
-- the records causal.
use Rattle.std.proofs.Common.{◌≡◌, ℕ, zero, suc, ◌+◌, ◌<◌, Bool, true, false, [], ◌∷◌, Option, Some, None, refl, sym, ap, ◌∙◌, arith}
use Rattle.std.specs.Prelude.{◌&&◌, not, nat_lt, option_map, cond}
use Rattle.std.specs.List.{find, range_with_len}
use Rattle.std.proofs.lemmas.Bool.{ltb-true}
use Rattle.ra_labels.specs.declared.command.Command.TheVariants.{Deliver}
use Rattle.ra_labels.specs.declared.refusal.Refusal.{Refusal}
use Rattle.ra_labels.specs.declared.refusal.Refusal.TheVariants.{UnknownLabel, NotAnUpdate, AlreadySeen, NotCausal}
use Rattle.ra_labels.specs.Records.{label_count}
use Rattle.ra_labels.specs.Visibility.{sees, is_update_at, IsCausal, lacks, first_missing}
use Rattle.ra_labels.specs.Answer.{when, first_of, delivery_refusal_at}
use Rattle.ra_labels.specs.HistorySoFar.{History}
use Rattle.ra_visibility.specs.Tracked.{Tracked, IsVisibilityOf, replicas_in, labels_in, row_at, is_update_in, has_delivered_in, sees_in, seen_count, is_missing, first_missing_in, refusal_in}
use Rattle.ra_visibility.proofs.Tests.{update_there}
use Rattle.ra_visibility.proofs.MissingLabels.{none_of, none_parts}

find_same : (p q : ℕ → Bool) (a n : ℕ) → ((m : ℕ) → p m ≡ q m) → find p (range_with_len a n) ≡ find q (range_with_len a n)
find_same p q a zero same = refl
find_same p q a (suc n) same =
    ap (λ b. cond b (Some a) (find p (range_with_len (a + 1) n))) (same a)
    ∙ ap (cond (q a) (Some a)) (find_same p q (a + 1) n same)

-- the refusals are equal if the last one is equal for known labels
refusals_same : (there update has : Bool) (missing lacking : Option ℕ) → (there ≡ true → missing ≡ lacking)
    → first_of (when (not there) UnknownLabel ∷ when (not update) NotAnUpdate ∷ when has AlreadySeen ∷ option_map NotCausal missing ∷ [])
    ≡ first_of (when (not there) UnknownLabel ∷ when (not update) NotAnUpdate ∷ when has AlreadySeen ∷ option_map NotCausal lacking ∷ [])
refusals_same false update has missing lacking same = refl
refusals_same true false has missing lacking same = refl
refusals_same true true true missing lacking same = refl
refusals_same true true false missing lacking same = ap (λ m. first_of (option_map NotCausal m ∷ [])) (same refl)

pub refusal_same : (t : Tracked) (past : History) (to label : ℕ) → IsVisibilityOf t past → to < replicas_in t
    → refusal_in t to label ≡ delivery_refusal_at past.records to label
refusal_same t past to label stands known =
    let chain : Bool → Bool → Bool → Option ℕ → Option Refusal = λ there update has missing.
    first_of (when (not there) UnknownLabel ∷ when (not update) NotAnUpdate ∷ when has AlreadySeen ∷ option_map NotCausal missing ∷ []) in
    let missing : nat_lt label (labels_in t) ≡ true → first_missing_in t to label ≡ first_missing past.records to label = λ there.
    find_same (is_missing t to label) (lacks past.records to label) 0 (labels_in t) (λ m.
    ap (λ b. b && not (has_delivered_in t to m)) (stands.sees label m (ltb-true label (labels_in t) there))
    ∙ ap (λ b. sees past.records label m && not b) (stands.had to m known))
    ∙ ap (λ n. find (lacks past.records to label) (range_with_len 0 n)) stands.labels in
    refusals_same (nat_lt label (labels_in t)) (is_update_in t label) (has_delivered_in t to label) (first_missing_in t to label) (first_missing past.records to label) missing
    ∙ ap (λ n. chain (nat_lt label n) (is_update_in t label) (has_delivered_in t to label) (first_missing past.records to label)) stands.labels
    ∙ ap (λ b. chain (nat_lt label (label_count past.records)) b (has_delivered_in t to label) (first_missing past.records to label)) (stands.updates label)
    ∙ ap (λ b. chain (nat_lt label (label_count past.records)) (is_update_at past.records label) b (first_missing past.records to label)) (stands.had to label known)

seen_is_update : (u b : Bool) → (u && b) ≡ true → u ≡ true
seen_is_update true b is = refl
seen_is_update false b is = absurd (cc is)

not_missing : (s h : Bool) → (s && not h) ≡ false → s ≡ true → h ≡ true
not_missing s true none is = refl
not_missing true false none is = absurd (cc none)
not_missing false false none is = absurd (cc is)

-- the records stay causal
pub delivery_causal : (t : Tracked) (past : History) (to label : ℕ) → IsVisibilityOf t past → to < replicas_in t → refusal_in t to label ≡ None
    → IsCausal past.records → IsCausal (Deliver to label ∷ past.records)
delivery_causal t past to label stands known none causal =
    let parts = none_parts (nat_lt label (labels_in t)) (is_update_in t label) (has_delivered_in t to label) (first_missing_in t to label) none in
    let there : label < labels_in t = ltb-true label (labels_in t) parts.0 in (
      sym (stands.had to label known) ∙ parts.2,
      (λ m seen.
          let is : sees_in t label m ≡ true = stands.sees label m there ∙ seen in
          let inside : m < labels_in t = update_there t m (seen_is_update (row_at t m).is_update (nat_lt (row_at t m).place (seen_count t label (row_at t m).replica)) is) in
          let fine : is_missing t to label m ≡ false = none_of (is_missing t to label) 0 (labels_in t) m parts.3 (omega arith) (omega (arith, inside)) in
          sym (stands.had to m known) ∙ not_missing (sees_in t label m) (has_delivered_in t to m) fine is),
      causal,
    )
