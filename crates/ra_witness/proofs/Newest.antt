-- Lemmas on a label that fits: its update is the last one of its replica.
use Rattle.std.proofs.Common.{◌≡◌, ℕ, Bool, true, false, cond, List, [], ◌∷◌, ◌++◌, filter, Option, Some, None, refl, sym, ap, ◌∙◌}
use Rattle.std.specs.Prelude.{◌&&◌, ◌||◌, not, is_some, flat_map}
use Rattle.std.specs.List.{list_all, cons_option}
use Rattle.std.proofs.lemmas.Bool.{and_parts, eq-eqb, true≢false}
use Rattle.std.proofs.lemmas.List.{append-nil}
use Rattle.std.proofs.lemmas.Grind.{flat_map-append}
use Rattle.ra_labels.specs.declared.kind.Kind.{Kind}
use Rattle.ra_labels.specs.declared.operation.Update.{Update}
use Rattle.ra_labels.specs.declared.label.Label.{Label}
use Rattle.ra_labels.specs.Records.{Records, label_count}
use Rattle.ra_labels.specs.Visibility.{has_delivered, sees}
use Rattle.ra_labels.specs.Rewriting.{Part, Does, acts_of, parts_of, update_of, updates_of}
use Rattle.ra_labels.specs.Specification.{state_after}
use Rattle.ra_labels.specs.Linearization.{must_precede, extends, extends_visibility, is_earlier_at_replica, is_query_half_of}
use Rattle.ra_labels.specs.NamedOrder.{named_sequence}
use Rattle.ra_labels.specs.Insertion.{delivered_updates_of, delivered_updates, HasUpdate}
use Rattle.ra_labels.specs.Commuting.{then_step}
use Rattle.ra_labels.proofs.Parts.{extends-behind, is_before}
use Rattle.ra_labels.specs.HistorySoFar.{NextOperation, operate, label_of}
use Rattle.ra_theorems.proofs.TheoremIndex.{operation_extends_delivered-own, state_after_snoc}

first_fails : (a b c : Bool) → not (a || b || c) ≡ true → a ≡ false
first_fails false b c passes = refl
first_fails true b c passes = sym passes

no_update_more : (o : Option Update) (us : List Update) → is_some o && true ≡ false → us ≡ [] → cons_option o us ≡ []
no_update_more None us none empty = empty
no_update_more (Some u) us none empty = absurd (true≢false none)

dropped : (keeps : Bool) (p : Part) (rest : List Part) → is_some (update_of p.act) && keeps ≡ false → updates_of rest ≡ []
    → updates_of (cond keeps (p ∷ rest) rest) ≡ []
dropped false p rest none empty = empty
dropped true p rest none empty = no_update_more (update_of p.act) (updates_of rest) none empty

module _ (records : Records) (next : NextOperation) where
  abbrev now : Records
  now = operate next ∷ records

  abbrev label : Label
  label = label_of records next

  -- the new label sees what was delivered to its replica
  sees_new : (m : ℕ) → sees now (label_count records) m ≡ has_delivered records next.by m
  sees_new m = ap (λ b. cond b (has_delivered records next.by m) (sees records (label_count records) m)) (eq-eqb (label_count records) (label_count records) refl)

  -- the parts that need not precede a part of the new label have no update that was delivered to its replica
  none_had : (q : Part) → q.label ≡ label → (behind : List Part) → list_all (λ p. not (must_precede now p q)) behind ≡ true
      → updates_of (filter (λ (p : Part). has_delivered records next.by p.label.number) behind) ≡ []
  none_had q is [] pass = refl
  none_had q is (p ∷ behind) pass =
      let parts = and_parts (not (must_precede now p q)) (list_all (λ r. not (must_precede now r q)) behind) pass in
      let unseen = first_fails (is_some (update_of p.act) && sees now q.label.number p.label.number) (is_earlier_at_replica p q) (is_query_half_of p q) parts.0 in
      let sees_it : sees now q.label.number p.label.number ≡ has_delivered records next.by p.label.number =
      ap (λ (l : Label). sees now l.number p.label.number) is ∙ sees_new p.label.number in
      dropped (has_delivered records next.by p.label.number) p (filter (λ (r : Part). has_delivered records next.by r.label.number) behind)
      (sym (ap (λ b. is_some (update_of p.act) && b) sees_it) ∙ unseen) (none_had q is behind parts.1)

parts_round : (before behind : List Label) (label : Label) → flat_map parts_of (before ++ label ∷ behind) ≡ flat_map parts_of before ++ (parts_of label ++ flat_map parts_of behind)
parts_round before behind label = flat_map-append parts_of before (label ∷ behind)

-- if a new label fits, its update is the last of those delivered to its replica
pub own-last : (kind : Kind) (records : Records) (next : NextOperation) (update : Update) → HasUpdate next.op update
    → let now = operate next ∷ records in extends_visibility now (named_sequence kind now) ≡ true
    → delivered_updates kind now next.by ≡ delivered_updates kind records next.by ++ update ∷ []
own-last kind records next update makes extended =
    let now = operate next ∷ records in
    let label = label_of records next in
    let (before, behind, was, is, had_was, had_is) = operation_extends_delivered-own kind records next update makes in
    let round : named_sequence kind now ≡ flat_map parts_of before ++ (parts_of label ++ flat_map parts_of behind) =
    ap (flat_map parts_of) is ∙ parts_round before behind label in
    let all : extends (must_precede now) (flat_map parts_of before ++ (parts_of label ++ flat_map parts_of behind)) ≡ true =
    sym (ap (extends (must_precede now)) round) ∙ extended in
    let from_it = extends-behind (must_precede now) (flat_map parts_of before) (parts_of label ++ flat_map parts_of behind) all in
    let (q, is_own, free) = is_before (must_precede now) label (acts_of next.op) (makes.0, Does update) (flat_map parts_of behind) makes.1 from_it in
    let none : delivered_updates_of records next.by behind ≡ [] = none_had records next q is_own (flat_map parts_of behind) free in
    let first = delivered_updates_of records next.by before in
    had_is
    ∙ ap (λ us. first ++ update ∷ us) none
    ∙ ap (λ us. us ++ update ∷ []) (sym (had_was ∙ ap (λ us. first ++ us) none ∙ append-nil first))

-- so it is one step
pub own-step : (kind : Kind) (records : Records) (next : NextOperation) (update : Update) → HasUpdate next.op update
    → let now = operate next ∷ records in extends_visibility now (named_sequence kind now) ≡ true
    → state_after kind (delivered_updates kind now next.by) ≡ then_step (state_after kind (delivered_updates kind records next.by)) update
own-step kind records next update makes extended =
    ap (state_after kind) (own-last kind records next update makes extended)
    ∙ state_after_snoc kind (delivered_updates kind records next.by) update
