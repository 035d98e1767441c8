-- Lemmas on removing some of the last deliveries to a replica: nothing changes for the other replicas.
use Rattle.std.proofs.Common.{◌≡◌, ℕ, ◌+◌, Bool, true, false, cond, List, [], ◌∷◌, ◌++◌, Option, Some, None, refl, sym, ap, subst, ◌∙◌, inl, inr}
use Rattle.std.specs.Prelude.{◌==◌, ◌&&◌, ◌||◌, not, filter, flat_map, is_some, unwrap_or, option_map, if◌then◌else◌}
use Rattle.std.specs.Option.{option_map_or, option_or}
use Rattle.std.specs.List.{list_all}
use Rattle.std.specs.Ordering.{nat_cmp, ordering_then}
use Rattle.std.proofs.lemmas.Bool.{true≢false, cases_Bool, ne_eqb, eqb-true, eqb-false, eq-eqb, and_parts, or_parts}
use mathlib.Core.Path.{fun_ext}
use Rattle.ra_labels.specs.declared.kind.Kind.{Kind}
use Rattle.ra_labels.specs.declared.kind.Kind.TheVariants.{Counter, OrSet}
use Rattle.ra_labels.specs.declared.kind.Kind.TheVariants as kinds
use Rattle.ra_labels.specs.declared.edge.Edge.{Edge}
use Rattle.ra_labels.specs.Listing.{list_order_of}
use Rattle.ra_labels.specs.ListHistory.{inserted_by, inserted_elements, edges_required_by, required_edges}
use Rattle.ra_labels.specs.Explained.{is_explained, unexplained_cause, value_read, value_written, values_listed}
use Rattle.ra_any_model.proofs.TheoremIndex.{visibility_decides_agreement}
use Rattle.ra_mvregister_model.proofs.TheoremIndex.{visibility_decides_reads}
use Rattle.ra_labels.specs.declared.operation.Op.{Op}
use Rattle.ra_labels.specs.declared.label.Label.{Label}
use Rattle.ra_labels.specs.declared.command.Command.{Command}
use Rattle.ra_labels.specs.declared.command.Command.TheVariants.{Operate, Deliver, Join, Verdict}
use Rattle.ra_labels.specs.declared.reply.Cause.{Cause}
use Rattle.ra_labels.specs.declared.reply.Cause.TheVariants.{Order, Update, Query}
use Rattle.ra_labels.specs.Lists.{is_among}
use Rattle.ra_labels.specs.Records.{Records, label_count, labels_of, stamp_at}
use Rattle.ra_labels.specs.Visibility.{is_update_at, has_delivered, sees, IsCausal}
use Rattle.ra_labels.specs.Specification.{is_answered_after}
use Rattle.ra_labels.specs.Rewriting.{Part, parts_of, update_of, query_of, updates_of}
use Rattle.ra_labels.specs.Linearization.{is_earlier_at_replica, is_query_half_of, extends, updates_admitted}
use Rattle.ra_labels.specs.NamedOrder.{stamp_cmp, greatest_stamp, rank_of, label_cmp, sort_by, named_labels, named_sequence}
use Rattle.ra_labels.specs.Fault.{sequence_cause, cause_of, fault_at, fault_of}
use Rattle.ra_explain.specs.Changes.{cuts_off}
use Rattle.ra_explain.specs.LastDeliveries.{is_taken_back, without, labels_got_last}

-- induction on records: a property of the empty records that each further command preserves, whether everything from it
-- on is kept, it is removed, or it alone is kept
of_what_is_left : (by : ℕ) (left : ℕ → Bool) (P : Records → Records → Type 0) → P [] []
    → ((command : Command) (before : Records) → cuts_off by command ≡ true → P (command ∷ before) (command ∷ before))
    → ((n : ℕ) (older before : Records) → left n ≡ true → P older before → P older (Deliver by n ∷ before))
    → ((command : Command) (older before : Records) → cuts_off by command ≡ false
    → is_taken_back by left command ≡ false → P older before → P (command ∷ older) (command ∷ before))
    → (records : Records) → P (without by left records) records
of_what_is_left by left P none cut taken kept [] = none
of_what_is_left by left P none cut taken kept (command ∷ before) =
    let behind = of_what_is_left by left P none cut taken kept before in
    elim (cases_Bool (cuts_off by command)) [
      | inl is ↦ rw is (cut command before is)
      | inr goes_on ↦ elim (cases_Bool (is_taken_back by left command)) [
        | inl is ↦ rw (goes_on, is) (without_it behind command is)
        | inr stays ↦ rw (goes_on, stays) (kept command (without by left before) before goes_on stays behind)
      ]
    ]
  where
    without_it : P (without by left before) before → (command : Command) → is_taken_back by left command ≡ true
        → P (without by left before) (command ∷ before)
    without_it behind (Deliver to n) is =
        let parts = and_parts (to == by) (left n) is in
        subst (λ (r : ℕ). P (without by left before) (Deliver r n ∷ before)) (sym (eqb-true to by parts.0))
        (taken n (without by left before) before parts.1 behind)
    without_it behind _ is = absurd (cc is)

-- ---- the same labels with the same visibility have the same order and the same fault

-- the labels, and which of them sees which
record Sight : Type 0 where
  count : ℕ
  labels : List Label
  sees : ℕ → ℕ → Bool

abbrev sight_of : Records → Sight
sight_of records = record { count = label_count records; labels = labels_of records; sees = λ n m. sees records n m }

-- with one more operation, at a replica to which these labels were delivered
abbrev with_operation : ℕ → Op → Option ℕ → Sight → (ℕ → Bool) → Sight
with_operation o op clock s had_before = record {
  count = s.count + 1;
  labels = record { number = s.count; replica = o; op = op; stamp = option_map (stamp_at o) clock } ∷ s.labels;
  sees = λ n m. if n == s.count then had_before m else s.sees n m;
}

same_rank : (kind : Kind) (one other : Records) (l : Label) → sight_of one ≡ sight_of other
    → rank_of kind one l ≡ rank_of kind other l
same_rank Counter one other l same = refl
same_rank OrSet one other l same = refl
same_rank kinds.List one other l same = refl
same_rank kinds.Any one other l same = refl
same_rank kinds.MvRegister one other l same = refl
same_rank _ one other l same = ap (λ (s : Sight). unwrap_or l.stamp (greatest_stamp
    (filter (λ (seen : Label). s.sees l.number seen.number) s.labels))) same

same_order : (kind : Kind) (one other : Records) → sight_of one ≡ sight_of other
    → named_labels kind one ≡ named_labels kind other
same_order kind one other same =
    ap (λ cmp. sort_by cmp (labels_of one)) (fun_ext (λ (l : Label). fun_ext (λ (m : Label).
    ap (λ r. ordering_then (stamp_cmp r (rank_of kind one m)) (nat_cmp l.number m.number))
    (same_rank kind one other l same)
    ∙ ap (λ r. ordering_then (stamp_cmp (rank_of kind other l) r) (nat_cmp l.number m.number))
    (same_rank kind one other m same))))
    ∙ ap (λ (s : Sight). sort_by (label_cmp kind other) s.labels) same

abbrev cause_by : Kind → (ℕ → ℕ → Bool) → List Part → Option Cause
cause_by kind sight sequence =
    if not (extends (λ (p q : Part). (is_some (update_of p.act) && sight q.label.number p.label.number)
    || is_earlier_at_replica p q || is_query_half_of p q) sequence) then Some Order
    else if not (updates_admitted kind sequence) then Some Update
    else if not (list_all (λ (part : Part). option_map_or (is_answered_after kind
    (updates_of (filter (λ (p : Part). sight part.label.number p.label.number) sequence))) (query_of part.act) true)
    sequence) then Some Query
    else None

same_sequence_cause : (kind : Kind) (one other : Records) → sight_of one ≡ sight_of other
    → sequence_cause kind one ≡ sequence_cause kind other
same_sequence_cause kind one other same =
    ap (λ (s : Sight). cause_by kind s.sees (named_sequence kind one)) same
    ∙ ap (λ (ls : List Label). cause_by kind (λ n m. sees other n m) (flat_map parts_of ls))
    (same_order kind one other same)

-- the elements that the labels insert, and the edges that they require
abbrev elements_by : List Label → List ℕ
elements_by [] = []
elements_by (label ∷ labels) = elements_by labels ++ inserted_by label.op

abbrev edges_by : List Label → List Edge
edges_by [] = []
edges_by (label ∷ labels) = edges_by labels ++ edges_required_by label.number label.op

elements_of_labels : (records : Records) → inserted_elements records ≡ elements_by (labels_of records)
elements_of_labels [] = refl
elements_of_labels (Operate by op clock ∷ before) = ap (λ xs. xs ++ inserted_by op) (elements_of_labels before)
elements_of_labels (_ ∷ before) = elements_of_labels before

edges_of_records : (records : Records) → required_edges records ≡ edges_by (labels_of records)
edges_of_records [] = refl
edges_of_records (Operate by op clock ∷ before) =
    ap (λ es. es ++ edges_required_by (label_count before) op) (edges_of_records before)
edges_of_records (_ ∷ before) = edges_of_records before

same_explained : (kind : Kind) (one other : Records) → sight_of one ≡ sight_of other
    → is_explained kind one ≡ is_explained kind other
same_explained kinds.Any one other same =
    visibility_decides_agreement value_read one other (ap (λ (s : Sight). s.labels) same)
    (λ n m. ap (λ (s : Sight). s.sees n m) same)
same_explained kinds.MvRegister one other same =
    visibility_decides_reads value_written values_listed one other (ap (λ (s : Sight). s.labels) same)
    (λ n m. ap (λ (s : Sight). s.sees n m) same)
same_explained kinds.List one other same =
    ap (λ xs. is_some (list_order_of xs (required_edges one)))
    (elements_of_labels one ∙ ap (λ (s : Sight). elements_by s.labels) same ∙ sym (elements_of_labels other))
    ∙ ap (λ es. is_some (list_order_of (inserted_elements other) es))
    (edges_of_records one ∙ ap (λ (s : Sight). edges_by s.labels) same ∙ sym (edges_of_records other))
same_explained _ one other same = refl

same_cause : (kind : Kind) (one other : Records) → sight_of one ≡ sight_of other
    → cause_of kind one ≡ cause_of kind other
same_cause kind one other same =
    ap (λ o. option_or o (if is_explained kind one then None else Some (unexplained_cause kind)))
    (same_sequence_cause kind one other same)
    ∙ ap (λ b. option_or (sequence_cause kind other) (if b then None else Some (unexplained_cause kind)))
    (same_explained kind one other same)

-- ---- everything but the updates delivered to the replica itself

record AreAlike (by : ℕ) (older before : Records) : Type 0 where
  sight : sight_of older ≡ sight_of before
  others : (x n : ℕ) → (x ≡ by → ⊥) → has_delivered older x n ≡ has_delivered before x n
  fault : (kind : Kind) → fault_of kind older ≡ fault_of kind before

alike_itself : (by : ℕ) (records : Records) → AreAlike by records records
alike_itself by records = record { sight = refl; others = λ x n other. refl; fault = λ kind. refl }

alike_without : (by n : ℕ) (older before : Records) → AreAlike by older before
    → AreAlike by older (Deliver by n ∷ before)
alike_without by n older before same = record {
  sight = same.sight;
  others = λ x m other.
      let elsewhere : (by == x) ≡ false = ne_eqb by x (λ here. other (sym here)) in
      rw elsewhere (same.others x m other);
  fault = same.fault;
}

alike_with : (by : ℕ) (command : Command) (older before : Records) → cuts_off by command ≡ false
    → AreAlike by older before → AreAlike by (command ∷ older) (command ∷ before)
alike_with by (Operate o op clock) older before goes_on same = record {
  sight = sight;
  others = λ x n other. rw (counts, same.others x n other) refl;
  fault = λ kind.
      let why = cause_of kind (Operate o op clock ∷ older) in
      ap (λ f. option_or f (option_map (fault_at (label_count older)) why)) (same.fault kind)
      ∙ ap (λ n. option_or (fault_of kind before) (option_map (fault_at n) why)) counts
      ∙ ap (λ c. option_or (fault_of kind before) (option_map (fault_at (label_count before)) c))
      (same_cause kind (Operate o op clock ∷ older) (Operate o op clock ∷ before) sight);
}
  where
    counts : label_count older ≡ label_count before
    counts = ap (λ (s : Sight). s.count) same.sight

    sight : sight_of (Operate o op clock ∷ older) ≡ sight_of (Operate o op clock ∷ before)
    sight =
        ap (λ (s : Sight). with_operation o op clock s (has_delivered older o)) same.sight
        ∙ ap (with_operation o op clock (sight_of before))
        (fun_ext (λ (m : ℕ). same.others o m (eqb-false o by goes_on)))
alike_with by (Deliver to m) older before goes_on same = record {
  sight = same.sight;
  others = λ x n other. rw (ap (λ (s : Sight). s.labels) same.sight, same.others x n other) refl;
  fault = same.fault;
}
alike_with by (Join joined from) older before goes_on same = record {
  sight = same.sight;
  others = λ x n other.
      let source = eqb-false from by (or_parts (joined == by) (from == by) goes_on).1 in
      rw (same.others from n source, same.others x n other) refl;
  fault = same.fault;
}
alike_with by Verdict older before goes_on same =
    record { sight = same.sight; others = same.others; fault = same.fault }

alike : (by : ℕ) (left : ℕ → Bool) (records : Records) → AreAlike by (without by left records) records
alike by left = of_what_is_left by left (AreAlike by) (alike_itself by [])
    (λ command before cuts. alike_itself by (command ∷ before))
    (λ n older before is. alike_without by n older before)
    (λ command older before goes_on stays. alike_with by command older before goes_on)

pub had_without : (by : ℕ) (left : ℕ → Bool) (records : Records) (x n : ℕ) → (x ≡ by → ⊥)
    → has_delivered (without by left records) x n ≡ has_delivered records x n
had_without by left records = (alike by left records).others

pub sees_without : (by : ℕ) (left : ℕ → Bool) (records : Records) (n m : ℕ)
    → sees (without by left records) n m ≡ sees records n m
sees_without by left records n m = ap (λ (s : Sight). s.sees n m) (alike by left records).sight

pub order_without : (kind : Kind) (by : ℕ) (left : ℕ → Bool) (records : Records)
    → named_labels kind (without by left records) ≡ named_labels kind records
order_without kind by left records = same_order kind (without by left records) records (alike by left records).sight

pub fault_without : (kind : Kind) (by : ℕ) (left : ℕ → Bool) (records : Records)
    → fault_of kind (without by left records) ≡ fault_of kind records
fault_without kind by left records = (alike by left records).fault kind

-- ---- the updates delivered to the replica itself

-- whether a label is kept
abbrev stays : (ℕ → Bool) → ℕ → List ℕ → Bool
stays left n got = not (left n && is_among n got)

-- the records are alike otherwise, and the kept labels are those still delivered to the replica
record HadThere (by : ℕ) (left : ℕ → Bool) (older before : Records) : Type 0 where
  alike : AreAlike by older before
  own : (n : ℕ) → IsCausal before → has_delivered older by n ≡ (has_delivered before by n && stays left n (labels_got_last by before))

-- no label is removed that is not among the last ones to reach the replica
none_left : (h a : Bool) → h ≡ (h && not (a && false))
none_left true true = refl
none_left true false = refl
none_left false a = refl

-- what was delivered to the replica with one more delivery that is kept; the cases: it is to this replica, of this
-- label, an update, the label was delivered before, this label is removed, the delivered one is, this label is among
-- the last
with_delivery : (t e u h l lm a : Bool) → (t && lm) ≡ false → (e ≡ true → lm ≡ l)
    → ((t && e && u) || (h && not (l && a))) ≡ (((t && e && u) || h) && not (l && cond t (e || a) a))
with_delivery false e u h l lm a off same = refl
with_delivery true false u h l lm a off same = refl
with_delivery true true u h true true a off same = absurd (true≢false off)
with_delivery true true u h true false a off same = absurd (true≢false (sym (same refl)))
with_delivery true true true h false lm a off same = refl
with_delivery true true false h false lm a off same = refl

-- and with a delivery that is removed and was new
without_delivery : (e u h l a : Bool) → (e ≡ true → (l ≡ true) × (h ≡ false))
    → (h && not (l && a)) ≡ (((e && u) || h) && not (l && (e || a)))
without_delivery false u h l a new = refl
without_delivery true u true l a new = absurd (true≢false (new refl).1)
without_delivery true u false false a new = absurd (true≢false (sym (new refl).0))
without_delivery true true false true a new = refl
without_delivery true false false true a new = refl

had_with : (by : ℕ) (left : ℕ → Bool) (command : Command) (older before : Records) → cuts_off by command ≡ false
    → is_taken_back by left command ≡ false → HadThere by left older before
    → (n : ℕ) → IsCausal (command ∷ before)
    → has_delivered (command ∷ older) by n ≡ (has_delivered (command ∷ before) by n && stays left n (labels_got_last by (command ∷ before)))
had_with by left (Operate o op clock) older before goes_on off same n causal = rw goes_on (same.own n causal)
had_with by left (Deliver to m) older before goes_on off same n causal =
    rw (ap (λ (s : Sight). s.labels) same.alike.sight, same.own n causal.2)
    (with_delivery (to == by) (n == m) (is_update_at before n) (has_delivered before by n) (left n) (left m)
    (is_among n (labels_got_last by before)) off (λ is. ap left (sym (eqb-true n m is)))
    ∙ ap (λ a. has_delivered (Deliver to m ∷ before) by n && not (left n && a)) (sym (among (to == by))))
  where
    among : (t : Bool) → is_among n (cond t (m ∷ []) [] ++ labels_got_last by before)
        ≡ cond t ((n == m) || is_among n (labels_got_last by before)) (is_among n (labels_got_last by before))
    among true = refl
    among false = refl
had_with by left (Join joined from) older before goes_on off same n causal =
    rw ((or_parts (joined == by) (from == by) goes_on).0, (or_parts (joined == by) (from == by) goes_on).1)
    (same.own n causal)
had_with by left Verdict older before goes_on off same n causal = same.own n causal

pub had_there : (by : ℕ) (left : ℕ → Bool) (records : Records) (n : ℕ) → IsCausal records
    → has_delivered (without by left records) by n ≡ (has_delivered records by n && stays left n (labels_got_last by records))
had_there by left records = (of_what_is_left by left (HadThere by left)
    (record { alike = alike_itself by []; own = λ n causal. refl })
    (λ command before cuts. record {
      alike = alike_itself by (command ∷ before);
      own = λ n causal. rw cuts (none_left (has_delivered (command ∷ before) by n) (left n));
    })
    (λ m older before is same. record {
      alike = alike_without by m older before same.alike;
      own = λ n causal. rw (eq-eqb by by refl)
          (same.own n causal.2 ∙ without_delivery (n == m) (is_update_at before n) (has_delivered before by n) (left n)
          (is_among n (labels_got_last by before))
          (λ same. let this = eqb-true n m same in (ap left this ∙ is, ap (has_delivered before by) this ∙ causal.0)));
    })
    (λ command older before goes_on off same. record {
      alike = alike_with by command older before goes_on same.alike;
      own = had_with by left command older before goes_on off same;
    })
    records).own
