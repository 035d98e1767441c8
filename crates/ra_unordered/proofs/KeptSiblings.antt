-- Lemmas on the siblings that are kept of a multi-value register, after one more record.
use Rattle.std.proofs.Common.{◌≡◌, ◌↔◌, ℕ, ◌<◌, ◌+◌, eqb, Bool, true, false, List, [], ◌∷◌, ◌++◌, length, get_or, refl, sym, ap, ◌∙◌, subst, inl, inr, arith}
use Rattle.std.specs.Prelude.{◌⊎◌, ◌==◌, ◌&&◌, Option, Some, None, Contains, set, replicate, filter_map, option_and_then}
use Rattle.std.specs.Option.{option_map_or}
use Rattle.std.specs.List.{cons_option, range_with_len}
use Rattle.std.proofs.lemmas.Bool.{false≢true, cases_eq, cases_lt, cond-true, eq-eqb, and_parts}
use Rattle.std.proofs.lemmas.Option.{none-some}
use Rattle.std.proofs.lemmas.List.{get_or-set_same, get_or-set_other, get_or_push, get_or_append_left, get_or-replicate, length-append, length-set, length-replicate}
use Rattle.ra_labels.specs.declared.kind.Kind.TheVariants as kinds
use Rattle.ra_labels.specs.declared.operation.Op.{Op}
use Rattle.ra_labels.specs.declared.operation.Op.TheVariants as op
use Rattle.ra_labels.specs.declared.label.Label.{Label}
use Rattle.ra_labels.specs.declared.command.Command.TheVariants.{Operate, Deliver, Join}
use Rattle.ra_labels.specs.Records.{Records, label_count, label_at, next_label}
use Rattle.ra_labels.specs.Visibility.{is_update, is_update_at, has_delivered, sees, IsCausal}
use Rattle.ra_labels.specs.Lists.{have_same_elements, rises}
use Rattle.ra_labels.specs.Siblings.{siblings_at, is_sibling, replaced_by, values_at, lists_values, reads_list_siblings}
use Rattle.ra_labels.specs.Explained.{is_explained, value_written, values_listed}
use Rattle.ra_labels.specs.TheoremTerms.{IsCausalDelivery, NoneDeliveredBeyond}
use Rattle.ra_labels.specs.HistorySoFar.{History, replicas_of, history_with, empty_history, NextOperation, operate, label_of}
use Rattle.ra_labels.proofs.InLists.{bool_same, same-exactly}
use Rattle.ra_labels.proofs.Members.{head_or_behind, at_head, behind_head, none_there, there-kept}
use Rattle.ra_labels.proofs.Ranges.{range_within}
use Rattle.ra_mvregister_model.proofs.TheoremIndex.{siblings_after_write-own, siblings_after_write-others, siblings_after_read, siblings_after_delivery-receiver, siblings_after_delivery-others, siblings_after_join-joined, siblings_after_join-others, replaced_when_issued-new, replaced_when_issued-others}
use Rattle.ra_siblings.specs.declared.issued.Issued.{Issued}
use Rattle.ra_siblings.specs.Kept as kept
use Rattle.ra_siblings.specs.Kept.{Kept, issued_as, siblings_of, issued_at, value_at}
use Rattle.ra_unordered.specs.Register.{AreSiblingsOf}
use Rattle.ra_unordered.proofs.Counts.{older_label}

same_list : (xs ys : List ℕ) (m : ℕ) → xs ≡ ys → Contains xs m ↔ Contains ys m
same_list xs ys m is = (λ there. subst (λ l. Contains l m) is there, λ there. subst (λ l. Contains l m) (sym is) there)

-- ---- no labels
pub register_none : (made : Kept) (past : History) → past.records ≡ [] → made.labels ≡ []
    → made.replicas ≡ replicate (replicas_of past) [] → AreSiblingsOf made past
register_none made past none labels replicas = record {
  labels = ap length labels ∙ sym (ap label_count none);
  replicas = ap length replicas ∙ length-replicate (replicas_of past) [];
  siblings = λ replica m there.
      let own : siblings_of made replica ≡ [] = ap (λ rs. get_or rs replica []) replicas
      ∙ get_or-replicate (replicas_of past) replica [] [] there in
      same_list (siblings_of made replica) (siblings_at past.records replica) m
      (own ∙ sym (ap (λ rs. siblings_at rs replica) none));
  replaced = λ n m below. absurd (omega (arith, below, ap label_count none));
  values = λ n below. absurd (omega (arith, below, ap label_count none));
}

-- ---- one more label
module _ (old new : Kept) (past : History) (next : NextOperation) (stands : AreSiblingsOf old past) (issued : Issued)
    (added : new.labels ≡ old.labels ++ issued ∷ []) where
  abbrev count : ℕ
  count = label_count past.records

  abbrev now : Records
  now = operate next ∷ past.records

  older : (n : ℕ) → n < count → issued_at new n ≡ issued_at old n
  older n below = ap (λ ls. get_or ls n (issued_as None [])) added
      ∙ get_or_append_left old.labels (issued ∷ []) (issued_as None []) n (omega (arith, below, stands.labels))

  newest : issued_at new count ≡ issued
  newest = ap (λ ls. get_or ls count (issued_as None [])) added
      ∙ get_or_push old.labels issued (issued_as None []) count stands.labels

  newest_label : label_at now count ≡ Some (label_of past.records next)
  newest_label = cond-true (eqb count count) (Some (label_of past.records next)) (label_at past.records count)
      (eq-eqb count count refl)

  replaced_now : (is_update next.op ≡ true → issued.replaced ≡ siblings_of old next.by) → next.by < replicas_of past
      → (n m : ℕ) → n < count + 1 → is_update_at now n ≡ true
      → Contains (issued_at new n).replaced m ↔ Contains (replaced_by now n) m
  replaced_now replaces there n m below update = elim (cases_lt n count) [
    | inl earlier ↦
        let other : ¬ (n ≡ count) = λ is. absurd (omega (arith, is, earlier)) in
        let was : is_update_at past.records n ≡ true =
        sym (ap (λ o. option_map_or (λ (l : Label). is_update l.op) o false) (older_label past.records next n earlier)) ∙ update in
        subst (λ i. Contains i.replaced m ↔ Contains (replaced_by now n) m) (sym (older n earlier))
        (subst (λ r. Contains (issued_at old n).replaced m ↔ Contains r m)
        (sym (replaced_when_issued-others past.records next.by n next.op next.clock other))
        (stands.replaced n m earlier was))
    | inr later ↦
        let is : n ≡ count = omega (arith, below, later) in
        let of_new : is_update next.op ≡ true =
        sym (ap (λ o. option_map_or (λ (l : Label). is_update l.op) o false) newest_label)
        ∙ subst (λ k. is_update_at now k ≡ true) is update in
        let both = stands.siblings next.by m there in
        let lists = same_list (issued_at new count).replaced (siblings_of old next.by) m
        (ap (λ (i : Issued). i.replaced) newest ∙ replaces of_new) in
        let records = same_list (replaced_by now count) (siblings_at past.records next.by) m
        (replaced_when_issued-new past.records next.by next.op next.clock) in
        subst (λ k. Contains (issued_at new k).replaced m ↔ Contains (replaced_by now k) m) (sym is) (
          (λ has. records.1 (both.0 (lists.0 has))),
          (λ has. lists.1 (both.1 (records.0 has))),
        )
  ]

  values_now : issued.value ≡ value_written next.op → (n : ℕ) → n < count + 1
      → value_at new n ≡ option_and_then (λ label. value_written label.op) (label_at now n)
  values_now value n below = elim (cases_lt n count) [
    | inl earlier ↦
        ap (λ (i : Issued). i.value) (older n earlier) ∙ stands.values n earlier
        ∙ sym (ap (option_and_then (λ (l : Label). value_written l.op)) (older_label past.records next n earlier))
    | inr later ↦
        let is : n ≡ count = omega (arith, below, later) in
        subst (λ k. value_at new k ≡ option_and_then (λ (l : Label). value_written l.op) (label_at now k)) (sym is)
        (ap (λ (i : Issued). i.value) newest ∙ value
        ∙ sym (ap (option_and_then (λ (l : Label). value_written l.op)) newest_label))
  ]

  labels_now : length new.labels ≡ count + 1
  labels_now = omega (arith, ap length added, length-append old.labels (issued ∷ []), stands.labels)

-- a write is the only sibling of its replica
pub after_write : (old new : Kept) (past : History) (next : NextOperation) (value : ℕ) → AreSiblingsOf old past
    → is_update next.op ≡ true → value_written next.op ≡ Some value → next.by < replicas_of past
    → new.labels ≡ old.labels ++ issued_as (Some value) (siblings_of old next.by) ∷ []
    → new.replicas ≡ set old.replicas next.by (length old.labels ∷ []) → AreSiblingsOf new (history_with past (operate next))
after_write old new past next value stands update writes there added replicas =
    let issued = issued_as (Some value) (siblings_of old next.by) in
    let own_there : next.by < length old.replicas = omega (arith, there, stands.replicas) in
    record {
      labels = labels_now old new past next stands issued added;
      replicas = ap length replicas ∙ length-set old.replicas next.by (length old.labels ∷ []) ∙ stands.replicas;
      siblings = λ replica m exists. elim (cases_eq replica next.by) [
        | inl own ↦
            let kept : siblings_of new next.by ≡ label_count past.records ∷ [] = ap (λ rs. get_or rs next.by []) replicas
            ∙ get_or-set_same old.replicas next.by (length old.labels ∷ []) [] own_there
            ∙ ap (λ n. n ∷ []) stands.labels in
            subst (λ r. Contains (siblings_of new r) m ↔ Contains (siblings_at (operate next ∷ past.records) r) m) (sym own)
            (same_list (siblings_of new next.by) (siblings_at (operate next ∷ past.records) next.by) m
            (kept ∙ sym (siblings_after_write-own past.records next.by next.op next.clock update)))
        | inr other ↦
            let kept : siblings_of new replica ≡ siblings_of old replica = ap (λ rs. get_or rs replica []) replicas
            ∙ get_or-set_other old.replicas next.by replica (length old.labels ∷ []) [] other in
            let same = siblings_after_write-others past.records next.by replica next.op next.clock
            (λ is. other (sym is)) in
            let both = stands.siblings replica m exists in
            subst (λ s. Contains s m ↔ Contains (siblings_at (operate next ∷ past.records) replica) m) (sym kept)
            (subst (λ s. Contains (siblings_of old replica) m ↔ Contains s m) (sym same) both)
      ];
      replaced = replaced_now old new past next stands issued added (λ is. refl) there;
      values = values_now old new past next stands issued added (sym writes);
    }

-- a read changes no siblings
pub after_query : (old new : Kept) (past : History) (next : NextOperation) → AreSiblingsOf old past
    → is_update next.op ≡ false → value_written next.op ≡ None → next.by < replicas_of past
    → new.labels ≡ old.labels ++ issued_as None [] ∷ [] → new.replicas ≡ old.replicas
    → AreSiblingsOf new (history_with past (operate next))
after_query old new past next stands query writes there added replicas =
    let issued = issued_as None [] in
    record {
      labels = labels_now old new past next stands issued added;
      replicas = ap length replicas ∙ stands.replicas;
      siblings = λ replica m exists.
          let kept : siblings_of new replica ≡ siblings_of old replica = ap (λ rs. get_or rs replica []) replicas in
          let same = siblings_after_read past.records next.by replica next.op next.clock query in
          subst (λ s. Contains s m ↔ Contains (siblings_at (operate next ∷ past.records) replica) m) (sym kept)
          (subst (λ s. Contains (siblings_of old replica) m ↔ Contains s m) (sym same)
          (stands.siblings replica m exists));
      replaced = replaced_now old new past next stands issued added
          (λ update. absurd (false≢true (sym query ∙ update))) there;
      values = values_now old new past next stands issued added (sym writes);
    }

-- ---- deliveries and joins
pub new_there : (old : Kept) (past : History) (to n : ℕ) → AreSiblingsOf old past → to < replicas_of past
    → IsCausalDelivery past.records to n → ¬ Contains (siblings_of old to) n
new_there old past to n stands there delivery has =
    let sibling = (stands.siblings to n there).0 has in
    let kept = there-kept (is_sibling past.records to) (range_with_len 0 (label_count past.records)) n sibling in
    absurd (false≢true (sym delivery.0 ∙ sibling_delivered past.records to n kept.1))
  where
    sibling_delivered : (records : Records) (replica m : ℕ) → is_sibling records replica m ≡ true
        → has_delivered records replica m ≡ true
    sibling_delivered records replica m is = (and_parts _ _ is).0

pub after_delivery : (old new : Kept) (past : History) (to n : ℕ) → AreSiblingsOf old past → to < replicas_of past
    → is_update_at past.records n ≡ true → n < label_count past.records → IsCausal past.records
    → IsCausalDelivery past.records to n
    → ((m : ℕ) → Contains (siblings_of new to) m
    ↔ ((n ≡ m) ⊎ (Contains (siblings_of old to) m × (¬ Contains (issued_at old n).replaced m))))
    → new.replicas ≡ set old.replicas to (siblings_of new to) → new.labels ≡ old.labels
    → AreSiblingsOf new (history_with past (Deliver to n))
after_delivery old new past to n stands there update known causal delivery receives replicas labels = record {
  labels = ap length labels ∙ stands.labels;
  replicas = ap length replicas ∙ length-set old.replicas to (siblings_of new to) ∙ stands.replicas;
  siblings = λ replica m exists. elim (cases_eq replica to) [
    | inl own ↦
        let after = siblings_after_delivery-receiver past.records to n causal update delivery m in
        let has = stands.siblings to m there in
        let replaces = stands.replaced n m known update in
        subst (λ r. Contains (siblings_of new r) m ↔ Contains (siblings_at (Deliver to n ∷ past.records) r) m) (sym own) (
          (λ kept. after.1 (elim ((receives m).0 kept) [
            | inl is ↦ inl is
            | inr stays ↦ inr (has.0 stays.0, λ gone. stays.1 (replaces.1 gone))
          ])),
          (λ sibling. (receives m).1 (elim (after.0 sibling) [
            | inl is ↦ inl is
            | inr stays ↦ inr (has.1 stays.0, λ gone. stays.1 (replaces.0 gone))
          ])),
        )
    | inr other ↦
        let kept : siblings_of new replica ≡ siblings_of old replica = ap (λ rs. get_or rs replica []) replicas
        ∙ get_or-set_other old.replicas to replica (siblings_of new to) [] other in
        let same = siblings_after_delivery-others past.records to n replica (λ is. other (sym is)) in
        subst (λ s. Contains s m ↔ Contains (siblings_at (Deliver to n ∷ past.records) replica) m) (sym kept)
        (subst (λ s. Contains (siblings_of old replica) m ↔ Contains s m) (sym same) (stands.siblings replica m exists))
  ];
  replaced = λ k m below is.
      subst (λ ls. Contains (get_or ls k (issued_as None [])).replaced m ↔ Contains (replaced_by past.records k) m)
      (sym labels) (stands.replaced k m below is);
  values = λ k below. ap (λ ls. (get_or ls k (issued_as None [])).value) labels ∙ stands.values k below;
}

pub after_join : (old new : Kept) (past : History) (from : ℕ) → AreSiblingsOf old past → from < replicas_of past
    → NoneDeliveredBeyond past.initial_replicas past.records
    → new.replicas ≡ old.replicas ++ siblings_of old from ∷ [] → new.labels ≡ old.labels
    → AreSiblingsOf new (history_with past (Join (replicas_of past) from))
after_join old new past from stands there beyond replicas labels =
    let joined = replicas_of past in
    record {
      labels = ap length labels ∙ stands.labels;
      replicas = omega (arith, ap length replicas, length-append old.replicas (siblings_of old from ∷ []), stands.replicas);
      siblings = λ replica m exists. elim (cases_lt replica joined) [
        | inl earlier ↦
            let other : ¬ (joined ≡ replica) = λ is. absurd (omega (arith, is, earlier)) in
            let kept : siblings_of new replica ≡ siblings_of old replica = ap (λ rs. get_or rs replica []) replicas
            ∙ get_or_append_left old.replicas (siblings_of old from ∷ []) [] replica (omega (arith, earlier, stands.replicas)) in
            let same = siblings_after_join-others past.records joined from replica other in
            subst (λ s. Contains s m ↔ Contains (siblings_at (Join joined from ∷ past.records) replica) m) (sym kept)
            (subst (λ s. Contains (siblings_of old replica) m ↔ Contains s m) (sym same)
            (stands.siblings replica m earlier))
        | inr later ↦
            let is : replica ≡ joined = omega (arith, exists, later) in
            let kept : siblings_of new joined ≡ siblings_of old from = ap (λ rs. get_or rs joined []) replicas
            ∙ get_or_push old.replicas (siblings_of old from) [] joined stands.replicas in
            let same = siblings_after_join-joined past.records joined from
            (λ n. beyond joined n (omega arith)) in
            subst (λ r. Contains (siblings_of new r) m ↔ Contains (siblings_at (Join joined from ∷ past.records) r) m)
            (sym is)
            (subst (λ s. Contains s m ↔ Contains (siblings_at (Join joined from ∷ past.records) joined) m) (sym kept)
            (subst (λ s. Contains (siblings_of old from) m ↔ Contains s m) (sym same)
            (stands.siblings from m there)))
      ];
      replaced = λ k m below is.
          subst (λ ls. Contains (get_or ls k (issued_as None [])).replaced m ↔ Contains (replaced_by past.records k) m)
          (sym labels) (stands.replaced k m below is);
      values = λ k below. ap (λ ls. (get_or ls k (issued_as None [])).value) labels ∙ stands.values k below;
    }

-- ---- the values of siblings
taken : {B : Type 0} (o : Option B) (rest : List B) (y : B) → Contains (cons_option o rest) y
    → (o ≡ Some y) ⊎ Contains rest y
taken None rest y there = inr there
taken (Some x) rest y there = elim (head_or_behind x rest y there) [
  | inl here ↦ inl (ap Some here)
  | inr behind ↦ inr behind
]

behind_taken : {B : Type 0} (o : Option B) (rest : List B) (y : B) → Contains rest y → Contains (cons_option o rest) y
behind_taken None rest y there = there
behind_taken (Some x) rest y there = behind_head x rest y there

mapped_from : {A B : Type 0} (f : A → Option B) (xs : List A) (y : B) → Contains (filter_map f xs) y
    → (x : A) × Contains xs x × (f x ≡ Some y)
mapped_from f [] y there = absurd (none_there y there)
mapped_from f (x ∷ xs) y there = elim (taken (f x) (filter_map f xs) y there) [
  | inl is ↦ (x, at_head x xs x refl, is)
  | inr further ↦ let (z, found, is) = mapped_from f xs y further in (z, behind_head x xs z found, is)
]

mapped_in : {A B : Type 0} (f : A → Option B) (xs : List A) (x : A) (y : B) → Contains xs x → f x ≡ Some y
    → Contains (filter_map f xs) y
mapped_in f [] x y there is = absurd (none_there x there)
mapped_in f (z ∷ xs) x y there is = elim (head_or_behind z xs x there) [
  | inl here ↦ subst (λ o. Contains (cons_option o (filter_map f xs)) y) (sym (ap f here ∙ is)) (at_head y (filter_map f xs) y refl)
  | inr further ↦ behind_taken (f z) (filter_map f xs) y (mapped_in f xs x y further is)
]

module _ (now : Kept) (past : History) (stands : AreSiblingsOf now past) (replica : ℕ) (there : replica < replicas_of past) where
  abbrev written : ℕ → Option ℕ
  written n = option_and_then (λ label. value_written label.op) (label_at past.records n)

  same_value : (n : ℕ) → Contains (siblings_at past.records replica) n → value_at now n ≡ written n
  same_value n sibling =
      let range = there-kept (is_sibling past.records replica) (range_with_len 0 (label_count past.records)) n sibling in
      let within = range_within 0 (label_count past.records) n range.0 in
      stands.values n (omega (arith, within.1))

  values_alike : (y : ℕ) → Contains (kept.values_of now (siblings_of now replica)) y
      ↔ Contains (values_at value_written past.records replica) y
  values_alike y = (
    (λ has.
        let (n, found, is) = mapped_from (value_at now) (siblings_of now replica) y has in
        let sibling = (stands.siblings replica n there).0 found in
        mapped_in written (siblings_at past.records replica) n y sibling (sym (same_value n sibling) ∙ is)),
    (λ has.
        let (n, sibling, is) = mapped_from written (siblings_at past.records replica) y has in
        mapped_in (value_at now) (siblings_of now replica) n y ((stands.siblings replica n there).1 sibling)
        (same_value n sibling ∙ is)),
  )

  -- a list has the values that are kept exactly if it has those of the siblings
  pub same_values : (list : List ℕ) → have_same_elements list (kept.values_of now (siblings_of now replica))
      ≡ have_same_elements list (values_at value_written past.records replica)
  same_values list =
      let mine = kept.values_of now (siblings_of now replica) in
      let theirs = values_at value_written past.records replica in
      bool_same (have_same_elements list mine) (have_same_elements list theirs)
      (λ is. (same-exactly list theirs).1 (λ y.
      let one = (same-exactly list mine).0 is y in
      ((λ has. (values_alike y).0 (one.0 has)), (λ has. one.1 ((values_alike y).1 has)))))
      (λ is. (same-exactly list mine).1 (λ y.
      let one = (same-exactly list theirs).0 is y in
      ((λ has. (values_alike y).1 (one.0 has)), (λ has. one.1 ((values_alike y).0 has)))))

and_true : (b : Bool) → (b && true) ≡ b
and_true true = refl
and_true false = refl

-- so a read is right exactly if the register's history with it meets the condition of its kind
pub read_decides : (now : Kept) (past : History) (next : NextOperation) (list : List ℕ) (right : Bool)
    → AreSiblingsOf now past → next.by < replicas_of past → past.kind ≡ kinds.MvRegister → next.op ≡ op.MvRead list
    → rises list ≡ true → is_explained past.kind past.records ≡ true
    → right ≡ (rises list && have_same_elements list (kept.values_of now (siblings_of now next.by)))
    → right ≡ is_explained past.kind (operate next ∷ past.records)
read_decides now past next list right stands there kind is rising explained said =
    let mine = have_same_elements list (kept.values_of now (siblings_of now next.by)) in
    let theirs = have_same_elements list (values_at value_written past.records next.by) in
    let decided : is_explained past.kind (operate next ∷ past.records) ≡ theirs =
    ap (λ k. is_explained k (operate next ∷ past.records)) kind
    ∙ ap (λ o. lists_values values_listed o (values_at value_written past.records next.by)
    && reads_list_siblings value_written values_listed past.records) is
    ∙ ap (λ b. theirs && b) (sym (ap (λ k. is_explained k past.records) kind) ∙ explained)
    ∙ and_true theirs in
    said ∙ ap (λ b. b && mine) rising ∙ same_values now past stands next.by there list ∙ sym decided
