-- Lemmas on freed labels that follow one after another.
use Rattle.std.proofs.Common.{◌≡◌, ℕ, ◌+◌, Bool, true, false, List, [], ◌∷◌, ◌++◌, length, Option, Some, refl, sym, ap, ◌∙◌, subst, inl, inr, arith}
use Rattle.std.specs.Prelude.{Contains, IsPermutation}
use Rattle.std.proofs.lemmas.Bool.{false≢true, cases_Bool, false_from_ne_true, eqb-true, eq-eqb, or_left, or_right, or_from}
use Rattle.std.proofs.lemmas.Option.{same_Some}
use Rattle.std.proofs.lemmas.List.{length-append}
use Rattle.std.proofs.lemmas.List.Sorted.{Contains-permutation, IsPermutation-sym}
use Rattle.std.proofs.lemmas.List.Elements.{Contains-append_left, Contains-append_right, Contains-append_cases, Contains-push_cases}
use Rattle.ra_labels.specs.declared.kind.Kind.TheVariants.{Rga}
use Rattle.ra_labels.specs.Records.{Records}
use Rattle.ra_labels.specs.TheoremTerms.{HasNoDuplicates}
use Rattle.ra_labels.specs.Insertion.{updates_passing, or_label}
use Rattle.ra_labels.specs.Pending.{NonePending, OthersPending}
use Rattle.ra_labels.proofs.Members.{head_or_behind, at_head, none_there}
use Rattle.ra_theorems.proofs.TheoremIndex.{settled_not_pending, updates_passing_insert-count}
use Rattle.ra_rga_elements.specs.ElementList.{Arrival, is_marked}
use Rattle.ra_rga_replica.specs.declared.edit.Edit.{Edit}
use Rattle.ra_rga_replica.specs.declared.edit.Edit.TheVariants.{PutsIn, Removes}
use Rattle.ra_rga_replica.specs.PendingLabels.{labels_under}
use Rattle.ra_rga_replica.specs.Edits.{edit_at, needed_number, update_of, AreEditsOf}
use Rattle.ra_rga_replica.specs.ReplicaList.{AreThere, AreShown, AreWaiting, IsListWith}
use Rattle.ra_rga_replica.specs.Cascade.{puts, IsFreeing}
use Rattle.ra_rga_replica.proofs.NoneTwice.{none_twice-append, none_twice-last, none_twice-permutation, none_twice-one, not_both, it_passes, still_passes, others_pass, passes_or_is, not_before, not_it}
use Rattle.ra_rga_replica.proofs.Edits.{needed_marked, marked_label, AreMarksWith, there_with}
use Rattle.ra_rga_replica.proofs.HadLabels.{not_settled}
use Rattle.ra_rga_replica.proofs.SingleSteps.{none_waits_with}

module _ {arrivals : List Arrival} {edits : List (Option Edit)} {records : Records} where
  -- the dependency of a pending label is not marked
  pub unmarked : {marks : List Bool} {passes : ℕ → Bool} (had : ℕ → Bool) → AreEditsOf arrivals edits records
      → AreThere marks arrivals records passes → OthersPending records had passes → (n : ℕ) (edit : Edit)
      → edit_at edits n ≡ Some edit
      → had n ≡ true → passes n ≡ false → is_marked marks (needed_number arrivals edit) ≡ false
  unmarked {passes = passes} had stand there others n edit is was_had waits =
      let (l, l_in, l_num, l_makes) = stand.makes n edit is in
      sym (needed_marked stand there n edit is) ∙ others l (update_of arrivals edit) l_in l_makes
      (ap had l_num ∙ was_had) (ap passes l_num ∙ waits)

  pub marked : {marks : List Bool} {passes : ℕ → Bool} → AreEditsOf arrivals edits records
      → AreThere marks arrivals records passes → NonePending records passes → (n : ℕ) (edit : Edit)
      → edit_at edits n ≡ Some edit
      → passes n ≡ true → is_marked marks (needed_number arrivals edit) ≡ true
  marked {passes = passes} stand there none n edit is passes_it =
      let (l, l_in, l_num, l_makes) = stand.makes n edit is in
      sym (needed_marked stand there n edit is) ∙ none l (update_of arrivals edit) l_in l_makes
      (ap passes l_num ∙ passes_it)

  -- the first label may follow
  unfoldable pub first_freed : {shows : ℕ → Bool} {marks : List Bool} {waiting : List (ℕ × List ℕ)}
      {had settled : ℕ → Bool}
      (label : ℕ) (edit : Edit) → AreEditsOf arrivals edits records
      → IsListWith shows marks waiting arrivals edits records had settled → edit_at edits label ≡ Some edit
      → had label ≡ false → is_marked marks (needed_number arrivals edit) ≡ true
      → IsFreeing shows marks [] (label ∷ []) arrivals edits records had settled label
  first_freed {had = had} {settled = settled} label edit stand kept is new needs =
      let (had_them, none, others) = (settled_not_pending records had settled).0 kept.settles in
      record {
        passes = settled;
        had_them = λ n passes. still_passes had label n (had_them n passes);
        none_waits = none;
        shown = kept.shown;
        there = kept.there;
        older = λ n passes. passes;
        only = λ n passes. inl passes;
        gone = λ n found. absurd (none_there n found);
        next = λ n found. elim (head_or_behind label [] n found) [
          | inl here ↦ (
            edit,
            sym (ap (edit_at edits) here) ∙ is,
            it_passes had label n (sym here),
            sym (ap settled here) ∙ not_settled kept label new,
            needs,
          )
          | inr none_behind ↦ absurd (none_there n none_behind)
        ];
        others = λ n d d_is was_had fails. inl (unmarked had stand kept.there others n d d_is was_had fails);
        itself = inr (at_head label [] label refl);
        once = none_twice-one label;
        count = omega arith;
      }

  -- the element that a following label inserts was not marked before
  pub unmarked_put : {marks : List Bool} {passes : ℕ → Bool} → AreEditsOf arrivals edits records
      → AreThere marks arrivals records passes → (label : ℕ) (edit : Edit) → edit_at edits label ≡ Some edit
      → passes label ≡ false
      → (number : ℕ) → puts number edit ≡ true → is_marked marks number ≡ false
  unmarked_put {marks = marks} stand there label (PutsIn k) is new number puts_it =
      ap (is_marked marks) (eqb-true number k puts_it) ∙ marked_label stand there label k is ∙ new
  unmarked_put stand there label (Removes k) is new number puts_it = absurd (false≢true puts_it)

-- the labels that this label frees: each pending one that depends on the inserted element
pub record AreFreedBy (arrivals : List Arrival) (edits : List (Option Edit)) (had settled : ℕ → Bool) (edit : Edit)
    (more : List ℕ) : Type 0 where
  pub only : (n : ℕ) → Contains more n → (d : Edit) × (edit_at edits n ≡ Some d) × (had n ≡ true) × (settled n ≡ false)
      × (puts (needed_number arrivals d) edit ≡ true)
  pub all : (n : ℕ) (d : Edit) → edit_at edits n ≡ Some d → had n ≡ true → settled n ≡ false
      → puts (needed_number arrivals d) edit ≡ true → Contains more n
  pub once : HasNoDuplicates more

pub freed_by : {arrivals : List Arrival} {edits : List (Option Edit)} {records : Records} {had settled : ℕ → Bool}
    (waiting : List (ℕ × List ℕ)) → AreWaiting (labels_under waiting) arrivals edits records had settled → (number : ℕ)
    → AreFreedBy arrivals edits had settled (PutsIn number) (labels_under waiting number)
freed_by {arrivals = arrivals} waiting wait number = record {
  only = λ n found.
      let (d, d_is, d_needs, was_had, waits) = wait.only number n found in
      (d, d_is, was_had, waits, eq-eqb (needed_number arrivals d) number d_needs);
  all = λ n d d_is was_had waits puts_it. subst (λ (k : ℕ). Contains (labels_under waiting k) n)
      (eqb-true (needed_number arrivals d) number puts_it) (wait.waits n d d_is was_had waits);
  once = wait.once number;
}

pub none_freed : {arrivals : List Arrival} {edits : List (Option Edit)} {had settled : ℕ → Bool} (number : ℕ)
    → AreFreedBy arrivals edits had settled (Removes number) []
none_freed number = record {
  only = λ n found. absurd (none_there n found);
  all = λ n d d_is was_had waits puts_it. absurd (false≢true puts_it);
  once = tt;
}

-- the same in another order
pub freed_in_order : {arrivals : List Arrival} {edits : List (Option Edit)} {had settled : ℕ → Bool} {edit : Edit}
    (more sorted : List ℕ) → IsPermutation more sorted → AreFreedBy arrivals edits had settled edit more
    → AreFreedBy arrivals edits had settled edit sorted
freed_in_order more sorted shuffled freed = record {
  only = λ n found. freed.only n (Contains-permutation sorted more n (IsPermutation-sym more sorted shuffled) found);
  all = λ n d d_is was_had waits puts_it. Contains-permutation more sorted n shuffled
      (freed.all n d d_is was_had waits puts_it);
  once = none_twice-permutation more sorted shuffled freed.once;
}

pub last_there : (ready : List ℕ) (label : ℕ) → Contains (ready ++ label ∷ []) label
last_there ready label = Contains-append_right ready (label ∷ []) label (at_head label [] label refl)

-- the next label follows
module _ {arrivals : List Arrival} {edits : List (Option Edit)} {records : Records} {shows : ℕ → Bool} {marks : List Bool}
    {labels : List ℕ} {had settled : ℕ → Bool} {first : ℕ} where
  pub follows : (ready : List ℕ) (next : ℕ → Bool) (next_marks : List Bool) (more : List ℕ) (label : ℕ) (edit : Edit)
      → AreEditsOf arrivals edits records
      → (free : IsFreeing shows marks labels (ready ++ label ∷ []) arrivals edits records had settled first)
      → edit_at edits label ≡ Some edit
      → AreShown next arrivals records (or_label free.passes label)
      → AreMarksWith marks next_marks edit → AreFreedBy arrivals edits had settled edit more
      → IsFreeing next next_marks (labels ++ label ∷ []) (ready ++ more) arrivals edits records had settled first
  follows ready next next_marks more label edit stand free is after with_it freed =
      let passes = free.passes in
      let before : (n : ℕ) → Contains ready n → Contains (ready ++ label ∷ []) n =
      λ n found. Contains-append_left ready (label ∷ []) n found in
      let (its, its_is, its_had, its_new, its_needs) = free.next label (last_there ready label) in
      let same : its ≡ edit = same_Some its edit (sym its_is ∙ is) in
      let needs : is_marked marks (needed_number arrivals edit) ≡ true =
      ap (λ (d : Edit). is_marked marks (needed_number arrivals d)) (sym same) ∙ its_needs in
      let alone = none_twice-last ready label free.once in
      let not_before_it : (n : ℕ) → Contains ready n → ¬ (n ≡ label) =
      λ n found it. alone.1 (subst (Contains ready) it found) in
      let fresh : (n : ℕ) (d : Edit) → edit_at edits n ≡ Some d → puts (needed_number arrivals d) edit
      ≡ true → is_marked marks (needed_number arrivals d) ≡ false =
      λ n d d_is puts_it. unmarked_put stand free.there label edit is its_new (needed_number arrivals d) puts_it in
      let not_freed : (n : ℕ) (d : Edit) → edit_at edits n ≡ Some d → puts (needed_number arrivals d) edit
      ≡ true → ¬ (n ≡ label) = λ n d d_is puts_it it.
      let d_same : edit ≡ d = same_Some edit d (sym is ∙ sym (ap (edit_at edits) it) ∙ d_is) in
      not_both (is_marked marks (needed_number arrivals d)) (fresh n d d_is puts_it)
      (ap (λ (e : Edit). is_marked marks (needed_number arrivals e)) (sym d_same) ∙ needs) in
      let (l, l_in, l_num, l_makes) = stand.makes label edit is in
      let counted = subst (λ (k : ℕ). length (updates_passing Rga records (or_label passes k))
      ≡ length (updates_passing Rga records passes) + 1) l_num
      (updates_passing_insert-count Rga records passes l (update_of arrivals edit) l_in l_makes
      (ap passes l_num ∙ its_new)) in
      record {
        passes = or_label passes label;
        had_them = λ n it. elim (passes_or_is passes label n it) [
          | inl old ↦ free.had_them n old
          | inr is_it ↦ ap (or_label had first) is_it ∙ its_had
        ];
        none_waits = none_waits_with stand free.none_waits free.there label edit is its_new needs;
        shown = after;
        there = there_with stand free.there label edit is its_new with_it;
        older = λ n it. still_passes passes label n (free.older n it);
        only = λ n it. elim (passes_or_is passes label n it) [
          | inl old ↦ elim (free.only n old) [
            | inl settled_it ↦ inl settled_it
            | inr found ↦ inr (Contains-append_left labels (label ∷ []) n found)
          ]
          | inr is_it ↦ inr (Contains-append_right labels (label ∷ []) n (at_head label [] n (sym is_it)))
        ];
        gone = λ n found. elim (Contains-push_cases labels label n found) [
          | inl old ↦ still_passes passes label n (free.gone n old)
          | inr it ↦ it_passes passes label n (sym it)
        ];
        next = λ n found. elim (Contains-append_cases ready more n found) [
          | inl old ↦
              let (d, d_is, d_had, d_new, d_needs) = free.next n (before n old) in (
                d,
                d_is,
                d_had,
                others_pass passes label n (not_before_it n old)
                    ∙ d_new,
                with_it (needed_number arrivals d) ∙ or_left (is_marked marks (needed_number arrivals d))
                    (puts (needed_number arrivals d) edit) d_needs,
              )
          | inr it ↦
              let (d, d_is, n_had, n_waits, d_puts) = freed.only n it in
              let not_yet : passes n ≡ false = false_from_ne_true (passes n) (λ passes_it.
              not_both (is_marked marks (needed_number arrivals d)) (fresh n d d_is d_puts)
              (marked stand free.there free.none_waits n d d_is passes_it)) in (
                d,
                d_is,
                still_passes had first n n_had,
                others_pass passes label n (not_freed n d d_is d_puts)
                    ∙ not_yet,
                with_it (needed_number arrivals d) ∙ or_right (is_marked marks (needed_number arrivals d))
                    (puts (needed_number arrivals d) edit) d_puts,
              )
        ];
        others = λ n d d_is was_had fails. elim (cases_Bool (puts (needed_number arrivals d) edit)) [
          | inl puts_it ↦
              let waits : settled n ≡ false = false_from_ne_true (settled n)
              (λ it. not_both (passes n) (not_before passes label n fails) (free.older n it)) in
              inr (Contains-append_right ready more n (freed.all n d d_is was_had waits puts_it))
          | inr other ↦ elim (free.others n d d_is was_had (not_before passes label n fails)) [
            | inl missing ↦
                inl (with_it (needed_number arrivals d) ∙ or_from (is_marked marks (needed_number arrivals d))
                (puts (needed_number arrivals d) edit) missing other)
            | inr found ↦ elim (Contains-push_cases ready label n found) [
              | inl earlier ↦ inr (Contains-append_left ready more n earlier)
              | inr it ↦ absurd (not_it passes label n fails (sym it))
            ]
          ]
        ];
        itself = elim free.itself [
          | inl passes_it ↦ inl (still_passes passes label first passes_it)
          | inr found ↦ elim (Contains-push_cases ready label first found) [
            | inl earlier ↦ inr (Contains-append_left ready more first earlier)
            | inr it ↦ inl (it_passes passes label first (sym it))
          ]
        ];
        once = none_twice-append ready more alone.0 freed.once (λ n old it.
            let (d, d_is, d_had, d_new, d_needs) = free.next n (before n old) in
            let (e, e_is, e_had, e_waits, e_puts) = freed.only n it in
            let e_same : d ≡ e = same_Some d e (sym d_is ∙ e_is) in
            not_both (is_marked marks (needed_number arrivals e)) (fresh n e e_is e_puts)
            (ap (λ (x : Edit). is_marked marks (needed_number arrivals x)) (sym e_same) ∙ d_needs));
        count = omega (arith, counted, free.count, length-append labels (label ∷ []));
      }
