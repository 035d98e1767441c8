-- Lemmas on the maintained state of a register and an LWW set after one more label or delivery.
use Rattle.std.proofs.Common.{◌≡◌, ℕ, ◌<◌, ◌≤◌, ◌+◌, Bool, true, false, cond, List, ◌∷◌, length, Option, Some, None, refl, sym, ap, ◌∙◌, subst, inl, inr, arith}
use Rattle.std.specs.Prelude.{nat_eq, vec_len, is_some, unwrap_or, option_map}
use Rattle.std.specs.HashMap.{get, hash_map_len}
use Rattle.std.proofs.lemmas.Bool.{cases_eq, eq-eqb, ne_eqb, false≢true}
use Rattle.std.proofs.lemmas.Option.{same_Some}
use Rattle.std.proofs.lemmas.List.{length-map}
use Rattle.ra_labels.specs.declared.operation.Update.{Update}
use Rattle.ra_labels.specs.declared.command.Command.TheVariants.{Deliver}
use Rattle.ra_labels.specs.Records.{label_count, replica_count}
use Rattle.ra_labels.specs.Visibility.{is_update_at}
use Rattle.ra_labels.specs.Specification.{State}
use Rattle.ra_labels.specs.HistorySoFar.{History, history_of, history_with}
use Rattle.ra_witness.specs.declared.overriding.written.Written.{Written}
use Rattle.ra_witness.specs.declared.overriding.Overriding.{Overriding}
use Rattle.ra_witness.specs.Labels.{update_in}
use Rattle.ra_witness.specs.States.{state_at, update_at, states_after, CanStep}
use Rattle.ra_witness.specs.Standing.{AreStatesOf}
use Rattle.ra_witness.specs.ElementNumbers.{number_in, number_with, count_with}
use Rattle.ra_witness.specs.Overriding.{updates_written, write_at, labels_in, last_label, counting, last_with}
use Rattle.ra_witness.specs.Overridden.{AreWritesOf, AreLastOf, AreBelow}
use Rattle.ra_witness.specs.Offered.{IsDelivered}
use Rattle.ra_witness.specs.Effects.{IsOverridingOf}
use Rattle.ra_witness.proofs.NumberedLabels.{updates_counted, update_found, makes_it, makes_none}
use Rattle.ra_witness.proofs.DoneUpdates.{its_write}
use Rattle.ra_witness.proofs.DeliveredLasts.{is_new_write, lasts-kept}
use Rattle.ra_witness.proofs.CountingUpdates.{kept-overriding}
use Rattle.ra_witness.proofs.TakenLabels.{still_below}
use Rattle.ra_witness.proofs.Range.{can_step}

abbrev pub numbers_of : Overriding → ℕ → Option ℕ
numbers_of kept = get nat_eq kept.numbers.numbers

-- there is one entry of the writes for each label
pub writes_counted : (kept : Overriding) (past : History) → IsOverridingOf kept past → length kept.writes.items ≡ label_count past.records
writes_counted kept past stands =
    omega (arith, length-map kept.writes.items (option_map (λ (w : Written). w.update)), ap length stands.states.labels, updates_counted past.records)

pub lasts_counted : (kept : Overriding) (past : History) → IsOverridingOf kept past → length (labels_in kept.lasts.items) ≡ replica_count past.initial_replicas past.records
lasts_counted kept past stands = length-map kept.lasts.items (λ last. last.labels.items) ∙ stands.replicas

-- a delivered label has a write
pub told_write : (kept : Overriding) (past : History) (n : ℕ) → IsOverridingOf kept past → is_update_at past.records n ≡ true
    → (write : Written) × (write_at kept.writes.items n ≡ Some write)
told_write kept past n stands is =
    let (label, at) = update_found past.records n is in
    let made : (o : Option Update) → update_in label.op ≡ o → (write : Written) × (write_at kept.writes.items n ≡ Some write) = elim [
      | None ↦ λ none. absurd (false≢true (sym (makes_none label.op none) ∙ at.update))
      | Some u ↦ λ some.
          let (write, found, same) = its_write kept.writes.items past.records label u stands.states.labels at.there (makes_it label.op u some) in
          (write, ap (write_at kept.writes.items) (sym at.number) ∙ found)
    ] in
    made (update_in label.op) refl

module _ (kept : Overriding) (past : History) (stands : IsOverridingOf kept past) (to n : ℕ) (told : IsDelivered past to n)
    (write : Written) (found : write_at kept.writes.items n ≡ Some write) where
  abbrev writes : List (Option Written)
  writes = kept.writes.items

  abbrev lasts : List (List (Option ℕ))
  lasts = labels_in kept.lasts.items

  abbrev next_states : List State
  next_states = states_after kept.states.items to (update_at (updates_written writes) (counting writes lasts to n write))

  within : to < length lasts
  within = omega (arith, lasts_counted kept past stands, told.replica)

  -- the states after the delivery
  pub states_brought : AreStatesOf (updates_written writes) next_states (history_with past (Deliver to n))
  states_brought = kept-overriding
      (record {
        of_two = stands.one;
        kept = stands.states;
        are = stands.writes;
        are_last = stands.lasts;
        once = told.stamps;
        holds = told.holds;
        within = within;
        there = omega (arith, stands.states.replicas, told.replica);
      })
      (is_new_write writes past.records to n write told.update told.causal.0 found)

  pub can_bring : label_count past.records ≤ 1048576 → CanStep (state_at kept.states.items to) (update_at (updates_written writes) (counting writes lasts to n write))
  can_bring few =
      can_step (updates_written writes) kept.states.items (history_with past (Deliver to n)) to (update_at (updates_written writes) (counting writes lasts to n write)) states_brought
      (omega (arith, stands.states.replicas, told.replica)) few

  pub overriding_told : (new : Overriding) → new.writes ≡ kept.writes → new.numbers ≡ kept.numbers → vec_len new.lasts ≡ vec_len kept.lasts → new.states.items ≡ next_states
      → ((q c : ℕ) → last_label (labels_in new.lasts.items) q c ≡ last_with lasts to write.on (counting writes lasts to n write) q c)
      → IsOverridingOf new (history_with past (Deliver to n))
  overriding_told new same_writes same_numbers same_count states says =
      let now = Deliver to n ∷ past.records in
      let its_writes : new.writes.items ≡ writes = ap (λ ws. ws.items) same_writes in
      let its_numbers : numbers_of new ≡ numbers_of kept = ap (λ ns. get nat_eq ns.numbers) same_numbers in
      let count : length new.lasts.items ≡ length kept.lasts.items = omega (arith, new.lasts.ok.0, kept.lasts.ok.0, same_count) in
      let same : length (labels_in new.lasts.items) ≡ length lasts =
      length-map new.lasts.items (λ last. last.labels.items) ∙ count ∙ sym (length-map kept.lasts.items (λ last. last.labels.items)) in
      record {
        one = stands.one;
        states =
            subst (λ ws. AreStatesOf (updates_written ws) new.states.items (history_of past.kind past.initial_replicas now)) (sym its_writes)
            (subst (λ ss. AreStatesOf (updates_written writes) ss (history_of past.kind past.initial_replicas now)) (sym states) states_brought);
        writes =
            subst (λ ws. AreWritesOf ws (numbers_of new) now) (sym its_writes)
            (subst (λ ns. AreWritesOf writes ns now) (sym its_numbers)
            (record { stamps = stands.writes.stamps; numbers = stands.writes.numbers; one = stands.writes.one }));
        lasts =
            subst (λ ws. AreLastOf ws (labels_in new.lasts.items) now) (sym its_writes)
            (lasts-kept writes lasts (numbers_of kept) past.records to n stands.writes stands.lasts told.stamps within
            (is_new_write writes past.records to n write told.update told.causal.0 found) (labels_in new.lasts.items) same says);
        replicas = count ∙ stands.replicas;
        numbers = subst (λ ns. AreBelow (get nat_eq ns.numbers) (hash_map_len ns.numbers)) (sym same_numbers) stands.numbers;
        few = subst (λ ns. hash_map_len ns.numbers ≤ label_count past.records) (sym same_numbers) stands.few;
      }

-- the unchanged maintained state
pub overriding_same : (old new : Overriding) (past : History) → IsOverridingOf old past
    → new.writes.items ≡ old.writes.items → new.states.items ≡ old.states.items → vec_len new.lasts ≡ vec_len old.lasts
    → ((q c : ℕ) → last_label (labels_in new.lasts.items) q c ≡ last_label (labels_in old.lasts.items) q c)
    → ((x : ℕ) → get nat_eq new.numbers.numbers x ≡ get nat_eq old.numbers.numbers x) → hash_map_len new.numbers.numbers ≡ hash_map_len old.numbers.numbers
    → IsOverridingOf new past
overriding_same old new past stands its_writes states same_count says pointwise size =
    let its_numbers : numbers_of new ≡ numbers_of old = λ i x. pointwise x i in
    let count : length new.lasts.items ≡ length old.lasts.items = omega (arith, new.lasts.ok.0, old.lasts.ok.0, same_count) in
    let same : length (labels_in new.lasts.items) ≡ length (labels_in old.lasts.items) =
    length-map new.lasts.items (λ last. last.labels.items) ∙ count ∙ sym (length-map old.lasts.items (λ last. last.labels.items)) in
    let lasts : AreLastOf old.writes.items (labels_in new.lasts.items) past.records = record {
      some = λ q c k there is. stands.lasts.some q c k (omega (arith, there, same)) (sym (says q c) ∙ is);
      none = λ q c there is. stands.lasts.none q c (omega (arith, there, same)) (sym (says q c) ∙ is);
    } in
    record {
      one = stands.one;
      states =
          subst (λ ws. AreStatesOf (updates_written ws) new.states.items past) (sym its_writes)
          (subst (λ ss. AreStatesOf (updates_written old.writes.items) ss past) (sym states) stands.states);
      writes =
          subst (λ ws. AreWritesOf ws (numbers_of new) past.records) (sym its_writes)
          (subst (λ ns. AreWritesOf old.writes.items ns past.records) (sym its_numbers) stands.writes);
      lasts = subst (λ ws. AreLastOf ws (labels_in new.lasts.items) past.records) (sym its_writes) lasts;
      replicas = count ∙ stands.replicas;
      numbers =
          subst (λ ns. AreBelow ns (hash_map_len new.numbers.numbers)) (sym its_numbers)
          (subst (λ k. AreBelow (numbers_of old) k) (sym size) stands.numbers);
      few = omega (arith, size, stands.few);
    }

-- the elements' numbers stay below their count
module _ (number_of : ℕ → Option ℕ) (count : ℕ) (one : (x y number : ℕ) → number_of x ≡ Some number → number_of y ≡ Some number → x ≡ y) (below : AreBelow number_of count) where
  known_below : (x k : ℕ) → number_of x ≡ Some k → AreBelow (number_with number_of (Some x) k) count
  known_below x k is y number at = elim (cases_eq x y) [
    | inl same ↦
        let its : k ≡ number = same_Some k number (sym (ap (λ b. cond b (Some k) (number_of y)) (eq-eqb x y same)) ∙ at) in
        let lower = below x k is in omega (arith, its, lower)
    | inr differ ↦ below y number (sym (ap (λ b. cond b (Some k) (number_of y)) (ne_eqb x y differ)) ∙ at)
  ]

  pub below_with : (e : Option ℕ) → AreBelow (number_with number_of e (number_in number_of count e)) (count_with number_of count e)
  below_with None = below
  below_with (Some x) = by (number_of x) refl
    where
      by : (q : Option ℕ) → number_of x ≡ q → AreBelow (number_with number_of (Some x) (number_in number_of count (Some x))) (count_with number_of count (Some x))
      by (Some k) is =
          subst (λ m. AreBelow (number_with number_of (Some x) m) (count_with number_of count (Some x))) (sym (ap (λ q. unwrap_or q count) is))
          (subst (λ m. AreBelow (number_with number_of (Some x) k) m) (sym (ap (λ q. cond (is_some q) count (count + 1)) is)) (known_below x k is))
      by None is =
          subst (λ m. AreBelow (number_with number_of (Some x) (number_in number_of count (Some x))) m) (sym (ap (λ q. cond (is_some q) count (count + 1)) is))
          (still_below number_of count (Some x) one below)

pub count_grows : (number_of : ℕ → Option ℕ) (count : ℕ) (e : Option ℕ) → count_with number_of count e ≤ count + 1
count_grows number_of count None = omega arith
count_grows number_of count (Some x) = by (is_some (number_of x))
  where
    by : (b : Bool) → cond b count (count + 1) ≤ count + 1
    by true = omega arith
    by false = omega arith
