-- Lemmas on the state of a register or an LWW set after the update that takes effect.
use Rattle.std.proofs.Common.{◌≡◌, ℕ, ◌<◌, true, false, List, ◌∷◌, ◌++◌, length, Option, Some, None, refl, sym, ap, ◌∙◌, subst, inl, inr, arith}
use Rattle.std.specs.Prelude.{◌⊎◌, Contains, is_some}
use Rattle.std.proofs.lemmas.Bool.{cases_Bool, and_parts, and_from, false≢true, eqb-true, eq-eqb}
use Rattle.std.proofs.lemmas.Option.{same_Some, none-some}
use Rattle.std.proofs.lemmas.List.Folds.{list_all-append}
use Rattle.std.proofs.lemmas.List.Elements.{Contains-append_right}
use Rattle.std.proofs.lemmas.List.Sorted.{Contains-permutation, IsPermutation-sym}
use Rattle.ra_labels.specs.declared.kind.Kind.{Kind}
use Rattle.ra_labels.specs.declared.kind.Kind.TheVariants.{Register, LwwSet}
use Rattle.ra_labels.specs.declared.operation.Update.{Update}
use Rattle.ra_labels.specs.declared.operation.Update.TheVariants.{Inc, Dec, Write, LwwAdd, LwwRemove, OrAdd, TakeOut, After, RgaRemove}
use Rattle.ra_labels.specs.declared.operation.Update.TheVariants as made
use Rattle.ra_labels.specs.declared.label.Stamp.{Stamp}
use Rattle.ra_labels.specs.declared.label.Label.{Label}
use Rattle.ra_labels.specs.declared.command.Command.TheVariants.{Deliver}
use Rattle.ra_labels.specs.Records.{Records, labels_of}
use Rattle.ra_labels.specs.Visibility.{has_delivered}
use Rattle.ra_labels.specs.Specification.{State, state_after, is_admitted}
use Rattle.ra_labels.specs.NamedOrder.{rank_of, named_labels}
use Rattle.ra_labels.specs.Fault.{Holds}
use Rattle.ra_labels.specs.Answer.{is_kind}
use Rattle.ra_labels.specs.TheoremTerms.{IsStampBelow, StampsAreUnique, acts_on, kind_of_update, admits_all}
use Rattle.ra_labels.specs.Insertion.{delivered_updates_of, delivered_updates, HasUpdate}
use Rattle.ra_labels.specs.Commuting.{then_step, last_written, last_on}
use Rattle.ra_labels.proofs.Members.{behind_head, split_at}
use Rattle.ra_labels.proofs.StampOrder.{not_below_itself, not_both_below}
use Rattle.ra_labels.specs.HistorySoFar.{History, history_of}
use Rattle.ra_theorems.proofs.TheoremIndex.{timestamp_is_greatest_seen-own, label_position_by_order-behind, label_order_lexicographic, named_labels_sorted-same, last_label_has_last_update-register, last_label_has_last_update-lww_set, delivery_is_one_step-register, delivery_is_one_step-lww_set, delivery_extends_delivered-own, kind_updates_admitted-only, kind_updates_admitted-exactly, state_kind}
use Rattle.ra_visibility.specs.Order.{IsByTimestamp}
use Rattle.ra_witness.specs.declared.overriding.written.Written.{Written}
use Rattle.ra_witness.specs.Labels.{updates_by_number}
use Rattle.ra_witness.specs.States.{state_at, update_at, after_step, states_after}
use Rattle.ra_witness.specs.Standing.{AreStatesOf}
use Rattle.ra_witness.specs.ElementNumbers.{element_of}
use Rattle.ra_witness.specs.Overriding.{updates_written, write_at, counting}
use Rattle.ra_witness.specs.Overridden.{IsNumberOf, AreWritesOf, IsLastOn, AreLastOf}
use Rattle.ra_witness.proofs.Causes.{are_of}
use Rattle.ra_witness.proofs.CommutingKinds.{admits-overriding}
use Rattle.ra_witness.proofs.ReplicaStates.{kept-delivery, stepped}
use Rattle.ra_witness.proofs.DoneUpdates.{its_write, written_made, update_of_write, had_makes, done_of_kind}
use Rattle.ra_witness.proofs.DeliveredLasts.{one_write, IsNewWrite, counting-last}

-- updates that led to a state are still admitted with one more update of the kind among them
pub still_led : (kind : Kind) (first later : List Update) (u : Update) (s : State) → admits_all kind ≡ true → state_after kind (first ++ later) ≡ Some s
    → is_kind kind (kind_of_update u) ≡ true → is_admitted kind (first ++ u ∷ later) ≡ true
still_led kind first later u s admits led of_kind =
    let test = λ (v : Update). is_kind kind (kind_of_update v) in
    let all = kind_updates_admitted-only kind (first ++ later) (ap is_some led) in
    let two = and_parts (are_of kind first) (are_of kind later) (sym (list_all-append test first later) ∙ all) in
    kind_updates_admitted-exactly kind (first ++ u ∷ later) admits
    ∙ list_all-append test first (u ∷ later)
    ∙ and_from (are_of kind first) (are_of kind (u ∷ later)) two.0 (and_from (test u) (are_of kind later) of_kind two.1)

pub admitted_delivered : (kind : Kind) (records : Records) (to : ℕ) (label : Label) (u : Update) (s : State) → admits_all kind ≡ true → Contains (labels_of records) label → HasUpdate label.op u
    → has_delivered records to label.number ≡ false → state_after kind (delivered_updates kind records to) ≡ Some s → is_kind kind (kind_of_update u) ≡ true
    → is_admitted kind (delivered_updates kind (Deliver to label.number ∷ records) to) ≡ true
admitted_delivered kind records to label u s admits there makes new led of_kind =
    let (before, behind, is, was, now) = delivery_extends_delivered-own kind records to label u there makes new in
    ap (is_admitted kind) now
    ∙ still_led kind (delivered_updates_of records to before) (delivered_updates_of records to behind) u s admits (sym (ap (state_after kind) was) ∙ led) of_kind

-- a label's own stamp is its rank
rank_is : (kind : Kind) (records : Records) (label : Label) (s : Stamp) → IsByTimestamp kind → label.stamp ≡ Some s → rank_of kind records label ≡ s
rank_is kind records label s sorts is = sorts records label ∙ timestamp_is_greatest_seen-own records label s is

module _ (kind : Kind) (writes : List (Option Written)) (number_of : ℕ → Option ℕ) (records : Records) (to c k : ℕ)
    (sorts : IsByTimestamp kind) (kept : updates_written writes ≡ updates_by_number records) (are : AreWritesOf writes number_of records)
    (last : IsLastOn writes records to c k) where
  last_stamp : last.label.stamp ≡ Some last.write.stamp
  last_stamp = are.stamps last.label last.write last.there (ap (write_at writes) last.number ∙ last.found)

  -- no label behind the last one writes to its element
  pub none_behind : (before behind : List Label) → named_labels kind records ≡ before ++ last.label ∷ behind → (other : Label) (v : Written) → Contains behind other
      → has_delivered records to other.number ≡ true → write_at writes other.number ≡ Some v → ¬ (v.on ≡ c)
  none_behind before behind is other v late h at on =
      let named : Contains (named_labels kind records) other = subst (λ ls. Contains ls other) (sym is) (Contains-append_right before (last.label ∷ behind) other (behind_head last.label behind other late)) in
      let there = Contains-permutation (named_labels kind records) (labels_of records) other (IsPermutation-sym (labels_of records) (named_labels kind records) (named_labels_sorted-same kind records)) named in
      let less = (label_position_by_order-behind kind records before behind last.label other is there).0 late in
      let own = rank_is kind records last.label last.write.stamp sorts last_stamp in
      let its = rank_is kind records other v.stamp sorts (are.stamps other v there at) in
      by own its ((label_order_lexicographic kind records last.label other).0 less) (last.above other v there h at on)
    where
      same_stamp : other.number ≡ k → v.stamp ≡ last.write.stamp
      same_stamp same = ap (λ (w : Written). w.stamp) (one_write writes other.number k v last.write same at last.found)

      by : rank_of kind records last.label ≡ last.write.stamp → rank_of kind records other ≡ v.stamp
          → IsStampBelow (rank_of kind records last.label) (rank_of kind records other) ⊎ ((rank_of kind records last.label ≡ rank_of kind records other) × (last.label.number < other.number))
          → (other.number ≡ k) ⊎ IsStampBelow v.stamp last.write.stamp → ⊥
      by own its (inl below) (inl same) = not_below_itself (rank_of kind records last.label) (rank_of kind records other) (own ∙ sym (same_stamp same) ∙ sym its) below
      by own its (inl below) (inr lower) =
          not_both_below last.write.stamp v.stamp (subst (λ s. IsStampBelow s v.stamp) own (subst (λ s. IsStampBelow (rank_of kind records last.label) s) its below)) lower
      by own its (inr tie) (inl same) = let n = last.number in omega (arith, tie.1, same, n)
      by own its (inr tie) (inr lower) = not_below_itself v.stamp last.write.stamp (sym its ∙ sym tie.0 ∙ own) lower

  pub split : (before behind : List Label) × (named_labels kind records ≡ before ++ last.label ∷ behind)
  split = split_at (named_labels kind records) last.label (Contains-permutation (labels_of records) (named_labels kind records) last.label (named_labels_sorted-same kind records) last.there)

  pub last_makes : HasUpdate last.label.op last.write.update
  last_makes = written_made writes records last.label last.write kept last.there (ap (write_at writes) last.number ∙ last.found)

  pub last_had : has_delivered records to last.label.number ≡ true
  last_had = ap (has_delivered records to) last.number ∙ last.had_it

-- the update of a register's label is a write, which names no element
only_writes : (u : Update) → is_kind Register (kind_of_update u) ≡ true → (value : ℕ) × (u ≡ Write value)
only_writes (Write value) is = (value, refl)
only_writes u is = absurd (false≢true is)

no_element : (u : Update) → is_kind Register (kind_of_update u) ≡ true → element_of u ≡ None
no_element (Write value) is = refl
no_element u is = absurd (false≢true is)

-- the update of a set's label acts on an element
on_element : (u : Update) → is_kind LwwSet (kind_of_update u) ≡ true → (x : ℕ) × (element_of u ≡ Some x)
on_element (LwwAdd x) is = (x, refl)
on_element (LwwRemove x) is = (x, refl)
on_element u is = absurd (false≢true is)

acts_there : (x : ℕ) (u : Update) → element_of u ≡ Some x → acts_on x u ≡ true
acts_there x (LwwAdd y) is = eq-eqb x y (sym (same_Some y x is))
acts_there x (LwwRemove y) is = eq-eqb x y (sym (same_Some y x is))
acts_there x Inc is = absurd (none-some x is)
acts_there x Dec is = absurd (none-some x is)
acts_there x (Write value) is = absurd (none-some x is)
acts_there x (OrAdd y id) is = absurd (none-some x is)
acts_there x (TakeOut y ids) is = absurd (none-some x is)
acts_there x (After anchor y) is = absurd (none-some x is)
acts_there x (RgaRemove y) is = absurd (none-some x is)
acts_there x (made.List change) is = absurd (none-some x is)
acts_there x made.AnyUpdate is = absurd (none-some x is)
acts_there x (made.MvWrite value) is = absurd (none-some x is)

there_acts : (x : ℕ) (u : Update) → acts_on x u ≡ true → element_of u ≡ Some x
there_acts x (LwwAdd y) is = ap Some (sym (eqb-true x y is))
there_acts x (LwwRemove y) is = ap Some (sym (eqb-true x y is))
there_acts x u is = absurd (false≢true is)

numbered : (number_of : ℕ → Option ℕ) (e : Option ℕ) (x number : ℕ) → e ≡ Some x → IsNumberOf number_of e number → number_of x ≡ Some number
numbered number_of e x number is known = subst (λ o. IsNumberOf number_of o number) is known

unnumbered : (number_of : ℕ → Option ℕ) (e : Option ℕ) (number : ℕ) → e ≡ None → IsNumberOf number_of e number → number ≡ 0
unnumbered number_of e number is known = subst (λ o. IsNumberOf number_of o number) is known

-- both kinds rank labels by timestamps
pub by_timestamp : (kind : Kind) → (kind ≡ Register) ⊎ (kind ≡ LwwSet) → IsByTimestamp kind
by_timestamp kind (inl is) = subst IsByTimestamp (sym is) (λ rs l. refl)
by_timestamp kind (inr is) = subst IsByTimestamp (sym is) (λ rs l. refl)

-- the maintained state of a register or an LWW set is that of the past, which holds and in which stamps are unique, and
-- the replica exists
pub record WritesStand (writes : List (Option Written)) (lasts : List (List (Option ℕ))) (number_of : ℕ → Option ℕ)
    (states : List State) (past : History) (to : ℕ) : Type 0 where
  pub of_two : (past.kind ≡ Register) ⊎ (past.kind ≡ LwwSet)
  pub kept : AreStatesOf (updates_written writes) states past
  pub are : AreWritesOf writes number_of past.records
  pub are_last : AreLastOf writes lasts past.records
  pub once : StampsAreUnique past.records
  pub holds : Holds past.kind past.records
  pub within : to < length lasts
  pub there : to < length states

module _ {writes : List (Option Written)} {lasts : List (List (Option ℕ))} {number_of : ℕ → Option ℕ}
    {states : List State} {past : History} {to n : ℕ}
    (given : WritesStand writes lasts number_of states past to) (it : IsNewWrite writes past.records to n) where
  sorts : IsByTimestamp past.kind
  sorts = by_timestamp past.kind given.of_two

  admits : admits_all past.kind ≡ true
  admits = admits-overriding past.kind given.of_two

  abbrev now : Records
  now = Deliver to n ∷ past.records

  -- the records with the delivery, in terms of the label's own number
  abbrev by_own_number : Records
  by_own_number = Deliver to it.label.number ∷ past.records

  abbrev counts : ℕ
  counts = counting writes lasts to n it.write

  abbrev are_now : AreWritesOf writes number_of now
  are_now = record { stamps = given.are.stamps; numbers = given.are.numbers; one = given.are.one }

  abbrev last : IsLastOn writes now to it.write.on counts
  last = counting-last writes lasts number_of past.records to n given.are given.are_last given.once given.within it

  its_makes : HasUpdate it.label.op it.write.update
  its_makes = written_made writes past.records it.label it.write given.kept.labels it.there
      (ap (write_at writes) it.number ∙ it.found)

  its_new : has_delivered past.records to it.label.number ≡ false
  its_new = ap (has_delivered past.records to) it.number ∙ it.new

  of_kind : (label : Label) (u : Update) → Contains (labels_of past.records) label → HasUpdate label.op u
      → is_kind past.kind (kind_of_update u) ≡ true
  of_kind label u found makes = done_of_kind past.kind past.records label u given.holds found makes

  its_kind : is_kind past.kind (kind_of_update it.write.update) ≡ true
  its_kind = of_kind it.label it.write.update it.there its_makes

  admitted : is_admitted past.kind (delivered_updates past.kind by_own_number to) ≡ true
  admitted = admitted_delivered past.kind past.records to it.label it.write.update (state_at states to) admits
      it.there its_makes its_new (given.kept.folded to given.there) its_kind

  last_own : HasUpdate last.label.op last.write.update
  last_own = last_makes past.kind writes number_of now to it.write.on counts sorts given.kept.labels are_now last

  last_kind : is_kind past.kind (kind_of_update last.write.update) ≡ true
  last_kind = of_kind last.label last.write.update last.there last_own

  last_is_had : has_delivered now to last.label.number ≡ true
  last_is_had = last_had past.kind writes number_of now to it.write.on counts sorts given.kept.labels are_now last

  last_stands : (before behind : List Label) × (named_labels past.kind now ≡ before ++ last.label ∷ behind)
  last_stands = split past.kind writes number_of now to it.write.on counts sorts given.kept.labels are_now last

  -- the new state is the old one after the update that takes effect
  abbrev IsOneStep : Type 0
  IsOneStep = state_after past.kind (delivered_updates past.kind by_own_number to)
      ≡ then_step (state_after past.kind (delivered_updates past.kind past.records to)) last.write.update

  -- the state after the update that takes effect
  led_by : IsOneStep → state_after past.kind (delivered_updates past.kind now to)
      ≡ Some (after_step (state_at states to) (update_at (updates_written writes) counts))
  led_by step =
      let led = given.kept.folded to given.there in
      let was = delivered_updates past.kind past.records to in
      ap (λ m. state_after past.kind (delivered_updates past.kind (Deliver to m ∷ past.records) to)) (sym it.number)
      ∙ step
      ∙ stepped past.kind (state_after past.kind was) (state_at states to) last.write.update led
      (state_kind past.kind was (state_at states to) led) last_kind admits
      ∙ ap (λ o. Some (after_step (state_at states to) o)) (sym (update_of_write writes counts last.write last.found))

  -- the states after the delivery
  abbrev AreKept : Type 0
  AreKept = AreStatesOf (updates_written writes) (states_after states to (update_at (updates_written writes) counts))
      (history_of past.kind past.initial_replicas now)

  kept-made : IsOneStep → AreKept
  kept-made step = kept-delivery (updates_written writes) states past given.kept to n
      (update_at (updates_written writes) counts) given.there (led_by step)

  -- no label behind the last one writes to its element
  none_on : (before behind : List Label) → named_labels past.kind now ≡ before ++ last.label ∷ behind
      → (other : Label) (v : Written) → Contains behind other → has_delivered now to other.number ≡ true
      → write_at writes other.number ≡ Some v → ¬ (v.on ≡ it.write.on)
  none_on = none_behind past.kind writes number_of now to it.write.on counts sorts given.kept.labels are_now last

  named_there : (before behind : List Label) → named_labels past.kind now ≡ before ++ last.label ∷ behind
      → (other : Label) → Contains behind other → Contains (labels_of past.records) other
  named_there before behind is other late =
      let named : Contains (named_labels past.kind now) other = subst (λ ls. Contains ls other) (sym is)
      (Contains-append_right before (last.label ∷ behind) other (behind_head last.label behind other late)) in
      Contains-permutation (named_labels past.kind now) (labels_of now) other
      (IsPermutation-sym (labels_of now) (named_labels past.kind now) (named_labels_sorted-same past.kind now)) named

-- for a register
module _ {writes : List (Option Written)} {lasts : List (List (Option ℕ))} {number_of : ℕ → Option ℕ}
    {states : List State} {initial_replicas : ℕ} {records : Records} {to n : ℕ}
    (given : WritesStand writes lasts number_of states (history_of Register initial_replicas records) to)
    (it : IsNewWrite writes records to n) where
  -- each write is to the single value, numbered 0
  on_zero : (label : Label) (write : Written) → Contains (labels_of records) label
      → write_at writes label.number ≡ Some write → write.on ≡ 0
  on_zero label write found at =
      let makes = written_made writes records label write given.kept.labels found at in
      unnumbered number_of (element_of write.update) write.on
      (no_element write.update (of_kind given it label write.update found makes)) (given.are.numbers label.number write at)

  none_had : (before behind : List Label) → named_labels Register (now given it) ≡ before ++ (last given it).label ∷ behind
      → (other : Label) → Contains behind other → has_delivered (now given it) to other.number ≡ false
  none_had before behind is other late = elim (cases_Bool (has_delivered (now given it) to other.number)) [
    | inl h ↦
        let found = named_there given it before behind is other late in
        let (u, makes) = had_makes (now given it) to other found h in
        let (v, at, same) = its_write writes (now given it) other u given.kept.labels found makes in
        let on : v.on ≡ it.write.on = on_zero other v found at
        ∙ sym (on_zero it.label it.write it.there
        (ap (write_at writes) it.number ∙ it.found)) in
        absurd (none_on given it before behind is other v late h at on)
    | inr not_had ↦ not_had
  ]

  last_value : (value : ℕ) → (last given it).write.update ≡ Write value
      → last_written (delivered_updates Register (now given it) to) ≡ Some value
  last_value value is_write =
      let (before, behind, is) = last_stands given it in
      last_label_has_last_update-register (now given it) (has_delivered (now given it) to) before behind (last given it).label value
      is (subst (λ u. HasUpdate (last given it).label.op u) is_write (last_own given it)) (last_is_had given it)
      (none_had before behind is)

  kept-register : AreKept given it
  kept-register =
      let (own, is_own) = only_writes it.write.update (its_kind given it) in
      let (counted, is_counted) = only_writes (last given it).write.update (last_kind given it) in
      let says = subst (λ m. last_written (delivered_updates Register (Deliver to m ∷ records) to) ≡ Some counted)
      (sym it.number) (last_value counted is_counted) in
      kept-made given it
      (delivery_is_one_step-register records to it.label own counted it.there
      (subst (λ u. HasUpdate it.label.op u) is_own (its_makes given it)) (its_new given it) (admitted given it) says
      ∙ ap (then_step (state_after Register (delivered_updates Register records to))) (sym is_counted))

-- for an LWW set
module _ {writes : List (Option Written)} {lasts : List (List (Option ℕ))} {number_of : ℕ → Option ℕ}
    {states : List State} {initial_replicas : ℕ} {records : Records} {to n : ℕ}
    (given : WritesStand writes lasts number_of states (history_of LwwSet initial_replicas records) to)
    (it : IsNewWrite writes records to n) where
  -- the number in the write is that of its element
  its_number : (x : ℕ) → element_of it.write.update ≡ Some x → number_of x ≡ Some it.write.on
  its_number x is = numbered number_of (element_of it.write.update) x it.write.on is
      (given.are.numbers n it.write it.found)

  last_element : (x : ℕ) → element_of it.write.update ≡ Some x → element_of (last given it).write.update ≡ Some x
  last_element x is =
      let write = (last given it).write in
      let (y, on_y) = on_element write.update (last_kind given it) in
      let known = numbered number_of (element_of write.update) y write.on on_y
      (given.are.numbers (counts given it) write (last given it).found) in
      on_y ∙ ap Some (given.are.one y x it.write.on (known ∙ ap Some (last given it).on) (its_number x is))

  none_acts : (x : ℕ) → element_of it.write.update ≡ Some x → (before behind : List Label)
      → named_labels LwwSet (now given it) ≡ before ++ (last given it).label ∷ behind → (other : Label) (later : Update)
      → Contains behind other → has_delivered (now given it) to other.number ≡ true → HasUpdate other.op later → acts_on x later ≡ false
  none_acts x element before behind is other later late h makes = elim (cases_Bool (acts_on x later)) [
    | inl acts ↦
        let found = named_there given it before behind is other late in
        let (v, at, same) = its_write writes (now given it) other later given.kept.labels found makes in
        let known = numbered number_of (element_of v.update) x v.on (ap element_of same ∙ there_acts x later acts)
        (given.are.numbers other.number v at) in
        absurd (none_on given it before behind is other v late h at
        (same_Some v.on it.write.on (sym known ∙ its_number x element)))
    | inr elsewhere ↦ elsewhere
  ]

  last_update : (x : ℕ) → element_of it.write.update ≡ Some x
      → last_on x (delivered_updates LwwSet (now given it) to) ≡ Some (last given it).write.update
  last_update x element =
      let (before, behind, is) = last_stands given it in
      last_label_has_last_update-lww_set (now given it) (has_delivered (now given it) to) before behind (last given it).label
      (last given it).write.update x is (last_own given it) (last_is_had given it)
      (acts_there x (last given it).write.update (last_element x element)) (none_acts x element before behind is)

  kept-lww_set : AreKept given it
  kept-lww_set =
      let (x, element) = on_element it.write.update (its_kind given it) in
      let says = subst (λ m. last_on x (delivered_updates LwwSet (Deliver to m ∷ records) to) ≡ Some (last given it).write.update)
      (sym it.number) (last_update x element) in
      kept-made given it
      (delivery_is_one_step-lww_set records to it.label it.write.update (last given it).write.update x it.there
      (its_makes given it) (its_new given it) (admitted given it) (acts_there x it.write.update element) says)

-- for either kind
module _ {writes : List (Option Written)} {lasts : List (List (Option ℕ))} {number_of : ℕ → Option ℕ}
    {states : List State} {past : History} {to n : ℕ} (given : WritesStand writes lasts number_of states past to)
    (it : IsNewWrite writes past.records to n) where
  abbrev StandsAs : Kind → Type 0
  StandsAs kind = WritesStand writes lasts number_of states (history_of kind past.initial_replicas past.records) to

  abbrev AreKeptAs : Kind → Type 0
  AreKeptAs kind = AreStatesOf (updates_written writes)
      (states_after states to (update_at (updates_written writes) (counting writes lasts to n it.write)))
      (history_of kind past.initial_replicas (Deliver to n ∷ past.records))

  pub kept-overriding : AreKeptAs past.kind
  kept-overriding = elim given.of_two [
    | inl is ↦ subst AreKeptAs (sym is) (kept-register (subst StandsAs is given) it)
    | inr is ↦ subst AreKeptAs (sym is) (kept-lww_set (subst StandsAs is given) it)
  ]
