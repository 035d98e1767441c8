-- Lemmas on one more passing label of a counter, register or LWW set, and on which update is then the last.
use Rattle.std.proofs.Common.{◌≡◌, ℕ, Bool, true, false, List, [], ◌∷◌, ◌++◌, filter, Option, Some, None, refl, sym, ap, ◌∙◌, subst, inl, inr, arith}
use mathlib.Core.List.{reverse-cons}
use Rattle.std.specs.Prelude.{◌==◌, filter_map, Contains}
use Rattle.std.specs.List.{cons_option}
use Rattle.std.specs.Option.{option_or}
use Rattle.std.proofs.lemmas.Bool.{cases_Bool, eqb-true}
use Rattle.std.proofs.lemmas.List.Elements.{Contains-append_right}
use Rattle.ra_labels.specs.declared.kind.Kind.{Kind}
use Rattle.ra_labels.specs.declared.kind.Kind.TheVariants.{Counter, Register, LwwSet, OrSet}
use Rattle.ra_labels.specs.declared.operation.Update.{Update}
use Rattle.ra_labels.specs.declared.operation.Update.TheVariants.{Write}
use Rattle.ra_labels.specs.declared.label.Label.{Label}
use Rattle.ra_labels.specs.Records.{Records, label_count, labels_of}
use Rattle.ra_labels.specs.Visibility.{has_delivered}
use Rattle.ra_labels.specs.Specification.{Written, state_after, is_admitted}
use Rattle.ra_labels.specs.NamedOrder.{named_labels}
use Rattle.ra_labels.specs.TheoremTerms.{acts_on}
use Rattle.ra_labels.specs.Insertion.{updates_among, updates_passing, or_label, delivered_updates, HasUpdate}
use Rattle.ra_labels.specs.Commuting.{then_step, last_of, written_by, last_written, last_on}
use Rattle.ra_labels.specs.HistorySoFar.{NextOperation, operate, label_of}
use Rattle.ra_labels.proofs.Members.{head_or_behind, at_head, behind_head, kept-there}
use Rattle.ra_theorems.proofs.Order.{named_labels-by_number}
use Rattle.ra_theorems.proofs.States.{state_after-push}
use Rattle.ra_theorems.proofs.CommutingUpdates.{counter-late}
use Rattle.ra_theorems.proofs.OverridingUpdates.{writes-last, writes-late, last_written-append, last_written-behind}
use Rattle.ra_theorems.proofs.OverridingUpdates.{set-same, set-late, acts_at, last_on-append, last_on-cons, last_on-other}
use Rattle.ra_theorems.proofs.OverridingUpdates.{last_on-behind}
use Rattle.ra_theorems.proofs.HadUpdates.{filter_none, makes_update, had_before, among-append, among-same, among-one, among-none}
use Rattle.ra_theorems.proofs.PassingUpdates.{in-labels, one-passes, one-more, one-more_at, among-from, had-operation}

-- one more label is one step
pub counter-more : (records : Records) (passes : ℕ → Bool) (label : Label) (u : Update)
    → Contains (labels_of records) label → HasUpdate label.op u → passes label.number ≡ false
    → state_after Counter (updates_passing Counter records (or_label passes label.number))
    ≡ then_step (state_after Counter (updates_passing Counter records passes)) u
counter-more records passes label u there makes new =
    let (before, behind, is, was, now) = one-more Counter records passes label u there makes new in
    ap (state_after Counter) now
    ∙ counter-late (updates_among passes before) (updates_among passes behind) u
    ∙ sym (ap (λ us. then_step (state_after Counter us) u) was)

pub register-more : (records : Records) (passes : ℕ → Bool) (label : Label) (value last : ℕ)
    → Contains (labels_of records) label → HasUpdate label.op (Write value) → passes label.number ≡ false
    → is_admitted Register (updates_passing Register records (or_label passes label.number)) ≡ true
    → last_written (updates_passing Register records (or_label passes label.number)) ≡ Some last
    → state_after Register (updates_passing Register records (or_label passes label.number))
    ≡ then_step (state_after Register (updates_passing Register records passes)) (Write last)
register-more records passes label value last there makes new admitted found =
    let (before, behind, is, was, now) = one-more Register records passes label (Write value) there makes new in
    let first = updates_among passes before in
    let later = updates_among passes behind in
    ap (state_after Register) now
    ∙ writes-late first later value last (subst (λ us. is_admitted Register us ≡ true) now admitted)
    (last_written-behind first later value last (subst (λ us. last_written us ≡ Some last) now found))
    ∙ sym (ap (λ us. then_step (state_after Register us) (Write last)) was)

pub set-more : (records : Records) (passes : ℕ → Bool) (label : Label) (u last : Update) (x : ℕ)
    → Contains (labels_of records) label → HasUpdate label.op u → passes label.number ≡ false
    → is_admitted LwwSet (updates_passing LwwSet records (or_label passes label.number)) ≡ true → acts_on x u ≡ true
    → last_on x (updates_passing LwwSet records (or_label passes label.number)) ≡ Some last
    → state_after LwwSet (updates_passing LwwSet records (or_label passes label.number))
    ≡ then_step (state_after LwwSet (updates_passing LwwSet records passes)) last
set-more records passes label u last x there makes new admitted acts found =
    let (before, behind, is, was, now) = one-more LwwSet records passes label u there makes new in
    let first = updates_among passes before in
    let later = updates_among passes behind in
    ap (state_after LwwSet) now
    ∙ set-late first later u last x (subst (λ us. is_admitted LwwSet us ≡ true) now admitted) acts
    (last_on-behind first later u last x acts (subst (λ us. last_on x us ≡ Some last) now found))
    ∙ sym (ap (λ us. then_step (state_after LwwSet us) last) was)

-- the last label that passes has the last update
pieces : (kind : Kind) (records : Records) (passes : ℕ → Bool) (before behind : List Label) (label : Label) (u : Update)
    → named_labels kind records ≡ before ++ label ∷ behind → HasUpdate label.op u → passes label.number ≡ true
    → updates_passing kind records passes ≡ updates_among passes before ++ u ∷ updates_among passes behind
pieces kind records passes before behind label u is makes it =
    ap (updates_among passes) is ∙ among-append passes before (label ∷ behind)
    ∙ ap (λ us. updates_among passes before ++ us)
    (among-append passes (label ∷ []) behind
    ∙ ap (λ us. us ++ updates_among passes behind) (among-one passes label u makes it))

pub register-last_label : (records : Records) (passes : ℕ → Bool) (before behind : List Label) (label : Label)
    (value : ℕ) → named_labels Register records ≡ before ++ label ∷ behind → HasUpdate label.op (Write value)
    → passes label.number ≡ true
    → ((other : Label) → Contains behind other → passes other.number ≡ false)
    → last_written (updates_passing Register records passes) ≡ Some value
register-last_label records passes before behind label value is makes it none =
    ap last_written (pieces Register records passes before behind label (Write value) is makes it
    ∙ ap (λ us. updates_among passes before ++ Write value ∷ us) (among-none passes behind none))
    ∙ last_written-append (updates_among passes before) (Write value ∷ [])

none_acts : (passes : ℕ → Bool) (x : ℕ) (labels : List Label)
    → ((other : Label) (u : Update) → Contains labels other → passes other.number ≡ true → HasUpdate other.op u
    → acts_on x u ≡ false) → last_on x (updates_among passes labels) ≡ None
none_acts passes x labels none = ap last_of
    (filter_none (acts_on x) (updates_among passes labels) (λ u found. by u (among-from passes labels u found)))
  where
    by : (u : Update) → (m : Label) × Contains labels m × (passes m.number ≡ true) × HasUpdate m.op u → acts_on x u ≡ false
    by u (m, m_there, it, makes) = none m u m_there it makes

pub set-last_label : (records : Records) (passes : ℕ → Bool) (before behind : List Label) (label : Label) (u : Update)
    (x : ℕ) → named_labels LwwSet records ≡ before ++ label ∷ behind → HasUpdate label.op u → passes label.number ≡ true
    → acts_on x u ≡ true
    → ((other : Label) (v : Update) → Contains behind other → passes other.number ≡ true → HasUpdate other.op v
    → acts_on x v ≡ false) → last_on x (updates_passing LwwSet records passes) ≡ Some u
set-last_label records passes before behind label u x is makes it acts none =
    let first = updates_among passes before in
    let later = updates_among passes behind in
    ap (last_on x) (pieces LwwSet records passes before behind label u is makes it)
    ∙ last_on-append x first (u ∷ later)
    ∙ ap (λ o. option_or o (last_on x first))
    (last_on-cons x u later acts ∙ ap (λ o. option_or o (Some u)) (none_acts passes x behind none))

-- a label before the last one changes nothing
some_or : {A : Type 0} (o : Option A) (x : A) → (y : A) × (option_or o (Some x) ≡ Some y)
some_or None x = (x, refl)
some_or (Some y) x = (y, refl)

last_some : {A : Type 0} (xs : List A) (x : A) → Contains xs x → (y : A) × (last_of xs ≡ Some y)
last_some [] x there = absurd (omega (arith, there.1))
last_some (z ∷ xs) x there = some_or (last_of xs) z

pub in_option : {A : Type 0} (o : Option A) (xs : List A) (x : A) → Contains xs x → Contains (cons_option o xs) x
in_option None xs x there = there
in_option (Some z) xs x there = behind_head z xs x there

written_in : (us : List Update) (value : ℕ) → Contains us (Write value) → Contains (filter_map written_by us) value
written_in [] value there = absurd (omega (arith, there.1))
written_in (u ∷ us) value there = elim (head_or_behind u us (Write value) there) [
  | inl here ↦
      subst (λ v. Contains (cons_option (written_by v) (filter_map written_by us)) value) (sym here)
      (at_head value (filter_map written_by us) value refl)
  | inr further ↦ in_option (written_by u) (filter_map written_by us) value (written_in us value further)
]

-- the update of a passing label behind is among the updates of the passing labels
pub among-does : (passes : ℕ → Bool) (labels : List Label) (label : Label) (u : Update) → Contains labels label
    → HasUpdate label.op u → passes label.number ≡ true → Contains (updates_among passes labels) u
among-does passes [] label u there makes it = absurd (omega (arith, there.1))
among-does passes (l ∷ labels) label u there makes it =
    let split = among-append passes (l ∷ []) labels in
    subst (λ us. Contains us u) (sym split) (elim (head_or_behind l labels label there) [
      | inl here ↦
          let own = among-one passes l u (subst (λ (m : Label). HasUpdate m.op u) (sym here) makes)
          (ap (λ (m : Label). passes m.number) here ∙ it) in
          subst (λ us. Contains (us ++ updates_among passes labels) u) (sym own)
          (at_head u (updates_among passes labels) u refl)
      | inr further ↦ Contains-append_right (updates_among passes (l ∷ [])) (updates_among passes labels) u
          (among-does passes labels label u further makes it)
    ])

pub register-overridden : (records : Records) (passes : ℕ → Bool) (before behind : List Label) (label other : Label)
    (value later_value : ℕ) → named_labels Register records ≡ before ++ label ∷ behind → HasUpdate label.op (Write value)
    → passes label.number ≡ false
    → Contains behind other → HasUpdate other.op (Write later_value) → passes other.number ≡ true
    → is_admitted Register (updates_passing Register records passes) ≡ true
    → is_admitted Register (updates_passing Register records (or_label passes label.number)) ≡ true
    → state_after Register (updates_passing Register records (or_label passes label.number))
    ≡ state_after Register (updates_passing Register records passes)
register-overridden records passes before behind label other value later_value is makes new there also it admitted
    admitted_now =
    let (was, now) = one-more_at Register records passes before behind label (Write value) is makes new in
    let first = updates_among passes before in
    let later = updates_among passes behind in
    let (w, last) = last_some (filter_map written_by later) later_value
    (written_in later later_value (among-does passes behind other (Write later_value) there also it)) in
    let before_it : last_written (updates_passing Register records passes) ≡ Some w =
    ap last_written was ∙ last_written-append first later ∙ ap (λ o. option_or o (last_written first)) last in
    let with_it : last_written (updates_passing Register records (or_label passes label.number)) ≡ Some w =
    ap last_written now ∙ last_written-append first (Write value ∷ later)
    ∙ ap (λ o. option_or (option_or o (Some value)) (last_written first)) last in
    writes-last (updates_passing Register records (or_label passes label.number)) admitted_now
    ∙ ap (λ o. Some (Written o)) (with_it ∙ sym before_it)
    ∙ sym (writes-last (updates_passing Register records passes) admitted)

pub set-overridden : (records : Records) (passes : ℕ → Bool) (before behind : List Label) (label other : Label)
    (u v : Update) (x : ℕ) → named_labels LwwSet records ≡ before ++ label ∷ behind → HasUpdate label.op u
    → acts_on x u ≡ true → passes label.number ≡ false
    → Contains behind other → HasUpdate other.op v → acts_on x v ≡ true → passes other.number ≡ true
    → is_admitted LwwSet (updates_passing LwwSet records passes) ≡ true
    → is_admitted LwwSet (updates_passing LwwSet records (or_label passes label.number)) ≡ true
    → state_after LwwSet (updates_passing LwwSet records (or_label passes label.number))
    ≡ state_after LwwSet (updates_passing LwwSet records passes)
set-overridden records passes before behind label other u v x is makes acts new there also acts_too it admitted
    admitted_now =
    let (was, now) = one-more_at LwwSet records passes before behind label u is makes new in
    let first = updates_among passes before in
    let later = updates_among passes behind in
    let (w, last) = last_some (filter (acts_on x) later) v
    (kept-there (acts_on x) later v (among-does passes behind other v there also it) acts_too) in
    let at_u : (y : ℕ) → acts_on y u ≡ (y == x) = λ y. acts_at x y u acts in
    let same : (y : ℕ) → last_on y (u ∷ later) ≡ last_on y later = λ y. elim (cases_Bool (y == x)) [
      | inl here ↦
          let is_x = eqb-true y x here in
          ap (λ z. last_on z (u ∷ later)) is_x ∙ last_on-cons x u later acts ∙ ap (λ o. option_or o (Some u)) last
          ∙ sym last ∙ sym (ap (λ z. last_on z later) is_x)
      | inr other_one ↦ last_on-other y u later (at_u y ∙ other_one)
    ] in
    set-same (updates_passing LwwSet records (or_label passes label.number))
    (updates_passing LwwSet records passes) admitted_now admitted (λ y.
    ap (last_on y) now ∙ last_on-append y first (u ∷ later)
    ∙ ap (λ o. option_or o (last_on y first)) (same y)
    ∙ sym (ap (last_on y) was ∙ last_on-append y first later))

-- in execution order the newest label stands last
pub or_set-issued : (records : Records) (next : NextOperation) (u : Update) → HasUpdate next.op u
    → state_after OrSet (delivered_updates OrSet (operate next ∷ records) next.by)
    ≡ then_step (state_after OrSet (delivered_updates OrSet records next.by)) u
or_set-issued records next u makes =
    let now = operate next ∷ records in
    let label = label_of records next in
    let named = named_labels OrSet records in
    let order : named_labels OrSet now ≡ named ++ label ∷ [] =
    named_labels-by_number OrSet now (λ l. refl) ∙ reverse-cons label (labels_of records)
    ∙ ap (λ ls. ls ++ label ∷ []) (sym (named_labels-by_number OrSet records (λ l. refl))) in
    let own : has_delivered now next.by label.number ≡ true = had-operation records next label.number
    (makes_update next.op u makes) ∙ one-passes (has_delivered records next.by) (label_count records) in
    let before = among-same (has_delivered now next.by) (has_delivered records next.by) named
    (λ l found. had_before OrSet records next next.by l (in-labels OrSet records l found)) in
    ap (state_after OrSet) (ap (updates_among (has_delivered now next.by)) order ∙ among-append (has_delivered now next.by) named (label ∷ [])
    ∙ (λ i. before i ++ among-one (has_delivered now next.by) label u makes own i))
    ∙ state_after-push OrSet (delivered_updates OrSet records next.by) u
