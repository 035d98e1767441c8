-- Lemmas that state what the tests of the definitions decide, in the terms of the theorems.
use Rattle.std.proofs.Common.{◌≡◌, ℕ, ◌<◌, Bool, true, false, eqb, List, [], ◌∷◌, ◌++◌, Option, Some, None, refl, sym, ap, ◌∙◌, subst, inl, inr, arith}
use Rattle.std.specs.Prelude.{ℤ, ◌⊎◌, ◌==◌, ◌&&◌, ◌||◌, nat_lt, is_some, filter}
use Rattle.std.specs.Option.{option_map_or}
use Rattle.std.specs.Bool.{Decides}
use Rattle.std.proofs.lemmas.Bool.{false≢true, eqb-true, eq-eqb, cond_both, cond-true, or_cases, or_left, and_parts, and_from}
use Rattle.std.proofs.lemmas.Bool.Decides.{Decides-int_eq, Decides-eqb, Decides-ltb, Decides-and, Decides-or}
use Rattle.std.proofs.lemmas.Option.{none-some, same_Some}
use Rattle.std.proofs.lemmas.List.Elements.{All-contains, filter-append, filter_map-append}
use Rattle.std.proofs.lemmas.List.Sums.{AllPass-from_list_all}
use Rattle.ra_labels.specs.declared.kind.Kind.{Kind}
use Rattle.ra_labels.specs.declared.operation.Update.{Update}
use Rattle.ra_labels.specs.declared.operation.Query.{Query}
use Rattle.ra_labels.specs.declared.operation.Query.TheVariants.{Count}
use Rattle.ra_labels.specs.declared.command.Command.{Command}
use Rattle.ra_labels.specs.declared.command.Command.TheVariants.{Operate, Deliver, Join}
use Rattle.ra_labels.specs.Specification.{State, Number, answers, state_after, is_answered_after}
use Rattle.ra_labels.specs.Records.{Records, label_count}
use Rattle.ra_labels.specs.Visibility.{is_update, is_update_at, has_delivered, sees}
use Rattle.ra_labels.specs.Rewriting.{Half, Whole, QueryHalf, UpdateHalf, Act, Does, Asks, Part, update_of, query_of, updates_of}
use Rattle.ra_labels.specs.Linearization.{are_halves, is_visible_to, is_earlier_at_replica, is_query_half_of, must_precede}
use Rattle.ra_labels.specs.Linearization.{visible_updates, updates_admitted, is_query_admitted, queries_admitted}
use Rattle.ra_labels.specs.TheoremTerms.{WasIssuedAt, WasDeliveredTo, WasDeliveredBeforeJoin, WasIssuedAfterDelivery, IsUpdateSeenBy, IsEarlierAtReplica, AreHalvesOfOneLabel, EachQueryIsAnswered}
use Rattle.ra_labels.specs.HistorySoFar.{next_operation, operate}
use Rattle.ra_theorems.proofs.SeenLabels.{had-append, sees-append}
use Rattle.ra_labels.proofs.InLists.{list_all-from_contains}

-- the answer to a counter's query is right exactly if it is the state's number
pub answers-count : (number asked : ℤ) → Decides (answers (Number number) (Count asked)) (asked ≡ number)
answers-count number asked = Decides-int_eq asked number

-- the replica issued the label, received it, or joined with it
abbrev Came : Records → ℕ → ℕ → Type 0
Came records replica n =
    WasIssuedAt records replica n ⊎ WasDeliveredTo records replica n ⊎ WasDeliveredBeforeJoin records replica n

-- what has reached a replica has reached it in later records too
came_later : (command : Command) (records : Records) (replica n : ℕ) → Came records replica n
    → Came (command ∷ records) replica n
came_later command records replica n (inl (later, before, op, clock, is, number, update)) =
    inl (command ∷ later, before, op, clock, ap (λ rs. command ∷ rs) is, number, update)
came_later command records replica n (inr (inl (later, before, is, update))) =
    inr (inl (command ∷ later, before, ap (λ rs. command ∷ rs) is, update))
came_later command records replica n (inr (inr (later, before, from, is, had_it))) =
    inr (inr (command ∷ later, before, from, ap (λ rs. command ∷ rs) is, had_it))

had-came : (records : Records) (replica n : ℕ) → has_delivered records replica n ≡ true → Came records replica n
had-came [] replica n had_it = absurd (false≢true had_it)
had-came (Operate by op clock ∷ before) replica n had_it =
    elim (or_cases (by == replica && n == label_count before && is_update op) (has_delivered before replica n) had_it) [
      | inl own ↦
          let parts = and_parts (by == replica && n == label_count before) (is_update op) own in
          let place = and_parts (by == replica) (n == label_count before) parts.0 in
          inl (
            [],
            before,
            op,
            clock,
            ap (λ r. Operate r op clock ∷ before) (eqb-true by replica place.0),
            eqb-true n
                (label_count before) place.1,
            parts.1,
          )
      | inr older ↦ came_later (Operate by op clock) before replica n (had-came before replica n older)
    ]
had-came (Deliver to label ∷ before) replica n had_it =
    elim (or_cases (to == replica && n == label && is_update_at before n) (has_delivered before replica n) had_it) [
      | inl got ↦
          let parts = and_parts (to == replica && n == label) (is_update_at before n) got in
          let place = and_parts (to == replica) (n == label) parts.0 in
          let this : to ≡ replica = eqb-true to replica place.0 in
          let it : label ≡ n = sym (eqb-true n label place.1) in
          inr (inl ([], before, (λ i. Deliver (this i) (it i) ∷ before), parts.1))
      | inr older ↦ came_later (Deliver to label) before replica n (had-came before replica n older)
    ]
had-came (Join joined from ∷ before) replica n had_it =
    elim (or_cases (joined == replica && has_delivered before from n) (has_delivered before replica n) had_it) [
      | inl taken ↦
          let parts = and_parts (joined == replica) (has_delivered before from n) taken in
          inr (inr ([], before, from, ap (λ r. Join r from ∷ before) (eqb-true joined replica parts.0), parts.1))
      | inr older ↦ came_later (Join joined from) before replica n (had-came before replica n older)
    ]
had-came (command ∷ before) replica n had_it = came_later command before replica n (had-came before replica n had_it)

came-had : (records : Records) (replica n : ℕ) → Came records replica n → has_delivered records replica n ≡ true
came-had records replica n (inl (later, before, op, clock, is, number, update)) =
    let place = and_from (replica == replica) (n == label_count before) (eq-eqb replica replica refl)
    (eq-eqb n (label_count before) number) in
    let own = and_from (replica == replica && n == label_count before) (is_update op) place update in
    subst (λ rs. has_delivered rs replica n ≡ true) (sym is)
    (had-append later (Operate replica op clock ∷ before) replica n (or_left _ (has_delivered before replica n) own))
came-had records replica n (inr (inl (later, before, is, update))) =
    let place = and_from (replica == replica) (n == n) (eq-eqb replica replica refl) (eq-eqb n n refl) in
    let got = and_from (replica == replica && n == n) (is_update_at before n) place update in
    subst (λ rs. has_delivered rs replica n ≡ true) (sym is)
    (had-append later (Deliver replica n ∷ before) replica n (or_left _ (has_delivered before replica n) got))
came-had records replica n (inr (inr (later, before, from, is, had_it))) =
    let taken = and_from (replica == replica) (has_delivered before from n) (eq-eqb replica replica refl) had_it in
    subst (λ rs. has_delivered rs replica n ≡ true) (sym is)
    (had-append later (Join replica from ∷ before) replica n (or_left _ (has_delivered before replica n) taken))

-- `had` decides whether the replica issued the label, received it, or joined with it
pub had-exactly : (records : Records) (replica n : ℕ) → Decides (has_delivered records replica n) (Came records replica n)
had-exactly records replica n = (had-came records replica n, came-had records replica n)

issued_later : (command : Command) (records : Records) (n m : ℕ) → WasIssuedAfterDelivery records n m
    → WasIssuedAfterDelivery (command ∷ records) n m
issued_later command records n m (later, before, next, is, number, had_it) =
    (command ∷ later, before, next, ap (λ rs. command ∷ rs) is, number, had_it)

sees-issued : (records : Records) (n m : ℕ) → sees records n m ≡ true → WasIssuedAfterDelivery records n m
sees-issued [] n m seen = absurd (false≢true seen)
sees-issued (Operate by op clock ∷ before) n m seen =
    cond_both (eqb n (label_count before)) (has_delivered before by m) (sees before n m)
    (λ test. test ≡ true → WasIssuedAfterDelivery (Operate by op clock ∷ before) n m)
    (λ is had_it. ([], before, next_operation by op clock, refl, eqb-true n (label_count before) is, had_it))
    (λ other older. issued_later (Operate by op clock) before n m (sees-issued before n m older))
    seen
sees-issued (command ∷ before) n m seen = issued_later command before n m (sees-issued before n m seen)

issued-sees : (records : Records) (n m : ℕ) → WasIssuedAfterDelivery records n m → sees records n m ≡ true
issued-sees records n m (later, before, next, is, number, had_it) =
    let here : n < label_count (operate next ∷ before) = omega arith in
    subst (λ rs. sees rs n m ≡ true) (sym is)
    (sees-append later (operate next ∷ before) n m here
    ∙ cond-true (eqb n (label_count before)) _ _ (eq-eqb n (label_count before) number) ∙ had_it)

-- `sees` decides whether the update had been delivered to the label's replica before it issued the label
pub sees-exactly : (records : Records) (n m : ℕ) → Decides (sees records n m) (WasIssuedAfterDelivery records n m)
sees-exactly records n m = (sees-issued records n m, issued-sees records n m)

pub acts : (act : Act) → Decides (is_some (update_of act)) ((update : Update) × (act ≡ Does update))
acts (Does update) = (λ is. (update, refl), λ known. refl)
acts (Asks query) = (λ is. absurd (false≢true is), λ known. absurd (cc (known.1)))

halves : (p q : Half) → Decides (are_halves p q) ((p ≡ QueryHalf) × (q ≡ UpdateHalf))
halves QueryHalf UpdateHalf = (λ are. (refl, refl), λ known. refl)
halves QueryHalf Whole = (λ are. absurd (false≢true are), λ known. absurd (cc (known.1)))
halves QueryHalf QueryHalf = (λ are. absurd (false≢true are), λ known. absurd (cc (known.1)))
halves Whole q = (λ are. absurd (false≢true are), λ known. absurd (cc (known.0)))
halves UpdateHalf q = (λ are. absurd (false≢true are), λ known. absurd (cc (known.0)))

-- the three cases of `must_precede`
pub visible-exactly : (records : Records) (p q : Part)
    → Decides (is_visible_to records p q) (IsUpdateSeenBy records p q)
visible-exactly records p q =
    Decides-and (is_some (update_of p.act)) (sees records q.label.number p.label.number) (acts p.act)
    ((λ seen. seen), (λ seen. seen))

pub earlier-exactly : (p q : Part) → Decides (is_earlier_at_replica p q) (IsEarlierAtReplica p q)
earlier-exactly p q =
    Decides-and (p.label.replica == q.label.replica) (nat_lt p.label.number q.label.number)
    (Decides-eqb p.label.replica q.label.replica) (Decides-ltb p.label.number q.label.number)

pub halves-exactly : (p q : Part) → Decides (is_query_half_of p q) (AreHalvesOfOneLabel p q)
halves-exactly p q =
    let both = Decides-and (p.label.number == q.label.number) (are_halves p.half q.half)
    (Decides-eqb p.label.number q.label.number) (halves p.half q.half) in
    ((λ is. ((both.0 is).0, (both.0 is).1.0, (both.0 is).1.1)), (λ known. both.1 (known.0, (known.1, known.2))))

-- a disjunction of three, associated either way
one_of : {A B C : Type 0} → (A ⊎ B) ⊎ C → A ⊎ (B ⊎ C)
one_of (inl (inl a)) = inl a
one_of (inl (inr b)) = inr (inl b)
one_of (inr c) = inr (inr c)

of_both : {A B C : Type 0} → A ⊎ (B ⊎ C) → (A ⊎ B) ⊎ C
of_both (inl a) = inl (inl a)
of_both (inr (inl b)) = inl (inr b)
of_both (inr (inr c)) = inr c

pub must_precede-exactly : (records : Records) (p q : Part) → Decides (must_precede records p q)
    (IsUpdateSeenBy records p q ⊎ (IsEarlierAtReplica p q ⊎ AreHalvesOfOneLabel p q))
must_precede-exactly records p q =
    let first = Decides-or (is_visible_to records p q) (is_earlier_at_replica p q) (visible-exactly records p q)
    (earlier-exactly p q) in
    let all = Decides-or (is_visible_to records p q || is_earlier_at_replica p q) (is_query_half_of p q) first
    (halves-exactly p q) in
    ((λ must. one_of (all.0 must)), (λ cases. all.1 (of_both cases)))

-- `is_some` decides whether there is a value
pub some-exactly : {A : Type 0} (o : Option A) → Decides (is_some o) ((x : A) × (o ≡ Some x))
some-exactly None = (λ is. absurd (false≢true is), λ known. absurd (none-some known.0 known.1))
some-exactly (Some x) = (λ is. (x, refl), λ known. refl)

pub updates-exactly : (kind : Kind) (sequence : List Part)
    → Decides (updates_admitted kind sequence) ((state : State) × (state_after kind (updates_of sequence) ≡ Some state))
updates-exactly kind sequence = some-exactly (state_after kind (updates_of sequence))

pub answered : (test : State → Bool) (state : Option State) → Decides (option_map_or test state false)
    ((s : State) × (state ≡ Some s) × (test s ≡ true))
answered test None = (λ is. absurd (false≢true is), λ known. absurd (none-some known.0 known.1))
answered test (Some s) =
    (λ is. (s, refl, is), λ known. subst (λ t. test t ≡ true) (sym (same_Some s known.0 known.1)) known.2)

asked : (test : Query → Bool) (act : Act)
    → Decides (option_map_or test (query_of act) true) ((query : Query) → act ≡ Asks query → test query ≡ true)
asked test (Does update) = (λ pass query is. absurd (cc is), λ known. refl)
asked test (Asks first) = (
  λ pass query is. let same : first ≡ query = cc is in
      subst (λ q. test q ≡ true) same pass,
  λ known. known first refl,
)

pub queries-exactly : (kind : Kind) (records : Records) (sequence : List Part)
    → Decides (queries_admitted kind records sequence) (EachQueryIsAnswered kind records sequence)
queries-exactly kind records sequence =
    let seen = λ (part : Part). visible_updates records sequence part.label.number in (
      (λ pass part query there asks.
          let passes = All-contains (λ p. is_query_admitted kind records sequence p ≡ true) sequence part
          (AllPass-from_list_all (is_query_admitted kind records sequence) sequence pass) there in
          (answered (λ s. answers s query) (state_after kind (seen part))).0
          ((asked (is_answered_after kind (seen part)) part.act).0 passes query asks)),
      (λ each. list_all-from_contains (is_query_admitted kind records sequence) sequence (λ part there.
          (asked (is_answered_after kind (seen part)) part.act).1
          (λ query asks. (answered (λ s. answers s query) (state_after kind (seen part))).1 (each part query there asks)))),
    )

-- updates stand in the order of the sequence
pub updates_of-append : (first later : List Part) → updates_of (first ++ later) ≡ updates_of first ++ updates_of later
updates_of-append first later = filter_map-append (λ part. update_of part.act) first later

pub visible_updates-append : (records : Records) (first later : List Part) (n : ℕ)
    → visible_updates records (first ++ later) n ≡ visible_updates records first n ++ visible_updates records later n
visible_updates-append records first later n =
    let seen = λ (p : Part). sees records n p.label.number in
    ap updates_of (filter-append seen first later) ∙ updates_of-append (filter seen first) (filter seen later)
