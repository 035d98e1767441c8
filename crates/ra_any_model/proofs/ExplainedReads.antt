-- Lemmas on reads that a deterministic specification explains.
use Rattle.std.proofs.Common.{◌≡◌, ◌↔◌, ℕ, ◌<◌, Bool, true, false, List, [], ◌∷◌, ◌++◌, filter, Option, Some, None, refl, sym, ap, ◌∙◌, subst, inl, inr, arith, append_assoc}
use Rattle.std.specs.Prelude.{◌==◌, ◌||◌, ◌&&◌, nat_lt, nat_eq, is_some, unwrap_or, Contains, IsPermutation}
use Rattle.std.specs.Option.{option_map_or}
use Rattle.std.specs.List.{find, range_with_len}
use Rattle.std.specs.Cmp.Lexicographic.{pointwise}
use Rattle.std.proofs.lemmas.Bool.{false≢true, cases_Bool, cases_lt, and_parts, and_from, or_from, and_right, le-ltb, eq-eqb, eqb-true, false_from_ne_true}
use Rattle.std.proofs.lemmas.Option.{none-some, same_Some}
use Rattle.std.proofs.lemmas.List.{append-nil}
use Rattle.std.proofs.lemmas.List.Sorted.{IsPermutation-refl}
use Rattle.ra_labels.specs.declared.operation.Op.{Op}
use Rattle.ra_labels.specs.declared.label.Label.{Label}
use Rattle.ra_labels.specs.Records.{Records, label_count, labels_of}
use Rattle.ra_labels.specs.Visibility.{is_update_at, sees}
use Rattle.ra_labels.specs.Places.{issuer_of}
use Rattle.ra_labels.specs.Linearization.{extends}
use Rattle.ra_labels.specs.declared.command.Command.TheVariants.{Operate}
use Rattle.ra_labels.specs.declared.kind.Kind.TheVariants as kinds
use Rattle.ra_labels.specs.Explained.{value_read}
use Rattle.ra_labels.specs.Fault.{Holds, fault_of}
use Rattle.ra_labels.specs.Agreement.{agrees_with_earlier, reads_agree}
use Rattle.ra_labels.proofs.InLists.{bool_same}
use Rattle.ra_labels.proofs.Members.{there-kept, kept-there}
use Rattle.ra_labels.proofs.Ranges.{in_range}
use Rattle.ra_any_model.specs.Deterministic.{Deterministic, state_from, state_after}
use Rattle.ra_any_model.specs.Explained.{numbers_of, must_come_before, updates_in, seen_updates_in, IsAnswerAfter, EachReadIsAnswered, Explains}
use Rattle.ra_any_model.specs.Replayed.{is_read_after, value_read_after, replayed}
use Rattle.ra_theorems.specs.OneState.{EachLabelIsOf}
use Rattle.ra_theorems.proofs.TheoremIndex.{sees_earlier_updates-earlier, condition_decides-holds, condition_decides-fault}
use Rattle.ra_any_model.proofs.Ranges.{range_extends, filter_same, found}
use Rattle.ra_any_model.proofs.AgreeingReads.{agree_exactly, sees_beyond}

-- ---- explained reads agree
-- the same updates lead to the same answer
one_answer : (State : Type 0) (specification : Deterministic State) (updates others : List ℕ) (value second : ℕ)
    → updates ≡ others → IsAnswerAfter State specification updates value
    → IsAnswerAfter State specification others second → value ≡ second
one_answer State specification updates others value second same (state, leads, answers) (other, goes, says) =
    let one : state ≡ other = same_Some state other (sym leads ∙ ap (state_after State specification) same ∙ goes) in
    sym answers ∙ ap specification.answer one ∙ says

pub answered_agree : (State : Type 0) (specification : Deterministic State) (value_of : Op → Option ℕ) (records : Records)
    (sequence : List ℕ) → EachReadIsAnswered State specification value_of records sequence
    → reads_agree value_of records ≡ true
answered_agree State specification value_of records sequence answered =
    (agree_exactly value_of records).1 (λ read other value second there with reads others same.
    one_answer State specification (seen_updates_in records sequence read.number) (seen_updates_in records sequence other.number)
    value second (filter_same (sees records read.number) (sees records other.number) sequence same)
    (answered read value there reads) (answered other second with others))

pub explained_agree : (State : Type 0) (specification : Deterministic State) (value_of : Op → Option ℕ) (records : Records)
    (sequence : List ℕ) → Explains State specification value_of records sequence
    → reads_agree value_of records ≡ true
explained_agree State specification value_of records sequence explains =
    answered_agree State specification value_of records sequence explains.reads

-- ---- reads that agree are explained
-- the specification keeps the labels that were applied
replays : (value_of : Op → Option ℕ) (records : Records) (applied labels : List ℕ)
    → state_from (List ℕ) (replayed value_of records) (Some applied) labels ≡ Some (applied ++ labels)
replays value_of records applied [] = ap Some (sym (append-nil applied))
replays value_of records applied (n ∷ labels) =
    replays value_of records (applied ++ n ∷ []) labels ∙ ap Some (append_assoc applied (n ∷ []) labels)

-- in execution order, no label stands behind one that it must precede
in_turn : (records : Records) (p q : ℕ) → p < q → must_come_before records q p ≡ false
in_turn records p q below =
    or_from (sees records p q) (issuer_of records q == issuer_of records p && nat_lt q p)
    (false_from_ne_true (sees records p q) (λ seen. absurd (omega (arith, sees_earlier_updates-earlier records p q seen))))
    (and_right (issuer_of records q == issuer_of records p) (nat_lt q p) (le-ltb q p (omega arith)))

-- lists compared element by element
pointwise_same : (xs ys : List ℕ) → pointwise nat_eq xs ys ≡ true → xs ≡ ys
pointwise_same [] [] is = refl
pointwise_same [] (y ∷ ys) is = absurd (false≢true is)
pointwise_same (x ∷ xs) [] is = absurd (false≢true is)
pointwise_same (x ∷ xs) (y ∷ ys) is =
    let parts = and_parts (nat_eq x y) (pointwise nat_eq xs ys) is in
    ap (λ z. z ∷ xs) (eqb-true x y parts.0) ∙ ap (λ zs. y ∷ zs) (pointwise_same xs ys parts.1)

pointwise_itself : (xs : List ℕ) → pointwise nat_eq xs xs ≡ true
pointwise_itself [] = refl
pointwise_itself (x ∷ xs) = and_from (nat_eq x x) (pointwise nat_eq xs xs) (eq-eqb x x refl) (pointwise_itself xs)

-- labels of which the execution order has the same seen ones see the same
seen_alike : (records : Records) (m k : ℕ) → seen_updates_in records (numbers_of records) m ≡ seen_updates_in records (numbers_of records) k
    → (n : ℕ) → sees records m n ≡ sees records k n
seen_alike records m k same n = elim (cases_lt n (label_count records)) [
  | inl below ↦
      let there = in_range 0 (label_count records) n (omega arith) (omega (arith, below)) in
      bool_same (sees records m n) (sees records k n)
      (λ seen. (there-kept (sees records k) (numbers_of records) n
      (subst (λ xs. Contains xs n) same (kept-there (sees records m) (numbers_of records) n there seen))).1)
      (λ seen. (there-kept (sees records m) (numbers_of records) n
      (subst (λ xs. Contains xs n) (sym same) (kept-there (sees records k) (numbers_of records) n there seen))).1)
  | inr above ↦
      let beyond : ¬ (n < label_count records) = λ below. absurd (omega (arith, below, above)) in
      sees_beyond records m n beyond ∙ sym (sees_beyond records k n beyond)
]

-- a value that is there
some_there : (o : Option ℕ) → is_some o ≡ true → (value : ℕ) × (o ≡ Some value)
some_there None some = absurd (false≢true some)
some_there (Some value) some = (value, refl)

-- a read that is found returned the value
replayed_value : (value_of : Op → Option ℕ) (records : Records) → reads_agree value_of records ≡ true → (read : Label)
    (value : ℕ) → Contains (labels_of records) read → value_of read.op ≡ Some value
    → value_read_after value_of records (seen_updates_in records (numbers_of records) read.number) ≡ value
replayed_value value_of records agree read value there reads =
    let mine = seen_updates_in records (numbers_of records) read.number in
    let passes = and_from (is_some (value_of read.op)) (pointwise nat_eq mine mine) (ap is_some reads)
    (pointwise_itself mine) in
    let (label, is, has, good) = found (is_read_after value_of records mine) (labels_of records) read there passes in
    let parts = and_parts (is_some (value_of label.op))
    (pointwise nat_eq (seen_updates_in records (numbers_of records) label.number) mine) good in
    let (second, others) = some_there (value_of label.op) parts.0 in
    let alike = seen_alike records label.number read.number
    (pointwise_same (seen_updates_in records (numbers_of records) label.number) mine parts.1) in
    ap (λ o. option_map_or (λ (l : Label). unwrap_or (value_of l.op) 0) o 0) is
    ∙ ap (λ o. unwrap_or o 0) others
    ∙ (agree_exactly value_of records).0 agree label read second value has there others reads alike

pub agreeing_explained : (value_of : Op → Option ℕ) (records : Records) → reads_agree value_of records ≡ true
    → Explains (List ℕ) (replayed value_of records) value_of records (numbers_of records)
agreeing_explained value_of records agree = record {
  each_label_once = IsPermutation-refl (numbers_of records);
  visibility = range_extends (must_come_before records) (in_turn records) 0 (label_count records);
  updates = ap is_some (replays value_of records [] (updates_in records (numbers_of records)));
  reads = λ read value there reads. (
    seen_updates_in records (numbers_of records) read.number,
    replays value_of records [] (seen_updates_in records (numbers_of records) read.number),
    replayed_value value_of records agree read value there reads,
  );
}

pub agree_iff_some : (value_of : Op → Option ℕ) (records : Records) → (reads_agree value_of records ≡ true)
    ↔ ((specification : Deterministic (List ℕ)) × (sequence : List ℕ)
    × Explains (List ℕ) specification value_of records sequence)
agree_iff_some value_of records = (
  (λ agree. (replayed value_of records, numbers_of records, agreeing_explained value_of records agree)),
  (λ (specification, sequence, explains). explained_agree (List ℕ) specification value_of records sequence explains),
)

-- ---- the kind `any`
pub any_holds : (records : Records) → EachLabelIsOf kinds.Any records → Holds kinds.Any records
    ↔ ((specification : Deterministic (List ℕ)) × (sequence : List ℕ)
    × Explains (List ℕ) specification value_read records sequence)
any_holds records each =
    let decides = condition_decides-holds kinds.Any records (inl refl) each in
    let some = agree_iff_some value_read records in
    ((λ holds. some.0 (decides.0 holds)), (λ explained. decides.1 (some.1 explained)))

pub any_has_no_fault : (records : Records) → EachLabelIsOf kinds.Any records → (fault_of kinds.Any records ≡ None)
    ↔ ((specification : Deterministic (List ℕ)) × (sequence : List ℕ)
    × Explains (List ℕ) specification value_read records sequence)
any_has_no_fault records each =
    let decides = condition_decides-fault kinds.Any records (inl refl) each in
    let some = agree_iff_some value_read records in
    ((λ none. some.0 (decides.0 none)), (λ explained. decides.1 (some.1 explained)))

-- ---- disagreement is final
pub none_explains : (State : Type 0) (value_of : Op → Option ℕ) (records : Records) → reads_agree value_of records ≡ false
    → (specification : Deterministic State) (sequence : List ℕ)
    → ¬ Explains State specification value_of records sequence
none_explains State value_of records apart specification sequence explains =
    false≢true (sym apart ∙ explained_agree State specification value_of records sequence explains)

pub later_apart : (value_of : Op → Option ℕ) (later records : Records) → reads_agree value_of records ≡ false
    → reads_agree value_of (later ++ records) ≡ false
later_apart value_of [] records apart = apart
later_apart value_of (Operate by op clock ∷ later) records apart =
    and_right (option_map_or (agrees_with_earlier value_of (later ++ records) by) (value_of op) true)
    (reads_agree value_of (later ++ records)) (later_apart value_of later records apart)
later_apart value_of (_ ∷ later) records apart = later_apart value_of later records apart
