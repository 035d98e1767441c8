-- Lemmas on records whose commands are given again, the oldest first: they are accepted again, and have lines.
use Rattle.std.proofs.Common.{◌≡◌, ℕ, ◌+◌, ◌<◌, ◌≤◌, Bool, true, false, not, ltb, List, [], ◌∷◌, ◌++◌, Option, Some, None, refl, sym, ap, subst, ◌∙◌, arith}
use Rattle.std.specs.Prelude.{reverse, ◌||◌, if◌then◌else◌}
use Rattle.std.specs.Option.{option_or}
use Rattle.std.specs.List.{list_any}
use Rattle.std.proofs.lemmas.Bool.{ltb-true, ltb-false, lt-ltb, le-ltb, not-false, or_parts, or_left, or_right}
use Rattle.std.proofs.lemmas.List.{reverse-append}
use Rattle.ra_labels.specs.declared.kind.Kind.{Kind}
use Rattle.ra_labels.specs.declared.kind.Kind.TheVariants.{Rga}
use Rattle.ra_labels.specs.declared.kind.Kind.TheVariants as kinds
use Rattle.ra_labels.specs.declared.operation.Op.{Op}
use Rattle.ra_labels.specs.declared.operation.Op.TheVariants.{Write, LwwRemove}
use Rattle.ra_labels.specs.declared.command.Command.{Command}
use Rattle.ra_labels.specs.declared.command.Command.TheVariants.{Operate, Deliver, Join, Verdict}
use Rattle.ra_labels.specs.declared.refusal.Refusal.{Refusal}
use Rattle.ra_labels.specs.declared.refusal.Refusal.TheVariants.{UnknownReplica, WrongKind, ReplicaThere}
use Rattle.ra_labels.specs.declared.reply.Fault.{Fault}
use Rattle.ra_labels.specs.Records.{Records, replica_count}
use Rattle.ra_labels.specs.Fault.{fault_of}
use Rattle.ra_labels.specs.Answer.{when, is_kind, kind_of, form_refusal, refusal_of, with_accepted, answer_of}
use Rattle.ra_labels.specs.Answer.{records_after, records_after_all}
use Rattle.ra_labels.specs.TheoremTerms.{is_join}
use Rattle.ra_theorems.proofs.TheoremIndex.{answers_append-records}
use Rattle.ra_history_lines.specs.declared.format.Format.{Format}
use Rattle.ra_history_lines.specs.declared.format.Format.TheVariants.{Rah1, Rah2}
use Rattle.ra_history_lines.specs.Grammar.{has_words}
use Rattle.ra_history_writer.specs.Spelling.{HasLine, IsJoined, HaveLines}

-- ---- records, each of which was accepted

pub record IsAccepted (kind : Kind) (n : ℕ) (records : Records) (c : Command) : Type 0 where
  pub sound : fault_of kind records ≡ None
  pub fits : refusal_of kind n records c ≡ None
  pub joins : with_accepted records c ≡ c ∷ records

abbrev pub AreAccepted : Kind → ℕ → Records → Type 0
AreAccepted kind n [] = Unit {0}
AreAccepted kind n (c ∷ records) = IsAccepted kind n records c × AreAccepted kind n records

with_one : (kind : Kind) (n : ℕ) (records : Records) (c : Command) → fault_of kind records ≡ None
    → refusal_of kind n records c ≡ None → AreAccepted kind n records → AreAccepted kind n (with_accepted records c)
with_one kind n records Verdict sound fits are = are
with_one kind n records _ sound fits are = (record { sound = sound; fits = fits; joins = refl }, are)

after_by : (kind : Kind) (n : ℕ) (records : Records) (c : Command) (o : Option Fault) (p : Option Refusal)
    → fault_of kind records ≡ o → refusal_of kind n records c ≡ p → AreAccepted kind n records
    → AreAccepted kind n (records_after kind n records c)
after_by kind n records c (Some fault) p failed refused are = rw failed are
after_by kind n records c None (Some why) sound refused are = rw (sound, refused) are
after_by kind n records c None None sound fits are = rw (sound, fits) (with_one kind n records c sound fits are)

reached_from : (kind : Kind) (n : ℕ) (records : Records) (commands : List Command) → AreAccepted kind n records
    → AreAccepted kind n (records_after_all kind n records commands)
reached_from kind n records [] are = are
reached_from kind n records (c ∷ commands) are =
    reached_from kind n (records_after kind n records c) commands
    (after_by kind n records c (fault_of kind records) (refusal_of kind n records c) refl refl are)

pub reached : (kind : Kind) (n : ℕ) (commands : List Command)
    → AreAccepted kind n (records_after_all kind n [] commands)
reached kind n commands = reached_from kind n [] commands tt

-- ---- commands that are given again

taken_again : (kind : Kind) (n : ℕ) (records : Records) (c : Command) → IsAccepted kind n records c
    → records_after kind n records c ≡ c ∷ records
taken_again kind n records c is = rw (is.sound, is.fits) is.joins

pub given_again : (kind : Kind) (n : ℕ) (records : Records) → AreAccepted kind n records
    → records_after_all kind n [] (reverse records) ≡ records
given_again kind n [] are = refl
given_again kind n (c ∷ records) are =
    ap (records_after_all kind n []) (reverse-append (c ∷ []) records)
    ∙ answers_append-records kind n [] (reverse records) (c ∷ [])
    ∙ ap (λ (rs : Records). records_after kind n rs c) (given_again kind n records are.1)
    ∙ taken_again kind n records c are.0

pub records_again : (kind : Kind) (n : ℕ) (commands : List Command) (records : Records)
    → records ≡ records_after_all kind n [] commands → records_after_all kind n [] (reverse records) ≡ records
records_again kind n commands records are =
    given_again kind n records (subst (AreAccepted kind n) (sym are) (reached kind n commands))

-- ---- a command that is not refused has a line

first_none : (b : Bool) (why : Refusal) (later : Option Refusal) → option_or (when b why) later ≡ None
    → (b ≡ false) × (later ≡ None)
first_none true why later e = absurd cc
first_none false why later e = (refl, e)

own_words : (op : Op) (kind : Kind) → is_kind kind (kind_of op) ≡ true → has_words op kind ≡ true
own_words (Write value) kinds.MvRegister e = absurd cc
own_words (Write value) _ e = refl
own_words (LwwRemove x) Rga e = absurd cc
own_words (LwwRemove x) kinds.List e = absurd cc
own_words (LwwRemove x) _ e = refl
own_words _ kind e = cc

or_none : {X : Type 0} (o later : Option X) → option_or o later ≡ None → o ≡ None
or_none None later e = refl
or_none (Some x) later e = absurd cc

misfit_none : (kind : Kind) (by : ℕ) (op : Op) (clock : Option ℕ) (later : Option Refusal)
    → option_or (form_refusal kind (Operate by op clock)) later ≡ None → is_kind kind (kind_of op) ≡ true
misfit_none kind by op clock later e =
    let own = first_none (not (is_kind kind (kind_of op))) WrongKind _
    (or_none (form_refusal kind (Operate by op clock)) later e) in
    not-false (is_kind kind (kind_of op)) own.0

pub spelled : (format : Format) (kind : Kind) (n : ℕ) (records : Records) (c : Command)
    → refusal_of kind n records c ≡ None → (is_join c ≡ true → format ≡ Rah2)
    → HasLine format kind (replica_count n records) c
spelled format kind n records Verdict fits newer = tt
spelled format kind n records (Deliver to label) fits newer =
    let count : ℕ = replica_count n records in
    let known = first_none (not (ltb to count)) UnknownReplica _ fits in
    ltb-true to count (not-false (ltb to count) known.0)
spelled format kind n records (Operate by op clock) fits newer =
    let count : ℕ = replica_count n records in
    let known = first_none (not (ltb by count)) UnknownReplica _ fits in
    let form = misfit_none kind by op clock _ known.1 in
    (ltb-true by count (not-false (ltb by count) known.0), own_words op kind form)
spelled format kind n records (Join replica from) fits newer =
    let count : ℕ = replica_count n records in
    let known = first_none (not (ltb from count) || ltb count replica) UnknownReplica _ fits in
    let parts = or_parts (not (ltb from count)) (ltb count replica) known.0 in
    let new = first_none (ltb replica count) ReplicaThere _ known.1 in (
      newer refl,
      omega (arith, ltb-false count replica parts.1, ltb-false replica count new.0),
      ltb-true from count (not-false (ltb from count) parts.0),
    )

-- ---- commands that are given again have lines

joined_again : (kind : Kind) (n : ℕ) (records : Records) (c : Command) → IsAccepted kind n records c
    → IsJoined c (answer_of kind n records c)
joined_again kind n records (Join replica from) is = rw (is.sound, is.fits) refl
joined_again kind n records _ is = tt

lines-append : (format : Format) (kind : Kind) (n : ℕ) (start : Records) (xs ys : List Command)
    → HaveLines format kind n start xs → HaveLines format kind n (records_after_all kind n start xs) ys
    → HaveLines format kind n start (xs ++ ys)
lines-append format kind n start [] ys p q = q
lines-append format kind n start (x ∷ xs) ys p q =
    (p.0, p.1, lines-append format kind n (records_after kind n start x) xs ys p.2 q)

pub lines_again : (format : Format) (kind : Kind) (n : ℕ) (records : Records) → AreAccepted kind n records
    → (list_any is_join records ≡ true → format ≡ Rah2) → HaveLines format kind n [] (reverse records)
lines_again format kind n [] are newer = tt
lines_again format kind n (c ∷ records) are newer =
    let before = lines_again format kind n records are.1
    (λ e. newer (or_right (is_join c) (list_any is_join records) e)) in
    let has = spelled format kind n records c are.0.fits
    (λ e. newer (or_left (is_join c) (list_any is_join records) e)) in
    let here : HaveLines format kind n records (c ∷ []) = (has, joined_again kind n records c are.0, tt) in
    subst (HaveLines format kind n []) (sym (reverse-append (c ∷ []) records))
    (lines-append format kind n [] (reverse records) (c ∷ []) before
    (subst (λ (rs : Records). HaveLines format kind n rs (c ∷ [])) (sym (given_again kind n records are.1)) here))

-- ---- the number of replicas

-- at least the initial number
pub count_first : (n : ℕ) (records : Records) → n ≤ replica_count n records
count_first n [] = omega arith
count_first n (Join replica from ∷ records) = omega (arith, count_first n records)
count_first n (_ ∷ records) = count_first n records

pub none_joined : (n : ℕ) (records : Records) → list_any is_join records ≡ ltb n (replica_count n records)
none_joined n [] = sym (le-ltb n n (omega arith))
none_joined n (Join replica from ∷ records) =
    sym (lt-ltb n (replica_count n records + 1) (omega (arith, count_first n records)))
none_joined n (_ ∷ records) = none_joined n records

-- there was an initial replica
pub some_first : (kind : Kind) (n : ℕ) (records : Records) → AreAccepted kind n records → 0 < replica_count n records
    → 0 < n
some_first kind n [] are some = some
some_first kind n (Join replica from ∷ records) are some =
    let has = spelled Rah2 kind n records (Join replica from) are.0.fits (λ e. refl) in
    some_first kind n records are.1 (omega (arith, has.2))
some_first kind n (_ ∷ records) are some = some_first kind n records are.1 some

-- ---- the format

pub joined_newer : (n : ℕ) (records : Records) → n < replica_count n records
    → Rah2 ≡ (if list_any is_join records || ltb 16 n then Rah2 else Rah1)
joined_newer n records more =
    let any : list_any is_join records ≡ true = none_joined n records ∙ lt-ltb n (replica_count n records) more in
    rw any refl

pub many_newer : (any : Bool) (n : ℕ) → 16 < n → Rah2 ≡ (if any || ltb 16 n then Rah2 else Rah1)
many_newer true n more = refl
many_newer false n more = rw (lt-ltb 16 n more) refl

pub few_older : (n : ℕ) (records : Records) → replica_count n records ≤ n → n ≤ 16
    → Rah1 ≡ (if list_any is_join records || ltb 16 n then Rah2 else Rah1)
few_older n records none few =
    let any : list_any is_join records ≡ false = none_joined n records
    ∙ le-ltb n (replica_count n records) none in
    rw (any, le-ltb 16 n few) refl
