-- Lemmas on the line that is written for a command: it spells the command.
use Rattle.std.proofs.Common.{◌≡◌, ◌≢◌, ◌^◌, ◌+◌, ℕ, zero, suc, ◌<◌, ◌≤◌, true, false, eqb, ltb, List, [], ◌∷◌, ◌++◌}
use Rattle.std.proofs.Common.{length, map, All, Option, Some, None, ℤ, pos, negsuc, refl, sym, ap, ◌∙◌, arith, inl, inr}
use Rattle.std.specs.Prelude.{codes, decimal, bytes_eq, IfSome, FitsSigned}
use Rattle.std.specs.Fmt.{signed_decimal}
use Rattle.std.specs.Int.{w32}
use Rattle.std.specs.List.{list_all, join_with_byte, IsDistinct, AllByRecursion}
use Rattle.std.specs.Str.Parse.{AllDigits}
use Rattle.std.proofs.lemmas.Bool.{cases_Bool, and_parts, ne_eqb, ltb-true}
use Rattle.std.proofs.lemmas.Cmp.{nat_list_eq_equiv}
use Rattle.std.proofs.lemmas.Fmt.{decimal_is_IsNumeral}
use Rattle.std.proofs.lemmas.List.{append-nil, length-append}
use Rattle.std.proofs.lemmas.List.Elements.{All-from_recursion}
use Rattle.std.proofs.lemmas.Map.Keys.{IsDistinct-head, IsDistinct-tail}
use Rattle.std.proofs.lemmas.Slice.Eq.{bytes_eq-Decides}
use Rattle.std.proofs.lemmas.List.Splits.{slice_split_at, slice_split_none}
use Rattle.std.proofs.lemmas.Str.Parse.{digit_from_value}
use Rattle.ra_labels.specs.declared.kind.Kind.{Kind}
use Rattle.ra_labels.specs.declared.operation.Op.{Op}
use Rattle.ra_labels.specs.declared.operation.Op.TheVariants.{Inc, Dec, Count, Write, Last, LwwAdd, LwwRemove, LwwRead}
use Rattle.ra_labels.specs.declared.operation.Op.TheVariants.{OrAdd, OrRemove, OrRead, After, RgaRemove, RgaRead}
use Rattle.ra_labels.specs.declared.operation.Op.TheVariants as op
use Rattle.ra_labels.specs.declared.list_operation.ListOp.{ListOp}
use Rattle.ra_labels.specs.declared.list_operation.ListOp.TheVariants as list_op
use Rattle.ra_labels.specs.declared.command.Command.{Command}
use Rattle.ra_labels.specs.declared.command.Command.TheVariants.{Operate, Deliver, Join, Verdict}
use Rattle.ra_history_lines.specs.Grammar.{IsSmall, is_name, index_of_name, fields_of, list_word}
use Rattle.ra_history_lines.specs.Grammar.{value_word, operation_fields, list_operation_fields, clock_fields, HasSmallNumbers, HasSmallElements, NamesReplica, Spells}
use Rattle.ra_history_lines.specs.Names.{AreDistinctNames}
use Rattle.ra_history_lines.specs.declared.format.Format.{Format}
use Rattle.ra_history_lines.proofs.TheoremIndex.{name_bytes}
use Rattle.ra_history_writer.specs.Spelling.{spaced, name_of, line_of, AreSmall, HasLine, HasNewName}

-- ---- bytes of fields

-- each byte is greater than the space and the line feed
abbrev pub IsPlain : List ℕ → Type 0
IsPlain bytes = AllByRecursion (λ b. 32 < b) bytes

abbrev pub ArePlain : List (List ℕ) → Type 0
ArePlain fields = AllByRecursion IsPlain fields

pub each-append : {X : Type 0} (P : X → Type 0) (xs ys : List X) → AllByRecursion P xs → AllByRecursion P ys
    → AllByRecursion P (xs ++ ys)
each-append P [] ys p q = q
each-append P (x ∷ xs) ys p q = (p.0, each-append P xs ys p.1 q)

plain-digits : (ds : List ℕ) → AllDigits 10 ds → IsPlain ds
plain-digits [] all = tt
plain-digits (d ∷ ds) all = let i = digit_from_value d all.0 in (omega (arith, i.0), plain-digits ds all.1)

plain-decimal : (n : ℕ) → n < 2 ^ 64 → IsPlain (decimal n)
plain-decimal n small = plain-digits (decimal n) (decimal_is_IsNumeral n small).0.1

each-weaker : {X : Type 0} (P Q : X → Type 0) → ((x : X) → P x → Q x) → (xs : List X) → AllByRecursion P xs
    → AllByRecursion Q xs
each-weaker P Q leads [] all = tt
each-weaker P Q leads (x ∷ xs) all = (leads x all.0, each-weaker P Q leads xs all.1)

no_space : (bytes : List ℕ) → IsPlain bytes → All (λ b. eqb b 32 ≡ false) bytes
no_space bytes plain = All-from_recursion (λ b. eqb b 32 ≡ false) bytes (each-weaker (λ b. 32 < b)
    (λ b. eqb b 32 ≡ false) (λ b above. ne_eqb b 32 (λ same. omega (arith, above, same))) bytes plain)

-- fields joined by spaces are split into the same fields
pub fields-spaced : (first : List ℕ) (fields : List (List ℕ)) → IsPlain first → ArePlain fields
    → fields_of (first ++ spaced fields) ≡ first ∷ fields
fields-spaced first [] plain each = ap fields_of (append-nil first)
    ∙ slice_split_none (λ b. eqb b 32) first (no_space first plain)
fields-spaced first (field ∷ fields) plain each =
    slice_split_at (λ b. eqb b 32) first 32 (field ++ spaced fields) (no_space first plain) refl
    ∙ ap (λ (fs : List (List ℕ)). first ∷ fs) (fields-spaced field fields each.0 each.1)

-- no line feed
no_feed : (bytes : List ℕ) → IsPlain bytes → AllByRecursion (λ b. b ≢ 10) bytes
no_feed = each-weaker (λ b. 32 < b) (λ b. b ≢ 10) (λ b above same. omega (arith, above, same))

no_feed_spaced : (fields : List (List ℕ)) → ArePlain fields → AllByRecursion (λ b. b ≢ 10) (spaced fields)
no_feed_spaced [] each = tt
no_feed_spaced (field ∷ fields) each = (
  (λ same. absurd (omega (arith, same))),
  each-append (λ b. b ≢ 10) field (spaced fields) (no_feed field each.0) (no_feed_spaced fields each.1),
)

pub one_line : (first : List ℕ) (fields : List (List ℕ)) → IsPlain first → ArePlain fields
    → All (λ b. b ≢ 10) (first ++ spaced fields)
one_line first fields plain each =
    All-from_recursion (λ b. b ≢ 10) (first ++ spaced fields)
    (each-append (λ b. b ≢ 10) first (spaced fields) (no_feed first plain) (no_feed_spaced fields each))

-- ---- the fields of commands

fits : (n : ℕ) → IsSmall n → n < 2 ^ 64
fits n small = omega arith

pub plain_number : (n : ℕ) → IsSmall n → IsPlain (decimal n)
plain_number n small = plain-decimal n (fits n small)

plain_joined : (x : ℕ) (xs : List ℕ) → IsSmall x → AllByRecursion IsSmall xs
    → IsPlain (join_with_byte 44 (map decimal (x ∷ xs)))
plain_joined x [] here later = plain_number x here
plain_joined x (y ∷ ys) here later =
    each-append (λ b. 32 < b) (decimal x) (44 ∷ join_with_byte 44 (map decimal (y ∷ ys))) (plain_number x here)
    (omega arith, plain_joined y ys later.0 later.1)

plain_list : (xs : List ℕ) → AllByRecursion IsSmall xs → IsPlain (list_word xs)
plain_list [] small = (omega arith, tt)
plain_list (x ∷ xs) small = plain_joined x xs small.0 small.1

plain_value : (value : Option ℕ) → IfSome value IsSmall → IsPlain (value_word value)
plain_value None small = (omega arith, (omega arith, (omega arith, (omega arith, tt))))
plain_value (Some n) small = plain_number n small

plain_signed : (z : ℤ) → FitsSigned w32 z → IsPlain (signed_decimal z)
plain_signed (pos n) small = plain-decimal n (omega (arith, small))
plain_signed (negsuc n) small = (omega arith, plain-decimal (suc n) (omega (arith, small)))

pub plain_word : (word : List ℕ) → list_all (λ b. ltb 32 b) word ≡ true → IsPlain word
plain_word [] all = tt
plain_word (b ∷ word) all =
    let parts = and_parts (ltb 32 b) (list_all (λ x. ltb 32 x) word) all in
    (ltb-true 32 b parts.0, plain_word word parts.1)

plain_list_operation : (op : ListOp) → HasSmallElements op → ArePlain (list_operation_fields op)
plain_list_operation (list_op.Insert insertion) small = (
  plain_word (codes "insert") refl,
  (
    plain_number insertion.left small.0,
    (plain_number insertion.element small.1, (plain_number insertion.right small.2, tt)),
  ),
)
plain_list_operation (list_op.Remove x) small = (plain_word (codes "remove") refl, (plain_number x small, tt))
plain_list_operation (list_op.Read list) small = (plain_word (codes "read") refl, (plain_list list small, tt))
plain_list_operation (list_op.Part list) small = (plain_word (codes "part") refl, (plain_list list small, tt))

pub plain_operation : (op : Op) → HasSmallNumbers op → ArePlain (operation_fields op)
plain_operation Inc small = (plain_word (codes "inc") refl, tt)
plain_operation Dec small = (plain_word (codes "dec") refl, tt)
plain_operation (Count value) small = (plain_word (codes "read") refl, (plain_signed value small, tt))
plain_operation (Write value) small = (plain_word (codes "write") refl, (plain_number value small, tt))
plain_operation (Last value) small = (plain_word (codes "read") refl, (plain_value value small, tt))
plain_operation (LwwAdd x) small = (plain_word (codes "add") refl, (plain_number x small, tt))
plain_operation (LwwRemove x) small = (plain_word (codes "remove") refl, (plain_number x small, tt))
plain_operation (LwwRead list) small = (plain_word (codes "read") refl, (plain_list list small, tt))
plain_operation (OrAdd x id) small =
    (plain_word (codes "add") refl, (plain_number x small.0, ((omega arith, plain_number id small.1), tt)))
plain_operation (OrRemove x ids) small =
    (plain_word (codes "remove") refl, (plain_number x small.0, ((omega arith, plain_list ids small.1), tt)))
plain_operation (OrRead list) small = (plain_word (codes "read") refl, (plain_list list small, tt))
plain_operation (After anchor x) small =
    (plain_word (codes "after") refl, (plain_number anchor small.0, (plain_number x small.1, tt)))
plain_operation (RgaRemove x) small = (plain_word (codes "remove") refl, (plain_number x small, tt))
plain_operation (RgaRead list) small = (plain_word (codes "read") refl, (plain_list list small, tt))
plain_operation (op.List operation) small = plain_list_operation operation small
plain_operation op.AnyUpdate small = (plain_word (codes "update") refl, tt)
plain_operation (op.AnyRead value) small = (plain_word (codes "read") refl, (plain_number value small, tt))
plain_operation (op.MvWrite value) small = (plain_word (codes "write") refl, (plain_number value small, tt))
plain_operation (op.MvRead values) small = (plain_word (codes "read") refl, (plain_list values small, tt))

pub plain_clock : (clock : Option ℕ) → IfSome clock IsSmall → ArePlain (clock_fields clock)
plain_clock None small = tt
plain_clock (Some at) small = ((omega arith, plain_number at small), tt)

-- ---- names

pub plain_name : (name : List ℕ) → is_name name ≡ true → IsPlain name
plain_name name is =
    each-weaker (λ b. (48 ≤ b) × (b ≤ 122)) (λ b. 32 < b) (λ b in_range. omega (arith, in_range.0)) name
    (name_bytes name is).1

-- a property of all names holds of the name at a position
apart_from : (names : List (List ℕ)) (n : ℕ) (P : List ℕ → Type 0) → n < length names → AllByRecursion P names
    → P (name_of names n)
apart_from [] n P there all = absurd (omega (arith, there))
apart_from (name ∷ names) zero P there all = all.0
apart_from (name ∷ names) (suc n) P there all = apart_from names n P (omega (arith, there)) all.1

same_self : (name : List ℕ) → bytes_eq name name ≡ true
same_self name = (bytes_eq-Decides name name).1 refl

pub named_at : (names : List (List ℕ)) (replica : ℕ) → replica < length names → list_all is_name names ≡ true
    → IsDistinct bytes_eq names
    → (is_name (name_of names replica) ≡ true) × (index_of_name names (name_of names replica) ≡ replica)
named_at [] replica there each distinct = absurd (omega (arith, there))
named_at (name ∷ names) zero there each distinct =
    let parts = and_parts (is_name name) (list_all is_name names) each in
    (parts.0, rw (same_self name) refl)
named_at (name ∷ names) (suc n) there each distinct =
    let parts = and_parts (is_name name) (list_all is_name names) each in
    let later = named_at names n (omega (arith, there)) parts.1 (IsDistinct-tail bytes_eq name names distinct) in
    let apart : bytes_eq name (name_of names n) ≡ false =
    apart_from names n (λ other. bytes_eq name other ≡ false) (omega (arith, there))
    (IsDistinct-head bytes_eq name names distinct) in
    let turned : bytes_eq (name_of names n) name ≡ false = nat_list_eq_equiv.symm (name_of names n) name ∙ apart in
    (later.0, rw turned (omega (arith, later.1)))

-- ---- a command

index_of_name-append : (names later : List (List ℕ)) (name : List ℕ)
    → index_of_name (names ++ later) name < length names
    → index_of_name names name ≡ index_of_name (names ++ later) name
index_of_name-append [] later name there = absurd (omega (arith, there))
index_of_name-append (own ∷ names) later name there =
    elim (cases_Bool (bytes_eq name own)) [
      | inl same ↦ rw same refl
      | inr other ↦
          let within : index_of_name (names ++ later) name + 1 < length (own ∷ names) = rw other at there in
          rw other (ap (λ (n : ℕ). n + 1) (index_of_name-append names later name (omega (arith, within))))
    ]

-- a name behind these names has no position among them
index_of_name-behind : (names later : List (List ℕ)) (name : List ℕ)
    → length names ≤ index_of_name (names ++ later) name
    → index_of_name names name ≡ length names
index_of_name-behind [] later name behind = refl
index_of_name-behind (own ∷ names) later name behind =
    elim (cases_Bool (bytes_eq name own)) [
      | inl same ↦ let none : length (own ∷ names) ≤ 0 = rw same at behind in absurd (omega (arith, none))
      | inr other ↦
          let past : length (own ∷ names) ≤ index_of_name (names ++ later) name + 1 = rw other at behind in
          rw other (omega (arith, index_of_name-behind names later name (omega (arith, past))))
    ]

-- an existing replica, by the names of all
pub named_among : (names later : List (List ℕ)) (replica : ℕ) → replica < length names
    → AreDistinctNames (names ++ later)
    → NamesReplica names (name_of (names ++ later) replica) replica
named_among names later replica there are =
    let total = length-append names later in
    let at = named_at (names ++ later) replica (omega (arith, there, total)) are.each are.distinct in
    record {
      form = at.0;
      place = sym at.1
          ∙ sym (index_of_name-append names later (name_of (names ++ later) replica) (omega (arith, at.1, there)));
    }

-- and the next replica
pub named_next : (names later : List (List ℕ)) (replica : ℕ) → replica ≡ length names → 0 < length later
    → AreDistinctNames (names ++ later) → NamesReplica names (name_of (names ++ later) replica) replica
named_next names later replica next some are =
    let total = length-append names later in
    let at = named_at (names ++ later) replica (omega (arith, next, some, total)) are.each are.distinct in
    record {
      form = at.0;
      place = next
          ∙ sym (index_of_name-behind names later (name_of (names ++ later) replica) (omega (arith, at.1, next)));
    }

-- the line of a command consists of these fields
pub record IsOfFields (line : List ℕ) : Type 0 where
  pub first : List ℕ
  pub fields : List (List ℕ)
  pub is : line ≡ first ++ spaced fields
  pub plain : IsPlain first
  pub each : ArePlain fields

abbrev pub line_fields : (format : Format) (kind : Kind) (names later : List (List ℕ)) (command : Command)
    → AreDistinctNames (names ++ later) → HasLine format kind (length names) command → HasNewName later command
    → AreSmall command → IsOfFields (line_of (names ++ later) command)
line_fields format kind names later Verdict are has new small =
    record { first = codes "verdict"; fields = []; is = refl; plain = plain_word (codes "verdict") refl; each = tt }
line_fields format kind names later (Deliver replica label) are has new small = record {
  first = name_of (names ++ later) replica;
  fields = codes "got" ∷ decimal label ∷ [];
  is = refl;
  plain = plain_name (name_of (names ++ later) replica) (named_among names later replica has are).form;
  each = (plain_word (codes "got") refl, (plain_number label small, tt));
}
line_fields format kind names later (Operate replica op clock) are has new small = record {
  first = name_of (names ++ later) replica;
  fields = operation_fields op ++ clock_fields clock;
  is = refl;
  plain = plain_name (name_of (names ++ later) replica) (named_among names later replica has.0 are).form;
  each = each-append IsPlain (operation_fields op) (clock_fields clock) (plain_operation op small.0)
      (plain_clock clock small.1);
}
line_fields format kind names later (Join replica from) are has new small = record {
  first = codes "join";
  fields = name_of (names ++ later) replica ∷ name_of (names ++ later) from ∷ [];
  is = refl;
  plain = plain_word (codes "join") refl;
  each = (
    plain_name (name_of (names ++ later) replica) (named_next names later replica has.1 new are).form,
    (plain_name (name_of (names ++ later) from) (named_among names later from has.2 are).form, tt),
  );
}

pub line_cut : (line : List ℕ) (of : IsOfFields line) → fields_of line ≡ of.first ∷ of.fields
line_cut line of = ap fields_of of.is ∙ fields-spaced of.first of.fields of.plain of.each

pub line_spells : (format : Format) (kind : Kind) (names later : List (List ℕ)) (command : Command)
    → AreDistinctNames (names ++ later) → HasLine format kind (length names) command → HasNewName later command
    → AreSmall command → Spells format kind names (line_of (names ++ later) command) command
line_spells format kind names later Verdict are has new small = refl
line_spells format kind names later (Deliver replica label) are has new small = record {
  name = name_of (names ++ later) replica;
  who = named_among names later replica has are;
  small = small;
  words = line_cut _ (line_fields format kind names later (Deliver replica label) are has new small);
}
line_spells format kind names later (Operate replica op clock) are has new small = record {
  name = name_of (names ++ later) replica;
  who = named_among names later replica has.0 are;
  body = operation_fields op ++ clock_fields clock;
  is_body = record { own = has.1; small = small.0; small_clock = small.1; words = refl };
  words = line_cut _ (line_fields format kind names later (Operate replica op clock) are has new small);
}
line_spells format kind names later (Join replica from) are has new small = record {
  joins = has.0;
  name = name_of (names ++ later) replica;
  who = named_next names later replica has.1 new are;
  source = name_of (names ++ later) from;
  whom = named_among names later from has.2 are;
  words = line_cut _ (line_fields format kind names later (Join replica from) are has new small);
}
