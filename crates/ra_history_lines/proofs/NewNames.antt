-- Lemmas on the new name of a join: it is a name, and its bytes are text.
use Rattle.std.proofs.Common.{◌≡◌, ℕ, ◌<◌, ◌≤◌, Bool, true, false, eqb, ltb, List, [], ◌∷◌, length, Result, Ok, Err, refl, sym, ◌∙◌, arith}
use Rattle.std.specs.Prelude.{not, ◌&&◌, MatchResult}
use Rattle.std.specs.Result.{IsOk}
use Rattle.std.specs.Borrow.{Bor}
use Rattle.std.specs.Global as global
use Rattle.std.specs.Char.{is_ascii_lowercase, is_ascii_digit}
use Rattle.std.specs.List.{list_all, AllByRecursion}
use Rattle.std.specs.Str.{IsUtf8, IsAscii}
use Rattle.std.proofs.lemmas.Bool.{not-true, not-false, and_parts, or_left, eqb-false, eqb-true, ltb-true}
use Rattle.std.proofs.lemmas.Bool.Decides.{nat_tests}
use Rattle.std.proofs.lemmas.List.{length-map}
use Rattle.std.proofs.lemmas.Str.{IsUtf8-from_ascii}
use Rattle.std.proofs.lemmas.Str.Ascii.{IsAscii-nil, IsAscii-cons}
use Rattle.ra_history_lines.specs.declared.format.Format.{Format}
use Rattle.ra_history_lines.specs.declared.format.Format.TheVariants.{Rah2}
use Rattle.ra_history_lines.specs.Grammar.{is_name, has_form_of_name, may_follow, most_names, AreNames}
use Rattle.ra_history_lines.specs.Names.{IsCount, AreDistinctNames, MayJoin, bytes_of_each, texts_of, is_bad_behind}
use Rattle.ra_history_lines.proofs.NameLists.{as_many, may_join}

-- ---- bytes

letter_or_digit : (b : ℕ) → may_follow b ≡ true → (48 ≤ b) × (b ≤ 122)
letter_or_digit b e = (grind (arith, nat_tests), grind (arith, nat_tests))

each_follows : (bytes : List ℕ) → list_all may_follow bytes ≡ true
    → AllByRecursion (λ b. (48 ≤ b) × (b ≤ 122)) bytes
each_follows [] all = tt
each_follows (b ∷ bytes) all =
    let parts = and_parts (may_follow b) (list_all may_follow bytes) all in
    (letter_or_digit b parts.0, each_follows bytes parts.1)

-- a name has at most 16 bytes, each from `0` to `z`
pub name_bytes : (name : List ℕ) → is_name name ≡ true
    → (length name ≤ 16) × AllByRecursion (λ b. (48 ≤ b) × (b ≤ 122)) name
name_bytes [] is = absurd cc
name_bytes (first ∷ more) is =
    let form = (and_parts (has_form_of_name (first ∷ more)) _ is).0 in
    let parts = and_parts (is_ascii_lowercase first && ltb (length more) 16) (list_all may_follow more) form in
    let head = and_parts (is_ascii_lowercase first) (ltb (length more) 16) parts.0 in (
      omega (arith, ltb-true (length more) 16 head.1),
      (
        letter_or_digit first (or_left (is_ascii_lowercase first) (is_ascii_digit first) head.0),
        each_follows more parts.1,
      ),
    )

ascii : (bytes : List ℕ) → AllByRecursion (λ b. (48 ≤ b) × (b ≤ 122)) bytes → IsAscii bytes
ascii [] all = IsAscii-nil
ascii (b ∷ bytes) all = IsAscii-cons b bytes (omega (arith, all.0.1)) (ascii bytes all.1)

pub name_is_text : {E : Type 0} (P : E → Type 0) (name : List ℕ) (r : Result (Bor (List ℕ)) E) → is_name name ≡ true
    → MatchResult r (λ text. (text.now ≡ name) × IsUtf8 name) (λ fault. (IsUtf8 name → ⊥) × P fault) → IsOk r
name_is_text P name (Ok text) is read = refl
name_is_text P name (Err fault) is read = absurd (read.0 (IsUtf8-from_ascii name (ascii name (name_bytes name is).1)))

-- ---- a name that is added

pub new_may_join : (format : Format) (keys : List (global.Vec ℕ)) (names : List (List ℕ)) (word : List ℕ)
    (tested : Bool)
    → bytes_of_each keys ≡ names → length keys < most_names format → tested ≡ not (is_bad_behind names word)
    → tested ≡ true → MayJoin format names word
new_may_join format keys names word tested are room is passed =
    may_join format names word (omega (arith, room, as_many keys names are))
    (not-true (is_bad_behind names word) (sym is ∙ passed))

pub bad_tested : (tested : Bool) (names : List (List ℕ)) (word : List ℕ)
    → tested ≡ not (is_bad_behind names word) → tested ≡ false → is_bad_behind names word ≡ true
bad_tested tested names word is failed = not-false (is_bad_behind names word) (sym is ∙ failed)

-- ---- given names

pub is_count : (names : List (Bor (List ℕ))) (empty : Bool) → empty ≡ eqb (length names) 0 → empty ≡ false
    → length names ≤ 64 → IsCount (length (texts_of names))
is_count names empty is full few =
    let texts : length (texts_of names) ≡ length names = length-map names (λ text. text.now) in
    let some : length names ≡ 0 → ⊥ = eqb-false (length names) 0 (sym is ∙ full) in
    (omega (arith, texts, some), omega (arith, texts, few))

pub none_counted : (names : List (Bor (List ℕ))) (empty : Bool) → empty ≡ eqb (length names) 0 → empty ≡ true
    → IsCount (length (texts_of names)) → ⊥
none_counted names empty is none count =
    let texts : length (texts_of names) ≡ length names = length-map names (λ text. text.now) in
    let zero : length names ≡ 0 = eqb-true (length names) 0 (sym is ∙ none) in
    omega (arith, texts, zero, count.0)

pub many_counted : (names : List (Bor (List ℕ))) → 64 < length names → IsCount (length (texts_of names)) → ⊥
many_counted names many count = omega (arith, length-map names (λ text. text.now), many, count.1)

pub taken_names : (names : List (Bor (List ℕ))) → IsCount (length (texts_of names)) → AreDistinctNames (texts_of names)
    → AreNames Rah2 (texts_of names)
taken_names names count good = record { some = count.0; few = count.1; each = good.each; distinct = good.distinct }
