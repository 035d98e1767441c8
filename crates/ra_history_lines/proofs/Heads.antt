-- Lemmas on the two lines before the commands: the computed result is that of the grammar.
use Rattle.std.proofs.Common.{◌≡◌, ℕ, Bool, true, false, cond, ltb, leb, List, [], ◌∷◌, length, Option, Some, None, refl, sym, ap, subst, ◌∙◌, inl, inr}
use Rattle.std.specs.Prelude.{bytes_eq, codes, not, ◌&&◌, option_map, IfSome}
use Rattle.std.specs.Option.{option_or}
use Rattle.std.specs.List.{list_all, list_any, IsDistinct, AllByRecursion}
use Rattle.std.proofs.lemmas.Bool.{cases_Bool, and_parts, and_from, ltb-true, lt-ltb, leb-true, le-leb}
use Rattle.std.proofs.lemmas.Map.Keys.{IsDistinct-head, IsDistinct-tail, IsDistinct-cons}
use Rattle.ra_labels.specs.declared.kind.Kind.{Kind}
use Rattle.ra_labels.specs.declared.kind.Kind.TheVariants.{Counter, Register, LwwSet, OrSet, Rga}
use Rattle.ra_labels.specs.declared.kind.Kind.TheVariants as kinds
use Rattle.ra_history_lines.specs.declared.format.Format.{Format}
use Rattle.ra_history_lines.specs.declared.format.Format.TheVariants.{Rah1, Rah2}
use Rattle.ra_history_lines.specs.Grammar.{is_name, fields_of, kind_word, first_line, most_names, AreNames, ListsNames}
use Rattle.ra_history_lines.specs.Reading.{kind_spelled, kind_read, head_read, kind_named, are_distinct, are_names, names_listed, names_read}
use Rattle.ra_history_lines.proofs.Operations.{same_bytes, chosen}

-- an option without a possible value is `None`
not_some : {X : Type 0} (o : Option X) → ((x : X) → o ≡ Some x → ⊥) → o ≡ None
not_some None none = refl
not_some (Some x) none = absurd (none x refl)

-- ---- the first line

pub head_only : (format : Format) (kind : Kind) → head_read (first_line format kind) ≡ Some (format, kind)
head_only Rah1 Counter = refl
head_only Rah2 Counter = refl
head_only Rah1 _ = refl
head_only Rah2 _ = refl

kind_is : (spelling : Kind → List ℕ) (line : List ℕ) (own kind : Kind) → bytes_eq line (spelling own) ≡ true
    → Some own ≡ Some kind → line ≡ spelling kind
kind_is spelling line own kind same e =
    let kinds : own ≡ kind = cc in
    same_bytes line (spelling own) same ∙ ap spelling kinds

pub spelled_found : (spelling : Kind → List ℕ) (line : List ℕ) (kind : Kind)
    → kind_spelled spelling line ≡ Some kind → line ≡ spelling kind
spelled_found spelling line kind e =
    elim (chosen (bytes_eq line (spelling Counter)) _ _ _ e) [
      | inl is ↦ kind_is spelling line Counter kind is.0 is.1
      | inr not_counter ↦ elim (chosen (bytes_eq line (spelling Register)) _ _ _ not_counter.1) [
        | inl is ↦ kind_is spelling line Register kind is.0 is.1
        | inr not_register ↦ elim (chosen (bytes_eq line (spelling LwwSet)) _ _ _ not_register.1) [
          | inl is ↦ kind_is spelling line LwwSet kind is.0 is.1
          | inr not_set ↦ elim (chosen (bytes_eq line (spelling OrSet)) _ _ _ not_set.1) [
            | inl is ↦ kind_is spelling line OrSet kind is.0 is.1
            | inr not_or_set ↦ elim (chosen (bytes_eq line (spelling Rga)) _ _ _ not_or_set.1) [
              | inl is ↦ kind_is spelling line Rga kind is.0 is.1
              | inr not_rga ↦ elim (chosen (bytes_eq line (spelling kinds.List)) _ _ _ not_rga.1) [
                | inl is ↦ kind_is spelling line kinds.List kind is.0 is.1
                | inr not_list ↦ elim (chosen (bytes_eq line (spelling kinds.Any)) _ _ _ not_list.1) [
                  | inl is ↦ kind_is spelling line kinds.Any kind is.0 is.1
                  | inr not_any ↦ elim (chosen (bytes_eq line (spelling kinds.MvRegister)) _ _ _ not_any.1) [
                    | inl is ↦ kind_is spelling line kinds.MvRegister kind is.0 is.1
                    | inr none ↦ absurd (let never = none.1 in cc)
                  ]
                ]
              ]
            ]
          ]
        ]
      ]
    ]

kind_found : (format : Format) (line : List ℕ) (kind : Kind) → kind_read format line ≡ Some kind
    → line ≡ first_line format kind
kind_found format = spelled_found (first_line format)

abbrev with_format : Format → Option Kind → Option (Format × Kind)
with_format format found = option_map (λ kind. (format, kind)) found

first_found : (line : List ℕ) (older newer : Option Kind) (format : Format) (kind : Kind)
    → ((k : Kind) → older ≡ Some k → line ≡ first_line Rah1 k)
    → ((k : Kind) → newer ≡ Some k → line ≡ first_line Rah2 k)
    → option_or (with_format Rah1 older) (with_format Rah2 newer) ≡ Some (format, kind)
    → line ≡ first_line format kind
first_found line (Some k) newer format kind one two e =
    let old : Format × Kind = (Rah1, k) in
    let head : Format × Kind = (format, kind) in
    let some : Some old ≡ Some head = e in
    let same : old ≡ head = cc in
    one k refl ∙ ap (λ (head : Format × Kind). first_line head.0 head.1) same
first_found line None (Some k) format kind one two e =
    let new : Format × Kind = (Rah2, k) in
    let head : Format × Kind = (format, kind) in
    let some : Some new ≡ Some head = e in
    let same : new ≡ head = cc in
    two k refl ∙ ap (λ (head : Format × Kind). first_line head.0 head.1) same
first_found line None None format kind one two e = absurd cc

pub head_found : (line : List ℕ) (format : Format) (kind : Kind) → head_read line ≡ Some (format, kind)
    → line ≡ first_line format kind
head_found line format kind e =
    first_found line (kind_read Rah1 line) (kind_read Rah2 line) format kind (kind_found Rah1 line)
    (kind_found Rah2 line) e

-- in the terms of the reader's contract
pub reader_found : (line : List ℕ) (o : Option (Format × Kind)) → o ≡ head_read line
    → IfSome o (λ head. line ≡ first_line head.0 head.1)
reader_found line None e = tt
reader_found line (Some head) e = head_found line head.0 head.1 (sym e)

-- ---- the keyword of a kind

pub word_only : (kind : Kind) → kind_named (kind_word kind) ≡ Some kind
word_only Counter = refl
word_only _ = refl

pub word_found : (word : List ℕ) (kind : Kind) → kind_named word ≡ Some kind → word ≡ kind_word kind
word_found = spelled_found kind_word

-- ---- the second line

any_none : (word : List ℕ) (words : List (List ℕ)) → not (list_any (bytes_eq word) words) ≡ true
    → AllByRecursion (λ y. bytes_eq word y ≡ false) words
any_none word [] e = tt
any_none word (other ∷ words) e =
    elim (cases_Bool (bytes_eq word other)) [
      | inl same ↦ absurd (let never = rw same at e in cc)
      | inr apart ↦ (apart, any_none word words (rw apart at e))
    ]

none_any : (word : List ℕ) (words : List (List ℕ)) → AllByRecursion (λ y. bytes_eq word y ≡ false) words
    → not (list_any (bytes_eq word) words) ≡ true
none_any word [] all = refl
none_any word (other ∷ words) all = rw all.0 (none_any word words all.1)

pub no_words : IsDistinct bytes_eq []
unfolding IsDistinct
no_words = tt

pub distinct_found : (words : List (List ℕ)) → are_distinct words ≡ true → IsDistinct bytes_eq words
distinct_found [] e = no_words
distinct_found (word ∷ words) e =
    let parts = and_parts (not (list_any (bytes_eq word) words)) (are_distinct words) e in
    IsDistinct-cons bytes_eq word words (any_none word words parts.0) (distinct_found words parts.1)

pub distinct_only : (words : List (List ℕ)) → IsDistinct bytes_eq words → are_distinct words ≡ true
distinct_only [] distinct = refl
distinct_only (word ∷ words) distinct =
    and_from (not (list_any (bytes_eq word) words)) (are_distinct words)
    (none_any word words (IsDistinct-head bytes_eq word words distinct))
    (distinct_only words (IsDistinct-tail bytes_eq word words distinct))

names_found : (format : Format) (words : List (List ℕ)) → are_names format words ≡ true → AreNames format words
names_found format words e =
    let some : Bool = ltb 0 (length words) in
    let few : Bool = leb (length words) (most_names format) in
    let each : Bool = list_all is_name words in
    let last = and_parts (some && few && each) (are_distinct words) e in
    let third = and_parts (some && few) each last.0 in
    let second = and_parts some few third.0 in
    record {
      some = ltb-true 0 (length words) second.0;
      few = leb-true (length words) (most_names format) second.1;
      each = third.1;
      distinct = distinct_found words last.1;
    }

names_only : (format : Format) (words : List (List ℕ)) → AreNames format words → are_names format words ≡ true
names_only format words are =
    let some : Bool = ltb 0 (length words) in
    let few : Bool = leb (length words) (most_names format) in
    let each : Bool = list_all is_name words in
    and_from (some && few && each) (are_distinct words)
    (and_from (some && few) each
    (and_from some few (lt-ltb 0 (length words) are.some) (le-leb (length words) (most_names format) are.few)) are.each)
    (distinct_only words are.distinct)

listed_found : (format : Format) (fields names : List (List ℕ)) → names_listed format fields ≡ Some names
    → AreNames format names × (fields ≡ codes "replicas" ∷ names)
listed_found format [] names e = absurd cc
listed_found format (word ∷ words) names e =
    elim (chosen (bytes_eq word (codes "replicas") && are_names format words) (Some words) None (Some names) e) [
      | inl is_so ↦
          let parts = and_parts (bytes_eq word (codes "replicas")) (are_names format words) is_so.0 in
          let same : words ≡ names = let some = is_so.1 in cc in (
            subst (AreNames format) same (names_found format words parts.1),
            ap (λ (w : List ℕ). w ∷ words) (same_bytes word (codes "replicas") parts.0)
                ∙ ap (λ (ws : List (List ℕ)). codes "replicas" ∷ ws) same,
          )
      | inr none ↦ absurd (let never = none.1 in cc)
    ]

pub names_read-Some : (format : Format) (line : List ℕ) (names : List (List ℕ)) → names_read format line ≡ Some names
    → ListsNames format line names
names_read-Some format line names e = listed_found format (fields_of line) names e

pub names_read-listed : (format : Format) (line : List ℕ) (names : List (List ℕ)) → ListsNames format line names
    → names_read format line ≡ Some names
names_read-listed format line names lists =
    ap (names_listed format) lists.1
    ∙ ap (λ (b : Bool). cond b (Some names) None) (names_only format names lists.0)

pub names_read-none : (format : Format) (line : List ℕ)
    → ((names : List (List ℕ)) → ListsNames format line names → ⊥) → names_read format line ≡ None
names_read-none format line none =
    not_some (names_read format line) (λ names read. none names (names_read-Some format line names read))
