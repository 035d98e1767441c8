-- Lemmas on names that are added one after another.
use Rattle.std.proofs.Common.{◌≡◌, ℕ, ◌+◌, ◌<◌, Bool, true, false, cond, ◌≤◌, ltb, List, [], ◌∷◌, ◌++◌, length, take, drop, eqb, ◌≢◌}
use Rattle.std.proofs.Common.{get_or, zero, suc, Some, None, Result, Err, refl, sym, ap, subst, ◌∙◌, arith, inl, inr}
use Rattle.std.specs.Prelude.{bytes_eq, codes, slice_get, option_map, position, Option, unwrap_or, IfOk, not, ◌||◌, ◌&&◌, if◌then◌else◌}
use Rattle.std.specs.Borrow.{Bor}
use Rattle.std.specs.Global as global
use Rattle.std.specs.List.{list_all, list_any, position_or_len, IsDistinct, AllByRecursion}
use Rattle.std.proofs.lemmas.Bool.{cases_Bool, and_parts, or_parts, not-true, and_from, ltb-false, ne_eqb, eq-eqb}
use Rattle.std.proofs.lemmas.Cmp.{nat_list_eq_equiv}
use Rattle.std.proofs.lemmas.List.{append_assoc, length_push, length-append, length-map, length-take-le, map-append, take_more}
use Rattle.std.proofs.lemmas.Option.{slice_get-map}
use Rattle.std.proofs.lemmas.Slice.Eq.{bytes_eq-Decides}
use Rattle.std.proofs.lemmas.List.Folds.{list_all-append}
use Rattle.std.proofs.lemmas.List.Recursion.{is_position_or_len}
use Rattle.std.proofs.lemmas.Map.Keys.{IsDistinct-head, IsDistinct-tail, IsDistinct-push}
use Rattle.ra_history_lines.specs.Grammar.{is_name, index_of_name, fields_of, most_names, AreNames, ListsNames}
use Rattle.ra_history_lines.specs.declared.format.Format.{Format}
use Rattle.ra_history_lines.specs.declared.format.Format.TheVariants.{Rah1, Rah2}
use Rattle.ra_labels.specs.declared.kind.Kind.{Kind}
use Rattle.ra_labels.specs.declared.command.Command.{Command}
use Rattle.ra_history_lines.specs.Reading.{are_distinct, replica_read, replica_command_read, command_read}
use Rattle.ra_history_lines.specs.NamesKept.{NamesKept}
use Rattle.ra_history_lines.proofs.Heads.{no_words, distinct_found, distinct_only}
use Rattle.ra_history_lines.specs.declared.fault.LineFault.{LineFault}
use Rattle.ra_history_lines.specs.Names.{bytes_of_each, texts_of, is_bad_behind, AreDistinctNames, IsFirstBad, MayJoin, AreNamesSoFar, ListsSoFar}

-- ---- positions

-- a name without a position is not in the list
not_there : (names : List (List ℕ)) (name : List ℕ) → index_of_name names name ≡ length names
    → list_any (bytes_eq name) names ≡ false
not_there [] name e = refl
not_there (own ∷ names) name e =
    elim (cases_Bool (bytes_eq name own)) [
      | inl same ↦ let here = rw same at e in absurd (omega arith)
      | inr other ↦
          let here = rw other at e in
          let later : index_of_name names name ≡ length names = omega arith in
          rw (other, not_there names name later) refl
    ]

pub place_within : (names : List (List ℕ)) (name : List ℕ) → index_of_name names name ≤ length names
place_within [] name = omega arith
place_within (own ∷ names) name =
    elim (cases_Bool (bytes_eq name own)) [
      | inl same ↦ rw same (omega arith)
      | inr other ↦ rw other (omega (arith, place_within names name))
    ]

-- a word that has a position among names is a name
pub placed_is_name : (names : List (List ℕ)) (word : List ℕ) → list_all is_name names ≡ true
    → index_of_name names word < length names → is_name word ≡ true
placed_is_name [] word each there = absurd (omega (arith, there))
placed_is_name (own ∷ names) word each there =
    let parts = and_parts (is_name own) (list_all is_name names) each in
    elim (cases_Bool (bytes_eq word own)) [
      | inl same ↦ ap is_name ((bytes_eq-Decides word own).0 same) ∙ parts.0
      | inr other ↦ placed_is_name names word parts.1 (let here = rw other at there in omega (arith, here))
    ]

pub replica_is_read : (names : List (List ℕ)) (word : List ℕ) (place : ℕ) → is_name word ≡ true
    → place ≡ index_of_name names word → Some place ≡ replica_read names word
replica_is_read names word place is found = rw is (ap Some found)

-- the replica that a word names
replica_found : (names : List (List ℕ)) (word : List ℕ) (replica : ℕ) → replica_read names word ≡ Some replica
    → (is_name word ≡ true) × (index_of_name names word ≡ replica)
replica_found names word replica read =
    elim (cases_Bool (is_name word)) [
      | inl is ↦ (is, (let here = rw is at read in ap (λ (o : Option ℕ). unwrap_or o 0) here))
      | inr other ↦ absurd (let here = rw other at read in cc)
    ]

pub replica_leads : {E : Type 0} (format : Format) (kind : Kind) (names : List (List ℕ)) (first word : List ℕ)
    (fields entry : List (List ℕ)) (replica : ℕ) (r : Result (Option Command) E)
    → entry ≡ first ∷ word ∷ fields → replica_read names first ≡ Some replica
    → IfOk r (λ c. c ≡ replica_command_read kind replica word fields)
    → IfOk r (λ c. c ≡ command_read format kind names entry)
replica_leads format kind names first word fields entry replica r parts read holds =
    let found = replica_found names first replica read in
    let same : replica_command_read kind replica word fields ≡ command_read format kind names entry =
    rw (parts, found.0) (ap (λ (n : ℕ). replica_command_read kind n word fields) (sym found.1)) in
    subst (λ (o : Option Command). IfOk r (λ c. c ≡ o)) same holds

-- the keys of a set, by their bytes
abbrev is_key : List ℕ → global.Vec ℕ → Bool
is_key name key = bytes_eq name key.items

place_is : (keys : List (global.Vec ℕ)) (name : List ℕ)
    → position_or_len (is_key name) keys ≡ index_of_name (bytes_of_each keys) name
place_is keys name = sym (is_position_or_len (λ (ks : List (global.Vec ℕ)). index_of_name (bytes_of_each ks) name)
    (is_key name) refl (λ key ks. ap (cond (bytes_eq name key.items) 0) (omega arith)) keys)

pub place_found : (keys : List (global.Vec ℕ)) (name : List ℕ) (at : ℕ) → Some at ≡ position (is_key name) keys
    → at ≡ index_of_name (bytes_of_each keys) name
place_found keys name at e =
    let place = position_or_len (is_key name) keys in
    elim (cases_Bool (ltb place (length keys))) [
      | inl there ↦ let some : Some at ≡ Some place = e ∙ rw there refl in let same : at ≡ place = cc in
          same ∙ place_is keys name
      | inr past ↦ let none : Some at ≡ None = e ∙ rw past refl in absurd cc
    ]

pub place_missing : (keys : List (global.Vec ℕ)) (name : List ℕ) → None ≡ position (is_key name) keys
    → length keys ≡ index_of_name (bytes_of_each keys) name
place_missing keys name e =
    let place = position_or_len (is_key name) keys in
    elim (cases_Bool (ltb place (length keys))) [
      | inl there ↦ let some : None ≡ Some place = e ∙ rw there refl in absurd cc
      | inr past ↦
          omega (
            arith,
            ltb-false place (length keys) past,
            place_is keys name,
            place_within
                (bytes_of_each keys) name,
            length-map keys (λ key. key.items),
          )
    ]

-- a word at a position among distinct names has this position
among : (names : List (List ℕ)) (own name : List ℕ) (at : ℕ) → slice_get names at ≡ Some name
    → list_any (bytes_eq own) names ≡ false → bytes_eq own name ≡ false
among [] own name at there none = absurd cc
among (first ∷ names) own name zero there none =
    let same : first ≡ name = cc in
    let here : bytes_eq own first ≡ false = (or_parts (bytes_eq own first) (list_any (bytes_eq own) names) none).0 in
    ap (bytes_eq own) (sym same) ∙ here
among (first ∷ names) own name (suc at) there none =
    among names own name at there (or_parts (bytes_eq own first) (list_any (bytes_eq own) names) none).1

position_of : (names : List (List ℕ)) (name : List ℕ) (at : ℕ) → are_distinct names ≡ true
    → slice_get names at ≡ Some name → at ≡ index_of_name names name
position_of [] name at distinct there = absurd cc
position_of (own ∷ names) name zero distinct there =
    let same : own ≡ name = cc in
    let here : bytes_eq name own ≡ true = (bytes_eq-Decides name own).1 (sym same) in
    rw here refl
position_of (own ∷ names) name (suc at) distinct there =
    let parts = and_parts (not (list_any (bytes_eq own) names)) (are_distinct names) distinct in
    let apart = among names own name at there (not-true (list_any (bytes_eq own) names) parts.0) in
    let other : bytes_eq name own ≡ false = nat_list_eq_equiv.symm name own ∙ apart in
    rw other (omega (arith, position_of names name at parts.1 there))

pub place_of_key : (keys : List (global.Vec ℕ)) (name : List ℕ) (at : ℕ) (key : global.Vec ℕ) → NamesKept keys
    → slice_get keys at ≡ Some key → key.items ≡ name → at ≡ index_of_name (bytes_of_each keys) name
place_of_key keys name at key kept there is =
    position_of (bytes_of_each keys) name at kept.distinct
    (slice_get-map (λ k. k.items) keys at ∙ ap (option_map (λ k. k.items)) there ∙ ap (λ n. Some n) is)

-- a new key is appended
any_key : (keys : List (global.Vec ℕ)) (name : List ℕ)
    → list_any (is_key name) keys ≡ list_any (bytes_eq name) (bytes_of_each keys)
any_key [] name = refl
any_key (key ∷ keys) name = ap (λ (b : Bool). bytes_eq name key.items || b) (any_key keys name)

pub key_joins : (keys new : List (global.Vec ℕ)) (key : global.Vec ℕ) (name : List ℕ) → key.items ≡ name
    → new ≡ (if list_any (is_key key.items) keys then keys else keys ++ key ∷ [])
    → index_of_name (bytes_of_each keys) name ≡ length keys
    → bytes_of_each new ≡ bytes_of_each keys ++ name ∷ []
key_joins keys new key name is joined place =
    let there : list_any (is_key key.items) keys ≡ false =
    ap (λ (n : List ℕ). list_any (is_key n) keys) is ∙ any_key keys name
    ∙ not_there (bytes_of_each keys) name (place ∙ sym (length-map keys (λ k. k.items))) in
    let last : new ≡ keys ++ key ∷ [] = joined ∙ rw there refl in
    ap bytes_of_each last ∙ map-append (λ (k : global.Vec ℕ). k.items) keys (key ∷ [])
    ∙ ap (λ (n : List ℕ). bytes_of_each keys ++ n ∷ []) is

-- a property of all elements holds of the middle one
at_middle : {A : Type 0} (P : A → Type 0) (front rest : List A) (x : A) → AllByRecursion P (front ++ x ∷ rest) → P x
at_middle P [] rest x all = all.0
at_middle P (y ∷ front) rest x all = at_middle P front rest x all.1

-- in distinct names, no name has a position among those before it
new_among : (names rest : List (List ℕ)) (name : List ℕ) → IsDistinct bytes_eq (names ++ name ∷ rest)
    → index_of_name names name ≡ length names
new_among [] rest name distinct = refl
new_among (own ∷ names) rest name distinct =
    let other : bytes_eq own name ≡ false = at_middle (λ y. bytes_eq own y ≡ false) names rest name
    (IsDistinct-head bytes_eq own (names ++ name ∷ rest) distinct) in
    let later = new_among names rest name (IsDistinct-tail bytes_eq own (names ++ name ∷ rest) distinct) in
    let turned : bytes_eq name own ≡ false = nat_list_eq_equiv.symm name own ∙ other in
    rw turned (omega (arith, later))

list_all-push : (p : List ℕ → Bool) (front : List (List ℕ)) (x : List ℕ) → list_all p front ≡ true → p x ≡ true
    → list_all p (front ++ x ∷ []) ≡ true
list_all-push p front x all here = list_all-append p front (x ∷ [])
    ∙ and_from (list_all p front) (p x && true) all (and_from (p x) true here refl)

pub AreNamesSoFar-push : (names : List (List ℕ)) (name : List ℕ) → AreNamesSoFar names → MayJoin Rah2 names name
    → AreNamesSoFar (names ++ name ∷ [])
AreNamesSoFar-push names name so_far may = record {
  few = omega (arith, length_push names name, may.room);
  each = list_all-push is_name names name so_far.each may.form;
  distinct = IsDistinct-push nat_list_eq_equiv names name so_far.distinct (not_there names name may.new);
}

-- a name in a list of names may join the names before it
pub MayJoin-from_names : (format : Format) (names rest : List (List ℕ)) (name : List ℕ)
    → AreNames format (names ++ name ∷ rest)
    → MayJoin format names name
MayJoin-from_names format names rest name are = record {
  room = omega (arith, are.few, length-append names (name ∷ rest));
  form = (and_parts (is_name name) (list_all is_name rest) (and_parts (list_all is_name names)
      (list_all is_name (name ∷ rest)) (sym (list_all-append is_name names (name ∷ rest)) ∙ are.each)).1).0;
  new = new_among names rest name are.distinct;
}

-- a name that may join in one format may join in the format with more names
pub in_any : (format : Format) (names : List (List ℕ)) (name : List ℕ) → MayJoin format names name
    → MayJoin Rah2 names name
in_any Rah1 names name may = record { room = omega (arith, may.room); form = may.form; new = may.new }
in_any Rah2 names name may = may

pub as_many : (keys : List (global.Vec ℕ)) (names : List (List ℕ)) → bytes_of_each keys ≡ names
    → length names ≡ length keys
as_many keys names are = ap length (sym are) ∙ length-map keys (λ key. key.items)

-- a name that is not in the list has no position
is_there_not : (names : List (List ℕ)) (name : List ℕ) → list_any (bytes_eq name) names ≡ false
    → index_of_name names name ≡ length names
is_there_not [] name e = refl
is_there_not (own ∷ names) name e =
    elim (cases_Bool (bytes_eq name own)) [
      | inl same ↦ let here : true ≡ false = rw same at e in absurd cc
      | inr other ↦
          let later : list_any (bytes_eq name) names ≡ false = rw other at e in
          rw other (omega (arith, is_there_not names name later))
    ]

-- the position of a word determines whether it is bad
pub new_is : (keys : List (global.Vec ℕ)) (names : List (List ℕ)) (word : List ℕ) (place : ℕ)
    → bytes_of_each keys ≡ names → place ≡ index_of_name (bytes_of_each keys) word
    → is_name word ≡ true → eqb place (length keys) ≡ not (is_bad_behind names word)
new_is keys names word place are found form =
    let at : place ≡ index_of_name names word = found ∙ ap (λ (ns : List (List ℕ)). index_of_name ns word) are in
    let len = as_many keys names are in
    elim (cases_Bool (list_any (bytes_eq word) names)) [
      | inl there ↦
          let apart : place ≢ length keys = λ same.
          (let no : list_any (bytes_eq word) names ≡ false = not_there names word (sym at ∙ same ∙ sym len) in
          let both : true ≡ false = sym there ∙ no in absurd cc) in
          ne_eqb place (length keys) apart ∙ rw (form, there) refl
      | inr missing ↦
          eq-eqb place (length keys) (at ∙ is_there_not names word missing ∙ len) ∙ rw (form, missing) refl
    ]

-- ---- words that are given as names

pub none_yet : AreDistinctNames []
none_yet = record { each = refl; distinct = no_words }

-- a word that is not bad after the names is one more name
pub name_more : (before : List (List ℕ)) (word : List ℕ) → AreDistinctNames before → is_bad_behind before word ≡ false
    → AreDistinctNames (before ++ word ∷ [])
name_more before word so_far good =
    elim (cases_Bool (is_name word)) [
      | inl form ↦
          let here : list_any (bytes_eq word) before ≡ false = rw form at good in
          record {
            each = list_all-push is_name before word so_far.each form;
            distinct =
                IsDistinct-push nat_list_eq_equiv before word so_far.distinct here;
          }
      | inr other ↦ let bad : true ≡ false = rw other at good in absurd cc
    ]

-- the words, split at a position
pub words_cut : (words : List (Bor (List ℕ))) (i : ℕ) (d : Bor (List ℕ)) → i < length words
    → texts_of words ≡ texts_of (take i words) ++ (get_or words i d).now ∷ texts_of (drop (suc i) words)
words_cut [] i d there = absurd (omega arith)
words_cut (word ∷ words) zero d there = refl
words_cut (word ∷ words) (suc i) d there =
    ap (λ (ws : List (List ℕ)). word.now ∷ ws) (words_cut words i d (omega arith))

-- one more word that is not bad
pub names_more_at : (words : List (Bor (List ℕ))) (i : ℕ) (d : Bor (List ℕ)) → i < length words
    → AreDistinctNames (texts_of (take i words))
    → is_bad_behind (texts_of (take i words)) (get_or words i d).now ≡ false
    → AreDistinctNames (texts_of (take (i + 1) words))
names_more_at words i d there so_far good =
    subst AreDistinctNames (sym (ap texts_of (take_more words i d there)
    ∙ map-append (λ (text : Bor (List ℕ)). text.now) (take i words) (get_or words i d ∷ [])))
    (name_more (texts_of (take i words)) (get_or words i d).now so_far good)

pub first_bad_at : (words : List (Bor (List ℕ))) (i : ℕ) (d : Bor (List ℕ)) → i < length words
    → AreDistinctNames (texts_of (take i words))
    → is_bad_behind (texts_of (take i words)) (get_or words i d).now ≡ true → IsFirstBad (texts_of words) i
first_bad_at words i d there so_far bad = record {
  before = texts_of (take i words);
  word = (get_or words i d).now;
  later = texts_of (drop (suc i) words);
  parts = words_cut words i d there;
  place = sym (length-map (take i words) (λ text. text.now) ∙ length-take-le i words (omega arith));
  so_far = so_far;
  bad = bad;
}

-- words that were all tested are names
pub are_names : (words : List (List ℕ)) → 0 < length words → length words ≤ 64 → AreDistinctNames words
    → AreNames Rah2 words
are_names words some few each = record { some = some; few = few; each = each.each; distinct = each.distinct }

-- each of the names may join those before it
pub may_join_at : (words : List (Bor (List ℕ))) (i : ℕ) (d : Bor (List ℕ)) (names : List (List ℕ)) → i < length words
    → names ≡ texts_of (take i words) → AreNames Rah2 (texts_of words)
    → MayJoin Rah2 names (get_or words i d).now
may_join_at words i d names there front are =
    subst (λ (ns : List (List ℕ)). MayJoin Rah2 ns (get_or words i d).now) (sym front)
    (MayJoin-from_names Rah2 (texts_of (take i words)) (texts_of (drop (suc i) words)) (get_or words i d).now
    (subst (AreNames Rah2) (words_cut words i d there) are))

-- ---- the first names of a line

pub so_far_first : (format : Format) (line : List ℕ) (word : List ℕ) (fields : List (List ℕ))
    → fields_of line ≡ word ∷ fields → word ≡ codes "replicas" → ListsSoFar format line [] fields
so_far_first format line word fields cut is =
    record {
      parts = cut ∙ ap (λ (x : List ℕ). x ∷ fields) is;
      few = omega arith;
      so_far =
          record { few = omega arith; each = refl; distinct = no_words };
    }

pub so_far_next : (format : Format) (line : List ℕ) (names : List (List ℕ)) (name : List ℕ) (fields : List (List ℕ))
    → ListsSoFar format line names (name ∷ fields) → MayJoin format names name
    → ListsSoFar format line (names ++ name ∷ []) fields
so_far_next format line names name fields front may = record {
  parts = front.parts
      ∙ ap (λ (xs : List (List ℕ)). codes "replicas" ∷ xs) (sym (append_assoc names (name ∷ []) fields));
  few = omega (arith, length_push names name, may.room);
  so_far = AreNamesSoFar-push names name front.so_far (in_any format names name may);
}

-- the names that a line lists are those of its fields
listed : (line : List ℕ) (names fields others : List (List ℕ)) → fields_of line ≡ codes "replicas" ∷ (names ++ fields)
    → fields_of line ≡ codes "replicas" ∷ others → others ≡ names ++ fields
listed line names fields others p q = let both = sym q ∙ p in cc

pub so_far_refused : (format : Format) (line : List ℕ) (names : List (List ℕ)) (name : List ℕ)
    (fields others : List (List ℕ))
    → ListsSoFar format line names (name ∷ fields) → (MayJoin format names name → ⊥) → ListsNames format line others
    → ⊥
so_far_refused format line names name fields others front refused lists =
    let same = listed line names (name ∷ fields) others front.parts lists.1 in
    refused (MayJoin-from_names format names fields name (subst (AreNames format) same lists.0))

-- a fault that is passed on
abbrev pub failed : LineFault → Result (Unit {0}) LineFault
failed fault = Err fault

-- ---- keys of a set as names

-- a word that is not bad after the names may join them, if there is room
pub may_join : (format : Format) (names : List (List ℕ)) (word : List ℕ) → length names < most_names format
    → is_bad_behind names word ≡ false → MayJoin format names word
may_join format names word room good =
    elim (cases_Bool (is_name word)) [
      | inl form ↦
          let here : list_any (bytes_eq word) names ≡ false = rw form at good in
          record { room = room; form = form; new = is_there_not names word here }
      | inr other ↦ let bad : true ≡ false = rw other at good in absurd cc
    ]

-- and a word that may join is not bad
pub not_bad : (format : Format) (names : List (List ℕ)) (word : List ℕ) → MayJoin format names word
    → is_bad_behind names word ≡ false
not_bad format names word may = rw (may.form, not_there names word may.new) refl

pub joins_last : (keys : List (global.Vec ℕ)) (names : List (List ℕ)) (name : List ℕ) → bytes_of_each keys ≡ names
    → MayJoin Rah2 names name → index_of_name (bytes_of_each keys) name ≡ length keys
joins_last keys names name are may =
    ap (λ (ns : List (List ℕ)). index_of_name ns name) are ∙ may.new ∙ ap length (sym are)
    ∙ length-map keys (λ key. key.items)

-- ---- the invariant

-- one more name
pub kept_next : (keys new : List (global.Vec ℕ)) (name : List ℕ) (names : List (List ℕ)) → NamesKept keys
    → bytes_of_each keys ≡ names → MayJoin Rah2 names name
    → bytes_of_each new ≡ bytes_of_each keys ++ name ∷ [] → NamesKept new
kept_next keys new name names kept are may grown =
    let here : MayJoin Rah2 (bytes_of_each keys) name =
    subst (λ (ns : List (List ℕ)). MayJoin Rah2 ns name) (sym are) may in
    let few : length (bytes_of_each keys) ≤ 64 = omega (arith, kept.few, length-map keys (λ key. key.items)) in
    let so_far : AreNamesSoFar (bytes_of_each keys) =
    record { few = few; each = kept.each; distinct = distinct_found (bytes_of_each keys) kept.distinct } in
    let next : AreNamesSoFar (bytes_of_each new) =
    subst AreNamesSoFar (sym grown) (AreNamesSoFar-push (bytes_of_each keys) name so_far here) in
    record {
      few = omega (arith, next.few, length-map new (λ key. key.items));
      each = next.each;
      distinct = distinct_only (bytes_of_each new) next.distinct;
    }

pub kept_names : (keys : List (global.Vec ℕ)) (names : List (List ℕ)) → NamesKept keys → bytes_of_each keys ≡ names
    → AreNamesSoFar names
kept_names keys names kept are =
    subst AreNamesSoFar are (record {
      few = omega (arith, kept.few, length-map keys (λ key. key.items));
      each = kept.each;
      distinct = distinct_found (bytes_of_each keys) kept.distinct;
    })
