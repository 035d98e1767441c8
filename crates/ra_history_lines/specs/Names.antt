-- Lists of names, built one name after another.
use Rattle.std.specs.Prelude.{◌≡◌, ℕ, ◌<◌, ◌≤◌, Bool, true, false, not, ◌||◌, List, ◌∷◌, ◌++◌, map, length, bytes_eq, codes}
use Rattle.std.specs.Global as global
use Rattle.std.specs.Borrow.{Bor}
use Rattle.std.specs.List.{list_all, list_any, IsDistinct}
use Rattle.ra_history_lines.specs.declared.limits.TheConstants.{MOST_NAMES}
use Rattle.ra_history_lines.specs.declared.format.Format.{Format}
use Rattle.ra_history_lines.specs.declared.format.Format.TheVariants.{Rah2}
use Rattle.ra_history_lines.specs.declared.fault.NamesFault.{NamesFault}
use Rattle.ra_history_lines.specs.declared.fault.NamesFault.TheVariants.{BadCount, BadName, NoMemory}
use Rattle.ra_history_lines.specs.Grammar.{is_name, index_of_name, fields_of, most_names, AreNames}

-- the bytes of each of the names
abbrev pub bytes_of_each : List (global.Vec ℕ) → List (List ℕ)
bytes_of_each names = map (λ name. name.items) names

-- holds if the name can follow these on a second line; for a name that joins a history, the format is RAH 2
pub record MayJoin (format : Format) (names : List (List ℕ)) (name : List ℕ) : Type 0 where
  pub room : length names < most_names format
  pub form : is_name name ≡ true
  pub new : index_of_name names name ≡ length names

-- holds if the names are valid, distinct and not too many, even if there are none
pub record AreNamesSoFar (names : List (List ℕ)) : Type 0 where
  pub few : length names ≤ MOST_NAMES
  pub each : list_all is_name names ≡ true
  pub distinct : IsDistinct bytes_eq names

-- holds if the names on a line begin with these, and these fields of it remain
pub record ListsSoFar (format : Format) (line : List ℕ) (names fields : List (List ℕ)) : Type 0 where
  pub parts : fields_of line ≡ codes "replicas" ∷ (names ++ fields)
  pub few : length names ≤ most_names format
  pub so_far : AreNamesSoFar names

-- ---- words that are given as names

-- the bytes of each of the texts
abbrev pub texts_of : List (Bor (List ℕ)) → List (List ℕ)
texts_of texts = map (λ text. text.now) texts

-- holds if the words are valid names and distinct
pub record AreDistinctNames (words : List (List ℕ)) : Type 0 where
  pub each : list_all is_name words ≡ true
  pub distinct : IsDistinct bytes_eq words

-- `true` if the word is no valid name or repeats one of those before it
abbrev pub is_bad_behind : List (List ℕ) → List ℕ → Bool
is_bad_behind before word = not (is_name word) || list_any (bytes_eq word) before

-- holds if the count is from one to the largest number of names
abbrev pub IsCount : ℕ → Type 0
IsCount count = (0 < count) × (count ≤ MOST_NAMES)

-- Holds if the word at this position is the first that is no valid name or repeats an earlier one: those before it are
-- valid and distinct.
pub record IsFirstBad (words : List (List ℕ)) (at : ℕ) : Type 0 where
  pub before : List (List ℕ)
  pub word : List ℕ
  pub later : List (List ℕ)
  pub parts : words ≡ before ++ word ∷ later
  pub place : at ≡ length before
  pub so_far : AreDistinctNames before
  pub bad : is_bad_behind before word ≡ true

-- the condition for each fault of the words as names; an allocation can fail only if they are valid
abbrev pub IsFaultOf : List (List ℕ) → NamesFault → Type 0
IsFaultOf words BadCount = IsCount (length words) → ⊥
IsFaultOf words (BadName at) = IsCount (length words) × IsFirstBad words at
IsFaultOf words NoMemory = AreNames Rah2 words

-- the condition for each fault of adding the word to these names; an allocation can fail only if it can be added
abbrev pub StopsAdding : List (List ℕ) → List ℕ → NamesFault → Type 0
StopsAdding names word (BadName at) = (at ≡ 0) × (is_bad_behind names word ≡ true)
StopsAdding names word BadCount = (is_bad_behind names word ≡ false) × (length names ≡ MOST_NAMES)
StopsAdding names word NoMemory = MayJoin Rah2 names word
