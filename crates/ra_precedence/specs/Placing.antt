-- Placing labels from the end of an order: what is known while one is placed after another.
use Rattle.std.specs.Prelude.{◌≡◌, ℕ, ◌+◌, ◌<◌, ◌==◌, ◌↔◌, ◌⊎◌, Bool, true, false, List, [], ◌∷◌, ◌++◌, length, get_or, set, take, count_by, Contains, if◌then◌else◌}
use Rattle.ra_labels.specs.Edges.{IsBefore}
use Rattle.ra_precedence.specs.Conditions.{Condition, condition_at}

-- how many times the number is in the list
abbrev pub times : ℕ → List ℕ → ℕ
times b xs = count_by (λ x. x == b) xs

-- how many times the label is in `before` of the conditions that are not met
abbrev pub open_count : List Condition → List Bool → ℕ → ℕ
open_count [] met b = 0
open_count (condition ∷ conditions) [] b = times b condition.before + open_count conditions [] b
open_count (condition ∷ conditions) (is_met ∷ met) b =
    (if is_met then 0 else times b condition.before) + open_count conditions met b

-- holds if the numbers say of each label how many times it is in `before` of the conditions that are not met
abbrev pub AreOpenCounts : List Condition → List Bool → List ℕ → Type 0
AreOpenCounts conditions met numbers = (b : ℕ) → get_or numbers b 0 ≡ open_count conditions met b

-- holds if the index was appended to the list of each of the labels, once for each time it is listed
abbrev pub AreAdded : List ℕ → ℕ → List (List ℕ) → List (List ℕ) → Type 0
AreAdded labels index old new = (c i : ℕ) → Contains (get_or new c []) i
    ↔ (Contains (get_or old c []) i ⊎ ((i ≡ index) × Contains labels c))

-- holds if the list of each label has the indexes of the conditions that have it in `after`
abbrev pub AreUses : List Condition → List (List ℕ) → Type 0
AreUses conditions uses = (c i : ℕ) → Contains (get_or uses c []) i
    ↔ ((i < length conditions) × Contains (condition_at conditions i).after c)

-- holds if labels were decremented once for each time they are in the list, and those that reached 0 were placed
pub record AreReleased (labels numbers now order placed : List ℕ) : Type 0 where
  pub each : (b : ℕ) → get_or now b 0 + times b labels ≡ get_or numbers b 0
  -- what was placed stands behind the earlier ones
  pub added : List ℕ
  pub placed_is : placed ≡ order ++ added
  pub added_once : (b : ℕ)
      → times b added ≡ (if times b labels == 0 then 0 else if get_or now b 0 == 0 then 1 else 0)

-- holds if the condition with this index was met, and its labels were released if it had not been
pub record IsMet (conditions : List Condition) (index : ℕ) (met met_now : List Bool)
    (numbers now order placed : List ℕ) : Type 0 where
  pub met_is : met_now ≡ set met index true
  pub released : get_or met index false ≡ false
      → AreReleased (condition_at conditions index).before numbers now order placed
  pub same : get_or met index false ≡ true → (now ≡ numbers) × (placed ≡ order)

-- Holds if the placed labels, the last one of the order first, are those that are open in no condition; a condition is
-- met only if one of its `after` is among the used labels, and each placed label stands behind one for each condition.
pub record ArePlaced (conditions : List Condition) (met : List Bool) (numbers placed used : List ℕ) : Type 0 where
  pub met_len : length met ≡ length conditions
  pub numbers_are : AreOpenCounts conditions met numbers
  pub once : (b : ℕ) → b < length numbers → times b placed ≡ (if get_or numbers b 0 == 0 then 1 else 0)
  pub below : (b : ℕ) → Contains placed b → b < length numbers
  pub by : (i : ℕ) → get_or met i false ≡ true
      → (c : ℕ) × Contains (condition_at conditions i).after c × Contains used c
  pub in_turn : (i b : ℕ) → i < length conditions → Contains placed b → Contains (condition_at conditions i).before b
      → (c : ℕ) × Contains (condition_at conditions i).after c × IsBefore placed c b

-- holds if each condition that has one of these labels in `after` is met
abbrev pub AllMet : List Condition → List Bool → List ℕ → Type 0
AllMet conditions met used = (c i : ℕ) → Contains used c → i < length conditions
    → Contains (condition_at conditions i).after c → get_or met i false ≡ true

-- holds if the first `next` placed labels were used: what they meet is met
pub record AreUsed (conditions : List Condition) (met : List Bool) (numbers placed : List ℕ) (next : ℕ) : Type 0 where
  pub placed_are : ArePlaced conditions met numbers placed (take next placed)
  pub all_met : AllMet conditions met (take next placed)

-- holds if every label that can be placed is placed
pub record AllArePlaced (conditions : List Condition) (numbers placed : List ℕ) : Type 0 where
  pub met : List Bool
  pub used : AreUsed conditions met numbers placed (length placed)
