-- Bytes that are split at a byte, and prefixes of bytes.
use Rattle.std.specs.Prelude.{◌≡◌, ◌≢◌, ℕ, ◌==◌, List, [], ◌∷◌, ◌++◌, All, Option, Some, None}
use Rattle.std.specs.List.{slice_split}

-- holds if `front` and `back` are the bytes before and after the first occurrence of this byte
pub record IsCutAt (byte : ℕ) (bytes front back : List ℕ) : Type 0 where
  pub parts : bytes ≡ front ++ byte ∷ back
  pub first : All (λ b. b ≢ byte) front

-- the pieces of bytes, split at each occurrence of this byte
abbrev pub pieces_at : ℕ → List ℕ → List (List ℕ)
pieces_at byte bytes = slice_split (λ b. b == byte) bytes

-- the pieces of the remaining bytes, if any remain
abbrev pub pieces_left : ℕ → Option (List ℕ) → List (List ℕ)
pieces_left byte None = []
pieces_left byte (Some rest) = pieces_at byte rest

-- holds if the bytes begin with `front`
abbrev pub BeginsWith : List ℕ → List ℕ → Type 0
BeginsWith front all = (more : List ℕ) × (all ≡ front ++ more)
