-- Lemmas on bytes that are split at a separator, and on the pieces.
use Rattle.std.proofs.Common.{◌≡◌, ℕ, ◌≢◌, false, eqb, List, [], ◌∷◌, length, refl, ap, ◌∙◌, All, arith}
use Rattle.std.specs.List.{join_with_byte}
use Rattle.std.proofs.lemmas.Bool.{ne_eqb, eq-eqb}
use Rattle.std.proofs.lemmas.List.Splits.{slice_split_at, slice_split_none, length-slice_split, join_with_byte-slice_split}
use Rattle.ra_history_lines.specs.Grammar.{fields_of}
use Rattle.ra_history_lines.specs.Fields.{IsCutAt, pieces_at}

-- the absence of the byte, as a test
apart : (byte : ℕ) (bytes : List ℕ) → All (λ b. b ≢ byte) bytes → All (λ b. eqb b byte ≡ false) bytes
apart byte bytes none k d lt = ne_eqb _ byte (none k d lt)

pub pieces-cut : (byte : ℕ) (bytes piece more : List ℕ) → IsCutAt byte bytes piece more
    → pieces_at byte bytes ≡ piece ∷ pieces_at byte more
pieces-cut byte bytes piece more cut =
    ap (pieces_at byte) cut.parts
    ∙ slice_split_at (λ b. eqb b byte) piece byte more (apart byte piece cut.first) (eq-eqb byte byte refl)

pub pieces-whole : (byte : ℕ) (bytes : List ℕ) → All (λ b. b ≢ byte) bytes → pieces_at byte bytes ≡ bytes ∷ []
pieces-whole byte bytes none = slice_split_none (λ b. eqb b byte) bytes (apart byte bytes none)

pub fields-cut : (line field more : List ℕ) → IsCutAt 32 line field more → fields_of line ≡ field ∷ fields_of more
fields-cut = pieces-cut 32

pub fields-whole : (line : List ℕ) → All (λ b. b ≢ 32) line → fields_of line ≡ line ∷ []
fields-whole = pieces-whole 32

-- there is at least one piece
pub some_piece : (byte : ℕ) (bytes : List ℕ) → pieces_at byte bytes ≡ [] → ⊥
some_piece byte bytes e = omega (arith, length-slice_split (λ b. eqb b byte) bytes, ap length e)

-- joining the pieces restores the bytes
pub pieces-joined : (byte : ℕ) (bytes : List ℕ) → join_with_byte byte (pieces_at byte bytes) ≡ bytes
pieces-joined = join_with_byte-slice_split
