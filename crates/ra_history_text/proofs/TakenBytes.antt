-- Lemmas on consuming several bytes.
use Rattle.std.proofs.Common.{inl, inr, ◌≡◌, ◌≢◌, ℕ, suc, ◌+◌, ◌<◌, ◌≤◌, false, true, eqb, ltb, List, [], ◌∷◌, ◌++◌}
use Rattle.std.proofs.Common.{length, All, Result, Ok, Err, refl, sym, ap, ◌∙◌, arith}
use Rattle.std.proofs.lemmas.Bool.{ne_eqb, lt-ltb, ltb-true, ltb-false, eqb-true, eqb-false, cases_Bool}
use Rattle.std.proofs.lemmas.List.{append_assoc, append-nil, length_push}
use Rattle.ra_history_text.specs.Text.{Progress, Stop, LineTooLong, next_line, stop_at, line_taken, byte_taken, unless_stopped, taken}

-- a property of a consumed byte, by the byte and by whether there is room for it
pub byte_cases : (p : Progress) (byte : ℕ) (P : Result Progress Stop → Type 0)
    → (byte ≡ 10 → P (line_taken p.said p.partial))
    → (byte ≢ 10 → length p.partial < 1048576
    → P (Ok (record { said = p.said; partial = p.partial ++ byte ∷ [] })))
    → (byte ≢ 10 → 1048576 ≤ length p.partial → P (Err (stop_at p.said (LineTooLong (next_line p.said)))))
    → P (byte_taken p byte)
byte_cases p byte P whole more long =
    elim (cases_Bool (eqb byte 10)) [
      | inl feed ↦ rw feed (whole (eqb-true byte 10 feed))
      | inr other ↦ elim (cases_Bool (ltb (length p.partial) 1048576)) [
        | inl room ↦ rw (other, room) (more (eqb-false byte 10 other) (ltb-true (length p.partial) 1048576 room))
        | inr full ↦ rw (other, full) (long (eqb-false byte 10 other) (ltb-false (length p.partial) 1048576 full))
      ]
    ]

-- steps may be grouped
unless_stopped_assoc : (r : Result Progress Stop) (f g : Progress → Result Progress Stop)
    → unless_stopped (unless_stopped r f) g ≡ unless_stopped r (λ p. unless_stopped (f p) g)
unless_stopped_assoc (Ok p) f g = refl
unless_stopped_assoc (Err stop) f g = refl

unless_stopped_ok : (r : Result Progress Stop) → unless_stopped r (λ p. Ok p) ≡ r
unless_stopped_ok (Ok p) = refl
unless_stopped_ok (Err stop) = refl

same_behind : (r : Result Progress Stop) (f g : Progress → Result Progress Stop) → ((p : Progress) → f p ≡ g p)
    → unless_stopped r f ≡ unless_stopped r g
same_behind (Ok p) f g same = same p
same_behind (Err stop) f g same = refl

-- later bytes are consumed from the progress that the earlier ones led to
pub taken-append : (p : Progress) (front back : List ℕ)
    → taken p (front ++ back) ≡ unless_stopped (taken p front) (λ q. taken q back)
taken-append p [] back = refl
taken-append p (byte ∷ front) back =
    same_behind (byte_taken p byte) (λ q. taken q (front ++ back))
    (λ q. unless_stopped (taken q front) (λ r. taken r back)) (λ q. taken-append q front back)
    ∙ sym (unless_stopped_assoc (byte_taken p byte) (λ q. taken q front) (λ q. taken q back))

pub taken_then : (p q : Progress) (front back : List ℕ) → taken p front ≡ Ok q → taken p (front ++ back) ≡ taken q back
taken_then p q front back is = taken-append p front back ∙ ap (λ r. unless_stopped r (λ q. taken q back)) is

pub stopped_then : (p : Progress) (stop : Stop) (front back : List ℕ) → taken p front ≡ Err stop
    → taken p (front ++ back) ≡ Err stop
stopped_then p stop front back is = taken-append p front back ∙ ap (λ r. unless_stopped r (λ q. taken q back)) is

-- a line feed completes the line
pub taken_line : (p q : Progress) (last : List ℕ) → taken p last ≡ Ok q
    → taken p (last ++ 10 ∷ []) ≡ line_taken q.said q.partial
taken_line p q last is = taken_then p q last (10 ∷ []) is ∙ unless_stopped_ok (line_taken q.said q.partial)

-- ---- a part of a line

-- a byte that is not a line feed
belongs : (p : Progress) (byte : ℕ) → byte ≢ 10 → length p.partial < 1048576
    → byte_taken p byte ≡ Ok (record { said = p.said; partial = p.partial ++ byte ∷ [] })
belongs p byte none room =
    let other : eqb byte 10 ≡ false = ne_eqb byte 10 none in
    let short : ltb (length p.partial) 1048576 ≡ true = lt-ltb (length p.partial) 1048576 room in
    rw (other, short) refl

one_too_many : (p : Progress) (byte : ℕ) → byte ≢ 10 → ltb (length p.partial) 1048576 ≡ false
    → byte_taken p byte ≡ Err (stop_at p.said (LineTooLong (next_line p.said)))
one_too_many p byte none full =
    let other : eqb byte 10 ≡ false = ne_eqb byte 10 none in
    rw (other, full) refl

first_is_none : (byte : ℕ) (bytes : List ℕ) → All (λ b. b ≢ 10) (byte ∷ bytes) → byte ≢ 10
first_is_none byte bytes none = none 0 0 (omega arith)

later_are_none : (byte : ℕ) (bytes : List ℕ) → All (λ b. b ≢ 10) (byte ∷ bytes) → All (λ b. b ≢ 10) bytes
later_are_none byte bytes none = λ k d below. none (suc k) d (omega (arith, below))

pub taken_part : (p : Progress) (part : List ℕ) → All (λ b. b ≢ 10) part → length p.partial + length part ≤ 1048576
    → taken p part ≡ Ok (record { said = p.said; partial = p.partial ++ part })
taken_part p [] none short = ap (λ (bs : List ℕ). Ok (record { said = p.said; partial = bs }))
    (sym (append-nil p.partial))
taken_part p (byte ∷ part) none short =
    let next : Progress = record { said = p.said; partial = p.partial ++ byte ∷ [] } in
    let one = length_push p.partial byte in
    ap (λ r. unless_stopped r (λ q. taken q part))
    (belongs p byte (first_is_none byte part none) (omega (arith, short)))
    ∙ taken_part next part (later_are_none byte part none) (omega (arith, one, short))
    ∙ ap (λ (bs : List ℕ). Ok (record { said = p.said; partial = bs })) (append_assoc p.partial (byte ∷ []) part)

pub taken_long : (p : Progress) (part : List ℕ) → All (λ b. b ≢ 10) part → 0 < length part
    → 1048576 < length p.partial + length part
    → taken p part ≡ Err (stop_at p.said (LineTooLong (next_line p.said)))
taken_long p [] none some long = absurd (omega arith)
taken_long p (byte ∷ part) none some long =
    let here = first_is_none byte part none in
    elim (cases_Bool (ltb (length p.partial) 1048576)) [
      | inl room ↦
          let next : Progress = record { said = p.said; partial = p.partial ++ byte ∷ [] } in
          let one = length_push p.partial byte in
          let below = ltb-true (length p.partial) 1048576 room in
          ap (λ r. unless_stopped r (λ q. taken q part)) (belongs p byte here below)
          ∙ taken_long next part (later_are_none byte part none) (omega (arith, below, long)) (omega (arith, one, long))
      | inr full ↦
          ap (λ r. unless_stopped r (λ q. taken q part)) (one_too_many p byte here full)
    ]
