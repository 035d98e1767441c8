-- Lemmas on when two tests return the same answer.
use Rattle.std.proofs.Common.{◌≡◌, ◌≢◌, ℕ, ◌<◌, ◌≤◌, Bool, true, false, refl, sym, ap, ◌∙◌, ⊎_elim, arith, get_or, inl, inr}
use Rattle.std.specs.Prelude.{◌&&◌, ◌⊎◌, nat_lt}
use Rattle.std.proofs.lemmas.Bool.{lt-ltb, le-ltb, cases_lt}
use Rattle.std.proofs.lemmas.Bool.Decides.{eqb_tells}
use Rattle.ra_visibility.specs.declared.row.Row.{Row}
use Rattle.std.proofs.lemmas.List.{get_or_past}
use Rattle.ra_visibility.specs.Tracked.{Tracked, labels_in, row_at}
use Rattle.ra_visibility.specs.Seen.{Seen, no_row, is_in}

pub same_or_not : (a b : ℕ) → (a ≡ b) ⊎ (a ≢ b)
same_or_not a b = ⊎_elim (λ same. inl same.1) (λ other. inr other.1) (eqb_tells a b)

pub both_or_none : (b : Bool) → (b ≡ true) ⊎ (b ≡ false)
both_or_none true = inl refl
both_or_none false = inr refl

-- by cases: two numbers are equal or not
pub at_or_else : {A : Type 0} (a b : ℕ) → (a ≡ b → A) → (a ≢ b → A) → A
at_or_else a b at else = ⊎_elim at else (same_or_not a b)

-- by cases: one number is below another or not
pub below_or_not : {A : Type 0} (a b : ℕ) → (a < b → A) → (b ≤ a → A) → A
below_or_not a b below above = ⊎_elim below above (cases_lt a b)

pub lt_same : (a b c d : ℕ) → (a < b → c < d) → (c < d → a < b) → nat_lt a b ≡ nat_lt c d
lt_same a b c d to from = ⊎_elim
    (λ below. lt-ltb a b below ∙ sym (lt-ltb c d (to below)))
    (λ above. le-ltb a b above ∙ sym (le-ltb c d (⊎_elim (λ l. absurd (omega (arith, from l))) (λ m. m) (cases_lt c d))))
    (cases_lt a b)

pub and_same : (u a b : Bool) → (u ≡ true → a ≡ b) → (u && a) ≡ (u && b)
and_same true a b same = same refl
and_same false a b same = refl

-- membership of a label in two sets agrees if its row does, and the counts of its issuer agree on its position
pub in_same : (old new : Seen) (m : ℕ) → get_or new.rows m no_row ≡ get_or old.rows m no_row
    → ((get_or old.rows m no_row).is_update ≡ true
    → nat_lt (get_or old.rows m no_row).place (get_or new.counts (get_or old.rows m no_row).replica 0)
    ≡ nat_lt (get_or old.rows m no_row).place (get_or old.counts (get_or old.rows m no_row).replica 0))
    → is_in new m ≡ is_in old m
in_same old new m row same =
    ap (λ (r : Row). r.is_update && nat_lt r.place (get_or new.counts r.replica 0)) row
    ∙ and_same (get_or old.rows m no_row).is_update _ _ same

-- an update is an existing label
pub update_there : (t : Tracked) (m : ℕ) → (row_at t m).is_update ≡ true → m < labels_in t
update_there t m update = below_or_not m (labels_in t) (λ below. below)
    (λ past. absurd (cc (update, ap (λ (r : Row). r.is_update) (get_or_past t.rows m no_row past))))
