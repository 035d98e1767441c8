-- Lemmas on the positions to which the rows of a diagram lead.
use Rattle.std.proofs.Common.{◌≡◌, ℕ, ◌+◌, ◌-◌, ◌≤◌, Bool, true, false, cond, List, [], ◌∷◌, ◌++◌, Option, Some, None, refl, ap, ◌∙◌, arith}
use Rattle.std.specs.Prelude.{All, nat_lt, nat_le, option_and_then}
use Rattle.std.proofs.lemmas.Bool.{ltb-false, le-leb, cond-true}
use Rattle.std.proofs.lemmas.List.{append-nil}
use Rattle.std.proofs.lemmas.List.Elements.{All-push, All-same}
use Rattle.ra_explain.specs.declared.remedies.Remedies.{Remedies}
use Rattle.ra_explain_diagram.specs.declared.drawing.Row.{Row}
use Rattle.ra_explain_diagram.specs.declared.drawing.Row.TheVariants as row
use Rattle.ra_explain_diagram.specs.Drawn.{IsHelpful, LeadTo, fold_between, led_by, led_from}

led_on : (asked : ℕ) (rows more : List Row) (at : Option ℕ)
    → ((n : ℕ) → led_from asked n (rows ++ more) ≡ option_and_then (λ m. led_from asked m more) (led_from asked n rows))
    → option_and_then (λ n. led_from asked n (rows ++ more)) at
    ≡ option_and_then (λ m. led_from asked m more) (option_and_then (λ n. led_from asked n rows) at)
led_on asked rows more None each = refl
led_on asked rows more (Some at) each = each at

led_append : (asked at : ℕ) (rows more : List Row)
    → led_from asked at (rows ++ more) ≡ option_and_then (λ m. led_from asked m more) (led_from asked at rows)
led_append asked at [] more = refl
led_append asked at (first ∷ rows) more =
    led_on asked rows more (led_by asked at first) (λ n. led_append asked n rows more)

-- one more row
pub lead_more : (asked at next : ℕ) (rows : List Row) (last : Row) → LeadTo asked at rows
    → led_by asked at last ≡ Some next → LeadTo asked next (rows ++ last ∷ [])
lead_more asked at next rows last lead leads =
    led_append asked 0 rows (last ∷ []) ∙ ap (option_and_then (λ m. led_from asked m (last ∷ []))) lead
    ∙ ap (option_and_then (λ m. led_from asked m [])) leads

fold_leads : (asked from to : ℕ) → from ≤ to → to ≤ asked → led_by asked from (row.Fold (to - from)) ≡ Some to
fold_leads asked from to order within =
    let same : from + (to - from) ≡ to = omega (arith, order) in
    ap (λ (n : ℕ). cond (nat_le n asked) (Some n) None) same
    ∙ cond-true (nat_le to asked) (Some to) None (le-leb to asked within)

lead_if : (asked from to : ℕ) (rows : List Row) (is_some : Bool) → nat_lt from to ≡ is_some → LeadTo asked from rows
    → from ≤ to → to ≤ asked → LeadTo asked to (rows ++ cond is_some (row.Fold (to - from) ∷ []) [])
lead_if asked from to rows true is lead order within =
    lead_more asked from to rows (row.Fold (to - from)) lead (fold_leads asked from to order within)
lead_if asked from to rows false is lead order within =
    let same : from ≡ to = omega (arith, ltb-false from to is, order) in
    ap (led_from asked 0) (append-nil rows) ∙ lead ∙ ap (λ (n : ℕ). Some n) same

-- a row for entries that are not drawn
pub lead_fold : (asked from to : ℕ) (rows : List Row) → LeadTo asked from rows → from ≤ to → to ≤ asked
    → LeadTo asked to (rows ++ fold_between from to)
lead_fold asked from to rows lead order within = lead_if asked from to rows (nat_lt from to) refl lead order within

helpful_if : (remedies : Remedies) (count : ℕ) (rows : List Row) (is_some : Bool) → All (IsHelpful remedies) rows
    → All (IsHelpful remedies) (rows ++ cond is_some (row.Fold count ∷ []) [])
helpful_if remedies count rows true helpful =
    All-push (IsHelpful remedies) rows (row.Fold count) helpful tt
helpful_if remedies count rows false helpful =
    All-same (IsHelpful remedies) (rows ++ []) rows (append-nil rows) helpful

-- such a row is for no change
pub helpful_fold : (remedies : Remedies) (from to : ℕ) (rows : List Row) → All (IsHelpful remedies) rows
    → All (IsHelpful remedies) (rows ++ fold_between from to)
helpful_fold remedies from to rows helpful = helpful_if remedies (to - from) rows (nat_lt from to) helpful
