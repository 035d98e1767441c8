-- The arrows of a certificate, between the rows of labels that it orders.
use Rattle.std.specs.Prelude.{ℕ, ◌==◌, nat_lt, Bool, true, false, List, [], ◌∷◌, ◌++◌, length, flat_map, position, Option, Some, None, option_and_then, unwrap_or, slice_get, codes, if◌then◌else◌}
use Rattle.std.specs.Option.{option_map_or}
use Rattle.ra_explain.specs.declared.certificate.Because.{Because}
use Rattle.ra_explain.specs.declared.certificate.Because.TheVariants as because
use Rattle.ra_explain.specs.declared.certificate.Claim.{Claim}
use Rattle.ra_explain_text.specs.Numbers.{size_word}
use Rattle.ra_explain_text.specs.Quotes.{line_words}
use Rattle.ra_explain_diagram.specs.declared.arrow.Arrow.{Arrow}
use Rattle.ra_explain_diagram.specs.declared.drawing.Row.{Row}
use Rattle.ra_explain_diagram.specs.declared.drawing.Row.TheVariants as row

-- `true` if the claim orders a label before others, and is not about one that no order explains
abbrev pub is_ordering : Because → Bool
is_ordering because.Sees = true
is_ordering because.Needs = true
is_ordering because.Reads = true
is_ordering other = false

-- the label that the claim orders before others
abbrev pub ordered_by : Claim → Option ℕ
ordered_by claim = if is_ordering claim.because then claim.before else None

-- `true` if the row is that of the entry at this position of the log, given the position of the violating label
abbrev pub is_row_of : (asked place : ℕ) → Row → Bool
is_row_of asked place (row.Entry at) = at == place
is_row_of asked place (row.Without at) = at == place
is_row_of asked place row.Asked = asked == place
is_row_of asked place other = false

-- the index of the label's row, if it has one
abbrev pub label_row : (places : List ℕ) → (asked : ℕ) → List Row → ℕ → Option ℕ
label_row places asked rows label = option_and_then (λ place. position (is_row_of asked place) rows)
    (slice_get places label)

-- the index of the row of the label that the claim orders before others
abbrev pub first_row : (places : List ℕ) → (asked : ℕ) → List Row → Claim → Option ℕ
first_row places asked rows claim = option_and_then (label_row places asked rows) (ordered_by claim)

-- the arrow of the claim from one row to that of a label behind it, if that one has a row
abbrev pub arrow_to : Claim → (from after : ℕ) → Option ℕ → List Arrow
arrow_to claim from after None = []
arrow_to claim from after (Some to) = record {
  from = from;
  to = to;
  before = unwrap_or claim.before 0;
  after = after;
  by = claim.label;
  is_choice = nat_lt 1 (length claim.after.items);
} ∷ []

abbrev pub arrow_after : (places : List ℕ) → (asked : ℕ) → List Row → Claim → (from after : ℕ) → List Arrow
arrow_after places asked rows claim from after = arrow_to claim from after (label_row places asked rows after)

-- the arrows of the claim from this row, one to each label that may follow
abbrev pub arrows_after : (places : List ℕ) → (asked : ℕ) → List Row → Claim → (from : ℕ) → List Arrow
arrows_after places asked rows claim from = flat_map (arrow_after places asked rows claim from) claim.after.items

abbrev pub arrows_from : (places : List ℕ) → (asked : ℕ) → List Row → Claim → Option ℕ → List Arrow
arrows_from places asked rows claim None = []
arrows_from places asked rows claim (Some from) = arrows_after places asked rows claim from

-- the arrows of the claim: none if it orders no label, or if this one has no row
abbrev pub arrows_by : (places : List ℕ) → (asked : ℕ) → List Row → Claim → List Arrow
arrows_by places asked rows claim = arrows_from places asked rows claim (first_row places asked rows claim)

-- the arrows of all claims, in their order
abbrev pub arrows_in : (places : List ℕ) → (asked : ℕ) → List Row → List Claim → List Arrow
arrows_in places asked rows claims = flat_map (arrows_by places asked rows) claims

-- ---- the same in characters

-- the line of the label, if there is such a label
abbrev pub label_words : (places : List ℕ) → ℕ → List ℕ
label_words places label = option_map_or line_words (slice_get places label) []

-- the lines of these labels, one of which has to follow; of more than two the first one and the number of the others
abbrev pub lines_after : (places : List ℕ) → List ℕ → List ℕ
lines_after places [] = []
lines_after places (label ∷ []) = label_words places label
lines_after places (label ∷ other ∷ []) = label_words places label ++ (codes " or " ++ label_words places other)
lines_after places (label ∷ other ∷ more ∷ others) = label_words places label
    ++ (codes " or " ++ (size_word (length (other ∷ more ∷ others)) ++ codes " more"))

-- `true` if the row is that of the label that the claim orders before others
abbrev pub is_first : (places : List ℕ) → (asked : ℕ) → Row → Claim → Bool
is_first places asked row claim = option_map_or (λ place. is_row_of asked place row)
    (option_and_then (slice_get places) (ordered_by claim)) false

-- the lines that the claim orders behind that of the row
abbrev pub cell_by : (places : List ℕ) → (asked : ℕ) → Row → Claim → List ℕ
cell_by places asked row claim =
    if is_first places asked row claim then lines_after places claim.after.items else []

-- the lines that the claims order behind that of the row
abbrev pub order_cell : (places : List ℕ) → (asked : ℕ) → Row → List Claim → List ℕ
order_cell places asked row claims = flat_map (cell_by places asked row) claims
