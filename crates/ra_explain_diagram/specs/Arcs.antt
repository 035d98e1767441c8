-- The arcs of a drawing: one for each arrow of a certificate, in a margin beside the rows.
use Rattle.std.specs.Prelude.{◌≡◌, ℕ, ◌+◌, ◌-◌, ◌*◌, min, nat_lt, Bool, List, [], ◌++◌, flat_map, codes, decimal, if◌then◌else◌}
use Rattle.ra_explain_diagram.specs.declared.arrow.Arrow.{Arrow}
use Rattle.ra_explain_diagram.specs.Arrows.{label_words}

-- the largest number in 32 bits, or this one if it is less
abbrev pub in_32_bits : ℕ → ℕ
in_32_bits n = min n 4294967295

-- the distance of the row with this index from the top
abbrev pub row_level : ℕ → ℕ
row_level row = in_32_bits (in_32_bits (row * 30) + 90)

-- how far the control points of an arc over this number of rows are in the margin
abbrev pub reach_of : ℕ → ℕ
reach_of rows = 44 + 14 * min rows 9

-- the distance of these points from the left; they are further for an arc that goes up
abbrev pub bend_of : Arrow → ℕ
bend_of arrow = 112 + (if nat_lt arrow.from arrow.to then reach_of (arrow.to - arrow.from)
    else reach_of (arrow.from - arrow.to) + 30)

-- an arc from one level to the other: where it begins, its control points, and where it ends, a little above its level
abbrev pub arc_ends : (from to bend : ℕ) → List ℕ
arc_ends from to bend = (codes " d=\"M112 " ++ decimal from)
    ++ ((codes "C" ++ decimal bend)
    ++ ((codes " " ++ decimal from)
    ++ ((codes " " ++ decimal bend)
    ++ ((codes " " ++ decimal (to - 8)) ++ (codes " 112 " ++ decimal (to - 8))))))

abbrev pub class_of : Bool → List ℕ
class_of is_choice = if is_choice then codes " class=\"choice\"" else []

-- the arc up to what it says: from the level of one row to that of the other
abbrev pub arc_front : Arrow → List ℕ
arc_front arrow = codes "<g class=\"order\"><path"
    ++ (class_of arrow.is_choice
    ++ (arc_ends (row_level (in_32_bits arrow.from)) (row_level (in_32_bits arrow.to)) (bend_of arrow)
    ++ codes "\" marker-end=\"url(#order)\"><title>"))

-- whether another line may follow instead
abbrev pub other_words : Bool → List ℕ
other_words is_choice = if is_choice then codes " or another one: " else codes ": "

-- what the arc says: which line comes before which one, and the line that shows it
abbrev pub arc_words : (places : List ℕ) → Arrow → List ℕ
arc_words places arrow = label_words places arrow.before ++ (codes " must come before "
    ++ (label_words places arrow.after ++ (other_words arrow.is_choice
    ++ (label_words places arrow.by ++ codes " shows it"))))

abbrev pub arc_bytes : (places : List ℕ) → Arrow → List ℕ
arc_bytes places arrow = arc_front arrow ++ (arc_words places arrow ++ codes "</title></path></g>\n")

abbrev pub arcs_of : (places : List ℕ) → List Arrow → List ℕ
arcs_of places arrows = flat_map (arc_bytes places) arrows

-- holds if a drawing with this content ends with the arcs
abbrev pub EndsWithArcs : (places : List ℕ) → List Arrow → List ℕ → Type 0
EndsWithArcs places arrows content =
    (front : List ℕ) × (content ≡ front ++ (arcs_of places arrows ++ codes "</svg>\n"))
