-- The picture as characters: a line for each row, with the head of its event in front.
use Rattle.std.specs.Prelude.{◌≡◌, ◌⊎◌, ℕ, ◌+◌, ◌==◌, All, List, [], ◌∷◌, ◌++◌, Option, Some, None, codes, decimal, if◌then◌else◌}
use Rattle.ra_explain.specs.declared.explanation.Explanation.{Explanation}
use Rattle.ra_explain.specs.declared.violation.Violation.{Violation}
use Rattle.ra_explain_text.specs.Rows.{padded, printable}
use Rattle.ra_explain_diagram.specs.declared.drawing.Row.{Row}
use Rattle.ra_explain_diagram.specs.declared.drawing.Row.TheVariants as row
use Rattle.ra_explain_diagram.specs.declared.event.Event.{Event}
use Rattle.ra_explain_diagram.specs.Arrows.{order_cell}
use Rattle.ra_explain_diagram.specs.Drawn.{IsDrawn, IsHelpful, LeadTo, ShowsNone}

-- a line with this head, and printable bytes in its columns
abbrev pub picture_line : (front columns : List ℕ) → List ℕ
picture_line front columns = padded front ++ (printable columns ++ 10 ∷ [])

-- the number of entries that are not drawn
abbrev pub fold_line : ℕ → List ℕ
fold_line count = (codes ".. (" ++ decimal count) ++ codes " more)\n"

abbrev pub not_drawn_line : ℕ → List ℕ
not_drawn_line count =
    (decimal count ++ (if count == 1 then codes " more replica is" else codes " more replicas are"))
    ++ codes " not drawn\n"

-- the number of replicas without a column
abbrev pub left_out_line : ℕ → List ℕ
left_out_line count = if count == 0 then [] else not_drawn_line count

abbrev pub fold_count : Row → Option ℕ
fold_count (row.Fold count) = Some count
fold_count other = None

abbrev pub BeginsWith : (front bytes : List ℕ) → Type 0
BeginsWith front bytes = (rest : List ℕ) × (bytes ≡ front ++ rest)

-- holds if the columns begin with the lines that a certificate orders behind that of the row
abbrev pub AreColumns : Explanation → Violation → Row → List ℕ → Type 0
AreColumns e v row columns = BeginsWith (order_cell e.places v.place row e.certificate.items) columns

-- holds if the bytes are a line with the event of the row, or nothing if it shows none
abbrev pub ShowsEvent : List (List ℕ) → Explanation → Violation → Row → List ℕ → Type 0
ShowsEvent names e v row bytes = (ShowsNone e.log.items row × (bytes ≡ []))
    ⊎ ((event : Event) × (columns : List ℕ) × IsDrawn names e.log.items e.places v row event
    × AreColumns e v row columns × (bytes ≡ picture_line event.head.items columns))

abbrev pub ShowsFoldOr : List (List ℕ) → Explanation → Violation → Row → Option ℕ → List ℕ → Type 0
ShowsFoldOr names e v row (Some count) bytes = bytes ≡ fold_line count
ShowsFoldOr names e v row None bytes = ShowsEvent names e v row bytes

-- holds if the bytes show the row
abbrev pub ShowsRow : List (List ℕ) → Explanation → Violation → Row → List ℕ → Type 0
ShowsRow names e v row bytes = ShowsFoldOr names e v row (fold_count row) bytes

-- holds if the bytes show the rows, one after another, given when bytes show one row
abbrev pub ShowEach : (Row → List ℕ → Type 0) → List Row → List ℕ → Type 0
ShowEach shows [] bytes = bytes ≡ []
ShowEach shows (row ∷ rows) bytes = (first more : List ℕ) × shows row first × ShowEach shows rows more
    × (bytes ≡ first ++ more)

-- holds if the bytes are the lines of the rows
abbrev pub ShowsRows : List (List ℕ) → Explanation → Violation → List Row → List ℕ → Type 0
ShowsRows names e v rows bytes = ShowEach (ShowsRow names e v) rows bytes

-- holds if the bytes are an empty line, a line of names, the rows, and the number of replicas without a column
abbrev pub ShowsPicture : List (List ℕ) → Explanation → Violation → List Row → List ℕ → Type 0
ShowsPicture names e v rows bytes = (columns body : List ℕ) × (others : ℕ) × ShowsRows names e v rows body
    × (bytes ≡ 10 ∷ (picture_line [] columns ++ (body ++ left_out_line others)))

-- Holds if this is the picture of a violation, or nothing for a pass. Its rows show or fold each entry of the log up to
-- the violating label, and those for a change are remedies.
abbrev pub IsPicture : List (List ℕ) → Explanation → Option Violation → List ℕ → Type 0
IsPicture names e None picture = picture ≡ []
IsPicture names e (Some v) picture = (rows : List Row) × All (IsHelpful e.remedies) rows
    × LeadTo v.place (v.place + 1) rows × ShowsPicture names e v rows picture
