-- The figure of a document: a drawing with a caption, and its rows as a table.
use Rattle.std.specs.Prelude.{◌≡◌, ◌⊎◌, ℕ, ◌+◌, All, List, [], ◌++◌, Option, Some, None, codes}
use Rattle.ra_history_writer.specs.Spelling.{name_of}
use Rattle.ra_monitor.specs.declared.report.Report.{Report}
use Rattle.ra_explain.specs.declared.explanation.Explanation.{Explanation}
use Rattle.ra_explain.specs.declared.violation.Violation.{Violation}
use Rattle.ra_explain_text.specs.Document.{escaped}
use Rattle.ra_explain_diagram.specs.declared.drawing.Row.{Row}
use Rattle.ra_explain_diagram.specs.declared.drawing.Row.TheVariants as row
use Rattle.ra_explain_diagram.specs.declared.event.Event.{Event}
use Rattle.ra_explain_diagram.specs.Arrows.{arrows_in}
use Rattle.ra_explain_diagram.specs.Drawings.{PutsArcs}
use Rattle.ra_explain_diagram.specs.Drawn.{IsDrawn, IsHelpful, LeadTo, ShowsNone}
use Rattle.ra_explain_diagram.specs.Pictures.{ShowEach, left_out_line}

abbrev pub replica_cell : List (List ℕ) → Option ℕ → List ℕ
replica_cell names None = []
replica_cell names (Some replica) = name_of names replica

-- the words behind those of an entry that could be left out
abbrev pub without_words : Row → List ℕ
without_words (row.Without place) = codes ", or without it"
without_words other = []

-- the head of the event and its replica
abbrev pub place_cells : List (List ℕ) → Event → List ℕ
place_cells names event = codes "<tr><td>" ++ (escaped event.head.items
    ++ (codes "<td>" ++ replica_cell names event.to))

-- what happened, and the replica that it came from
abbrev pub event_cells : List (List ℕ) → Row → Event → List ℕ
event_cells names row event = codes "<td>" ++ (escaped event.words.items
    ++ (without_words row ++ (codes "<td>" ++ (replica_cell names event.from ++ codes "\n"))))

abbrev pub table_row : List (List ℕ) → Row → Event → List ℕ
table_row names row event = place_cells names event ++ event_cells names row event

-- holds if the bytes are the table's row of the event, or nothing if the row of the diagram shows none
abbrev pub IsTableRow : List (List ℕ) → Explanation → Violation → Row → List ℕ → Type 0
IsTableRow names e v row bytes = (ShowsNone e.log.items row × (bytes ≡ []))
    ⊎ ((event : Event) × IsDrawn names e.log.items e.places v row event × (bytes ≡ table_row names row event))

abbrev pub table_of : List ℕ → List ℕ
table_of rows = codes "<table>\n<caption>The picture, row by row</caption>\n"
    ++ (codes "<tr><th>line<th>replica<th>event<th>from\n" ++ (rows ++ codes "</table>\n"))

abbrev pub caption_of : ℕ → List ℕ
caption_of others = codes "<figcaption>" ++ (left_out_line others ++ codes "</figcaption></figure>\n")

-- Holds if the bytes are a drawing with the title of this report, a caption, and the rows as a table. The drawing ends
-- with an arc for each two labels that a certificate orders, if both have a row.
abbrev pub ShowsFigure : List (List ℕ) → Explanation → Violation → List Row → List ℕ → Type 0
ShowsFigure names e v rows bytes = (drawing cells : List ℕ) × (others : ℕ)
    × PutsArcs e.places (arrows_in e.places v.place rows e.certificate.items) e.report [] drawing
    × ShowEach (IsTableRow names e v) rows cells
    × (bytes ≡ codes "<figure>\n" ++ (drawing ++ (caption_of others ++ table_of cells)))

-- Holds if this is the figure of a violation, or nothing for a pass. Its rows show each entry of the log up to the
-- violating label or leave it out, and those for a change are remedies.
abbrev pub IsFigure : List (List ℕ) → Explanation → Option Violation → List ℕ → Type 0
IsFigure names e None figure = figure ≡ []
IsFigure names e (Some v) figure = (rows : List Row) × All (IsHelpful e.remedies) rows
    × LeadTo v.place (v.place + 1) rows × ShowsFigure names e v rows figure
