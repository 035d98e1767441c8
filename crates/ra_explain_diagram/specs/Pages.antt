-- The pages that show an explanation: its text with a picture, or in a document.
use Rattle.std.specs.Prelude.{◌≡◌, ℕ, List, ◌++◌}
use Rattle.ra_explain.specs.declared.explanation.Explanation.{Explanation}
use Rattle.ra_explain_text.specs.Document.{HasDocument}
use Rattle.ra_explain_text.specs.Words.{IsText}
use Rattle.ra_explain_diagram.specs.Drawings.{title_of}
use Rattle.ra_explain_diagram.specs.Pictures.{IsPicture}
use Rattle.ra_explain_diagram.specs.Tables.{IsFigure}

-- holds if the text of the explanation was appended, and its picture
abbrev pub PutsPage : List (List ℕ) → Explanation → (old new : List ℕ) → Type 0
PutsPage names e old new = (words picture : List ℕ) × IsText names e words × IsPicture names e e.violation picture
    × (new ≡ old ++ words ++ picture)

-- Holds if the document of the explanation was appended: its title is the end line of the check, its text that of the
-- explanation, and a figure stands behind it.
abbrev pub PutsDocument : List (List ℕ) → Explanation → (old new : List ℕ) → Type 0
PutsDocument names e old new = (words figure : List ℕ) × IsText names e words × IsFigure names e e.violation figure
    × HasDocument old new (title_of e.report) words figure
