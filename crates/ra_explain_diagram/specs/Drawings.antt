-- A drawing in SVG: its beginning with the title, and its end with the arcs.
use Rattle.std.specs.Prelude.{◌≡◌, ℕ, List, ◌++◌, codes, decimal}
use Rattle.ra_history_lines.specs.Replies.{end_line}
use Rattle.ra_monitor.specs.declared.report.Report.{Report}
use Rattle.ra_explain_text.specs.Quotes.{trimmed}
use Rattle.ra_explain_diagram.specs.declared.arrow.Arrow.{Arrow}
use Rattle.ra_explain_diagram.specs.Arcs.{EndsWithArcs}

-- the end line of a check with this report, without its line feed
abbrev pub title_of : Report → List ℕ
title_of report = trimmed (end_line report.labels report.fault)

-- the beginning of a drawing of this size
abbrev pub svg_opening : (width height : ℕ) → List ℕ
svg_opening width height = (codes "<svg xmlns=\"http://www.w3.org/2000/svg\" width=\"" ++ decimal width)
    ++ ((codes "\" height=\"" ++ decimal height)
    ++ ((codes "\" viewBox=\"0 0 " ++ decimal width) ++ (codes " " ++ decimal height)))

-- the same with its title
abbrev pub svg_start : (width height : ℕ) → Report → List ℕ
svg_start width height report = svg_opening width height
    ++ (codes "\" role=\"img\" aria-labelledby=\"answer\"><title id=\"answer\">" ++ (title_of report
    ++ codes "</title>\n"))

-- Holds if a drawing of some size was appended, whose title is the end line of the check.
abbrev pub PutsDrawing : Report → (old new : List ℕ) → Type 0
PutsDrawing report old new = (width height : ℕ) × (content : List ℕ)
    × (new ≡ old ++ (svg_start width height report ++ content))

-- holds if such a drawing was appended, which ends with the arcs of these arrows
abbrev pub PutsArcs : (places : List ℕ) → List Arrow → Report → (old new : List ℕ) → Type 0
PutsArcs places arrows report old new = (width height : ℕ) × (content : List ℕ)
    × EndsWithArcs places arrows content × (new ≡ old ++ (svg_start width height report ++ content))
