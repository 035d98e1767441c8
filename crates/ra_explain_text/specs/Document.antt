-- An HTML document with a title, a text and a figure.
use Rattle.std.specs.Prelude.{◌≡◌, ℕ, All, List, [], ◌∷◌, ◌++◌, ◌==◌, codes, if◌then◌else◌}

-- `<` (byte 60) and `&` (byte 38) are escaped
abbrev pub escaped_byte : ℕ → List ℕ
escaped_byte byte = if byte == 60 then codes "&lt;" else if byte == 38 then codes "&amp;" else byte ∷ []

abbrev pub escaped : List ℕ → List ℕ
escaped [] = []
escaped (byte ∷ bytes) = escaped_byte byte ++ escaped bytes

-- holds if the text is these words without the line feeds (byte 10) at their ends
pub record IsTrimmed (words text : List ℕ) : Type 0 where
  pub before : List ℕ
  pub after : List ℕ
  pub feeds_before : All (λ b. b ≡ 10) before
  pub feeds_after : All (λ b. b ≡ 10) after
  pub parts : words ≡ before ++ (text ++ after)

-- ---- the document

abbrev pub document_style : List ℕ
document_style = codes "<style>:root{color-scheme:light dark}"
    ++ (codes "body{font:16px/1.5 sans-serif;max-width:70em;margin:2em auto;padding:0 1em}"
    ++ (codes "pre,td{font-family:monospace;font-size:14px}pre{white-space:pre-wrap}"
    ++ codes "figure{margin:1em 0;overflow-x:auto}td,th,caption{text-align:left;padding:0 1.5em 0 0}</style>"))

-- the bytes before the title
abbrev pub document_head : List ℕ
document_head = codes "<!doctype html>\n<html lang=\"en\">\n<head>\n<meta charset=\"utf-8\">\n"
    ++ (codes "<meta name=\"viewport\" content=\"width=device-width\">\n" ++ (document_style ++ codes "\n<title>"))

-- the bytes before the text
abbrev pub document_start : List ℕ → List ℕ
document_start title = document_head ++ (escaped title
    ++ (codes "</title>\n</head>\n<body>\n<h1>" ++ (escaped title ++ codes "</h1>\n<pre>")))

-- the bytes behind the text
abbrev pub document_end : List ℕ → List ℕ
document_end figure = codes "</pre>\n" ++ (figure ++ codes "</body>\n</html>\n")

-- the document with this title, this text and this figure
abbrev pub document_of : (title text figure : List ℕ) → List ℕ
document_of title text figure = document_start title ++ (escaped text ++ document_end figure)

-- holds if the document with this title, these words and this figure was appended
abbrev pub HasDocument : (old new title words figure : List ℕ) → Type 0
HasDocument old new title words figure = (text : List ℕ) × IsTrimmed words text
    × (new ≡ old ++ document_of title text figure)
