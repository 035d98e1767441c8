-- What the arguments request of a program that explains.
use Rattle.std.specs.Prelude.{ℕ, not, List, [], ◌∷◌, map, Option, Some, None, Ok, Err, codes, string_bytes, bytes_eq, if◌then◌else◌}
use Rattle.ra_cli_arguments.specs.Arguments.{Words}
use Rattle.ra_explain_cli.specs.declared.asked.Form.{Form}
use Rattle.ra_explain_cli.specs.declared.asked.Form.TheVariants.{Page, Json, Svg, Html, Sequence}

abbrev pub asked_by_one : List ℕ → Option Form
asked_by_one word = if bytes_eq word (codes "explain") then Some Page else None

abbrev pub form_of_option : List ℕ → Option Form
form_of_option option =
    if bytes_eq option (codes "--json") then Some Json
    else if bytes_eq option (codes "--svg") then Some Svg
    else if bytes_eq option (codes "--html") then Some Html
    else if bytes_eq option (codes "--sequence") then Some Sequence
    else None

abbrev pub asked_by_two : (word option : List ℕ) → Option Form
asked_by_two word option = if not (bytes_eq word (codes "explain")) then None else form_of_option option

-- the form that the arguments request, if any
abbrev pub form_named : List (List ℕ) → Option Form
form_named (word ∷ []) = asked_by_one word
form_named (word ∷ option ∷ []) = asked_by_two word option
form_named words = None

-- the requested form; none if the arguments could not be read
abbrev pub form_asked_by : Words → Option Form
form_asked_by (Ok words) = form_named (map string_bytes words.items)
form_asked_by (Err fault) = None
