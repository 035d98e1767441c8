-- The command-line arguments: what they request, and the message for arguments that request nothing.
use Rattle.std.specs.Prelude.{◌≡◌, ℕ, ◌^◌, ◌<◌, nat_lt, Bool, true, false, ◌&&◌, List, [], ◌∷◌, map, Option, Some, None, option_map, option_and_then, Result, Ok, Err, String, codes, string_bytes, decimal, bytes_eq, if◌then◌else◌}
use Rattle.std.specs.Borrow.{Bor}
use Rattle.std.specs.Global as global
use Rattle.ra_history_lines.specs.Grammar.{kind_word}
use Rattle.ra_history_lines.specs.Reading.{kind_named, number_read}
use Rattle.ra_cli_arguments.specs.declared.arguments.Run.{Run}
use Rattle.ra_cli_arguments.specs.declared.arguments.Run.TheVariants.{Check, Bench}
use Rattle.ra_cli_arguments.specs.declared.arguments.WordsFault.{WordsFault}
use Rattle.ra_cli_arguments.specs.declared.arguments.WordsFault.TheVariants.{NoMemory, NotText}

-- ---- a check

-- what a single argument requests; below, what two request
abbrev pub asked_by_one : List ℕ → Option Run
asked_by_one word = if bytes_eq word (codes "check") then Some (Check false) else None

abbrev pub asked_by_two : (word option : List ℕ) → Option Run
asked_by_two word option =
    if bytes_eq word (codes "check") && bytes_eq option (codes "--report") then Some (Check true) else None

-- ---- a bench

-- the number that an argument spells, if it fits in a byte
abbrev pub byte_read : List ℕ → Option ℕ
byte_read word = option_and_then (λ n. if nat_lt n (2 ^ 8) then Some n else None) (number_read word)

-- the bench of the kind, the number of replicas and the number of rounds that three arguments name
abbrev pub bench_read : (kind replicas rounds : List ℕ) → Option Run
bench_read kind replicas rounds =
    option_and_then (λ k. option_and_then (λ n. option_map (Bench k n) (number_read rounds)) (byte_read replicas))
    (kind_named kind)

-- `true` if these arguments are the subcommand and the options of a bench
abbrev pub are_of_bench : (word for_kind for_replicas for_rounds : List ℕ) → Bool
are_of_bench word for_kind for_replicas for_rounds =
    bytes_eq word (codes "bench") && bytes_eq for_kind (codes "--kind")
    && bytes_eq for_replicas (codes "--replicas") && bytes_eq for_rounds (codes "--rounds")

-- ---- all arguments

-- what the arguments request, if anything
abbrev pub run_named : List (List ℕ) → Option Run
run_named (word ∷ []) = asked_by_one word
run_named (word ∷ option ∷ []) = asked_by_two word option
run_named (word ∷ for_kind ∷ kind ∷ for_replicas ∷ replicas ∷ for_rounds ∷ rounds ∷ []) =
    if are_of_bench word for_kind for_replicas for_rounds then bench_read kind replicas rounds else None
run_named words = None

-- the bytes of each of the texts
abbrev pub texts_of : List (Bor (List ℕ)) → List (List ℕ)
texts_of texts = map (λ text. text.now) texts

-- the arguments that request this run
abbrev pub words_for : Run → List (List ℕ)
words_for (Check false) = codes "check" ∷ []
words_for (Check true) = codes "check" ∷ codes "--report" ∷ []
words_for (Bench kind replicas rounds) =
    codes "bench" ∷ codes "--kind" ∷ kind_word kind ∷ codes "--replicas" ∷ decimal replicas ∷ codes "--rounds"
    ∷ decimal rounds ∷ []

-- holds if the number of replicas fits in a byte, and that of rounds in 32 bits
abbrev pub HasSmallNumbers : Run → Type 0
HasSmallNumbers (Check report) = Unit {0}
HasSmallNumbers (Bench kind replicas rounds) = (replicas < 2 ^ 8) × (rounds < 2 ^ 32)

-- holds if these are the arguments for this run
abbrev pub AskFor : List (List ℕ) → Run → Type 0
AskFor words run = (words ≡ words_for run) × HasSmallNumbers run

-- ---- the arguments of a command line

-- the arguments after the program's name, or why they are not known
abbrev pub Words : Type 0
Words = Result (global.Vec (String global.Global)) WordsFault

abbrev pub asked_by : Words → Option Run
asked_by (Ok words) = run_named (map string_bytes words.items)
asked_by (Err fault) = None

-- the message for arguments that request nothing
abbrev pub stop_words : Words → List ℕ
stop_words (Ok words) = codes "usage"
stop_words (Err NotText) = codes "usage"
stop_words (Err NoMemory) = codes "no memory"
