-- Lemmas on command-line arguments: the run that arguments ask for, and the arguments that ask for a run.
use Rattle.std.proofs.Common.{◌≡◌, ℕ, ◌^◌, ◌<◌, inl, inr, true, false, ◌&&◌, cond, ltb, List, [], ◌∷◌, Option, Some, None, refl, sym, ap, subst, ◌∙◌, arith}
use Rattle.std.specs.Prelude.{codes, decimal, bytes_eq, option_and_then, option_map, IfSome}
use Rattle.std.proofs.lemmas.Bool.{and_parts, ltb-true, lt-ltb}
use Rattle.std.proofs.lemmas.Slice.Eq.{bytes_eq-Decides}
use Rattle.std.proofs.lemmas.Option.{option_and_then_some, cond_some}
use Rattle.ra_history_lines.specs.Grammar.{kind_word}
use Rattle.ra_history_lines.specs.Reading.{kind_named, number_read}
use Rattle.ra_history_lines.proofs.TheoremIndex.{kind_word_read_iff-found, kind_word_read_iff-only, number_read_iff-found, number_read_iff-only, mapped, chosen}
use Rattle.ra_cli_arguments.specs.declared.arguments.Run.{Run}
use Rattle.ra_cli_arguments.specs.declared.arguments.Run.TheVariants.{Check, Bench}
use Rattle.ra_cli_arguments.specs.Arguments.{asked_by_one, asked_by_two, are_of_bench, byte_read, bench_read, run_named, words_for, HasSmallNumbers, AskFor}

-- `None` is not `Some`
none_is_some : {P : Type 0} {run : Run} → ◌≡◌ {A = Option Run} None (Some run) → P
none_is_some e = absurd cc

same_bytes : (word text : List ℕ) → bytes_eq word text ≡ true → word ≡ text
same_bytes word text e = (bytes_eq-Decides word text).0 e

-- arguments that ask for a run ask for each equal run
as_run : (words : List (List ℕ)) (own run : Run) → AskFor words own → own ≡ run → AskFor words run
as_run words own run asks same = subst (AskFor words) same asks

-- ---- numbers

byte_found : (word : List ℕ) (n : ℕ) → byte_read word ≡ Some n → (word ≡ decimal n) × (n < 2 ^ 8)
byte_found word n e =
    option_and_then_some (λ k. cond (ltb k (2 ^ 8)) (Some k) None) (number_read word) n e
    (λ k read next.
    let t = cond_some (ltb k (2 ^ 8)) k n next in
    let digits = number_read_iff-found word k read in
    (digits.0 ∙ ap decimal t.1, subst (λ m. m < 2 ^ 8) t.1 (ltb-true k (2 ^ 8) t.0)))

byte_only : (n : ℕ) → n < 2 ^ 8 → byte_read (decimal n) ≡ Some n
byte_only n small =
    ap (option_and_then (λ k. cond (ltb k (2 ^ 8)) (Some k) None)) (number_read_iff-only n (omega (arith, small)))
    ∙ rw (lt-ltb n (2 ^ 8) small) refl

-- ---- arguments that ask for a run

one_found : (word : List ℕ) (run : Run) → asked_by_one word ≡ Some run → AskFor (word ∷ []) run
one_found word run e =
    let t = cond_some (bytes_eq word (codes "check")) (Check false) run e in
    as_run (word ∷ []) (Check false) run (ap (λ w. w ∷ []) (same_bytes word (codes "check") t.0), tt) t.1

two_found : (word option : List ℕ) (run : Run) → asked_by_two word option ≡ Some run → AskFor (word ∷ option ∷ []) run
two_found word option run e =
    let t = cond_some (bytes_eq word (codes "check") && bytes_eq option (codes "--report")) (Check true) run e in
    let parts = and_parts (bytes_eq word (codes "check")) (bytes_eq option (codes "--report")) t.0 in
    let is : word ≡ codes "check" = same_bytes word (codes "check") parts.0 in
    let as_well : option ≡ codes "--report" = same_bytes option (codes "--report") parts.1 in
    as_run (word ∷ option ∷ []) (Check true) run (rw (is, as_well) refl, tt) t.1

-- the arguments of a bench, from its three values
abbrev words_of_bench : (kind replicas rounds : List ℕ) → List (List ℕ)
words_of_bench kind replicas rounds =
    codes "bench" ∷ codes "--kind" ∷ kind ∷ codes "--replicas" ∷ replicas ∷ codes "--rounds" ∷ rounds ∷ []

read_found : (kind replicas rounds : List ℕ) (run : Run) → bench_read kind replicas rounds ≡ Some run
    → AskFor (words_of_bench kind replicas rounds) run
read_found kind replicas rounds run e =
    option_and_then_some (λ k. option_and_then (λ n. option_map (Bench k n) (number_read rounds)) (byte_read replicas))
    (kind_named kind) run e
    (λ k named next.
    option_and_then_some (λ n. option_map (Bench k n) (number_read rounds)) (byte_read replicas) run next
    (λ n read more.
    let last = mapped (Bench k n) (number_read rounds) run more in
    let few = byte_found replicas n read in
    let many = number_read_iff-found rounds last.0 last.1 in
    let is : kind ≡ kind_word k = kind_word_read_iff-found kind k named in
    let words : words_of_bench kind replicas rounds ≡ words_for (Bench k n last.0) =
    ap (λ w. words_of_bench w replicas rounds) is ∙ ap (λ w. words_of_bench (kind_word k) w rounds) few.0
    ∙ ap (λ w. words_of_bench (kind_word k) (decimal n) w) many.0 in
    as_run (words_of_bench kind replicas rounds) (Bench k n last.0) run (words, (few.1, many.1)) last.2))

bench_found : (word for_kind kind for_replicas replicas for_rounds rounds : List ℕ) (run : Run)
    → run_named (word ∷ for_kind ∷ kind ∷ for_replicas ∷ replicas ∷ for_rounds ∷ rounds ∷ []) ≡ Some run
    → AskFor (word ∷ for_kind ∷ kind ∷ for_replicas ∷ replicas ∷ for_rounds ∷ rounds ∷ []) run
bench_found word for_kind kind for_replicas replicas for_rounds rounds run e =
    elim (chosen (are_of_bench word for_kind for_replicas for_rounds) _ _ _ e) [
      | inl is ↦
          let last = and_parts (bytes_eq word (codes "bench") && bytes_eq for_kind (codes "--kind")
          && bytes_eq for_replicas (codes "--replicas")) (bytes_eq for_rounds (codes "--rounds")) is.0 in
          let third = and_parts (bytes_eq word (codes "bench") && bytes_eq for_kind (codes "--kind"))
          (bytes_eq for_replicas (codes "--replicas")) last.0 in
          let two = and_parts (bytes_eq word (codes "bench")) (bytes_eq for_kind (codes "--kind")) third.0 in
          let first : word ≡ codes "bench" = same_bytes word (codes "bench") two.0 in
          let kinds : for_kind ≡ codes "--kind" = same_bytes for_kind (codes "--kind") two.1 in
          let many : for_replicas ≡ codes "--replicas" = same_bytes for_replicas (codes "--replicas") third.1 in
          let often : for_rounds ≡ codes "--rounds" = same_bytes for_rounds (codes "--rounds") last.1 in
          let found = read_found kind replicas rounds run is.1 in
          let words : word ∷ for_kind ∷ kind ∷ for_replicas ∷ replicas ∷ for_rounds ∷ rounds ∷ []
          ≡ words_of_bench kind replicas rounds =
          ap (λ w. w ∷ for_kind ∷ kind ∷ for_replicas ∷ replicas ∷ for_rounds ∷ rounds ∷ []) first
          ∙ ap (λ w. codes "bench" ∷ w ∷ kind ∷ for_replicas ∷ replicas ∷ for_rounds ∷ rounds ∷ []) kinds
          ∙ ap (λ w. codes "bench" ∷ codes "--kind" ∷ kind ∷ w ∷ replicas ∷ for_rounds ∷ rounds ∷ []) many
          ∙ ap (λ w. codes "bench" ∷ codes "--kind" ∷ kind ∷ codes "--replicas" ∷ replicas ∷ w ∷ rounds ∷ []) often in
          (words ∙ found.0, found.1)
      | inr other ↦ none_is_some other.1
    ]

pub named_found : (words : List (List ℕ)) (run : Run) → run_named words ≡ Some run → AskFor words run
named_found [] run e = none_is_some e
named_found (a ∷ []) run e = one_found a run e
named_found (a ∷ b ∷ []) run e = two_found a b run e
named_found (a ∷ b ∷ c ∷ []) run e = none_is_some e
named_found (a ∷ b ∷ c ∷ d ∷ []) run e = none_is_some e
named_found (a ∷ b ∷ c ∷ d ∷ f ∷ []) run e = none_is_some e
named_found (a ∷ b ∷ c ∷ d ∷ f ∷ g ∷ []) run e = none_is_some e
named_found (a ∷ b ∷ c ∷ d ∷ f ∷ g ∷ h ∷ []) run e = bench_found a b c d f g h run e
named_found (a ∷ b ∷ c ∷ d ∷ f ∷ g ∷ h ∷ i ∷ more) run e = none_is_some e

-- a run that was found is the one that the arguments ask for
pub asked_found : (answer : Option Run) (words : List (List ℕ)) → answer ≡ run_named words
    → IfSome answer (AskFor words)
asked_found None words is = tt
asked_found (Some run) words is = named_found words run (sym is)

-- ---- the arguments of a run

named_words : (run : Run) → HasSmallNumbers run → run_named (words_for run) ≡ Some run
named_words (Check false) small = refl
named_words (Check true) small = refl
named_words (Bench kind replicas rounds) small =
    ap (option_and_then (λ k. option_and_then (λ n. option_map (Bench k n) (number_read (decimal rounds)))
    (byte_read (decimal replicas)))) (kind_word_read_iff-only kind)
    ∙ ap (option_and_then (λ n. option_map (Bench kind n) (number_read (decimal rounds)))) (byte_only replicas small.0)
    ∙ ap (option_map (Bench kind replicas)) (number_read_iff-only rounds small.1)

pub named_only : (words : List (List ℕ)) (run : Run) → AskFor words run → run_named words ≡ Some run
named_only words run asks = ap run_named asks.0 ∙ named_words run asks.1
