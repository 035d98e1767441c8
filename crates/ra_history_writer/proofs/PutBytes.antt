-- Lemmas on numbers and lists that are appended to bytes.
use Rattle.std.proofs.Common.{◌≡◌, ℕ, zero, suc, ◌+◌, ◌^◌, ◌<◌, List, [], ◌∷◌, ◌++◌, length, map, take, get_or, Result, Ok, Err, refl, sym, ap, ◌∙◌}
use Rattle.std.specs.Prelude.{decimal, OnOk}
use Rattle.std.specs.List.{join_with_byte, AllByRecursion}
use Rattle.std.proofs.lemmas.List.{append_assoc, append-nil, take_more}
use Rattle.ra_history_lines.specs.Grammar.{list_word, IsSmall}
use Rattle.ra_history_writer.specs.Spelling.{spaced, name_of, commas}

-- ---- lists

pub commas-append : (xs ys : List ℕ) → commas (xs ++ ys) ≡ commas xs ++ commas ys
commas-append [] ys = refl
commas-append (x ∷ xs) ys =
    ap (λ (bs : List ℕ). 44 ∷ (decimal x ++ bs)) (commas-append xs ys)
    ∙ ap (λ (bs : List ℕ). 44 ∷ bs) (sym (append_assoc (decimal x) (commas xs) (commas ys)))

-- one more number
pub commas_next : (out old mid new xs : List ℕ) (i : ℕ) → i < length xs → old ≡ out ++ commas (take i xs)
    → mid ≡ old ++ 44 ∷ [] → new ≡ mid ++ decimal (get_or xs i 0)
    → new ≡ out ++ commas (take (i + 1) xs)
commas_next out old mid new xs i there before comma last =
    let x : ℕ = get_or xs i 0 in
    last ∙ ap (λ (bs : List ℕ). bs ++ decimal x) comma ∙ append_assoc old (44 ∷ []) (decimal x)
    ∙ ap (λ (bs : List ℕ). bs ++ 44 ∷ decimal x) before ∙ append_assoc out (commas (take i xs)) (44 ∷ decimal x)
    ∙ ap (λ (bs : List ℕ). out ++ (commas (take i xs) ++ bs)) (sym (append-nil (44 ∷ decimal x)))
    ∙ ap (λ (bs : List ℕ). out ++ bs) (sym (commas-append (take i xs) (x ∷ [])))
    ∙ ap (λ (ys : List ℕ). out ++ commas ys) (sym (take_more xs i 0 there))

pub joined : (x : ℕ) (xs : List ℕ) → join_with_byte 44 (map decimal (x ∷ xs)) ≡ decimal x ++ commas xs
joined x [] = sym (append-nil (decimal x))
joined x (y ∷ ys) = ap (λ (bs : List ℕ). decimal x ++ 44 ∷ bs) (joined y ys)

-- the whole list
pub list_put : (out first new : List ℕ) (x : ℕ) (xs list : List ℕ) → list ≡ x ∷ xs → first ≡ out ++ decimal x
    → new ≡ first ++ commas xs → new ≡ out ++ list_word list
list_put out first new x xs list is head last =
    last ∙ ap (λ (bs : List ℕ). bs ++ commas xs) head ∙ append_assoc out (decimal x) (commas xs)
    ∙ ap (λ (bs : List ℕ). out ++ bs) (sym (joined x xs))
    ∙ ap (λ (ys : List ℕ). out ++ list_word ys) (sym is)

pub list_put_on : {T E : Type 0} (r : Result T E) (out first new : List ℕ) (x : ℕ) (xs list : List ℕ) → list ≡ x ∷ xs
    → first ≡ out ++ decimal x → OnOk r (new ≡ first ++ commas xs)
    → OnOk r (new ≡ out ++ list_word list)
list_put_on (Ok y) out first new x xs list is head last = list_put out first new x xs list is head last
list_put_on (Err e) out first new x xs list is head last = tt

-- numbers of 32 bits
pub all_small : (xs : List ℕ) → ((i : ℕ) → get_or xs i 0 < 2 ^ 32) → AllByRecursion IsSmall xs
all_small [] each = tt
all_small (x ∷ xs) each = (each 0, all_small xs (λ i. each (suc i)))

-- ---- names

spaced-append : (xs ys : List (List ℕ)) → spaced (xs ++ ys) ≡ spaced xs ++ spaced ys
spaced-append [] ys = refl
spaced-append (x ∷ xs) ys =
    ap (λ (bs : List ℕ). 32 ∷ (x ++ bs)) (spaced-append xs ys)
    ∙ ap (λ (bs : List ℕ). 32 ∷ bs) (sym (append_assoc x (spaced xs) (spaced ys)))

name_of-get : (names : List (List ℕ)) (i : ℕ) → get_or names i [] ≡ name_of names i
name_of-get [] i = refl
name_of-get (x ∷ names) zero = refl
name_of-get (x ∷ names) (suc i) = name_of-get names i

-- one more name
pub names_next : (out old mid new : List ℕ) (names : List (List ℕ)) (i : ℕ) → i < length names
    → old ≡ out ++ spaced (take i names)
    → mid ≡ old ++ 32 ∷ [] → new ≡ mid ++ name_of names i → new ≡ out ++ spaced (take (i + 1) names)
names_next out old mid new names i there before space last =
    let name : List ℕ = name_of names i in
    last ∙ ap (λ (bs : List ℕ). bs ++ name) space ∙ append_assoc old (32 ∷ []) name
    ∙ ap (λ (bs : List ℕ). bs ++ 32 ∷ name) before ∙ append_assoc out (spaced (take i names)) (32 ∷ name)
    ∙ ap (λ (bs : List ℕ). out ++ (spaced (take i names) ++ 32 ∷ bs)) (sym (append-nil name))
    ∙ ap (λ (bs : List ℕ). out ++ bs) (sym (spaced-append (take i names) (name ∷ [])))
    ∙ ap (λ (ns : List (List ℕ)). out ++ spaced ns)
    (sym (take_more names i [] there ∙ ap (λ (x : List ℕ). take i names ++ x ∷ []) (name_of-get names i)))
