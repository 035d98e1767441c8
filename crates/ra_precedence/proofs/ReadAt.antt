-- What is read at an index of a list, whatever the default.
use Rattle.std.proofs.Common.{◌≡◌, ℕ, ◌<◌, List, length, get_or, ◌∙◌}
use Rattle.std.proofs.lemmas.Option.{slice_get-get_or}

same_read : {A : Type 0} (xs : List A) (k : ℕ) (d e : A) → k < length xs → get_or xs k d ≡ get_or xs k e
same_read xs k d e within =
    let first = slice_get-get_or xs k d within in
    let second = slice_get-get_or xs k e within in
    cc

pub read_at : {A : Type 0} (xs : List A) (k : ℕ) (d x : A) → k < length xs → x ≡ get_or xs k x → x ≡ get_or xs k d
read_at xs k d x within is = is ∙ same_read xs k x d within
