-- Lemmas on bytes that show the rows of a diagram, one after another.
use Rattle.std.proofs.Common.{◌≡◌, ℕ, ◌+◌, ◌<◌, ◌≤◌, List, [], ◌∷◌, ◌++◌, drop, get_or, length, refl, ap, sym, subst, ◌∙◌}
use Rattle.std.proofs.lemmas.List.{append-nil, append_assoc, drop_all, drop_more}
use Rattle.ra_explain_diagram.specs.declared.drawing.Row.{Row}
use Rattle.ra_explain_diagram.specs.Pictures.{ShowEach}

-- after the bytes of one more row
pub shown_next : (shows : Row → List ℕ → Type 0) (all rest left : List Row) (row : Row) (old new bytes : List ℕ)
    → left ≡ row ∷ rest → ((more : List ℕ) → ShowEach shows left more → ShowEach shows all (old ++ more))
    → shows row bytes → new ≡ old ++ bytes
    → (more : List ℕ) → ShowEach shows rest more → ShowEach shows all (new ++ more)
shown_next shows all rest left row old new bytes is so_far shown same more behind =
    subst (λ (bs : List ℕ). ShowEach shows all bs)
    (sym (ap (λ (bs : List ℕ). bs ++ more) same ∙ append_assoc old bytes more))
    (so_far (bytes ++ more) (rw is (bytes, more, shown, behind, refl)))

-- after those of all rows
pub shown_all : (shows : Row → List ℕ → Type 0) (all left : List Row) (bytes : List ℕ) → left ≡ []
    → ((more : List ℕ) → ShowEach shows left more → ShowEach shows all (bytes ++ more)) → ShowEach shows all bytes
shown_all shows all left bytes is so_far =
    subst (λ (bs : List ℕ). ShowEach shows all bs) (append-nil bytes) (so_far [] (rw is refl))

-- the rows from one on, of a list that is read as another one
pub rest_of : (read rows : List Row) (i : ℕ) (d : Row) → read ≡ rows → i < length read
    → drop i rows ≡ get_or read i d ∷ drop (i + 1) rows
rest_of read rows i d same below =
    subst (λ (rs : List Row). drop i rs ≡ get_or read i d ∷ drop (i + 1) rs) same (drop_more read i d below)

pub none_left : (read rows : List Row) (i : ℕ) → read ≡ rows → length read ≤ i → drop i rows ≡ []
none_left read rows i same all = subst (λ (rs : List Row). drop i rs ≡ []) same (drop_all i read all)
