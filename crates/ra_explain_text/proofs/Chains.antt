-- Lemmas on bytes that are appended one after another.
use Rattle.std.proofs.Common.{◌≡◌, ℕ, List, ◌++◌, Result, ap, ◌∙◌}
use Rattle.std.specs.Prelude.{OnOk}
use Rattle.std.proofs.lemmas.List.{append_assoc}
use Rattle.std.proofs.lemmas.Result.{on_ok_weaker}

then_put : (old mid new x y : List ℕ) → mid ≡ old ++ x → new ≡ mid ++ y → new ≡ old ++ (x ++ y)
then_put old mid new x y first second = second ∙ ap (λ (bs : List ℕ). bs ++ y) first ∙ append_assoc old x y

-- the same where the second call returns this result
pub put_then : {T E : Type 0} (r : Result T E) (old mid new x y : List ℕ) → mid ≡ old ++ x
    → OnOk r (new ≡ mid ++ y) → OnOk r (new ≡ old ++ (x ++ y))
put_then r old mid new x y first second =
    on_ok_weaker r (λ s. then_put old mid new x y first s) second

-- four calls
pub put_four : {T E : Type 0} (r : Result T E) (n0 n1 n2 n3 n4 a b c d : List ℕ) → n1 ≡ n0 ++ a → n2 ≡ n1 ++ b
    → n3 ≡ n2 ++ c → OnOk r (n4 ≡ n3 ++ d) → OnOk r (n4 ≡ n0 ++ (a ++ (b ++ (c ++ d))))
put_four r n0 n1 n2 n3 n4 a b c d one two three last =
    put_then r n0 n1 n4 a (b ++ (c ++ d)) one
    (put_then r n1 n2 n4 b (c ++ d) two (put_then r n2 n3 n4 c d three last))

-- six calls
pub put_six : {T E : Type 0} (r : Result T E) (n0 n1 n2 n3 n4 n5 n6 a b c d e f : List ℕ) → n1 ≡ n0 ++ a
    → n2 ≡ n1 ++ b → n3 ≡ n2 ++ c → n4 ≡ n3 ++ d → n5 ≡ n4 ++ e → OnOk r (n6 ≡ n5 ++ f)
    → OnOk r (n6 ≡ n0 ++ (a ++ (b ++ (c ++ (d ++ (e ++ f))))))
put_six r n0 n1 n2 n3 n4 n5 n6 a b c d e f one two three four five last =
    put_then r n0 n1 n6 a (b ++ (c ++ (d ++ (e ++ f)))) one
    (put_then r n1 n2 n6 b (c ++ (d ++ (e ++ f))) two
    (put_four r n2 n3 n4 n5 n6 c d e f three four five last))
