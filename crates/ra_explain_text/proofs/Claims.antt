-- Lemmas on claims that are written one after another.
use Rattle.std.proofs.Common.{◌≡◌, ℕ, suc, ◌+◌, ◌<◌, List, [], ◌∷◌, ◌++◌, length, drop, get_or, arith, sym, ap, ◌∙◌}
use Rattle.std.proofs.Math.Seq.{drop-cons}
use Rattle.std.proofs.lemmas.List.{append_assoc}
use Rattle.ra_explain.specs.declared.certificate.Claim.{Claim}
use Rattle.ra_explain_text.specs.Certificates.{claim_value, more_claims}

next_claim : (claims : List Claim) (i : ℕ) (claim : Claim) → i < length claims → claim ≡ get_or claims i claim
    → drop i claims ≡ claim ∷ drop (i + 1) claims
next_claim claims i claim within is =
    let next : suc i ≡ i + 1 = omega arith in
    drop-cons claims i claim within
    ∙ ap (λ (x : Claim). x ∷ drop (suc i) claims) (sym is) ∙ ap (λ (j : ℕ). claim ∷ drop j claims) next

-- one more claim is written, with a comma before it
pub claim_more : (places : List ℕ) (claims : List Claim) (i : ℕ) (claim : Claim) (old comma new whole : List ℕ)
    → i < length claims → claim ≡ get_or claims i claim → old ++ more_claims places (drop i claims) ≡ whole
    → comma ≡ old ++ 44 ∷ [] → new ≡ comma ++ claim_value places claim
    → new ++ more_claims places (drop (i + 1) claims) ≡ whole
claim_more places claims i claim old comma new whole within is so_far first second =
    let value = claim_value places claim in
    let rest = more_claims places (drop (i + 1) claims) in
    ap (λ (bs : List ℕ). bs ++ rest)
    (second ∙ ap (λ (bs : List ℕ). bs ++ value) first ∙ append_assoc old (44 ∷ []) value)
    ∙ append_assoc old (44 ∷ value) rest
    ∙ ap (λ (cs : List Claim). old ++ more_claims places cs) (sym (next_claim claims i claim within is)) ∙ so_far
