use Rattle.std.proofs.Common.{◌≡◌, ◌++◌, drop}
use Rattle.ra_explain_text.specs.Certificates.{more_claims}
use Rattle.ra_explain_text.proofs.json_certificate.put_more_claims.Given as goal

-- the claims so far are written
abbrev pub invariant-loop-claim : goal.invariant-loop-claim
invariant-loop-claim l = l.out.items ++ more_claims l.places (drop l.claim-index l.claims)
    ≡ l.initial.out.items ++ more_claims l.places l.claims
