use Rattle.std.proofs.Common.{ap, ◌∙◌}
use Rattle.ra_explain_text.proofs.Claims.{claim_more}
use Rattle.ra_explain_text.proofs.json_certificate.put_more_claims.Goals as goal

pub loop-claim-preserved : goal.loop-claim-preserved
loop-claim-preserved c = claim_more c.args.places.now c.args.claims.now c.loop-claim.claim-index c.claim-item.result
    c.loop-claim.out.items c.push.new.self.items c.put_claim.new.out.items _ c.loop-claim-test.true c.claim-item.is
    c.loop-claim.invariant c.in_ok-push.ensures.items c.in_ok-put_claim.ensures
