use Rattle.std.proofs.Common.{◌++◌, codes}
use Rattle.ra_explain_text.specs.Certificates.{claims_value}
use Rattle.ra_explain_text.proofs.Chains.{put_then}
use Rattle.ra_explain_text.proofs.json_certificate.put_member.Goals as goal

pub returns : goal.returns
returns c =
    let value = claims_value c.args.places.now c.args.claims.now in
    put_then c.put-2.result c.args.out.now.items c.put.new.out.items c.put-2.new.out.items (codes ",\"certificate\":[")
    (value ++ codes "]") c.in_ok-put.ensures
    (put_then c.put-2.result c.put.new.out.items c.put_claims.new.out.items c.put-2.new.out.items value (codes "]")
    c.in_ok-put_claims.ensures c.put-2.ensures)
