use Rattle.ra_explain_text.specs.Document.{document_style}
use Rattle.ra_explain_text.proofs.Chains.{put_four}
use Rattle.ra_explain_text.proofs.document.put_head.Goals as goal

pub returns : goal.returns
returns c =
    put_four c.put-3.result c.args.out.now.items c.put.new.out.items c.put-2.new.out.items c.put_style.new.out.items
    c.put-3.new.out.items _ _ document_style _ c.in_ok-put.ensures c.in_ok-put-2.ensures c.in_ok-put_style.ensures
    c.put-3.ensures
