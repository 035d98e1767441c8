use Rattle.std.proofs.Common.{◌++◌}
use Rattle.std.proofs.lemmas.Result.{on_ok_weaker}
use Rattle.ra_explain_text.specs.Document.{document_start, document_end, escaped}
use Rattle.ra_explain_text.proofs.Chains.{put_then}
use Rattle.ra_explain_text.proofs.document.put_document.Goals as goal

pub returns : goal.returns
returns c =
    let text = c.without_line_feeds.result.now in
    let start = document_start c.args.title.now in
    let end = document_end c.args.figure.now in
    on_ok_weaker c.put_end.result (λ s. (text, c.without_line_feeds.ensures, s))
    (put_then c.put_end.result c.args.out.now.items c.put_start.new.out.items c.put_end.new.out.items start
    (escaped text ++ end) c.in_ok-put_start.ensures
    (put_then c.put_end.result c.put_start.new.out.items c.put_escaped.new.out.items c.put_end.new.out.items
    (escaped text) end c.in_ok-put_escaped.ensures c.put_end.ensures))
