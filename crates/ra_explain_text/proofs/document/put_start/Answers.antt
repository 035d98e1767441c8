use Rattle.std.proofs.Common.{◌++◌, codes}
use Rattle.ra_explain_text.specs.Document.{document_head, escaped}
use Rattle.ra_explain_text.proofs.Chains.{put_then, put_four}
use Rattle.ra_explain_text.proofs.document.put_start.Goals as goal

pub returns : goal.returns
returns c =
    let title = escaped c.args.title.now in
    let heading = codes "</title>\n</head>\n<body>\n<h1>" in
    let text = codes "</h1>\n<pre>" in
    put_then c.put-2.result c.args.out.now.items c.put_head.new.out.items c.put-2.new.out.items document_head
    (title ++ (heading ++ (title ++ text))) c.in_ok-put_head.ensures
    (put_four c.put-2.result c.put_head.new.out.items c.put_escaped.new.out.items c.put.new.out.items
    c.put_escaped-2.new.out.items c.put-2.new.out.items title heading title text c.in_ok-put_escaped.ensures
    c.in_ok-put.ensures c.in_ok-put_escaped-2.ensures c.put-2.ensures)
