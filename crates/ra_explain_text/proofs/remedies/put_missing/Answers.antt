use Rattle.std.proofs.Common.{◌++◌, codes}
use Rattle.ra_history_writer.specs.Spelling.{name_of}
use Rattle.ra_explain_text.specs.Quotes.{line_words}
use Rattle.ra_explain_text.proofs.Chains.{put_then}
use Rattle.ra_explain_text.proofs.remedies.put_missing.Goals as goal

pub returns : goal.returns
returns c =
    let name = name_of c.args.names.now c.args.replica in
    let at = line_words c.args.at in
    put_then c.put_line.result c.args.words.now.items c.put.new.out.items c.put_line.new.out.items
    (codes " had not been delivered to ") (name ++ (codes " in " ++ at)) c.in_ok-put.ensures
    (put_then c.put_line.result c.put.new.out.items c.put_name.new.out.items c.put_line.new.out.items name
    (codes " in " ++ at) c.in_ok-put_name.ensures
    (put_then c.put_line.result c.put_name.new.out.items c.put-2.new.out.items c.put_line.new.out.items (codes " in ")
    at c.in_ok-put-2.ensures c.put_line.ensures))
