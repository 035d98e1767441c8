use Rattle.std.proofs.Common.{ℕ, List, ◌++◌, codes, ap, ◌∙◌}
use Rattle.std.specs.Prelude.{decimal}
use Rattle.ra_history_writer.specs.Spelling.{name_of}
use Rattle.ra_explain_text.specs.Json.{opening}
use Rattle.ra_explain_text.specs.Numbers.{size_word}
use Rattle.ra_explain_text.proofs.Chains.{put_six}
use Rattle.ra_explain_text.proofs.json.put_lack.Goals as goal

pub returns : goal.returns
returns c =
    let old = c.args.out.now.items in
    let lack = c.args.lack in
    put_six c.put-3.result old c.put.new.out.items c.put_name.new.out.items c.put-2.new.out.items
    c.put_size.new.out.items c.put_numbered.new.out.items c.put-3.new.out.items (opening c.args.is_first)
    (name_of c.args.names.now lack.replica) (codes "\":{\"updates\":") (size_word lack.updates)
    (codes ",\"oldest\":" ++ decimal c.args.oldest) (codes "}")
    (c.in_ok-put.ensures ∙ ap (λ (bs : List ℕ). old ++ bs) c.opening.ensures) c.in_ok-put_name.ensures
    c.in_ok-put-2.ensures c.in_ok-put_size.ensures c.in_ok-put_numbered.ensures.put c.put-3.ensures
