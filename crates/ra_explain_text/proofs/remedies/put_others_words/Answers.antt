use Rattle.std.proofs.Common.{ℕ, List, ◌++◌, codes, ap, ◌∙◌}
use Rattle.ra_explain_text.specs.Words.{with_word, changes_words}
use Rattle.ra_explain_text.proofs.Chains.{put_then}
use Rattle.ra_explain_text.proofs.remedies.put_others_words.Goals as goal

pub returns : goal.returns
returns c =
    let others = c.args.others in
    let old = c.args.text.now.items in
    put_then c.put-2.result old c.put.new.out.items c.put-2.new.out.items (with_word others)
    (changes_words others ++ codes " of this kind")
    (c.in_ok-put.ensures ∙ ap (λ (bs : List ℕ). old ++ bs) c.with_word.ensures)
    (put_then c.put-2.result c.put.new.out.items c.put_count.new.out.items c.put-2.new.out.items (changes_words others)
    (codes " of this kind") c.in_ok-put_count.ensures c.put-2.ensures)
