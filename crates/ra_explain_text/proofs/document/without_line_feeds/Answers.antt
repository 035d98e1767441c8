use Rattle.std.proofs.Common.{ℕ, List, ◌++◌, take, drop, sym, ap, ◌∙◌}
use Rattle.std.proofs.lemmas.List.{take-append-drop}
use Rattle.ra_explain_text.proofs.document.without_line_feeds.Goals as goal

pub returns : goal.returns
returns c =
    let words = c.args.words.now in
    let front = c.feeds_before-front.result in
    let rest = c.behind-rest.result.now in
    let end = c.end_before_feeds-end.result in record {
      before = take front words;
      after = drop end rest;
      feeds_before = c.feeds_before-front.ensures.feeds;
      feeds_after = c.end_before_feeds-end.ensures.feeds;
      parts = sym (take-append-drop front words)
          ∙ ap (λ (more : List ℕ). take front words ++ more)
          (sym c.behind-rest.ensures ∙ sym (take-append-drop end rest)
          ∙ ap (λ (text : List ℕ). text ++ drop end rest) (sym c.front_of.ensures));
    }
