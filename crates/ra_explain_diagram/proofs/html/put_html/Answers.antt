use Rattle.std.proofs.Common.{◌≡◌, ℕ, List, ◌++◌, ap, subst, ◌∙◌}
use Rattle.std.proofs.lemmas.Result.{on_ok_weaker}
use Rattle.ra_explain_text.specs.Document.{HasDocument}
use Rattle.ra_explain_diagram.specs.Drawings.{title_of}
use Rattle.ra_explain_diagram.proofs.html.put_html.Goals as goal

same_document : (old new title words figure t w f : List ℕ) → title ≡ t → words ≡ w → figure ≡ f
    → HasDocument old new title words figure → HasDocument old new t w f
same_document old new title words figure t w f one two three is =
    subst (λ (x : List ℕ). HasDocument old new x w f) one
    (subst (λ (x : List ℕ). HasDocument old new title x f) two
    (subst (λ (x : List ℕ). HasDocument old new title words x) three is))

pub returns : goal.returns
returns c =
    let title = title_of c.args.view.now.explanation.now.report in
    let words = c.in_ok-put_words.ensures in
    let figure = c.in_ok-figure.figure.items in
    let titles = c.deref.ensures.value ∙ c.in_ok-put_answer.ensures
    ∙ ap (λ (old : List ℕ). old ++ title) c.new-title.ensures.items in
    let texts = c.deref-2.ensures.value ∙ words.1
    ∙ ap (λ (old : List ℕ). old ++ words.0) c.new-words.ensures.items in
    on_ok_weaker c.put_document.result
    (λ s. (
      words.0,
      figure,
      words.2,
      c.in_ok-figure.ensures,
      same_document c.args.out.now.items c.put_document.new.out.items c.deref.result.now c.deref-2.result.now
          c.deref-3.result.now title words.0 figure titles texts c.deref-3.ensures.value s,
    )) c.put_document.ensures
