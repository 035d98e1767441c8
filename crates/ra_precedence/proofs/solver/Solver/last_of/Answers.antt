use Rattle.std.proofs.Common.{◌≡◌, ◌∙◌, ◌∷◌, ◌++◌, ℕ, [], length, length-append, take, sym, ap, subst, arith}
use Rattle.std.specs.Prelude.{◌↔◌, Contains}
use Rattle.std.proofs.Math.Seq.{take-append_seam}
use Rattle.std.proofs.lemmas.Result.{IfOk-weaker}
use Rattle.ra_labels.specs.Edges.{EachOnce}
use Rattle.ra_precedence.specs.Conditions.{NameOnlyBelow}
use Rattle.ra_precedence.specs.Placing.{times, open_count, AreUses, AreOpenCounts}
use Rattle.ra_precedence.specs.Lasts.{count_of, holding}
use Rattle.ra_precedence.proofs.Counting.{open_push}
use Rattle.ra_precedence.proofs.DistinctLabels.{lasts_same}
use Rattle.ra_precedence.proofs.HeldSets.{named_held, uses_held}
use Rattle.ra_precedence.proofs.solver.Solver.last_of.Goals as goal

pub distinct-requires : goal.distinct-requires
distinct-requires c = λ b there.
    let low = c.requires.below b there in
    let is = c.len.ensures in
    let long = c.args.self.now.counts.ok.0 in
    omega (arith, low, is, long)

pub returns-in_err-push-clause-ready : goal.returns-in_err-push-clause-ready
returns-in_err-push-clause-ready c =
    let same = sym c.in_err-push.ensures.items in
    let ready = c.requires.ready in
    record {
      named = subst (NameOnlyBelow (count_of c.args.self.now)) same ready.named;
      uses = subst (λ cs. AreUses cs c.args.self.now.uses) same ready.uses;
      lists = ready.lists;
      counts = subst (λ cs. AreOpenCounts cs [] c.args.self.now.counts.items) same ready.counts;
      fits = ready.fits;
    }

pub last_among-lasts-requires-clause-named : goal.last_among-lasts-requires-clause-named
last_among-lasts-requires-clause-named c =
    let old = c.args.self.now.conditions.items in
    let held : c.in_ok-held_back.held_back ≡ holding c.in_ok-labels.labels.items =
    λ i. record { before = (c.in_ok-held_back.ensures.before ∙ c.deref.ensures.value) i; after = c.in_ok-held_back.ensures.after i } in
    let all : c.deref-2.result.now ≡ old ++ holding c.in_ok-labels.labels.items ∷ [] =
    c.deref-2.ensures.value ∙ c.in_ok-push.ensures.items ∙ ap (λ h. old ++ h ∷ []) held in
    subst (NameOnlyBelow (count_of c.args.self.now)) (sym all)
    (named_held (count_of c.args.self.now) old c.in_ok-labels.labels.items c.requires.ready.named (λ b there. c.requires.below b ((c.in_ok-labels.ensures.same b).0 there)))

pub last_among-lasts-requires-clause-used : goal.last_among-lasts-requires-clause-used
last_among-lasts-requires-clause-used c =
    let old = c.args.self.now.conditions.items in
    let held : c.in_ok-held_back.held_back ≡ holding c.in_ok-labels.labels.items =
    λ i. record { before = (c.in_ok-held_back.ensures.before ∙ c.deref.ensures.value) i; after = c.in_ok-held_back.ensures.after i } in
    let all : c.deref-2.result.now ≡ old ++ holding c.in_ok-labels.labels.items ∷ [] =
    c.deref-2.ensures.value ∙ c.in_ok-push.ensures.items ∙ ap (λ h. old ++ h ∷ []) held in
    subst (λ cs. AreUses cs c.args.self.now.uses) (sym all)
    (uses_held (count_of c.args.self.now) old c.in_ok-labels.labels.items c.args.self.now.uses c.requires.ready.uses)

pub last_among-lasts-requires-clause-counted : goal.last_among-lasts-requires-clause-counted
last_among-lasts-requires-clause-counted c = λ b.
    let old = c.args.self.now.conditions.items in
    let held : c.in_ok-held_back.held_back ≡ holding c.in_ok-labels.labels.items =
    λ i. record { before = (c.in_ok-held_back.ensures.before ∙ c.deref.ensures.value) i; after = c.in_ok-held_back.ensures.after i } in
    let all : c.deref-2.result.now ≡ old ++ holding c.in_ok-labels.labels.items ∷ [] =
    c.deref-2.ensures.value ∙ c.in_ok-push.ensures.items ∙ ap (λ h. old ++ h ∷ []) held in
    let counted = c.requires.ready.counts b in
    let listed = ap (times b) c.deref-3.ensures.value in
    let pushed = open_push old (holding c.in_ok-labels.labels.items) b in
    let same = ap (λ cs. open_count cs [] b) all in
    omega (arith, counted, listed, pushed, same)

pub last_among-lasts-requires-clause-below : goal.last_among-lasts-requires-clause-below
last_among-lasts-requires-clause-below c = λ b there.
    c.requires.below b ((c.in_ok-labels.ensures.same b).0 (subst (λ xs. Contains xs b) c.deref-3.ensures.value there))

pub returns-clause-ready : goal.returns-clause-ready
returns-clause-ready c =
    let old = c.args.self.now.conditions.items in
    let pushed = c.in_ok-push.ensures.items in
    let long = c.push.new.self.ok.0 in
    let more = ap length pushed ∙ length-append old (c.in_ok-held_back.held_back ∷ []) in
    let same : old ≡ c.pop.new.self.items = sym (c.pop.ensures.rest
    ∙ ap (λ k. take k c.push.new.self.items) (omega (arith, long, more)) ∙ ap (take (length old)) pushed
    ∙ take-append_seam old (c.in_ok-held_back.held_back ∷ [])) in
    let ready = c.requires.ready in
    record {
      named = subst (NameOnlyBelow (count_of c.args.self.now)) same ready.named;
      uses = subst (λ cs. AreUses cs c.args.self.now.uses) same ready.uses;
      lists = ready.lists;
      counts = subst (λ cs. AreOpenCounts cs [] c.args.self.now.counts.items) same ready.counts;
      fits = ready.fits;
    }

pub returns-clause-lasts : goal.returns-clause-lasts
returns-clause-lasts c =
    let old = c.args.self.now.conditions.items in
    let held : c.in_ok-held_back.held_back ≡ holding c.in_ok-labels.labels.items =
    λ i. record { before = (c.in_ok-held_back.ensures.before ∙ c.deref.ensures.value) i; after = c.in_ok-held_back.ensures.after i } in
    let all : c.deref-2.result.now ≡ old ++ holding c.in_ok-labels.labels.items ∷ [] =
    c.deref-2.ensures.value ∙ c.in_ok-push.ensures.items ∙ ap (λ h. old ++ h ∷ []) held in
    IfOk-weaker c.last_among-lasts.result _ _ (λ lasts are.
    lasts_same (count_of c.args.self.now) old c.args.set.now c.deref-3.result.now lasts.items
    (subst (λ xs. (b : ℕ) → Contains xs b ↔ Contains c.args.set.now b) (sym c.deref-3.ensures.value) c.in_ok-labels.ensures.same)
    (are old (all ∙ ap (λ xs. old ++ holding xs ∷ []) (sym c.deref-3.ensures.value)) c.requires.ready.named
    (subst EachOnce (sym c.deref-3.ensures.value) c.in_ok-labels.ensures.once)))
    c.last_among-lasts.ensures
