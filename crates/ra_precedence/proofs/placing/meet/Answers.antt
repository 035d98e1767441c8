use Rattle.std.proofs.Common.{◌∙◌, ◌≤◌, get_or, set, false, ap, sym, subst, refl, arith}
use Rattle.std.proofs.lemmas.Bool.{false≢true}
use Rattle.std.proofs.lemmas.List.{set-get_or}
use Rattle.ra_precedence.specs.Conditions.{Condition, no_condition}
use Rattle.ra_precedence.specs.Placing.{times, AreReleased}
use Rattle.ra_precedence.proofs.OpenCounts.{open_met}
use Rattle.ra_precedence.proofs.ReadAt.{read_at}
use Rattle.ra_precedence.proofs.placing.meet.Goals as goal

pub release-requires : goal.release-requires
release-requires c = λ b.
    let is = read_at c.args.conditions.now c.args.index no_condition c.index-conditions-index.result c.requires.there c.index-conditions-index.is in
    let read = read_at c.args.met.now.items c.args.index false c.index.result.now (rw c.requires.met_len c.requires.there) c.index.ensures in
    let more = open_met c.args.conditions.now c.args.met.now.items c.args.index b c.requires.met_len c.requires.there (sym read ∙ c.if-not-index.true) in
    let now = c.requires.open b in
    subst (λ labels. times b labels ≤ get_or c.args.numbers.now.items b 0)
    (sym (c.before-then-not-index.ensures ∙ ap (λ (h : Condition). h.before) is)) (omega (arith, more, now))

pub returns-in_ok-release-clause-met : goal.returns-in_ok-release-clause-met
returns-in_ok-release-clause-met c =
    let is = read_at c.args.conditions.now c.args.index no_condition c.index-conditions-index.result c.requires.there c.index-conditions-index.is in
    let read = read_at c.args.met.now.items c.args.index false c.index.result.now (rw c.requires.met_len c.requires.there) c.index.ensures in
    record {
      met_is = refl;
      released = λ _. subst (λ labels. AreReleased labels c.args.numbers.now.items c.release.new.numbers.items c.args.placed.now.items c.release.new.placed.items)
          (c.before-then-not-index.ensures ∙ ap (λ (h : Condition). h.before) is) c.in_ok-release.ensures.released;
      same = λ is_met. absurd (false≢true (sym c.if-not-index.true ∙ read ∙ is_met));
    }

pub returns-else-not-index-clause-met : goal.returns-else-not-index-clause-met
returns-else-not-index-clause-met c =
    let read = read_at c.args.met.now.items c.args.index false c.index.result.now (rw c.requires.met_len c.requires.there) c.index.ensures in
    record {
      met_is = sym (ap (set c.args.met.now.items c.args.index) (sym c.if-not-index.false ∙ read)
          ∙ set-get_or c.args.met.now.items c.args.index false);
      released = λ unmet. absurd (false≢true (sym unmet ∙ sym read ∙ c.if-not-index.false));
      same = λ _. (refl, refl);
    }
