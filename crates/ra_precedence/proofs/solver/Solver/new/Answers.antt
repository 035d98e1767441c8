use Rattle.std.proofs.Common.{◌≡◌, ◌<◌, ◌^◌, ◌∙◌, [], refl, sym, subst}
use Rattle.ra_precedence.specs.Conditions.{NameOnlyBelow}
use Rattle.ra_precedence.specs.Placing.{AreOpenCounts, AreUses}
use Rattle.ra_precedence.proofs.solver.Solver.new.Goals as goal

pub returns-clause-ready : goal.returns-clause-ready
returns-clause-ready c = record {
  named = subst (λ n. NameOnlyBelow n c.args.conditions.items) (sym c.in_ok-counts.ensures.len) c.requires;
  uses = subst (λ cs. AreUses cs c.in_ok-uses.uses) c.deref-2.ensures.value c.in_ok-uses.ensures.used;
  lists = c.in_ok-uses.ensures.len ∙ sym c.in_ok-counts.ensures.len;
  counts = subst (λ cs. AreOpenCounts cs [] c.in_ok-counts.counts.items) c.deref.ensures.value c.in_ok-counts.ensures.open;
  fits = subst (λ n. n < 2 ^ 32) (sym c.in_ok-counts.ensures.len) c.ranges.count.fits;
}
