use Rattle.std.proofs.Common.{ap, ◌∙◌}
use Rattle.ra_any_reads.specs.Firsts.{first_in}
use Rattle.ra_any_reads.proofs.Entries.{finds}
use Rattle.ra_any_reads.proofs.reads.AnyReads.find.Goals as goal

pub returns-in-Some : goal.returns-in-Some
returns-in-Some c =
    c.in-Some.ensures.value
    ∙ finds c.self.inside.firsts.entries (λ key. key.items) c.args.counts.now c.trimmed.result.now c.self.invariant
    c.trimmed.ensures.trimmed c.trimmed.ensures.same
    ∙ ap (λ entries. first_in entries c.args.counts.now) c.self.view_is

pub returns-in-None : goal.returns-in-None
returns-in-None c =
    c.in-None.ensures.value
    ∙ finds c.self.inside.firsts.entries (λ key. key.items) c.args.counts.now c.trimmed.result.now c.self.invariant
    c.trimmed.ensures.trimmed c.trimmed.ensures.same
    ∙ ap (λ entries. first_in entries c.args.counts.now) c.self.view_is
