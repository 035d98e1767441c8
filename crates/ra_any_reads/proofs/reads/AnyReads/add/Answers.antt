use Rattle.ra_any_reads.specs.Firsts.{first_of}
use Rattle.ra_any_reads.proofs.Entries.{adds}
use Rattle.ra_any_reads.proofs.reads.AnyReads.add.Goals as goal

pub invariant_of-self-2 : goal.invariant_of-self-2
invariant_of-self-2 c =
    let is =
    adds c.self.inside.firsts.entries c.insert.new.self.entries (λ key. key.items) c.args.counts.now
    c.trimmed.result.now c.in_ok-key.key (first_of c.args.value c.args.label) c.args.self.now
    c.in_ok-insert.ensures.entries c.self.view_is c.self.invariant
    (c.in_ok-key.ensures.items_if_clones_equal (λ x y same. same)) c.trimmed.ensures.trimmed c.trimmed.ensures.same
    c.requires in
    is.trimmed

pub returns-clause-added : goal.returns-clause-added
returns-clause-added c =
    let is =
    adds c.self.inside.firsts.entries c.insert.new.self.entries (λ key. key.items) c.args.counts.now
    c.trimmed.result.now c.in_ok-key.key (first_of c.args.value c.args.label) c.args.self.now
    c.in_ok-insert.ensures.entries c.self.view_is c.self.invariant
    (c.in_ok-key.ensures.items_if_clones_equal (λ x y same. same)) c.trimmed.ensures.trimmed c.trimmed.ensures.same
    c.requires in
    is.finds

pub returns-clause-count : goal.returns-clause-count
returns-clause-count c =
    let is =
    adds c.self.inside.firsts.entries c.insert.new.self.entries (λ key. key.items) c.args.counts.now
    c.trimmed.result.now c.in_ok-key.key (first_of c.args.value c.args.label) c.args.self.now
    c.in_ok-insert.ensures.entries c.self.view_is c.self.invariant
    (c.in_ok-key.ensures.items_if_clones_equal (λ x y same. same)) c.trimmed.ensures.trimmed c.trimmed.ensures.same
    c.requires in
    is.one_more
