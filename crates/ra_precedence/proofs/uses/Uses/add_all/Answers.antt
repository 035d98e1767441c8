use Rattle.std.proofs.Common.{◌∙◌, get_or, subst, refl, arith}
use Rattle.std.proofs.lemmas.List.Elements.{Contains-get_or}
use Rattle.std.proofs.lemmas.List.{take_all}
use Rattle.ra_precedence.specs.Placing.{AreAdded}
use Rattle.ra_precedence.proofs.UseLists.{added_none, added_more}
use Rattle.ra_precedence.proofs.uses.Uses.add_all.Goals as goal

pub loop-label-init : goal.loop-label-init
loop-label-init c = record { added = added_none c.args.index c.args.self.now; len = refl }

pub add-requires : goal.add-requires
add-requires c =
    let low = c.requires (get_or c.args.labels.now c.loop-label.label-index 0) (Contains-get_or c.args.labels.now c.loop-label.label-index 0 c.loop-label-test.true) in
    let len = c.loop-label.invariant.len in
    omega (arith, low, len)

pub loop-label-preserved : goal.loop-label-preserved
loop-label-preserved c = record {
  added = added_more c.args.labels.now c.args.index c.loop-label.label-index c.args.self.now c.loop-label.self c.add.new.self
      c.loop-label-test.true c.loop-label.invariant.added c.in_ok-add.ensures.added c.in_ok-add.ensures.others;
  len = c.in_ok-add.ensures.len ∙ c.loop-label.invariant.len;
}

pub returns-clause-added : goal.returns-clause-added
returns-clause-added c =
    subst (λ labels. AreAdded labels c.args.index c.args.self.now c.loop-label.self)
    (take_all c.loop-label.label-index c.args.labels.now c.loop-label-test.false) c.loop-label.invariant.added
