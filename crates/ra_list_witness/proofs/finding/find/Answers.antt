use Rattle.std.proofs.Common.{◌≡◌, ℕ, Some, sym, ◌∙◌, subst}
use Rattle.ra_list_replica.specs.declared.mark.Mark.TheVariants.{Missing}
use Rattle.ra_list_replica.specs.View.{mark_at}
use Rattle.ra_list_witness.proofs.Views.{element_there}
use Rattle.ra_list_witness.proofs.finding.find.Goals as goal

same_some : (x y : ℕ) → Some x ≡ Some y → x ≡ y
same_some x y is = cc

pub returns-in-Missing : goal.returns-in-Missing
returns-in-Missing c =
    let marks = c.args.view.now.marks in
    let number = c.in-Some.number in
    let missing : mark_at marks number ≡ Missing = sym c.mark.ensures ∙ c.in-Missing.is in (
      element_there c.args.numbers.now number c.args.element ((c.number_of.ensures number).0 c.in-Some.is),
      (λ has.
          let same = same_some has.0 number (sym ((c.number_of.ensures has.0).1 has.1.0) ∙ c.in-Some.is) in
          has.1.1 (subst (λ n. mark_at marks n ≡ Missing) (sym same) missing)),
    )
