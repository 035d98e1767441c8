use Rattle.std.proofs.Common.{◌∷◌, refl, sym, ap, ◌∙◌, subst}
use Rattle.ra_labels.specs.declared.label.Label.{Label}
use Rattle.ra_labels.specs.Explained.{is_explained, value_read}
use Rattle.ra_labels.specs.HistorySoFar.{operate}
use Rattle.ra_any_model.proofs.TheoremIndex.{new_read_decides_agreement-other}
use Rattle.ra_unordered.specs.Unordered.{IsKeptOf, IsFormOf}
use Rattle.ra_unordered.proofs.FirstReads.{after_other}
use Rattle.ra_unordered.proofs.NextLabels.{all_of_kind, next_of_register, next_read, no_value}
use Rattle.ra_unordered.proofs.unordered.Unordered.add.Goals as goal

pub returns-in_default : goal.returns-in_default
returns-in_default c = record {
  judged = λ past next stands comes.
      let form = subst (λ k. IsFormOf k past) c.in-Any.is stands.form in
      let none = sym (ap (λ (l : Label). value_read l.op) comes.comes.becomes)
      ∙ no_value c.args.label.now.op c.in_default.not-AnyRead in
      sym (ap (λ k. is_explained k (operate next ∷ past.records)) form.0
      ∙ new_read_decides_agreement-other value_read past.records next.by next.op next.clock none
      ∙ sym (ap (λ k. is_explained k past.records) form.0) ∙ comes.explained);
  taken = λ past next stands comes same.
      let form = subst (λ k. IsFormOf k past) c.in-Any.is stands.form in
      let none = sym (ap (λ (l : Label). value_read l.op) comes.comes.becomes)
      ∙ no_value c.args.label.now.op c.in_default.not-AnyRead in
      record {
        form = (form.0, after_other c.in-Any.reads past.records next form.1 none);
        of_kind = all_of_kind past next c.args.label.now c.args.seen.now comes.comes stands.of_kind;
      };
  same = λ failed. absurd (failed refl);
}

pub returns-in-MvRegister-clause-taken : goal.returns-in-MvRegister-clause-taken
returns-in-MvRegister-clause-taken c = λ past next stands comes same.
    let form = subst (λ k. IsFormOf k past) c.in-MvRegister.is stands.form in
    record {
      form = (
        form.0,
        c.add_label.ensures.taken past next form.1
            (next_of_register past next c.args.label.now c.args.seen.now comes form.0) same,
      );
      of_kind = all_of_kind past next c.args.label.now c.args.seen.now comes.comes stands.of_kind;
    }
