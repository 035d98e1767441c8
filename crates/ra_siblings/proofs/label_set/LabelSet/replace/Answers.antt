use Rattle.std.proofs.Common.{◌≡◌, ◌∙◌, subst}
use Rattle.std.specs.Prelude.{◌↔◌, ◌⊎◌, Contains}
use Rattle.ra_siblings.proofs.label_set.LabelSet.replace.Goals as goal

pub returns : goal.returns
returns c = λ m.
    let set = c.in_ok-replace.field-0.items in
    let first : c.deref.result.now ≡ c.args.self.now = c.deref.ensures.value ∙ c.self.view_is in
    let second : c.deref-2.result.now ≡ c.args.replaced.now = c.deref-2.ensures.value ∙ c.replaced.view_is in
    subst (λ xs. Contains set m ↔ ((c.args.label ≡ m) ⊎ (Contains xs m × (¬ Contains c.args.replaced.now m)))) first
    (subst (λ xs. Contains set m ↔ ((c.args.label ≡ m) ⊎ (Contains c.deref.result.now m × (¬ Contains xs m)))) second
    (c.in_ok-replace.ensures.members m))
