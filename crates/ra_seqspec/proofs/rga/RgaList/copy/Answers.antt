use Rattle.std.proofs.Common.{◌≡◌, ap, ◌∙◌}
use Rattle.std.specs.Prelude.{nat_eq}
use Rattle.std.specs.HashMap.{get}
use Rattle.std.specs.Map.{lookup}
use Rattle.std.proofs.lemmas.Map.Entries.{entries_from_clone}
use Rattle.std.proofs.lemmas.List.Elements.{same_from_all_zip}
use Rattle.ra_seqspec.specs.Rga.{entries_of}
use Rattle.ra_seqspec.proofs.Nodes.{kept_same}
use Rattle.ra_seqspec.proofs.rga.RgaList.copy.Goals as goal

pub invariant_of-result : goal.invariant_of-result
invariant_of-result c =
    let nodes : c.in_ok-clone.field-0.items ≡ c.self.inside.nodes.items =
    same_from_all_zip _ c.self.inside.nodes.items c.in_ok-clone.field-0.items c.in_ok-clone.ensures.cases.0
    (λ x y same. same) in
    let slots : c.in_ok-clone-2.field-0.entries ≡ c.self.inside.slots.entries =
    entries_from_clone _ _ (λ x y same. same) (λ x y same. same)
    c.self.inside.slots.entries c.in_ok-clone-2.field-0.entries c.in_ok-clone-2.ensures.cases in
    rw nodes (kept_same c.self.inside.first c.self.inside.nodes.items (get nat_eq c.self.inside.slots)
    (get nat_eq c.in_ok-clone-2.field-0) c.self.invariant (λ x. ap (lookup (nat_eq x)) slots))

pub returns : goal.returns
returns c =
    let nodes : c.in_ok-clone.field-0.items ≡ c.self.inside.nodes.items =
    same_from_all_zip _ c.self.inside.nodes.items c.in_ok-clone.field-0.items c.in_ok-clone.ensures.cases.0
    (λ x y same. same) in
    ap (entries_of c.self.inside.first) nodes ∙ c.self.view_is
