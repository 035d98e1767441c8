use Rattle.std.proofs.Common.{◌≡◌, Some, None, ap, ◌∙◌, sym, rules}
use Rattle.std.specs.Prelude.{nat_eq}
use Rattle.std.specs.Map.{lookup}
use Rattle.ra_rga_replica.specs.PendingLabels.{labels_under}
use Rattle.ra_rga_replica.proofs.Entries.{under_some, under_none}
use Rattle.ra_rga_replica.proofs.pending.PendingLabels.under.Goals as goal

pub returns-in-Some : goal.returns-in-Some
returns-in-Some c =
    let found : lookup (nat_eq c.args.number) c.self.inside.under.entries ≡ Some c.in-Some.labels.now = search rules in
    c.as_slice.ensures.value ∙ sym (under_some c.self.inside.under.entries c.args.number c.in-Some.labels.now found)
    ∙ ap (λ w. labels_under w c.args.number) c.self.view_is

pub returns-in-None : goal.returns-in-None
returns-in-None c =
    let missing : lookup (nat_eq c.args.number) c.self.inside.under.entries ≡ None = search rules in
    sym (under_none c.self.inside.under.entries c.args.number missing)
    ∙ ap (λ w. labels_under w c.args.number) c.self.view_is
