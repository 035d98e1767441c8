use Rattle.std.proofs.Common.{◌≡◌, ◌<◌, ◌∙◌, Some, None, length, refl, sym, ap, arith}
use Rattle.std.specs.Prelude.{if◌then◌else◌}
use Rattle.std.proofs.lemmas.Option.{slice_get_read}
use Rattle.ra_labels.specs.declared.reply.Cause.TheVariants as cause
use Rattle.ra_witness.proofs.rga.Rga.unless_answered.Goals as goal

pub returns-then-admits : goal.returns-then-admits
returns-then-admits c = λ initial_replicas records stands.
    let self = c.args.self.now in
    let lists = self.lists.items in
    let list = c.index.result.now in
    let within : c.args.replica < length lists = omega (arith, c.requires, self.lists.ok.0) in
    let own = stands.lists c.args.replica list
    (slice_get_read lists (length lists) c.args.replica list refl within c.index.ensures) in
    ap (λ b. if b then None else Some cause.Query) (sym c.if-admits.true
    ∙ c.admits.ensures self.edits.items records c.args.replica stands.elements own)

pub returns-else-admits : goal.returns-else-admits
returns-else-admits c = λ initial_replicas records stands.
    let self = c.args.self.now in
    let lists = self.lists.items in
    let list = c.index.result.now in
    let within : c.args.replica < length lists = omega (arith, c.requires, self.lists.ok.0) in
    let own = stands.lists c.args.replica list
    (slice_get_read lists (length lists) c.args.replica list refl within c.index.ensures) in
    ap (λ b. if b then None else Some cause.Query) (sym c.if-admits.false
    ∙ c.admits.ensures self.edits.items records c.args.replica stands.elements own)
