use Rattle.std.proofs.Common.{◌≡◌, ◌++◌, sym, ap, ◌∙◌}
use Rattle.std.proofs.lemmas.List.{take-append-drop}
use Rattle.ra_history_text.specs.Recording.{Recording}
use Rattle.ra_history_text.proofs.NewNames.{not_bad_name}
use Rattle.ra_history_text.proofs.recording.Recording.add_name.Goals as goal

pub unreachable-requires : goal.unreachable-requires
unreachable-requires c =
    let inside = c.self.inside in
    let all : c.args.self.now.first ++ c.args.self.now.joined ≡ inside.names =
    ap (λ (h : Recording). h.first ++ h.joined) (sym c.self.view_is)
    ∙ take-append-drop inside.monitor.setup.replicas inside.names in
    let stops = rw c.in-Err-BadName.is at c.add.ensures.fault in
    not_bad_name inside.names c.args.name.now c.in-Err-BadName.field-0-0 (rw all at c.requires.new)
    (rw c.in-Err-BadName.field-0-is at stops)
