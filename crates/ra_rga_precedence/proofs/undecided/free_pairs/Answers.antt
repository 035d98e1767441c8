use Rattle.std.proofs.Common.{◌+◌, get_or, arith}
use Rattle.std.proofs.lemmas.List.Elements.{Contains-get_or}
use Rattle.ra_rga_precedence.proofs.undecided.free_pairs.Goals as goal

pub open_pair-open-requires-clause-first : goal.open_pair-open-requires-clause-first
open_pair-open-requires-clause-first c =
    let labels = c.args.labels.now in
    let place = c.place_at-place.result in
    let below = c.place_at-place.ensures in
    let pairs = c.saturating_sub-pairs.ensures in
    c.requires.labels (get_or labels place 0) (Contains-get_or labels place 0 (omega (arith, below, pairs)))

pub open_pair-open-requires-clause-second : goal.open_pair-open-requires-clause-second
open_pair-open-requires-clause-second c =
    let labels = c.args.labels.now in
    let place = c.place_at-place.result in
    let below = c.place_at-place.ensures in
    let pairs = c.saturating_sub-pairs.ensures in
    c.requires.labels (get_or labels (place + 1) 0) (Contains-get_or labels (place + 1) 0 (omega (arith, below, pairs)))
