use Rattle.std.proofs.Common.{◌≡◌, ◌+◌, ◌-◌, ◌≤◌, length, take}
use Rattle.std.specs.Prelude.{nat_eq}
use Rattle.std.specs.Vec.{vec_len, vec_capacity}
use Rattle.std.specs.HashMap.{get, spare}
use Rattle.ra_seqspec.specs.Rga.{entries_of, list_after, RgaListKept}
use Rattle.ra_seqspec.proofs.rga.make_all.Given as goal

-- the updates so far are applied, and there is room for the others
abbrev pub invariant-loop-update : goal.invariant-loop-update
invariant-loop-update l = record {
  list : entries_of l.first l.nodes.items
      ≡ list_after (entries_of l.initial.first l.initial.nodes.items) (take l.update-index l.updates);
  kept : RgaListKept l.first l.nodes.items (get nat_eq l.slots);
  room : vec_len l.nodes + (length l.updates - l.update-index) ≤ vec_capacity l.nodes;
  spare : length l.updates - l.update-index ≤ spare l.slots;
}
