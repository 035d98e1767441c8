use Rattle.std.proofs.Common.{◌≡◌, drop}
use Rattle.ra_explain.proofs.Retold.{IsToldSo}
use Rattle.ra_explain.proofs.changes.tell_kept.Given as goal

abbrev pub invariant-loop-entry : goal.invariant-loop-entry
invariant-loop-entry l = record {
  told : IsToldSo l.trial l.change l.replica l.place (drop l.entry-index l.before) l.before;
  place : l.place ≡ l.entry-index;
  setup : l.trial.setup ≡ l.initial.trial.setup;
}
