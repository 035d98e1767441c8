use Rattle.std.proofs.Common.{◌≡◌, drop}
use Rattle.ra_explain.proofs.ListRetold.{IsToldList}
use Rattle.ra_explain.proofs.one_list.tell_accepted.Given as goal

abbrev pub invariant-loop-entry : goal.invariant-loop-entry
invariant-loop-entry l = record {
  told : IsToldList l.trial (drop l.entry-index l.before) l.before;
  setup : l.trial.setup ≡ l.initial.trial.setup;
}
