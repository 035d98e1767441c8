use Rattle.std.proofs.Common.{◌≡◌, ◌∷◌, Some, None, Ok, refl, sym, ap, ◌∙◌, subst, arith}
use Rattle.std.specs.Prelude.{◌||◌, option_map}
use Rattle.ra_labels.specs.declared.label.Label.{Label}
use Rattle.ra_labels.specs.Records.{label_count}
use Rattle.ra_labels.specs.Fault.{cause_of}
use Rattle.ra_labels.specs.HistorySoFar.{operate}
use Rattle.ra_witness.specs.declared.failure.Failure.{Failure}
use Rattle.ra_monitor.specs.declared.used_keys.unique_key.UniqueKey.{UniqueKey}
use Rattle.ra_monitor.specs.UsedKeys.{CanKeep, is_stamp_in, is_identifier_in, key_is_stamp, key_is_identifier}
use Rattle.ra_monitor.proofs.TakenLookups.{can_keep, taken_more}
use Rattle.ra_monitor.proofs.NewRecords.{comes_next, stands_taken, stands_failed, reply_to}
use Rattle.ra_monitor.proofs.history.TrackedHistory.check_label.Goals as goal
use Rattle.ra_theorems.proofs.TheoremIndex.{operation_accepted_iff}

pub keep-requires : goal.keep-requires
keep-requires c =
    let r = c.requires in
    let free = (operation_accepted_iff r.past.kind r.past.initial_replicas r.past.records r.next).0 r.newest.accepted in
    subst (CanKeep c.args.self.now.taken) (sym r.newest.brings) (can_keep c.args.self.now.taken r.next r.room (omega (arith, free.0, r.newest.places)))

pub returns-in-None-clause-answered : goal.returns-in-None-clause-answered
returns-in-None-clause-answered c = λ past next newest.
    let self = c.args.self.now in
    let label = c.args.label.now in
    let brought = c.args.brought in
    let is : label.number ≡ label_count past.records = ap (λ (l : Label). l.number) newest.becomes in
    let comes = comes_next self past next label brought c.vis-seen.result newest c.vis-seen.ensures.seen c.vis-seen.ensures.issued in
    let because : None ≡ cause_of past.kind (operate next ∷ past.records) =
    ap (option_map (λ (f : Failure). f.cause)) (sym c.in-None.is) ∙ c.in_ok-failure.ensures.cause past next newest.witness comes in
    let witness = c.in_ok-failure.ensures.taken past next newest.witness comes (ap Ok c.in-None.is) in
    let free = (operation_accepted_iff past.kind past.initial_replicas past.records next).0 newest.accepted in
    let taken = taken_more past.kind self.taken c.keep.new.self past.records next free.1
    (λ stamp. c.keep.ensures.stamps stamp ∙ ap (λ (b : UniqueKey). key_is_stamp b stamp || is_stamp_in self.taken stamp) newest.brings)
    (λ identifier. c.keep.ensures.identifiers identifier ∙ ap (λ (b : UniqueKey). key_is_identifier b identifier || is_identifier_in self.taken identifier) newest.brings)
    newest.taken in (
      reply_to past.kind past.records next None label.number newest.none because is,
      stands_taken self _ past next label brought newest because witness taken c.keep.ensures.replicas refl refl refl refl refl,
    )

pub returns-in-Some-clause-answered : goal.returns-in-Some-clause-answered
returns-in-Some-clause-answered c = λ past next newest.
    let self = c.args.self.now in
    let label = c.args.label.now in
    let brought = c.args.brought in
    let is : label.number ≡ label_count past.records = ap (λ (l : Label). l.number) newest.becomes in
    let comes = comes_next self past next label brought c.vis-seen.result newest c.vis-seen.ensures.seen c.vis-seen.ensures.issued in
    let why = c.in-Some.failure.cause in
    let because : Some why ≡ cause_of past.kind (operate next ∷ past.records) =
    ap (option_map (λ (f : Failure). f.cause)) (sym c.in-Some.is) ∙ c.in_ok-failure.ensures.cause past next newest.witness comes in
    let shown = rw c.in-Some.is at c.in_ok-failure.ensures.cycle past next newest.witness comes in
    let witness = c.in_ok-failure.ensures.same past newest.witness (λ none. absurd (cc (none, c.in-Some.is))) in (
      c.no_reply.ensures ∙ reply_to past.kind past.records next (Some why) label.number newest.none because is,
      stands_failed self _ past next label brought why newest because shown witness refl refl refl refl refl,
    )

pub offer-requires-after_bounds : goal.offer-requires-after_bounds
offer-requires-after_bounds c κs =
    let r = c.requires in
    record {
      past = r.past;
      next = r.next;
      stands = r.newest.witness;
      comes = comes_next c.args.self.now r.past r.next c.args.label.now c.args.brought c.vis-seen.result r.newest c.vis-seen.ensures.seen c.vis-seen.ensures.issued;
      few = r.few;
    }
