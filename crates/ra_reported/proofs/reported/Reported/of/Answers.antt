use Rattle.std.proofs.Common.{◌<◌, get_or, length, refl, sym, ap, subst, ◌∙◌, arith}
use Rattle.std.proofs.lemmas.Option.{slice_get-get_or, slice_get_within}
use Rattle.std.specs.List.{slice_get}
use Rattle.std.specs.Prelude.{option_map}
use Rattle.ra_labels.specs.Records.{label_count}
use Rattle.ra_labels.specs.HistorySoFar.{empty_history}
use Rattle.ra_monitor.specs.Monitor.{MonitorEntry, commands_of}
use Rattle.ra_reported.specs.Reported.{reported_after, reported_after_all}
use Rattle.ra_reported.specs.Reading.{IsPlaceAdded}
use Rattle.ra_reported.proofs.Readings.{kind_kept, drop_read}
use Rattle.ra_reported.proofs.LabelPlaces.{reported_more, places_more}
use Rattle.ra_reported.proofs.reported.Reported.of.Goals as goal

pub loop-at-init : goal.loop-at-init
loop-at-init c = record {
  past = empty_history c.args.kind c.args.replicas;
  reads = c.in_ok-reading.ensures.stands c.args.kind c.args.log.now;
  rest = refl;
  sofar = refl;
  places =
      λ n place is.
      let none = (c.in_ok-reading.ensures.stands c.args.kind c.args.log.now).count in
      let within = slice_get_within c.in_ok-reading.reading.places.items n place is in
      absurd (omega (arith, none, within));
  kind = refl;
  clocks = c.in_ok-reading.ensures.clocks;
  within = omega arith;
}

pub loop-at-preserved : goal.loop-at-preserved
loop-at-preserved c =
    let i = c.loop-at.invariant in
    let at = c.loop-at.at in
    let log = c.args.log.now in
    let entry = get_or log at c.index-log-at.result in
    let within : at < length log = omega (arith, c.loop-at-test.true) in
    let sofar = ap (λ h. reported_after h entry.command) i.sofar
    ∙ sym (reported_more c.args.kind c.args.replicas log at c.index-log-at.result within) in
    let reads = c.in_ok-read.ensures.stands i.past log i.kind
    (ap (λ p. option_map (λ (e : MonitorEntry). e.command) (slice_get log p)) c.in-Ok.ensures.1
    ∙ ap (option_map (λ (e : MonitorEntry). e.command))
    (slice_get-get_or log at c.index-log-at.result within)) i.reads in
    record {
      past = reported_after i.past entry.command;
      reads = reads;
      sofar = sofar;
      places =
          places_more c.args.kind c.args.replicas log c.loop-at.reading.places.items c.read.new.self.places.items at
          (subst (λ p. IsPlaceAdded c.loop-at.reading.places.items p c.read.new.self.places.items) c.in-Ok.ensures.1
          c.in_ok-read.ensures.places)
          (i.reads.count ∙ ap (λ h. label_count h.records) i.sofar)
          (reads.count ∙ ap (λ h. label_count h.records) sofar) i.places;
      rest =
          ap (λ entries. reported_after_all i.past (commands_of entries))
          (sym (drop_read log at c.index-log-at.result (omega (arith, c.loop-at-test.true)))) ∙ i.rest;
      kind = kind_kept i.past entry.command ∙ i.kind;
      clocks = c.in_ok-read.ensures.clocks;
      within = omega (arith, c.loop-at-test.true);
    }
