-- Lemmas on the places of labels in a log.
use Rattle.std.proofs.Common.{◌≡◌, ℕ, ◌+◌, ◌<◌, ◌≤◌, List, [], ◌∷◌, ◌++◌, Some, length, get_or, take, drop, refl, sym, ap, subst, ◌∙◌, length-append, inl, inr}
use Rattle.std.specs.List.{slice_get}
use Rattle.std.proofs.lemmas.Bool.{cases_eq}
use Rattle.std.proofs.lemmas.Option.{same_Some}
use Rattle.std.proofs.lemmas.List.{take_more, take-take, take-append-drop}
use Rattle.ra_labels.specs.declared.kind.Kind.{Kind}
use Rattle.ra_labels.specs.declared.command.Command.{Command}
use Rattle.ra_labels.specs.Records.{Records, label_count}
use Rattle.ra_labels.specs.HistorySoFar.{History, empty_history}
use Rattle.ra_monitor.specs.Monitor.{MonitorEntry, commands_of}
use Rattle.ra_reported.specs.Reported.{reported_after, reported_after_all, reported_in, IsPlaceOf}
use Rattle.ra_reported.specs.Reading.{IsPlaceAdded}
use Rattle.ra_reported.proofs.Listed.{at_end, elsewhere}
use Rattle.ra_reported.proofs.Records.{form, grows}

commands_append : (entries : List MonitorEntry) (entry : MonitorEntry)
    → commands_of (entries ++ entry ∷ []) ≡ commands_of entries ++ entry.command ∷ []
commands_append [] entry = refl
commands_append (first ∷ entries) entry = ap (λ cs. first.command ∷ cs) (commands_append entries entry)

reported_append : (past : History) (commands : List Command) (command : Command)
    → reported_after_all past (commands ++ command ∷ []) ≡ reported_after (reported_after_all past commands) command
reported_append past [] command = refl
reported_append past (first ∷ commands) command = reported_append (reported_after past first) commands command

commands_apart : (first second : List MonitorEntry) → commands_of (first ++ second) ≡ commands_of first ++ commands_of second
commands_apart [] second = refl
commands_apart (entry ∷ first) second = ap (λ cs. entry.command ∷ cs) (commands_apart first second)

reported_apart : (past : History) (first second : List Command)
    → reported_after_all past (first ++ second) ≡ reported_after_all (reported_after_all past first) second
reported_apart past [] second = refl
reported_apart past (command ∷ first) second = reported_apart (reported_after past command) first second

module _ (kind : Kind) (replicas : ℕ) (log : List MonitorEntry) where
  -- a longer beginning of the log reports more
  pub longer_reports : (i j : ℕ) → i ≤ j → (later : Records)
      × ((reported_in kind replicas (take j log)).records ≡ later ++ (reported_in kind replicas (take i log)).records)
  longer_reports i j less =
      let whole = take j log in
      let (records, is) = form kind replicas [] (commands_of (take i whole)) in
      let (later, further) = grows kind replicas records (commands_of (drop i whole)) in
      let split : reported_in kind replicas whole
      ≡ reported_after_all (reported_in kind replicas (take i whole)) (commands_of (drop i whole)) =
      ap (reported_in kind replicas) (sym (take-append-drop i whole))
      ∙ ap (reported_after_all (empty_history kind replicas)) (commands_apart (take i whole) (drop i whole))
      ∙ reported_apart (empty_history kind replicas) (commands_of (take i whole)) (commands_of (drop i whole)) in
      let start : reported_in kind replicas (take i whole) ≡ reported_in kind replicas (take i log) =
      ap (reported_in kind replicas) (take-take i j log less) in (
        later,
        ap (λ (h : History). h.records)
            (split ∙ ap (λ h. reported_after_all h (commands_of (drop i whole))) is)
            ∙ further ∙ ap (λ r. later ++ r) (ap (λ (h : History). h.records) (sym is ∙ start)),
      )

  pub reported_more : (at : ℕ) (entry : MonitorEntry) → at < length log
      → reported_in kind replicas (take (at + 1) log)
      ≡ reported_after (reported_in kind replicas (take at log)) (get_or log at entry).command
  reported_more at entry within =
      ap (λ entries. reported_in kind replicas entries) (take_more log at entry within)
      ∙ ap (reported_after_all (empty_history kind replicas)) (commands_append (take at log) (get_or log at entry))
      ∙ reported_append (empty_history kind replicas) (commands_of (take at log)) (get_or log at entry).command

  -- holds if these are the places of labels
  abbrev pub ArePlaces : List ℕ → Type 0
  ArePlaces places = (n place : ℕ) → slice_get places n ≡ Some place → IsPlaceOf kind replicas log n place

  pub places_more : (old new : List ℕ) (at : ℕ) → IsPlaceAdded old at new
      → length old ≡ label_count (reported_in kind replicas (take at log)).records
      → length new ≡ label_count (reported_in kind replicas (take (at + 1) log)).records
      → ArePlaces old → ArePlaces new
  places_more old new at (inl same) before after are n place is =
      are n place (ap (λ places. slice_get places n) (sym same) ∙ is)
  places_more old new at (inr grown) before after are n place is =
      let found : slice_get (old ++ at ∷ []) n ≡ Some place = ap (λ places. slice_get places n) (sym grown) ∙ is in
      elim (cases_eq n (length old)) [
        | inl last ↦
            let here : Some at ≡ Some place = sym (at_end old at) ∙ ap (slice_get (old ++ at ∷ [])) (sym last) ∙ found in
            subst (IsPlaceOf kind replicas log n) (same_Some at place here) (record {
              before = sym before ∙ sym last;
              with_it = sym after ∙ ap length grown ∙ length-append old (at ∷ []) ∙ ap (λ k. k + 1) (sym last);
            })
        | inr other ↦ are n place (sym (elsewhere old at n other) ∙ found)
      ]
