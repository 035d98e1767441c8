-- The longest prefix of the labels that a log reports and some order explains.
use Rattle.std.specs.Prelude.{◌≡◌, ◌<◌, ◌≤◌, ◌+◌, ◌-◌, ◌==◌, ℕ, Bool, true, false, List, length, get_or, take, if◌then◌else◌, MatchOption}
use Rattle.ra_labels.specs.declared.kind.Kind.{Kind}
use Rattle.ra_labels.specs.Records.{Records, label_count}
use Rattle.ra_theorems.specs.AnyOrder.{NoneLinearizes}
use Rattle.ra_some_order.specs.SomeOrder.{SomeOrderExplains}
use Rattle.ra_monitor.specs.Monitor.{MonitorEntry}
use Rattle.ra_reported.specs.Reported.{reported_in, IsPlaceOf}
use Rattle.ra_another_order.specs.declared.extent.Extent.{Extent}
use Rattle.ra_another_order.specs.declared.search.Bounds.{Bounds}

-- the records that the first k entries of a log report
abbrev pub records_at : Kind → ℕ → List MonitorEntry → ℕ → Records
records_at kind replicas log k = (reported_in kind replicas (take k log)).records

-- holds if some order explains the prefix of this length, and no sequence linearizes a longer one
pub record IsExtent (kind : Kind) (replicas : ℕ) (log : List MonitorEntry) (count : ℕ) : Type 0 where
  pub some : (k : ℕ) × (label_count (records_at kind replicas log k) ≡ count)
      × SomeOrderExplains kind (records_at kind replicas log k)
  pub none : (k : ℕ) → count < label_count (records_at kind replicas log k)
      → NoneLinearizes kind (records_at kind replicas log k)

-- holds if some order explains the records; or if no sequence linearizes them
abbrev pub IsExplained : Kind → Records → Bool → Type 0
IsExplained kind records true = SomeOrderExplains kind records
IsExplained kind records false = NoneLinearizes kind records

-- how many entries of a log report the prefix of this length, if these are the places of the labels
abbrev pub end_in : List ℕ → ℕ → ℕ
end_in places count = if count == 0 then 0 else get_or places (count - 1) 0 + 1

-- holds if these are the ends of the prefixes of these lengths, one by one
pub record AreEnds (places counts ends : List ℕ) : Type 0 where
  pub len : length ends ≡ length counts
  pub each : (i : ℕ) → i < length ends → get_or ends i 0 ≡ end_in places (get_or counts i 0)

-- holds if the ends are in the log
abbrev pub AreWithin : List MonitorEntry → List ℕ → Type 0
AreWithin log ends = (i : ℕ) → i < length ends → get_or ends i 0 ≤ length log

-- holds if the ends are in the log, and some order explains the labels up to the first one
pub record CanBeSearched (kind : Kind) (replicas : ℕ) (log : List MonitorEntry) (ends : List ℕ) : Type 0 where
  pub within : AreWithin log ends
  pub some : 0 < length ends
  pub start : SomeOrderExplains kind (records_at kind replicas log (get_or ends 0 0))

-- holds if some order explains the labels up to the first of these ends, and none those up to the second one, if there
-- is one
pub record AreBounds (kind : Kind) (replicas : ℕ) (log : List MonitorEntry) (ends : List ℕ) (bounds : Bounds) : Type 0
  where
    pub below : bounds.explained < bounds.unexplained
    pub within : bounds.unexplained ≤ length ends
    pub some : SomeOrderExplains kind (records_at kind replicas log (get_or ends bounds.explained 0))
    pub none : bounds.unexplained < length ends
        → NoneLinearizes kind (records_at kind replicas log (get_or ends bounds.unexplained 0))

-- holds if some order explains the labels up to this end, and none those up to the next one
pub record IsLastExplained (kind : Kind) (replicas : ℕ) (log : List MonitorEntry) (ends : List ℕ) (i : ℕ) : Type 0 where
  pub within : i < length ends
  pub some : SomeOrderExplains kind (records_at kind replicas log (get_or ends i 0))
  pub none : i + 1 < length ends → NoneLinearizes kind (records_at kind replicas log (get_or ends (i + 1) 0))

-- holds if this is the longest prefix that some order explains, and the place of the next label if there is one
pub record HasExtent (kind : Kind) (replicas : ℕ) (log : List MonitorEntry) (it : Extent) : Type 0 where
  pub extent : IsExtent kind replicas log it.explained
  pub stop : MatchOption it.stop (label_count (reported_in kind replicas log).records ≡ it.explained)
      (λ place. IsPlaceOf kind replicas log it.explained place)
