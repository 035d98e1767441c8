-- The counts by which a tracker represents what a label sees and what was delivered to a replica.
use Rattle.std.specs.Prelude.{◌≡◌, ℕ, ◌<◌, ◌≤◌, length}
use Rattle.ra_visibility.specs.Tracked.{Tracked, replicas_in, replica_at}

-- holds if no count exceeds the number of updates that its replica issued, as those of a tracker do not
abbrev pub CountsIssued : Tracked → (ℕ → ℕ) → Type 0
CountsIssued tracked count =
    (of : ℕ) → of < replicas_in tracked → count of ≤ length (replica_at tracked of).issued

-- holds if the counts are the same for each replica
abbrev pub HaveSameCounts : Tracked → (ℕ → ℕ) → (ℕ → ℕ) → Type 0
HaveSameCounts tracked count other = (of : ℕ) → of < replicas_in tracked → count of ≡ other of
