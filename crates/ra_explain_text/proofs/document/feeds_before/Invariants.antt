use Rattle.std.proofs.Common.{length, ◌-◌, ◌≡◌, ◌≤◌, All, take}
use Rattle.ra_explain_text.proofs.document.feeds_before.Given as goal

-- only line feeds are before the front so far
abbrev pub invariant-loop-front : goal.invariant-loop-front
invariant-loop-front l = record {
  within : l.front ≤ length l.words;
  feeds : All (λ b. b ≡ 10) (take l.front l.words);
}

abbrev pub decreases-loop-front : goal.decreases-loop-front
decreases-loop-front l = length l.words - l.front
