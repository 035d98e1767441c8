use Rattle.std.proofs.Common.{◌≡◌, ◌≤◌, All, drop, length}
use Rattle.ra_explain_text.proofs.document.end_before_feeds.Given as goal

-- only line feeds are behind the end so far
abbrev pub invariant-loop-end : goal.invariant-loop-end
invariant-loop-end l = record {
  within : l.end ≤ length l.words;
  feeds : All (λ b. b ≡ 10) (drop l.end l.words);
}

abbrev pub decreases-loop-end : goal.decreases-loop-end
decreases-loop-end l = l.end
