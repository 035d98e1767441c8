use Rattle.std.proofs.Common.{List, ℕ, [], ◌∷◌, ◌++◌, subst}
use Rattle.std.specs.Prelude.{IfErr}
use Rattle.ra_history_text.specs.Written.{StopsLine}
use Rattle.ra_monitor_cli.proofs.bench.write_bench.Goals as goal

pub returns-clause-stopped : goal.returns-clause-stopped
returns-clause-stopped g c =
    subst
    (λ (words : List ℕ). IfErr c.write_line.result
    (StopsLine (words ++ 10 ∷ []) (g.W.Write.contents c.args.out.now) (g.W.Write.contents c.write_line.new.writer)))
    c.in_ok-bench_line.ensures c.write_line.ensures.stopped
