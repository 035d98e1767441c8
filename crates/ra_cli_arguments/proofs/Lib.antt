mod AskedRuns
