use Rattle.ra_bench.proofs.tell.fault_of.Goals as goal

pub returns-in-NoMemory : goal.returns-in-NoMemory
returns-in-NoMemory c = tt
