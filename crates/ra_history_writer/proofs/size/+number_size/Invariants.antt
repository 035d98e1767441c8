use Rattle.ra_history_writer.proofs.size.+number_size.Given as goal

abbrev pub decreases-number_size : goal.decreases-number_size
decreases-number_size l = l.number
