use Rattle.laboratory.proofs.runs.lab.Given as goal

abbrev pub ghosts-run : goal.ghosts-run
ghosts-run g a = record { divisor = a.lab.now.lose }
