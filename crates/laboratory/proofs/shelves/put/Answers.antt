use Rattle.laboratory.proofs.shelves.put.Goals as goal

pub returns-in-Ok : goal.returns-in-Ok
returns-in-Ok c = let put = c.in-Ok.ensures in record { now = put.now; fails = put.fails; counts = put.counts }
