use Rattle.medium_port.proofs.Names.{refl, first_disk, events_in}
use Rattle.medium_port.proofs.Disks.{goes_still}
use Rattle.medium_port.proofs.memory_media.MemoryMediumMedium.sync.Goals as goal

pub returns-in-Some-clause-time : goal.returns-in-Some-clause-time
returns-in-Some-clause-time c told =
    let p = c.args.self.now.past in
    goes_still p.count (first_disk p) (events_in p) _ refl
