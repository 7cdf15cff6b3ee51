use Rattle.log_replay.proofs.PutLemmas.{put-into}
use Rattle.log_replay.proofs.puts.put_into.Goals as goal

pub returns : goal.returns
returns c =
    put-into c.args.puts.now.items c.insert.new.self.items c.as_slice.result.now c.args.put c.place_of-place.result c.in_ok-insert.ensures.items c.as_slice.ensures.value
    (c.place_of-place.ensures.place c.args.put.object c.args.put.value)
