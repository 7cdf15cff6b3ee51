use Rattle.archive_command.proofs.VersionLemmas.{put-at}
use Rattle.archive_command.proofs.versions.put_version.Goals as goal

pub returns : goal.returns
returns c = put-at c.args.version c.args.versions.now.items c.as_slice.result.now c.insert.new.self.items c.place_behind-place.result c.as_slice.ensures.value c.place_behind-place.ensures.place c.in_ok-insert.ensures.items
