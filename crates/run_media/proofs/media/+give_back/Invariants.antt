use Rattle.std.proofs.Common.{length}
use Rattle.run_media.proofs.media.+give_back.Given as goal

abbrev pub decreases-give_back : goal.decreases-give_back
decreases-give_back g l = length l.openings.items
