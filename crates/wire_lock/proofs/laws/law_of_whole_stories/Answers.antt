use Rattle.wire_lock.proofs.StoryLemmas.{whole-story}
use Rattle.wire_lock.proofs.laws.law_of_whole_stories.Goals as goal

pub returns : goal.returns
returns c = whole-story
