use Rattle.page_text.proofs.TagLemmas.{text-stays}
use Rattle.page_text.proofs.laws.text_has_no_tags.Goals as goal

pub returns : goal.returns
returns c = text-stays
