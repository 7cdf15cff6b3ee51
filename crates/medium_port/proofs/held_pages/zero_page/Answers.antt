use Rattle.medium_port.proofs.Blanks.{zero_get}
use Rattle.medium_port.proofs.held_pages.zero_page.Goals as goal

pub returns-clause-zero : goal.returns-clause-zero
returns-clause-zero c k = zero_get 4096 k
