use Rattle.version_store.proofs.FillingLemmas.{filling-apart, filling-most, filling-one}
use Rattle.version_store.proofs.laws.effects_fill_few_pages.Goals as goal

pub returns-clause-apart : goal.returns-clause-apart
returns-clause-apart c = filling-apart

pub returns-clause-most : goal.returns-clause-most
returns-clause-most c = filling-most

pub returns-clause-one : goal.returns-clause-one
returns-clause-one c = filling-one
