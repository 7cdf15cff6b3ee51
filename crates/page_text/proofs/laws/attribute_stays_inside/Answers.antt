use Rattle.page_text.specs.Escapes.{attribute_text}
use Rattle.page_text.proofs.EscapeLemmas.{attribute-inside, attribute-references, attribute-back, one-text}
use Rattle.page_text.proofs.laws.attribute_stays_inside.Goals as goal

pub returns-clause-inside : goal.returns-clause-inside
returns-clause-inside c = attribute-inside

pub returns-clause-references : goal.returns-clause-references
returns-clause-references c = attribute-references

pub returns-clause-back : goal.returns-clause-back
returns-clause-back c = attribute-back

pub returns-clause-one : goal.returns-clause-one
returns-clause-one c = one-text attribute_text attribute-back
