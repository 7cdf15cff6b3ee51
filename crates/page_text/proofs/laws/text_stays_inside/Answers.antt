use Rattle.page_text.specs.Escapes.{page_text}
use Rattle.page_text.proofs.EscapeLemmas.{text-inside, text-references, text-back, one-text}
use Rattle.page_text.proofs.laws.text_stays_inside.Goals as goal

pub returns-clause-inside : goal.returns-clause-inside
returns-clause-inside c = text-inside

pub returns-clause-references : goal.returns-clause-references
returns-clause-references c = text-references

pub returns-clause-back : goal.returns-clause-back
returns-clause-back c = text-back

pub returns-clause-one : goal.returns-clause-one
returns-clause-one c = one-text page_text text-back
