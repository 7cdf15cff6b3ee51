use Rattle.session_form.proofs.HeightLemmas.{covers, least, rises}
use Rattle.session_form.proofs.laws.law_of_heights.Goals as goal

pub returns-clause-covers : goal.returns-clause-covers
returns-clause-covers c = covers

pub returns-clause-rises : goal.returns-clause-rises
returns-clause-rises c = rises

pub returns-clause-least : goal.returns-clause-least
returns-clause-least c = least
