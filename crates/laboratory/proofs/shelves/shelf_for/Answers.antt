use Rattle.laboratory.proofs.Names.{◌≡◌, ap, arith, ◌∙◌, first_name, voting_name}
use Rattle.medium_port.specs.declared.shelves.MediumName.{MediumName}
use Rattle.laboratory.proofs.shelves.shelf_for.Goals as goal

-- they are of two volumes
apart : first_name ≡ voting_name → ⊥
apart e = let same : 0 ≡ 1010 = ap (λ (x : MediumName). x.volume) e in absurd (omega (arith, same))

pub returns : goal.returns
returns c =
    let shelf = c.new.ensures in
    let one = c.in_ok-one.ensures in
    let two = c.in_ok-both.ensures in
    record {
      first = (c.in_ok-first.first, two.now.others first_name apart ∙ one.now.there, c.in_ok-first.ensures);
      voting = (c.in_ok-voting.voting, two.now.there, c.in_ok-voting.ensures);
      others = λ name far away. two.now.others name away ∙ (one.now.others name far ∙ shelf.empty name);
      size = two.counts.pages ∙ (one.counts.pages ∙ shelf.pages);
      well = two.fails ∙ (one.fails ∙ shelf.all_well);
      unasked = two.counts.asked ∙ (one.counts.asked ∙ shelf.asked);
      faults = two.counts.faults ∙ (one.counts.faults ∙ shelf.faults.0);
    }
