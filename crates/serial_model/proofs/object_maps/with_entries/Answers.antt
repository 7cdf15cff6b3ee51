use Rattle.serial_model.proofs.Names.{rules, ◌≡◌, ◌∷◌, [], ◌++◌, sym, ap, ◌∙◌, onto}
use Rattle.serial_model.proofs.MapLemmas.{onto-more}
use Rattle.serial_model.proofs.object_maps.with_entries.Goals as goal

pub entries-preserved : goal.entries-preserved
entries-preserved c =
    let last : c.entries.left.items ≡ c.pop.new.self.items ++ (c.in-Some.object, c.in-Some.value) ∷ [] = search rules in
    onto-more c.entries.map c.set.new.self c.entries.left.items c.pop.new.self.items c.in-Some.object c.in-Some.value _ last c.in_ok-set.ensures.ok c.entries.invariant

pub returns : goal.returns
returns c =
    let none : c.entries.left.items ≡ [] = search rules in
    ap (onto c.entries.map) (sym none) ∙ c.entries.invariant
