use Rattle.laboratory.proofs.Names.{◌∙◌, ap, sym, arith, codes, Some, found_of, first_value-rows}
use Rattle.laboratory.proofs.options.lab_of.Goals as goal

pub returns : goal.returns
returns c =
    let f = found_of c.args.matches.now in
    record {
      pages = c.number.ensures 1 1048576 (omega arith) c.requires.given.pages;
      lose = c.number-2.ensures 0 1000000 (omega arith) c.requires.given.lose;
      stop = c.number-3.ensures 0 1048575 (omega arith) c.requires.given.stop;
      words = sym (first_value-rows f (codes "words")) ∙ (sym c.in-Some.ensures ∙ ap Some (sym c.in_ok-from_str.ensures.ok));
    }
