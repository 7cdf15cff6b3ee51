use Rattle.object_header.proofs.Names.{odd_in, kept_of, marks, reverse, sym, ap, ◌∙◌}
use Rattle.object_header.proofs.LedgerLemmas.{late-whole}
use Rattle.object_header.proofs.ledgers.Ledger.with_whole.Goals as goal

pub invariant_of-result : goal.invariant_of-result
invariant_of-result c =
    let i = c.self.inside in
    record {
      ledger = late-whole _ i.late.items i.index.settles i.index.heads i.whole (reverse i.kept.items) (reverse c.in_ok-kept.kept.items) c.self.invariant.ledger
          (c.in_ok-kept.ensures.kept ∙ ap (λ l. kept_of (odd_in i.index.heads) (marks (reverse l))) (sym (ap (λ l. l.log) c.self.view_is ∙ c.requires.log))) c.in_ok-kept.ensures.range;
      floors = c.self.invariant.floors;
    }
