use Rattle.object_header.proofs.Names.{stands_written, kept_of, is_odd, content, ◌≡◌, refl, ap, ◌∙◌}
use Rattle.object_header.proofs.KeepLemmas.{some_of}
use Rattle.object_header.proofs.OddLemmas.{kept-stands}
use Rattle.object_header.proofs.ledgers.Ledger.stands_odd.Goals as goal

pub returns-in-Ok : goal.returns-in-Ok
returns-in-Ok c = record { answer = c.in-Ok.ensures.answer refl ∙ ap (λ m. stands_written m c.args.object c.args.start c.args.value.now) (some_of (λ h. h ≡ kept_of (is_odd c.args.self.now) (content c.args.self.now)) c.in_ok-whole.field-0 c.in-Some.whole c.in_ok-whole.ensures c.in-Some.is) ∙ kept-stands (is_odd c.args.self.now) c.args.object c.requires.odd (content c.args.self.now) c.args.start c.args.value.now }
