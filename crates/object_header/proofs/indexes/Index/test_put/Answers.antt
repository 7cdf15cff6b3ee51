use Rattle.object_header.proofs.Names.{lt, Span, ◌≡◌, sym, ap, ◌∙◌, on_ok_weaker}
use Rattle.object_header.specs.declared.heads.Look.TheVariants as found
use Rattle.object_header.proofs.PlanLemmas.{rises-look, odd-now}
use Rattle.object_header.proofs.indexes.Index.test_put.Goals as goal

pub returns-then-is_before : goal.returns-then-is_before
returns-then-is_before c = record {
  ok = λ m is. (
    is,
    rises-look m _ _ c.args.object c.args.start c.look.result is c.look.ensures
        (λ s e. ap (λ z. lt z.start c.args.start) (shown s c.in-Shown.span (sym e ∙ c.in-Shown.is)) ∙ sym c.is_before.ensures ∙ c.if-is_before.true),
  );
}
  where
    shown : (s t : Span) → found.Shown s ≡ found.Shown t → s ≡ t
    shown s t e = cc e

pub returns-else-is_before : goal.returns-else-is_before
returns-else-is_before c = record { ok = λ m is. on_ok_weaker c.set_odd.result (λ at. odd-now m _ _ _ c.args.object c.args.start at is) c.set_odd.ensures.ok }

pub returns-in_default : goal.returns-in_default
returns-in_default c = record { ok = λ m is. (is, rises-look m _ _ c.args.object c.args.start c.look.result is c.look.ensures (λ s e. absurd (c.in_default.not-Shown s e))) }
