use Rattle.std.proofs.Common.{arith, refl, sym, subst, ap, ◌∙◌, ◌↔◌, ◌++◌, [], IsTrue}
use Rattle.std.specs.Io.KnownBytes.{prepend_known}
use Rattle.session_form.specs.Sessions.{IsGo}
use Rattle.session_command.specs.Ahead.{ahead}
use Rattle.session_command.specs.Kept.{IsIdle, IsKept}
use Rattle.session_command.proofs.InputLemmas.{batch-read, input-ended, so-far-more, so-far-none}
use Rattle.session_command.proofs.inputs.SessionInput.read_batch.Goals as goal

pub loop-init : goal.loop-init
loop-init g c = record {
  so = (
    [],
    so-far-none (prepend_known (ahead c.args.self.now.reader) (g.I.Source.left c.args.source.now)) c.args.self.now.head.items c.extend_from_slice.new.self.items c.args.self.now.lines (omega arith)
        (c.in_ok-extend_from_slice.ensures.items ∙ (ap (λ l. l ++ c.as_slice.result.now) c.new-text.ensures.items ∙ c.as_slice.ensures.value)),
  );
  head = refl;
  later = omega arith;
}

pub returns-then-not-line-clause-next : goal.returns-then-not-line-clause-next
returns-then-not-line-clause-next g c =
    let old = prepend_known (ahead c.args.self.now.reader) (g.I.Source.left c.args.source.now) in
    let mid = prepend_known (ahead c.loop.self.reader) (g.I.Source.left c.loop.source) in
    let now = prepend_known (ahead c.read_line.new.self) (g.I.Source.left c.read_line.new.source) in
    let kept = c.in_ok-line.line.bytes.items in
    let read = c.in_ok-line.ensures.line in
    input-ended old mid now c.args.self.now.head.items c.loop.text.items c.args.self.now.lines c.loop.self.lines c.loop.is_idle_yet c.loop.invariant.so.0 c.loop.invariant.so.1 kept read.0 c.in_ok-line.line.is_ended c.is_idle.result read.1
    (subst (λ l. IsTrue c.is_idle.result ↔ IsIdle l) c.as_slice-in-loop.ensures.value c.is_idle.ensures) c.if-not-line.true (c.in_ok-line.ensures.ended c.if-not-line.true)
    c.are_both-is_idle_now.result c.as_slice-then-not-line.result.now c.end_in.result c.as_slice-then-not-line.ensures.value c.are_both-is_idle_now.ensures c.end_in.ensures

pub returns-then-is_go-clause-next : goal.returns-then-is_go-clause-next
returns-then-is_go-clause-next g c =
    let old = prepend_known (ahead c.args.self.now.reader) (g.I.Source.left c.args.source.now) in
    let mid = prepend_known (ahead c.loop.self.reader) (g.I.Source.left c.loop.source) in
    let now = prepend_known (ahead c.read_line.new.self) (g.I.Source.left c.read_line.new.source) in
    let kept = c.in_ok-line.line.bytes.items in
    let read = c.in_ok-line.ensures.line in
    batch-read old mid now c.args.self.now.head.items c.loop.text.items c.args.self.now.lines c.loop.self.lines c.loop.is_idle_yet c.loop.invariant.so.0 c.loop.invariant.so.1 kept read.0 c.in_ok-line.line.is_ended c.is_idle.result read.1
    (subst (λ l. IsTrue c.is_idle.result ↔ IsIdle l) c.as_slice-in-loop.ensures.value c.is_idle.ensures) c.if-not-line.false
    c.loop.text c.saturating_add-self.result (subst IsGo c.as_slice-in-loop-2.ensures.value (c.is_go.ensures.0 c.if-is_go.true)) refl c.saturating_add-self.ensures

pub loop-preserved : goal.loop-preserved
loop-preserved g c =
    let old = prepend_known (ahead c.args.self.now.reader) (g.I.Source.left c.args.source.now) in
    let mid = prepend_known (ahead c.loop.self.reader) (g.I.Source.left c.loop.source) in
    let now = prepend_known (ahead c.read_line.new.self) (g.I.Source.left c.read_line.new.source) in
    let kept = c.in_ok-line.line.bytes.items in
    let read = c.in_ok-line.ensures.line in
    let f = c.if-is_go.false in
    record {
      so = (
        _,
        so-far-more old mid now c.args.self.now.head.items c.loop.text.items c.args.self.now.lines c.loop.self.lines c.loop.is_idle_yet c.loop.invariant.so.0 c.loop.invariant.so.1 kept read.0 c.in_ok-line.line.is_ended c.is_idle.result read.1
            (subst (λ l. IsTrue c.is_idle.result ↔ IsIdle l) c.as_slice-in-loop.ensures.value c.is_idle.ensures) c.if-not-line.false
            c.keep_line.new.text.items c.saturating_add-self.result c.are_both-is_idle_now.result
            (λ k. let t = c.is_go.ensures.1 (subst IsGo (sym c.as_slice-in-loop-2.ensures.value) k) in absurd (cc (t, f)))
            (λ whole all w a. c.in_ok-keep_line.ensures whole all w (subst (λ l. IsKept l all) (sym c.as_slice-in-loop-3.ensures.value) a))
            c.saturating_add-self.ensures c.are_both-is_idle_now.ensures,
      );
      head = c.loop.invariant.head;
      later = omega (arith, c.loop.invariant.later, c.read_line.ensures.later);
    }
