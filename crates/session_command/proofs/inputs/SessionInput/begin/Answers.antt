use Rattle.std.proofs.Common.{Err, Ok, sym, subst}
use Rattle.std.specs.Io.KnownBytes.{prepend_known}
use Rattle.session_form.specs.Sessions.{IsTitle}
use Rattle.session_command.specs.Ahead.{ahead}
use Rattle.session_command.specs.Kept.{IsKept}
use Rattle.session_command.specs.Inputs.{IsJudged}
use Rattle.session_command.proofs.HeadLemmas.{brokers-fault, head-read, judged-fault, repositories-fault, title-fault}
use Rattle.session_command.proofs.InputLemmas.{prepend-nothing}
use Rattle.session_command.proofs.inputs.SessionInput.begin.Goals as goal
use Rattle.session_command.proofs.inputs.SessionInput.begin.Goals.{then-not-title-via-then-not-title, then-not-title-via-else-not-title+then-not-is_title}

pub returns-then-not-title-clause-head : goal.returns-then-not-title-clause-head
returns-then-not-title-clause-head g c =
    let input = g.I.Source.left c.args.source.now in
    let first = ahead c.new-reader.result in
    let mid = prepend_known (ahead c.read_line.new.self) (g.I.Source.left c.read_line.new.source) in
    let read = c.in_ok-title.ensures.line in
    let t = c.in_ok-title.title in
    title-fault input (prepend_known first input) (prepend-nothing input first c.new-reader.ensures) mid t.bytes.items read.0 t.is_ended read.1 (g.I.Source.left c.read_line.new.source) c.fault.result c.fault.ensures
    (elim c.then-not-title.branch [
      | then-not-title-via-then-not-title w ↦ λ e k. let f = w.if-not-title.true in absurd (cc (e, f))
      | then-not-title-via-else-not-title+then-not-is_title w ↦ λ e k. let f = w.if-not-is_title.true in let j = w.is_title.ensures.1 (subst IsTitle (sym w.as_slice.ensures.value) k) in absurd (cc (j, f))
    ])

pub returns-then-not-repositories-clause-head : goal.returns-then-not-repositories-clause-head
returns-then-not-repositories-clause-head g c =
    let input = g.I.Source.left c.args.source.now in
    let first = ahead c.new-reader.result in
    let mid = prepend_known (ahead c.read_line.new.self) (g.I.Source.left c.read_line.new.source) in
    let mid2 = prepend_known (ahead c.read_line-2.new.self) (g.I.Source.left c.read_line-2.new.source) in
    let read = c.in_ok-title.ensures.line in
    let read2 = c.in_ok-repositories.ensures.line in
    let t = c.in_ok-title.title in
    let r = c.in_ok-repositories.repositories in
    repositories-fault input (prepend_known first input) (prepend-nothing input first c.new-reader.ensures) mid t.bytes.items read.0 t.is_ended read.1 c.if-not-title.false
    (subst IsTitle c.as_slice.ensures.value (c.is_title.ensures.0 c.if-not-is_title.false)) mid2 r.bytes.items read2.0 r.is_ended read2.1
    (g.I.Source.left c.read_line-2.new.source) c.fault-then-not-repositories.result c.fault-then-not-repositories.ensures c.if-not-repositories.true

pub returns-then-not-brokers-clause-head : goal.returns-then-not-brokers-clause-head
returns-then-not-brokers-clause-head g c =
    let input = g.I.Source.left c.args.source.now in
    let first = ahead c.new-reader.result in
    let mid = prepend_known (ahead c.read_line.new.self) (g.I.Source.left c.read_line.new.source) in
    let mid2 = prepend_known (ahead c.read_line-2.new.self) (g.I.Source.left c.read_line-2.new.source) in
    let now = prepend_known (ahead c.read_line-3.new.self) (g.I.Source.left c.read_line-3.new.source) in
    let read = c.in_ok-title.ensures.line in
    let read2 = c.in_ok-repositories.ensures.line in
    let read3 = c.in_ok-brokers.ensures.line in
    let t = c.in_ok-title.title in
    let r = c.in_ok-repositories.repositories in
    let b = c.in_ok-brokers.brokers in
    brokers-fault input (prepend_known first input) (prepend-nothing input first c.new-reader.ensures) mid t.bytes.items read.0 t.is_ended read.1 c.if-not-title.false
    (subst IsTitle c.as_slice.ensures.value (c.is_title.ensures.0 c.if-not-is_title.false)) mid2 r.bytes.items read2.0 r.is_ended read2.1 c.if-not-repositories.false
    now b.bytes.items read3.0 b.is_ended read3.1 (g.I.Source.left c.read_line-3.new.source) c.fault-then-not-brokers.result c.fault-then-not-brokers.ensures c.if-not-brokers.true

pub returns-in-Err-clause-head : goal.returns-in-Err-clause-head
returns-in-Err-clause-head g c =
    let input = g.I.Source.left c.args.source.now in
    let first = ahead c.new-reader.result in
    let mid = prepend_known (ahead c.read_line.new.self) (g.I.Source.left c.read_line.new.source) in
    let mid2 = prepend_known (ahead c.read_line-2.new.self) (g.I.Source.left c.read_line-2.new.source) in
    let now = prepend_known (ahead c.read_line-3.new.self) (g.I.Source.left c.read_line-3.new.source) in
    let read = c.in_ok-title.ensures.line in
    let read2 = c.in_ok-repositories.ensures.line in
    let read3 = c.in_ok-brokers.ensures.line in
    let t = c.in_ok-title.title in
    let r = c.in_ok-repositories.repositories in
    let b = c.in_ok-brokers.brokers in
    let kept = c.in_ok-head.ensures read2.0 read3.0 (subst (λ l. IsKept l read2.0) (sym c.as_slice-2.ensures.value) read2.1.kept_is) (subst (λ l. IsKept l read3.0) (sym c.as_slice-3.ensures.value) read3.1.kept_is) in
    judged-fault input (prepend_known first input) (prepend-nothing input first c.new-reader.ensures) mid t.bytes.items read.0 t.is_ended read.1 c.if-not-title.false
    (subst IsTitle c.as_slice.ensures.value (c.is_title.ensures.0 c.if-not-is_title.false)) mid2 r.bytes.items read2.0 r.is_ended read2.1 c.if-not-repositories.false
    now b.bytes.items read3.0 b.is_ended read3.1 c.if-not-brokers.false c.in_ok-head.head.items kept (g.I.Source.left c.read_line-3.new.source) c.in-Err.stop
    (subst (λ l. IsJudged l (Err c.in-Err.stop)) c.as_slice-4.ensures.value c.in-Err.ensures)

pub returns-in-Ok-clause-head : goal.returns-in-Ok-clause-head
returns-in-Ok-clause-head g c =
    let input = g.I.Source.left c.args.source.now in
    let first = ahead c.new-reader.result in
    let mid = prepend_known (ahead c.read_line.new.self) (g.I.Source.left c.read_line.new.source) in
    let mid2 = prepend_known (ahead c.read_line-2.new.self) (g.I.Source.left c.read_line-2.new.source) in
    let now = prepend_known (ahead c.read_line-3.new.self) (g.I.Source.left c.read_line-3.new.source) in
    let read = c.in_ok-title.ensures.line in
    let read2 = c.in_ok-repositories.ensures.line in
    let read3 = c.in_ok-brokers.ensures.line in
    let t = c.in_ok-title.title in
    let r = c.in_ok-repositories.repositories in
    let b = c.in_ok-brokers.brokers in
    let kept = c.in_ok-head.ensures read2.0 read3.0 (subst (λ l. IsKept l read2.0) (sym c.as_slice-2.ensures.value) read2.1.kept_is) (subst (λ l. IsKept l read3.0) (sym c.as_slice-3.ensures.value) read3.1.kept_is) in
    let judged = subst (λ l. IsJudged l (Ok c.in-Ok.field-0)) c.as_slice-4.ensures.value c.in-Ok.ensures in
    head-read input (prepend_known first input) (prepend-nothing input first c.new-reader.ensures) mid t.bytes.items read.0 t.is_ended read.1 c.if-not-title.false
    (subst IsTitle c.as_slice.ensures.value (c.is_title.ensures.0 c.if-not-is_title.false)) mid2 r.bytes.items read2.0 r.is_ended read2.1 c.if-not-repositories.false
    now b.bytes.items read3.0 b.is_ended read3.1 c.if-not-brokers.false c.in_ok-head.head.items kept judged.0 judged.1
