use Rattle.std.proofs.Common.{◌∙◌, ◌+◌, drop, refl}
use Rattle.archive_store.proofs.JoinLemmas.{drop-item, drop-end}
use Rattle.watch_cases.proofs.AmongLemmas.{among-on, among-none}
use Rattle.watch_cases.proofs.watches.is_among.Goals as goal

pub loop-moved-preserved : goal.loop-moved-preserved
loop-moved-preserved g c =
    let i = c.loop-moved.moved-index in
    let list = c.args.list.now in
    c.loop-moved.invariant ∙ among-on c.args.name c.moved-item.result (drop (i + 1) list) (drop i list) c.eq.result (drop-item list i (i + 1) c.moved-item.result refl c.loop-moved-test.true c.moved-item.is) c.eq.ensures c.if-eq.false

pub returns : goal.returns
returns g c = λ _. c.loop-moved.invariant ∙ among-none c.args.name (drop c.loop-moved.moved-index c.args.list.now) (drop-end c.args.list.now c.loop-moved.moved-index c.loop-moved-test.false)
