use Rattle.node_rounds.proofs.Names.{All, AllZip, HasMet, IsReady, knows}
use Rattle.node_rounds.proofs.PauseLemmas.{kept-paused, made-through, met-twice, passes-turned, ready-met, went-paused}
use Rattle.node_rounds.proofs.pauses.pass_time.Given as given
use Rattle.node_rounds.proofs.pauses.pass_time.Goals as goal

pub share_often-requires : goal.share_often-requires
share_often-requires g c =
    let lock = c.args.wire.now.lock in
    let met = c.meet_share.new.nodes.items in
    record {
      ready = ready-met lock g.M.Medium met c.meet_share-2.new.nodes.items (ready-met lock g.M.Medium c.args.nodes.now.items met c.requires.ready.0 c.meet_share.ensures.met c.meet_share.ensures.pass.0) c.meet_share-2.ensures.met c.meet_share-2.ensures.pass.0;
    }

pub meet_share-requires-3 : goal.meet_share-requires-3
meet_share-requires-3 g c =
    let lock = c.args.wire.now.lock in
    let met = c.meet_share.new.nodes.items in
    let again = c.meet_share-2.new.nodes.items in
    let still = ready-met lock g.M.Medium met again (ready-met lock g.M.Medium c.args.nodes.now.items met c.requires.ready.0 c.meet_share.ensures.met c.meet_share.ensures.pass.0) c.meet_share-2.ensures.met c.meet_share-2.ensures.pass.0 in
    record { pass = (passes-turned lock g.M.Medium again c.share_often.new.nodes.items still c.share_often.ensures.does, c.meet_share-2.ensures.pass.1) }

pub returns-clause-went : goal.returns-clause-went
returns-clause-went g c =
    let lock = c.args.wire.now.lock in
    let old = c.args.nodes.now.items in
    let met = c.meet_share.new.nodes.items in
    let again = c.meet_share-2.new.nodes.items in
    let still = ready-met lock g.M.Medium met again (ready-met lock g.M.Medium old met c.requires.ready.0 c.meet_share.ensures.met c.meet_share.ensures.pass.0) c.meet_share-2.ensures.met c.meet_share-2.ensures.pass.0 in
    went-paused lock g.M.Medium old again c.share_often.new.nodes.items c.meet_share-3.new.nodes.items c.requires.ready.0
    (met-twice lock g.M.Medium old met again c.requires.ready.0 c.meet_share.ensures.met c.meet_share-2.ensures.met) still c.share_often.ensures.does c.meet_share-3.ensures.met

pub returns-clause-kept : goal.returns-clause-kept
returns-clause-kept g c =
    let lock = c.args.wire.now.lock in
    let old = c.args.nodes.now.items in
    let met = c.meet_share.new.nodes.items in
    let again = c.meet_share-2.new.nodes.items in
    let still = ready-met lock g.M.Medium met again (ready-met lock g.M.Medium old met c.requires.ready.0 c.meet_share.ensures.met c.meet_share.ensures.pass.0) c.meet_share-2.ensures.met c.meet_share-2.ensures.pass.0 in
    kept-paused lock g.M.Medium old again c.share_often.new.nodes.items c.meet_share-3.new.nodes.items c.requires.ready.0
    (met-twice lock g.M.Medium old met again c.requires.ready.0 c.meet_share.ensures.met c.meet_share-2.ensures.met) still c.share_often.ensures.does c.meet_share-3.ensures.met

pub returns-clause-made : goal.returns-clause-made
returns-clause-made g c =
    made-through c.tick-pass.result.1 (knows c.args.pass) (knows c.meet_share.new.pass) (knows c.tick-pass.result.0) (knows c.meet_share-2.new.pass) (knows c.meet_share-3.new.pass)
    c.meet_share.ensures.looked c.tick-pass.ensures.made c.meet_share-2.ensures.looked c.meet_share-3.ensures.looked
