use Rattle.node_rounds.proofs.Names.{All, AllZip, HasMet, IsReady, knows}
use Rattle.node_rounds.proofs.PauseLemmas.{kept-paused, passes-turned, ready-met, went-paused}
use Rattle.node_rounds.proofs.RoundLemmas.{looked-joins}
use Rattle.node_rounds.proofs.pauses.turn_again.Given as given
use Rattle.node_rounds.proofs.pauses.turn_again.Goals as goal

pub share_often-requires : goal.share_often-requires
share_often-requires g c = record { ready = ready-met c.args.wire.now.lock g.M.Medium c.args.nodes.now.items c.meet_share.new.nodes.items c.requires.ready.0 c.meet_share.ensures.met c.meet_share.ensures.pass.0 }

pub meet_share-requires-2 : goal.meet_share-requires-2
meet_share-requires-2 g c =
    let lock = c.args.wire.now.lock in
    let met = c.meet_share.new.nodes.items in
    let still = ready-met lock g.M.Medium c.args.nodes.now.items met c.requires.ready.0 c.meet_share.ensures.met c.meet_share.ensures.pass.0 in
    record { pass = (passes-turned lock g.M.Medium met c.share_often.new.nodes.items still c.share_often.ensures.does, c.meet_share.ensures.pass.1) }

pub returns-clause-went : goal.returns-clause-went
returns-clause-went g c =
    let lock = c.args.wire.now.lock in
    let old = c.args.nodes.now.items in
    let met = c.meet_share.new.nodes.items in
    let still = ready-met lock g.M.Medium old met c.requires.ready.0 c.meet_share.ensures.met c.meet_share.ensures.pass.0 in
    went-paused lock g.M.Medium old met c.share_often.new.nodes.items c.meet_share-2.new.nodes.items c.requires.ready.0 c.meet_share.ensures.met still c.share_often.ensures.does c.meet_share-2.ensures.met

pub returns-clause-kept : goal.returns-clause-kept
returns-clause-kept g c =
    let lock = c.args.wire.now.lock in
    let old = c.args.nodes.now.items in
    let met = c.meet_share.new.nodes.items in
    let still = ready-met lock g.M.Medium old met c.requires.ready.0 c.meet_share.ensures.met c.meet_share.ensures.pass.0 in
    kept-paused lock g.M.Medium old met c.share_often.new.nodes.items c.meet_share-2.new.nodes.items c.requires.ready.0 c.meet_share.ensures.met still c.share_often.ensures.does c.meet_share-2.ensures.met

pub returns-clause-looked : goal.returns-clause-looked
returns-clause-looked g c = looked-joins (knows c.args.pass.now) (knows c.meet_share.new.pass) (knows c.meet_share-2.new.pass) c.requires.ready.1.own c.meet_share.ensures.looked c.meet_share-2.ensures.looked
