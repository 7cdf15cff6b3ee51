use Rattle.run_rounds.proofs.Names.{◌∙◌, IsUp, IsReady, GoesOn, IsKeptThrough, List, NodeParts, Vec, Global, All, AllZip, AllZip-long, sym, ap, subst, length, knows}
use Rattle.run_starts.specs.Nodes.{HasMet}
use Rattle.run_starts.specs.Settled.{AllStand, Decided, HaveSettled}
use Rattle.run_starts.proofs.PairLemmas.{zip-same}
use Rattle.run_starts.proofs.RoundLemmas.{goes-same, kept-same, looked-joins, looked-same}
use Rattle.run_rounds.specs.Settled.{SettledEnds}
use Rattle.run_rounds.proofs.SettledLemmas.{Listed, Went, are-settled, done-all, ends-done, ready-met, stand-all, went-all, went-goes, went-kept, zip-weaker}
use Rattle.run_rounds.proofs.settled.settle_nodes.Given as given
use Rattle.run_rounds.proofs.settled.settle_nodes.Goals as goal

pub lists_for-requires : goal.lists_for-requires
lists_for-requires g c = record { up = subst (All IsUp) (sym c.as_slice.ensures.value) (λ k d lt. (c.requires.ready.0 k d lt).up) }

pub returns-in_default-clause-passes : goal.returns-in_default-clause-passes
returns-in_default-clause-passes g c = ((λ k d lt. (c.requires.ready.0 k d lt).pass), c.requires.ready.1)

pub returns-in_default-clause-went : goal.returns-in_default-clause-went
returns-in_default-clause-went g c =
    zip-same (IsReady c.args.wire.now.lock) (GoesOn g.M.Medium.tells g.M.Medium.faults g.M.Medium.reads) (λ n r. goes-same g.M.Medium.tells g.M.Medium.faults g.M.Medium.reads n) c.args.nodes.now.items c.requires.ready.0

pub returns-in_default-clause-kept : goal.returns-in_default-clause-kept
returns-in_default-clause-kept g c =
    zip-same (IsReady c.args.wire.now.lock) (IsKeptThrough g.M.Medium.tells g.M.Medium.stages) (λ n r. kept-same g.M.Medium.tells g.M.Medium.stages n) c.args.nodes.now.items c.requires.ready.0

pub returns-in_default-clause-looked : goal.returns-in_default-clause-looked
returns-in_default-clause-looked g c = looked-same (knows c.args.pass.now) c.requires.ready.1.own

pub settle_all-requires-clause-ready : goal.settle_all-requires-clause-ready
settle_all-requires-clause-ready g c =
    ready-met g.M.Medium c.args.wire.now.lock c.args.nodes.now.items c.args.nodes.now.items c.meet_share.new.nodes.items c.requires.ready.0 c.meet_share.ensures.met c.meet_share.ensures.pass.0

pub settle_all-requires-clause-count : goal.settle_all-requires-clause-count
settle_all-requires-clause-count g c =
    let nodes = c.args.nodes.now.items in
    let L = subst (λ (ns : List (NodeParts _)). AllZip (Listed g.M.Medium c.args.wire.now.lock ns) ns c.in-Ok.lists.items) c.as_slice.ensures.value c.in-Ok.ensures.lists in
    ap length c.as_slice-2.ensures.value ∙ (AllZip-long (Listed g.M.Medium c.args.wire.now.lock nodes) nodes c.in-Ok.lists.items L ∙ sym (AllZip-long HasMet nodes c.meet_share.new.nodes.items c.meet_share.ensures.met))

pub settle_all-requires-clause-stand : goal.settle_all-requires-clause-stand
settle_all-requires-clause-stand g c = λ told.
    let nodes = c.args.nodes.now.items in
    let L = subst (λ (ns : List (NodeParts _)). AllZip (Listed g.M.Medium c.args.wire.now.lock ns) ns c.in-Ok.lists.items) c.as_slice.ensures.value c.in-Ok.ensures.lists in
    subst (λ (l : List (Vec Decided Global)). AllZip AllStand c.meet_share.new.nodes.items l) (sym c.as_slice-2.ensures.value)
    (stand-all g.M.Medium c.args.wire.now.lock nodes told (knows c.args.pass.now).story c.requires.all c.requires.ready.0 nodes c.in-Ok.lists.items c.meet_share.new.nodes.items L c.meet_share.ensures.met c.meet_share.ensures.seen c.meet_share.ensures.pass.0)

-- what became of the nodes
abbrev gone : (g : given.Over) (c : goal.After-drop-lists g) → AllZip (Went g.M.Medium c.args.wire.now.lock c.args.nodes.now.items) c.args.nodes.now.items c.meet_share-2.new.nodes.items
gone g c =
    let nodes = c.args.nodes.now.items in
    let L = subst (λ (ns : List (NodeParts _)). AllZip (Listed g.M.Medium c.args.wire.now.lock ns) ns c.in-Ok.lists.items) c.as_slice.ensures.value c.in-Ok.ensures.lists in
    went-all g.M.Medium c.args.wire.now.lock nodes nodes c.in-Ok.lists.items c.meet_share.new.nodes.items c.settle_all.new.nodes.items c.meet_share-2.new.nodes.items c.requires.ready.0 L c.meet_share.ensures.met c.meet_share.ensures.pass.0
    (subst (λ (l : List (Vec Decided Global)). HaveSettled g.M.Medium c.meet_share.new.nodes.items l c.settle_all.new.nodes.items) c.as_slice-2.ensures.value c.settle_all.ensures.settled) c.settle_all.ensures.passes c.meet_share-2.ensures.met

pub returns-clause-went : goal.returns-clause-went
returns-clause-went g c =
    zip-weaker (Went g.M.Medium c.args.wire.now.lock c.args.nodes.now.items) (GoesOn g.M.Medium.tells g.M.Medium.faults g.M.Medium.reads) (went-goes g.M.Medium c.args.wire.now.lock c.args.nodes.now.items) c.args.nodes.now.items c.meet_share-2.new.nodes.items (gone g c)

pub returns-clause-kept : goal.returns-clause-kept
returns-clause-kept g c =
    zip-weaker (Went g.M.Medium c.args.wire.now.lock c.args.nodes.now.items) (IsKeptThrough g.M.Medium.tells g.M.Medium.stages) (went-kept g.M.Medium c.args.wire.now.lock c.args.nodes.now.items) c.args.nodes.now.items c.meet_share-2.new.nodes.items (gone g c)

pub returns-clause-looked : goal.returns-clause-looked
returns-clause-looked g c = looked-joins (knows c.args.pass.now) (knows c.meet_share.new.pass) (knows c.meet_share-2.new.pass) c.requires.ready.1.own c.meet_share.ensures.looked c.meet_share-2.ensures.looked

pub returns-clause-done : goal.returns-clause-done
returns-clause-done g c = λ told is done.
    let ends = subst (SettledEnds c.reason_of.result) c.as_slice-3.ensures.value c.reason_of.ensures in
    done-all g.M.Medium c.args.wire.now.lock c.args.nodes.now.items told c.args.nodes.now.items c.meet_share-2.new.nodes.items (gone g c) (ends-done c.reason_of.result c.meet_share-2.new.nodes.items ends is) done

pub returns-clause-settled : goal.returns-clause-settled
returns-clause-settled g c = λ told is.
    let ends = subst (SettledEnds c.reason_of.result) c.as_slice-3.ensures.value c.reason_of.ensures in
    are-settled g.M.Medium c.args.wire.now.lock c.args.nodes.now.items c.meet_share-2.new.nodes.items (gone g c) told (ends-done c.reason_of.result c.meet_share-2.new.nodes.items ends is)
