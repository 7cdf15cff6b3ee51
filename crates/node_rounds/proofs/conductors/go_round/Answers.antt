use denote.Exit.{no}
use denote.Param.{param}
use denote.Param.Send.{param_send, param_sync, arg_send, arg_sync}
use Rattle.node_rounds.proofs.Names.{sym, subst, knows, SomeNode, Follows, SawMore, HasTicked, IsLate}
use Rattle.node_rounds.specs.declared.reasons.Next.TheVariants as next
use Rattle.broker_node.proofs.Crosses.{shared_sync}
use Rattle.node_rounds.proofs.Crosses.{run_send}
use Rattle.node_rounds.proofs.TickLemmas.{follows-looked, follows-met, follows-begins, follows-none, more-met}
use Rattle.node_rounds.proofs.WantedLemmas.{round-wanted, still-wanted}
use Rattle.node_rounds.proofs.WentLemmas.{all-more, passes-after, same-names, went-round, went-met, kept-round, kept-again}
use Rattle.node_rounds.proofs.conductors.go_round.Goals as goal

pub round-requires-send-S : goal.round-requires-send-S
round-requires-send-S g c κs within = param_send 1 _ (arg_send _ no _ (run_send (param 0 g.row.F) (param 1 g.row.C) (param 2 g.row.M) g.F.Fates g.C.Clock g.M.Medium c.type_bounds.send-F c.type_bounds.send-C c.type_bounds.send-M))

pub round-requires-sync-L : goal.round-requires-sync-L
round-requires-sync-L g c κs within = param_sync 0 _ (arg_sync _ no _ (shared_sync (param 0 g.row.F) (param 1 g.row.C) (param 2 g.row.M) g.F.Fates g.C.Clock g.M.Medium c.type_bounds.send-F c.type_bounds.send-C))

pub meet_all-requires : goal.meet_all-requires
meet_all-requires g c = record {
  pass = (passes-after c.args.wire.now.lock g.M.Medium c.args.shares.items c.round.new.shares.items c.requires.ready c.round.ensures.does, c.requires.pass);
}

pub returns-in-Ticked-clause-went : goal.returns-in-Ticked-clause-went
returns-in-Ticked-clause-went g c =
    let lock = c.args.wire.now.lock in
    went-met lock g.M.Medium c.args.shares.items c.meet_all.new.shares.items c.meet_all-in-Ticked.new.shares.items
    (went-round lock g.M.Medium c.args.shares.items c.round.new.shares.items c.meet_all.new.shares.items c.round.ensures.does c.meet_all.ensures.met) c.meet_all-in-Ticked.ensures.met

pub returns-in-Ticked-clause-kept : goal.returns-in-Ticked-clause-kept
returns-in-Ticked-clause-kept g c =
    let lock = c.args.wire.now.lock in
    kept-again lock g.M.Medium c.args.shares.items c.meet_all.new.shares.items c.meet_all-in-Ticked.new.shares.items c.meet_all.ensures.pass.0
    (kept-round lock g.M.Medium c.args.shares.items c.round.new.shares.items c.meet_all.new.shares.items c.round.ensures.does c.meet_all.ensures.met) c.meet_all-in-Ticked.ensures.met

pub returns-in-Ticked-clause-next : goal.returns-in-Ticked-clause-next
returns-in-Ticked-clause-next g c =
    let tells = g.M.Medium.tells in
    let limits = c.args.limits in
    let nodes = c.meet_all.new.shares.items in
    let first = knows c.args.pass in
    let met = knows c.meet_all.new.pass in
    let asked = knows c.asked-pass.result.0 in
    let said = subst (λ ns. Follows tells limits c.asked-pass.result.1 ns met asked) c.as_slice.ensures.value c.asked-pass.ensures.next in
    let ticked = subst (λ what. Follows tells limits what nodes met asked) c.in-Ticked.is said in
    subst (λ what. Follows tells limits what c.meet_all-in-Ticked.new.shares.items first (knows c.meet_all-in-Ticked.new.pass)) (sym c.in-Ticked.is)
    (follows-met tells limits first asked (knows c.meet_all-in-Ticked.new.pass) nodes c.meet_all-in-Ticked.new.shares.items c.meet_all-in-Ticked.ensures.met c.meet_all-in-Ticked.ensures.looked
    (follows-looked tells limits first met asked next.Ticked nodes c.meet_all.ensures.looked ticked))

pub returns-in-Ticked-clause-more : goal.returns-in-Ticked-clause-more
returns-in-Ticked-clause-more g c =
    let tells = g.M.Medium.tells in
    let limits = c.args.limits in
    let nodes = c.meet_all.new.shares.items in
    let asked = knows c.asked-pass.result.0 in
    let said = subst (λ ns. SawMore tells limits c.args.before c.asked-pass.result.2 c.asked-pass.result.1 ns asked) c.as_slice.ensures.value c.asked-pass.ensures.more in
    let ticked = subst (λ what. SawMore tells limits c.args.before c.asked-pass.result.2 what nodes asked) c.in-Ticked.is said in
    subst (λ what. SawMore tells limits c.args.before c.asked-pass.result.2 what c.meet_all-in-Ticked.new.shares.items (knows c.meet_all-in-Ticked.new.pass)) (sym c.in-Ticked.is)
    (more-met tells limits c.args.before c.asked-pass.result.2 nodes c.meet_all-in-Ticked.new.shares.items asked (knows c.meet_all-in-Ticked.new.pass) c.meet_all-in-Ticked.ensures.looked ticked)

pub returns-in-Ticked-clause-wanted : goal.returns-in-Ticked-clause-wanted
returns-in-Ticked-clause-wanted g c = λ told wanted.
    let tells = g.M.Medium.tells in
    let limits = c.args.limits in
    let lock = c.args.wire.now.lock in
    let nodes = c.meet_all.new.shares.items in
    let met = knows c.meet_all.new.pass in
    let asked = knows c.asked-pass.result.0 in
    let said = subst (λ ns. Follows tells limits c.asked-pass.result.1 ns met asked) c.as_slice.ensures.value c.asked-pass.ensures.next in
    let ticked = subst (λ what. Follows tells limits what nodes met asked) c.in-Ticked.is said in
    let late = subst (λ ns. SomeNode (IsLate tells) ns × HasTicked met asked) c.as_slice.ensures.value (c.asked-pass.ensures.ticked c.in-Ticked.is) in
    round-wanted lock tells told (knows c.args.pass) met asked (knows c.meet_all-in-Ticked.new.pass) c.args.shares.items nodes c.meet_all-in-Ticked.new.shares.items
    c.requires.conductor c.requires.pass.own c.meet_all-in-Ticked.ensures.pass.1.own c.meet_all.ensures.looked late.1 ticked.2 c.meet_all-in-Ticked.ensures.looked late.0
    c.meet_all.ensures.pass.0 c.meet_all.ensures.all c.meet_all-in-Ticked.ensures.met c.meet_all-in-Ticked.ensures.seen
    (same-names lock g.M.Medium c.args.shares.items c.meet_all-in-Ticked.new.shares.items c.requires.ready
    (went-met lock g.M.Medium c.args.shares.items nodes c.meet_all-in-Ticked.new.shares.items
    (went-round lock g.M.Medium c.args.shares.items c.round.new.shares.items nodes c.round.ensures.does c.meet_all.ensures.met) c.meet_all-in-Ticked.ensures.met)) wanted

pub returns : goal.returns
returns g c =
    let tells = g.M.Medium.tells in
    let limits = c.args.limits in
    let nodes = c.meet_all.new.shares.items in
    let met = knows c.meet_all.new.pass in
    let asked = knows c.asked-pass.result.0 in
    let said = subst (λ ns. Follows tells limits c.asked-pass.result.1 ns met asked) c.as_slice.ensures.value c.asked-pass.ensures.next in
    record {
      passes = (c.meet_all.ensures.pass.0, c.asked-pass.ensures.pass);
      went = went-round c.args.wire.now.lock g.M.Medium c.args.shares.items c.round.new.shares.items nodes c.round.ensures.does c.meet_all.ensures.met;
      kept = kept-round c.args.wire.now.lock g.M.Medium c.args.shares.items c.round.new.shares.items nodes c.round.ensures.does c.meet_all.ensures.met;
      all = all-more met.story asked.story nodes (follows-begins tells limits met asked c.asked-pass.result.1 nodes said) c.meet_all.ensures.all;
      next = follows-looked tells limits (knows c.args.pass) met asked c.asked-pass.result.1 nodes c.meet_all.ensures.looked said;
      more = subst (λ ns. SawMore tells limits c.args.before c.asked-pass.result.2 c.asked-pass.result.1 ns asked) c.as_slice.ensures.value c.asked-pass.ensures.more;
      wanted = λ told wanted.
          still-wanted c.args.wire.now.lock (knows c.args.pass) asked c.args.shares.items nodes c.requires.conductor c.requires.pass.own c.asked-pass.ensures.pass.own
          (follows-none tells limits (knows c.args.pass) asked c.asked-pass.result.1 nodes c.in_default.not-Ticked (follows-looked tells limits (knows c.args.pass) met asked c.asked-pass.result.1 nodes c.meet_all.ensures.looked said))
          (same-names c.args.wire.now.lock g.M.Medium c.args.shares.items nodes c.requires.ready
          (went-round c.args.wire.now.lock g.M.Medium c.args.shares.items c.round.new.shares.items nodes c.round.ensures.does c.meet_all.ensures.met)) wanted;
    }
