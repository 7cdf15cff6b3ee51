use Rattle.node_rounds.proofs.Names.{◌<◌, ◌∙◌, sym, subst, length, length-set, get_or, arith, All-set, AllWithin-none, AllWithin-more_set, knows, HasMet, HasAllOf, HasPass, HasSeen}
use Rattle.node_rounds.proofs.PairLemmas.{zip-set}
use Rattle.node_rounds.proofs.RoundLemmas.{looked-joins, has-more, has-met, looked-same, mets-same, met-joins, met-of, seen-met}
use Rattle.node_rounds.proofs.meetings.meet_share.Goals as goal

pub loop-i-init : goal.loop-i-init
loop-i-init g c = record {
  size = omega (arith, c.len-i-end.ensures, c.args.nodes.now.ok);
  hold = c.requires.pass.0;
  pass_is = c.requires.pass.1;
  looked = looked-same _ c.requires.pass.1.own;
  all = AllWithin-none (HasAllOf (knows c.args.pass.now).story) c.args.nodes.now.items 0;
  seen = AllWithin-none (HasSeen (knows c.args.pass.now).story) c.args.nodes.now.items 0;
  met = mets-same c.args.wire.now.lock c.args.nodes.now.items c.requires.pass.0;
}

pub loop-i-preserved : goal.loop-i-preserved
loop-i-preserved g c =
    let inv = c.loop-i.invariant in
    let ns = c.loop-i.nodes.items in
    let i = c.loop-i.i in
    let old = c.index_mut.result.now in
    let new = c.meet.new.self in
    let seen = (knows c.loop-i.pass).story in
    let story = (knows c.meet.new.other).story in
    let lt : i < length ns = omega (arith, inv.size) in
    record {
      size = length-set ns i new ∙ inv.size;
      hold = All-set (HasPass c.args.wire.now.lock) ns i new c.meet.ensures.pass.0 inv.hold;
      pass_is = c.meet.ensures.pass.1;
      looked = looked-joins _ _ _ c.requires.pass.1.own inv.looked c.meet.ensures.other.0;
      all = AllWithin-more_set ns i new lt (HasAllOf story) (λ k d low high. has-more (get_or ns k d) seen story c.meet.ensures.other.0.before.carries.begins (inv.all k d low high)) (has-met new story c.meet.ensures.pass.0.own c.meet.ensures.other.1);
      seen = AllWithin-more_set ns i new lt (HasSeen (knows c.args.pass.now).story) inv.seen
          (seen-met new (knows c.args.pass.now).story seen story inv.looked.before.carries.begins c.meet.ensures.other.0.before.carries.begins c.meet.ensures.other.1);
      met = zip-set (HasPass c.args.wire.now.lock) HasMet c.args.nodes.now.items ns i old new (λ x pass m. met-joins x old new pass.own (subst (HasMet x) (sym c.index_mut.ensures.value) m) (met-of _ old new c.meet.ensures.met)) c.requires.pass.0 inv.met;
    }

pub returns-clause-all : goal.returns-clause-all
returns-clause-all g c = λ k d lt. c.loop-i.invariant.all k d (omega arith) (omega (arith, lt, c.loop-i.invariant.size))

pub returns-clause-seen : goal.returns-clause-seen
returns-clause-seen g c = λ k d lt. c.loop-i.invariant.seen k d (omega arith) (omega (arith, lt, c.loop-i.invariant.size))
