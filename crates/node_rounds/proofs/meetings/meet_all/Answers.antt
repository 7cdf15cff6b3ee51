use Rattle.node_rounds.proofs.Names.{◌<◌, ◌∙◌, sym, subst, length, length-set, get_or, arith, All, AllZip, All-set, All-weaker, AllWithin-none, AllWithin-more_set, knows, sight, HasMet, HasAllOf, HasPass, HasSeen}
use Rattle.node_rounds.proofs.PairLemmas.{zip-set}
use Rattle.node_rounds.proofs.RoundLemmas.{begins-joins, looked-joins, looked-same, has-more, met-same, mets-join}
use Rattle.node_rounds.proofs.ShareLemmas.{place-same}
use Rattle.node_rounds.proofs.meetings.meet_all.Goals as goal

pub loop-i-init : goal.loop-i-init
loop-i-init g c = record {
  size = omega (arith, c.len-i-end.ensures, c.args.shares.now.ok);
  hold = c.requires.pass.0;
  pass_is = c.requires.pass.1;
  looked = looked-same _ c.requires.pass.1.own;
  all = AllWithin-none (λ nodes. All (HasAllOf (knows c.args.pass.now).story) nodes.items) c.args.shares.now.items 0;
  seen = AllWithin-none (λ nodes. All (HasSeen (knows c.args.pass.now).story) nodes.items) c.args.shares.now.items 0;
  met = place-same (HasPass c.args.wire.now.lock) HasMet (λ n pass. met-same n pass.own) c.args.shares.now.items c.requires.pass.0;
}

pub loop-i-preserved : goal.loop-i-preserved
loop-i-preserved g c =
    let inv = c.loop-i.invariant in
    let lock = c.args.wire.now.lock in
    let ss = c.loop-i.shares.items in
    let i = c.loop-i.i in
    let old = c.index_mut.result.now in
    let new = c.meet_share.new.nodes in
    let first = (knows c.args.pass.now).story in
    let seen = (knows c.loop-i.pass).story in
    let story = (knows c.meet_share.new.pass).story in
    let lt : i < length ss = omega (arith, inv.size) in
    record {
      size = length-set ss i new ∙ inv.size;
      hold = All-set (λ nodes. All (HasPass lock) nodes.items) ss i new c.meet_share.ensures.pass.0 inv.hold;
      pass_is = c.meet_share.ensures.pass.1;
      looked = looked-joins _ _ _ c.requires.pass.1.own inv.looked c.meet_share.ensures.looked;
      all = AllWithin-more_set ss i new lt (λ nodes. All (HasAllOf story) nodes.items)
          (λ k d low high. All-weaker (HasAllOf seen) (HasAllOf story) (λ n h. has-more n seen story c.meet_share.ensures.looked.before.carries.begins h) (get_or ss k d).items (inv.all k d low high)) c.meet_share.ensures.all;
      seen = AllWithin-more_set ss i new lt (λ nodes. All (HasSeen first) nodes.items) inv.seen
          (All-weaker (HasSeen seen) (HasSeen first) (λ n h. begins-joins first seen (sight n).story inv.looked.before.carries.begins h) new.items c.meet_share.ensures.seen);
      met = zip-set (λ nodes. All (HasPass lock) nodes.items) (λ before after. AllZip HasMet before.items after.items) c.args.shares.now.items ss i old new
          (λ x pass m. mets-join lock x.items old.items new.items pass (subst (λ nodes. AllZip HasMet x.items nodes.items) (sym c.index_mut.ensures.value) m) c.meet_share.ensures.met) c.requires.pass.0 inv.met;
    }

pub returns-clause-all : goal.returns-clause-all
returns-clause-all g c = λ k d lt. c.loop-i.invariant.all k d (omega arith) (omega (arith, lt, c.loop-i.invariant.size))

pub returns-clause-seen : goal.returns-clause-seen
returns-clause-seen g c = λ k d lt. c.loop-i.invariant.seen k d (omega arith) (omega (arith, lt, c.loop-i.invariant.size))
