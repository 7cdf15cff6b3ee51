use Rattle.wire_lock.proofs.Names.{◌∙◌, sym, subst, ◌<◌, ℕ, arith, sees, lock_of, base_of}
use Rattle.wire_lock.proofs.SightLemmas.{posted-more, posts-kept, lock-origin, lock-size, story-of}
use Rattle.wire_lock.proofs.DecisionLemmas.{may-post, may-at}
use Rattle.wire_lock.proofs.gates.post_all.Goals as goal

pub post-requires-clause-word : goal.post-requires-clause-word
post-requires-clause-word g c = subst (λ (n : ℕ). c.place_of.result < n) (sym (lock-size c.loop-stamp.invariant.lock ∙ c.requires.board)) c.place_of.ensures.small

pub post-requires-clause-may : goal.post-requires-clause-may
post-requires-clause-may g c =
    may-at g.M.Medium.tells _ _ _ _ c.place_of.result c.number_of.result (sym (lock-origin c.loop-stamp.invariant.lock)) (sym (story-of c.loop-stamp.invariant.sees_is))
    (may-post g.M.Medium.tells (base_of (lock_of c.args.visit.now)).origin (sees c.args.visit.now).story c.args.decides.now c.loop-stamp.stamp-index c.loop-stamp-item.result _ _ (omega arith) c.loop-stamp-item.is
    c.requires.stand c.place_of.ensures.in_range c.place_of.ensures.value c.number_of.ensures)

pub loop-stamp-preserved : goal.loop-stamp-preserved
loop-stamp-preserved g c = record {
  lock = c.post.ensures.lock ∙ c.loop-stamp.invariant.lock;
  inside = λ x h. c.post.ensures.inside x (c.loop-stamp.invariant.inside x h);
  noted = c.post.ensures.noted ∙ c.loop-stamp.invariant.noted;
  sees_is = c.post.ensures.sees ∙ posts-kept (sees c.loop-stamp.visit) (sees c.args.visit.now) _ _ _ _ c.loop-stamp.invariant.sees_is
      (posted-more c.args.decides.now c.loop-stamp.stamp-index c.loop-stamp-item.result _ _ (omega arith) c.loop-stamp-item.is c.place_of.ensures.value c.number_of.ensures);
}
