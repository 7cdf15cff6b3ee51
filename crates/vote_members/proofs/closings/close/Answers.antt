use Rattle.version_store.specs.StoreWords.{medium_of}
use Rattle.vote_members.proofs.CloseLemmas.{closed-lost, log-grows}
use Rattle.vote_members.proofs.closings.close.Goals as goal

pub returns-in-Ok : goal.returns-in-Ok
returns-in-Ok g c =
    let s = c.args.store in
    let r = c.in-Ok.store in
    record {
      sound = c.in-Ok.ensures.state;
      has = c.in-Ok.ensures.added;
      left = c.in-Ok.ensures.only;
      leaves = c.in-Ok.ensures.images;
      kept = λ t. c.in-Ok.ensures.kept t (g.M.Medium.reads (medium_of r)) (g.met.M.Medium.reads_now (medium_of r) t);
      clean = c.in-Ok.ensures.clean;
      grows = λ t. log-grows (g.M.Medium.reads (medium_of s)) (g.M.Medium.reads (medium_of r)) (g.M.Medium.may_leave (medium_of s)) (g.M.Medium.may_leave (medium_of r)) (s.settled t) (r.settled t) c.args.effects.now
          (c.in-Ok.ensures.added t) (c.in-Ok.ensures.used t);
      later = c.in-Ok.ensures.later;
    }

pub returns-in-Medium : goal.returns-in-Medium
returns-in-Medium g c =
    closed-lost g.M.Medium c.args.store c.args.effects.now c.in-Err.medium c.in-Err.ensures.images (c.in-Err.ensures.failed c.in-Medium.is) c.in-Err.ensures.later
    c.open_anew.result c.open_anew.ensures
