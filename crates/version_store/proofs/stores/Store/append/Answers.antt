use Rattle.version_store.proofs.Names.{IsImage, Log, filling, HeadsFit, IsAtRest, all_of, laid, log_of, ◌≡◌, ◌+◌, ◌++◌, ◌≤◌, IsTrue, length, sym, subst, arith}
use Rattle.version_store.proofs.BlankLemmas.{blank_count}
use Rattle.version_store.proofs.GrownLemmas.{untouched}
use Rattle.version_store.proofs.StoreLemmas.{log_here, settled_here, rest_here, images_left, prefix_left, pages_kept, all_added, written_run, written_rest}
use Rattle.version_store.proofs.stores.Store.append.Given.{Over}
use Rattle.version_store.proofs.stores.Store.append.Goals as goal
use Rattle.version_store.proofs.stores.Store.append.Goals.{In-Ok-write_pages}

pub returns-then-needed-pages-clause-any_moment : goal.returns-then-needed-pages-clause-any_moment
returns-then-needed-pages-clause-any_moment g c told =
    let m = c.args.self.medium in
    let log = log_of (g.M.Medium.reads m) in
    prefix_left g.M.Medium.stages g.M.Medium.reads g.M.Medium.may_leave m m log c.args.self.next c.args.effects.now
    (untouched g.M.Medium.stages g.M.Medium.reads g.M.Medium.may_leave log c.args.self.next _ m (λ i left. g.met.M.Medium.only_now m i told left) (c.args.self.at_rest told))

pub returns-then-needed-pages-clause-images : goal.returns-then-needed-pages-clause-images
returns-then-needed-pages-clause-images g c told i left =
    let m = c.args.self.medium in
    images_left g.M.Medium.stages g.M.Medium.reads g.M.Medium.may_leave m m _ (λ d there. g.met.M.Medium.counts_now m d told there) (returns-then-needed-pages-clause-any_moment g c told) i left

pub returns-in-Err-clause-any_moment : goal.returns-in-Err-clause-any_moment
returns-in-Err-clause-any_moment g c told =
    let m = c.args.self.medium in
    let log = log_of (g.M.Medium.reads m) in
    prefix_left g.M.Medium.stages g.M.Medium.reads g.M.Medium.may_leave m m log c.args.self.next c.args.effects.now
    (untouched g.M.Medium.stages g.M.Medium.reads g.M.Medium.may_leave log c.args.self.next _ m (λ i left. g.met.M.Medium.only_now m i told left) (c.args.self.at_rest told))

pub returns-in-Err-clause-images : goal.returns-in-Err-clause-images
returns-in-Err-clause-images g c told i left =
    let m = c.args.self.medium in
    images_left g.M.Medium.stages g.M.Medium.reads g.M.Medium.may_leave m m _ (λ d there. g.met.M.Medium.counts_now m d told there) (returns-in-Err-clause-any_moment g c told) i left

pub returns-in-Err-write_pages-clause-any_moment : goal.returns-in-Err-write_pages-clause-any_moment
returns-in-Err-write_pages-clause-any_moment g c told =
    let s = c.args.self in
    let m = s.medium in
    let now = c.write_pages.new.medium in
    let log = log_of (g.M.Medium.reads m) in
    let room : s.next + length (filling c.args.effects.now) ≤ 1048576 = omega (arith, c.pages_filled-needed.ensures, c.if-needed-pages.false, s.in_range, s.most) in
    prefix_left g.M.Medium.stages g.M.Medium.reads g.M.Medium.may_leave m now log s.next c.args.effects.now
    (written_run g.M.Medium.stages g.M.Medium.reads g.M.Medium.may_leave m now c.in-Ok.bodies.items c.deref.result.now s.heads log s.next c.args.effects.now (s.at_rest told) (s.heads_fit told) s.places c.requires.ranges room c.in-Ok.ensures.pages c.deref.ensures.value (c.write_pages.ensures.any_moment told))

pub returns-in-Err-write_pages-clause-kept_then : goal.returns-in-Err-write_pages-clause-kept_then
returns-in-Err-write_pages-clause-kept_then g c told =
    let s = c.args.self in
    let m = s.medium in
    let now = c.write_pages.new.medium in
    let log = log_of (g.M.Medium.reads m) in
    let room : s.next + length (filling c.args.effects.now) ≤ 1048576 = omega (arith, c.pages_filled-needed.ensures, c.if-needed-pages.false, s.in_range, s.most) in
    pages_kept g.M.Medium.stages g.M.Medium.reads g.M.Medium.may_leave m now log s.next c.args.effects.now
    (written_run g.M.Medium.stages g.M.Medium.reads g.M.Medium.may_leave m now c.in-Ok.bodies.items c.deref.result.now s.heads log s.next c.args.effects.now (s.at_rest told) (s.heads_fit told) s.places c.requires.ranges room c.in-Ok.ensures.pages c.deref.ensures.value (c.write_pages.ensures.any_moment told))

pub returns-in-Err-write_pages-clause-images : goal.returns-in-Err-write_pages-clause-images
returns-in-Err-write_pages-clause-images g c told i left =
    let m = c.args.self.medium in
    let now = c.write_pages.new.medium in
    images_left g.M.Medium.stages g.M.Medium.reads g.M.Medium.may_leave m now _ (λ d there. g.met.M.Medium.counts_now now d told there) (returns-in-Err-write_pages-clause-any_moment g c told) i left

pub returns-in-Ok-write_pages-clause-any_moment : goal.returns-in-Ok-write_pages-clause-any_moment
returns-in-Ok-write_pages-clause-any_moment g c told =
    let s = c.args.self in
    let m = s.medium in
    let now = c.write_pages.new.medium in
    let log = log_of (g.M.Medium.reads m) in
    let room : s.next + length (filling c.args.effects.now) ≤ 1048576 = omega (arith, c.pages_filled-needed.ensures, c.if-needed-pages.false, s.in_range, s.most) in
    prefix_left g.M.Medium.stages g.M.Medium.reads g.M.Medium.may_leave m now log s.next c.args.effects.now
    (written_run g.M.Medium.stages g.M.Medium.reads g.M.Medium.may_leave m now c.in-Ok.bodies.items c.deref.result.now s.heads log s.next c.args.effects.now (s.at_rest told) (s.heads_fit told) s.places c.requires.ranges room c.in-Ok.ensures.pages c.deref.ensures.value (c.write_pages.ensures.any_moment told))

pub returns-in-Ok-write_pages-clause-kept_then : goal.returns-in-Ok-write_pages-clause-kept_then
returns-in-Ok-write_pages-clause-kept_then g c told =
    let s = c.args.self in
    let m = s.medium in
    let now = c.write_pages.new.medium in
    let log = log_of (g.M.Medium.reads m) in
    let room : s.next + length (filling c.args.effects.now) ≤ 1048576 = omega (arith, c.pages_filled-needed.ensures, c.if-needed-pages.false, s.in_range, s.most) in
    pages_kept g.M.Medium.stages g.M.Medium.reads g.M.Medium.may_leave m now log s.next c.args.effects.now
    (written_run g.M.Medium.stages g.M.Medium.reads g.M.Medium.may_leave m now c.in-Ok.bodies.items c.deref.result.now s.heads log s.next c.args.effects.now (s.at_rest told) (s.heads_fit told) s.places c.requires.ranges room c.in-Ok.ensures.pages c.deref.ensures.value (c.write_pages.ensures.any_moment told))

pub returns-in-Ok-write_pages-clause-images : goal.returns-in-Ok-write_pages-clause-images
returns-in-Ok-write_pages-clause-images g c told i left =
    let m = c.args.self.medium in
    let now = c.write_pages.new.medium in
    images_left g.M.Medium.stages g.M.Medium.reads g.M.Medium.may_leave m now _ (λ d there. g.met.M.Medium.counts_now now d told there) (returns-in-Ok-write_pages-clause-any_moment g c told) i left

pub returns-then-needed-pages-clause-full_blank : goal.returns-then-needed-pages-clause-full_blank
returns-then-needed-pages-clause-full_blank g c told pages is =
    let s = c.args.self in
    let m = s.medium in
    let shape : IsImage (g.M.Medium.page_count m) (g.M.Medium.reads m) = g.met.M.Medium.shape m (g.M.Medium.reads m) told (g.met.M.Medium.reads_now m told) in
    let blanks = blank_count _ s.next _ _ (s.at_rest told) in
    omega (arith, blanks, shape.count, s.count, c.pages_filled-needed.ensures, c.if-needed-pages.true, s.in_range)

pub returns-in-Err-write_pages-clause-kept : goal.returns-in-Err-write_pages-clause-kept
returns-in-Err-write_pages-clause-kept g c told i left =
    let m = c.args.self.medium in
    let now = c.write_pages.new.medium in
    images_left g.M.Medium.stages g.M.Medium.reads g.M.Medium.may_leave m now _ (λ d there. g.met.M.Medium.counts_now now d told there) (returns-in-Err-write_pages-clause-kept_then g c told) i left

pub returns-in-Ok-write_pages-clause-kept : goal.returns-in-Ok-write_pages-clause-kept
returns-in-Ok-write_pages-clause-kept g c told i left =
    let m = c.args.self.medium in
    let now = c.write_pages.new.medium in
    images_left g.M.Medium.stages g.M.Medium.reads g.M.Medium.may_leave m now _ (λ d there. g.met.M.Medium.counts_now now d told there) (returns-in-Ok-write_pages-clause-kept_then g c told) i left

-- all pages stand
module _ (g : Over) (c : In-Ok-write_pages g) (told : IsTrue g.M.Medium.tells) where
  rest : IsAtRest (log_of (g.M.Medium.reads c.args.self.medium) ++ all_of (laid (log_of (g.M.Medium.reads c.args.self.medium)) c.args.self.next c.args.effects.now)) (c.args.self.next + c.pages_filled-needed.result) (g.M.Medium.reads c.write_pages.new.medium) (g.M.Medium.may_leave c.write_pages.new.medium)
  rest =
      let s = c.args.self in
      let m = s.medium in
      let log = log_of (g.M.Medium.reads m) in
      let room : s.next + length (filling c.args.effects.now) ≤ 1048576 = omega (arith, c.pages_filled-needed.ensures, c.if-needed-pages.false, s.in_range, s.most) in
      written_rest g.M.Medium.stages g.M.Medium.reads g.M.Medium.may_leave m c.write_pages.new.medium c.in-Ok.bodies.items c.deref.result.now s.heads log s.next c.pages_filled-needed.result c.args.effects.now (s.at_rest told) (s.heads_fit told) s.places c.requires.ranges room c.in-Ok.ensures.pages c.deref.ensures.value c.in-Ok.ensures.count c.pages_filled-needed.ensures (c.in-Ok-write_pages.ensures.all told)

  log_is : log_of (g.M.Medium.reads c.write_pages.new.medium) ≡ log_of (g.M.Medium.reads c.args.self.medium) ++ all_of (laid (log_of (g.M.Medium.reads c.args.self.medium)) c.args.self.next c.args.effects.now)
  log_is = log_here _ _ _ _ rest

pub invariant_of-result-clause-settled : goal.invariant_of-result-clause-settled
invariant_of-result-clause-settled g c told = settled_here _ _ _ _ (rest g c told)

pub invariant_of-result-clause-at_rest : goal.invariant_of-result-clause-at_rest
invariant_of-result-clause-at_rest g c told = rest_here _ _ _ _ (rest g c told)

pub invariant_of-result-clause-heads_fit : goal.invariant_of-result-clause-heads_fit
invariant_of-result-clause-heads_fit g c told = subst (λ (l : Log). HeadsFit c.lay_out.new.heads l) (sym (log_is g c told)) (c.in-Ok.ensures.heads (log_of (g.M.Medium.reads c.args.self.medium)) (c.args.self.heads_fit told))

pub returns-in-Ok-write_pages-clause-added : goal.returns-in-Ok-write_pages-clause-added
returns-in-Ok-write_pages-clause-added g c told =
    let s = c.args.self in
    let m = s.medium in
    let log = log_of (g.M.Medium.reads m) in
    let room : s.next + length (filling c.args.effects.now) ≤ 1048576 = omega (arith, c.pages_filled-needed.ensures, c.if-needed-pages.false, s.in_range, s.most) in
    let rest = written_rest g.M.Medium.stages g.M.Medium.reads g.M.Medium.may_leave m c.write_pages.new.medium c.in-Ok.bodies.items c.deref.result.now s.heads log s.next c.pages_filled-needed.result c.args.effects.now (s.at_rest told) (s.heads_fit told) s.places c.requires.ranges room c.in-Ok.ensures.pages c.deref.ensures.value c.in-Ok.ensures.count c.pages_filled-needed.ensures (c.in-Ok-write_pages.ensures.all told) in
    all_added log s.next c.args.effects.now _ (log_here _ _ _ _ rest)

pub returns-in-Ok-write_pages-clause-log : goal.returns-in-Ok-write_pages-clause-log
returns-in-Ok-write_pages-clause-log g c told =
    let s = c.args.self in
    let m = s.medium in
    let log = log_of (g.M.Medium.reads m) in
    let room : s.next + length (filling c.args.effects.now) ≤ 1048576 = omega (arith, c.pages_filled-needed.ensures, c.if-needed-pages.false, s.in_range, s.most) in
    let rest = written_rest g.M.Medium.stages g.M.Medium.reads g.M.Medium.may_leave m c.write_pages.new.medium c.in-Ok.bodies.items c.deref.result.now s.heads log s.next c.pages_filled-needed.result c.args.effects.now (s.at_rest told) (s.heads_fit told) s.places c.requires.ranges room c.in-Ok.ensures.pages c.deref.ensures.value c.in-Ok.ensures.count c.pages_filled-needed.ensures (c.in-Ok-write_pages.ensures.all told) in
    (_, log_here _ _ _ _ rest)

pub invariant_of-result-clause-below : goal.invariant_of-result-clause-below
invariant_of-result-clause-below g c = c.in-Ok.ensures.below c.args.self.pages (omega (arith, c.pages_filled-needed.ensures, c.if-needed-pages.false, c.args.self.in_range)) c.args.self.below

pub returns-in-Ok-write_pages-clause-used : goal.returns-in-Ok-write_pages-clause-used
returns-in-Ok-write_pages-clause-used g c told =
    let s = c.args.self in
    let m = s.medium in
    let now = c.write_pages.new.medium in
    let shape : IsImage (g.M.Medium.page_count m) (g.M.Medium.reads m) = g.met.M.Medium.shape m (g.M.Medium.reads m) told (g.met.M.Medium.reads_now m told) in
    let shape' : IsImage (g.M.Medium.page_count now) (g.M.Medium.reads now) = g.met.M.Medium.shape now (g.M.Medium.reads now) told (g.met.M.Medium.reads_now now told) in
    let blanks = blank_count _ s.next _ _ (s.at_rest told) in
    let log = log_of (g.M.Medium.reads m) in
    let room : s.next + length (filling c.args.effects.now) ≤ 1048576 = omega (arith, c.pages_filled-needed.ensures, c.if-needed-pages.false, s.in_range, s.most) in
    let rest = written_rest g.M.Medium.stages g.M.Medium.reads g.M.Medium.may_leave m now c.in-Ok.bodies.items c.deref.result.now s.heads log s.next c.pages_filled-needed.result c.args.effects.now (s.at_rest told) (s.heads_fit told) s.places c.requires.ranges room c.in-Ok.ensures.pages c.deref.ensures.value c.in-Ok.ensures.count c.pages_filled-needed.ensures (c.in-Ok-write_pages.ensures.all told) in
    let left = blank_count _ (s.next + c.pages_filled-needed.result) _ _ rest in
    omega (arith, blanks, left, shape.count, shape'.count, c.write_pages.ensures.size, s.count, c.pages_filled-needed.ensures, c.if-needed-pages.false, s.in_range)

pub returns-then-is_empty-clause-any_moment : goal.returns-then-is_empty-clause-any_moment
returns-then-is_empty-clause-any_moment g c told =
    let m = c.args.self.medium in
    let log = log_of (g.M.Medium.reads m) in
    prefix_left g.M.Medium.stages g.M.Medium.reads g.M.Medium.may_leave m m log c.args.self.next c.args.effects.now
    (untouched g.M.Medium.stages g.M.Medium.reads g.M.Medium.may_leave log c.args.self.next _ m (λ i left. g.met.M.Medium.only_now m i told left) (c.args.self.at_rest told))

pub returns-then-needed-pages-clause-kept_then : goal.returns-then-needed-pages-clause-kept_then
returns-then-needed-pages-clause-kept_then g c told =
    let m = c.args.self.medium in
    let log = log_of (g.M.Medium.reads m) in
    pages_kept g.M.Medium.stages g.M.Medium.reads g.M.Medium.may_leave m m log c.args.self.next c.args.effects.now
    (untouched g.M.Medium.stages g.M.Medium.reads g.M.Medium.may_leave log c.args.self.next _ m (λ i left. g.met.M.Medium.only_now m i told left) (c.args.self.at_rest told))
