use Rattle.run_starts.proofs.Names.{rules, ◌≡◌, ◌<◌, ◌+◌, ◌∙◌, ap, sym, subst, length, slice_index_or, vec_len, arith, length_push, get_or_from_slice_get, NodeId, base_of, IsWirePass, IsUnseen, HasFallen}
use Rattle.run_media.specs.Places as order
use Rattle.run_starts.proofs.DealLemmas.{some-within}
use Rattle.run_starts.proofs.StartLemmas.{all-front, all-last, all-pushed}
use Rattle.run_starts.proofs.DownLemmas.{not-err}
use Rattle.run_starts.proofs.AlongLemmas.{along-popped, along-pushed}
use Rattle.run_starts.proofs.downs.+down_visits.Goals as goal

pub down_visits-passes-requires : goal.down_visits-passes-requires
down_visits-passes-requires g t c κs within =
    let w = base_of c.args.wire.now.lock in
    let xs = c.args.openings.now in
    let p = vec_len c.pop.new.self in
    let front = c.pop.new.self.items in
    let e = c.in-Some.ensures.items in
    let k = ap length e ∙ length_push front c.in-Some.pass in
    let size : vec_len c.args.passes ≡ p + 1 = omega (arith, k, c.args.passes.ok, c.pop.new.self.ok) in
    let inside : p < length xs = omega (arith, size, c.requires.count.1) in
    let x = some-within xs p inside in
    let both = along-popped (λ i o pass. IsUnseen w (order.node_at c.args.plan.now i) o pass) xs p (vec_len c.args.passes) x.0 size inside (sym (get_or_from_slice_get xs p x.0 x.0 x.1)) c.args.passes.items front c.in-Some.pass e c.requires.unseen in
    let passes = all-front (IsWirePass c.args.wire.now.lock) c.args.passes.items front c.in-Some.pass e c.requires.passes in
    (search rules, (within.0, (within.1.0, (within.1.1.0, (within.1.1.1, (c.requires.plan, ((c.requires.count.0, omega (arith, inside)), (passes, both.0))))))))

pub down_visit-pass-requires-clause-pass : goal.down_visit-pass-requires-clause-pass
down_visit-pass-requires-clause-pass g t c = all-last (IsWirePass c.args.wire.now.lock) c.args.passes.items c.pop.new.self.items c.in-Some.pass c.in-Some.ensures.items c.requires.passes

pub down_visit-pass-requires-clause-unseen : goal.down_visit-pass-requires-clause-unseen
down_visit-pass-requires-clause-unseen g t c =
    let w = base_of c.args.wire.now.lock in
    let xs = c.args.openings.now in
    let x = c.index-openings-place.result in
    let p = vec_len c.pop.new.self in
    let front = c.pop.new.self.items in
    let e = c.in-Some.ensures.items in
    let k = ap length e ∙ length_push front c.in-Some.pass in
    let size : vec_len c.args.passes ≡ p + 1 = omega (arith, k, c.args.passes.ok, c.pop.new.self.ok) in
    let inside : p < length xs = omega (arith, size, c.requires.count.1) in
    let read : x ≡ slice_index_or xs p x = c.index-openings-place.is ∙ ap (λ i. slice_index_or xs i x) c.len-place.ensures in
    let both = along-popped (λ i o pass. IsUnseen w (order.node_at c.args.plan.now i) o pass) xs p (vec_len c.args.passes) x size inside read c.args.passes.items front c.in-Some.pass e c.requires.unseen in
    subst (λ (n : NodeId). IsUnseen w n x c.in-Some.pass) (sym (c.node_at.ensures.place ∙ ap (order.node_at c.args.plan.now) c.len-place.ensures)) both.1

pub returns-then-is_err-clause-passes : goal.returns-then-is_err-clause-passes
returns-then-is_err-clause-passes g t c =
    all-pushed (IsWirePass c.args.wire.now.lock) c.push_reserved.new.self.items _ _ c.push_reserved.ensures.items c.down_visits-passes.ensures.passes c.down_visit-pass.ensures.pass

pub returns-clause-passes : goal.returns-clause-passes
returns-clause-passes g t c =
    all-pushed (IsWirePass c.args.wire.now.lock) c.push_reserved.new.self.items _ _ c.push_reserved.ensures.items c.down_visits-passes.ensures.passes c.down_visit-pass.ensures.pass

pub returns-clause-fallen : goal.returns-clause-fallen
returns-clause-fallen g t c down =
    let w = base_of c.args.wire.now.lock in
    let xs = c.args.openings.now in
    let x = c.index-openings-place.result in
    let p = vec_len c.pop.new.self in
    let front = c.pop.new.self.items in
    let e = c.in-Some.ensures.items in
    let k = ap length e ∙ length_push front c.in-Some.pass in
    let size : vec_len c.args.passes ≡ p + 1 = omega (arith, k, c.args.passes.ok, c.pop.new.self.ok) in
    let inside : p < length xs = omega (arith, size, c.requires.count.1) in
    let read : x ≡ slice_index_or xs p x = c.index-openings-place.is ∙ ap (λ i. slice_index_or xs i x) c.len-place.ensures in
    let fell = not-err c.down_visit-pass.result.1 (HasFallen w c.node_at.result x c.down_visit-pass.result.0) (sym c.is_err.ensures.value ∙ c.if-is_err.false) c.down_visit-pass.ensures.fallen in
    along-pushed (λ i o pass. HasFallen w (order.node_at c.args.plan.now i) o pass) xs p (vec_len c.args.passes) x size inside read c.push_reserved.new.self.items c.down_visits-passes.result.0.items c.down_visit-pass.result.0 c.push_reserved.ensures.items
    (c.down_visits-passes.ensures.fallen down)
    (subst (λ (n : NodeId). HasFallen w n x c.down_visit-pass.result.0) (c.node_at.ensures.place ∙ ap (order.node_at c.args.plan.now) c.len-place.ensures) fell)
