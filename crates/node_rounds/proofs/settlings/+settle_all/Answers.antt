use Rattle.node_rounds.proofs.Names.{◌≡◌, ◌∙◌, ◌+◌, ◌≤◌, ◌<◌, ◌++◌, ◌∷◌, [], ℕ, List, sym, ap, subst, arith, length, get_or, AllZip, IsWirePass, world_at, sight, NodeParts, refl, true, false}
use Rattle.std.proofs.Common.{rules, take}
use Rattle.std.proofs.lemmas.List.{length-take-le, length_push}
use Rattle.std.specs.declared.vec.Vec.{Vec}
use Rattle.std.specs.declared.alloc.Global.{Global}
use Rattle.repository_node.specs.Settles.{SettlesTo, Stand}
use Rattle.node_rounds.specs.Kinds.{IsOfKind, parts_of}
use Rattle.node_rounds.specs.Nodes.{HasPass, IsReady}
use Rattle.node_rounds.specs.Settled.{AllStand, Decided, HasSettled}
use Rattle.node_rounds.proofs.SettledLemmas.{front-of, last-of, list-last, pushed, settled-joined, some-at, zip-end, zip-less}
use Rattle.node_rounds.proofs.settlings.+settle_all.Goals as goal

pub settle_all-requires : goal.settle_all-requires
settle_all-requires g t c κs within =
    let front = c.pop.new.self.items in
    let e = c.in-Some.ensures.items in
    let k = ap length e ∙ length_push front c.in-Some.last in
    let place : c.len-place.result ≡ length front = c.len-place.ensures ∙ c.pop.new.self.ok.0 in
    let small : c.len-place.result ≤ length c.args.lists.now = omega (arith, place, k, c.requires.count) in (
      search rules,
      (
        within.0,
        (
          within.1.0,
          (
            within.1.1.0,
            (
              within.1.1.1,
              (
                front-of (IsReady c.args.wire.now.lock) _ front _ e c.requires.ready,
                (
                  length-take-le c.len-place.result c.args.lists.now small ∙ place,
                  λ told. subst (λ (n : ℕ). AllZip AllStand front (take n c.args.lists.now)) (sym place) (zip-less AllStand _ front c.args.lists.now _ e (c.requires.stand told)),
                ),
              ),
            ),
          ),
        ),
      ),
    )

pub settle-requires-clause-pass : goal.settle-requires-clause-pass
settle-requires-clause-pass g t c =
    subst (λ (n : NodeParts _). IsWirePass c.args.wire.now.lock n.pass) (sym (ap parts_of (sym c.in-Repository.is) ∙ c.last.view_is))
    (last-of (IsReady c.args.wire.now.lock) _ _ _ c.in-Some.ensures.items c.requires.ready).pass

-- the list in the last node's place, and those before it
read : {n : ℕ} (lists : List (Vec Decided Global)) (place : ℕ) (x : Vec Decided Global) → x ≡ get_or lists place x → place ≡ n → length lists ≡ n + 1 → (lists ≡ take place lists ++ x ∷ []) × (get_or lists n x ≡ x)
read {n} lists place x is at size =
    (list-last lists place x (omega (arith, at, size)) ∙ ap (λ z. take place lists ++ z ∷ []) (sym is), sym (is ∙ ap (λ (i : ℕ). get_or lists i x) at))

pub settle-requires-clause-stand : goal.settle-requires-clause-stand
settle-requires-clause-stand g t c = λ told.
    let front = c.pop.new.self.items in
    let e = c.in-Some.ensures.items in
    let k = ap length e ∙ length_push front c.in-Some.last in
    let place : c.len-place.result ≡ length front = c.len-place.ensures ∙ c.pop.new.self.ok.0 in
    let list = c.index-lists-place.result in
    let r = read c.args.lists.now c.len-place.result list c.index-lists-place.is place (c.requires.count ∙ k) in
    subst (λ (ds : List Decided). Stand (world_at (sight c.in-Repository.node)) ds) (sym c.as_slice.ensures.value)
    (subst (λ (n : NodeParts _). AllStand n list) (sym (ap parts_of (sym c.in-Repository.is) ∙ c.last.view_is))
    (subst (λ (l : Vec Decided Global). AllStand c.in-Some.last l) r.1 (zip-end AllStand _ front c.args.lists.now _ list e (c.requires.stand told))))

pub returns-in-Repository-clause-passes : goal.returns-in-Repository-clause-passes
returns-in-Repository-clause-passes g t c = pushed (HasPass c.args.wire.now.lock) _ _ _ c.push_reserved.ensures.items c.settle_all.ensures.passes c.settle.ensures.pass

pub returns-in-Repository-clause-settled : goal.returns-in-Repository-clause-settled
returns-in-Repository-clause-settled g t c =
    let front = c.pop.new.self.items in
    let e = c.in-Some.ensures.items in
    let k = ap length e ∙ length_push front c.in-Some.last in
    let place : c.len-place.result ≡ length front = c.len-place.ensures ∙ c.pop.new.self.ok.0 in
    let list = c.index-lists-place.result in
    let r = read c.args.lists.now c.len-place.result list c.index-lists-place.is place (c.requires.count ∙ k) in
    let same = ap parts_of (sym c.in-Repository.is) ∙ c.last.view_is in
    let kind = subst IsOfKind c.in-Repository.is c.last.invariant in
    settled-joined g.M.Medium _ front c.args.lists.now _ _ _ c.in-Some.last list _ e r.0 c.push_reserved.ensures.items c.settle_all.ensures.settled
    (subst (λ (n : NodeParts _). HasSettled g.M.Medium list.items n c.settle.result) same (
      (λ broker. absurd (let z : true ≡ false = sym broker ∙ kind in cc z)),
      λ repository. subst (λ (ds : List Decided). SettlesTo g.M.Medium ds c.in-Repository.node c.settle.result) c.as_slice.ensures.value c.settle.ensures.settles,
    ))

pub returns-in-Broker-clause-passes : goal.returns-in-Broker-clause-passes
returns-in-Broker-clause-passes g t c =
    pushed (HasPass c.args.wire.now.lock) _ _ _ c.push_reserved-in-Broker.ensures.items c.settle_all.ensures.passes
    (subst (λ (n : NodeParts _). IsWirePass c.args.wire.now.lock n.pass) (sym (ap parts_of (sym c.in-Broker.is) ∙ c.last.view_is))
    (last-of (IsReady c.args.wire.now.lock) _ _ _ c.in-Some.ensures.items c.requires.ready).pass)

pub returns-in-Broker-clause-settled : goal.returns-in-Broker-clause-settled
returns-in-Broker-clause-settled g t c =
    let front = c.pop.new.self.items in
    let e = c.in-Some.ensures.items in
    let k = ap length e ∙ length_push front c.in-Some.last in
    let place : c.len-place.result ≡ length front = c.len-place.ensures ∙ c.pop.new.self.ok.0 in
    let inside : c.len-place.result < length c.args.lists.now = omega (arith, place, k, c.requires.count) in
    let x = some-at c.args.lists.now c.len-place.result inside in
    let r = read c.args.lists.now c.len-place.result x.0 x.1 place (c.requires.count ∙ k) in
    let same = ap parts_of (sym c.in-Broker.is) ∙ c.last.view_is in
    let kind = subst IsOfKind c.in-Broker.is c.last.invariant in
    settled-joined g.M.Medium _ front c.args.lists.now _ _ _ c.in-Some.last x.0 _ e r.0 c.push_reserved-in-Broker.ensures.items c.settle_all.ensures.settled
    (subst (λ (n : NodeParts _). HasSettled g.M.Medium x.0.items n c.in-Broker.node) same
    ((λ broker. refl), λ repository. absurd (let z : false ≡ true = sym repository ∙ kind in cc z)))
