use Rattle.plan_volumes.proofs.Names.{AllZip, length_push, medium_in, node_at, IsAside, rules, ◌∙◌, ap, subst, length, map, arith}
use Rattle.plan_volumes.proofs.KeepLemmas.{nodes-joined, none-joined, zip-last}
use Rattle.plan_volumes.proofs.keeping.+keep_nodes.Goals as goal

pub put_back-requires : goal.put_back-requires
put_back-requires g t c =
    let r = zip-last IsAside c.requires.asides.0 c.pop.new.self.items c.in-Some.aside (subst (AllZip IsAside c.requires.asides.0) c.in-Some.ensures.items c.requires.asides.1) in
    let place = r.at.place in
    record { place = omega (arith, place, c.in-Some.aside.rest.ok) }

pub keep_openings-requires-clause-few : goal.keep_openings-requires-clause-few
keep_openings-requires-clause-few g t c =
    let r = zip-last IsAside c.requires.asides.0 c.pop.new.self.items c.in-Some.aside (subst (AllZip IsAside c.requires.asides.0) c.in-Some.ensures.items c.requires.asides.1) in
    let few = r.at.few in
    omega (arith, few, c.put_back.ensures.count, c.in-Some.aside.rest.ok)

pub keep_openings-requires-clause-room : goal.keep_openings-requires-clause-room
keep_openings-requires-clause-room g t c =
    let r = zip-last IsAside c.requires.asides.0 c.pop.new.self.items c.in-Some.aside (subst (AllZip IsAside c.requires.asides.0) c.in-Some.ensures.items c.requires.asides.1) in
    let few = r.at.few in
    let long = ap length c.in-Some.ensures.items ∙ length_push c.pop.new.self.items c.in-Some.aside in
    omega (arith, few, long, c.put_back.ensures.count, c.in-Some.aside.rest.ok, c.keep_nodes-kept.ensures.few, c.keep_nodes-kept.ensures.room, c.requires.room, c.args.asides.ok, c.pop.new.self.ok)

pub returns-clause-few : goal.returns-clause-few
returns-clause-few g t c =
    let r = zip-last IsAside c.requires.asides.0 c.pop.new.self.items c.in-Some.aside (subst (AllZip IsAside c.requires.asides.0) c.in-Some.ensures.items c.requires.asides.1) in
    let few = r.at.few in
    let long = ap length c.in-Some.ensures.items ∙ length_push c.pop.new.self.items c.in-Some.aside in
    omega (arith, few, long, c.put_back.ensures.count, c.in-Some.aside.rest.ok, c.keep_nodes-kept.ensures.few, c.keep_openings.ensures.few, c.args.asides.ok, c.pop.new.self.ok)

pub returns-in_default-clause-kept : goal.returns-in_default-clause-kept
returns-in_default-clause-kept g t c volumes zip =
    none-joined c.args.plan.now volumes c.args.asides.items c.args.media.items c.args.kept.items zip (omega (arith, c.in_default.ensures.cases.0, c.args.asides.ok)) c.requires.empty

pub keep_nodes-kept-requires : goal.keep_nodes-kept-requires
keep_nodes-kept-requires g t c κs within =
    let r = zip-last IsAside c.requires.asides.0 c.pop.new.self.items c.in-Some.aside (subst (AllZip IsAside c.requires.asides.0) c.in-Some.ensures.items c.requires.asides.1) in
    let long = ap length c.in-Some.ensures.items ∙ length_push c.pop.new.self.items c.in-Some.aside in
    let many = ap length c.in-Some-pop.ensures.items ∙ length_push c.pop-2.new.self.items c.in-Some-pop.medium in (
      search rules,
      (
        within,
        (
          c.requires.plan,
          (
            (r.front, r.before),
            (
              omega (arith, c.requires.within, long, c.args.asides.ok, c.pop.new.self.ok),
              (omega (arith, c.requires.count, long, many, c.args.asides.ok, c.pop.new.self.ok, c.args.media.ok, c.pop-2.new.self.ok), (c.requires.empty, omega (arith, c.requires.room, long, c.args.asides.ok, c.pop.new.self.ok))),
            ),
          ),
        ),
      ),
    )

pub returns-clause-kept : goal.returns-clause-kept
returns-clause-kept g t c volumes zip =
    let plan = c.args.plan.now in
    let long = ap length c.in-Some.ensures.items ∙ length_push c.pop.new.self.items c.in-Some.aside in
    let many = ap length c.in-Some-pop.ensures.items ∙ length_push c.pop-2.new.self.items c.in-Some-pop.medium in
    nodes-joined plan volumes c.args.asides.items c.pop.new.self.items c.in-Some.aside c.args.media.items c.pop-2.new.self.items c.in-Some-pop.medium c.keep_nodes-kept.result.items c.keep_openings.result.items c.node_at.result
    (length c.put_back.result.items) (map medium_in c.put_back.result.items) zip c.in-Some.ensures.items c.in-Some-pop.ensures.items (omega (arith, c.requires.count, long, many, c.args.asides.ok, c.args.media.ok))
    (c.node_at.ensures.place ∙ ap (node_at plan) (omega (arith, c.len-place.ensures, c.pop.new.self.ok))) c.keep_nodes-kept.ensures.kept (omega (arith, c.put_back.ensures.count, c.put_back.result.ok, c.in-Some.aside.rest.ok)) c.put_back.ensures.back
    c.keep_openings.ensures.kept
