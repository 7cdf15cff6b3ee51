use Rattle.version_store.proofs.Names.{Image, page_of, state_of, state_with, drop, take, List, ℕ, LastTells, first_sight, next_sight, sheet_on, Sees, refl, IsTrue, None, sym, ◌∙◌, ap, subst, arith}
use Rattle.version_store.proofs.FetchLemmas.{told_is, looking_first, looking_next, first_told, next_told, next_tells, tells_here}
use Rattle.version_store.proofs.GateLemmas.{behind_gate}
use Rattle.version_store.proofs.fetches.find.Goals as goal

-- ---- the place's page

pub returns-in-Told-clause-found : goal.returns-in-Told-clause-found
returns-in-Told-clause-found g c told size =
    let bytes = c.look_into.new.bytes in
    let state = state_with c.in-Ok.gate (take 4095 (drop 1 bytes)) in
    let shut = ap (λ (b : List ℕ). state_with c.in-Ok.gate b) (behind_gate bytes c.look_into.array_long) in
    c.answer.ensures.found
    ∙ first_told (IsTrue g.M.Medium.tells) (g.M.Medium.reads c.args.medium.now) c.args.place state c.args.place.page c.in-Told.told (shut ∙ c.in-Ok.ensures.found told)
    (told_is _ c.in-Told.told (subst (λ s. Sees s (first_sight c.args.place (sheet_on state))) c.in-Told.is c.in-Ok-look_first.ensures.sees))

pub returns-in-Told-clause-tells : goal.returns-in-Told-clause-tells
returns-in-Told-clause-tells g c =
    let bytes = c.look_into.new.bytes in
    let state = state_with c.in-Ok.gate (take 4095 (drop 1 bytes)) in
    let shut = ap (λ (b : List ℕ). state_with c.in-Ok.gate b) (behind_gate bytes c.look_into.array_long) in
    let seen = c.in-Ok.ensures.state in
    let sees = told_is _ c.in-Told.told (subst (λ s. Sees s (first_sight c.args.place (sheet_on state))) c.in-Told.is c.in-Ok-look_first.ensures.sees) in (
      c.args.place.page,
      c.answer.ensures.page,
      subst (λ o. LastTells (g.M.Medium.last_page c.look_into.new.medium) c.args.pages c.args.place.page c.args.place o) (sym c.answer.ensures.found)
          (tells_here _ c.args.pages c.args.place.page c.args.place c.in-Told.told bytes None seen.0 refl (ap (λ s. first_sight c.args.place (sheet_on s)) (sym (shut ∙ seen.1)) ∙ sees)),
    )

pub loop-page-init : goal.loop-page-init
loop-page-init g c =
    let bytes = c.look_into.new.bytes in
    let state = state_with c.in-Ok.gate (take 4095 (drop 1 bytes)) in
    let shut = ap (λ (b : List ℕ). state_with c.in-Ok.gate b) (behind_gate bytes c.look_into.array_long) in
    let seen = c.in-Ok.ensures.state in
    record {
      size = c.look_into.ensures.size;
      open_now = c.in-Ok.ensures.failed;
      later = c.look_into.ensures.cause.later;
      low = omega (arith, c.requires.page);
      reads = c.look_into.ensures.reads;
      crash = c.look_into.ensures.crash;
      stages = c.look_into.ensures.stages;
      looking = looking_first _ (g.M.Medium.reads c.args.medium.now) c.args.place state c.args.place.page _ bytes c.in-Due.pieces seen.0 (shut ∙ seen.1) (λ t. shut ∙ c.in-Ok.ensures.found t.0)
          (subst (λ s. Sees s (first_sight c.args.place (sheet_on state))) c.in-Due.is c.in-Ok-look_first.ensures.sees);
    }

-- ---- a page behind the place's

pub returns-in-Ok-Told-clause-found : goal.returns-in-Ok-Told-clause-found
returns-in-Ok-Told-clause-found g c told size =
    let was = c.loop-page.invariant in
    let look = c.in-Ok-look_into.ensures in
    let seen = look.state in
    let i = c.loop-page.page in
    let bytes = c.look_into-in-loop-page.new.bytes in
    let state = state_with c.in-Ok-look_into.gate (take 4095 (drop 1 bytes)) in
    let shut = ap (λ (b : List ℕ). state_with c.in-Ok-look_into.gate b) (behind_gate bytes c.look_into-in-loop-page.array_long) in
    c.answer-in-Ok-Told.ensures.found
    ∙ next_told _ (g.M.Medium.reads c.args.medium.now) c.args.place state i c.loop-page.pieces.items _ _ was.looking bytes seen.0 (shut ∙ seen.1) c.in-Ok-Told.told (told, size) (omega (arith, size, c.loop-page-test.true))
    (shut ∙ look.found told ∙ ap (λ (r : Image). state_of (page_of r i)) (was.reads told))
    (told_is _ c.in-Ok-Told.told (subst (λ s. Sees s (next_sight was.looking.pieces c.args.place (sheet_on state))) c.in-Ok-Told.field-0-is (c.in-Ok-Told.ensures.sees was.looking.pieces was.looking.stand was.looking.small)))

pub returns-in-Ok-Told-clause-tells : goal.returns-in-Ok-Told-clause-tells
returns-in-Ok-Told-clause-tells g c =
    let was = c.loop-page.invariant in
    let seen = c.in-Ok-look_into.ensures.state in
    let i = c.loop-page.page in
    let bytes = c.look_into-in-loop-page.new.bytes in
    let state = state_with c.in-Ok-look_into.gate (take 4095 (drop 1 bytes)) in
    let shut = ap (λ (b : List ℕ). state_with c.in-Ok-look_into.gate b) (behind_gate bytes c.look_into-in-loop-page.array_long) in
    let sees = told_is _ c.in-Ok-Told.told (subst (λ s. Sees s (next_sight was.looking.pieces c.args.place (sheet_on state))) c.in-Ok-Told.field-0-is (c.in-Ok-Told.ensures.sees was.looking.pieces was.looking.stand was.looking.small)) in
    let tells = next_tells _ (g.M.Medium.reads c.args.medium.now) c.args.place state i c.loop-page.pieces.items _ _ was.looking bytes seen.0 (shut ∙ seen.1) c.args.pages c.in-Ok-Told.told sees in
    (i, c.answer-in-Ok-Told.ensures.page, subst (λ o. LastTells (g.M.Medium.last_page c.look_into-in-loop-page.new.medium) c.args.pages i c.args.place o) (sym c.answer-in-Ok-Told.ensures.found) tells)

pub loop-page-preserved : goal.loop-page-preserved
loop-page-preserved g c =
    let was = c.loop-page.invariant in
    let look = c.in-Ok-look_into.ensures in
    let seen = look.state in
    let i = c.loop-page.page in
    let bytes = c.look_into-in-loop-page.new.bytes in
    let state = state_with c.in-Ok-look_into.gate (take 4095 (drop 1 bytes)) in
    let shut = ap (λ (b : List ℕ). state_with c.in-Ok-look_into.gate b) (behind_gate bytes c.look_into-in-loop-page.array_long) in
    record {
      size = c.look_into-in-loop-page.ensures.size ∙ was.size;
      open_now = look.failed;
      later = omega (arith, was.later, c.look_into-in-loop-page.ensures.cause.later);
      low = omega (arith, c.loop-page-test.true);
      reads = λ told. c.look_into-in-loop-page.ensures.reads told ∙ was.reads told;
      crash = λ told i left. was.crash told i (c.look_into-in-loop-page.ensures.crash told i left);
      stages = λ told. c.look_into-in-loop-page.ensures.stages told ∙ was.stages told;
      looking = looking_next _ (g.M.Medium.reads c.args.medium.now) c.args.place state i c.loop-page.pieces.items _ _ was.looking bytes seen.0 (shut ∙ seen.1) c.in-Ok-Due.more
          (λ t. let size = t.1 in omega (arith, size, c.loop-page-test.true))
          (λ t. shut ∙ look.found t.0 ∙ ap (λ (r : Image). state_of (page_of r i)) (was.reads t.0))
          (subst (λ s. Sees s (next_sight was.looking.pieces c.args.place (sheet_on state))) c.in-Ok-Due.field-0-is (c.in-Ok-Due.ensures.sees was.looking.pieces was.looking.stand was.looking.small));
    }
