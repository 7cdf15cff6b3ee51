use Rattle.version_store.proofs.Names.{Image, state_of, state_with, drop, take, PageState, Effect, AreEffects, HeldFit, reading_of, Held, Heads, IsFound, Content, content_of, Reading, Damaged, next, rules, refl, ◌≡◌, ◌+◌, ◌<◌, ◌≤◌, Bool, true, false, cond, ℕ, Option, List, [], length, get_or, sym, ◌∙◌, ap, subst, arith, MatchBool}
use Rattle.version_store.specs.declared.faults.OpenFault.TheVariants as faults
use Rattle.version_store.proofs.ScanLemmas.{scan_more, scan_damaged}
use Rattle.version_store.proofs.OpenLemmas.{reached_more}
use Rattle.version_store.proofs.GateLemmas.{behind_gate}
use Rattle.version_store.proofs.openings.read_pages.Goals as goal

same_page : (i page : ℕ) → faults.Damaged i ≡ faults.Damaged page → i ≡ page
same_page i page is = cc is

cond_low : (b : Bool) (m n : ℕ) → m ≤ n → cond b m n ≤ n
cond_low true m n le = le
cond_low false m n le = omega arith

module _ (b : Bool) (reading : Reading) (ended : Bool) (heads : Heads) (effects : List Effect) (held : Option Held) (page : ℕ) where
  when_good : b ≡ true → MatchBool b ((more : Content) × (reading ≡ reading_of ended more) × IsFound heads effects more.log × HeldFit held more.held) (reading ≡ Damaged page) → (more : Content) × (reading ≡ reading_of ended more) × IsFound heads effects more.log × HeldFit held more.held
  when_good is met = subst (λ (q : Bool). MatchBool q ((more : Content) × (reading ≡ reading_of ended more) × IsFound heads effects more.log × HeldFit held more.held) (reading ≡ Damaged page)) is met

  when_bad : b ≡ false → MatchBool b ((more : Content) × (reading ≡ reading_of ended more) × IsFound heads effects more.log × HeldFit held more.held) (reading ≡ Damaged page) → reading ≡ Damaged page
  when_bad is met = subst (λ (q : Bool). MatchBool q ((more : Content) × (reading ≡ reading_of ended more) × IsFound heads effects more.log × HeldFit held more.held) (reading ≡ Damaged page)) is met

pub returns-then-not-good-clause-damaged : goal.returns-then-not-good-clause-damaged
returns-then-not-good-clause-damaged g c told size page is =
    let i = c.loop-page.page in
    let r = g.M.Medium.reads c.args.medium.now in
    let was = c.loop-page.invariant.found told size in
    let within : i < length r = omega (arith, size, c.loop-page-test.true) in
    let state = state_with c.in-Ok.gate (take 4095 (drop 1 c.look_into.new.bytes)) in
    let read : state ≡ state_of (get_or r i []) = ap (λ b. state_with c.in-Ok.gate b) (behind_gate c.look_into.new.bytes c.look_into.array_long) ∙ c.in-Ok.ensures.found told ∙ ap (λ (l : Image). state_of (get_or l i [])) (c.loop-page.invariant.reads told) in
    let bad = when_bad c.in-Ok-add_state.good _ _ _ _ _ _ c.if-not-good.true (c.in-Ok-add_state.ensures.found was.content was.stands was.pieces) in
    scan_damaged r (i + 1) page (scan_more r i within ∙ ap (λ z. next z i (state_of (get_or r i []))) was.reading ∙ ap (λ (s : PageState). next (reading_of c.loop-page.found.ended was.content) i s) (sym read) ∙ bad ∙ ap (λ (k : ℕ). Damaged k) (same_page i page is))

pub loop-page-init : goal.loop-page-init
loop-page-init g c = record {
  size = refl;
  low = omega arith;
  places = search rules;
  below = search rules;
  held = tt;
  ranges = subst AreEffects (sym c.new-2.ensures.items) tt;
  open_now = c.requires.open;
  later = omega arith;
  reads = λ told. refl;
  crash = λ told i left. left;
  stages = λ told. refl;
  found = λ told size. record { content = content_of []; stands = record { heads_fit = search rules; effects_are = c.new-2.ensures.items }; pieces = tt; front = refl; reading = refl; blank = refl; within = omega arith };
}

pub loop-page-preserved : goal.loop-page-preserved
loop-page-preserved g c = record {
  size = c.look_into.ensures.size ∙ c.loop-page.invariant.size;
  low = subst (λ (k : ℕ). k ≤ c.loop-page.page + 1) (sym (c.in-Ok-add_state.ensures.next c.if-not-good.false)) (cond_low c.add_state.new.found.ended c.loop-page.found.next (c.loop-page.page + 1) (omega (arith, c.loop-page.invariant.low)));
  places = c.in-Ok-add_state.ensures.places;
  below = c.in-Ok-add_state.ensures.below c.args.pages (omega (arith, c.loop-page-test.true)) c.loop-page.invariant.below;
  held = c.in-Ok-add_state.ensures.held;
  ranges = c.in-Ok-add_state.ensures.ranges c.loop-page.invariant.ranges;
  open_now = c.in-Ok.ensures.failed;
  later = omega (arith, c.loop-page.invariant.later, c.look_into.ensures.cause.later);
  reads = λ told. c.look_into.ensures.reads told ∙ c.loop-page.invariant.reads told;
  crash = λ told i left. c.loop-page.invariant.crash told i (c.look_into.ensures.crash told i left);
  stages = λ told. c.look_into.ensures.stages told ∙ c.loop-page.invariant.stages told;
  found = λ told size.
      let i = c.loop-page.page in
      let r = g.M.Medium.reads c.args.medium.now in
      let f = c.loop-page.found in
      let was = c.loop-page.invariant.found told size in
      let within : i < length r = omega (arith, size, c.loop-page-test.true) in
      let state = state_with c.in-Ok.gate (take 4095 (drop 1 c.look_into.new.bytes)) in
      let read : state ≡ state_of (get_or r i []) = ap (λ b. state_with c.in-Ok.gate b) (behind_gate c.look_into.new.bytes c.look_into.array_long) ∙ c.in-Ok.ensures.found told ∙ ap (λ (l : Image). state_of (get_or l i [])) (c.loop-page.invariant.reads told) in
      let now = c.add_state.new.found in
      let good = when_good c.in-Ok-add_state.good (next (reading_of f.ended was.content) i state) now.ended now.heads now.effects.items now.held i c.if-not-good.false (c.in-Ok-add_state.ensures.found was.content was.stands was.pieces) in
      reached_more r i f.heads now.heads f.effects.items now.effects.items f.held now.held f.next now.next f.ended now.ended within was
      (subst (λ (s : PageState). (more : Content) × (next (reading_of f.ended was.content) i s ≡ reading_of now.ended more) × IsFound now.heads now.effects.items more.log × HeldFit now.held more.held) read good) (c.in-Ok-add_state.ensures.next c.if-not-good.false);
}
