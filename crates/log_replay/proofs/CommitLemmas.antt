-- What a log says first of an attempt is whether it commits it.
use Rattle.std.proofs.Common.{◌≡◌, ◌≤◌, ℕ, zero, suc, ◌-◌, Bool, true, false, List, [], ◌∷◌, ◌++◌, ◌<◌, ◌+◌, take, get_or, reverse, refl, sym, ◌∙◌, ap, subst, Option, Some, None, arith, length}
use Rattle.std.specs.Prelude.{◌&&◌, ◌||◌, not, is_some, if◌then◌else◌, cond, slice_get, nat_le}
use Rattle.std.proofs.lemmas.Bool.{false≢true, le-leb, true≢false}
use Rattle.object_history.proofs.BoolLemmas.{and-both}
use Rattle.std.proofs.lemmas.Cmp.{eq_by_cmp_equiv}
use Rattle.std.proofs.Math.Seq.{take-suc}
use Rattle.std.proofs.lemmas.List.{map-append}
use Rattle.std.specs.Global.{Vec}
use Rattle.std.specs.Ordering.{is_eq}
use Rattle.std.specs.FinMap as finite
use Rattle.std.specs.FinMap.{get-empty, get-insert}
use Rattle.pseudo_time.specs.StampParts.{StampParts, stamp_cmp}
use Rattle.pseudo_time.specs.declared.decisions.Decision.{Decision}
use Rattle.pseudo_time.specs.declared.decisions.Decision.TheVariants as decision
use Rattle.pseudo_time.proofs.OrderLemmas.{same_stamp-is, stamp_cmp-total}
unfoldable use Rattle.pseudo_time.specs.Order.{same_stamp}
use Rattle.effect_form.specs.declared.effects.Effect.{Effect}
use Rattle.effect_form.specs.declared.effects.Effect.TheVariants as effect
use Rattle.object_history.specs.History.{or_else}
use Rattle.object_history.specs.Kept.{Settled}
use Rattle.repository_log.specs.Logs.{first_said, is_commit}
unfoldable use Rattle.repository_core.specs.Logs.{knows}
unfoldable use Rattle.world_core.specs.Deeds.{committed, has_commit}
use Rattle.world_core.specs.Deeds.{RunLogs, has_learned, in_run, log_of, some_of}
use Rattle.log_replay.specs.Commits.{AreCommits, AreSaid, is_said, said_by}
unfoldable use Rattle.log_replay.specs.Commits.{first_of}
use Rattle.log_replay.specs.Folders.{items_of, log_at}
use Rattle.log_replay.specs.Telling.{AreDecided, said_at}

pub said-none : (said : Settled) → said ≡ finite.empty → AreSaid [] said
unfolding first_of
said-none said e s = ap (λ z. finite.get z s) e ∙ get-empty stamp_cmp s

pub said-same : (said : Settled) (log : List Effect) (f : Effect) → said_by f ≡ None → AreSaid log said → AreSaid (f ∷ log) said
unfolding first_of
said-same said log f e h s = h s ∙ ap (λ z. first_said z (first_of log s) s) (sym e)

pub nothing-said : (f : Effect) → ((t : StampParts) (d : Decision) → f ≡ effect.Decide t d → ⊥) → ((t : StampParts) (c : Bool) → f ≡ effect.Learn t c → ⊥) → said_by f ≡ None
nothing-said (effect.Decide t d) h k = absurd (h t d refl)
nothing-said (effect.Learn t c) h k = absurd (k t c refl)
nothing-said f h k = refl

first_entry : (b x : Bool) (r u : Option Bool) → (b ≡ true → u ≡ None) → r ≡ u → cond b (Some x) r ≡ (if b then or_else u x else u)
first_entry true x r u h e = ap (λ z. or_else z x) (sym (h refl))
first_entry false x r u h e = e

later_entry : (b x y : Bool) (u : Option Bool) → (b ≡ true → u ≡ Some y) → u ≡ (if b then or_else u x else u)
later_entry true x y u h = h refl ∙ ap (λ z. or_else z x) (sym (h refl))
later_entry false x y u h = refl

pub said-new : (said new : Settled) (log : List Effect) (f : Effect) (t : StampParts) (x : Bool) (r : Option Bool) → said_by f ≡ Some (t, x) → r ≡ finite.get said t → is_some r ≡ false → new ≡ finite.insert said t x →
    AreSaid log said → AreSaid (f ∷ log) new
unfolding first_of same_stamp
said-new said new log f t x (Some y) e is none put h s = absurd (true≢false none)
said-new said new log f t x None e is none put h s =
    ap (λ z. finite.get z s) put ∙ get-insert stamp_cmp-total said t x s ∙ ap (λ b. cond b (Some x) (finite.get said s)) ((eq_by_cmp_equiv stamp_cmp-total).symm s t)
    ∙ first_entry (is_eq (stamp_cmp t s)) x (finite.get said s) (first_of log s) (λ k. ap (first_of log) (sym (same_stamp-is t s k)) ∙ sym (is ∙ h t)) (h s)
    ∙ ap (λ z. first_said z (first_of log s) s) (sym e)

pub said-again : (said : Settled) (log : List Effect) (f : Effect) (t : StampParts) (x : Bool) (r : Option Bool) → said_by f ≡ Some (t, x) → r ≡ finite.get said t → is_some r ≡ true → AreSaid log said → AreSaid (f ∷ log) said
unfolding first_of same_stamp
said-again said log f t x None e is some h s = absurd (false≢true some)
said-again said log f t x (Some y) e is some h s =
    h s ∙ later_entry (is_eq (stamp_cmp t s)) x y (first_of log s) (λ k. ap (first_of log) (sym (same_stamp-is t s k)) ∙ sym (is ∙ h t)) ∙ ap (λ z. first_said z (first_of log s) s) (sym e)

-- ---- what is known

known-step : (b x : Bool) (r : Option Bool) → (b || is_some r) ≡ is_some (if b then or_else r x else r)
known-step true x None = refl
known-step true x (Some y) = refl
known-step false x r = refl

knows-is : (log : List Effect) (s : StampParts) → knows log s ≡ is_some (first_of log s)
unfolding knows first_of
knows-is [] s = refl
knows-is (effect.Decide t d ∷ log) s = ap (λ z. same_stamp t s || z) (knows-is log s) ∙ known-step (same_stamp t s) (is_commit d) (first_of log s)
knows-is (effect.Learn t c ∷ log) s = ap (λ z. same_stamp t s || z) (knows-is log s) ∙ known-step (same_stamp t s) false (first_of log s)
knows-is (f ∷ log) s = knows-is log s

commit-step : (b : Bool) (r : Option Bool) → ((b && not (is_some r)) || is_said r) ≡ is_said (if b then or_else r true else r)
commit-step true None = refl
commit-step true (Some y) = refl
commit-step false r = refl

not-commit : (b : Bool) (r : Option Bool) → is_said r ≡ is_said (if b then or_else r false else r)
not-commit true None = refl
not-commit true (Some y) = refl
not-commit false r = refl

pub commit-is : (log : List Effect) (s : StampParts) → has_commit s log ≡ is_said (first_of log s)
unfolding has_commit first_of
commit-is [] s = refl
commit-is (effect.Decide t decision.Committed ∷ log) s =
    ap (λ z. (same_stamp t s && not z) || has_commit s log) (knows-is log s) ∙ ap (λ z. (same_stamp t s && not (is_some (first_of log s))) || z) (commit-is log s) ∙ commit-step (same_stamp t s) (first_of log s)
commit-is (effect.Decide t decision.Withdrawn ∷ log) s = commit-is log s ∙ not-commit (same_stamp t s) (first_of log s)
commit-is (effect.Decide t (decision.Expired d m) ∷ log) s = commit-is log s ∙ not-commit (same_stamp t s) (first_of log s)
commit-is (effect.Learn t c ∷ log) s = commit-is log s ∙ not-commit (same_stamp t s) (first_of log s)
commit-is (f ∷ log) s = commit-is log s

-- ---- sixteen logs

said-by : (logs : List (List Effect)) (commits : List Settled) → AreCommits logs commits → (n : ℕ) (s : StampParts) → suc n ≤ length logs → said_at (slice_get commits n) s ≡ is_said (first_of (reverse (log_at logs (suc n))) s)
said-by [] [] h n s l = absurd (omega (arith, l))
said-by [] (c ∷ commits) h n s l = absurd h
said-by (log ∷ logs) [] h n s l = absurd h
said-by (log ∷ logs) (c ∷ commits) h zero s l = ap is_said (h.0 s)
said-by (log ∷ logs) (c ∷ commits) h (suc n) s l = said-by logs commits h.1 n s (omega (arith, l))

by-home : (logs : List (List Effect)) (commits : List Settled) → AreCommits logs commits → (n : ℕ) (s : StampParts) → 1 ≤ n → n ≤ length logs → said_at (slice_get commits (n - 1)) s ≡ is_said (first_of (reverse (log_at logs n)) s)
by-home logs commits h zero s l m = absurd (omega (arith, l))
by-home logs commits h (suc n) s l m = let e : suc n - 1 ≡ n = omega arith in ap (λ z. said_at (slice_get commits z) s) e ∙ said-by logs commits h n s m

pub inside-run : (k : RunLogs) (r : ℕ) → 1 ≤ r → r ≤ k.repositories → in_run k r ≡ true
inside-run k r h j = and-both (nat_le 1 r) (nat_le r k.repositories) (le-leb 1 r h) (le-leb r k.repositories j)

pub are-decided : (k : RunLogs) (logs : List (List Effect)) (commits : List Settled) → k.repositories ≡ 16 → length logs ≡ 16 → ((r : ℕ) → log_of k r ≡ reverse (log_at logs r)) → AreCommits logs commits → AreDecided k commits
unfolding committed
are-decided k logs commits n m e h s i =
    let low : 1 ≤ s.home = i.home_low in
    let high : s.home ≤ 16 = i.home_high in
    let inside : in_run k s.home ≡ true = inside-run k s.home low (omega (arith, n, high)) in
    by-home logs commits h s.home s low (omega (arith, m, high))
    ∙ (sym (commit-is (reverse (log_at logs s.home)) s) ∙ (ap (has_commit s) (sym (e s.home)) ∙ sym (ap (λ (b : Bool). if b then has_commit s (log_of k s.home) else some_of k.repositories (λ r. has_learned s (log_of k r))) inside)))

-- one log more
pub commits-more : (logs : List (List Effect)) (commits : List Settled) (log : List Effect) (said : Settled) → AreCommits logs commits → AreSaid (reverse log) said → AreCommits (logs ++ log ∷ []) (commits ++ said ∷ [])
commits-more [] [] log said h k = (k, tt)
commits-more [] (c ∷ commits) log said h k = absurd h
commits-more (l ∷ logs) [] log said h k = absurd h
commits-more (l ∷ logs) (c ∷ commits) log said h k = (h.0, commits-more logs commits log said h.1 k)

pub commits-step : (logs : List (Vec Effect)) (i : ℕ) (log : Vec Effect) (effects : List Effect) (old new : List Settled) (said : Settled) → i < length logs → log ≡ get_or logs i log → effects ≡ log.items → AreSaid (reverse effects) said →
    new ≡ old ++ said ∷ [] → AreCommits (items_of (take i logs)) old → AreCommits (items_of (take (i + 1) logs)) new
commits-step logs i log effects old new said low is same k e h =
    let one : i + 1 ≡ suc i = omega arith in
    let next : take (i + 1) logs ≡ take i logs ++ log ∷ [] = ap (λ n. take n logs) one ∙ (take-suc logs i log low ∙ ap (λ (z : Vec Effect). take i logs ++ z ∷ []) (sym is)) in
    let lists : items_of (take (i + 1) logs) ≡ items_of (take i logs) ++ log.items ∷ [] = ap items_of next ∙ map-append (λ (l : Vec Effect). l.items) (take i logs) (log ∷ []) in
    subst (λ (z : List (List Effect)). AreCommits z new) (sym lists) (subst (AreCommits (items_of (take i logs) ++ log.items ∷ [])) (sym e)
    (commits-more (items_of (take i logs)) old log.items said h (subst (λ (l : List Effect). AreSaid (reverse l) said) same k)))
