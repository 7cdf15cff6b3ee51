-- What the top call promises of serial runs, from the law of serial runs.
use Rattle.serial_law.proofs.Names.{Every, NodeId, ActSpec, Effect, Asked, Tree, Plan, CanRun, Task, tasks, Scripted, Act, tries_of, Trace, acts_of, World, start_world, base_of, in_plan, Try, finals, broker, repository, reading, counted, IsLegal, OpenedWith, AnsweredBefore, Position, RefusedBefore, TickedBefore, happened_before, log_at, olds_at, run_at, sent_before, whole_at, world_at, Serial, KeepsPuts, whole_log, last_values, value_at, Earlier, TickedBy, WereLeftOrRetired, Causes, RunFacts, Has, TimeParts, ObjectId, Value, WriteStep, AnsweredBy, RefusedBy, walk-same, own-reading, walk-known, ◌≡◌, ℕ, zero, suc, ◌≤◌, ◌==◌, nat_le, Bool, true, false, ◌&&◌, List, [], ◌∷◌, ◌++◌, append-nil, length, map, refl, sym, ◌∙◌, ap, subst, if◌then◌else◌, arith, eqb-true, le-leb, reverse, gated_log, HaveReasons, happened_by, Agree, agree-of}
use Rattle.broker_core.specs.Book as books
use Rattle.broker_core.specs.Sound.{Started, OfAct}
use Rattle.world_core.specs.Deeds.{attempt, book_tries, run_tries}
use Rattle.serial_law.proofs.ReasonRuns.{answered-own, reason-same, refused-own}
use Rattle.serial_law.specs.Serials.{AreLate, HoldsFinals, IsSerialOver, olds_in, run_in, whole_in}
use Rattle.broker_laws.proofs.TestLemmas.{and-both}
use Rattle.broker_core.proofs.SoundLemmas.{sound-kept}
use Rattle.broker_core.proofs.SameTurns.{book-same}
use Rattle.serial_law.proofs.OlderReading.{OneReading, older-reading}
use Rattle.serial_law.proofs.SameRuns.{finals-same, last-same, puts-same, serial-same}

-- ---- attempts by two readings

module _ (s s' : List ℕ → Tree) (run : ℕ) (acts : List ActSpec) (h : Scripted s acts) (h' : Scripted s' acts) where
  attempt-same : (t : books.Try) → s t.task.script ≡ s' t.task.script → attempt s t ≡ attempt s' t
  attempt-same t e = ap (λ k. record { stamp = t.stamp; script = k; answers = t.answers; ended = t.end }) e

  tries-at : (task : Task) (r : ℕ) (ts : List books.Try) → Every (λ (t : books.Try). (t.task ≡ task) × (t.run ≡ r)) ts → s task.script ≡ s' task.script → map (attempt s) ts ≡ map (attempt s') ts
  tries-at task r [] k e = refl
  tries-at task r (t ∷ ts) k e = λ i. attempt-same t (subst (λ (x : Task). s x.script ≡ s' x.script) (sym k.0.0) e) i ∷ tries-at task r ts k.1 e i

  map-both : (f : books.Try → Try) (xs ys : List books.Try) → map f (xs ++ ys) ≡ map f xs ++ map f ys
  map-both f [] ys = refl
  map-both f (x ∷ xs) ys = ap (λ l. f x ∷ l) (map-both f xs ys)

  acts-at : (plan : List Task) → Agree s s' plan → (as' : List Act) → Started plan as' → Every OfAct as' → map (attempt s) (tries_of as') ≡ map (attempt s') (tries_of as')
  acts-at plan g [] k o = refl
  acts-at plan g (a ∷ done) k o =
      map-both (attempt s) a.tries (tries_of done)
      ∙ (λ i. tries-at a.task a.run a.tries o.0 (g (length done) a.task k.1) i ++ acts-at plan g done k.0 o.1 i)
      ∙ sym (map-both (attempt s') a.tries (tries_of done))

  if-same : (c : Bool) (x y : List Try) → (c ≡ true → x ≡ y) → (if c then x else []) ≡ (if c then y else [])
  if-same true x y k = k refl
  if-same false x y k = refl

  own-same : (b : ℕ) (log : List Effect) → book_tries s run (counted s b run (tasks (acts_of b acts)) log) ≡ book_tries s' run (counted s' b run (tasks (acts_of b acts)) log)
  own-same b log =
      let g = agree-of s s' b acts h h' in
      let sound = sound-kept s b run (tasks (acts_of b acts)) log in
      if-same ((counted s b run (tasks (acts_of b acts)) log).run == run) _ _ (λ e. acts-at (tasks (acts_of b acts)) g (counted s b run (tasks (acts_of b acts)) log).acts (sound.started (eqb-true _ _ e)) (sound.of_acts (eqb-true _ _ e)))
      ∙ ap (book_tries s' run) (book-same s s' b run (tasks (acts_of b acts)) g log)

  all-same : (f g : NodeId → List Effect) (n : ℕ) → ((b : ℕ) → 1 ≤ b → b ≤ n → f (broker b) ≡ g (broker b)) → run_tries s run acts f n ≡ run_tries s' run acts g n
  unfolding run_tries
  all-same f g zero k = refl
  all-same f g (suc b) k =
      λ i. all-same f g b (λ c low high. k c low (omega (arith, high))) i ++ (own-same (suc b) (f (broker (suc b))) ∙ ap (λ l. book_tries s' run (counted s' (suc b) run (tasks (acts_of (suc b) acts)) l)) (k (suc b) (omega arith) (omega arith))) i

-- ---- a run by its plan

known-log : (c : Bool) (x y : List Effect) → c ≡ true → (if c then x else y) ≡ x
known-log true x y e = refl
known-log false x y e = cc

-- the run stands at the end of a legal trace over a past by one reading, and agrees with it in the logs of its repositories, older and last, and in its attempts
pub record Placed (plan : Plan) (t : Trace) (cs : List Earlier) : Type 0 where
  pub place : Position
  pub repositories : place.plan.repositories ≡ plan.repositories
  pub acts : place.plan.acts ≡ plan.acts
  pub logs : (r : ℕ) → (nat_le 1 r && nat_le r plan.repositories) ≡ true → log_at place (repository r) ≡ reverse (gated_log plan t (repository r))
  pub olds : (n : NodeId) → olds_at place n ≡ olds_in cs n
  pub tries : (run_at place).tries ≡ (run_in plan t).tries
  -- what was answered, refused and ticked there was in this run, or in one of these calls before it
  pub answered : (x : TimeParts) (o : ObjectId) (v : Value) (step : WriteStep) → AnsweredBefore place x o v step → AnsweredBy plan t cs x o v step
  pub refused : (x : TimeParts) (o : ObjectId) (e : TimeParts) → RefusedBefore place x o e → RefusedBy plan t cs x o e
  pub ticked : (m : ℕ) → TickedBefore place m → TickedBy cs t.entries m

pub placed : (plan : Plan) (asked : List Asked) (t : Trace) → CanRun plan → IsLegal plan asked t → (logs : NodeId → List Effect) (left : WereLeftOrRetired logs) → OpenedWith t.opened logs → Placed plan t left.0
placed plan asked t w l logs left agrees =
    let r : OneReading plan asked t logs left.0 = older-reading plan asked t logs w l left in
    let own = own-reading plan w in
    let p : Position = record { script = r.script; plan = plan; asked = asked; trace = t; logs = logs; front = t.entries; rest = []; here = sym (append-nil t.entries); whole = w; past = (left.0, r.are, r.left); agrees = agrees; legal = r.legal } in
    let known : (n : NodeId) → in_plan plan n ≡ true → ((world_at p).flags n).known ≡ true =
    λ n i. walk-known (base_of r.script plan t) (start_world (base_of r.script plan t)) t.entries n ∙ l.nodes.just n ∙ i in
    let there : (n : NodeId) → in_plan plan n ≡ true → log_at p n ≡ reverse (gated_log plan t n) =
    λ n i. ap reverse (known-log ((world_at p).flags n).known _ _ (known n i) ∙ ap (λ (v : World). (v.life n).gated) (walk-same r.script (reading plan.acts) plan r.legal.scripted own t t.entries)) in
    record {
      place = p;
      repositories = refl;
      acts = refl;
      logs = λ r i. there (repository r) i;
      olds = λ n. ap (map reverse) (sym (r.replaced_so n));
      tries = all-same r.script (reading plan.acts) plan.run plan.acts r.legal.scripted own (log_at p) (λ n. reverse (gated_log plan t n)) plan.brokers
          (λ b low high. there (broker b) (and-both (le-leb 1 b low) (le-leb b plan.brokers high)));
      answered = λ x o v step a. answered-own r.script plan t r.legal.scripted own left.0 r.are left.1.1 x o v step a;
      refused = λ x o e a. refused-own r.script plan t r.legal.scripted own left.0 r.are left.1.1 x o e a;
      ticked = λ m h. h;
    }

-- ---- the promises

module _ (plan : Plan) (t : Trace) (cs : List Earlier) (k : Placed plan t cs) where
  -- the logs there, and with all versions that ever stood
  abbrev ends : NodeId → List Effect
  ends = log_at k.place

  abbrev wholes : NodeId → List Effect
  wholes n = whole_log (olds_at k.place n) (log_at k.place n)

  -- what holds of its number of repositories and its attempts holds of those of the run
  to-run : (Q : ℕ → List Try → Type 0) → Q k.place.plan.repositories (run_at k.place).tries → Q plan.repositories (run_in plan t).tries
  to-run Q h = subst (λ ts. Q plan.repositories ts) k.tries (subst (λ n. Q n (run_at k.place).tries) k.repositories h)

  whole-logs : (r : ℕ) → (nat_le 1 r && nat_le r plan.repositories) ≡ true → wholes (repository r) ≡ (whole_in cs plan t).logs (repository r)
  whole-logs r i = λ j. whole_log (k.olds (repository r) j) (k.logs r i j)

  serial-run : Serial (whole_at k.place) → Serial (whole_in cs plan t)
  serial-run h = serial-same plan.repositories wholes (whole_in cs plan t).logs (run_in plan t).tries whole-logs (to-run (λ n ts. Serial (record { repositories = n; logs = wholes; tries = ts })) h)

  puts-run : KeepsPuts (run_at k.place) → KeepsPuts (run_in plan t)
  puts-run h = puts-same plan.repositories ends (run_in plan t).logs (run_in plan t).tries k.logs (to-run (λ n ts. KeepsPuts (record { repositories = n; logs = ends; tries = ts })) h)

  finals-run : (o : ObjectId) → value_at (last_values (run_at k.place)) o ≡ value_at (finals (whole_at k.place)) o → value_at (last_values (run_in plan t)) o ≡ value_at (finals (whole_in cs plan t)) o
  finals-run o h =
      ap (λ m. value_at m o) (sym (last-same plan.repositories ends (run_in plan t).logs (run_in plan t).tries k.logs))
      ∙ to-run (λ n ts. value_at (last_values (record { repositories = n; logs = ends; tries = ts })) o ≡ value_at (finals (record { repositories = n; logs = wholes; tries = ts })) o) h
      ∙ ap (λ m. value_at m o) (finals-same plan.repositories wholes (whole_in cs plan t).logs (run_in plan t).tries whole-logs)

module _ (law : (p : Position) → Serial (whole_at p)) (puts : (p : Position) → KeepsPuts (run_at p)) where
  pub serial-over : (plan : Plan) (asked : List Asked) (t : Trace) → CanRun plan → IsLegal plan asked t → IsSerialOver plan t
  serial-over plan asked t w l logs left agrees = let k = placed plan asked t w l logs left agrees in (serial-run plan t left.0 k (law k.place), puts-run plan t left.0 k (puts k.place))

module _ (law : (p : Position) (o : ObjectId) → value_at (last_values (run_at p)) o ≡ value_at (finals (whole_at p)) o) where
  pub finals-over : (plan : Plan) (asked : List Asked) (t : Trace) → CanRun plan → IsLegal plan asked t → HoldsFinals plan t
  finals-over plan asked t w l logs left agrees o = let k = placed plan asked t w l logs left agrees in finals-run plan t left.0 k o (law k.place o)

module _ (facts : (p : Position) → RunFacts (whole_at p) (sent_before p)) (law : (p : Position) → Causes (run_at p) (olds_at p) (happened_before p)) where
  pub reasons-over : (plan : Plan) (asked : List Asked) (t : Trace) → CanRun plan → IsLegal plan asked t → HaveReasons plan t
  reasons-over plan asked t w l logs left agrees try o j e =
      let k = placed plan asked t w l logs left agrees in
      let there : Has try (run_at k.place).tries = subst (Has try) (sym k.tries) j in
      let f : RunFacts (whole_at k.place) (sent_before k.place) = facts k.place in
      reason-same (run_at k.place) (run_in plan t) (λ r i. k.logs r (subst (λ n. (nat_le 1 r && nat_le r n) ≡ true) k.repositories i)) (olds_at k.place) (olds_in left.0) k.olds (happened_before k.place) (happened_by plan t left.0)
      k.ticked k.answered k.refused try o (f.home try there) (λ q. f.within try try.answers [] q there (sym (append-nil try.answers))) (law k.place try o there e)

module _ (law : (p : Position) (c : ℕ) → Every (λ (a : ActSpec). c ≤ a.clock) p.plan.acts → (try : Try) → Has try (run_at p).tries → c ≤ try.stamp.clock) where
  pub late-over : (plan : Plan) (asked : List Asked) (t : Trace) → CanRun plan → IsLegal plan asked t → AreLate plan t
  late-over plan asked t w l logs left agrees c all try h =
      let k = placed plan asked t w l logs left agrees in
      law k.place c (subst (Every (λ (a : ActSpec). c ≤ a.clock)) (sym k.acts) all) try (subst (Has try) (sym k.tries) h)
