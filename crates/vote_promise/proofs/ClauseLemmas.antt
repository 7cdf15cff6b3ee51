-- What a legal trace and media that keep its logs come to.
use Rattle.vote_promise.proofs.Names.{◌≡◌, ℕ, ◌≤◌, Bool, true, false, List, [], ◌∷◌, ◌++◌, take, drop, length, inl, inr, refl, sym, ap, subst, ◌∙◌, ◌⊎◌, Option, Some, None, Ok, ◌&&◌, is_some, IsTrue, if◌then◌else◌, append_assoc, take-append-drop, Has, DownCause, NodeId, Effect, Asked, Fate, MemberNumber, member, held, IsDecided, Line, Member, Entry, Take, Go, Learn, Hear, Gate, Crash, Down, Tick, Trace, fates_of, Flags, flagged, is_down, names, same_is, same_node-refl, same_node, Media, Base, Hall, line_at, log_at, member_on, no_line, start_hall, step, walk_from, IsOfDowns, Legal, Meets, Rule, WasNotOpened, base_of, hall_after, at-if, causes-front, decisions-caused, flagged-up, walk-append, meets-parts, HasEnded, HasRunOut, HoldsDecide, IsKept, KeepsLog, RestoresLogs, StandOnMedia, TwoHold, HaveCausesOnMedia, AllHold, gated_log, open_effects}
use Rattle.std.specs.Option.{unwrap_or}
use Rattle.pseudo_time.proofs.ListLemmas.{has-left}
use Rattle.pseudo_time.specs.StampParts.{StampParts}
use Rattle.effect_form.specs.declared.effects.Effect.TheVariants as effect
use Rattle.message_core.specs.Tallies.{numbered}
use Rattle.vote_law.specs.Causes.{HaveCauses}
use Rattle.vote_law.specs.Replays.{TwoDecided}
use Rattle.vote_law.proofs.ReplayLemmas.{two-decided}

-- ---- a member that wasn't opened has no log

-- the node isn't up, and the member's log is this
pub record IsOut (s : MemberNumber) (log : List Effect) (h : Hall) : Type 0 where
  pub down : (h.flags (member s)).up ≡ false
  pub gated : (h.members s).gated ≡ log

not-up : (t : Bool) → (t ≡ true → ⊥) → t ≡ false
not-up true f = absurd (f refl)
not-up false f = refl

pub clash : (t : Bool) → t ≡ false → t ≡ true → ⊥
clash t e f = let k : false ≡ true = sym e ∙ f in cc k

module _ (b : Base) (fates : List Fate) (s : MemberNumber) (log : List Effect) where
  still-out : (h : Hall) (e : Entry) → IsOut s log h → Rule b fates h e → IsOut s log (step b h e)
  still-out h e o r = record {
    down = not-up ((step b h e).flags (member s)).up
        (λ up. clash (h.flags (member s)).up o.down
        (at-if (λ (f : Flags). f.up ≡ true → (h.flags (member s)).up ≡ true) (names (member s) e && (h.flags (member s)).known) (flagged h.last (member s).kind (h.flags (member s)) e) (h.flags (member s))
        (λ is. flagged-up h.last (member s).kind (h.flags (member s)) e) (λ up. up) up));
    gated = at-if (λ (m : Member). m.gated ≡ log) (names (member s) e) (member_on b h (h.members s) e) (h.members s) (λ is. kept e r is) o.gated;
  }
    where
      named : (n : NodeId) → same_node n (member s) ≡ true → (h.flags n).up ≡ true → ⊥
      named n is up = clash (h.flags (member s)).up o.down (subst (λ z. (h.flags z).up ≡ true) (same_is n (member s) is) up)

      kept : (e : Entry) → Rule b fates h e → names (member s) e ≡ true → (member_on b h (h.members s) e).gated ≡ log
      kept (Take n number) r is = absurd (named n is r.up)
      kept (Go n) r is = o.gated
      kept (Learn n stamp committed) r is = absurd r
      kept (Hear n) r is = absurd (named n is r.up)
      kept (Gate n) r is = absurd (named n is r.up)
      kept (Crash n k) r is = absurd (named n is r.1.up)
      kept (Down n cause) r is = o.gated
      kept (Tick moment) r is = o.gated

  stays-out : (h : Hall) (es : List Entry) → IsOut s log h → Meets b fates h es → IsOut s log (walk_from b h es)
  unfolding Meets walk_from
  stays-out h [] o m = o
  stays-out h (e ∷ es) o m = stays-out (step b h e) es (still-out h e o m.0) m.1

-- Downs alone leave the logs, and nothing has moved
pub record IsFresh (b : Base) (h : Hall) : Type 0 where
  pub still : h.moved ≡ false
  pub logs : (s : MemberNumber) → (h.members s).gated ≡ log_at b.opened s
  pub known : (n : NodeId) → (h.flags n).up ≡ true → (h.flags n).known ≡ true

module _ (b : Base) (fates : List Fate) where
  fresh-down : (h : Hall) (e : Entry) → is_down e ≡ true → IsFresh b h → IsFresh b (step b h e)
  fresh-down h (Take n number) d f = absurd (clash false refl d)
  fresh-down h (Go n) d f = absurd (clash false refl d)
  fresh-down h (Learn n stamp committed) d f = absurd (clash false refl d)
  fresh-down h (Hear n) d f = absurd (clash false refl d)
  fresh-down h (Gate n) d f = absurd (clash false refl d)
  fresh-down h (Crash n k) d f = absurd (clash false refl d)
  fresh-down h (Down n cause) d f = record {
    still = f.still;
    logs = λ s. at-if (λ (m : Member). m.gated ≡ log_at b.opened s) (names (member s) (Down n cause)) (h.members s) (h.members s) (λ is. f.logs s) (f.logs s);
    known = λ m. at-if (λ (g : Flags). g.up ≡ true → g.known ≡ true) (names m (Down n cause) && (h.flags m).known) (flagged h.last m.kind (h.flags m) (Down n cause)) (h.flags m) (λ is up. absurd (clash false refl up)) (f.known m);
  }
  fresh-down h (Tick moment) d f = absurd (clash false refl d)

  fresh-downs : (h : Hall) (es : List Entry) → IsOfDowns es → IsFresh b h → IsFresh b (walk_from b h es)
  unfolding walk_from
  fresh-downs h [] d f = f
  fresh-downs h (e ∷ es) d f = fresh-downs (step b h e) es d.1 (fresh-down h e d.0 f)

  -- the Down of a member at a place where nothing has moved
  falls : (h : Hall) (s : MemberNumber) (cause : DownCause) → IsFresh b h → Rule b fates h (Down (member s) cause) → IsOut s [] (step b h (Down (member s) cause))
  falls h s cause f r =
      let none : log_at b.opened s ≡ [] = r.1.none f.still in
      record {
        down = ap (λ z. (if z && (h.flags (member s)).known then flagged h.last (member s).kind (h.flags (member s)) (Down (member s) cause) else h.flags (member s)).up) (same_node-refl (member s))
            ∙ ap (λ z. (if z then flagged h.last (member s).kind (h.flags (member s)) (Down (member s) cause) else h.flags (member s)).up) (f.known (member s) r.1.up);
        gated = at-if (λ (m : Member). m.gated ≡ []) (names (member s) (Down (member s) cause)) (h.members s) (h.members s) (λ is. f.logs s ∙ none) (f.logs s ∙ none);
      }

  pub unopened-from : (s : MemberNumber) (front rest : List Entry) (cause : DownCause) → IsOfDowns front → Meets b fates (start_hall b) (front ++ Down (member s) cause ∷ rest) → IsOut s [] (walk_from b (start_hall b) (front ++ Down (member s) cause ∷ rest))
  unfolding Meets walk_from
  unopened-from s front rest cause downs m =
      let parts : Meets b fates (start_hall b) front × Meets b fates (walk_from b (start_hall b) front) (Down (member s) cause ∷ rest) = meets-parts b fates (start_hall b) front (Down (member s) cause ∷ rest) m in
      let fresh : IsFresh b (walk_from b (start_hall b) front) = fresh-downs (start_hall b) front downs (record { still = refl; logs = λ k. refl; known = λ n up. up }) in
      let out : IsOut s [] (step b (walk_from b (start_hall b) front) (Down (member s) cause)) = falls (walk_from b (start_hall b) front) s cause fresh parts.1.0 in
      subst (IsOut s []) (sym (walk-append b (start_hall b) front (Down (member s) cause ∷ rest)))
      (stays-out b fates s [] (step b (walk_from b (start_hall b) front) (Down (member s) cause)) rest out parts.1.1)

unopened-log : (lines : List Line) (asked : List Asked) (t : Trace) (s : MemberNumber) → Legal lines asked t → WasNotOpened t.entries (member s) → gated_log lines t s ≡ []
unopened-log lines asked t s legal (front, rest, cause, is, downs) =
    let out : IsOut s [] (walk_from (base_of lines t) (start_hall (base_of lines t)) (front ++ Down (member s) cause ∷ rest))
    = unopened-from (base_of lines t) (fates_of t.sent) s front rest cause downs (subst (Meets (base_of lines t) (fates_of t.sent) (start_hall (base_of lines t))) is legal.meets) in
    ap (λ es. ((walk_from (base_of lines t) (start_hall (base_of lines t)) es).members s).gated) is ∙ out.gated

-- a member that decided was opened
was-opened : (lines : List Line) (asked : List Asked) (t : Trace) (s : MemberNumber) (x : StampParts) (c : Bool) → Legal lines asked t → IsDecided (gated_log lines t s) x c → WasNotOpened t.entries (member s) → ⊥
was-opened lines asked t s x c legal d out = subst (Has (effect.Decide x d.0)) (unopened-log lines asked t s legal out) d.2

-- ---- the clauses

line-is : (lines : List Line) (i : ℕ) (l : Line) → numbered lines i ≡ Some l → line_at lines i ≡ l
line-is lines i l e = ap (λ o. unwrap_or o no_line) e

pub some-one : {X : Type 0} (o : Option X) (x y : X) → o ≡ Some x → o ≡ Some y → x ≡ y
some-one {X} o x y e f = let k : ◌≡◌ {A = Option X} (Some x) (Some y) = sym e ∙ f in cc k

module _ {M : Type 0} (w : Media M) (lines : List Line) (asked : List Asked) (t : Trace) (media left : MemberNumber → Option M) (tells : IsTrue w.tells) (legal : Legal lines asked t) (r : RestoresLogs w lines media left t) where
  holds : (s : MemberNumber) (x : StampParts) (c : Bool) → IsDecided (gated_log lines t s) x c → HoldsDecide w lines left s x c
  holds s x c d =
      let o : (old : M) × (new : M) × ((media s ≡ Some old) × (left s ≡ Some new)) × (IsTrue w.tells → KeepsLog w lines t s old new) = r.opened s (was-opened lines asked t s x c legal d) in (
        o.1,
        o.2.1,
        λ image i. let k : IsKept (gated_log lines t s) (open_effects lines t s) image = (o.3 tells).images image i in
            (gated_log lines t s ++ take k.kept (open_effects lines t s), k.is, (d.0, d.1, has-left (gated_log lines t s) (take k.kept (open_effects lines t s)) (effect.Decide x d.0) d.2)),
      )

  pub stand : StandOnMedia w lines left t
  stand i l c there h =
      let two : TwoDecided (hall_after lines t) (line_at lines i).stamp c = two-decided lines asked t i c legal h in
      subst (λ (z : Line). TwoHold w lines left z.stamp c) (line-is lines i l there)
      (record { one = two.one; other = two.other; apart = two.apart; one_holds = holds two.one (line_at lines i).stamp c two.one_decided; other_holds = holds two.other (line_at lines i).stamp c two.other_decided })

  pub caused : HaveCausesOnMedia w lines left t
  caused s m opened here image i =
      let o : (old : M) × (new : M) × ((media s ≡ Some old) × (left s ≡ Some new)) × (IsTrue w.tells → KeepsLog w lines t s old new) = r.opened s opened in
      let k : IsKept (gated_log lines t s) (open_effects lines t s) image = (o.3 tells).images image (subst (λ z. w.may_leave z image) (some-one (left s) m o.1 here o.2.1) i) in
      let d : (late : List Effect) × (gated_log lines t s ≡ log_at t.opened s ++ late) × HaveCauses lines t.entries (log_at t.opened s) (late ++ open_effects lines t s) = decisions-caused lines asked t s legal in
      let fresh : List Effect = open_effects lines t s in (
        d.0 ++ take k.kept fresh,
        k.is ∙ ap (λ l. Ok (l ++ take k.kept fresh)) d.1 ∙ ap (λ l. Ok l) (append_assoc (log_at t.opened s) d.0 (take k.kept fresh)),
        causes-front lines t.entries (log_at t.opened s) (d.0 ++ take k.kept fresh) (drop k.kept fresh)
            (subst (HaveCauses lines t.entries (log_at t.opened s)) (ap (λ l. d.0 ++ l) (sym (take-append-drop k.kept fresh)) ∙ sym (append_assoc d.0 (take k.kept fresh) (drop k.kept fresh))) d.2),
      )

pub ended-early : (most_ticks enough : ℕ) (lines : List Line) (t : Trace) (i : ℕ) (l : Line) → HasEnded most_ticks enough lines t → numbered lines i ≡ Some l → held ((hall_after lines t).polls i) ≡ None
    → (enough ≤ length t.sent) ⊎ HasRunOut most_ticks lines t
ended-early most_ticks enough lines t i l e there none = by e.why
  where
    by : AllHold lines t ⊎ ((enough ≤ length t.sent) ⊎ HasRunOut most_ticks lines t) → (enough ≤ length t.sent) ⊎ HasRunOut most_ticks lines t
    by (inl all) = absurd (clash (is_some (held ((hall_after lines t).polls i))) (ap is_some none) (all i l there))
    by (inr rest) = rest
