-- One entry more keeps a wire sound.
use Rattle.wire_core.proofs.Names.{Every, every-append, NodeId, Plan, Asked, FlightParts, state_of, AllInRange, Entry, Sent, Base, World, Sending, sent_by, sendings_after, last_after, step, start_world, walk, Meets, Numbered, post_of, fates_of, asked_of, IsLegal, NodeFlags, Story, IsClocked, tick_moments, Marked, posted, IsTied, IsFlown, IsSound, parts_with, Fits, HasOneMore, Origin, WireParts, base_from, world_of, IsRunOf, trace_of, ◌≡◌, ℕ, ◌+◌, ◌≤◌, ◌<◌, ◌^◌, Bool, false, List, [], ◌∷◌, ◌++◌, map, length, refl, sym, ap, subst, ◌∙◌, Option, IsTrue, length-append, arith, unwrap_or, Rule, AllReady, base_of, meets-more}
use Rattle.broker_core.specs.Readings.{reading}
use Rattle.broker_core.specs.Tasks.{Scripted}
use Rattle.world_core.proofs.Lives.{walk-more}
use Rattle.wire_core.proofs.CopyLemmas.{LeavesCopies, tied-left}
use Rattle.wire_core.proofs.FitLemmas.{fits-on}
use Rattle.wire_core.proofs.LearnLemmas.{learns-more}
use Rattle.wire_core.proofs.MomentLemmas.{moments-append, clocked-still}
use Rattle.wire_core.specs.Learns.{LearnsAreNew, IsNewIn}

-- an entry that sends nothing, and at which no time passes
pub record IsStill (e : Entry) : Type 0 where
  pub sends : (w : World) → sendings_after w e ≡ w.sendings
  pub last : (l : Option ℕ) → last_after l e ≡ l
  pub moments : tick_moments (e ∷ []) ≡ []

module _ (told : Bool) (o : Origin) (s s' : Story) (e : Entry) (sent : List Sent) (asked : List Asked) (answers : Option (List ℕ)) (flight : FlightParts) (broken : Bool)
    (h : IsSound told (parts_with o s sent asked answers flight broken) s.nodes.entries s.ticks s.last) (more : HasOneMore s s' e) where
  abbrev b : Base
  b = base_from o

  abbrev es : List Entry
  es = s.entries.items

  abbrev w : World
  w = walk (base_from o) s.entries.items

  -- where the entry leads to
  pub step-is : walk (base_from o) s'.entries.items ≡ step (base_from o) (walk (base_from o) s.entries.items) e
  step-is = ap (walk (base_from o)) more.entries ∙ walk-more (base_from o) s.entries.items e

  pub sound-step : (all : List Sent) (later : List Asked) (now : Option (List ℕ)) (after : FlightParts) (marks : List Marked)
      → unwrap_or (last_after s.last e) o.start ≤ 2 ^ 62 + (length es + 1) → Every (λ moment. moment < 2 ^ 63) (tick_moments (e ∷ []))
      → Numbered 1 all → length all < 2 ^ 32 → AllInRange (map post_of all)
      → (IsTrue told → map post_of all ≡ map (λ (x : Sending). x.post) (sendings_after w e))
      → (IsTrue told → Meets b (fates_of all) (start_world b) es)
      → (IsTrue told → Rule b (fates_of all) w e)
      → later ≡ o.asked ++ map asked_of all → IsClocked o.answers now o.start (es ++ e ∷ [])
      → IsTied (state_of after) (step b w e) all marks → (IsTrue told → sendings_after w e ≡ map posted marks) → (IsTrue told → IsNewIn w e)
      → IsSound told (parts_with o s' all later now after false) s'.nodes.entries s'.ticks s'.last
  sound-step all later now after marks moment moments numbers count ranges posts meets rule asks clocked tied walked new = record {
    fits = subst (λ (v : World). Fits v s'.nodes.entries s'.ticks s'.last) (sym step-is) (fits-on b w e s s' more h.fits);
    numbers = numbers;
    in_range = ranges;
    count = count;
    size = more.size;
    start = h.start;
    moment = (let l : unwrap_or s'.last o.start ≡ unwrap_or (last_after s.last e) o.start = ap (λ x. unwrap_or x o.start) more.last in
        let n : length s'.entries.items ≡ length es + 1 = ap length more.entries ∙ length-append es (e ∷ []) in
        omega (arith, l, n, moment));
    moments = subst (Every (λ moment. moment < 2 ^ 63)) (sym (moments-append es (e ∷ [])) ∙ sym (ap tick_moments more.entries)) (every-append (λ moment. moment < 2 ^ 63) (tick_moments es) (tick_moments (e ∷ [])) h.moments moments);
    sent = λ t. posts t ∙ ap sent_by (sym step-is);
    meets = λ t. subst (Meets b (fates_of all) (start_world b)) (sym more.entries) (meets-more b (fates_of all) (start_world b) es e (meets t) (rule t));
    learns = λ t. subst (LearnsAreNew b) (sym more.entries) (learns-more b es e (h.learns t) (new t));
    asked = λ _. asks;
    clocked = λ _. subst (IsClocked o.answers now o.start) (sym more.entries) clocked;
    flown = λ _. record {
      marks = marks;
      tied = subst (λ (v : World). IsTied (state_of after) v all marks) (sym step-is) tied;
      walked = λ t. ap (λ (v : World). v.sendings) step-is ∙ walked t;
    };
  }

  still-moment : IsStill e → unwrap_or (last_after s.last e) o.start ≤ 2 ^ 62 + (length es + 1)
  still-moment still = let l : unwrap_or (last_after s.last e) o.start ≡ unwrap_or s.last o.start = ap (λ x. unwrap_or x o.start) (still.last s.last) in let m = h.moment in omega (arith, l, m)

  -- an entry that sends nothing, and at which no time passes
  pub sound-still : (after : FlightParts) → broken ≡ false → IsStill e → (IsTrue told → Rule b (fates_of sent) w e)
      → ((marks : List Marked) → IsTied (state_of flight) w sent marks → IsTied (state_of after) (step b w e) sent marks) → (IsTrue told → IsNewIn w e)
      → IsSound told (parts_with o s' sent asked answers after false) s'.nodes.entries s'.ticks s'.last
  sound-still after whole still rule tied new =
      let f : IsFlown told (parts_with o s sent asked answers flight broken) = h.flown whole in
      sound-step sent asked answers after f.marks (still-moment still) (subst (Every (λ moment. moment < 2 ^ 63)) (sym still.moments) tt) h.numbers h.count h.in_range
      (λ t. h.sent t ∙ ap (map (λ (x : Sending). x.post)) (sym (still.sends w)))
      h.meets
      rule
      (h.asked whole)
      (clocked-still o.answers answers o.start es e still.moments (h.clocked whole))
      (tied f.marks f.tied)
      (λ t. still.sends w ∙ f.walked t)
      new

  -- and that leaves the flight
  pub sound-left : broken ≡ false → IsStill e → LeavesCopies e → (IsTrue told → Rule b (fates_of sent) w e) → (IsTrue told → IsNewIn w e)
      → IsSound told (parts_with o s' sent asked answers flight false) s'.nodes.entries s'.ticks s'.last
  sound-left whole still leaves rule new = sound-still flight whole still rule (λ marks tied. tied-left b w sent marks (state_of flight) e leaves tied) new

-- ---- the trace so far is legal

base-is : (plan : Plan) (w : WireParts) → IsRunOf plan w.origin → base_from w.origin ≡ base_of (reading plan.acts) plan (trace_of w)
base-is plan w is = λ i. record { script = reading (sym is.acts i); run = sym is.run i; acts = sym is.acts i; start = w.origin.start; opened = w.origin.opened }

is-legal : (plan : Plan) (w : WireParts) → IsRunOf plan w.origin → Meets (base_from w.origin) (fates_of w.sent) (start_world (base_from w.origin)) w.entries → map post_of w.sent ≡ sent_by (world_of w) → Numbered 1 w.sent
    → IsLegal plan (w.origin.asked ++ map asked_of w.sent) (trace_of w)
is-legal plan w is meets posts numbers = record {
  scripted = subst (λ acts. Scripted (reading acts) acts) (sym is.acts) is.scripted;
  nodes = is.nodes;
  ready = subst AllReady (base-is plan w is) is.ready;
  meets = subst (λ (b : Base). Meets b (fates_of w.sent) (start_world b) w.entries) (base-is plan w is) meets;
  sent = posts ∙ ap (λ (b : Base). sent_by (walk b w.entries)) (base-is plan w is);
  numbers = numbers;
  before = w.origin.asked;
  fated = refl;
}

pub sound-legal : (told : Bool) (w : WireParts) (nodes : List (NodeId × NodeFlags)) (ticks : ℕ) (last : Option ℕ) → IsSound told w nodes ticks last → IsTrue told → (plan : Plan) → IsRunOf plan w.origin
    → IsLegal plan (w.origin.asked ++ map asked_of w.sent) (trace_of w)
sound-legal told w nodes ticks last h t plan is = is-legal plan w is (h.meets t) (h.sent t) h.numbers

-- each of its Learns is new
pub sound-learns : (told : Bool) (w : WireParts) (nodes : List (NodeId × NodeFlags)) (ticks : ℕ) (last : Option ℕ) → IsSound told w nodes ticks last → IsTrue told → LearnsAreNew (base_from w.origin) w.entries
sound-learns told w nodes ticks last h t = h.learns t
