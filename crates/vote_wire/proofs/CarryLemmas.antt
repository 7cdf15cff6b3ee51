-- The copies of a vote trace, entry by entry: what holds of a run's wire holds of it.
use Rattle.std.proofs.Common.{◌≡◌, ℕ, ◌+◌, Bool, true, false, List, [], ◌∷◌, ◌++◌, map, refl, sym, ap, ◌∙◌}
use Rattle.std.specs.Prelude.{None, ◌&&◌, is_some, if◌then◌else◌}
use Rattle.std.proofs.lemmas.List.{map-append}
use Rattle.pseudo_time.specs.Nodes.{same_node}
use Rattle.pseudo_time.specs.declared.down_causes.DownCause.{DownCause}
use Rattle.pseudo_time.specs.declared.nodes.NodeId.{NodeId}
use Rattle.message_form.specs.Posts.{Post, posts}
use Rattle.message_core.specs.Flights.{AllEmpty, State, passed, taken, waiting, was_shut}
use Rattle.message_core.specs.Tallies.{numbered}
use Rattle.world_core.specs.declared.entries.Entry.{Entry}
use Rattle.world_core.specs.declared.entries.Entry.TheVariants.{Take, Go, Learn, Hear, Gate, Crash, Down, Tick}
use Rattle.world_core.specs.declared.traces.Sent.{Sent}
use Rattle.world_core.specs.Alike.{Alike}
use Rattle.world_core.specs.Legal.{HasGone, Idle, MayTake, fates_of, is_behind, post_of}
use Rattle.world_core.specs.Walks as walks
use Rattle.world_core.specs.Walks.{Sending, World, Flags, flagged, names, opened_flags}
use Rattle.wire_core.specs.Copies.{IsTied, Marked, posted, all_marked}
use Rattle.wire_core.specs.Wires.{base_from}
use Rattle.wire_core.proofs.CopyLemmas.{tied-left, tied-take, tied-tick, tied-down}
use Rattle.wire_core.proofs.DueLemmas.{due-front, fate-of, numbered-to, took-all, took-empty}
use Rattle.wire_core.proofs.QuietLemmas.{not-behind}
use Rattle.vote_traces.specs.Walks.{Base, Hall, life_of, leaving, start_hall, step, walk_from, walk, world_of}
use Rattle.vote_wire.specs.Carried.{IsAtRest, IsCarried, LeavesFlight}

-- a run without acts and nodes, of which the flags and counts of a step are the same
abbrev nobody : walks.Base
nobody = base_from (record { run = 0; acts = []; start = 0; opened = []; asked = []; answers = None })

-- a hall without members and polls
abbrev pub nowhere : Base
nowhere = record { start = 0; opened = []; lines = [] }

-- what a step of a run says of copies is what one of the hall says
carried : (b : Base) (h : Hall) (s : State) (sent : List Sent) (marks : List Marked) (e : Entry) → IsTied s (walks.step nobody (world_of h) e) sent marks → (step b h e).sendings ≡ map posted marks → IsCarried s (step b h e) sent marks
carried b h s sent marks e t walked = record {
  tied = record { ledger = t.ledger; tally = t.tally; taken = t.taken; sendings = t.sendings; sent_are = t.sent_are; letters = t.letters; ticks = t.ticks; opened = t.opened };
  walked = walked;
}

module _ (b : Base) (h : Hall) (s : State) (sent : List Sent) (marks : List Marked) (c : IsCarried s h sent marks) where
  take-carried : (n : NodeId) (number : ℕ) (rest : List ℕ) → waiting s n ≡ number ∷ rest → IsCarried (taken s n) (step b h (Take n number)) sent marks
  take-carried n number rest front = carried b h (taken s n) sent marks (Take n number) (tied-take nobody (world_of h) sent marks s n number rest front c.tied) c.walked

  pub takes : (n : NodeId) (number : ℕ) (rest : List ℕ) → (h.flags n).up ≡ true → HasGone (world_of h) n → is_behind (world_of h) n ≡ false → waiting s n ≡ number ∷ rest
      → MayTake (fates_of sent) (world_of h) n number × IsCarried (taken s n) (step b h (Take n number)) sent marks
  takes n number rest up gone behind front =
      let d = due-front s (world_of h) sent marks c.tied n number rest front in (
        record {
          up = up;
          heard = not-behind (world_of h) n behind;
          gone = gone;
          sending = posted d.0;
          sent = ap (λ l. numbered l number) c.walked ∙ numbered-to posted marks number d.0 d.1;
          to = d.2;
          fate = d.0.sent.fate;
          fated = fate-of s (world_of h) sent marks c.tied number d.0 d.1;
          fewer = d.4;
          released = d.3;
        },
        take-carried n number rest front,
      )

  pub left-carried : (e : Entry) → LeavesFlight e → IsCarried s (step b h e) sent marks
  left-carried (Take node number) l = absurd l
  left-carried (Go node) l = carried b h s sent marks (Go node) (tied-left nobody (world_of h) sent marks s (Go node) (record { taken = λ l. refl; ticks = λ k. refl; up = refl }) c.tied) c.walked
  left-carried (Learn node stamp committed) l = carried b h s sent marks (Learn node stamp committed) (tied-left nobody (world_of h) sent marks s (Learn node stamp committed) (record { taken = λ l. refl; ticks = λ k. refl; up = refl }) c.tied) c.walked
  left-carried (Hear node) l = carried b h s sent marks (Hear node) (tied-left nobody (world_of h) sent marks s (Hear node) (record { taken = λ l. refl; ticks = λ k. refl; up = refl }) c.tied) c.walked
  left-carried (Gate node) l = absurd l
  left-carried (Crash node kept) l = carried b h s sent marks (Crash node kept) (tied-left nobody (world_of h) sent marks s (Crash node kept) (record { taken = λ l. refl; ticks = λ k. refl; up = refl }) c.tied) c.walked
  left-carried (Down node cause) l = absurd l
  left-carried (Tick moment) l = absurd l

  pub down-carried : (n : NodeId) (cause : DownCause) → ((m : NodeId) → (h.flags m).up ≡ true → (h.flags m).known ≡ true) → IsCarried (was_shut s n) (step b h (Down n cause)) sent marks
  down-carried n cause known = carried b h (was_shut s n) sent marks (Down n cause) (tied-down nobody (world_of h) sent marks s n cause known c.tied) c.walked

  pub tick-carried : (moment : ℕ) → IsCarried (passed s) (step b h (Tick moment)) sent marks
  tick-carried moment = carried b h (passed s) sent marks (Tick moment) (tied-tick nobody (world_of h) sent marks s moment c.tied) c.walked

  pub idles : AllEmpty s → IsAtRest h → Idle (fates_of sent) (world_of h)
  idles empty rest n up = record {
    taken = took-all s (world_of h) sent marks c.tied c.walked n (empty n) (c.tied.opened n ∙ up);
    closed = (rest n up).closed;
    heard = (rest n up).heard;
    gone = (rest n up).gone;
  }

  pub idle-empty : (n : NodeId) → Idle (fates_of sent) (world_of h) → (h.flags n).up ≡ true → waiting s n ≡ []
  idle-empty n idle up = took-empty s (world_of h) sent marks c.tied c.walked n (idle n up).taken

-- ---- gates

map-map : {X Y Z : Type 0} (f : X → Y) (g : Y → Z) (xs : List X) → map g (map f xs) ≡ map (λ x. g (f x)) xs
map-map f g [] = refl
map-map f g (x ∷ xs) = ap (λ l. g (f x) ∷ l) (map-map f g xs)

abbrev sending-now : ℕ → Post → Sending
sending-now ticks p = record { post = p; ticks = ticks }

pub gate-carried : (b : Base) (h : Hall) (s after : State) (sent news : List Sent) (marks : List Marked) (n : NodeId) → IsCarried s h sent marks → map post_of news ≡ posts n (life_of h n.kind n.number).outs
    → (IsTied s (world_of h) sent marks → IsTied after (world_of h) (sent ++ news) (marks ++ all_marked h.ticks news)) → IsCarried after (step b h (Gate n)) (sent ++ news) (marks ++ all_marked h.ticks news)
gate-carried b h s after sent news marks n c are tie =
    carried b h after (sent ++ news) (marks ++ all_marked h.ticks news) (Gate n)
    (tied-left nobody (world_of h) (sent ++ news) (marks ++ all_marked h.ticks news) after (Gate n) (record { taken = λ l. refl; ticks = λ k. refl; up = refl }) (tie c.tied))
    (ap (λ l. l ++ map (sending-now h.ticks) (leaving h n)) c.walked
    ∙ ap (λ l. map posted marks ++ map (sending-now h.ticks) l) (sym are)
    ∙ ap (λ l. map posted marks ++ l) (map-map post_of (sending-now h.ticks) news ∙ sym (map-map (λ (x : Sent). let r : Marked = record { sent = x; ticks = h.ticks } in r) posted news))
    ∙ sym (map-append posted marks (all_marked h.ticks news)))

-- ---- what entries alone decide

module _ (b : Base) (c : walks.Base) where
  alike-if : (t : Bool) (last : _) (n : NodeId) (f g : Flags) (e : Entry) → f ≡ g → (if t && f.known then flagged last n.kind f e else f) ≡ (if t && g.known then flagged last n.kind g e else g)
  alike-if t last n f g e same = ap (λ (z : Flags). if t && z.known then flagged last n.kind z e else z) same

  heard-alike : (h : Hall) (w : World) (e : Entry) → Alike (world_of h) w → (n : NodeId) → walks.heard_after (world_of h) e n ≡ walks.heard_after w e n
  heard-alike h w (Take node number) a n = a.heard n
  heard-alike h w (Go node) a n = a.heard n
  heard-alike h w (Learn node stamp committed) a n = a.heard n
  heard-alike h w (Hear node) a n = ap (λ l. if same_node node n then is_some l else h.heard n) a.last ∙ ap (λ t. if same_node node n then is_some w.last else t) (a.heard n)
  heard-alike h w (Gate node) a n = a.heard n
  heard-alike h w (Crash node kept) a n = ap (λ t. if same_node node n then false else t) (a.heard n)
  heard-alike h w (Down node cause) a n = a.heard n
  heard-alike h w (Tick moment) a n = refl

  step-alike : (h : Hall) (w : World) (e : Entry) → Alike (world_of h) w → Alike (world_of (step b h e)) (walks.step c w e)
  step-alike h w e a = record {
    flags = λ n. alike-if (names n e) h.last n (h.flags n) (w.flags n) e (a.flags n) ∙ ap (λ l. if names n e && (w.flags n).known then flagged l n.kind (w.flags n) e else w.flags n) a.last;
    heard = heard-alike h w e a;
    taken = ap (λ l. walks.taken_after l e) a.taken;
    ticks = ap (λ k. walks.ticks_after k e) a.ticks;
    last = ap (λ l. walks.last_after l e) a.last;
    moved = ap (λ t. if walks.is_down e then t else true) a.moved;
  }

  walk-alike : (h : Hall) (w : World) (es : List Entry) → Alike (world_of h) w → Alike (world_of (walk_from b h es)) (walks.walk_from c w es)
  unfolding walk_from walks.walk_from
  walk-alike h w [] a = a
  walk-alike h w (e ∷ es) a = walk-alike (step b h e) (walks.step c w e) es (step-alike h w e a)

  pub alone : (es : List Entry) → ((n : NodeId) → is_some (walks.opened_log b.opened n) ≡ is_some (walks.opened_log c.opened n)) → Alike (world_of (walk b es)) (walks.walk c es)
  alone es same = walk-alike (start_hall b) (walks.start_world c) es (record { flags = λ n. ap opened_flags (same n); heard = λ n. refl; taken = refl; ticks = refl; last = refl; moved = refl })
