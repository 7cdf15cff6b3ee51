-- What happens to a node, and time that passes.
use Rattle.wire_core.proofs.Names.{DownCause, NodeId, is_broker, Asked, Adds, Arrival, IsFront, State, waiting, taken, passed, was_shut, FlightParts, state_of, Take, Go, Learn, Hear, Crash, Down, Tick, Sent, Base, World, numbered, opened_log, step, start_world, walk, is_behind, fates_of, Story, IsQuiet, next_moment, posted, IsTied, IsFlown, IsSound, parts_with, HasOneMore, Origin, base_from, ◌≡◌, ℕ, ◌≤◌, Bool, true, false, List, [], ◌∷◌, length, refl, sym, ap, subst, ◌∙◌, Option, Some, IsTrue, arith, unwrap_or, HasGone, MayTake, MayTick, IsDecidedAs}
use Rattle.pseudo_time.specs.StampParts.{StampParts}
use Rattle.wire_core.specs.Learns.{IsNewTo}
use Rattle.wire_core.proofs.CopyLemmas.{tied-take, tied-tick, tied-down}
use Rattle.wire_core.proofs.DueLemmas.{due-front, fate-of, front-cons, numbered-to}
use Rattle.wire_core.proofs.FitLemmas.{up-known}
use Rattle.wire_core.proofs.MomentLemmas.{last-from, clocked-tick}
use Rattle.wire_core.proofs.QuietLemmas.{not-behind, behind-parts, quiet-rests}
use Rattle.wire_core.proofs.SoundLemmas.{sound-step, sound-still, sound-left}

module _ (told : Bool) (o : Origin) (s s' : Story) (sent : List Sent) (asked : List Asked) (answers : Option (List ℕ)) (flight : FlightParts) (broken : Bool)
    (h : IsSound told (parts_with o s sent asked answers flight broken) s.nodes.entries s.ticks s.last) (whole : broken ≡ false) where
  abbrev b : Base
  b = base_from o

  abbrev w : World
  w = walk (base_from o) s.entries.items

  -- the broker goes
  pub go-more : (n : NodeId) → HasOneMore s s' (Go n) → (w.flags n).up ≡ true → is_broker n.kind ≡ true → (w.flags n).gone ≡ false
      → IsSound told (parts_with o s' sent asked answers flight false) s'.nodes.entries s'.ticks s'.last
  go-more n more up broker fresh = sound-left told o s s' (Go n) sent asked answers flight broken h more whole (record { sends = λ v. refl; last = λ l. refl; moments = refl }) (record { taken = λ l. refl; ticks = λ k. refl; up = refl })
      (λ t. record { up = up; broker = broker; fresh = fresh }) (λ t. tt)

  -- a node hears
  pub hear-more : (n : NodeId) → HasOneMore s s' (Hear n) → (w.flags n).up ≡ true → is_behind w n ≡ true
      → IsSound told (parts_with o s' sent asked answers flight false) s'.nodes.entries s'.ticks s'.last
  hear-more n more up behind = sound-left told o s s' (Hear n) sent asked answers flight broken h more whole (record { sends = λ v. refl; last = λ l. refl; moments = refl }) (record { taken = λ l. refl; ticks = λ k. refl; up = refl })
      (λ t. record { up = up; some = (behind-parts w n behind).0; behind = (behind-parts w n behind).1 }) (λ t. tt)

  -- a repository learns
  pub learn-more : (n : NodeId) (stamp : StampParts) (committed : Bool) → HasOneMore s s' (Learn n stamp committed) → (w.flags n).up ≡ true → is_broker n.kind ≡ false → (IsTrue told → IsDecidedAs w stamp committed) → (IsTrue told → IsNewTo (w.life n) stamp)
      → IsSound told (parts_with o s' sent asked answers flight false) s'.nodes.entries s'.ticks s'.last
  learn-more n stamp committed more up repository stands new = sound-left told o s s' (Learn n stamp committed) sent asked answers flight broken h more whole (record { sends = λ v. refl; last = λ l. refl; moments = refl }) (record { taken = λ l. refl; ticks = λ k. refl; up = refl })
      (λ t. record { up = up; repository = repository; stands = stands t }) new

  -- a node stops and is opened again
  pub crash-more : (n : NodeId) (kept : ℕ) → HasOneMore s s' (Crash n kept) → (w.flags n).up ≡ true → (IsTrue told → kept ≤ length (w.life n).fresh)
      → IsSound told (parts_with o s' sent asked answers flight false) s'.nodes.entries s'.ticks s'.last
  crash-more n kept more up most = sound-left told o s s' (Crash n kept) sent asked answers flight broken h more whole (record { sends = λ v. refl; last = λ l. refl; moments = refl }) (record { taken = λ l. refl; ticks = λ k. refl; up = refl })
      (λ t. record { up = up; most = most t }) (λ t. tt)

  -- a node stops for good
  pub down-more : (n : NodeId) (cause : DownCause) (after : FlightParts) → HasOneMore s s' (Down n cause) → (w.flags n).up ≡ true → (w.moved ≡ false → unwrap_or (opened_log o.opened n) [] ≡ []) → state_of after ≡ was_shut (state_of flight) n
      → IsSound told (parts_with o s' sent asked answers after false) s'.nodes.entries s'.ticks s'.last
  down-more n cause after more up none flew = sound-still told o s s' (Down n cause) sent asked answers flight broken h more after whole (record { sends = λ v. refl; last = λ l. refl; moments = refl })
      (λ t. record { up = up; none = none })
      (λ marks tied. subst (λ (x : State). IsTied x (step b w (Down n cause)) sent marks) (sym flew) (tied-down b w sent marks (state_of flight) n cause (λ m. up-known w s.nodes.entries s.ticks s.last h.fits m) tied)) (λ t. tt)

  -- a copy is taken
  take-rule : IsTrue told → (n : NodeId) (number : ℕ) (rest : List ℕ) → (w.flags n).up ≡ true → HasGone w n → is_behind w n ≡ false → waiting (state_of flight) n ≡ number ∷ rest → MayTake (fates_of sent) w n number
  take-rule t n number rest up gone behind front =
      let f : IsFlown told (parts_with o s sent asked answers flight broken) = h.flown whole in
      let d = due-front (state_of flight) w sent f.marks f.tied n number rest front in
      record {
        up = up;
        heard = not-behind w n behind;
        gone = gone;
        sending = posted d.0;
        sent = ap (λ l. numbered l number) (f.walked t) ∙ numbered-to posted f.marks number d.0 d.1;
        to = d.2;
        fate = d.0.sent.fate;
        fated = fate-of (state_of flight) w sent f.marks f.tied number d.0 d.1;
        fewer = d.4;
        released = d.3;
      }

  pub take-more : (n : NodeId) (a : Arrival) (number : ℕ) (after : FlightParts) → number ≡ a.number → HasOneMore s s' (Take n number) → (w.flags n).up ≡ true → HasGone w n → is_behind w n ≡ false
      → IsFront (state_of flight) n a → state_of after ≡ taken (state_of flight) n
      → IsSound told (parts_with o s' sent asked answers after false) s'.nodes.entries s'.ticks s'.last
  take-more n a number after is more up gone behind front flew =
      let cut = front-cons (waiting (state_of flight) n) number (front.front ∙ ap Some (sym is)) in
      sound-still told o s s' (Take n number) sent asked answers flight broken h more after whole (record { sends = λ v. refl; last = λ l. refl; moments = refl })
      (λ t. take-rule t n number cut.0 up gone behind cut.1)
      (λ marks tied. subst (λ (x : State). IsTied x (step b w (Take n number)) sent marks) (sym flew) (tied-take b w sent marks (state_of flight) n number cut.0 cut.1 tied)) (λ t. tt)

  -- time passes
  last-is : unwrap_or w.last o.start ≡ unwrap_or s.last o.start
  last-is = ap (λ x. unwrap_or x o.start) h.fits.last

  tick-rule : IsTrue told → IsQuiet (parts_with o s sent asked answers flight broken) → (a m : ℕ) → m ≡ next_moment (unwrap_or s.last o.start) a → MayTick o.start (fates_of sent) w m
  tick-rule t quiet a m is =
      let l = last-is in
      record {
        idle = quiet-rests told (parts_with o s sent asked answers flight broken) s.nodes.entries s.ticks s.last h whole t quiet;
        above = omega (arith, is, l);
        most = omega (arith, is, l);
      }

  pub tick-more : (a m : ℕ) (now : Option (List ℕ)) (after : FlightParts) → HasOneMore s s' (Tick m) → IsQuiet (parts_with o s sent asked answers flight broken) → m ≡ next_moment (unwrap_or s.last o.start) a → Adds answers now (a ∷ [])
      → state_of after ≡ passed (state_of flight)
      → IsSound told (parts_with o s' sent asked now after false) s'.nodes.entries s'.ticks s'.last
  tick-more a m now after more quiet is adds flew =
      let f : IsFlown told (parts_with o s sent asked answers flight broken) = h.flown whole in
      let below = h.moment in
      let size = h.size in
      sound-step told o s s' (Tick m) sent asked answers flight broken h more sent asked now after f.marks
      (omega (arith, is, below))
      (omega (arith, is, below, size), tt)
      h.numbers
      h.count
      h.in_range
      h.sent
      h.meets
      (λ t. tick-rule t quiet a m is)
      (h.asked whole)
      (clocked-tick o.answers answers now o.start (unwrap_or s.last o.start) s.entries.items a m (sym last-is ∙ last-from b (start_world b) s.entries.items o.start) is adds (h.clocked whole))
      (subst (λ (x : State). IsTied x (step b w (Tick m)) sent f.marks) (sym flew) (tied-tick b w sent f.marks (state_of flight) m f.tied))
      f.walked
      (λ t. tt)
