-- A gate sends messages.
use Rattle.wire_core.proofs.Names.{NodeId, every-append, Out, Post, post, posts, Asked, Fate, FlightParts, state_of, AllInRange, Gate, Sent, Base, World, Sending, sendings_after, sent_by, start_world, walk, Meets, Numbered, post_of, fates_of, asked_of, Story, Marked, posted, IsTied, all_marked, IsFlown, IsSound, parts_with, HasOneMore, Origin, base_from, ◌≡◌, ℕ, ◌+◌, ◌<◌, ◌^◌, Bool, true, false, List, [], ◌∷◌, ◌++◌, map, length, if◌then◌else◌, refl, sym, ap, subst, ◌∙◌, Option, IsTrue, length-append, append_assoc, arith, filter, map-append, length-map, IsMessage, leaving, all_effects, meets-grown, owed}
use Rattle.message_form.specs.Ranges.{AreOuts}
use Rattle.world_core.specs.Nodes.{leaves}
use Rattle.world_core.proofs.Legality.{numbered-join}
use Rattle.wire_core.proofs.CopyLemmas.{tied-left}
use Rattle.wire_core.proofs.FitLemmas.{up-known}
use Rattle.wire_core.proofs.MomentLemmas.{clocked-still}
use Rattle.wire_core.proofs.SoundLemmas.{sound-step}

map-map : {X Y Z : Type 0} (f : X → Y) (g : Y → Z) (xs : List X) → map g (map f xs) ≡ map (λ x. g (f x)) xs
map-map f g [] = refl
map-map f g (x ∷ xs) = ap (λ l. g (f x) ∷ l) (map-map f g xs)

map-same : (xs : List Post) → map (λ (p : Post). p) xs ≡ xs
map-same [] = refl
map-same (x ∷ xs) = ap (λ l. x ∷ l) (map-same xs)

abbrev sending_now : ℕ → Post → Sending
sending_now ticks p = record { post = p; ticks = ticks }

leaving-is : (w : World) (n : NodeId) → (w.flags n).known ≡ true → leaving w n ≡ posts n (owed w n)
leaving-is w n known = ap (λ t. if t then posts n (filter (leaves (all_effects (w.life n))) (w.life n).outs) else []) known

outs-in-range : (n : NodeId) (outs : List Out) → AreOuts outs → AllInRange (posts n outs)
outs-in-range n [] h = tt
outs-in-range n (x ∷ outs) h = (h.0, outs-in-range n outs h.1)

module _ (w : World) (sent news : List Sent) (node : NodeId) (gone : leaving w node ≡ map post_of news) where
  -- the messages of the walk are those that were sent
  gate-posts : map post_of sent ≡ sent_by w → map post_of (sent ++ news) ≡ map (λ (x : Sending). x.post) (sendings_after w (Gate node))
  gate-posts all =
      map-append post_of sent news ∙ ap (λ l. l ++ map post_of news) all ∙ ap (λ l. sent_by w ++ l) (sym gone)
      ∙ ap (λ l. sent_by w ++ l) (sym (map-map (sending_now w.ticks) (λ (x : Sending). x.post) (leaving w node) ∙ map-same (leaving w node)))
      ∙ sym (map-append (λ (x : Sending). x.post) w.sendings (map (sending_now w.ticks) (leaving w node)))

  gate-walked : (marks : List Marked) → w.sendings ≡ map posted marks → sendings_after w (Gate node) ≡ map posted (marks ++ all_marked w.ticks news)
  gate-walked marks walked =
      ap (λ l. l ++ map (sending_now w.ticks) (leaving w node)) walked
      ∙ ap (λ l. map posted marks ++ map (sending_now w.ticks) l) gone
      ∙ ap (λ l. map posted marks ++ l) (map-map post_of (sending_now w.ticks) news ∙ sym (map-map (λ (x : Sent). record { sent = x; ticks = w.ticks }) posted news))
      ∙ sym (map-append posted marks (all_marked w.ticks news))

module _ (told : Bool) (o : Origin) (s s' : Story) (sent : List Sent) (asked : List Asked) (answers : Option (List ℕ)) (flight : FlightParts) (broken : Bool)
    (h : IsSound told (parts_with o s sent asked answers flight broken) s.nodes.entries s.ticks s.last) (whole_yet : broken ≡ false) where
  abbrev b : Base
  b = base_from o

  abbrev w : World
  w = walk (base_from o) s.entries.items

  -- a gate
  pub gate-more : (node : NodeId) (outs : List Out) (news all : List Sent) (later : List Asked) (after : FlightParts) → HasOneMore s s' (Gate node) → (w.flags node).up ≡ true → (w.flags node).due ≡ true → AreOuts outs
      → (IsTrue told → outs ≡ owed w node) → map post_of news ≡ posts node outs → all ≡ sent ++ news → length sent + length news < 2 ^ 32 → Numbered (length sent + 1) news → later ≡ asked ++ map asked_of news
      → ((w : World) (sent : List Sent) (marks : List Marked) → IsTied (state_of flight) w sent marks → IsTied (state_of after) w (sent ++ news) (marks ++ all_marked w.ticks news))
      → IsSound told (parts_with o s' all later answers after false) s'.nodes.entries s'.ticks s'.last
  gate-more node outs news all later after more up due ranges owes posted_as all_is room numbers later_is tie =
      let f : IsFlown told (parts_with o s sent asked answers flight broken) = h.flown whole_yet in
      let left : IsTrue told → leaving w node ≡ map post_of news
      = λ t. leaving-is w node (up-known w s.nodes.entries s.ticks s.last h.fits node up) ∙ ap (posts node) (sym (owes t)) ∙ sym posted_as in
      subst (λ (l : List Sent). IsSound told (parts_with o s' l later answers after false) s'.nodes.entries s'.ticks s'.last) (sym all_is)
      (sound-step told o s s' (Gate node) sent asked answers flight broken h more (sent ++ news) later answers after (f.marks ++ all_marked w.ticks news)
      (let m = h.moment in omega (arith, m))
      tt
      (numbered-join 1 sent news h.numbers (subst (λ k. Numbered k news) (omega arith) numbers))
      (let l = length-append sent news in omega (arith, room, l))
      (subst AllInRange (sym (map-append post_of sent news)) (every-append (λ (p : Post). IsMessage p.message) (map post_of sent) (map post_of news) h.in_range (subst AllInRange (sym posted_as) (outs-in-range node outs ranges))))
      (λ t. gate-posts w sent news node (left t) (h.sent t))
      (λ t. subst (λ (fs : List Fate). Meets b fs (start_world b) s.entries.items) (sym (map-append (λ (x : Sent). x.fate) sent news)) (meets-grown b (fates_of sent) (fates_of news) (start_world b) s.entries.items (h.meets t)))
      (λ t. record { up = up; due = due })
      (later_is ∙ ap (λ l. l ++ map asked_of news) (h.asked whole_yet) ∙ append_assoc o.asked (map asked_of sent) (map asked_of news) ∙ ap (λ l. o.asked ++ l) (sym (map-append asked_of sent news)))
      (clocked-still o.answers answers o.start s.entries.items (Gate node) refl (h.clocked whole_yet))
      (tied-left b w (sent ++ news) (f.marks ++ all_marked w.ticks news) (state_of after) (Gate node) (record { taken = λ l. refl; ticks = λ k. refl; up = refl }) (tie w sent f.marks f.tied))
      (λ t. gate-walked w sent news node (left t) f.marks (f.walked t))
      (λ t. tt))

news-length : (n : NodeId) (outs : List Out) (news : List Sent) → map post_of news ≡ posts n outs → length news ≡ length outs
news-length n outs news h = sym (length-map news post_of) ∙ ap length h ∙ length-map outs (post n)

pub room-for : (n : NodeId) (outs : List Out) (news sent : List Sent) (k : ℕ) → map post_of news ≡ posts n outs → k ≡ length sent → k + length outs < 4294967295 → length sent + length news < 2 ^ 32
room-for n outs news sent k h is room = let l = news-length n outs news h in omega (arith, l, is, room)

pub numbered-for : (sent news : List Sent) (k : ℕ) → k ≡ length sent → Numbered (k + 1) news → Numbered (length sent + 1) news
numbered-for sent news k is h = subst (λ j. Numbered (j + 1) news) is h
