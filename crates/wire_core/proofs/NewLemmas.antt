-- A new wire is sound.
use Rattle.wire_core.proofs.Names.{Every, NodeId, same_node, Asked, Adds, State, start, FlightParts, state_of, Entry, Sent, Base, World, Sending, opened_log, start_world, walk_from, walk, Meets, NodeFlags, Story, tick_moments, IsTied, new_flags, shown, names_of, IsSound, parts_with, Fits, IsOpened, Origin, base_from, ◌≡◌, ℕ, ◌<◌, ◌^◌, Bool, true, false, ◌||◌, ◌&&◌, ◌==◌, List, [], ◌∷◌, map, length, if◌then◌else◌, refl, sym, ap, subst, ◌∙◌, Option, Some, None, is_some, arith, unwrap_or, list_any, append-nil, blank_tally, made, tallied_start, opened_flags, counted}
use Rattle.world_core.specs.declared.traces.Opened.{Opened}
use Rattle.wire_core.proofs.LearnLemmas.{none-learned}

-- ---- which nodes were opened

opened-names : (opened : List Opened) (n : NodeId) → list_any (λ m. same_node m n) (names_of opened) ≡ is_some (opened_log opened n)
opened-names [] n = refl
opened-names (o ∷ opened) n = go (same_node o.node n) (opened-names opened n)
  where
    go : (t : Bool) → list_any (λ m. same_node m n) (names_of opened) ≡ is_some (opened_log opened n) → (t || list_any (λ m. same_node m n) (names_of opened)) ≡ is_some (if t then Some o.effects else opened_log opened n)
    go true h = refl
    go false h = h

shown-opened : (t : Bool) → opened_flags t ≡ shown (if t then Some new_flags else None)
shown-opened true = refl
shown-opened false = refl

found-opened : (t : Bool) (f : NodeFlags) → (if t then Some new_flags else None) ≡ Some f → f ≡ new_flags
found-opened true f h = sym (cc h)
found-opened false f h = absurd (cc h)

-- ---- a walk without entries

none-walked : (b : Base) (es : List Entry) → es ≡ [] → walk b es ≡ start_world b
unfolding walk_from
none-walked b es none = ap (walk_from b (start_world b)) none

none-met : (b : Base) → Meets b [] (start_world b) []
unfolding Meets
none-met b = tt

new-fits : (o : Origin) (s : Story) → IsOpened (names_of o.opened) s → Fits (start_world (base_from o)) s.nodes.entries s.ticks s.last
new-fits o s is = record {
  flags = λ n. ap opened_flags (sym (opened-names o.opened n)) ∙ shown-opened (list_any (λ m. same_node m n) (names_of o.opened)) ∙ ap shown (sym (is.nodes n));
  heard = λ n f at. ap (λ l. is_some l && (f.heard == s.ticks)) (sym is.last);
  past = λ n f at. (let z : f.heard ≡ 0 = ap (λ (g : NodeFlags). g.heard) (found-opened (list_any (λ m. same_node m n) (names_of o.opened)) f (sym (is.nodes n) ∙ at)) in omega (arith, z));
  ticks = sym is.ticks;
  last = sym is.last;
  ticked = λ some. absurd (let never : false ≡ true = ap is_some (sym is.last) ∙ some in cc never);
}

new-tied : (o : Origin) → IsTied (start (names_of o.opened)) (start_world (base_from o)) [] []
new-tied o = record {
  ledger = blank_tally;
  tally = tallied_start (names_of o.opened);
  taken = λ k. refl;
  sendings = refl;
  sent_are = refl;
  letters = refl;
  ticks = refl;
  opened = λ n. made (list_any (λ m. same_node m n) (names_of o.opened)) ∙ opened-names o.opened n;
}

pub new-sound : (told : Bool) (o : Origin) (s : Story) (sent : List Sent) (asked : List Asked) (answers : Option (List ℕ)) (flight : FlightParts) (a : ℕ)
    → sent ≡ [] → asked ≡ o.asked → Adds o.answers answers (a ∷ []) → o.start ≡ counted a → IsOpened (names_of o.opened) s → state_of flight ≡ start (names_of o.opened)
    → IsSound told (parts_with o s sent asked answers flight false) s.nodes.entries s.ticks s.last
new-sound told o s sent asked answers flight a none asked_is adds start_is is flew =
    let there : walk (base_from o) s.entries.items ≡ start_world (base_from o) = none-walked (base_from o) s.entries.items is.entries in
    subst (λ (l : List Sent). IsSound told (parts_with o s l asked answers flight false) s.nodes.entries s.ticks s.last) (sym none)
    (record {
      fits = subst (λ (v : World). Fits v s.nodes.entries s.ticks s.last) (sym there) (new-fits o s is);
      numbers = tt;
      in_range = tt;
      count = omega arith;
      size = (let l : length s.entries.items ≡ 0 = ap length is.entries in omega (arith, l));
      start = omega (arith, start_is);
      moment = (let l : unwrap_or s.last o.start ≡ o.start = ap (λ x. unwrap_or x o.start) is.last in omega (arith, l, start_is));
      moments = subst (Every (λ moment. moment < 2 ^ 63)) (sym (ap tick_moments is.entries)) tt;
      sent = λ t. ap (λ (v : World). map (λ (x : Sending). x.post) v.sendings) (sym there);
      meets = λ t. subst (Meets (base_from o) [] (start_world (base_from o))) (sym is.entries) (none-met (base_from o));
      learns = λ t. none-learned (base_from o) s.entries.items is.entries;
      asked = λ _. asked_is ∙ sym (append-nil o.asked);
      clocked = λ _. record { first = a; rest = []; added = adds; start_is = start_is; moments = ap tick_moments is.entries };
      flown = λ _. record {
        marks = [];
        tied = subst (λ (v : World). IsTied (state_of flight) v [] []) (sym there) (subst (λ (x : State). IsTied x (start_world (base_from o)) [] []) (sym flew) (new-tied o));
        walked = λ t. ap (λ (v : World). v.sendings) there;
      };
    })
