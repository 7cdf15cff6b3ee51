-- What of members' media lasts over turns.
use Rattle.vote_run.proofs.Names.{NodeId, Effect, Out, effects_of, entries, log_of, effects_in, medium_of, Store, MemberState, MemberNumber, First, Second, Third, member, Media, IsDurable, LeavesLog, CourierParts, AllLast, EndsAs, Turns, Wants, all_late, late, Members, Seat, Up, Fallen, Wanting, ◌≡◌, ℕ, List, ◌++◌, take, inl, inr, refl, sym, ap, subst, ◌∙◌, append_assoc, Option, Some, None, Ok, IsTrue, storage, IsBack, LeavesFront, KeepsWhole, Lasts, LosesNothing, medium_in}
use Rattle.vote_run.proofs.SittingLemmas.{read-so}

module _ {M : Type 0} {g : _} (w : Media M) (told : IsTrue w.tells) where
  -- a durable log is left whole
  pub durable-whole : (log : List Effect) (before store : Store M g) (effects : List Effect) → effects_in w.reads before ≡ log → IsDurable w before store effects → LeavesLog w (medium_of store) (log ++ effects)
  durable-whole log before store effects has e image left =
      let p = e.leaves told image left in
      let reads : effects_of (log_of image) ≡ effects_in w.reads store = ap (λ z. effects_of (log_of z)) (e.left told image left) in
      p.is ∙ ap Ok (sym (read-so (entries image) (effects_in w.reads before ++ take p.kept effects) p.is) ∙ reads ∙ e.has told ∙ ap (λ l. l ++ effects) has)

  -- ---- one turn

  module _ (taken : M) (log more : List Effect) (held : storage (w.reads taken) ≡ Ok log) (before : Store M g) (has : effects_in w.reads before ≡ log ++ more) (whole : LeavesLog w (medium_of before) (log ++ more)) where
    -- a medium that is left with some first ones of the effects
    front-left : (effects : List Effect) (now : M) → LeavesFront w now (effects_in w.reads before) effects → KeepsWhole w (Some taken) (Some now)
    front-left effects now h = inr (
      log,
      held,
      λ image left. let p = h image left in (more ++ take p.0 effects, p.1 ∙ ap (λ l. Ok (l ++ take p.0 effects)) has ∙ ap Ok (append_assoc log more (take p.0 effects))),
    )

    ended-lasts : (n : NodeId) (durable : ℕ) (mid d : CourierParts) (effects : List Effect) (outs : List Out) (k : MemberState) (seat : Seat M g) → EndsAs w n durable mid d before effects outs k seat → LosesNothing w (Some taken) seat
    ended-lasts n durable mid d effects outs k (Up j store count late) (inl e) = record {
      taken = taken;
      was = refl;
      log = log;
      held = held;
      more = more ++ effects;
      has = e.0.durable.has told ∙ ap (λ l. l ++ effects) has ∙ append_assoc log more effects;
      left = subst (LeavesLog w (medium_of store)) (append_assoc log more effects) (durable-whole (log ++ more) before store effects has e.0.durable);
    }
    ended-lasts n durable mid d effects outs k (Up j store count late) (inr e) =
        let kept = e.0.crashed.kept told in
        let found : e.0.found ≡ log ++ (more ++ take kept.0 effects) = kept.2 ∙ ap (λ l. l ++ take kept.0 effects) has ∙ append_assoc log more (take kept.0 effects) in
        record {
          taken = taken;
          was = refl;
          log = log;
          held = held;
          more = more ++ take kept.0 effects;
          has = e.0.crashed.log.has told ∙ found;
          left = subst (LeavesLog w (medium_of store)) found (e.0.crashed.log.left told);
        }
    ended-lasts n durable mid d effects outs k (Fallen None) e = absurd e
    ended-lasts n durable mid d effects outs k (Fallen (Some left)) e = front-left effects left (λ image may. let p = e.gone.left told image may in (p.kept, p.is))
    ended-lasts n durable mid d effects outs k (Wanting left) e = front-left effects left (e.left told)

    -- nothing was done
    same-left : KeepsWhole w (Some taken) (Some (medium_of before))
    same-left = inr (log, held, λ image left. (more, whole image left))

  wants-lasts : (taken : M) (log more : List Effect) (held : storage (w.reads taken) ≡ Ok log) (before : Store M g) (has : effects_in w.reads before ≡ log ++ more) (whole : LeavesLog w (medium_of before) (log ++ more)) (seat : Seat M g)
      → Wants w (medium_of before) seat → LosesNothing w (Some taken) seat
  wants-lasts taken log more held before has whole (Up m store durable behind) h = absurd h
  wants-lasts taken log more held before has whole (Fallen left) h = absurd h
  wants-lasts taken log more held before has whole (Wanting left) h = subst (λ z. KeepsWhole w (Some taken) (Some z)) (sym h) (same-left taken log more held before has whole)

  turn-safe : (n : NodeId) (c d : CourierParts) (first : Option M) (old seat : Seat M g) → Turns w n c d old seat → LosesNothing w first old → LosesNothing w first seat
  turn-safe n c d first (Up m before durable behind) seat (inl a) h =
      subst (λ z. LosesNothing w z seat) (sym h.was) (ended-lasts h.taken h.log h.more h.held before h.has h.left n durable a.mid d a.turn.effects a.turn.outs a.state seat a.ends)
  turn-safe n c d first (Up m before durable behind) seat (inr (inl a)) h = subst (LosesNothing w first) (sym a.same) h
  turn-safe n c d first (Up m before durable behind) seat (inr (inr a)) h = subst (λ z. LosesNothing w z seat) (sym h.was) (wants-lasts h.taken h.log h.more h.held before h.has h.left seat a)
  turn-safe n c d first (Fallen left) seat (still, same) h = subst (LosesNothing w first) (sym same) h
  turn-safe n c d first (Wanting left) seat (still, same) h = subst (LosesNothing w first) (sym same) h

-- a medium in place of a medium
back-some : {M : Type 0} (first : Option M) (old new : M) → IsBack first (Some old) → IsBack first (Some new)
back-some None old new h = absurd h
back-some (Some taken) old new h = tt

module _ {M : Type 0} {g : _} (w : Media M) where
  ended-back : (n : NodeId) (durable : ℕ) (mid d : CourierParts) (before : Store M g) (effects : List Effect) (outs : List Out) (k : MemberState) (first : Option M) (seat : Seat M g) → EndsAs w n durable mid d before effects outs k seat
      → IsBack first (Some (medium_of before)) → IsBack first (medium_in seat)
  ended-back n durable mid d before effects outs k first (Up j store count late) e h = back-some first (medium_of before) (medium_of store) h
  ended-back n durable mid d before effects outs k first (Fallen None) e h = absurd e
  ended-back n durable mid d before effects outs k first (Fallen (Some left)) e h = back-some first (medium_of before) left h
  ended-back n durable mid d before effects outs k first (Wanting left) e h = back-some first (medium_of before) left h

  wants-back : (first : Option M) (old : M) (seat : Seat M g) → Wants w old seat → IsBack first (Some old) → IsBack first (medium_in seat)
  wants-back first old (Up m store durable behind) a h = absurd a
  wants-back first old (Fallen left) a h = absurd a
  wants-back first old (Wanting left) a h = back-some first old left h

  turn-back : (n : NodeId) (c d : CourierParts) (first : Option M) (old seat : Seat M g) → Turns w n c d old seat → IsBack first (medium_in old) → IsBack first (medium_in seat)
  turn-back n c d first (Up m before durable behind) seat (inl a) h = ended-back n durable a.mid d before a.turn.effects a.turn.outs a.state first seat a.ends h
  turn-back n c d first (Up m before durable behind) seat (inr (inl a)) h = subst (λ z. IsBack first (medium_in z)) (sym a.same) h
  turn-back n c d first (Up m before durable behind) seat (inr (inr a)) h = wants-back first (medium_of before) seat a h
  turn-back n c d first (Fallen left) seat (still, same) h = subst (λ z. IsBack first (medium_in z)) (sym same) h
  turn-back n c d first (Wanting left) seat (still, same) h = subst (λ z. IsBack first (medium_in z)) (sym same) h

  turn-lasts : (n : NodeId) (c d : CourierParts) (first : Option M) (old seat : Seat M g) → Turns w n c d old seat → Lasts w first old → Lasts w first seat
  turn-lasts n c d first old seat t h = record { back = turn-back n c d first old seat t h.back; safe = λ told. turn-safe w told n c d first old seat t (h.safe told) }

  late-lasts : (first : Option M) (seat : Seat M g) → Lasts w first seat → Lasts w first (late seat)
  late-lasts first (Up m store durable behind) h = record { back = h.back; safe = h.safe }
  late-lasts first (Fallen left) h = h
  late-lasts first (Wanting left) h = h

  -- ---- all members

  pub all-last : (first : MemberNumber → Option M) (a b c d : CourierParts) (old new : Members M g) → Turns w (member First) a b old.first new.first → Turns w (member Second) b c old.second new.second → Turns w (member Third) c d old.third new.third
      → AllLast w first old → AllLast w first new
  all-last first a b c d old new one two three h = record {
    one = turn-lasts (member First) a b (first First) old.first new.first one h.one;
    two = turn-lasts (member Second) b c (first Second) old.second new.second two h.two;
    three = turn-lasts (member Third) c d (first Third) old.third new.third three h.three;
  }

  pub all-late-last : (first : MemberNumber → Option M) (ms : Members M g) → AllLast w first ms → AllLast w first (all_late ms)
  all-late-last first ms h = record { one = late-lasts (first First) ms.first h.one; two = late-lasts (first Second) ms.second h.two; three = late-lasts (first Third) ms.third h.three }
