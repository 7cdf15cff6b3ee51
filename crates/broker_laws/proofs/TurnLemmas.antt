-- gates, crashes, more messages, and turns over any log
use Rattle.std.proofs.lemmas.List.{take-append-drop}
use Rattle.broker_laws.proofs.Names.{Task, Effect, Outcome, Message, NodeId, Out, Post, Book, Try, book, close, enter, open_try, keep, other_plan, unfit_act, news, nothing_heard, stage, broker, Desk, Go, Hear, Input, Take, desk_turn, fuel, hears, note, note_if, reply, say, send, settle_up, state, all_effects, Heard, Reply, Adds, Hears, Ignored, FitsBook, FitsLog, IsReady, IsTidy, AnswerCame, EndCame, RestsOn, HasCome, HaveCauses, OfOpen, IsRested, TurnHolds, Answer, Got, Stored, Tree, Grew, inl, ◌≡◌, ℕ, zero, suc, ◌-◌, ◌≤◌, nat_lt, true, false, length, take, drop, List, [], ◌∷◌, ◌++◌, refl, sym, ◌∙◌, ap, subst, Option, Some, None, arith, append_assoc, common_steps, Added, crash, gate, has-left}
use Rattle.effect_form.specs.declared.effects.Effect.TheVariants as effect
use Rattle.effect_form.specs.declared.outcomes.Outcome.TheVariants as outcome
use Rattle.broker_laws.proofs.Desks.{OwedOk, ReplyOk, news-came, note-state, owed-ok, row-ok, stage-ok}
use Rattle.broker_laws.proofs.Fuel.{all-settled}
use Rattle.broker_laws.proofs.Kept.{first-none, kept}
use Rattle.broker_laws.proofs.Moves.{cut, grown}

module _ (script : List ℕ → Tree) (me : ℕ) where
  -- a ready log was ready before
  run-close : (o : Outcome) (b : Book) → b.run ≤ (close o b).run
  run-close outcome.Committed b = omega arith
  run-close o b = omega arith

  pub runs-rise : (b : Book) (f : Effect) → FitsBook script me b f → b.run ≤ (enter f b).run
  runs-rise b (effect.End i o) h = run-close o b
  runs-rise b (effect.Mark at) h = omega arith
  runs-rise b effect.Whole h = omega arith
  runs-rise b (effect.Put o x v) h = omega arith
  runs-rise b (effect.Stretch o x) h = omega arith
  runs-rise b (effect.Begin s d) h = omega arith
  runs-rise b (effect.Decide s d) h = omega arith
  runs-rise b (effect.Learn s d) h = omega arith
  runs-rise b f h = omega arith

  not-over : (run m n : ℕ) → m ≤ n → nat_lt run n ≡ false → nat_lt run m ≡ false
  not-over run m n h k = grind (arith, common_steps)

  module _ (run : ℕ) (acts : List Task) where
    ready-before : (log : List Effect) (f : Effect) → IsTidy script me (f ∷ log) → IsReady script me run acts (f ∷ log) → IsReady script me run acts log
    unfolding book other_plan
    ready-before log f t r =
        let n = first-none script me run acts (other_plan script me run acts log) (unfit_act script me run acts (book (keep script me run acts log)) f) r.same_plan in
        let e : nat_lt run (enter f (book log)).run ≡ false = subst (λ l. nat_lt run (book l).run ≡ false) (kept script me run acts (f ∷ log) t r.same_plan) r.not_old in
        record {
          not_old = subst (λ l. nat_lt run (book l).run ≡ false) (sym (kept script me run acts log t.0 n.0)) (not-over run (book log).run (enter f (book log)).run (runs-rise (book log) f t.1) e);
          same_plan = n.0;
        }

    pub ready-cut : (late log : List Effect) → IsTidy script me (late ++ log) → IsReady script me run acts (late ++ log) → IsReady script me run acts log
    ready-cut [] log t r = r
    ready-cut (f ∷ late) log t r = ready-cut late log t.0 (ready-before (late ++ log) f t r)

    effs-cut : (ever : List Post) (late log : List Effect) → HaveCauses me ever (late ++ log) → HaveCauses me ever log
    effs-cut ever [] log h = h
    effs-cut ever (f ∷ late) log h = effs-cut ever late log h.0

    pub opened-ok : (ever : List Post) (log : List Effect) → IsTidy script me log → HaveCauses me ever log → IsReady script me run acts log →
        TurnHolds script me run acts ever (record { past = log; added = []; outs = []; heard = nothing_heard })
    opened-ok ever log t v r = record { desk = record { tidy = t; grew = tt; causes = v; outs = tt }; ready = r }

    none-below : (n : ℕ) → nat_lt n 0 ≡ false
    none-below n = grind (arith, common_steps)

    pub blank-ok : (ever : List Post) → TurnHolds script me run acts ever (record { past = []; added = []; outs = []; heard = nothing_heard })
    unfolding other_plan keep book
    blank-ok ever = opened-ok ever [] tt tt (record { not_old = none-below run; same_plan = refl })

    -- gate and crash
    pub gate-ok : (ever : List Post) (d : Desk) → TurnHolds script me run acts ever d → TurnHolds script me run acts ever (gate d)
    gate-ok ever d k = record { desk = record { tidy = grown script me d.past d.added k.desk.tidy k.desk.grew; grew = tt; causes = k.desk.causes; outs = tt }; ready = k.ready }

    pub crash-ok : (ever : List Post) (kept : ℕ) (d : Desk) → TurnHolds script me run acts ever d → TurnHolds script me run acts ever (crash kept d)
    crash-ok ever kept d k =
        let n : ℕ = length d.added - kept in
        let split : take n d.added ++ drop n d.added ≡ d.added = take-append-drop n d.added in
        let g : Grew (FitsLog script me) d.past (drop n d.added) =
        cut script me d.past (take n d.added) (drop n d.added) (subst (λ xs. Grew (FitsLog script me) d.past xs) (sym split) k.desk.grew) in
        let all : d.added ++ d.past ≡ take n d.added ++ (drop n d.added ++ d.past) =
        ap (λ xs. xs ++ d.past) (sym split) ∙ append_assoc (take n d.added) (drop n d.added) d.past in
        record {
          desk = record {
            tidy = grown script me d.past (drop n d.added) k.desk.tidy g;
            grew = tt;
            causes = effs-cut ever (take n d.added) _ (subst (λ xs. HaveCauses me ever xs) all k.desk.causes);
            outs = tt;
          };
          ready = ready-cut (take n d.added) _
              (subst (λ xs. IsTidy script me xs) all (grown script me d.past d.added k.desk.tidy k.desk.grew))
              (subst (λ xs. IsReady script me run acts xs) all k.ready);
        }

    -- a turn over any log: what it adds counts
    added-refl : (d : Desk) → Added script me run acts d d
    added-refl d = record { past = refl; more = []; added = refl; count = refl }

    added-one : (d x : Desk) (f : Effect) → keep script me run acts (all_effects (note f d)) ≡ f ∷ keep script me run acts (all_effects d) →
        Added script me run acts (note f d) x → Added script me run acts d x
    added-one d x f e h = record {
      past = h.past;
      more = h.more ++ (f ∷ []);
      added = h.added ∙ sym (append_assoc h.more (f ∷ []) d.added);
      count = h.count ∙ ap (λ l. h.more ++ l) e ∙ sym (append_assoc h.more (f ∷ []) (keep script me run acts (all_effects d)));
    }

    added-if : (next : Desk → Desk) → ((d : Desk) → Added script me run acts d (next d)) → (d : Desk) (o : Option Effect) →
        OwedOk script me run acts [] (state script me run acts d) o → Added script me run acts d (note_if next o d)
    added-if next step d None g = added-refl d
    added-if next step d (Some f) g = added-one d (next (note f d)) f (note-state script me run acts [] d f g) (step (note f d))

    settle-added : (n : ℕ) (d : Desk) → Added script me run acts d (settle_up script me run acts n d)
    unfolding settle_up
    settle-added zero d = added-refl d
    settle-added (suc n) d = added-if (settle_up script me run acts n) (λ x. settle-added n x) d _ (owed-ok script me run acts [] (state script me run acts d) d.heard)

    send-added : (d x : Desk) (o : Option Out) → Added script me run acts d x → Added script me run acts d (send o x)
    send-added d x None h = h
    send-added d x (Some o) h = record { past = h.past; more = h.more; added = h.added; count = h.count }

    hears-added : (d x : Desk) (h : Heard) → Added script me run acts (hears h d) x → Added script me run acts d x
    hears-added d x h k = record { past = k.past; more = k.more; added = k.added; count = k.count }

    say-added : (d : Desk) → Added script me run acts d (say script me run acts (settle_up script me run acts (fuel acts) d))
    say-added d = send-added d _ _ (settle-added (fuel acts) d)

    reply-added : (ever : List Post) (d : Desk) (r : Reply) → ReplyOk script me run acts ever (state script me run acts d) r → Added script me run acts d (reply script me run acts d r)
    reply-added ever d Ignored g = added-refl d
    reply-added ever d (Hears h) g = hears-added d _ h (say-added (hears h d))
    reply-added ever d (Adds f) g = added-one d _ f (note-state script me run acts ever d f g) (say-added (note f d))

    -- as if the message was sent
    alone : NodeId → Message → List Post
    alone from m = record { from = from; to = broker me; message = m } ∷ []

    pub turn-added : (d : Desk) (i : Input) → Added script me run acts d (desk_turn script me run acts d i)
    unfolding alone
    turn-added d Go = hears-added d _ (record d.heard { gone = true }) (say-added _)
    turn-added d (Hear m) = send-added d d _ (added-refl d)
    turn-added d (Take from m) =
        let b : Book = state script me run acts d in
        reply-added (alone from m) d _ (row-ok script me run acts (alone from m) b (stage script run b d.heard) d.heard (news m)
        (stage-ok script me run acts b d.heard) (news-came script me run acts (alone from m) m (from, inl refl)))

    -- after it nothing is owed
    send-rested : (d : Desk) (o : Option Out) → IsRested script me run acts d → IsRested script me run acts (send o d)
    send-rested d None h = h
    send-rested d (Some o) h = h

    pub say-rested : (d : Desk) → IsRested script me run acts (say script me run acts (settle_up script me run acts (fuel acts) d))
    say-rested d = send-rested (settle_up script me run acts (fuel acts) d) _ (all-settled script me run acts d)

    pub go-rests : (d : Desk) → IsRested script me run acts (desk_turn script me run acts d Go)
    go-rests d = say-rested _

    reply-rests : (d : Desk) (r : Reply) → IsRested script me run acts d → IsRested script me run acts (reply script me run acts d r)
    reply-rests d Ignored h = h
    reply-rests d _ h = say-rested _

    -- once rested, every turn leaves it rested
    pub turn-rests : (d : Desk) (i : Input) → IsRested script me run acts d → IsRested script me run acts (desk_turn script me run acts d i)
    turn-rests d Go h = say-rested _
    turn-rests d (Hear m) h = send-rested d _ h
    turn-rests d (Take from m) h = reply-rests d _ h

  -- more messages
  module _ (ever more : List Post) where
    came-more : (m : Message) → HasCome me ever m → HasCome me (ever ++ more) m
    came-more m h = (h.0, has-left ever more _ h.1)

    answer-more : (a : Answer) (x : _) → AnswerCame me ever x a → AnswerCame me (ever ++ more) x a
    answer-more (Got v) x h = came-more _ h
    answer-more Stored x h = came-more _ h

    end-more : (t : Try) (o : Outcome) → EndCame me ever t o → EndCame me (ever ++ more) t o
    end-more t outcome.Committed h = came-more _ h
    end-more t (outcome.Withdrawn l) h = h
    end-more t (outcome.Failed l k) h = h
    end-more t (outcome.Spent c) h = h
    end-more t w h = came-more _ h

    open-more : (P Q : Try → Type 0) → ((t : Try) → P t → Q t) → (o : Option Try) → OfOpen o P → OfOpen o Q
    open-more P Q k None h = h
    open-more P Q k (Some t) h = k t h

    pub cause-more : (b : Book) (f : Effect) → RestsOn me ever b f → RestsOn me (ever ++ more) b f
    cause-more b (effect.Got k v) h = open-more _ _ (λ t p. answer-more (Got v) _ p) (open_try b) h
    cause-more b (effect.Acked k) h = open-more _ _ (λ t p. answer-more Stored _ p) (open_try b) h
    cause-more b (effect.End i o) h = open-more _ _ (λ t p. end-more t o p) (open_try b) h
    cause-more b f h = h

    pub effs-more : (log : List Effect) → HaveCauses me ever log → HaveCauses me (ever ++ more) log
    effs-more [] h = h
    effs-more (f ∷ log) h = (effs-more log h.0, cause-more (book log) f h.1)
