-- The trace of the run worked by hand is legal as a whole.
use Rattle.std.proofs.lemmas.Bool.Decides.{nat_tests}
use Rattle.trace_logs.proofs.Names.{filter, NodeId, NodeKind, Repository, Broker, block-made, Effect, Message, Post, posts, denote, book, keep, Entry, Take, Go, Gate, leaves, Going, Taking, Flags, Life, World, Sending, gated_life, numbered, opened_log, sent_by, start_world, step, after_input, took, walk, walk_from, all_effects, JustNodes, Legal, Meets, post_of, ◌≡◌, ◌<◌, ℕ, zero, suc, Bool, true, false, ◌==◌, ◌&&◌, List, [], ◌∷◌, ◌++◌, map, refl, sym, ap, subst, ◌∙◌, inl, Option, Some, None, is_some, if◌then◌else◌, arith, nat_le, other_plan, is_ready, with_due, AllReady, Rule, fates_of, in_plan, is_within}
use Rattle.pseudo_time.specs.declared.decisions.Decision.TheVariants as decision
use Rattle.effect_form.specs.declared.effects.Effect.TheVariants as effect
use Rattle.effect_form.specs.declared.outcomes.Outcome.TheVariants as outcome
use Rattle.message_form.specs.declared.messages.Message.TheVariants as message
use Rattle.message_core.specs.Tallies.{count}
use Rattle.trace_logs.proofs.OpenedLemmas.{once-two}
use Rattle.trace_logs.proofs.WorkedTraces.{home, desk, stamp, blank, prompt}
use Rattle.trace_logs.proofs.WorkedTurns.{object, ten, part, act, plan, script, base, entries, at, sent, trace, asked, home_log, desk_log, to_desk, to_home, keeps, works, went, began, begins, going, taking, go-given, begin-given, begun-given, write-given, stored-given, read-given, value-given, commit-given, decided-given}

-- ---- a place of the trace

-- the lives of both nodes, whether the broker has gone and which of them has something to close, and the messages that were sent and taken
record Stands (w : World) (r b : Life) (g x y : Bool) (s : List Sending) (t : List ℕ) : Type 0 where
  pub home_life : w.life home ≡ r
  pub desk_life : w.life desk ≡ b
  pub home_flags : w.flags home ≡ record { known = true; up = true; gone = false; due = x }
  pub desk_flags : w.flags desk ≡ record { known = true; up = true; gone = g; due = y }
  pub sends : w.sendings ≡ s
  pub takes : w.taken ≡ t
  pub quiet : w.last ≡ None
  pub early : w.ticks ≡ 0

-- from this world on the entries are legal, and lead to the end
record Ends (w : World) (es : List Entry) : Type 0 where
  pub meets : Meets base (fates_of sent) w es
  pub sends : sent_by (walk_from base w es) ≡ map post_of sent
  pub home_life : (walk_from base w es).life home ≡ keeps home_log [] []
  pub desk_life : (walk_from base w es).life desk ≡ works began desk_log [] []

-- they do from each world that looks so
record Onward (es : List Entry) (r b : Life) (g x y : Bool) (s : List Sending) (t : List ℕ) : Type 0 where
  pub from : (w : World) → Stands w r b g x y s t → Ends w es

more : (w : World) (e : Entry) (es : List Entry) → Rule base (fates_of sent) w e → Ends (step base w e) es → Ends w (e ∷ es)
unfolding Meets walk_from
more w e es rule h = record { meets = (rule, h.meets); sends = h.sends; home_life = h.home_life; desk_life = h.desk_life }

if-known : (w : World) (n : NodeId) (l : Life) → (w.flags n).known ≡ true → (if (w.flags n).known then l else w.life n) ≡ l
if-known w n l h = ap (λ known. if known then l else w.life n) h

-- a message to the repository, and one to the broker
abbrev home_sending : Message → Sending
home_sending m = record { post = record { from = desk; to = home; message = m }; ticks = 0 }

abbrev desk_sending : Message → Sending
desk_sending m = record { post = record { from = home; to = desk; message = m }; ticks = 0 }

-- the messages that a gate sends
abbrev gate_sends : NodeId → Life → List Sending
gate_sends n l = map (λ (p : Post). record { post = p; ticks = 0 }) (posts n (filter (leaves (all_effects l)) l.outs))

module _ {es : List Entry} {r b : Life} {s : List Sending} {t : List ℕ} where
  goes : {x y : Bool} (c : Life) → after_input base desk b Going ≡ c → Onward es r c true x true s t → Onward (Go desk ∷ es) r b false x y s t
  goes c given next = record {
    from = λ w p. more w (Go desk) es (record { up = ap (λ f. f.up) p.desk_flags; broker = refl; fresh = ap (λ f. f.gone) p.desk_flags })
        (next.from (step base w (Go desk)) (record {
          home_life = p.home_life;
          desk_life = if-known w desk (after_input base desk (w.life desk) Going) (ap (λ f. f.known) p.desk_flags) ∙ ap (λ l. after_input base desk l Going) p.desk_life ∙ given;
          home_flags = p.home_flags;
          desk_flags = ap (λ (f : Flags). if f.known then record { known = f.known; up = f.up; gone = true; due = true } else f) p.desk_flags;
          sends = p.sends;
          takes = p.takes;
          quiet = p.quiet;
          early = p.early;
        }));
  }

  home-takes : {g x y : Bool} (k : ℕ) (m : Message) (c : Life) → numbered s k ≡ Some (home_sending m) → numbered (fates_of sent) k ≡ Some prompt → count k t ≡ 0
      → after_input base home r (Taking desk m) ≡ c → Onward es c b g true y s (k ∷ t) → Onward (Take home k ∷ es) r b g x y s t
  home-takes k m c found fated first given next = record {
    from = λ w p. more w (Take home k) es
        (record {
          up = ap (λ f. f.up) p.home_flags;
          heard = inl p.quiet;
          gone = λ e. absurd (cc e);
          sending = home_sending m;
          sent = ap (λ l. numbered l k) p.sends ∙ found;
          to = refl;
          fate = prompt;
          fated = fated;
          fewer = subst (λ n. n < 1) (sym (ap (λ l. count k l) p.takes ∙ first)) (omega arith);
          released = omega arith;
        })
        (next.from (step base w (Take home k)) (record {
          home_life = if-known w home (took base home (w.life home) (numbered w.sendings k)) (ap (λ f. f.known) p.home_flags)
              ∙ ap (λ l. took base home l (numbered w.sendings k)) p.home_life ∙ ap (took base home r) (ap (λ l. numbered l k) p.sends ∙ found) ∙ given;
          desk_life = p.desk_life;
          home_flags = ap (λ (f : Flags). if f.known then with_due f else f) p.home_flags;
          desk_flags = p.desk_flags;
          sends = p.sends;
          takes = ap (λ l. k ∷ l) p.takes;
          quiet = p.quiet;
          early = p.early;
        }));
  }

  desk-takes : {x y : Bool} (k : ℕ) (m : Message) (c : Life) → numbered s k ≡ Some (desk_sending m) → numbered (fates_of sent) k ≡ Some prompt → count k t ≡ 0
      → after_input base desk b (Taking home m) ≡ c → Onward es r c true x true s (k ∷ t) → Onward (Take desk k ∷ es) r b true x y s t
  desk-takes k m c found fated first given next = record {
    from = λ w p. more w (Take desk k) es
        (record {
          up = ap (λ f. f.up) p.desk_flags;
          heard = inl p.quiet;
          gone = λ e. ap (λ f. f.gone) p.desk_flags;
          sending = desk_sending m;
          sent = ap (λ l. numbered l k) p.sends ∙ found;
          to = refl;
          fate = prompt;
          fated = fated;
          fewer = subst (λ n. n < 1) (sym (ap (λ l. count k l) p.takes ∙ first)) (omega arith);
          released = omega arith;
        })
        (next.from (step base w (Take desk k)) (record {
          home_life = p.home_life;
          desk_life = if-known w desk (took base desk (w.life desk) (numbered w.sendings k)) (ap (λ f. f.known) p.desk_flags)
              ∙ ap (λ l. took base desk l (numbered w.sendings k)) p.desk_life ∙ ap (took base desk b) (ap (λ l. numbered l k) p.sends ∙ found) ∙ given;
          home_flags = p.home_flags;
          desk_flags = ap (λ (f : Flags). if f.known then with_due f else f) p.desk_flags;
          sends = p.sends;
          takes = ap (λ l. k ∷ l) p.takes;
          quiet = p.quiet;
          early = p.early;
        }));
  }

  home-gates : {g y : Bool} → Onward es (gated_life r) b g false y (s ++ gate_sends home r) t → Onward (Gate home ∷ es) r b g true y s t
  home-gates next = record {
    from = λ w p. more w (Gate home) es (record { up = ap (λ f. f.up) p.home_flags; due = ap (λ f. f.due) p.home_flags })
        (next.from (step base w (Gate home)) (record {
          home_life = if-known w home (gated_life (w.life home)) (ap (λ f. f.known) p.home_flags) ∙ ap gated_life p.home_life;
          desk_life = p.desk_life;
          home_flags = ap (λ (f : Flags). if f.known then record { known = f.known; up = f.up; gone = f.gone; due = false } else f) p.home_flags;
          desk_flags = p.desk_flags;
          sends = λ j. p.sends j ++ map (λ (q : Post). record { post = q; ticks = p.early j })
              (if (p.home_flags j).known then posts home (filter (leaves (all_effects (p.home_life j))) (p.home_life j).outs) else []);
          takes = p.takes;
          quiet = p.quiet;
          early = p.early;
        }));
  }

  desk-gates : {g x : Bool} → Onward es r (gated_life b) g x false (s ++ gate_sends desk b) t → Onward (Gate desk ∷ es) r b g x true s t
  desk-gates next = record {
    from = λ w p. more w (Gate desk) es (record { up = ap (λ f. f.up) p.desk_flags; due = ap (λ f. f.due) p.desk_flags })
        (next.from (step base w (Gate desk)) (record {
          home_life = p.home_life;
          desk_life = if-known w desk (gated_life (w.life desk)) (ap (λ f. f.known) p.desk_flags) ∙ ap gated_life p.desk_life;
          home_flags = p.home_flags;
          desk_flags = ap (λ (f : Flags). if f.known then record { known = f.known; up = f.up; gone = f.gone; due = false } else f) p.desk_flags;
          sends = λ j. p.sends j ++ map (λ (q : Post). record { post = q; ticks = p.early j })
              (if (p.desk_flags j).known then posts desk (filter (leaves (all_effects (p.desk_life j))) (p.desk_life j).outs) else []);
          takes = p.takes;
          quiet = p.quiet;
          early = p.early;
        }));
  }

-- ---- the whole trace

abbrev all_taken : List ℕ
all_taken = 8 ∷ 7 ∷ 6 ∷ 5 ∷ 4 ∷ 3 ∷ 2 ∷ 1 ∷ []

abbrev all_sendings : List Sending
all_sendings = home_sending (message.Begin stamp 5) ∷ desk_sending (message.Begun stamp) ∷ home_sending (message.Write (at 1) object ten) ∷ desk_sending (message.Stored (at 1))
    ∷ home_sending (message.Read (at 2) object) ∷ desk_sending (message.Value (at 2) ten) ∷ home_sending (message.Commit stamp) ∷ desk_sending (message.Decided stamp decision.Committed) ∷ []

at-end : Onward [] (keeps home_log [] []) (works began desk_log [] []) true false false all_sendings all_taken
unfolding Meets walk_from
at-end = record {
  from = λ w p. record {
    meets = tt;
    sends = ap (λ l. map (λ (q : Sending). q.post) l) p.sends;
    home_life = p.home_life;
    desk_life = p.desk_life;
  };
}

all-go : Onward entries (keeps [] [] []) (keeps [] [] []) false false false [] []
all-go = goes (works went [] begins (to_home (message.Begin stamp 5))) (going (keeps [] [] []) (works went [] begins (to_home (message.Begin stamp 5))) go-given) (desk-gates
    (home-takes 1 (message.Begin stamp 5) (keeps [] (effect.Begin stamp 5 ∷ []) (to_desk (message.Begun stamp))) refl refl refl begin-given (home-gates
    (desk-takes 2 (message.Begun stamp) (works began begins [] (to_home (message.Write (at 1) object ten))) refl refl refl (taking (works went begins [] []) (works began begins [] (to_home (message.Write (at 1) object ten))) (message.Begun stamp) begun-given) (desk-gates
    (home-takes 3 (message.Write (at 1) object ten) (keeps (effect.Begin stamp 5 ∷ []) (effect.Put object (at 1) ten ∷ []) (to_desk (message.Stored (at 1)))) refl refl refl write-given (home-gates
    (desk-takes 4 (message.Stored (at 1)) (works began begins (effect.Acked 1 ∷ []) (to_home (message.Read (at 2) object))) refl refl refl (taking (works began begins [] []) (works began begins (effect.Acked 1 ∷ []) (to_home (message.Read (at 2) object))) (message.Stored (at 1)) stored-given) (desk-gates
    (home-takes 5 (message.Read (at 2) object) (keeps (effect.Begin stamp 5 ∷ effect.Put object (at 1) ten ∷ []) (effect.Stretch object (at 2) ∷ []) (to_desk (message.Value (at 2) ten))) refl refl refl read-given (home-gates
    (desk-takes 6 (message.Value (at 2) ten) (works began (begins ++ effect.Acked 1 ∷ []) (effect.Got 2 ten ∷ []) (to_home (message.Commit stamp))) refl refl refl (taking (works began (begins ++ effect.Acked 1 ∷ []) [] []) (works began (begins ++ effect.Acked 1 ∷ []) (effect.Got 2 ten ∷ []) (to_home (message.Commit stamp))) (message.Value (at 2) ten) value-given) (desk-gates
    (home-takes 7 (message.Commit stamp) (keeps (effect.Begin stamp 5 ∷ effect.Put object (at 1) ten ∷ effect.Stretch object (at 2) ∷ []) (effect.Decide stamp decision.Committed ∷ []) (to_desk (message.Decided stamp decision.Committed))) refl refl refl commit-given (home-gates
    (desk-takes 8 (message.Decided stamp decision.Committed) (works began (begins ++ effect.Acked 1 ∷ effect.Got 2 ten ∷ []) (effect.End 1 outcome.Committed ∷ []) []) refl refl refl (taking (works began (begins ++ effect.Acked 1 ∷ effect.Got 2 ten ∷ []) [] []) (works began (begins ++ effect.Acked 1 ∷ effect.Got 2 ten ∷ []) (effect.End 1 outcome.Committed ∷ []) []) (message.Decided stamp decision.Committed) decided-given) (desk-gates
    at-end)))))))))))))))))

start : Stands (start_world base) (keeps [] [] []) (keeps [] [] []) false false false [] []
start = record { home_life = refl; desk_life = refl; home_flags = refl; desk_flags = refl; sends = refl; takes = refl; quiet = refl; early = refl }

whole-run : Ends (start_world base) entries
whole-run = all-go.from (start_world base) start

-- ---- the messages, and the logs at the end

pub sent-by-gates : sent_by (walk base entries) ≡ map post_of sent
sent-by-gates = whole-run.sends

pub home-log : ((walk base entries).life home).gated ≡ home_log
home-log = ap (λ l. l.gated) whole-run.home_life

pub desk-log : ((walk base entries).life desk).gated ≡ desk_log
desk-log = ap (λ l. l.gated) whole-run.desk_life

-- ---- the trace is legal

-- the number is 1 where it is from 1 to 1
one-within : (i : ℕ) → (1 == i) ≡ is_within i 1
one-within zero = refl
one-within (suc zero) = refl
one-within (suc (suc i)) = above (1 == suc (suc i)) (nat_le 1 (suc (suc i))) (nat_le (suc (suc i)) 1) (grind (arith, nat_tests)) (grind (arith, nat_tests))
  where
    above : (a b c : Bool) → a ≡ false → c ≡ false → a ≡ (b && c)
    above a true c p q = p ∙ sym q
    above a false c p q = p

abbrev opened_if : Bool → Option (List Effect)
opened_if t = if t then Some [] else None

just-if : (t u : Bool) → t ≡ u → is_some (opened_if t) ≡ u
just-if true u e = e
just-if false u e = e

just-at : (kind : NodeKind) (i : ℕ) → is_some (opened_log blank (record { kind = kind; number = i })) ≡ in_plan plan (record { kind = kind; number = i })
just-at Repository i = just-if (1 == i) (is_within i 1) (one-within i)
just-at Broker i = just-if (1 == i) (is_within i 1) (one-within i)

just-nodes : JustNodes plan blank
just-nodes = record { just = λ n. just-at n.kind n.number; once = once-two (record { node = home; effects = [] }) (record { node = desk; effects = [] }) refl }

empty-log : (t : Bool) (log : List Effect) → opened_if t ≡ Some log → [] ≡ log
empty-log true log h = cc h
empty-log false log h = absurd (cc h)

ready-at : (kind : NodeKind) (i : ℕ) (log : List Effect) → opened_log blank (record { kind = kind; number = i }) ≡ Some log → is_ready script 1 (act ∷ []) (record { kind = kind; number = i }) log ≡ true
unfolding is_ready book keep other_plan
ready-at Repository i log h = refl
ready-at Broker i log h = subst (λ l. is_ready script 1 (act ∷ []) (record { kind = Broker; number = i }) l ≡ true) (empty-log (1 == i) log h) refl

pub all-ready : AllReady base
all-ready n log h = ready-at n.kind n.number log h

-- the whole run is legal, with just these questions for fates
pub legal : Legal script plan asked trace
legal = record {
  scripted = (ap denote (sym (block-made part)), tt);
  nodes = just-nodes;
  ready = all-ready;
  meets = whole-run.meets;
  sent = sym sent-by-gates;
  numbers = (refl, (refl, (refl, (refl, (refl, (refl, (refl, (refl, tt))))))));
  before = [];
  fated = refl;
}
