-- A call's turn is that of the rules.
use Rattle.broker_core.proofs.Names.{ActSpec, Effect, Out, Turn, Tree, Given, Heard, Notes, Phase, tasks, task_of, Scripted, Book, book, enter, fits, counts, keep, stage, standing, Desk, desk_at, all_effects, note, hears, send, fuel, state, settle_up, say, Shows, noted, answered_in, standing_at, AreNotes, LedgerParts, Settled, kept, answers_noted, settled, most_steps, MayBegin, listed, phase_in, effects_from, ledger_from, BrokerParts, IsBroker, IsLedTo, book_of, parts_of, FirstInRange, reading, NoRun, Gives, follows, FirstFits, ◌≡◌, ℕ, min, ◌+◌, ◌*◌, ◌≤◌, ◌==◌, true, length, reverse, List, [], ◌∷◌, ◌++◌, refl, sym, ◌∙◌, ap, subst, Option, Some, None, arith, false≢true, length-map, length-take, length-take-le, reverse-append, reverse-reverse, common_steps, AreAsked, answers_given, act_at, tree_of}
use Rattle.broker_ledger.specs.Effect.TheVariants as effect
use Rattle.broker_core.proofs.AddLemmas.{heard-may}
use Rattle.broker_ledger.proofs.FitLemmas.{fits-is}
use Rattle.broker_core.proofs.ReadingLemmas.{reads-own}
use Rattle.broker_ledger.proofs.NotedLemmas.{noted-shows}
use Rattle.broker_ledger.proofs.MeetLemmas.{Knows, meets}
use Rattle.broker_core.proofs.AnyLemmas.{standing-any}
use Rattle.broker_core.proofs.DoneLemmas.{knows-of}
use Rattle.broker_core.proofs.GoodLemmas.{RunIs, counted}
use Rattle.broker_core.proofs.TurnLemmas.{At, Led, settle-led, knows, state-note, not-later}

send-added : (o : Option Out) (d : Desk) → (send o d).added ≡ d.added
send-added None d = refl
send-added (Some x) d = refl

send-heard : (o : Option Out) (d : Desk) → (send o d).heard ≡ d.heard
send-heard None d = refl
send-heard (Some x) d = refl

send-outs : (o : Option Out) (d : Desk) → d.outs ≡ [] → (send o d).outs ≡ listed o
send-outs None d e = e
send-outs (Some x) d e = ap (λ (xs : List Out). xs ++ x ∷ []) e

-- the desk has these effects and messages, and these notes are where the log then leads
record Leads (script : List ℕ → Tree) (desk : Desk) (added : List Effect) (sent : List Out) (new : BrokerParts) (n : Notes) (answers : List Given) : Type 0 where
  pub effects : added ≡ reverse desk.added
  pub outs : sent ≡ desk.outs
  pub heard : new.heard ≡ desk.heard
  pub stands : IsLedTo script new n answers

module _ (script : List ℕ → Tree) (me run : ℕ) (acts : List ActSpec) where
  fit-counts : (b : Book) (f : Effect) → fits script me (tasks acts) b f ≡ true → counts script me run (tasks acts) b f ≡ true
  fit-counts b (effect.Run m) h = h
  fit-counts b (effect.Put o x v) h = absurd (false≢true h)
  fit-counts b (effect.Stretch o x) h = absurd (false≢true h)
  fit-counts b (effect.Begin t d) h = absurd (false≢true h)
  fit-counts b (effect.Decide t d) h = absurd (false≢true h)
  fit-counts b (effect.Learn t d) h = absurd (false≢true h)
  fit-counts b (effect.Mark at) h = absurd (false≢true h)
  fit-counts b effect.Whole h = absurd (false≢true h)
  fit-counts b f h = counted (b.run == run) _ h

  run-is : (f : Effect) → NoRun f → RunIs script me run (tasks acts) f
  run-is (effect.Run m) h = absurd h
  run-is f h = tt

  -- what follows on a desk
  finished : Scripted script acts → (log fresh : List Effect) (d : Desk) (h : Heard) (n : Notes) (raw : List Given) → d.past ≡ reverse log → d.outs ≡ [] → d.heard ≡ h → d.added ≡ fresh → At script me run acts n raw d →
      (l : LedgerParts) (p : Phase) (effects : List Effect) (outs : List Out) → l ≡ record { number = me; run = run; acts = acts; notes = (settled me run acts raw h (most_steps acts) fresh n).1; answers = raw } →
      reverse effects ≡ (settled me run acts raw h (most_steps acts) fresh n).0 → p ≡ phase_in l h → outs ≡ listed (standing_at l.acts l.notes p) →
      Leads script (say script me run (tasks acts) (settle_up script me run (tasks acts) (fuel (tasks acts)) d)) effects outs (parts_of l h (log ++ effects)) l.notes (kept l.notes l.answers)
  finished m log fresh d h n raw base outs-none heard fresh-is at l p effects outs l-is effects-are p-is outs-are =
      let s : Settled = settled me run acts raw h (most_steps acts) fresh n in
      let d2 : Desk = settle_up script me run (tasks acts) (fuel (tasks acts)) d in
      let steps : fuel (tasks acts) ≡ most_steps acts = ap (λ (x : ℕ). 3 * x + 3) (length-map acts task_of) in
      let led1 : Led script me run acts (settled me run acts raw d.heard (fuel (tasks acts)) d.added n) raw d d2 = settle-led script me run acts m (fuel (tasks acts)) n raw d at in
      let led2 = subst (λ (x : Heard). Led script me run acts (settled me run acts raw x (fuel (tasks acts)) d.added n) raw d d2) heard led1 in
      let led3 = subst (λ (xs : List Effect). Led script me run acts (settled me run acts raw h (fuel (tasks acts)) xs n) raw d d2) fresh-is led2 in
      let led : Led script me run acts s raw d d2 = subst (λ (k : ℕ). Led script me run acts (settled me run acts raw h k fresh n) raw d d2) steps led3 in
      let o : Option Out = standing (stage script run (state script me run (tasks acts) d2) d2.heard) in
      let l1 : LedgerParts = record { number = me; run = run; acts = acts; notes = s.1; answers = raw } in
      let back : reverse effects ≡ d2.added = effects-are ∙ sym led.added in
      let heard2 : d2.heard ≡ h = led.heard ∙ heard in
      let k : Knows script run acts s.1 (kept s.1 raw) (state script me run (tasks acts) d2) = knows script me run acts m s.1 raw d2 led.at in
      let p1 : p ≡ phase_in l1 h = subst (λ (x : LedgerParts). p ≡ phase_in x h) l-is p-is in
      let stands1 : standing_at l.acts l.notes p ≡ o =
      ap (λ (x : LedgerParts). standing_at x.acts x.notes p) l-is
      ∙ (ap (standing_at acts s.1) p1
      ∙ (standing-any script run acts s.1 (kept s.1 raw) (state script me run (tasks acts) d2) h k
      ∙ ap (λ (x : Heard). standing (stage script run (state script me run (tasks acts) d2) x)) (sym heard2))) in
      let log-is : all_effects d2 ≡ reverse (log ++ effects) =
      ap (λ (xs : List Effect). xs ++ d2.past) (sym back) ∙ (ap (λ (xs : List Effect). reverse effects ++ xs) (led.past ∙ base) ∙ sym (reverse-append log effects)) in
      record {
        effects = sym (reverse-reverse effects) ∙ ap reverse (back ∙ sym (send-added o d2));
        outs = outs-are ∙ (ap listed stands1 ∙ sym (send-outs o d2 (led.outs ∙ outs-none)));
        heard = sym heard2 ∙ sym (send-heard o d2);
        stands = subst (λ (x : LedgerParts). IsLedTo script (parts_of x h (log ++ effects)) x.notes (kept x.notes x.answers)) (sym l-is) (record {
          shows = subst (λ (xs : List Effect). Shows run s.1 (kept s.1 raw) (book (keep script me run (tasks acts) xs))) log-is led.at.shows;
          not_old = subst (λ (xs : List Effect). (book (keep script me run (tasks acts) xs)).run ≤ run) log-is led.at.not_old;
        });
      }

-- ---- a call that works

module _ (script : List ℕ → Tree) (l0 : LedgerParts) (h0 : Heard) (log : List Effect) (m : Scripted script l0.acts) (st : IsLedTo script (parts_of l0 h0 log) l0.notes (kept l0.notes l0.answers)) where
  first-at : (h : Heard) (f : Effect) → FirstFits script (parts_of l0 h0 log) (Some f) →
      At script l0.number l0.run l0.acts (noted l0.acts f l0.notes) (answers_noted f l0.notes l0.answers) (note f (hears h (desk_at (reverse log) h0)))
  first-at h f ff =
      let d : Desk = hears h (desk_at (reverse log) h0) in
      let b : Book = state script l0.number l0.run (tasks l0.acts) d in
      let e : state script l0.number l0.run (tasks l0.acts) (note f d) ≡ enter f b = state-note script l0.number l0.run l0.acts d f (fit-counts script l0.number l0.run l0.acts b f ff.2) in
      let k : Knows script l0.run l0.acts l0.notes (kept l0.notes l0.answers) b = knows-of script (parts_of l0 h0 log) l0.notes (kept l0.notes l0.answers) m st in
      record {
        shows = subst (Shows l0.run (noted l0.acts f l0.notes) (kept (noted l0.acts f l0.notes) (answers_noted f l0.notes l0.answers))) (sym e)
            (noted-shows script l0.number l0.run l0.acts l0.notes l0.answers b f (meets script l0.run l0.acts l0.notes (kept l0.notes l0.answers) b k ff.1) ff.2);
        not_old = subst (λ (x : Book). x.run ≤ l0.run) (sym e) (not-later script l0.number l0.run l0.acts b f st.not_old (run-is script l0.number l0.run l0.acts f ff.0));
      }

  advance-leads : (l : LedgerParts) (h : Heard) (first : Option Effect) (p : Phase) (effects : List Effect) (outs : List Out) → FirstFits script (parts_of l0 h0 log) first →
      l ≡ ledger_from l0 first h → reverse effects ≡ effects_from l0 first h → p ≡ phase_in l h → outs ≡ listed (standing_at l.acts l.notes p) →
      Leads script (follows script (parts_of l0 h0 log) first h) effects outs (parts_of l h (log ++ effects)) l.notes (kept l.notes l.answers)
  advance-leads l h None p effects outs ff l-is e-is p-is o-is =
      finished script l0.number l0.run l0.acts m log [] (hears h (desk_at (reverse log) h0)) h l0.notes l0.answers refl refl refl refl (record { shows = st.shows; not_old = st.not_old }) l p effects outs l-is e-is p-is o-is
  advance-leads l h (Some f) p effects outs ff l-is e-is p-is o-is =
      finished script l0.number l0.run l0.acts m log (f ∷ []) (note f (hears h (desk_at (reverse log) h0))) h (noted l0.acts f l0.notes) (answers_noted f l0.notes l0.answers) refl refl refl refl (first-at h f ff)
      l p effects outs l-is e-is p-is o-is

-- what `yielded` answers, of a broker as its callers see it
module _ (l0 l : LedgerParts) (h0 h : Heard) (p0 p : Phase) (log0 log : List Effect) (q : BrokerParts) (first : Option Effect) (effects : List Effect) (outs : List Out) (view : parts_of l0 h0 log0 ≡ q) (k : IsBroker l0 h0 p0 log0)
    (fit : (script : List ℕ → Tree) → Scripted script q.acts → FirstFits script q first) (l-is : l ≡ ledger_from l0 first h) (e-is : reverse effects ≡ effects_from l0 first h) (p-is : p ≡ phase_in l h)
    (o-is : outs ≡ listed (standing_at l.acts l.notes p)) (acts-are : l.acts ≡ l0.acts) (log-is : log ≡ log0 ++ effects) where
  leads : (script : List ℕ → Tree) → Scripted script l0.acts → Leads script (follows script (parts_of l0 h0 log0) first h) effects outs (parts_of l h (log0 ++ effects)) l.notes (kept l.notes l.answers)
  leads script m =
      advance-leads script l0 h0 log0 m (k.led script m) l h first p effects outs
      (subst (λ (x : BrokerParts). Scripted script x.acts → FirstFits script x first) (sym view) (fit script) m) l-is e-is p-is o-is

  pub led-after : (script : List ℕ → Tree) → Scripted script l.acts → IsLedTo script (parts_of l h log) l.notes (kept l.notes l.answers)
  led-after script m = subst (λ (xs : List Effect). IsLedTo script (parts_of l h xs) l.notes (kept l.notes l.answers)) (sym log-is) (leads script (subst (Scripted script) acts-are m)).stands

  pub advance-gives : (turn : Turn) → turn.effects ≡ effects → turn.outs ≡ outs → l.number ≡ l0.number → l.run ≡ l0.run → (script : List ℕ → Tree) → Scripted script q.acts → Gives (follows script q first h) turn q (parts_of l h log)
  advance-gives turn te to number-is run-is script =
      subst (λ (x : BrokerParts). Scripted script x.acts → Gives (follows script x first h) turn x (parts_of l h log)) view go
    where
      go : Scripted script l0.acts → Gives (follows script (parts_of l0 h0 log0) first h) turn (parts_of l0 h0 log0) (parts_of l h log)
      go m =
          let g = leads script m in
          record {
            effects = te ∙ g.effects;
            outs = to ∙ g.outs;
            broker = λ j. record { number = number-is j; run = run-is j; acts = acts-are j; log = (log-is ∙ ap (λ (xs : List Effect). log0 ++ xs) (sym te)) j; heard = g.heard j };
          }

-- what a message adds may be added
pub may-begin : (l : LedgerParts) (h : Heard) (p : Phase) (log : List Effect) (q : BrokerParts) (first : Option Effect) → parts_of l h log ≡ q → IsBroker l h p log →
    ((script : List ℕ → Tree) → Scripted script q.acts → FirstFits script q first) → FirstInRange first → MayBegin l.acts l.notes (kept l.notes l.answers) first
may-begin l h p log q None view k fit r = tt
may-begin l h p log q (Some f) view k fit r =
    let s : List ℕ → Tree = reading l.acts in
    let m : Scripted s l.acts = reads-own l.acts k.ranged.are_acts.each in
    let ff : FirstFits s (parts_of l h log) (Some f) = subst (λ (x : BrokerParts). Scripted s x.acts → FirstFits s x (Some f)) (sym view) (fit s) m in
    let b : Book = book_of s (parts_of l h log) in
    let t = meets s l.run l.acts l.notes (kept l.notes l.answers) b (knows-of s (parts_of l h log) l.notes (kept l.notes l.answers) m (k.led s m)) ff.1 in
    heard-may l.acts l.notes (kept l.notes l.answers) l.number f r.1 (fits-is l.number l.acts s l.run l.notes (kept l.notes l.answers) b f t ∙ ff.2)

module _ (acts : List ActSpec) (n : Notes) (raw : List Given) where
  -- with other answers behind them
  are-same : (new : List Given) → AreNotes acts n raw → kept n new ≡ kept n raw → answered_in n.last ≤ length new → AreNotes acts n new
  are-same new k e l = record {
    started = k.started;
    tries = k.tries;
    clock = k.clock;
    answered = l;
    few = k.few;
    asked = λ t. subst (λ (xs : List Given). AreAsked (tree_of (act_at acts n)) (answers_given xs)) (sym e) (k.asked t);
  }

-- where the answers that the notes count still stand, there are as many
few-kept : (n : Notes) (old new : List Given) → answered_in n.last ≤ length old → kept n new ≡ kept n old → answered_in n.last ≤ length new
few-kept n old new few same =
    let l : length (kept n old) ≡ answered_in n.last = length-take-le (answered_in n.last) old few in
    let q : length (kept n new) ≡ min (answered_in n.last) (length new) = length-take (answered_in n.last) new in
    least (answered_in n.last) (length new) (sym q ∙ (ap length same ∙ l))
  where
    least : (a b : ℕ) → min a b ≡ a → a ≤ b
    least a b e = grind (arith, common_steps)

-- notes to go back to
pub restored : (acts acts0 : List ActSpec) (n n0 : Notes) (old new : List Given) → n ≡ n0 → AreNotes acts0 n0 old → acts ≡ acts0 → kept n0 new ≡ kept n0 old → AreNotes acts n new
restored acts acts0 n n0 old new e k a same =
    subst (λ (x : Notes). AreNotes acts x new) (sym e) (subst (λ (xs : List ActSpec). AreNotes xs n0 new) (sym a) (are-same acts0 n0 old new k same (few-kept n0 old new k.answered same)))
