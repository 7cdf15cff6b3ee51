-- A message that is taken.
use Rattle.broker_ledger.specs.NodeId.{NodeId}
use Rattle.broker_core.proofs.Names.{Effect, Message, Turn, Tree, Heard, Phase, Reply, Ignored, Hears, Adds, tasks, Scripted, Book, Stage, stage, row, news, Desk, Take, desk_at, reply, reply_at, LedgerParts, kept, BrokerParts, IsBroker, book_of, parts_of, Gives, turn_of, follows, FirstFits, ◌≡◌, ℕ, ◌==◌, Bool, true, false, List, [], reverse, refl, sym, ◌∙◌, ap, subst, Some, None, eqb-true}
use Rattle.broker_core.proofs.PhaseLemmas.{stage-of-is}
use Rattle.broker_core.proofs.AnyLemmas.{reply-any, stage-away}
use Rattle.broker_core.proofs.GoodLemmas.{ReplyGood, row-good}
use Rattle.broker_core.proofs.DoneLemmas.{knows-of, ignored-gives}

-- a broker with these notes takes a message
module _ (script : List ℕ → Tree) (l : LedgerParts) (h : Heard) (p : Phase) (log : List Effect) (m : Message) (k : IsBroker l h p log) (scripted : Scripted script l.acts) (r : Reply) (r-is : r ≡ reply_at l.acts l.notes (kept l.notes l.answers) p h m) where
  abbrev this : BrokerParts
  this = parts_of l h log

  -- the reply by the rules
  abbrev row_for : Reply
  row_for = row script (stage script l.run (book_of script this) h) h (news m)

  row-is : row_for ≡ r
  row-is =
      sym (r-is ∙ (ap (λ (x : Phase). reply_at l.acts l.notes (kept l.notes l.answers) x h m) k.phase_is
      ∙ reply-any script l.run l.acts l.notes (kept l.notes l.answers) (book_of script this) h m (knows-of script this l.notes (kept l.notes l.answers) scripted (k.led script scripted))))

  turn-is : (from : NodeId) (s : Reply) → r ≡ s → turn_of script this (Take from m) ≡ reply script l.number l.run (tasks l.acts) (desk_at (reverse log) h) s
  turn-is from s e = ap (reply script l.number l.run (tasks l.acts) (desk_at (reverse log) h)) (row-is ∙ e)

  -- only in this run a message adds an effect
  run-here : (f : Effect) (c : Bool) → ((book_of script this).run == l.run) ≡ c → row_for ≡ Adds f → (book_of script this).run ≡ l.run
  run-here f true e a = eqb-true (book_of script this).run l.run e
  run-here f false e a =
      let n : Ignored ≡ Adds f = sym (ap (λ (s : Stage). row script s h (news m)) (stage-away script l.run l.acts (book_of script this) h e)) ∙ a in
      cc

  -- and it fits
  adds-fit : (f : Effect) → r ≡ Adds f → FirstFits script this (Some f)
  adds-fit f e =
      let b : Book = book_of script this in
      let good : ReplyGood script l.number l.run (tasks l.acts) b (Adds f) =
      subst (ReplyGood script l.number l.run (tasks l.acts) b) (row-is ∙ e) (row-good script l.number l.run (tasks l.acts) l.acts b (stage script l.run b h) h m (stage-of-is script l.run l.acts b h)) in
      (good.1, run-here f (b.run == l.run) refl (row-is ∙ e), good.0)

-- a broker as its callers see it, before and once its ledger was looked at
module _ (l l' : LedgerParts) (h : Heard) (p : Phase) (log : List Effect) (m : Message) (q v : BrokerParts) (view : parts_of l h log ≡ q) (seen : parts_of l' h log ≡ v) (same : l' ≡ l) (k : IsBroker l h p log) (r : Reply)
    (r-is : r ≡ reply_at l.acts l.notes (kept l.notes l.answers) p h m) where
  still : v ≡ q
  still = sym seen ∙ (ap (λ (x : LedgerParts). parts_of x h log) same ∙ view)

  -- from the broker with these notes
  from-parts : (P : (List ℕ → Tree) → BrokerParts → Type 0) → ((script : List ℕ → Tree) → Scripted script l.acts → P script (parts_of l h log)) → (script : List ℕ → Tree) → Scripted script q.acts → P script q
  from-parts P g script = subst (λ (x : BrokerParts). Scripted script x.acts → P script x) view (g script)

  pub ignored-viewed : (from : NodeId) (turn : Turn) → r ≡ Ignored → turn.effects ≡ [] → turn.outs ≡ [] → (script : List ℕ → Tree) → Scripted script q.acts → Gives (turn_of script q (Take from m)) turn q v
  ignored-viewed from turn e none nothing script sc =
      subst (Gives (turn_of script q (Take from m)) turn q) (sym still)
      (from-parts (λ script x. Gives (turn_of script x (Take from m)) turn x x) (λ script m'. ignored-gives (parts_of l h log) _ turn (turn-is script l h p log m k m' r r-is from Ignored e) none nothing) script sc)

  heard-is : (from : NodeId) (heard : Heard) → r ≡ Hears heard → (script : List ℕ → Tree) → Scripted script q.acts → turn_of script q (Take from m) ≡ follows script q None heard
  heard-is from heard e = from-parts (λ script x. turn_of script x (Take from m) ≡ follows script x None heard) (λ script m'. turn-is script l h p log m k m' r r-is from (Hears heard) e)

  added-is : (from : NodeId) (f : Effect) → r ≡ Adds f → (script : List ℕ → Tree) → Scripted script q.acts → turn_of script q (Take from m) ≡ follows script q (Some f) q.heard
  added-is from f e = from-parts (λ script x. turn_of script x (Take from m) ≡ follows script x (Some f) x.heard) (λ script m'. turn-is script l h p log m k m' r r-is from (Adds f) e)

  pub hears-viewed : (from : NodeId) (heard : Heard) (turn : Turn) (new : BrokerParts) → r ≡ Hears heard → ((script : List ℕ → Tree) → Scripted script v.acts → Gives (follows script v None heard) turn v new) →
      (script : List ℕ → Tree) → Scripted script q.acts → Gives (turn_of script q (Take from m)) turn q new
  hears-viewed from heard turn new e g script sc =
      subst (λ (d : Desk). Gives d turn q new) (sym (heard-is from heard e script sc))
      (subst (λ (x : BrokerParts). Scripted script x.acts → Gives (follows script x None heard) turn x new) still (g script) sc)

  pub adds-viewed : (from : NodeId) (f : Effect) (turn : Turn) (new : BrokerParts) → r ≡ Adds f → ((script : List ℕ → Tree) → Scripted script v.acts → Gives (follows script v (Some f) v.heard) turn v new) →
      (script : List ℕ → Tree) → Scripted script q.acts → Gives (turn_of script q (Take from m)) turn q new
  adds-viewed from f turn new e g script sc =
      subst (λ (d : Desk). Gives d turn q new) (sym (added-is from f e script sc))
      (subst (λ (x : BrokerParts). Scripted script x.acts → Gives (follows script x (Some f) x.heard) turn x new) still (g script) sc)

  -- what a message adds fits
  pub fits-viewed : (f : Effect) → r ≡ Adds f → (script : List ℕ → Tree) → Scripted script v.acts → FirstFits script v (Some f)
  fits-viewed f e script =
      subst (λ (x : BrokerParts). Scripted script x.acts → FirstFits script x (Some f)) (sym still)
      (from-parts (λ script x. FirstFits script x (Some f)) (λ script m'. adds-fit script l h p log m k m' r r-is f e) script)
