-- What turns are to a node of the rounds, one or several.
use Rattle.node_rounds.proofs.Names.{◌≡◌, ◌≢◌, ◌+◌, ◌++◌, List, Result, Ok, Err, sym, subst, ◌∙◌, ⊎_elim, IfOk, OnOk, DownCause, NodeId, has-left, has-right, has-either, View, Founding, LockTable, Media, Entry, place_of, number_of, WireParts, Condition, Turned, costs, NodeParts, Does, Grew, IsCondition, StaysWhole, TurnsTo, sight, PassesOn, passes-on, trail-joins, more-grew, GoesOn, HadTurn, IsKeptThrough, IsReady}
use Rattle.std.specs.declared.alloc.AllocError.{AllocError}
use Rattle.broker_node.specs.Condition.TheVariants as condition
use Rattle.broker_node.specs.Turned.TheVariants.{Worked, Quiet, Stopped}
use Rattle.node_rounds.proofs.RoundLemmas.{goes-joins, goes-turned}

-- ---- what a turn's answer says of memory

found-memory : {E : Type 0} (r : Result Turned E) (c : Condition) (P : Type 0) → IsCondition r c → c ≢ condition.Wanting → OnOk r P → P
found-memory (Ok t) c P is ne p = p
found-memory (Err e) c P is ne p = absurd (ne is)

up-found : (c : Condition) → c ≡ condition.AtWork → c ≢ condition.Wanting
up-found c up e = absurd (apart (sym up ∙ e)) where
  apart : condition.AtWork ≢ condition.Wanting
  apart e = cc

down-found : (c : Condition) (cause : DownCause) → c ≡ condition.Down cause → c ≢ condition.Wanting
down-found c cause down e = absurd (apart (sym down ∙ e)) where
  apart : condition.Down cause ≢ condition.Wanting
  apart e = cc

with-memory : {E : Type 0} (r : Result Turned E) (c : Condition) (P : Type 0) → IsCondition r c → (c ≢ condition.Wanting → P) → OnOk r P
with-memory (Ok Worked) c P is f = f (up-found c is)
with-memory (Ok Quiet) c P is f = f (up-found c is)
with-memory (Ok Stopped) c P is f = f (down-found c is.0 is.1)
with-memory (Err e) c P is f = tt

-- ---- what a node that had a turn went through

module _ {M Q A : Type 0} (lock : LockTable WireParts (View WireParts Entry) (Founding WireParts) Q A) (w : Media M) where
  pub went-turned : (old new : NodeParts M) → HadTurn lock w old new → GoesOn w.tells w.faults w.reads old new
  went-turned old new h = goes-turned w old new h.answer h.turned

  pub kept-turned : (old new : NodeParts M) → HadTurn lock w old new → IsKeptThrough w.tells w.stages old new
  kept-turned old new h = record {
    node = h.turned.node;
    passes = λ told ne k. found-memory h.answer new.condition (PassesOn old.node (sight old) (sight new) (w.stages old.medium) (w.stages new.medium)) h.turned.answers ne (h.turned.passes told);
  }

-- ---- one turn after another

module _ {M : Type 0} (w : Media M) where
  abbrev Turn : NodeParts M → NodeParts M → Result Turned AllocError → Type 0
  Turn old new r = TurnsTo w old new r

  -- the second turn, said of the node's first name
  renamed : (a b c : NodeParts M) (s : Result Turned AllocError) → b.node ≡ a.node → Turn b c s → Turn (record b { node = a.node }) c s
  renamed a b c s same u = subst (λ (n : NodeId). Turn (record b { node = n }) c s) same u

  -- Two turns, told as one with this answer.
  joined : (a b c : NodeParts M) (r s x : Result Turned AllocError) → Turn a b r → b.condition ≡ condition.AtWork → Turn b c s
      → IsCondition x c.condition → IfOk x (λ t. Does t a.node (sight a) (sight c)) → Turn a c x
  joined a b c r s x t up u answers does =
      let g : GoesOn w.tells w.faults w.reads a c = goes-joins w.tells w.faults w.reads a b c (goes-turned w a b r t) up (goes-turned w b c s u) in
      let v : Turn (record b { node = a.node }) c s = renamed a b c s t.node u in
      record {
        node = g.node;
        answers = answers;
        does = does;
        adds = g.adds;
        paid = g.paid;
        whole = λ told. with-memory x c.condition (StaysWhole (costs (sight a).own) (costs (sight c).own) (w.reads a.medium) (w.reads c.medium)) answers (g.whole told);
        tested = λ told repository.
            let h = t.tested told repository in
            let k = v.tested told repository in
            record {
              sent = h.sent ++ k.sent;
              learned = h.learned ++ k.learned;
              tested = h.tested ++ k.tested;
              cost = h.cost + k.cost;
              trail = trail-joins h.trail k.trail;
              asks = λ out stamp i ask. ⊎_elim
                  (λ y. let m = h.asks out stamp y ask in (m.0, has-left h.tested k.tested (place_of stamp, m.0) m.1, m.2))
                  (λ y. let m = k.asks out stamp y ask in (m.0, has-right h.tested k.tested (place_of stamp, m.0) m.1, m.2))
                  (has-either h.sent k.sent out i);
              found = λ d i. ⊎_elim
                  (λ y. has-left h.tested k.tested (place_of d.0, number_of d.0 d.1) (h.found d y))
                  (λ y. has-right h.tested k.tested (place_of d.0, number_of d.0 d.1) (k.found d y))
                  (has-either h.learned k.learned d i);
            };
        passes = λ told. with-memory x c.condition (PassesOn a.node (sight a) (sight c) (w.stages a.medium) (w.stages c.medium)) answers (λ ne. passes-on
            (found-memory r b.condition (PassesOn a.node (sight a) (sight b) (w.stages a.medium) (w.stages b.medium)) t.answers (up-found b.condition up) (t.passes told))
            (found-memory s c.condition (PassesOn a.node (sight b) (sight c) (w.stages b.medium) (w.stages c.medium)) v.answers ne (v.passes told)));
      }

  pub turns-join : (a b c : NodeParts M) (r s : Result Turned AllocError) → Turn a b r → b.condition ≡ condition.AtWork → Turn b c s → (x : Result Turned AllocError) × Turn a c x
  turns-join a b c r (Err e) t up u = (Err e, joined a b c r (Err e) (Err e) t up u u.answers tt)
  turns-join a b c r (Ok Stopped) t up u = (Ok Stopped, joined a b c r (Ok Stopped) (Ok Stopped) t up u u.answers (renamed a b c (Ok Stopped) t.node u).does)
  turns-join a b c r (Ok Worked) t up u =
      let d : Does Worked a.node (sight b) (sight c) = (renamed a b c (Ok Worked) t.node u).does in
      (Ok Worked, joined a b c r (Ok Worked) (Ok Worked) t up u u.answers (more-grew (sight a).own (sight b).own (sight c).own t.adds d.0, d.1))
  turns-join a b c (Ok Worked) (Ok Quiet) t up u =
      let d : Does Quiet a.node (sight b) (sight c) = (renamed a b c (Ok Quiet) t.node u).does in
      (Ok Worked, joined a b c (Ok Worked) (Ok Quiet) (Ok Worked) t up u u.answers (subst (λ (es : List Entry). Grew (sight a).own es) (sym d.0.same) t.does.0, d.1))
  turns-join a b c (Ok Quiet) (Ok Quiet) t up u =
      let d : Does Quiet a.node (sight b) (sight c) = (renamed a b c (Ok Quiet) t.node u).does in
      (Ok Quiet, joined a b c (Ok Quiet) (Ok Quiet) (Ok Quiet) t up u u.answers (record { same = d.0.same ∙ t.does.0.same; heard = d.0.heard; gone = d.0.gone }, d.1))
  turns-join a b c (Ok Stopped) (Ok Quiet) t up u = absurd (apart t.answers.0 (sym up ∙ t.answers.1))
    where
      apart : (cause : DownCause) → condition.AtWork ≢ condition.Down cause
      apart cause e = cc
  turns-join a b c (Err e) (Ok Quiet) t up u = absurd (up-found b.condition up t.answers)

module _ {M Q A : Type 0} (lock : LockTable WireParts (View WireParts Entry) (Founding WireParts) Q A) (w : Media M) where
  -- a turn behind others
  pub had-again : (a b c : NodeParts M) → HadTurn lock w a b → IsReady lock b → HadTurn lock w b c → HadTurn lock w a c
  had-again a b c had ready more =
      let x = turns-join w a b c had.answer more.answer had.turned ready.up more.turned in
      record { pass = more.pass; answer = x.0; turned = x.1 }
