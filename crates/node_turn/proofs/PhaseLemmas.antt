-- The windows of a node in the parts of its turn: what a crash at any moment of each leaves of its medium.
use Rattle.node_turn.proofs.Names.{NodeId, same_node-refl, Image, Stage, LeftNow, Goes, goes_nowhere, Effect, Out, HistoryFault, StoreFault, OpenFault, HasPrefix, storage, Entry, Gate, Base, Life, Flags, gated_life, names, walk, WireParts, base_from, Decided, Sight, origin_in, base_at, life_at, flags_at, IsOf, Owns, Looked, Visited, Gated, Crashes, closed, LeavesLog, HasFound, IsAppended, IsReopened, DraftParts, IsKept, HasLife, IsUp, IsStored, IsStruck, IsAfter, Trail, Passes, PassesOn, ◌≡◌, ◌≢◌, ℕ, suc, ◌+◌, ◌-◌, ◌≤◌, Bool, true, false, List, [], ◌∷◌, ◌++◌, length, take, cond, Option, Result, Ok, IsTrue, refl, sym, ap, subst, ◌∙◌, arith, append_assoc, length-append, append-nil, widens, Media, gated-grows, Meanings}
use Rattle.node_inputs.specs.HistoryFault.TheVariants as fault
use Rattle.node_inputs.proofs.LifeLemmas.{Follows, follows-of, follows-added, if-ok, kept-none}
use Rattle.node_turn.proofs.StepLemmas.{kept-prefix, kept-whole, kept-gated, kept-crashed, kept-found, passes-between, passes-visit}
use Rattle.node_turn.proofs.SightSteps.{passes-found, passes-looked}
use Rattle.node_turn.proofs.WindowLemmas.{passes-then, passes-last}
use Rattle.node_turn.proofs.AppendLemmas.{left-log}
use Rattle.node_turn.proofs.FallLemmas.{Found, found-is}

-- ---- stories in which a node's durable log stays

no-longer : (log x y : List Effect) → length ((log ++ x) ++ y) ≤ length log → x ≡ []
no-longer log [] y h = refl
no-longer log (e ∷ x) y h =
    let a : length ((log ++ e ∷ x) ++ y) ≡ length (log ++ e ∷ x) + length y = length-append (log ++ e ∷ x) y in
    let b : length (log ++ e ∷ x) ≡ length log + suc (length x) = length-append log (e ∷ x) in
    absurd (omega (arith, a, b, h))

module _ (b : Base) (n : NodeId) (s : List Stage) (log : List Effect) (left : (c : Image) → LeftNow s c → storage c ≡ Ok log) where
  abbrev gated_by : List Entry → List Effect
  gated_by es = ((walk b es).life n).gated

  kept-here : (es : List Entry) → gated_by es ≡ log → (c : Image) → LeftNow s c → IsKept ((walk b es).life n) c
  kept-here es is c now = kept-none ((walk b es).life n) c log (sym is) (left c now)

  gated-between : (es : List Entry) (e : Entry) (rest : List Entry) → gated_by es ≡ log → length (gated_by (es ++ e ∷ rest)) ≤ length log → gated_by (es ++ e ∷ []) ≡ log
  gated-between es e rest is few =
      let first : (late : List Effect) × (gated_by (es ++ e ∷ []) ≡ gated_by es ++ late) = gated-grows b es (e ∷ []) n in
      let second : (late : List Effect) × (gated_by ((es ++ e ∷ []) ++ rest) ≡ gated_by (es ++ e ∷ []) ++ late) = gated-grows b (es ++ e ∷ []) rest n in
      let now : gated_by (es ++ e ∷ []) ≡ log ++ first.0 = first.1 ∙ ap (λ l. l ++ first.0) is in
      let all : gated_by (es ++ e ∷ rest) ≡ (log ++ first.0) ++ second.0 = ap gated_by (sym (append_assoc es (e ∷ []) rest)) ∙ (second.1 ∙ ap (λ l. l ++ second.0) now) in
      let none : first.0 ≡ [] = no-longer log first.0 second.0 (subst (λ (l : List Effect). length l ≤ length log) all few) in
      now ∙ (ap (λ l. log ++ l) none ∙ append-nil log)

  one-still : (es : List Entry) (e : Entry) → gated_by es ≡ log → gated_by (es ++ e ∷ []) ≡ log → (t : Bool) → names n e ≡ t → Passes b n es (es ++ e ∷ []) s s
  one-still es e is here true q = passes-visit b n es [] e s refl q (kept-here es is) (kept-here (es ++ e ∷ []) here)
  one-still es e is here false q = passes-between b n es (e ∷ []) s s (ap (λ t. cond t (e ∷ []) []) q) (goes_nowhere s (IsKept ((walk b es).life n)) (kept-here es is))

  -- The medium stands still, and each crash leaves the durable log, which is the same before and behind.
  pub passes-still : (es rest : List Entry) → gated_by es ≡ log → length (gated_by (es ++ rest)) ≤ length log → Passes b n es (es ++ rest) s s
  passes-still es [] is few = passes-between b n es [] s s refl (goes_nowhere s (IsKept ((walk b es).life n)) (kept-here es is))
  passes-still es (e ∷ rest) is few =
      let here : gated_by (es ++ e ∷ []) ≡ log = gated-between es e rest is few in
      let split : (es ++ e ∷ []) ++ rest ≡ es ++ e ∷ rest = append_assoc es (e ∷ []) rest in
      subst (λ l. Passes b n es l s s) split
      (passes-then b n es (es ++ e ∷ []) ((es ++ e ∷ []) ++ rest) s s s (one-still es e is here (names n e) refl)
      (passes-still (es ++ e ∷ []) rest here (subst (λ l. length (gated_by l) ≤ length log) (sym split) few)))

-- ---- sights

pub passes-on : {n : NodeId} {a b c : Sight} {x y z : List Stage} → PassesOn n a b x y → PassesOn n b c y z → PassesOn n a c x z
passes-on {n} {a} {b} {c} {x} {y} {z} p q = record {
  base = q.base ∙ p.base;
  names = q.names ∙ p.names;
  passes = passes-then (base_at a) n a.story b.story c.story x y z p.passes
      (subst (λ (s : Base). Passes s n b.story c.story y z) (ap (λ (w : Option WireParts). base_from (origin_in w)) p.base) q.passes);
}

-- a crash then leaves the log of the life that the node has there
pub kept-on : {n : NodeId} {a b : Sight} {x y : List Stage} → PassesOn n a b x y → (c : Image) → LeftNow y c → IsKept (life_at b n) c
kept-on {n} {a} {b} {x} {y} p c now =
    subst (λ (s : Base). IsKept ((walk s b.story).life n) c) (ap (λ (w : Option WireParts). base_from (origin_in w)) (sym p.base)) (passes-last (base_at a) n a.story b.story x y p.passes c now)

-- no entry, and the medium went on
pub passes-here : (n : NodeId) (k : Sight) (from to : List Stage) → Goes from to (IsKept (life_at k n)) → PassesOn n k k from to
passes-here n k from to kept = record { base = refl; names = refl; passes = subst (λ l. Passes (base_at k) n k.story l from to) (append-nil k.story) (passes-between (base_at k) n k.story [] from to refl kept) }

-- entries of others alone, and the medium went on
pub passes-beside : (n : NodeId) (k k' : Sight) (from to : List Stage) → IsOf n k → Owns k → Looked k k' → Goes from to (IsKept (life_at k n)) → PassesOn n k k' from to
passes-beside n k k' from to is owns look kept = record { base = ap (λ (z : Sight). z.base) look.kept; names = ap (λ (z : Sight). z.owner) look.kept; passes = passes-looked n k is owns k' from to look kept }

-- the node's own entry, while its medium stood still
pub passes-visited : {tells : Bool} {n : NodeId} {k k' : Sight} {e : Entry} {life : Life} {flags : Flags} (s : List Stage) → IsOf n k → Owns k → names n e ≡ true → Visited tells n k k' e life flags → IsTrue tells
    → ((c : Image) → LeftNow s c → IsKept (life_at k n) c) → ((c : Image) → LeftNow s c → IsKept life c) → PassesOn n k k' s s
passes-visited {tells} {n} {k} {k'} {e} {life} {flags} s is owns named v t was now =
    let f : Follows n k k' = follows-added n v.added in
    record {
      base = ap (λ (z : Sight). z.base) v.added.kept;
      names = ap (λ (z : Sight). z.owner) v.added.kept;
      passes = passes-found n k is owns k' v.added.found e s named v.added.before (ap (λ (z : Sight). z.story) v.added.kept) was
          (λ c i. subst (λ (b : Base). IsKept ((walk b k'.story).life n) c) f.base (subst (λ (l : Life). IsKept l c) (sym (v.lives t)) (now c i)));
    }

-- its gate
pub passes-gated : {tells : Bool} {n : NodeId} {k k' : Sight} {life : Life} {flags : Flags} {ds : List Decided} (s : List Stage) → IsOf n k → Owns k → Gated tells n k k' (Gate n) life flags ds → IsTrue tells
    → ((c : Image) → LeftNow s c → IsKept (life_at k n) c) → ((c : Image) → LeftNow s c → IsKept life c) → PassesOn n k k' s s
passes-gated {tells} {n} {k} {k'} {life} {flags} {ds} s is owns g t was now =
    let f : Follows n k k' = follows-of n k k' (ap (λ (z : Sight). z.base) g.kept) (ap (λ (z : Sight). z.owner) g.kept) in
    record {
      base = ap (λ (z : Sight). z.base) g.kept;
      names = ap (λ (z : Sight). z.owner) g.kept;
      passes = passes-found n k is owns k' g.found (Gate n) s (same_node-refl n) g.before (ap (λ (z : Sight). z.story) g.kept) was
          (λ c i. subst (λ (b : Base). IsKept ((walk b k'.story).life n) c) f.base (subst (λ (l : Life). IsKept l c) (sym (g.lives t)) (now c i)));
    }

-- ---- phases

module _ {K M : Type 0} (w : Media M) {m : Meanings K M} (only : (x : M) (c : Image) → IsTrue w.tells → LeftNow (w.stages x) c → w.may_leave x c) where
  -- what is stored stays, and no entry is added
  pub passes-stored : {core : K} {k : Sight} {n : NodeId} → IsStored w m core k n → IsTrue w.tells → PassesOn n k k (w.stages (m.parts core).medium) (w.stages (m.parts core).medium)
  passes-stored {core} {k} {n} s t = passes-here n k (w.stages (m.parts core).medium) (w.stages (m.parts core).medium) (goes_nowhere (w.stages (m.parts core).medium) (IsKept (life_at k n)) (λ c i. s.kept t c (only (m.parts core).medium c t i)))

  -- or others' entries alone
  pub passes-seen : {core : K} {k k' : Sight} {n : NodeId} → IsStored w m core k n → Owns k → Looked k k' → IsTrue w.tells → PassesOn n k k' (w.stages (m.parts core).medium) (w.stages (m.parts core).medium)
  passes-seen {core} {k} {k'} {n} s owns look t = passes-beside n k k' (w.stages (m.parts core).medium) (w.stages (m.parts core).medium) s.own owns look
      (goes_nowhere (w.stages (m.parts core).medium) (IsKept (life_at k n)) (λ c i. s.kept t c (only (m.parts core).medium c t i)))

  -- the node went down
  pub passes-fallen : {core : K} {k k' : Sight} {n : NodeId} {e : Entry} {flags : Flags} → IsStored w m core k n → Owns k → names n e ≡ true → Visited w.tells n k k' e (life_at k n) flags → IsTrue w.tells
      → PassesOn n k k' (w.stages (m.parts core).medium) (w.stages (m.parts core).medium)
  passes-fallen {core} {k} {k'} {n} s owns named v t = passes-visited (w.stages (m.parts core).medium) s.own owns named v t (λ c i. s.kept t c (only (m.parts core).medium c t i)) (λ c i. s.kept t c (only (m.parts core).medium c t i))

  module _ {core new : K} {k k' : Sight} {n : NodeId} {gone due : Bool} {d : DraftParts} {sent : List Out} {learned : List Decided} {tested : List (ℕ × ℕ)} {cost : ℕ}
      (u : IsUp w m core k n gone due d) (trail : Trail n k k' sent learned tested cost) (still : w.stages (m.parts new).medium ≡ w.stages (m.parts core).medium) (t : IsTrue w.tells) where
    -- inputs that leave the durable log
    passes-fed : length (life_at k' n).gated ≡ d.durable → PassesOn n k k' (w.stages (m.parts core).medium) (w.stages (m.parts new).medium)
    passes-fed count =
        let b : Base = base_at k in
        let l : Life = life_at k n in
        let s : List Stage = w.stages (m.parts core).medium in
        let h : HasLife b n d (m.lives b core) (w.may_leave (m.parts core).medium) l = u.life t in
        let f : Follows n k k' = follows-of n k k' trail.base trail.names in
        let size : length ((walk b (k.story ++ trail.rest)).life n).gated ≡ d.durable =
        ap (λ (es : List Entry). length ((walk b es).life n).gated) (sym trail.story) ∙ (ap (λ (x : Base). length ((walk x k'.story).life n).gated) (sym f.base) ∙ count) in
        let was : d.durable ≡ length l.gated = h.durable in
        record {
          base = trail.base;
          names = trail.names;
          passes = subst (λ ss. Passes b n k.story k'.story s ss) (sym still)
              (subst (λ es. Passes b n k.story es s s) (sym trail.story)
              (passes-still b n s l.gated (λ c i. h.images_left c (only (m.parts core).medium c t i)) k.story trail.rest refl (omega (arith, size, was))));
        }

    pub passes-up : {gone' due' : Bool} {d' : DraftParts} → IsUp w m new k' n gone' due' d' → d'.durable ≡ d.durable → PassesOn n k k' (w.stages (m.parts core).medium) (w.stages (m.parts new).medium)
    passes-up v same = passes-fed (sym (v.life t).durable ∙ same)

    pub passes-struck : IsStruck w m new k' n d.durable → PassesOn n k k' (w.stages (m.parts core).medium) (w.stages (m.parts new).medium)
    passes-struck s = passes-fed (sym (s.count t))

    pub passes-after : (f : HistoryFault) → IsAfter w m f new k' n d.durable → f ≢ fault.NoMemory → PassesOn n k k' (w.stages (m.parts core).medium) (w.stages (m.parts new).medium)
    passes-after fault.NoMemory a ne = absurd (ne refl)
    passes-after fault.Medium a ne = passes-struck a
    passes-after (fault.Damaged page) a ne = passes-struck a.0

module _ {K M : Type 0} {w : Media M} {m : Meanings K M} where
  -- of an equal draft
  pub up-new : {core : K} {k : Sight} {n : NodeId} {gone due : Bool} {d d' : DraftParts} → d ≡ d' → IsUp w m core k n gone due d → IsUp w m core k n gone due d'
  up-new {core} {k} {n} {gone} {due} {d} {d'} e u = subst (IsUp w m core k n gone due) e u

-- ---- the append and its gate

module _ {K M : Type 0} (w : Media M) {m : Meanings K M} (only : (x : M) (c : Image) → IsTrue w.tells → LeftNow (w.stages x) c → w.may_leave x c)
    {T : Type 0} {core new : K} {k : Sight} {n : NodeId} {gone : Bool} {d : DraftParts} {result : Result T StoreFault}
    (u : IsUp w m core k n gone true d) (a : IsAppended w m core new d.effects result) (t : IsTrue w.tells) where
  goes-appended : Goes (w.stages (m.parts core).medium) (w.stages (m.parts new).medium) (IsKept (life_at k n))
  goes-appended =
      let l : Life = life_at k n in
      let h : HasLife (base_at k) n d (m.lives (base_at k) core) (w.may_leave (m.parts core).medium) l = u.life t in
      widens w.stages (m.parts core).medium (m.parts new).medium (HasPrefix l.gated l.fresh) (IsKept l)
      (subst (λ (es : List Effect). Goes (w.stages (m.parts core).medium) (w.stages (m.parts new).medium) (HasPrefix l.gated es)) h.effects (a.at_moments t l.gated h.images_left)) (λ c i. kept-prefix l c i)

  -- the append, whatever it came to
  pub passes-appended : PassesOn n k k (w.stages (m.parts core).medium) (w.stages (m.parts new).medium)
  passes-appended = passes-here n k (w.stages (m.parts core).medium) (w.stages (m.parts new).medium) goes-appended

  -- and then the wire found no memory for the gate
  pub passes-ungated : {k' : Sight} → Owns k → Looked k k' → PassesOn n k k' (w.stages (m.parts core).medium) (w.stages (m.parts new).medium)
  passes-ungated {k'} owns look = passes-beside n k k' (w.stages (m.parts core).medium) (w.stages (m.parts new).medium) u.own owns look goes-appended

  -- and then the gate was opened
  pub passes-closed : {k' : Sight} {ds : List Decided} (v : T) → result ≡ Ok v → Owns k → Gated w.tells n k k' (Gate n) (gated_life (life_at k n)) (closed (flags_at k n)) ds → PassesOn n k k' (w.stages (m.parts core).medium) (w.stages (m.parts new).medium)
  passes-closed {k'} {ds} v ok owns g =
      let l : Life = life_at k n in
      let s : List Stage = w.stages (m.parts new).medium in
      let log : LeavesLog (w.may_leave (m.parts new).medium) (l.gated ++ l.fresh) = λ c i. left-log u a v ok t c i ∙ ap (λ (es : List Effect). Ok (l.gated ++ es)) (u.life t).effects in
      passes-on passes-appended
      (passes-gated s u.own owns g t (λ c i. kept-whole l c (log c (only (m.parts new).medium c t i))) (λ c i. kept-gated l c (log c (only (m.parts new).medium c t i))))

-- ---- an opening after a fault

module _ {K M : Type 0} (w : Media M) {m : Meanings K M} (only : (x : M) (c : Image) → IsTrue w.tells → LeftNow (w.stages x) c → w.may_leave x c)
    {core new : K} {k : Sight} {n : NodeId} {durable : ℕ} {result : Result ℕ OpenFault}
    (s : IsStruck w m core k n durable) (r : IsReopened w m core new result) (t : IsTrue w.tells) where
  goes-reopened : Goes (w.stages (m.parts core).medium) (w.stages (m.parts new).medium) (IsKept (life_at k n))
  goes-reopened = widens w.stages (m.parts core).medium (m.parts new).medium (w.may_leave (m.parts core).medium) (IsKept (life_at k n)) (r.at_moments t) (λ c i. s.stored.kept t c i)

  -- the opening, whatever it came to
  pub passes-reopened : PassesOn n k k (w.stages (m.parts core).medium) (w.stages (m.parts new).medium)
  passes-reopened = passes-here n k (w.stages (m.parts core).medium) (w.stages (m.parts new).medium) goes-reopened

  -- and then the wire found no memory for the crash
  pub passes-unnoted : {k' : Sight} → Owns k → Looked k k' → PassesOn n k k' (w.stages (m.parts core).medium) (w.stages (m.parts new).medium)
  passes-unnoted {k'} owns look = passes-beside n k k' (w.stages (m.parts core).medium) (w.stages (m.parts new).medium) s.stored.own owns look goes-reopened

  -- and then the crash was noted
  pub passes-crashed : {k' : Sight} (count : ℕ) → result ≡ Ok count → Owns k → Crashes w.tells n k k' (count - durable) → PassesOn n k k' (w.stages (m.parts core).medium) (w.stages (m.parts new).medium)
  passes-crashed {k'} count ok owns v =
      let l : Life = life_at k n in
      let ss : List Stage = w.stages (m.parts new).medium in
      let h : HasFound w m core new count = if-ok result count (HasFound w m core new) ok (r.found t) in
      let x : Found s r h.log count = found-is s r count ok t h in
      let found : (c : Image) → LeftNow ss c → storage c ≡ Ok (l.gated ++ take (count - durable) l.fresh) = λ c i. h.only c (only (m.parts new).medium c t i) ∙ ap (λ (es : List Effect). Ok es) x.is in
      passes-on passes-reopened
      (passes-visited ss s.stored.own owns (same_node-refl n) v t (λ c i. kept-found l (count - durable) c x.few (found c i)) (λ c i. kept-crashed (base_at k).start l (count - durable) c (found c i)))
