-- What becomes of nodes by turns and meetings.
use Rattle.node_rounds.proofs.Names.{◌≡◌, ◌≢◌, ◌+◌, ℕ, Bool, List, [], ◌++◌, Result, Ok, Err, OnOk, refl, ap, sym, subst, ◌∙◌, arith, append_assoc, All, AllZip, append-nil, View, Founding, LockTable, DownCause, Image, Media, Begins, entries_of, Entry, WireParts, owner_of, owner_for, NodeId, Sight, Looked, Owns, life_at, looked-of, Condition, Turned, costs, PaysFor, PassesOn, kept-on, passes-on, passes-here, passes-beside, NodeParts, Adds, StaysWhole, IsCondition, TurnsTo, MeetsWith, sight, costs-append, adds-more, adds-none, IsKeptThrough, GoesOn, HasMet, HasAllOf, HasPass, HasSeen}
use Rattle.medium_port.specs.Moment.{Stage, LeftNow, goes_nowhere}
use Rattle.broker_node.specs.Condition.TheVariants as condition
use Rattle.broker_node.specs.Lives.{IsKept}
use Rattle.broker_node.proofs.TurnPageLemmas.{whole-same}
use Rattle.node_rounds.proofs.PageLemmas.{intact-joins}
use Rattle.node_rounds.proofs.PairLemmas.{zip-same, zip-through, zip-with}

-- ---- conditions

-- a node that is neither down nor without memory is at work
pub up-else : (c : Condition) → c ≢ condition.Wanting → ((cause : DownCause) → c ≡ condition.Down cause → ⊥) → c ≡ condition.AtWork
up-else condition.AtWork memory up = refl
up-else (condition.Down cause) memory up = absurd (up cause refl)
up-else condition.Wanting memory up = absurd (memory refl)

-- ---- looks

-- a second look joins the first
pub looked-joins : (a b c : Sight) → Owns a → Looked a b → Looked b c → Looked a c
looked-joins a b c owns p q =
    let x = p.before.carries.begins in let y = q.before.carries.begins in
    looked-of a c c.story owns
    (q.kept ∙ ap (λ (k : Sight). record k { story = c.story }) p.kept)
    (record {
      begins = (x.0 ++ y.0, sym (append_assoc a.story x.0 y.0) ∙ (ap (λ (l : List Entry). l ++ y.0) x.1 ∙ y.1));
      own = ap (λ (k : Sight). entries_of owner_of k.owner c.story) (sym p.kept) ∙ (q.before.carries.own ∙ ap (λ (k : Sight). k.own) p.kept);
    })

-- none
pub looked-same : (k : Sight) → Owns k → Looked k k
looked-same k owns = looked-of k k k.story owns refl (record { begins = ([], append-nil k.story); own = owns })

pub looked-own : {a b : Sight} → Looked a b → b.own ≡ a.own
looked-own p = ap (λ (k : Sight). k.own) p.kept

pub looked-owner : {a b : Sight} → Looked a b → b.owner ≡ a.owner
looked-owner p = ap (λ (k : Sight). k.owner) p.kept

pub begins-joins : (a b c : List Entry) → Begins a b → Begins b c → Begins a c
begins-joins a b c x y = (x.0 ++ y.0, sym (append_assoc a x.0 y.0) ∙ (ap (λ (l : List Entry). l ++ y.0) x.1 ∙ y.1))

whole-ok : {E : Type 0} (r : Result Turned E) (c : Condition) (P : Type 0) → IsCondition r c → c ≢ condition.Wanting → OnOk r P → P
whole-ok (Ok t) c P is ne p = p
whole-ok (Err e) c P is ne p = absurd (ne is)

module _ {M : Type 0} where
  -- ---- all entries of a node

  -- a story that goes on has them too
  pub has-more : (n : NodeParts M) (l l' : List Entry) → Begins l l' → HasAllOf l n → HasAllOf l' n
  has-more n l l' b h = record { begins = begins-joins (sight n).story l l' h.begins b; all = h.all }

  -- of a node that the conductor met it has them
  pub has-met : (n : NodeParts M) (l : List Entry) → Owns (sight n) → l ≡ (sight n).story → HasAllOf l n
  has-met n l owns is = record { begins = ([], append-nil (sight n).story ∙ sym is); all = owns }

  -- it has seen what it met
  pub seen-met : (n : NodeParts M) (first seen story : List Entry) → Begins first seen → Begins seen story → story ≡ (sight n).story → HasSeen first n
  seen-met n first seen story b c is = subst (Begins first) is (begins-joins first seen story b c)

  -- ---- meetings

  pub met-same : (n : NodeParts M) → Owns (sight n) → HasMet n n
  met-same n owns = record { node = refl; condition = refl; medium = refl; looked = looked-same (sight n) owns }

  pub met-joins : (a b c : NodeParts M) → Owns (sight a) → HasMet a b → HasMet b c → HasMet a c
  met-joins a b c owns p q = record { node = q.node ∙ p.node; condition = q.condition ∙ p.condition; medium = q.medium ∙ p.medium; looked = looked-joins (sight a) (sight b) (sight c) owns p.looked q.looked }

  pub met-of : (other : Sight) (old new : NodeParts M) → MeetsWith other old new → HasMet old new
  met-of other old new m = record { node = m.node; condition = m.condition; medium = m.medium; looked = m.looked }

  up-working : (n : NodeParts M) → n.condition ≡ condition.AtWork → n.condition ≢ condition.Wanting
  up-working n up e = absurd (apart (sym up ∙ e)) where
    apart : condition.AtWork ≢ condition.Wanting
    apart e = cc

  -- ---- turns

  pub goes-turned : {E : Type 0} (w : Media M) (old new : NodeParts M) (r : Result Turned E) → TurnsTo w old new r → GoesOn w.tells w.faults w.reads old new
  goes-turned {E} w old new r t = record {
    node = t.node;
    adds = t.adds;
    paid = t.paid;
    whole = λ told ne. whole-ok r new.condition (StaysWhole (costs (sight old).own) (costs (sight new).own) (w.reads old.medium) (w.reads new.medium)) t.answers ne (t.whole told);
  }

  module _ (tells : Bool) (faults : M → ℕ) (reads : M → Image) where
    pub goes-same : (n : NodeParts M) → GoesOn tells faults reads n n
    goes-same n = record { node = refl; adds = adds-none (sight n).own; paid = λ first r. r; whole = λ told ne same. whole-same (reads n.medium) }

    pub goes-met : (a b c : NodeParts M) → GoesOn tells faults reads a b → HasMet b c → GoesOn tells faults reads a c
    goes-met a b c g m =
        let own = looked-own m.looked in
        record {
          node = m.node ∙ g.node;
          adds = subst (Adds (sight a).own) (sym own) g.adds;
          paid = subst (λ (x : M). PaysFor (costs (sight a).own) (faults a.medium) (costs (sight c).own) (faults x)) (sym m.medium) (subst (λ (es : List Entry). PaysFor (costs (sight a).own) (faults a.medium) (costs es) (faults b.medium)) (sym own) g.paid);
          whole = λ told ne. subst (λ (x : M). StaysWhole (costs (sight a).own) (costs (sight c).own) (reads a.medium) (reads x)) (sym m.medium)
              (subst (λ (es : List Entry). StaysWhole (costs (sight a).own) (costs es) (reads a.medium) (reads b.medium)) (sym own) (g.whole told (λ e. ne (m.condition ∙ e))));
        }

    cost-less : (es fs : List Entry) → Adds es fs → (n : ℕ) × (costs fs ≡ costs es + n)
    cost-less es fs x = (costs x.0, ap costs x.1 ∙ costs-append es x.0)

    -- turns of a node that was up between them
    pub goes-joins : (a b c : NodeParts M) → GoesOn tells faults reads a b → b.condition ≡ condition.AtWork → GoesOn tells faults reads b c → GoesOn tells faults reads a c
    goes-joins a b c g up h = record {
      node = h.node ∙ g.node;
      adds = adds-more (sight a).own (sight b).own (sight c).own g.adds h.adds;
      paid = λ first r. h.paid first (g.paid first r);
      whole = λ told ne same.
          let x = cost-less (sight a).own (sight b).own g.adds in
          let y = cost-less (sight b).own (sight c).own h.adds in
          let p = g.whole told (up-working b up) (omega (arith, x.1, y.1, same)) in
          let q = h.whole told ne (omega (arith, x.1, y.1, same)) in
          intact-joins (reads a.medium) (reads b.medium) (reads c.medium) p q;
    }

module _ {M Q A : Type 0} (lock : LockTable WireParts (View WireParts Entry) (Founding WireParts) Q A) where
  -- nodes that met nobody yet
  pub mets-same : (ns : List (NodeParts M)) → All (HasPass lock) ns → AllZip HasMet ns ns
  mets-same ns = zip-same (HasPass lock) HasMet (λ n pass. met-same n pass.own) ns

  -- one meeting after another
  pub mets-join : (xs ys zs : List (NodeParts M)) → All (HasPass lock) xs → AllZip HasMet xs ys → AllZip HasMet ys zs → AllZip HasMet xs zs
  mets-join xs ys zs passes first second = zip-through (λ x y. HasPass lock x × HasMet x y) HasMet HasMet (λ x y z p q. met-joins x y z p.0.own p.1 q) xs ys zs
      (zip-with (HasPass lock) HasMet (λ x y. HasPass lock x × HasMet x y) (λ x y p m. (p, m)) xs ys passes first) second

-- ---- what crashes leave

module _ {M : Type 0} (tells : Bool) (stages : M → List Stage) where
  pub kept-same : (n : NodeParts M) → IsKeptThrough tells stages n n
  kept-same n = record { node = refl; passes = λ told ne k. passes-here n.node (sight n) (stages n.medium) (stages n.medium) (goes_nowhere (stages n.medium) (IsKept (life_at (sight n) n.node)) k.left) }

  pub kept-met : (a b c : NodeParts M) → IsKeptThrough tells stages a b → Owns (sight b) → HasMet b c → IsKeptThrough tells stages a c
  kept-met a b c g owns m = record {
    node = m.node ∙ g.node;
    passes = λ told ne k.
        let s : List Stage = stages b.medium in
        let p : PassesOn a.node (sight a) (sight b) (stages a.medium) s = g.passes told (λ e. ne (m.condition ∙ e)) k in
        let q : PassesOn a.node (sight b) (sight c) s s = passes-beside a.node (sight b) (sight c) s s (p.names ∙ k.own) owns m.looked (goes_nowhere s (IsKept (life_at (sight b) a.node)) (kept-on p)) in
        subst (λ (x : M). PassesOn a.node (sight a) (sight c) (stages a.medium) (stages x)) (sym m.medium) (passes-on p q);
  }

  pub kept-joins : (a b c : NodeParts M) → IsKeptThrough tells stages a b → b.condition ≡ condition.AtWork → IsKeptThrough tells stages b c → IsKeptThrough tells stages a c
  kept-joins a b c g up h = record {
    node = h.node ∙ g.node;
    passes = λ told ne k.
        let p : PassesOn a.node (sight a) (sight b) (stages a.medium) (stages b.medium) = g.passes told (up-working b up) k in
        let q : PassesOn b.node (sight b) (sight c) (stages b.medium) (stages c.medium) = h.passes told ne (record {
          own = p.names ∙ (k.own ∙ ap owner_for (sym g.node));
          left = subst (λ (n : NodeId). (c : Image) → LeftNow (stages b.medium) c → IsKept (life_at (sight b) n) c) (sym g.node) (kept-on p);
        }) in
        passes-on p (subst (λ (n : NodeId). PassesOn n (sight b) (sight c) (stages b.medium) (stages c.medium)) g.node q);
  }
