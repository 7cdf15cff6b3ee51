-- What a call leaves of a repository's log: a run adds to it, and a retirement puts nothing into it.
use Rattle.std.specs.Option.{unwrap_or}
use Rattle.archive_law.proofs.Names.{Has, repository, same_node, NodeId, has-left, has-reverse, Effect, TimeParts, forward, forwarded, forwarded-has, base_of, in_plan, Call, log_left, own_reading, walk_from, AreEarlier, Earlier, replaced, Running, Retiring, EverStood, log_after, log_there, ◌≡◌, inl, inr, ℕ, Bool, true, false, List, [], ◌∷◌, ◌++◌, take, reverse, if◌then◌else◌, refl, sym, ◌∙◌, ap, subst, Option, Some, None, is_some, append_assoc, reverse-reverse, IsCall, Life, opened_log, walk}
use Rattle.effect_form.specs.declared.effects.Effect.TheVariants as effect
use Rattle.world_core.specs.declared.entries.Entry.{Entry}
use Rattle.world_core.proofs.Lives.{gated-grows}

-- ---- a run adds to a log

abbrev Grown : List Effect → List Effect → Type 0
Grown old new = (late : List Effect) × (new ≡ old ++ late)

found-log : (logs : NodeId → List Effect) (n : NodeId) (found : Option (List Effect)) → ((log : List Effect) → found ≡ Some log → log ≡ logs n) → is_some found ≡ true → unwrap_or found [] ≡ logs n
found-log logs n None h e = absurd (cc e)
found-log logs n (Some log) h e = h log refl

module _ (c : Call) (n : NodeId) where
  abbrev life : List Entry → Life
  life front = (walk (base_of (own_reading c.plan) c.plan c.trace) front).life n

  -- at each place its log is the beginning of what is left
  pub place-left : (front rest : List Entry) → c.trace.entries ≡ front ++ rest → Grown (life front).gated (log_left own_reading c n)
  place-left front rest here =
      let h = gated-grows (base_of (own_reading c.plan) c.plan c.trace) front rest n in
      let same : (life c.trace.entries).gated ≡ (life front).gated ++ h.0 = ap (λ es. (life es).gated) here ∙ h.1 in (
        h.0 ++ take (c.kept n) (life c.trace.entries).fresh,
        ap (λ l. l ++ take (c.kept n) (life c.trace.entries).fresh) same ∙ append_assoc (life front).gated h.0 (take (c.kept n) (life c.trace.entries).fresh),
      )

  -- and the log before the run is that of the first place
  pub call-left : (logs : NodeId → List Effect) → IsCall own_reading logs c → in_plan c.plan n ≡ true → Grown (logs n) (log_left own_reading c n)
  unfolding walk_from
  call-left logs is inside =
      let h : Grown (life []).gated (log_left own_reading c n) = place-left [] c.trace.entries refl in
      (h.0, h.1 ∙ ap (λ l. l ++ h.0) (found-log logs n (opened_log c.trace.opened n) (is.agrees n) (is.legal.nodes.just n ∙ inside)))

-- ---- one call

abbrev log_before : List Earlier → ℕ → List Effect
log_before cs r = log_after cs (repository r)

pub run-grows : (c : Call) (cs : List Earlier) (n : NodeId) → AreEarlier own_reading (Running c ∷ cs) → Grown (log_after cs n) (log_after (Running c ∷ cs) n)
run-grows c cs n are = go (in_plan c.plan n) refl
  where
    go : (b : Bool) → in_plan c.plan n ≡ b → Grown (log_after cs n) (if b then log_left own_reading c n else log_after cs n)
    go true e = call-left c n (log_after cs) are.1 e
    go false e = ([], sym (none (log_after cs n)))
      where
        none : (l : List Effect) → l ++ [] ≡ l
        none [] = refl
        none (f ∷ l) = ap (λ k. f ∷ k) (none l)

grown-has : (old new : List Effect) (f : Effect) → Grown old new → Has f old → Has f new
grown-has old new f g h = subst (Has f) (sym g.1) (has-left old g.0 f h)

-- ---- the logs of a past

-- what stands in the last log stood there
pub last-stood : (cs : List Earlier) (r : ℕ) (f : Effect) → Has f (log_before cs r) → EverStood cs r f
last-stood [] r f h = absurd h
last-stood (c ∷ cs) r f h = inl h

-- and so did what stands in one that was replaced
pub replaced-stood : (cs : List Earlier) (r : ℕ) (f : Effect) (log : List Effect) → Has log (replaced own_reading cs (repository r)) → Has f log → EverStood cs r f
replaced-stood [] r f log h k = absurd h
replaced-stood (Running c ∷ cs) r f log h k = inr (inr (replaced-stood cs r f log h k))
replaced-stood (Retiring q at ∷ cs) r f log h k = inr (inr (go (same_node (repository q) (repository r)) h (λ j. replaced-stood cs r f log j k)))
  where
    go : (b : Bool) → Has log (if b then log_before cs r ∷ replaced own_reading cs (repository r) else replaced own_reading cs (repository r)) →
        (Has log (replaced own_reading cs (repository r)) → EverStood cs r f) → EverStood cs r f
    go true (inl e) rest = last-stood cs r f (subst (Has f) (sym e) k)
    go true (inr j) rest = rest j
    go false j rest = rest j

-- one of these logs has the effect
abbrev pub StandsIn : List Earlier → ℕ → Effect → Type 0
StandsIn cs r f = (log : List Effect) × Has log (log_after cs (repository r) ∷ replaced own_reading cs (repository r)) × Has f log

-- whatever stood stands in the last log or in one that was replaced
pub stood-stands : (cs : List Earlier) (r : ℕ) (f : Effect) → AreEarlier own_reading cs → EverStood cs r f → StandsIn cs r f
stood-stands [] r f are h = absurd h
stood-stands (Running c ∷ cs) r f are (inl h) = (log_after (Running c ∷ cs) (repository r), inl refl, h)
stood-stands (Running c ∷ cs) r f are (inr (inl h)) =
    let there : Has f (log_left own_reading c (repository r)) = grown-has (log_there c h.1.0 (repository r)) (log_left own_reading c (repository r)) f (place-left c (repository r) h.1.0 h.1.1 h.1.2) h.1.3 in
    (log_after (Running c ∷ cs) (repository r), inl refl, subst (λ b. Has f (if b then log_left own_reading c (repository r) else log_after cs (repository r))) (sym h.0) there)
stood-stands (Running c ∷ cs) r f are (inr (inr h)) = go (stood-stands cs r f are.0 h)
  where
    go : StandsIn cs r f → StandsIn (Running c ∷ cs) r f
    go (log, inl e, k) = (
      log_after (Running c ∷ cs) (repository r),
      inl refl,
      grown-has (log_after cs (repository r)) (log_after (Running c ∷ cs) (repository r)) f (run-grows c cs (repository r) are) (subst (Has f) (sym e) k),
    )
    go (log, inr j, k) = (log, inr j, k)
stood-stands (Retiring q at ∷ cs) r f are (inl h) = (log_after (Retiring q at ∷ cs) (repository r), inl refl, h)
stood-stands (Retiring q at ∷ cs) r f are (inr (inl h)) = absurd h
stood-stands (Retiring q at ∷ cs) r f are (inr (inr h)) = go (same_node (repository q) (repository r)) (stood-stands cs r f are.0 h)
  where
    go : (b : Bool) → StandsIn cs r f →
        (log : List Effect)
        × Has log ((if b then forward (log_before cs r) at else log_before cs r) ∷ (if b then log_before cs r ∷ replaced own_reading cs (repository r) else replaced own_reading cs (repository r)))
        × Has f log
    go true (log, j, k) = (log, inr j, k)
    go false (log, j, k) = (log, j, k)

-- ---- a retirement puts nothing

-- the effect is neither a Mark nor a Whole
abbrev pub IsLasting : Effect → Type 0
IsLasting (effect.Mark at) = ⊥
IsLasting effect.Whole = ⊥
IsLasting f = Unit {0}

forward-old : (l : List Effect) (at : TimeParts) (f : Effect) → IsLasting f → Has f (forward l at) → Has f l
forward-old l at f lasts h = elim (forwarded-has (reverse l) at f (subst (Has f) (reverse-reverse (forwarded (reverse l) at)) (has-reverse (forward l at) f h))) [
  | inl e ↦ absurd (subst IsLasting e lasts)
  | inr (inl e) ↦ absurd (subst IsLasting e lasts)
  | inr (inr k) ↦ subst (Has f) (reverse-reverse l) (has-reverse (reverse l) f k)
]

pub retired-old : (q : ℕ) (at : TimeParts) (cs : List Earlier) (r : ℕ) (f : Effect) → IsLasting f → EverStood (Retiring q at ∷ cs) r f → EverStood cs r f
retired-old q at cs r f lasts (inl h) = go (same_node (repository q) (repository r)) h
  where
    go : (b : Bool) → Has f (if b then forward (log_before cs r) at else log_before cs r) → EverStood cs r f
    go true h = last-stood cs r f (forward-old (log_before cs r) at f lasts h)
    go false h = last-stood cs r f h
retired-old q at cs r f lasts (inr (inl h)) = absurd h
retired-old q at cs r f lasts (inr (inr h)) = h
