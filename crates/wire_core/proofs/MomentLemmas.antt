-- Moments and the clock's answers, entry by entry.
use Rattle.wire_core.proofs.Names.{Adds, Entry, Take, Go, Learn, Hear, Gate, Crash, Down, Tick, Base, World, step, walk_from, IsClocked, tick_moments, next_moment, ◌≡◌, ℕ, List, [], ◌∷◌, ◌++◌, refl, sym, ap, ◌∙◌, Option, unwrap_or, append-nil, adds_joins, moments_of}

pub moments-append : (es fs : List Entry) → tick_moments (es ++ fs) ≡ tick_moments es ++ tick_moments fs
moments-append [] fs = refl
moments-append (Take node number ∷ es) fs = moments-append es fs
moments-append (Go node ∷ es) fs = moments-append es fs
moments-append (Learn node stamp committed ∷ es) fs = moments-append es fs
moments-append (Hear node ∷ es) fs = moments-append es fs
moments-append (Gate node ∷ es) fs = moments-append es fs
moments-append (Crash node kept ∷ es) fs = moments-append es fs
moments-append (Down node cause ∷ es) fs = moments-append es fs
moments-append (Tick moment ∷ es) fs = ap (λ l. moment ∷ l) (moments-append es fs)

-- the last of these moments
abbrev pub latest : ℕ → List ℕ → ℕ
latest start [] = start
latest start (m ∷ ms) = latest m ms

-- the last Tick's moment by the walk
pub last-from : (b : Base) (w : World) (es : List Entry) (start : ℕ) → unwrap_or (walk_from b w es).last start ≡ latest (unwrap_or w.last start) (tick_moments es)
unfolding walk_from
last-from b w [] start = refl
last-from b w (Take node number ∷ es) start = last-from b (step b w (Take node number)) es start
last-from b w (Go node ∷ es) start = last-from b (step b w (Go node)) es start
last-from b w (Learn node stamp committed ∷ es) start = last-from b (step b w (Learn node stamp committed)) es start
last-from b w (Hear node ∷ es) start = last-from b (step b w (Hear node)) es start
last-from b w (Gate node ∷ es) start = last-from b (step b w (Gate node)) es start
last-from b w (Crash node kept ∷ es) start = last-from b (step b w (Crash node kept)) es start
last-from b w (Down node cause ∷ es) start = last-from b (step b w (Down node cause)) es start
last-from b w (Tick moment ∷ es) start = last-from b (step b w (Tick moment)) es start

moments-more : (start : ℕ) (rest : List ℕ) (a : ℕ) → moments_of start (rest ++ a ∷ []) ≡ moments_of start rest ++ next_moment (latest start (moments_of start rest)) a ∷ []
moments-more start [] a = refl
moments-more start (x ∷ rest) a = ap (λ l. next_moment start x ∷ l) (moments-more (next_moment start x) rest a)

-- an entry at which no time passes
pub clocked-still : (before now : Option (List ℕ)) (start : ℕ) (es : List Entry) (e : Entry) → tick_moments (e ∷ []) ≡ [] → IsClocked before now start es → IsClocked before now start (es ++ e ∷ [])
clocked-still before now start es e none c = record {
  first = c.first;
  rest = c.rest;
  added = c.added;
  start_is = c.start_is;
  moments = moments-append es (e ∷ []) ∙ ap (λ l. tick_moments es ++ l) none ∙ append-nil (tick_moments es) ∙ c.moments;
}

-- a Tick, for which the clock answers once more
pub clocked-tick : (before mid now : Option (List ℕ)) (start last : ℕ) (es : List Entry) (a m : ℕ) → last ≡ latest start (tick_moments es) → m ≡ next_moment last a → Adds mid now (a ∷ [])
    → IsClocked before mid start es → IsClocked before now start (es ++ Tick m ∷ [])
clocked-tick before mid now start last es a m last_is m_is adds c = record {
  first = c.first;
  rest = c.rest ++ a ∷ [];
  added = adds_joins before mid now (c.first ∷ c.rest) (a ∷ []) c.added adds;
  start_is = c.start_is;
  moments = moments-append es (Tick m ∷ []) ∙ ap (λ l. l ++ m ∷ []) c.moments
      ∙ ap (λ k. moments_of start c.rest ++ k ∷ []) (m_is ∙ ap (λ l. next_moment l a) (last_is ∙ ap (latest start) c.moments))
      ∙ sym (moments-more start c.rest a);
}
