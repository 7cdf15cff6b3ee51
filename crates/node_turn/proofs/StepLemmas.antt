-- What node_turn needs at each of its visits and calls.
use Rattle.node_turn.proofs.Names.{NodeId, Effect, Image, Stage, LeftNow, Goes, goes_nowhere, HasPrefix, storage, Entry, Base, Life, all_effects, gated_life, names, own, walk, IsKept, Mark, Passes, ◌≡◌, ℕ, ◌≤◌, true, List, [], ◌∷◌, ◌++◌, length, take, refl, sym, ap, ◌∙◌, arith, Ok, append-nil, take_all, crashed_life}

-- ---- images

-- what an append leaves
pub kept-prefix : (l : Life) (c : Image) → HasPrefix l.gated l.fresh c → IsKept l c
kept-prefix l c has = record { kept = has.kept; few = has.few; is = has.is }

-- all open effects are there, before a gate and behind it
pub kept-whole : (l : Life) (c : Image) → storage c ≡ Ok (all_effects l) → IsKept l c
kept-whole l c is = record { kept = length l.fresh; few = omega arith; is = is ∙ ap (λ (es : List Effect). Ok (l.gated ++ es)) (sym (take_all (length l.fresh) l.fresh (omega arith))) }

pub kept-gated : (l : Life) (c : Image) → storage c ≡ Ok (all_effects l) → IsKept (gated_life l) c
kept-gated l c is = record { kept = 0; few = omega arith; is = is ∙ ap (λ (es : List Effect). Ok es) (sym (append-nil (all_effects l))) }

-- so many open effects are found, before a Crash and behind it
pub kept-found : (l : Life) (kept : ℕ) (c : Image) → kept ≤ length l.fresh → storage c ≡ Ok (l.gated ++ take kept l.fresh) → IsKept l c
kept-found l kept c few is = record { kept = kept; few = few; is = is }

pub kept-crashed : (start : ℕ) (l : Life) (kept : ℕ) (c : Image) → storage c ≡ Ok (l.gated ++ take kept l.fresh) → IsKept (crashed_life start kept l) c
kept-crashed start l kept c is = record { kept = 0; few = omega arith; is = is ∙ ap (λ (es : List Effect). Ok es) (sym (append-nil (l.gated ++ take kept l.fresh))) }

-- ---- stories

module _ (b : Base) (n : NodeId) where
  -- no own entry: the medium's calls, and others' entries
  pub passes-between : (story more : List Entry) (from to : List Stage) → own n more ≡ [] → Goes from to (IsKept ((walk b story).life n)) → Passes b n story (story ++ more) from to
  passes-between story more from to none kept = record { marks = []; rest = more; none = none; story = refl; kept = kept }

  -- a visit that adds the node's own entry, behind entries of others, while its medium stands still: a crash leaves the log of both lives
  pub passes-visit : (story others : List Entry) (e : Entry) (s : List Stage) → own n others ≡ [] → names n e ≡ true → ((c : Image) → LeftNow s c → IsKept ((walk b story).life n) c)
      → ((c : Image) → LeftNow s c → IsKept ((walk b (story ++ (others ++ e ∷ []))).life n) c) → Passes b n story (story ++ (others ++ e ∷ [])) s s
  passes-visit story others e s none named before behind =
      let m : Mark = record { entries = others ++ e ∷ []; stages = s } in
      record {
        marks = m ∷ [];
        rest = [];
        none = refl;
        story = ap (λ l. story ++ l) (sym (append-nil (others ++ e ∷ [])) ∙ sym (append-nil ((others ++ e ∷ []) ++ [])));
        kept = (
          goes_nowhere s (IsKept ((walk b story).life n)) before,
          record { others = others; entry = e; is = refl; none = none; named = named },
          goes_nowhere s (IsKept ((walk b (story ++ (others ++ e ∷ []))).life n)) behind,
        );
      }
