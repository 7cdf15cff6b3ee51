-- How far the pages of an append have come.
use Rattle.version_store.proofs.Names.{Image, Only, Stage, LeftNow, LeavesOnly, joins, is_blank, state_of, gated_page, Spoiled, Gated, Log, Going, log_going, begun, next, scan, entries, KeepsPages, Laid, PagesFit, HasPages, Grows, IsAtRest, all_of, body_of, padded, ◌≡◌, ◌≢◌, ◌⊎◌, inl, inr, ⊎_elim, ℕ, ◌+◌, ◌<◌, List, [], ◌∷◌, ◌++◌, length, take, drop, get_or, true, Some, Ok, refl, sym, ◌∙◌, ap, subst, arith, add-zero, slice_set, list_all, and_parts, cond-true, cases_eq, append-nil, drop_more, take_more, flat_map_more, drop-set-lt, get_or-set_same, get_or-set_other, stays}
use Rattle.page_form.specs.Steps.{MayPut}
use Rattle.version_store.proofs.ScanLemmas.{going, stays_blank, stays_spoiled, steps, front_steps, log_at_rest}

-- a page that is none
abbrev pub no_page : Laid
no_page = record { body = []; adds = [] }

gated_is : (body : List ℕ) → state_of (gated_page body) ≡ Gated (padded body)
gated_is body = refl

-- the n-th page is blank and so are those after it
pub blank_here : (reads : Image) (n : ℕ) → n < length reads → list_all is_blank (drop n reads) ≡ true → (is_blank (get_or reads n []) ≡ true) × (list_all is_blank (drop (n + 1) reads) ≡ true)
blank_here reads n within blank = and_parts _ _ (ap (λ (l : Image). list_all is_blank l) (sym (drop_more reads n [] within)) ∙ blank)

module _ (log : Log) (n : ℕ) (reads : Image) (may_leave : Image → Type 0) (rest : IsAtRest log n reads may_leave) (within : n < length reads) (l : Laid) (fits : log_going (next (scan begun 0 (take n reads)) n (Gated (padded (body_of l)))) ≡ Some (log ++ l.adds)) where
  -- a crash while the page is put
  pub put_crash : (c : Image) → MayPut n (body_of l) may_leave c → (entries c ≡ Ok log) ⊎ (entries c ≡ Ok (log ++ l.adds))
  put_crash c put =
      let on = going (scan begun 0 (take n reads)) log rest.front in
      let more = going (next (Going on.0) n (Gated (padded (body_of l)))) (log ++ l.adds) (ap (λ r. log_going (next r n (Gated (padded (body_of l))))) (sym on.1) ∙ fits) in
      let here = blank_here reads n within rest.blank in
      let was : put.0 ≡ reads = rest.durable put.0 put.1 in
      let bytes = put.2.bytes in
      let is : c ≡ slice_set reads n bytes = put.2.image ∙ ap (λ (i : Image). slice_set i n bytes) was in
      ⊎_elim
      (λ same. inl (ap entries is ∙ ⊎_elim (λ b. stays_blank reads n on.0 within on.1 here.1 bytes b) (λ s. stays_spoiled reads n on.0 within on.1 here.1 bytes s) same ∙ ap (λ (m : Log). Ok m) on.2))
      (λ gated. inr (ap entries is ∙ steps reads n on.0 within on.1 here.1 bytes (padded (body_of l)) more.0 (ap state_of gated) more.1 ∙ ap (λ (m : Log). Ok m) more.2))
      (put.2.state (ap (λ (i : Image). is_blank (get_or i n [])) was ∙ here.0))

  -- and once it stands
  pub read_on : (now : Image) → now ≡ slice_set reads n (gated_page (body_of l)) → scan begun 0 (take (n + 1) now) ≡ next (scan begun 0 (take n reads)) n (Gated (padded (body_of l)))
  read_on now is = ap (λ (i : Image). scan begun 0 (take (n + 1) i)) is ∙ front_steps reads n (gated_page (body_of l)) within

  pub put_rest : (now : Image) (images : Image → Type 0) → now ≡ slice_set reads n (gated_page (body_of l)) → Only now images → IsAtRest (log ++ l.adds) (n + 1) now images
  put_rest now images is only =
      let here = blank_here reads n within rest.blank in
      let page = gated_page (body_of l) in
      record {
        front = ap log_going (read_on now is) ∙ fits;
        blank = ap (λ (i : Image). list_all is_blank (drop (n + 1) i)) is ∙ ap (λ (i : Image). list_all is_blank i) (drop-set-lt (n + 1) reads n page (omega arith)) ∙ here.1;
        durable = only;
      }

-- a page that isn't blank isn't the one that is put
keeps_put : (base mid c : Image) (n : ℕ) (bytes : List ℕ) → n < length mid → is_blank (get_or mid n []) ≡ true → KeepsPages base mid → c ≡ slice_set mid n bytes → KeepsPages base c
keeps_put base mid c n bytes within blank keeps is page marked = ⊎_elim
    (λ here. absurd (cc (sym blank ∙ ap (λ (k : ℕ). is_blank (get_or mid k [])) (sym here) ∙ ap is_blank (keeps page marked) ∙ marked)))
    (λ other. ap (λ (i : Image). get_or i page []) is ∙ get_or-set_other mid n page bytes [] other ∙ keeps page marked)
    (cases_eq page n)

module _ {M : Type 0} (stages : M → List Stage) (reads : M → Image) (may_leave : M → Image → Type 0) where
  -- after the first i pages
  pub record Grown (log : Log) (first : ℕ) (pages : List Laid) (start now : M) (i : ℕ) : Type 0 where
    pub rest : IsAtRest (log ++ all_of (take i pages)) (first + i) (reads now) (may_leave now)
    pub fit : PagesFit (scan begun 0 (take (first + i) (reads now))) (log ++ all_of (take i pages)) (first + i) (drop i pages)
    pub keeps : KeepsPages (reads start) (reads now)
    pub leaves : LeavesOnly stages start now (Grows (reads start) log pages)

  -- no page is put
  pub untouched : (log : Log) (n : ℕ) (pages : List Laid) (m : M) → ((c : Image) → LeftNow (stages m) c → may_leave m c) → IsAtRest log n (reads m) (may_leave m) → LeavesOnly stages m m (Grows (reads m) log pages)
  untouched log n pages m only_now rest = stays stages m (Grows (reads m) log pages) (λ c left. record { has = record { count = 0; most = omega arith; is = now c left }; keeps = λ page marked. ap (λ (i : Image). get_or i page []) (rest.durable c (only_now c left)) })
    where
      now : (c : Image) → LeftNow (stages m) c → entries c ≡ Ok (log ++ [])
      now c left = ap entries (rest.durable c (only_now c left)) ∙ log_at_rest (reads m) n log rest.front rest.blank ∙ ap (λ (l : Log). Ok l) (sym (append-nil log))

  pub grown_none : (log : Log) (first : ℕ) (pages : List Laid) (start : M) → ((c : Image) → LeftNow (stages start) c → may_leave start c)
      → IsAtRest log first (reads start) (may_leave start) → PagesFit (scan begun 0 (take first (reads start))) log first pages → Grown log first pages start start 0
  grown_none log first pages start only_now rest fit = record {
    rest = subst (λ (l : Log). IsAtRest l (first + 0) (reads start) (may_leave start)) (sym (append-nil log)) (subst (λ (k : ℕ). IsAtRest log k (reads start) (may_leave start)) (sym (add-zero first)) rest);
    fit = subst (λ (l : Log). PagesFit (scan begun 0 (take (first + 0) (reads start))) l (first + 0) pages) (sym (append-nil log)) (subst (λ (k : ℕ). PagesFit (scan begun 0 (take k (reads start))) log k pages) (sym (add-zero first)) fit);
    keeps = λ page marked. refl;
    leaves = untouched log first pages start only_now rest;
  }

  module _ (log : Log) (first : ℕ) (pages : List Laid) (start mid now : M) (i : ℕ) (grown : Grown log first pages start mid i) (more : i < length pages) (within : first + i < length (reads mid)) (body : List ℕ) (is : body ≡ body_of (get_or pages i no_page)) where
    joined : (log ++ all_of (take i pages)) ++ (get_or pages i no_page).adds ≡ log ++ all_of (take (i + 1) pages)
    joined = flat_map_more (λ (l : Laid). l.adds) log (take i pages) (get_or pages i no_page) ∙ ap (λ (l : List Laid). log ++ all_of l) (sym (take_more pages i no_page more))

    fit_here : PagesFit (scan begun 0 (take (first + i) (reads mid))) (log ++ all_of (take i pages)) (first + i) (get_or pages i no_page ∷ drop (i + 1) pages)
    fit_here = subst (λ (l : List Laid). PagesFit (scan begun 0 (take (first + i) (reads mid))) (log ++ all_of (take i pages)) (first + i) l) (drop_more pages i no_page more) grown.fit

    blank_at : is_blank (get_or (reads mid) (first + i) []) ≡ true
    blank_at = (blank_here (reads mid) (first + i) within grown.rest.blank).0

    has_here : (c : Image) → MayPut (first + i) body (may_leave mid) c → HasPages log pages c
    has_here c put =
        ⊎_elim
        (λ same. record { count = i; most = omega arith; is = same })
        (λ grew. record { count = i + 1; most = omega arith; is = grew ∙ ap (λ (l : Log). Ok l) joined })
        (put_crash (log ++ all_of (take i pages)) (first + i) (reads mid) (may_leave mid) grown.rest within (get_or pages i no_page) fit_here.0 c
        (subst (λ (b : List ℕ). MayPut (first + i) b (may_leave mid) c) is put))

    crash_here : (c : Image) → MayPut (first + i) body (may_leave mid) c → Grows (reads start) log pages c
    crash_here c put = record {
      has = has_here c put;
      keeps = keeps_put (reads start) (reads mid) c (first + i) put.2.bytes within blank_at grown.keeps (put.2.image ∙ ap (λ (d : Image). slice_set d (first + i) put.2.bytes) (grown.rest.durable put.0 put.1));
    }

    -- a put that fails or not
    pub grown_leaves : LeavesOnly stages mid now (MayPut (first + i) body (may_leave mid)) → LeavesOnly stages start now (Grows (reads start) log pages)
    grown_leaves put = joins stages start mid now (Grows (reads start) log pages) _ (Grows (reads start) log pages) grown.leaves put (λ c p. p) crash_here

    pub grown_more : LeavesOnly stages mid now (MayPut (first + i) body (may_leave mid)) → reads now ≡ slice_set (reads mid) (first + i) (gated_page body) → Only (reads now) (may_leave now)
        → Grown log first pages start now (i + 1)
    grown_more put written only =
        let at : first + i + 1 ≡ first + (i + 1) = omega arith in
        let now_is = written ∙ ap (λ (b : List ℕ). slice_set (reads mid) (first + i) (gated_page b)) is in
        let rest = put_rest (log ++ all_of (take i pages)) (first + i) (reads mid) (may_leave mid) grown.rest within (get_or pages i no_page) fit_here.0 (reads now) (may_leave now) now_is only in
        let read = read_on (log ++ all_of (take i pages)) (first + i) (reads mid) (may_leave mid) grown.rest within (get_or pages i no_page) fit_here.0 (reads now) now_is in
        let fit = subst (λ r. PagesFit r ((log ++ all_of (take i pages)) ++ (get_or pages i no_page).adds) (first + i + 1) (drop (i + 1) pages)) (sym read) fit_here.1 in
        record {
          rest = subst (λ (k : ℕ). IsAtRest (log ++ all_of (take (i + 1) pages)) k (reads now) (may_leave now)) at (subst (λ (l : Log). IsAtRest l (first + i + 1) (reads now) (may_leave now)) joined rest);
          fit = subst (λ (k : ℕ). PagesFit (scan begun 0 (take k (reads now))) (log ++ all_of (take (i + 1) pages)) k (drop (i + 1) pages)) at (subst (λ (l : Log). PagesFit (scan begun 0 (take (first + i + 1) (reads now))) l (first + i + 1) (drop (i + 1) pages)) joined fit);
          keeps = keeps_put (reads start) (reads mid) (reads now) (first + i) (gated_page body) within blank_at grown.keeps written;
          leaves = grown_leaves put;
        }

pub blank_clean : (page : List ℕ) → is_blank page ≡ true → state_of page ≢ Spoiled
blank_clean page blank is = cc (sym is ∙ cond-true (is_blank page) _ _ blank)

gated_clean : (body : List ℕ) → state_of (gated_page body) ≢ Spoiled
gated_clean body is = cc (sym is ∙ gated_is body)

pub clean_on : (reads now : Image) (n : ℕ) (body : List ℕ) → n < length reads → now ≡ slice_set reads n (gated_page body) → (page : ℕ) → state_of (get_or reads page []) ≢ Spoiled → state_of (get_or now page []) ≢ Spoiled
clean_on reads now n body within is page was spoiled = ⊎_elim
    (λ here. gated_clean body (ap state_of (sym (get_or-set_same reads n (gated_page body) [] within)) ∙ ap (λ (k : ℕ). state_of (get_or (slice_set reads n (gated_page body)) k [])) (sym here) ∙ ap (λ (i : Image). state_of (get_or i page [])) (sym is) ∙ spoiled))
    (λ other. was (ap state_of (sym (get_or-set_other reads n page (gated_page body) [] other)) ∙ ap (λ (i : Image). state_of (get_or i page [])) (sym is) ∙ spoiled))
    (cases_eq page n)
