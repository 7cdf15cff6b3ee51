-- How far an append has laid out its effects.
use Rattle.std.proofs.lemmas.List.Elements.{All-push}
use Rattle.page_form.proofs.Names.{Effect, effect_bytes, size_of, length-effect_bytes, size_some, Entry, Log, effects_of, back_in, sizes, Parcel, Alone, closed, parcels_from, pieced, full_pages, begun_pages, Heads, HeadsFit, texts, body_with, place_after, entry_at, Laid, body_of, all_of, piece_bodies, laid, LaidOut, IsBody, bytes_of, ◌≡◌, ℕ, zero, suc, ◌+◌, ◌-◌, ◌≤◌, ◌<◌, List, [], ◌∷◌, ◌++◌, length, map, take, drop, None, refl, sym, ◌∙◌, ap, subst, arith, append_assoc, zero-add, add-zero, length-append, Vec, Global, cond-false, ne_eqb, ◌==◌, All, append-nil, map-append, length-map, entry_on, laid_on, whole, closed_body, ending, laid_pages, LeadsTo}
use Rattle.page_form.proofs.ParcelLemmas.{parcels-takes, parcels-begins, parcels-alone, length-pieced}

-- ---- the bytes of entries

pub length-texts : (es : Log) → length (texts es) ≡ sizes (effects_of es)
length-texts [] = refl
length-texts (e ∷ es) = length-append (effect_bytes (e.effect, e.back)) (texts es) ∙ (let here = length-effect_bytes e.effect e.back None in let rest = length-texts es in omega (arith, here, rest))

pub texts-push : (es : Log) (e : Entry) → texts (es ++ e ∷ []) ≡ texts es ++ effect_bytes (e.effect, e.back)
texts-push [] e = append-nil (effect_bytes (e.effect, e.back))
texts-push (x ∷ es) e = ap (λ (l : List ℕ). effect_bytes (x.effect, x.back) ++ l) (texts-push es e) ∙ sym (append_assoc (effect_bytes (x.effect, x.back)) (texts es) (effect_bytes (e.effect, e.back)))

pub few_effects : (es : Log) → length es ≤ length (texts es)
few_effects [] = omega arith
few_effects (e ∷ es) = let rest = few_effects es in let some = size_some e.effect in let long = length-texts (e ∷ es) in let all = length-texts es in omega (arith, rest, some, long, all)

-- ---- the entries of a page

-- one effect more
pub laid_on-push : (log : Log) (page size : ℕ) (es : List Effect) (e : Effect) → laid_on log page size (es ++ e ∷ []) ≡ laid_on log page size es ++ entry_on (log ++ laid_on log page size es) page (size + sizes es) e ∷ []
laid_on-push log page size [] e = ap (λ (l : Log). entry_on l page size e ∷ []) (sym (append-nil log)) ∙ ap (λ (n : ℕ). entry_on (log ++ []) page n e ∷ []) (sym (add-zero size))
laid_on-push log page size (x ∷ es) e =
    let first = entry_on log page size x in
    let rest = laid_on (log ++ first ∷ []) page (size + size_of x) es in
    ap (λ (l : Log). first ∷ l) (
    laid_on-push (log ++ first ∷ []) page (size + size_of x) es e
    ∙ ap (λ (l : Log). rest ++ entry_on l page (size + size_of x + sizes es) e ∷ []) (append_assoc log (first ∷ []) rest)
    ∙ ap (λ (n : ℕ). rest ++ entry_on (log ++ first ∷ rest) page n e ∷ []) (behind (size_of x) (sizes es))
    )
  where
    behind : (a b : ℕ) → size + a + b ≡ size + (a + b)
    behind a b = omega arith

pub effects-laid_on : (log : Log) (page size : ℕ) (es : List Effect) → effects_of (laid_on log page size es) ≡ es
effects-laid_on log page size [] = refl
effects-laid_on log page size (e ∷ es) = ap (λ (l : List Effect). e ∷ l) (effects-laid_on (log ++ entry_on log page size e ∷ []) page (size + size_of e) es)

pub length-laid_on : (log : Log) (page size : ℕ) (es : List Effect) → length (laid_on log page size es) ≡ length es
length-laid_on log page size [] = refl
length-laid_on log page size (e ∷ es) = ap suc (length-laid_on (log ++ entry_on log page size e ∷ []) page (size + size_of e) es)

-- ---- the bodies of a long effect

pub ending-more : (e : Entry) (body : List ℕ) (mark n : ℕ) (bytes : List ℕ) → ending e (body ∷ piece_bodies mark n bytes) ≡ record { body = body; adds = [] } ∷ ending e (piece_bodies mark n bytes)
ending-more e body mark zero bytes = refl
ending-more e body mark (suc n) bytes = refl

body-ending : (e : Entry) (mark n : ℕ) (bytes : List ℕ) → map body_of (ending e (piece_bodies mark n bytes)) ≡ piece_bodies mark n bytes
body-ending e mark zero bytes = refl
body-ending e mark (suc n) bytes =
    ap (λ (l : List Laid). map body_of l) (ending-more e (body_with mark (take 4091 bytes)) 2 n (drop 4091 bytes))
    ∙ ap (λ (l : List (List ℕ)). body_with mark (take 4091 bytes) ∷ l) (body-ending e 2 n (drop 4091 bytes))

pub all-ending : (e : Entry) (mark n : ℕ) (bytes : List ℕ) → all_of (ending e (piece_bodies mark n bytes)) ≡ e ∷ []
all-ending e mark zero bytes = refl
all-ending e mark (suc n) bytes = ap all_of (ending-more e (body_with mark (take 4091 bytes)) 2 n (drop 4091 bytes)) ∙ all-ending e 2 n (drop 4091 bytes)

-- the effects that stand whole with a page
abbrev pub standing : Laid → List Effect
standing l = effects_of l.adds

pub standing-ending : (e : Entry) (mark n : ℕ) (bytes : List ℕ) → map standing (ending e (piece_bodies mark n bytes)) ≡ pieced n e.effect
standing-ending e mark zero bytes = refl
standing-ending e mark (suc n) bytes =
    ap (λ (l : List Laid). map standing l) (ending-more e (body_with mark (take 4091 bytes)) 2 n (drop 4091 bytes))
    ∙ ap (λ (l : List (List Effect)). [] ∷ l) (standing-ending e 2 n (drop 4091 bytes))

pub length-ending : (e : Entry) (mark n : ℕ) (bytes : List ℕ) → length (ending e (piece_bodies mark n bytes)) ≡ n + 1
length-ending e mark n bytes = sym (length-map (ending e (piece_bodies mark n bytes)) standing) ∙ ap (λ (l : List (List Effect)). length l) (standing-ending e mark n bytes) ∙ length-pieced n e.effect

-- ---- what an append has laid out so far

pub laid_none : (log : Log) (first : ℕ) (effects : List Effect) (heads : Heads) → HeadsFit heads log → LaidOut log first effects [] [] heads first effects
laid_none log first effects heads fits = record { before = log; begun = []; heads_fit = subst (λ (l : Log). HeadsFit heads l) (sym (append-nil log)) fits; bytes_are = refl; goes = refl; leads = refl }

-- the page that was begun, closed
closed_body-some : (bytes : List ℕ) → 1 ≤ length bytes → closed_body bytes ≡ body_with 0 bytes ∷ []
closed_body-some [] some = absurd (omega (arith, some))
closed_body-some (b ∷ bytes) some = refl

-- it is a page where there are any bytes
pub length-closed_body : (bytes : List ℕ) → length (closed_body bytes) ≡ begun_pages (length bytes)
length-closed_body [] = refl
length-closed_body (b ∷ bytes) = sym (cond-false (length (b ∷ bytes) == 0) 0 1 (ne_eqb (length (b ∷ bytes)) 0 (λ none. omega (arith, none))))

pub closed_body-length : (bodies bodies' : List (Vec ℕ Global)) (bytes : List ℕ) → bytes_of bodies' ≡ bytes_of bodies ++ closed_body bytes → length bodies' ≡ length bodies + begun_pages (length bytes)
closed_body-length bodies bodies' bytes is =
    sym (length-map bodies' (λ (v : Vec ℕ Global). v.items)) ∙ ap (λ (l : List (List ℕ)). length l) is ∙ length-append (bytes_of bodies) (closed_body bytes)
    ∙ ap (λ (n : ℕ). n + length (closed_body bytes)) (length-map bodies (λ (v : Vec ℕ Global). v.items)) ∙ ap (λ (n : ℕ). length bodies + n) (length-closed_body bytes)

body-closed : (before : Log) (page : ℕ) (begun : List Effect) → map body_of (laid_pages before page (closed begun)) ≡ closed_body (texts (laid_on before page 0 begun))
body-closed before page [] = refl
body-closed before page (e ∷ begun) =
    let on = laid_on before page 0 (e ∷ begun) in
    let few = few_effects on in
    let long = length-laid_on before page 0 (e ∷ begun) in
    sym (closed_body-some (texts on) (omega (arith, few, long)))

all_of-append : (a b : List Laid) → all_of (a ++ b) ≡ all_of a ++ all_of b
all_of-append [] b = refl
all_of-append (l ∷ a) b = ap (λ (m : Log). l.adds ++ m) (all_of-append a b) ∙ sym (append_assoc l.adds (all_of a) (all_of b))

all_of-closed : (before : Log) (page : ℕ) (begun : List Effect) → all_of (laid_pages before page (closed begun)) ≡ laid_on before page 0 begun
all_of-closed before page [] = refl
all_of-closed before page (e ∷ begun) = append-nil (laid_on before page 0 (e ∷ begun))

laid_pages-closed : (before : Log) (page : ℕ) (begun : List Effect) (left : List Parcel)
    → laid_pages before page (closed begun ++ left) ≡ laid_pages before page (closed begun) ++ laid_pages (before ++ laid_on before page 0 begun) (page + length (closed_body (texts (laid_on before page 0 begun)))) left
laid_pages-closed before page [] left = ap (λ (l : Log). laid_pages l page left) (sym (append-nil before)) ∙ ap (λ (k : ℕ). laid_pages (before ++ []) k left) (sym (add-zero page))
laid_pages-closed before page (e ∷ begun) left =
    let on = laid_on before page 0 (e ∷ begun) in
    let one : length (closed_body (texts on)) ≡ 1 = ap (λ (l : List (List ℕ)). length l) (sym (body-closed before page (e ∷ begun))) in
    ap (λ (l : Log). whole on ∷ laid_pages (before ++ l) (page + 1) left) (append-nil on)
    ∙ ap (λ (k : ℕ). whole on ∷ laid_pages (before ++ on) (page + k) left) (sym one)

module _ (log : Log) (first : ℕ) (effects : List Effect) (bodies : List (List ℕ)) (bytes : List ℕ) (heads : Heads) (page : ℕ) (rest : List Effect) (was : LaidOut log first effects bodies bytes heads page rest) where
  abbrev on : Log
  on = laid_on was.before page 0 was.begun

  pub size_is : length bytes ≡ sizes was.begun
  size_is = ap (λ (l : List ℕ). length l) was.bytes_are ∙ length-texts on ∙ ap sizes (effects-laid_on was.before page 0 was.begun)

  -- the page is closed, where one was begun
  pub laid_closes : (left : List Parcel) (page' : ℕ) (bodies' : List (List ℕ)) → parcels_from was.begun rest ≡ closed was.begun ++ left → page' ≡ page + length (closed_body bytes) → bodies' ≡ bodies ++ closed_body bytes → LeadsTo log first effects bodies' heads page' left
  laid_closes left page' bodies' is page_is bodies_are = record {
    before = was.before ++ on;
    heads_fit = was.heads_fit;
    goes =
        ap (λ (l : List (List ℕ)). l ++ map body_of (laid_pages (was.before ++ on) page' left)) bodies_are
        ∙ append_assoc bodies (closed_body bytes) (map body_of (laid_pages (was.before ++ on) page' left))
        ∙ ap (λ (l : List (List ℕ)). bodies ++ l) (
        ap (λ (l : List (List ℕ)). l ++ map body_of (laid_pages (was.before ++ on) page' left)) front
        ∙ sym (map-append body_of (laid_pages was.before page (closed was.begun)) (laid_pages (was.before ++ on) page' left))
        ∙ ap (λ (l : List Laid). map body_of l) whole_is)
        ∙ was.goes;
    leads =
        append_assoc was.before on (all_of (laid_pages (was.before ++ on) page' left))
        ∙ ap (λ (l : Log). was.before ++ l) (
        ap (λ (l : Log). l ++ all_of (laid_pages (was.before ++ on) page' left)) (sym (all_of-closed was.before page was.begun))
        ∙ sym (all_of-append (laid_pages was.before page (closed was.begun)) (laid_pages (was.before ++ on) page' left))
        ∙ ap all_of whole_is)
        ∙ was.leads;
  }
    where
      front : closed_body bytes ≡ map body_of (laid_pages was.before page (closed was.begun))
      front = ap closed_body was.bytes_are ∙ sym (body-closed was.before page was.begun)

      whole_is : laid_pages was.before page (closed was.begun) ++ laid_pages (was.before ++ on) page' left ≡ laid_pages was.before page (parcels_from was.begun rest)
      whole_is =
          ap (λ (k : ℕ). laid_pages was.before page (closed was.begun) ++ laid_pages (was.before ++ on) k left) (page_is ∙ ap (λ (l : List ℕ). page + length (closed_body l)) was.bytes_are)
          ∙ sym (laid_pages-closed was.before page was.begun left) ∙ ap (λ (l : List Parcel). laid_pages was.before page l) (sym is)

module _ (log : Log) (first : ℕ) (effects : List Effect) (bodies : List (List ℕ)) (bytes : List ℕ) (heads heads' : Heads) (page : ℕ) (e : Effect) (rest : List Effect) where
  -- the page takes one effect more
  pub laid_takes : (was : LaidOut log first effects bodies bytes heads page (e ∷ rest)) (bytes' : List ℕ) → length bytes + size_of e ≤ 4091
      → ((l : Log) → HeadsFit heads l → bytes' ≡ bytes ++ effect_bytes (e, back_in l e))
      → ((l : Log) → HeadsFit heads l → HeadsFit heads' (l ++ entry_at l (place_after page (length bytes)) e ∷ []))
      → LaidOut log first effects bodies bytes' heads' page rest
  laid_takes was bytes' fits bytes_is heads_are =
      let here = laid_on was.before page 0 was.begun in
      let size = size_is log first effects bodies bytes heads page (e ∷ rest) was in
      let now = was.before ++ here in
      let entry = entry_at now (place_after page (length bytes)) e in
      let step = parcels-takes was.begun e rest (omega (arith, fits, size)) in
      record {
        before = was.before;
        begun = was.begun ++ e ∷ [];
        heads_fit = subst (λ (l : Log). HeadsFit heads' l) (append_assoc was.before here (entry ∷ []) ∙ ap (λ (l : Log). was.before ++ l) (sym (grown was size))) (heads_are now was.heads_fit);
        bytes_are = bytes_is now was.heads_fit ∙ ap (λ (l : List ℕ). l ++ effect_bytes (e, back_in now e)) was.bytes_are ∙ sym (texts-push here entry) ∙ ap texts (sym (grown was size));
        goes = ap (λ (l : List Parcel). bodies ++ map body_of (laid_pages was.before page l)) (sym step) ∙ was.goes;
        leads = ap (λ (l : List Parcel). was.before ++ all_of (laid_pages was.before page l)) (sym step) ∙ was.leads;
      }
    where
      grown : (w : LaidOut log first effects bodies bytes heads page (e ∷ rest)) → length bytes ≡ sizes w.begun → laid_on w.before page 0 (w.begun ++ e ∷ []) ≡ laid_on w.before page 0 w.begun ++ entry_at (w.before ++ laid_on w.before page 0 w.begun) (place_after page (length bytes)) e ∷ []
      grown w size = laid_on-push w.before page 0 w.begun e ∙ ap (λ (n : ℕ). laid_on w.before page 0 w.begun ++ entry_at (w.before ++ laid_on w.before page 0 w.begun) (place_after page n) e ∷ []) (zero-add (sizes w.begun) ∙ sym size)

  -- the next page begins with the effect
  pub laid_begins : (was : LeadsTo log first effects bodies heads page (parcels_from (e ∷ []) rest)) (bytes' : List ℕ)
      → ((l : Log) → HeadsFit heads l → bytes' ≡ effect_bytes (e, back_in l e))
      → ((l : Log) → HeadsFit heads l → HeadsFit heads' (l ++ entry_at l (place_after page 0) e ∷ []))
      → LaidOut log first effects bodies bytes' heads' page rest
  laid_begins was bytes' bytes_is heads_are = record {
    before = was.before;
    begun = e ∷ [];
    heads_fit = heads_are was.before was.heads_fit;
    bytes_are = bytes_is was.before was.heads_fit ∙ sym (append-nil (effect_bytes (e, back_in was.before e)));
    goes = was.goes;
    leads = was.leads;
  }

  -- or the effect has pages of its own
  pub laid_alone : (was : LeadsTo log first effects bodies heads page (Alone e ∷ parcels_from [] rest)) (bodies' : List (List ℕ)) (page' : ℕ) → page' ≡ page + (full_pages e + 1)
      → ((l : Log) → HeadsFit heads l → bodies' ≡ bodies ++ piece_bodies 1 (full_pages e) (effect_bytes (e, back_in l e)))
      → ((l : Log) → HeadsFit heads l → HeadsFit heads' (l ++ entry_on l page 0 e ∷ []))
      → LaidOut log first effects bodies' [] heads' page' rest
  laid_alone was bodies' page' page_is bodies_are heads_are =
      let entry = entry_on was.before page 0 e in
      let bytes_here = effect_bytes (e, back_in was.before e) in
      let own = ending entry (piece_bodies 1 (full_pages e) bytes_here) in
      let after = laid_pages (was.before ++ entry ∷ []) page' (parcels_from [] rest) in
      let whole_is : own ++ after ≡ laid_pages was.before page (Alone e ∷ parcels_from [] rest) =
      ap (λ (l : Log). own ++ laid_pages (was.before ++ l) page' (parcels_from [] rest)) (sym (all-ending entry 1 (full_pages e) bytes_here))
      ∙ ap (λ (k : ℕ). own ++ laid_pages (was.before ++ all_of own) k (parcels_from [] rest)) (page_is ∙ ap (λ (n : ℕ). page + n) (sym (length-ending entry 1 (full_pages e) bytes_here))) in
      record {
        before = was.before ++ entry ∷ [];
        begun = [];
        heads_fit = subst (λ (l : Log). HeadsFit heads' l) (sym (append-nil (was.before ++ entry ∷ []))) (heads_are was.before was.heads_fit);
        bytes_are = refl;
        goes =
            ap (λ (l : List (List ℕ)). l ++ map body_of after) (bodies_are was.before was.heads_fit)
            ∙ append_assoc bodies (piece_bodies 1 (full_pages e) bytes_here) (map body_of after)
            ∙ ap (λ (l : List (List ℕ)). bodies ++ l) (
            ap (λ (l : List (List ℕ)). l ++ map body_of after) (sym (body-ending entry 1 (full_pages e) bytes_here))
            ∙ sym (map-append body_of own after) ∙ ap (λ (l : List Laid). map body_of l) whole_is)
            ∙ was.goes;
        leads =
            append_assoc was.before (entry ∷ []) (all_of after)
            ∙ ap (λ (l : Log). was.before ++ l) (
            ap (λ (l : Log). l ++ all_of after) (sym (all-ending entry 1 (full_pages e) bytes_here)) ∙ sym (all_of-append own after) ∙ ap all_of whole_is)
            ∙ was.leads;
      }

-- the next effect begins a page, or has pages of its own, where the page that was begun is closed
module _ (log : Log) (first : ℕ) (effects : List Effect) (bodies mid_bodies : List (List ℕ)) (bytes mid : List ℕ) (heads heads' : Heads) (page page' : ℕ) (e : Effect) (rest : List Effect) (was : LaidOut log first effects bodies bytes heads page (e ∷ rest))
    (bodies_are : mid_bodies ≡ bodies ++ closed_body bytes) (page_is : page' ≡ page + length (closed_body bytes)) (empty : mid ≡ []) where
  pub next_begins : (bytes' : List ℕ) → 4091 < length bytes + size_of e → size_of e ≤ 4091
      → ((l : Log) → HeadsFit heads l → bytes' ≡ mid ++ effect_bytes (e, back_in l e))
      → ((l : Log) → HeadsFit heads l → HeadsFit heads' (l ++ entry_at l (place_after page' (length mid)) e ∷ []))
      → LaidOut log first effects mid_bodies bytes' heads' page' rest
  next_begins bytes' over short bytes_is heads_are =
      let size = size_is log first effects bodies bytes heads page (e ∷ rest) was in
      let closed = laid_closes log first effects bodies bytes heads page (e ∷ rest) was (parcels_from (e ∷ []) rest) page' mid_bodies (parcels-begins was.begun e rest (omega (arith, over, size)) short) page_is bodies_are in
      laid_begins log first effects mid_bodies bytes heads heads' page' e rest closed bytes'
      (λ l h. bytes_is l h ∙ ap (λ (m : List ℕ). m ++ effect_bytes (e, back_in l e)) empty)
      (λ l h. subst (λ (m : List ℕ). HeadsFit heads' (l ++ entry_at l (place_after page' (length m)) e ∷ [])) empty (heads_are l h))

  pub next_alone : (bodies' : List (List ℕ)) (page'' : ℕ) → 4091 < size_of e → page'' ≡ page' + (full_pages e + 1)
      → ((l : Log) → HeadsFit heads l → bodies' ≡ mid_bodies ++ piece_bodies 1 (full_pages e) (effect_bytes (e, back_in l e)))
      → ((l : Log) → HeadsFit heads l → HeadsFit heads' (l ++ entry_on l page' 0 e ∷ []))
      → LaidOut log first effects bodies' mid heads' page'' rest
  next_alone bodies' page'' long at bodies_is heads_are =
      let closed = laid_closes log first effects bodies bytes heads page (e ∷ rest) was (Alone e ∷ parcels_from [] rest) page' mid_bodies (parcels-alone was.begun e rest long) page_is bodies_are in
      subst (λ (m : List ℕ). LaidOut log first effects bodies' m heads' page'' rest) (sym empty)
      (laid_alone log first effects mid_bodies bytes heads heads' page' e rest closed bodies' page'' at bodies_is heads_are)

-- all effects are laid out
module _ (log : Log) (first : ℕ) (effects : List Effect) (bodies : List (List ℕ)) (bytes : List ℕ) (heads : Heads) (page : ℕ) (rest : List Effect) (done : rest ≡ []) (was : LaidOut log first effects bodies bytes heads page rest) where
  at_end : LeadsTo log first effects (bodies ++ closed_body bytes) heads (page + length (closed_body bytes)) []
  at_end =
      let w = subst (λ (l : List Effect). LaidOut log first effects bodies bytes heads page l) done was in
      laid_closes log first effects bodies bytes heads page [] w [] (page + length (closed_body bytes)) (bodies ++ closed_body bytes) (sym (append-nil (closed w.begun))) refl refl

  pub laid_bodies : bodies ++ closed_body bytes ≡ map body_of (laid log first effects)
  laid_bodies = sym (append-nil (bodies ++ closed_body bytes)) ∙ at_end.goes

  pub laid_heads : HeadsFit heads (log ++ all_of (laid log first effects))
  laid_heads = subst (λ (l : Log). HeadsFit heads l) (sym (append-nil at_end.before) ∙ at_end.leads) at_end.heads_fit

-- ---- the pages of a long effect

pushed : (bodies bodies' : List (Vec ℕ Global)) (v : Vec ℕ Global) (bytes : List ℕ) → bodies' ≡ bodies ++ v ∷ [] → v.items ≡ bytes → (more : List (List ℕ)) → bytes_of bodies' ++ more ≡ bytes_of bodies ++ bytes ∷ more
pushed bodies bodies' v bytes is bytes_are more =
    ap (λ (l : List (Vec ℕ Global)). bytes_of l ++ more) is
    ∙ ap (λ (l : List (List ℕ)). l ++ more) (map-append (λ (x : Vec ℕ Global). x.items) bodies (v ∷ []))
    ∙ append_assoc (bytes_of bodies) (v.items ∷ []) more
    ∙ ap (λ (l : List ℕ). bytes_of bodies ++ l ∷ more) bytes_are

-- one page more is full
pub pieces_more : (bodies bodies' : List (Vec ℕ Global)) (full : Vec ℕ Global) (mark n i : ℕ) (rest front back : List ℕ) (total : List (List ℕ)) → bodies' ≡ bodies ++ full ∷ [] → full.items ≡ body_with mark front → front ≡ take 4091 rest → back ≡ drop 4091 rest
    → i < n → bytes_of bodies ++ piece_bodies mark (n - i) rest ≡ total → bytes_of bodies' ++ piece_bodies 2 (n - (i + 1)) back ≡ total
pieces_more bodies bodies' full mark n i rest front back total is full_is front_is back_is low goes =
    pushed bodies bodies' full (body_with mark (take 4091 rest)) is (full_is ∙ ap (body_with mark) front_is) (piece_bodies 2 (n - (i + 1)) back)
    ∙ ap (λ (l : List ℕ). bytes_of bodies ++ body_with mark (take 4091 rest) ∷ piece_bodies 2 (n - (i + 1)) l) back_is
    ∙ ap (λ (k : ℕ). bytes_of bodies ++ piece_bodies mark k rest) (sym (one_more n i low))
    ∙ goes
  where
    one_more : (n i : ℕ) → i < n → n - i ≡ suc (n - (i + 1))
    one_more n i low = omega (arith, low)

-- and the last
pub pieces_last : (bodies bodies' : List (Vec ℕ Global)) (last : Vec ℕ Global) (mark n i : ℕ) (rest : List ℕ) (total : List (List ℕ)) → bodies' ≡ bodies ++ last ∷ [] → last.items ≡ body_with 3 rest → n ≤ i → bytes_of bodies ++ piece_bodies mark (n - i) rest ≡ total → bytes_of bodies' ≡ total
pieces_last bodies bodies' last mark n i rest total is last_is high goes =
    sym (append-nil (bytes_of bodies')) ∙ pushed bodies bodies' last (body_with 3 rest) is last_is []
    ∙ ap (λ (k : ℕ). bytes_of bodies ++ piece_bodies mark k rest) (sym (none_more n i high)) ∙ goes
  where
    none_more : (n i : ℕ) → n ≤ i → n - i ≡ 0
    none_more n i high = omega (arith, high)

pub push_length : (bodies bodies' : List (Vec ℕ Global)) (v : Vec ℕ Global) → bodies' ≡ bodies ++ v ∷ [] → length bodies' ≡ length bodies + 1
push_length bodies bodies' v is = ap (λ (l : List (Vec ℕ Global)). length l) is ∙ length-append bodies (v ∷ [])

pub push_bodies : (bodies bodies' : List (Vec ℕ Global)) (v : Vec ℕ Global) → bodies' ≡ bodies ++ v ∷ [] → All IsBody bodies → IsBody v → All IsBody bodies'
push_bodies bodies bodies' v is all good = subst (λ (l : List (Vec ℕ Global)). All IsBody l) (sym is) (All-push IsBody bodies v all good)
