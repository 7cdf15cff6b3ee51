-- How a call that looks for an effect goes on from page to page.
use Rattle.version_store.proofs.Names.{IsBytes, Image, page_of, state_of, PageState, Place, Written, effect_bytes, effect_at, effect_takes, length-effect_bytes, size_most, without_back, LastTells, first_sight, next_sight, sheet_on, shown_alone, shown_behind, shown_in, sight_then, Gated, Sheet, sheet_of, First, Middle, Last, Stand, Sees, ◌≡◌, ℕ, ◌+◌, ◌≤◌, ◌<◌, List, [], ◌∷◌, ◌++◌, length, drop, Option, Some, None, Result, Ok, Err, refl, sym, ◌∙◌, ap, subst, arith, Vec, inl, ⊎_elim, length-append, Global, drop_more, drop_all, Sight, Told, Due, StandsBehind, Tells, sight_of, ◌==◌, cond-true, eq-eqb}
use Rattle.page_form.proofs.ReadLemmas.{IsBytes-append}
use Rattle.version_store.specs.declared.fetches.Sight.TheVariants as code

-- ---- one effect and no more

-- no effect is so long
long_unshown : (place : Place) (bytes : List ℕ) → IsBytes bytes → 65567 < length bytes → shown_alone place (effect_at bytes) ≡ None
long_unshown place bytes small long = by_read (effect_at bytes) refl
  where
    by_read : (r : Result (Written × List ℕ) ℕ) → effect_at bytes ≡ r → shown_alone place r ≡ None
    by_read (Err at) is = refl
    by_read (Ok (w, [])) is =
        let t = effect_takes bytes w [] small is in
        let size = ap (λ (l : List ℕ). length l) t.0.parts ∙ length-append (effect_bytes w) [] in
        let most = size_most w.0 (without_back w.0 w.1 t.1) in
        let same = length-effect_bytes w.0 w.1 None in
        absurd (omega (arith, size, most, same, long))
    by_read (Ok (w, b ∷ rest)) is = refl

pub stand_shown : (place : Place) (bytes pieces : List ℕ) → IsBytes bytes → IsBytes pieces → Stand bytes pieces → shown_alone place (effect_at bytes) ≡ shown_alone place (effect_at pieces)
stand_shown place bytes pieces small small' stand = ⊎_elim
    (λ same. ap (λ (l : List ℕ). shown_alone place (effect_at l)) same)
    (λ long. long_unshown place bytes small long.0 ∙ sym (long_unshown place pieces small' long.1))
    stand

-- ---- what is seen

pub told_is : (s : Sight) (found : Option Written) → Sees (code.Told found) s → s ≡ Told found
told_is (Told f) found is = ap (λ (o : Option Written). Told o) (sym is)
told_is (Due pieces) found is = absurd is

pub due_is : (s : Sight) (kept : Vec ℕ Global) → Sees (code.Due kept) s → (pieces : List ℕ) × (s ≡ Due pieces) × Stand kept.items pieces × IsBytes pieces
due_is (Told f) kept is = absurd is
due_is (Due pieces) kept is = (pieces, refl, is.0, is.1)

-- a first piece, a middle one, and the last
module _ (place : Place) (state : PageState) (body : List ℕ) (from : ℕ) (bytes : List ℕ) (gated : state ≡ Gated body) where
  pub first_piece : (kept : Vec ℕ Global) → sheet_of body ≡ Some (First, from, bytes) → place.offset ≡ 5 → kept.items ≡ bytes → IsBytes bytes → Sees (code.Due kept) (first_sight place (sheet_on state))
  first_piece kept is at same small =
      subst (λ (s : Sight). Sees (code.Due kept) s)
      (sym (ap (λ (s : PageState). first_sight place (sheet_on s)) gated ∙ ap (λ (o : Option Sheet). first_sight place o) is ∙ cond-true (place.offset == 5) (Due bytes) (Told None) (eq-eqb place.offset 5 at)))
      (inl same, small)

  pub next_middle : (front : List ℕ) (kept : Vec ℕ Global) → sheet_of body ≡ Some (Middle, from, bytes) → Stand kept.items (front ++ bytes) → IsBytes front → IsBytes bytes → Sees (code.Due kept) (next_sight front place (sheet_on state))
  next_middle front kept is stand small small' =
      subst (λ (s : Sight). Sees (code.Due kept) s)
      (sym (ap (λ (s : PageState). next_sight front place (sheet_on s)) gated ∙ ap (λ (o : Option Sheet). next_sight front place o) is))
      (stand, IsBytes-append front bytes small small')

  pub next_last : (front kept : List ℕ) (found : Option Written) → sheet_of body ≡ Some (Last, from, bytes) → Stand kept (front ++ bytes) → IsBytes kept → IsBytes front → IsBytes bytes → found ≡ shown_alone place (effect_at kept) → Sees (code.Told found) (next_sight front place (sheet_on state))
  next_last front kept found is stand small small' small'' shows =
      subst (λ (s : Sight). Sees (code.Told found) s)
      (sym (ap (λ (s : PageState). next_sight front place (sheet_on s)) gated ∙ ap (λ (o : Option Sheet). next_sight front place o) is))
      (shows ∙ stand_shown place kept (front ++ bytes) small (IsBytes-append front bytes small' small'') stand)

-- these pieces are kept, and the pages from this one on show the rest
pub record Looking (told : Type 0) (reads : Image) (last : Option (ℕ × List ℕ)) (place : Place) (page : ℕ) (kept : List ℕ) : Type 0 where
  pub pieces : List ℕ
  pub stand : Stand kept pieces
  pub small : IsBytes pieces
  pub at : ℕ
  pub behind : at + 1 ≡ page
  pub bytes : List ℕ
  pub before : Option (List ℕ)
  pub read : last ≡ Some (at, bytes)
  pub stands : StandsBehind place at before
  pub sees : sight_of place before (state_of bytes) ≡ Due pieces
  pub shows : told → shown_in reads place ≡ shown_behind pieces place (drop page reads)

-- a page tells
pub tells_here : (last : Option (ℕ × List ℕ)) (pages page : ℕ) (place : Place) (found : Option Written) (bytes : List ℕ) (before : Option (List ℕ)) → last ≡ Some (page, bytes) → StandsBehind place page before → sight_of place before (state_of bytes) ≡ Told found → LastTells last pages page place found
tells_here last pages page place found bytes before read stands sees = record { bytes = bytes; before = before; read = read; stands = stands; tells = subst (λ (s : Sight). Tells pages page found s) (sym sees) refl }

module _ (told : Type 0) (reads : Image) (place : Place) (state : PageState) (page : ℕ) where
  -- the place's page tells
  pub first_told : (found : Option Written) → state ≡ state_of (page_of reads place.page) → first_sight place (sheet_on state) ≡ Told found → found ≡ shown_in reads place
  first_told found is sees = sym (ap (λ (s : PageState). sight_then (λ pieces. shown_behind pieces place (drop (place.page + 1) reads)) (first_sight place (sheet_on s))) (sym is) ∙ ap (λ (s : Sight). sight_then (λ pieces. shown_behind pieces place (drop (place.page + 1) reads)) s) sees)

  first_due : (pieces : List ℕ) → state ≡ state_of (page_of reads place.page) → first_sight place (sheet_on state) ≡ Due pieces → shown_in reads place ≡ shown_behind pieces place (drop (place.page + 1) reads)
  first_due pieces is sees = ap (λ (s : PageState). sight_then (λ pieces. shown_behind pieces place (drop (place.page + 1) reads)) (first_sight place (sheet_on s))) (sym is) ∙ ap (λ (s : Sight). sight_then (λ pieces. shown_behind pieces place (drop (place.page + 1) reads)) s) sees

  pub looking_first : (last : Option (ℕ × List ℕ)) (bytes : List ℕ) (kept : Vec ℕ Global) → last ≡ Some (place.page, bytes) → state ≡ state_of bytes → (told → state ≡ state_of (page_of reads place.page)) → Sees (code.Due kept) (first_sight place (sheet_on state)) → Looking told reads last place (place.page + 1) kept.items
  looking_first last bytes kept read here found sees =
      let d = due_is (first_sight place (sheet_on state)) kept sees in
      record {
        pieces = d.0;
        stand = d.2;
        small = d.3;
        at = place.page;
        behind = refl;
        bytes = bytes;
        before = None;
        read = read;
        stands = refl;
        sees = ap (λ (s : PageState). first_sight place (sheet_on s)) (sym here) ∙ d.1;
        shows = λ t. first_due d.0 (found t) d.1;
      }

  module _ (kept : List ℕ) (last last' : Option (ℕ × List ℕ)) (looking : Looking told reads last place page kept) (bytes : List ℕ) (read : last' ≡ Some (page, bytes)) (here : state ≡ state_of bytes) where
    after : place.page < page
    after = behind_place looking.before looking.stands
      where
        behind_place : (before : Option (List ℕ)) → StandsBehind place looking.at before → place.page < page
        behind_place None is = omega (arith, is, looking.behind)
        behind_place (Some pieces) is = omega (arith, is, looking.behind)

    step : page < length reads → state ≡ state_of (page_of reads page) → shown_behind looking.pieces place (drop page reads) ≡ sight_then (λ more. shown_behind more place (drop (page + 1) reads)) (next_sight looking.pieces place (sheet_on state))
    step within is =
        ap (λ (l : Image). shown_behind looking.pieces place l) (drop_more reads page [] within)
        ∙ ap (λ (s : PageState). sight_then (λ more. shown_behind more place (drop (page + 1) reads)) (next_sight looking.pieces place (sheet_on s))) (sym is)

    -- a page behind it tells
    pub next_told : (found : Option Written) → told → page < length reads → state ≡ state_of (page_of reads page) → next_sight looking.pieces place (sheet_on state) ≡ Told found → found ≡ shown_in reads place
    next_told found t within is sees = sym (looking.shows t ∙ step within is ∙ ap (λ (s : Sight). sight_then (λ more. shown_behind more place (drop (page + 1) reads)) s) sees)

    pub next_tells : (pages : ℕ) (found : Option Written) → next_sight looking.pieces place (sheet_on state) ≡ Told found → LastTells last' pages page place found
    next_tells pages found sees = tells_here last' pages page place found bytes (Some looking.pieces) read after (ap (λ (s : PageState). next_sight looking.pieces place (sheet_on s)) (sym here) ∙ sees)

    pub looking_next : (more : Vec ℕ Global) → (told → page < length reads) → (told → state ≡ state_of (page_of reads page)) → Sees (code.Due more) (next_sight looking.pieces place (sheet_on state)) → Looking told reads last' place (page + 1) more.items
    looking_next more within found sees =
        let d = due_is (next_sight looking.pieces place (sheet_on state)) more sees in
        record {
          pieces = d.0;
          stand = d.2;
          small = d.3;
          at = page;
          behind = refl;
          bytes = bytes;
          before = Some looking.pieces;
          read = read;
          stands = after;
          sees = ap (λ (s : PageState). next_sight looking.pieces place (sheet_on s)) (sym here) ∙ d.1;
          shows = λ t. looking.shows t ∙ step (within t) (found t) ∙ ap (λ (s : Sight). sight_then (λ m. shown_behind m place (drop (page + 1) reads)) s) d.1;
        }

-- no page is left
pub none_left : (told : Type 0) (reads : Image) (last : Option (ℕ × List ℕ)) (place : Place) (page : ℕ) (kept : List ℕ) (pages : ℕ) → pages ≤ page → Looking told reads last place page kept → (told → length reads ≡ pages) → told → None ≡ shown_in reads place
none_left told reads last place page kept pages over looking size t =
    sym (looking.shows t ∙ ap (λ (l : Image). shown_behind looking.pieces place l) (drop_all page reads (let s = size t in omega (arith, s, over))))
