-- What a medium in memory may leave after one more event.
use Rattle.medium_port.proofs.Names.{◌≡◌, ◌⊎◌, inl, inr, ⊎_elim, ℕ, ◌+◌, ◌-◌, ◌≤◌, ◌<◌, List, [], ◌∷◌, ◌++◌, length, take, drop, get_or, refl, sym, ◌∙◌, ap, subst, arith, length-append, length-take, length-drop, zero, suc, Option, Some, None, IfSome, replicate, cases_eq, cases_lt, set-set, set-get_or, get_or-take, get_or-drop, length-replicate, Image, IsImage, page_of, byte_of, splice, put_bytes, Torn, Event, Wrote, Synced, Reopened, Stop, torn_bytes, Span, OutsideSpan, Outside, Among, spans_of, damaged, Disk, after, replay, MayLeave, SpanFits, SpansFit, IsSound, reads_left, stage_of, stages_on, only_last}
use Rattle.medium_port.specs.Moment.{Stage, Goes, EitherSide}
use Rattle.medium_port.proofs.Pages.{small_append, small_take, small_drop, small_replicate, splice_front, splice_back, splice_size, page_put, image_put, byte_outside, byte_inside}
use Rattle.medium_port.proofs.Blanks.{same_image}

pub torn_self : (page at n : ℕ) (c : Image) → Torn page at n c c
torn_self page at n c = record { bytes = page_of c page; image = sym (set-get_or c page []); front = refl; back = refl; size = refl }

pub replay-push : (d : Disk) (es : List Event) (e : Event) → replay d (es ++ e ∷ []) ≡ after (replay d es) e
replay-push d [] e = refl
replay-push d (x ∷ es) e = replay-push (after d x) es e

-- spans
pub spans-push : (es : List Event) (e : Event) → spans_of (es ++ e ∷ []) ≡ spans_of es ++ spans_of (e ∷ [])
spans-push [] e = refl
spans-push (Wrote page at bytes ∷ es) e = ap (λ (l : List Span). record { page = page; at = at; bytes = bytes } ∷ l) (spans-push es e)
spans-push (Synced ∷ es) e = spans-push es e
spans-push (Reopened stop ∷ es) e = spans-push es e

outside_front : (spans : List Span) (s : Span) (p k : ℕ) → Outside (spans ++ s ∷ []) p k → Outside spans p k
outside_front [] s p k o = tt
outside_front (x ∷ spans) s p k o = (o.0, outside_front spans s p k o.1)

outside_last : (spans : List Span) (s : Span) (p k : ℕ) → Outside (spans ++ s ∷ []) p k → OutsideSpan s p k
outside_last [] s p k o = o.0
outside_last (x ∷ spans) s p k o = outside_last spans s p k o.1

outside_push : (spans : List Span) (s : Span) (p k : ℕ) → Outside spans p k → OutsideSpan s p k → Outside (spans ++ s ∷ []) p k
outside_push [] s p k o last = (last, tt)
outside_push (x ∷ spans) s p k o last = (o.0, outside_push spans s p k o.1 last)

among_push : (spans : List Span) (s x : Span) → Among (spans ++ s ∷ []) x → Among spans x ⊎ (x ≡ s)
among_push [] s x among = ⊎_elim (λ same. inr same) (λ none. absurd none) among
among_push (y ∷ spans) s x among = ⊎_elim (λ same. inl (inl same)) (λ rest. ⊎_elim (λ front. inl (inr front)) (λ last. inr last) (among_push spans s x rest)) among

pub fit_push : (n : ℕ) (spans : List Span) (s : Span) → SpansFit n spans → SpanFits n s → SpansFit n (spans ++ s ∷ [])
fit_push n spans s fits last x among = ⊎_elim (λ front. fits x front) (λ same. subst (λ (y : Span). SpanFits n y) (sym same) last) (among_push spans s x among)

span_cases : (s : Span) (p k : ℕ) → OutsideSpan s p k ⊎ ((p ≡ s.page) × (s.at ≤ k) × (k < s.at + length s.bytes))
span_cases s p k = ⊎_elim
    (λ same. ⊎_elim (λ front. inl (λ e. inl front)) (λ low. ⊎_elim (λ high. inr (same, low, high)) (λ back. inl (λ e. inr back)) (cases_lt k (s.at + length s.bytes))) (cases_lt k s.at))
    (λ other. inl (λ e. absurd (other e)))
    (cases_eq p s.page)

-- what a stop leaves of a write
torn_size : (stop : Stop) (bytes : List ℕ) → length (torn_bytes stop bytes) ≡ length bytes
torn_size stop bytes = omega (arith, length-append (take stop.keep bytes) (replicate (length bytes - stop.keep) stop.fill), length-take stop.keep bytes, length-replicate (length bytes - stop.keep) stop.fill)

torn_small : (stop : Stop) (bytes : List ℕ) → stop.fill < 256 → ((k : ℕ) → get_or bytes k 0 < 256) → (k : ℕ) → get_or (torn_bytes stop bytes) k 0 < 256
torn_small stop bytes low small = small_append (take stop.keep bytes) (replicate (length bytes - stop.keep) stop.fill) (small_take stop.keep bytes small) (small_replicate (length bytes - stop.keep) stop.fill low)

module _ (n : ℕ) (stop : Stop) (low : stop.fill < 256) where
  pub damaged_image : (spans : List Span) (image : Image) → SpansFit n spans → IsImage n image → IsImage n (damaged stop spans image)
  damaged_image [] image fits is = is
  damaged_image (s ∷ spans) image fits is =
      let fit = fits s (inl refl) in
      damaged_image spans (put_bytes s.page s.at (torn_bytes stop s.bytes) image) (λ x among. fits x (inr among))
      (image_put n s.page s.at (torn_bytes stop s.bytes) fit.page (omega (arith, fit.range, torn_size stop s.bytes)) image is (torn_small stop s.bytes low fit.bytes))

  pub damaged_kept : (base : Image) (all spans : List Span) (image : Image) → SpansFit n spans → IsImage n image → ((p k : ℕ) → Outside all p k → Outside spans p k) → ((p k : ℕ) → Outside all p k → byte_of image p k ≡ byte_of base p k)
      → (p k : ℕ) → Outside all p k → byte_of (damaged stop spans image) p k ≡ byte_of base p k
  damaged_kept base all [] image fits is among kept = kept
  damaged_kept base all (s ∷ spans) image fits is among kept =
      let fit = fits s (inl refl) in
      let range : s.at + length (torn_bytes stop s.bytes) ≤ 4096 = omega (arith, fit.range, torn_size stop s.bytes) in
      damaged_kept base all spans (put_bytes s.page s.at (torn_bytes stop s.bytes) image) (λ x among. fits x (inr among))
      (image_put n s.page s.at (torn_bytes stop s.bytes) fit.page range image is (torn_small stop s.bytes low fit.bytes))
      (λ p k o. (among p k o).1)
      (λ p k o.
      byte_outside n s.page s.at (torn_bytes stop s.bytes) fit.page range image is p k (λ same. ⊎_elim (λ front. inl front) (λ back. inr (omega (arith, back, torn_size stop s.bytes))) ((among p k o).0 same))
      ∙ kept p k o)

-- soundness is kept
pub sound_write : (n : ℕ) (d : Disk) (page at : ℕ) (bytes : List ℕ) → IsSound n d → SpanFits n (record { page = page; at = at; bytes = bytes }) → IsSound n (after d (Wrote page at bytes))
sound_write n d page at bytes sound fit = record {
  reads = image_put n page at bytes fit.page fit.range d.reads sound.reads fit.bytes;
  base = sound.base;
  spans = fit_push n d.unsynced (record { page = page; at = at; bytes = bytes }) sound.spans fit;
  kept = λ p k o.
      byte_outside n page at bytes fit.page fit.range d.reads sound.reads p k (outside_last d.unsynced (record { page = page; at = at; bytes = bytes }) p k o)
      ∙ sound.kept p k (outside_front d.unsynced (record { page = page; at = at; bytes = bytes }) p k o);
}

pub sound_sync : (n : ℕ) (d : Disk) → IsSound n d → IsSound n (after d Synced)
sound_sync n d sound = record { reads = sound.reads; base = sound.reads; spans = λ x among. absurd among; kept = λ p k o. refl }

pub sound_reopen : (n : ℕ) (d : Disk) (stop : Option Stop) → IfSome stop (λ s. s.fill < 256) → IsSound n d → IsSound n (after d (Reopened stop))
sound_reopen n d None low sound = sound
sound_reopen n d (Some stop) low sound = record {
  reads = damaged_image n stop low d.unsynced d.reads sound.spans sound.reads;
  base = sound.base;
  spans = sound.spans;
  kept = damaged_kept n stop low d.base d.unsynced d.unsynced d.reads sound.spans sound.reads (λ p k o. o) sound.kept;
}

-- a write
pub write_crash : (n : ℕ) (d : Disk) (page at : ℕ) (bytes : List ℕ) (c : Image) → IsSound n d → page < n → at + length bytes ≤ 4096 → MayLeave n (after d (Wrote page at bytes)) c
    → (from : Image) × MayLeave n d from × Torn page at (length bytes) from c
write_crash n d page at bytes c sound within range left =
    let base = page_of d.base page in
    let old = take (length bytes) (drop at base) in
    let size : length old ≡ length bytes = omega (arith, length-take (length bytes) (drop at base), length-drop at base, sound.base.pages page within, range) in
    let fits : at + length old ≤ 4096 = omega (arith, size, range) in
    let span : Span = record { page = page; at = at; bytes = bytes } in
    let inside : at + length old ≤ length (page_of c page) = omega (arith, fits, left.shape.pages page within) in
    let there = page_put n page at old within fits c left.shape in (
      put_bytes page at old c,
      record {
        shape = image_put n page at old within fits c left.shape (small_take (length bytes) (drop at base) (small_drop at base (sound.base.bytes page)));
        kept = λ p k o. ⊎_elim
            (λ outside.
            byte_outside n page at old within fits c left.shape p k (λ same. ⊎_elim (λ front. inl front) (λ back. inr (omega (arith, back, size))) (outside same))
            ∙ left.kept p k (outside_push d.unsynced span p k o outside))
            (λ hit.
            let low : at ≤ k = hit.1 in
            let high : k < at + length bytes = hit.2 in
            let sum : at + (k - at) ≡ k = omega (arith, low) in
            ap (λ (j : ℕ). byte_of (put_bytes page at old c) j k) hit.0
            ∙ byte_inside n page at old within fits c left.shape k low (omega (arith, high, size))
            ∙ get_or-take (length bytes) (drop at base) (k - at) 0 (omega (arith, low, high))
            ∙ get_or-drop at base (k - at) 0
            ∙ ap (λ (j : ℕ). get_or base j 0) sum
            ∙ ap (λ (j : ℕ). byte_of d.base j k) (sym hit.0))
            (span_cases span p k);
      },
      record {
        bytes = page_of c page;
        image = sym (set-set c page (splice (page_of c page) at old) (page_of c page) ∙ set-get_or c page []);
        front = sym (ap (λ (l : List ℕ). take at l) there ∙ splice_front (page_of c page) at old inside);
        back = sym (ap (λ (j : ℕ). drop (at + j) (page_of (put_bytes page at old c) page)) (sym size) ∙ ap (λ (l : List ℕ). drop (at + length old) l) there ∙ splice_back (page_of c page) at old inside ∙ ap (λ (j : ℕ). drop (at + j) (page_of c page)) size);
        size = sym (ap (λ (l : List ℕ). length l) there ∙ splice_size (page_of c page) at old inside);
      },
    )

-- a sync
pub sync_only : (n : ℕ) (d : Disk) (c : Image) → IsSound n d → MayLeave n (after d Synced) c → c ≡ d.reads
sync_only n d c sound left = same_image n c d.reads left.shape sound.reads (λ p k. left.kept p k tt)

pub sync_crash : (n : ℕ) (d : Disk) (c : Image) → IsSound n d → MayLeave n (after d Synced) c → MayLeave n d c
sync_crash n d c sound left = reads_left n d c sound (sync_only n d c sound left)

-- a reopening
pub reopen_crash : (n : ℕ) (d : Disk) (stop : Option Stop) (c : Image) → MayLeave n (after d (Reopened stop)) c → MayLeave n d c
reopen_crash n d stop c left = record { shape = left.shape; kept = left.kept }

-- one more event is one more stage
pub stages-push : (n : ℕ) (older : List Stage) (d : Disk) (es : List Event) (e : Event) → stages_on n older d (es ++ e ∷ []) ≡ stage_of n (replay d (es ++ e ∷ [])) ∷ stages_on n older d es
stages-push n older d [] e = refl
stages-push n older d (x ∷ es) e = stages-push n (stage_of n d ∷ older) (after d x) es e

-- no event was kept
pub goes_still : (n : ℕ) (first : Disk) (es es' : List Event) → es' ≡ es → Goes (stages_on n [] first es) (stages_on n [] first es') (EitherSide (MayLeave n (replay first es)) (MayLeave n (replay first es')))
goes_still n first es es' same = record {
  more = [];
  grows = ap (λ (l : List Event). stages_on n [] first l) same;
  each = λ c left. ⊎_elim (λ none. absurd none) (λ was. inl (only_last n first es c was)) left;
}

module _ (n : ℕ) (first : Disk) (es es' : List Event) (e : Event) (pushed : es' ≡ es ++ e ∷ []) where
  pub goes_push : Goes (stages_on n [] first es) (stages_on n [] first es') (EitherSide (MayLeave n (replay first es)) (MayLeave n (replay first es')))
  goes_push = record {
    more = stage_of n (replay first es') ∷ [];
    grows = ap (λ (l : List Event). stages_on n [] first l) pushed ∙ stages-push n [] first es e ∙ ap (λ (l : List Event). stage_of n (replay first l) ∷ stages_on n [] first es) (sym pushed);
    each = λ c left. ⊎_elim (λ late. ⊎_elim (λ now. inr now) (λ none. absurd none) late) (λ was. inl (only_last n first es c was)) left;
  }

  -- the state after it
  pub now_push : replay first es' ≡ after (replay first es) e
  now_push = ap (λ (l : List Event). replay first l) pushed ∙ replay-push first es e

  pub left_push : (c : Image) → MayLeave n (replay first es') c → MayLeave n (after (replay first es) e) c
  left_push c left = subst (λ (d : Disk). MayLeave n d c) now_push left

  pub sound_push : IsSound n (after (replay first es) e) → IsSound n (replay first es')
  sound_push sound = subst (λ (d : Disk). IsSound n d) (sym now_push) sound

-- the spans from one event on
pub spans_step : (events : List Event) (i : ℕ) (d : Event) → i < length events → spans_of (drop i events) ≡ spans_of (get_or events i d ∷ []) ++ spans_of (drop (i + 1) events)
spans_step [] i d within = absurd (omega (arith, within))
spans_step (Wrote page at bytes ∷ events) zero d within = refl
spans_step (Synced ∷ events) zero d within = refl
spans_step (Reopened stop ∷ events) zero d within = refl
spans_step (e ∷ events) (suc i) d within = spans_step events i d (omega (arith, within)) ∙ ap (λ (k : ℕ). spans_of (get_or events i d ∷ []) ++ spans_of (drop k (e ∷ events))) (after i)
  where
    after : (k : ℕ) → suc (k + 1) ≡ suc k + 1
    after k = omega arith

pub among_left : (a b : List Span) (x : Span) → Among a x → Among (a ++ b) x
among_left [] b x among = absurd among
among_left (s ∷ a) b x among = ⊎_elim (λ same. inl same) (λ rest. inr (among_left a b x rest)) among

pub among_right : (a b : List Span) (x : Span) → Among b x → Among (a ++ b) x
among_right [] b x among = among
among_right (s ∷ a) b x among = inr (among_right a b x among)

pub damaged-append : (stop : Stop) (a b : List Span) (image : Image) → damaged stop (a ++ b) image ≡ damaged stop b (damaged stop a image)
damaged-append stop [] b image = refl
damaged-append stop (s ∷ a) b image = damaged-append stop a b (put_bytes s.page s.at (torn_bytes stop s.bytes) image)

-- writes within fewer pages are within more
pub fit_more : (n k : ℕ) (spans : List Span) → n ≤ k → SpansFit n spans → SpansFit k spans
fit_more n k spans le fit x among = let f = fit x among in let page = f.page in record { page = omega (arith, le, page); range = f.range; bytes = f.bytes }
