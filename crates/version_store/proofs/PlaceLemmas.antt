-- An entry of the log of an image stands at its place, and its back place is before it.
use Rattle.version_store.proofs.Names.{IsBytes, ◌>>=◌, byte_at, number_at, between, some_is, Piece, Whole, First, Middle, Last, u16_form, between_form, Image, IsImage, is_blank, state_of, PageState, Blank, Spoiled, Gated, ObjectId, Place, Written, effect_bytes, effect_at, effect_takes, Entry, Log, IsIn, put_object, is_object, last_put, back_of, back_in, same_back, shown, shown_alone, sheet_on, first_sight, next_sight, sight_then, shown_behind, shown_in, Sheet, piece_of, padded_at, new_sheet_at, sheet_of, place_before, place_alone, admitted, alone, log_at, content_of, held_more, held_ends, with_sheet, Reading, Going, Ended, Damaged, begun, next, scan, finish, going_or_damaged, log_or_none, log_of, effect_cons, ◌≡◌, inl, inr, ⊎_elim, ℕ, zero, suc, ◌+◌, ◌-◌, ◌*◌, ◌≤◌, ◌<◌, List, [], ◌∷◌, ◌++◌, length, get_or, take, drop, true, Option, Some, None, Result, Ok, Err, refl, sym, ◌∙◌, ap, subst, arith, length-append, length-drop, IfSome, nat_le, ◌==◌, w16, option_map, cases_Bool, cases_lt, cond-true, cond-false, le-leb, lt-ltb, drop_more, drop-drop, drop_at, take_at, take_all, take-append-le, get_or_append_left, get_or-append_right, front_at, IsBytes-drop, bind_some, chosen_then, byte_form, front_takes, IsBefore, number_of, is_back_before, old_sheet_at}
use Rattle.page_form.proofs.DecisionLaws.{chosen}
use Rattle.page_form.proofs.LogLemmas.{last_from-push}
use Rattle.page_form.proofs.ReadLemmas.{IsBytes-append, same_back-is}
use Rattle.version_store.proofs.ScanLemmas.{scan_more}

-- the offset of a page's first byte, and its bytes
abbrev pub IsSheet : Sheet → Type 0
IsSheet (piece, from, bytes) = (4 ≤ from) × IsBytes bytes × (from + length bytes ≤ 4096)

padded_is : (size : ℕ) (bytes texts : List ℕ) → IsBytes bytes → padded_at size bytes ≡ Some texts → IsBytes texts × (length texts ≡ size)
unfolding padded_at
padded_is size bytes texts small is =
    let front = bind_some (front_at size bytes) _ texts is in
    let front_is = front_takes size bytes front.0.0 front.0.1 small front.1 in
    let zeros = chosen_then (is_blank front.0.1) front.0.0 texts front.2 in
    (subst IsBytes zeros.1 front_is.2, ap (λ (l : List ℕ). length l) (sym zeros.1) ∙ front_is.1)

old_sheet-is : (bytes : List ℕ) (sheet : Sheet) → IsBytes bytes → old_sheet_at bytes ≡ Some sheet → IsSheet sheet
unfolding old_sheet_at
old_sheet-is bytes sheet small is =
    let size = bind_some (between 1 4092 (number_at w16 bytes)) _ sheet is in
    let size_is = (between_form 1 4092 u16_form).takes bytes size.0.0 size.0.1 small size.1 in
    let texts = bind_some (padded_at size.0.0 size.0.1) _ sheet size.2 in
    let texts_is = padded_is size.0.0 size.0.1 texts.0 size_is.0.rest_is_bytes texts.1 in
    subst IsSheet (some_is (Whole, 4, texts.0) sheet texts.2) (omega arith, texts_is.0, omega (arith, texts_is.1, size_is.1.2))

new_sheet-is : (bytes : List ℕ) (sheet : Sheet) → IsBytes bytes → new_sheet_at bytes ≡ Some sheet → IsSheet sheet
unfolding new_sheet_at
new_sheet-is bytes sheet small is =
    let size = bind_some (between 1 4091 (number_at w16 bytes)) _ sheet is in
    let size_is = (between_form 1 4091 u16_form).takes bytes size.0.0 size.0.1 small size.1 in
    let mark = bind_some (byte_at size.0.1) _ sheet size.2 in
    let mark_is = byte_form.takes size.0.1 mark.0.0 mark.0.1 size_is.0.rest_is_bytes mark.1 in
    let piece = bind_some (piece_of size.0.0 mark.0.0) _ sheet mark.2 in
    let texts = bind_some (padded_at size.0.0 mark.0.1) _ sheet piece.2 in
    let texts_is = padded_is size.0.0 mark.0.1 texts.0 mark_is.0.rest_is_bytes texts.1 in
    subst IsSheet (some_is (piece.0, 5, texts.0) sheet texts.2) (omega arith, texts_is.0, omega (arith, texts_is.1, size_is.1.2))

pub sheet_of-is : (body : List ℕ) (sheet : Sheet) → IsBytes body → sheet_of body ≡ Some sheet → IsSheet sheet
unfolding sheet_of
sheet_of-is body sheet small is =
    let format = bind_some (byte_at body) _ sheet is in
    let format_is = byte_form.takes body format.0.0 format.0.1 small format.1 in
    elim (chosen (format.0.0 == 1) (old_sheet_at format.0.1) _ (Some sheet) format.2) [
      | inl old ↦ old_sheet-is format.0.1 sheet format_is.0.rest_is_bytes old.1
      | inr other ↦ elim (chosen (format.0.0 == 2) (new_sheet_at format.0.1) None (Some sheet) other.1) [
        | inl new ↦ new_sheet-is format.0.1 sheet format_is.0.rest_is_bytes new.1
        | inr none ↦ absurd (let n = none.1 in cc)
      ]
    ]

gated_body : (page body : List ℕ) → state_of page ≡ Gated body → body ≡ drop 1 page
gated_body page body is = elim (cases_Bool (is_blank page)) [
  | inl all_zero ↦ absurd (cc (sym is ∙ cond-true (is_blank page) _ _ all_zero))
  | inr some_set ↦ elim (cases_Bool (get_or page 0 0 == 165)) [
    | inl gate ↦ cc (sym is ∙ cond-false (is_blank page) _ _ some_set ∙ cond-true (get_or page 0 0 == 165) _ _ gate)
    | inr other ↦ absurd (cc (sym is ∙ cond-false (is_blank page) _ _ some_set ∙ cond-false (get_or page 0 0 == 165) _ _ other))
  ]
]

module _ (image : Image) where
  -- the entry behind this log has its object's last place for back place, which is before it, and the image shows it
  pub record Placed (front : Log) (e : Entry) : Type 0 where
    pub back : e.back ≡ back_in front e.effect
    pub before : IfSome e.back (λ (b : Place). IsBefore b e.place)
    pub within : e.place.page < length image
    pub shows : shown_in image e.place ≡ Some (e.effect, e.back)

  -- all entries of the log are so, and its last places are below this number
  pub record Sound (log : Log) (bound : ℕ) : Type 0 where
    pub each : (e : Entry) (i : ℕ) → IsIn log e i → Placed (take i log) e
    pub lasts : (object : ObjectId) (p : Place) → last_put log object ≡ Some p → number_of p < bound

  sound_none : (bound : ℕ) → Sound [] bound
  sound_none bound = record { each = λ e i there. absurd (omega (arith, there.0)); lasts = λ object p is. absurd (cc is) }

  sound_wider : (log : Log) (a b : ℕ) → a ≤ b → Sound log a → Sound log b
  sound_wider log a b le was = record { each = was.each; lasts = λ object p is. (let low = was.lasts object p is in omega (arith, low, le)) }

  sound_push : (log : Log) (e : Entry) (a b : ℕ) → Sound log a → a ≤ number_of e.place → number_of e.place < b → Placed log e → Sound (log ++ e ∷ []) b
  sound_push log e a b was low high placed = record { each = each; lasts = lasts }
    where
      each : (x : Entry) (i : ℕ) → IsIn (log ++ e ∷ []) x i → Placed (take i (log ++ e ∷ [])) x
      each x i there = ⊎_elim
          (λ front. subst (λ (l : Log). Placed l x) (sym (take-append-le i log (e ∷ []) (omega (arith, front)))) (was.each x i (front, sym (get_or_append_left log (e ∷ []) x i front) ∙ there.1)))
          (λ back.
          let at : i ≡ length log = omega (arith, there.0, length-append log (e ∷ []), back) in
          let same : e ≡ x = ap (λ (k : ℕ). get_or (e ∷ []) k x) (first at) ∙ sym (get_or-append_right log (e ∷ []) (length log) i x refl back) ∙ there.1 in
          subst (λ (l : Log). Placed l x) (sym (ap (λ (k : ℕ). take k (log ++ e ∷ [])) at ∙ take_at log (e ∷ []) (length log) refl)) (subst (λ (y : Entry). Placed log y) same placed))
          (cases_lt i (length log))
        where
          first : i ≡ length log → 0 ≡ i - length log
          first at = omega (arith, at)

      lasts : (object : ObjectId) (p : Place) → last_put (log ++ e ∷ []) object ≡ Some p → number_of p < b
      lasts object p is = elim (cases_Bool (is_object (put_object e.effect) object)) [
        | inl here ↦ subst (λ (q : Place). number_of q < b) (some_is e.place p (sym (cond-true (is_object (put_object e.effect) object) (Some e.place) (last_put log object) here) ∙ sym (last_from-push None log e object) ∙ is)) high
        | inr other ↦
            let below = was.lasts object p (sym (cond-false (is_object (put_object e.effect) object) (Some e.place) (last_put log object) other) ∙ sym (last_from-push None log e object) ∙ is) in
            omega (arith, below, low, high)
      ]

  back_below : (log : Log) (bound : ℕ) → Sound log bound → (o : Option ObjectId) (back : Option Place) → back ≡ back_of log o → IfSome back (λ (b : Place). number_of b < bound)
  back_below log bound sound o None is = tt
  back_below log bound sound None (Some b) is = absurd (cc is)
  back_below log bound sound (Some object) (Some b) is = sound.lasts object b (sym is)

  back_at : (back : Option Place) (bound : ℕ) (place : Place) → bound ≡ number_of place → IfSome back (λ (b : Place). number_of b < bound) → (is_back_before back place ≡ true) × IfSome back (λ (b : Place). IsBefore b place)
  back_at None bound place is below = (refl, tt)
  back_at (Some b) bound place is below = (lt-ltb (number_of b) (number_of place) (omega (arith, below, is)), omega (arith, below, is))

  module _ (n : ℕ) (within : n < length image) (body : List ℕ) (from : ℕ) (texts : List ℕ) (gated : state_of (get_or image n []) ≡ Gated body) (sheet_is : sheet_of body ≡ Some (Whole, from, texts)) (small : IsBytes texts) (most : from + length texts ≤ 4096) where
    -- the effect that begins behind so many bytes
    shows_at : (k : ℕ) (found : Written × List ℕ) → effect_at (drop k texts) ≡ Ok found → is_back_before found.0.1 (record { page = n; offset = from + k }) ≡ true → shown_in image (record { page = n; offset = from + k }) ≡ Some found.0
    shows_at k found is before =
        ap (λ (s : PageState). sight_then (λ pieces. shown_behind pieces (record { page = n; offset = from + k }) (drop (n + 1) image)) (first_sight (record { page = n; offset = from + k }) (sheet_on s))) gated
        ∙ ap (λ (o : Option Sheet). sight_then (λ pieces. shown_behind pieces (record { page = n; offset = from + k }) (drop (n + 1) image)) (first_sight (record { page = n; offset = from + k }) o)) sheet_is
        ∙ cond-true (nat_le from (from + k)) _ _ (le-leb from (from + k) (omega arith))
        ∙ ap (λ (j : ℕ). shown (record { page = n; offset = from + k }) (effect_at (drop j texts))) (back_to k)
        ∙ ap (λ (r : Result (Written × List ℕ) ℕ). shown (record { page = n; offset = from + k }) r) is
        ∙ cond-true (is_back_before found.0.1 (record { page = n; offset = from + k })) _ _ before
      where
        back_to : (j : ℕ) → from + j - from ≡ j
        back_to j = omega arith

    -- one effect more
    effect_sound : (log more : Log) (bytes : List ℕ) (k : ℕ) (found : Written × List ℕ) (bound : ℕ) → bytes ≡ drop k texts → k ≤ length texts → effect_at bytes ≡ Ok found → Sound log (65536 * n + from + k)
        → ((log' : Log) (k' : ℕ) → found.1 ≡ drop k' texts → k' ≤ length texts → Sound log' (65536 * n + from + k') → log' ≡ log ++ record { effect = found.0.0; place = place_before n (from + length texts) (length bytes); back = found.0.1 } ∷ [] → Sound more bound)
        → same_back found.0.1 (back_in log found.0.0) ≡ true → Sound more bound
    effect_sound log more bytes k found bound is low read sound again same =
        let t = effect_takes bytes found.0 found.1 (subst IsBytes (sym is) (IsBytes-drop k texts small)) read in
        let first = effect_cons found.0 in
        let len = length (effect_bytes found.0) in
        let some : 1 ≤ len = omega (arith, ap (λ (l : List ℕ). length l) first.2) in
        let sizes : length bytes ≡ len + length found.1 = ap (λ (l : List ℕ). length l) t.0.parts ∙ length-append (effect_bytes found.0) found.1 in
        let left : length bytes ≡ length texts - k = ap (λ (l : List ℕ). length l) is ∙ length-drop k texts in
        let rest : found.1 ≡ drop (k + len) texts = sym (drop_at (effect_bytes found.0) found.1 len refl) ∙ ap (drop len) (sym t.0.parts ∙ is) ∙ drop-drop len k texts in
        let place : place_before n (from + length texts) (length bytes) ≡ record { page = n; offset = from + k } = ap (λ (o : ℕ). record { page = n; offset = o }) (offset (length bytes) left) in
        let back = same_back-is found.0.1 (back_in log found.0.0) same in
        let below = back_at found.0.1 (65536 * n + from + k) (record { page = n; offset = from + k }) (omega arith) (back_below log (65536 * n + from + k) sound (put_object found.0.0) found.0.1 back) in
        again
        (log ++ record { effect = found.0.0; place = place_before n (from + length texts) (length bytes); back = found.0.1 } ∷ [])
        (k + len) rest (omega (arith, sizes, left, low))
        (subst (λ (p : Place). Sound (log ++ record { effect = found.0.0; place = p; back = found.0.1 } ∷ []) (65536 * n + from + (k + len))) (sym place)
        (sound_push log (record { effect = found.0.0; place = record { page = n; offset = from + k }; back = found.0.1 }) (65536 * n + from + k) (65536 * n + from + (k + len)) sound (omega arith) (omega (arith, some))
        (record { back = back; before = below.1; within = within; shows = shows_at k found (ap effect_at (sym is) ∙ read) below.0 })))
        refl
      where
        offset : (size : ℕ) → size ≡ length texts - k → from + length texts - size ≡ from + k
        offset size at = omega (arith, at, low)

    page_step : (m : ℕ) (log more : Log) (bytes : List ℕ) (k : ℕ) (bound : ℕ) → bytes ≡ drop k texts → k ≤ length texts → Sound log (65536 * n + from + k)
        → ((log' : Log) (rest : List ℕ) (k' : ℕ) → rest ≡ drop k' texts → k' ≤ length texts → Sound log' (65536 * n + from + k') → log_at m log' n (from + length texts) rest ≡ Some more → Sound more bound)
        → (read : Result (Written × List ℕ) ℕ) → effect_at bytes ≡ read → (admitted log (place_before n (from + length texts) (length bytes)) read >>= λ end. log_at m end.0 n (from + length texts) end.1) ≡ Some more → Sound more bound
    page_step m log more bytes k bound is low sound again (Err at) read goes = absurd (cc goes)
    page_step m log more bytes k bound is low sound again (Ok found) read goes = elim (cases_Bool (same_back found.0.1 (back_in log found.0.0))) [
      | inl same ↦ effect_sound log more bytes k found bound is low read sound
          (λ log' k' rest low' sound' log_is. again log' found.1 k' rest low' sound'
          (ap (λ (l : Log). log_at m l n (from + length texts) found.1) log_is
          ∙ sym (ap (λ (o : Option (Log × List ℕ)). o >>= λ end. log_at m end.0 n (from + length texts) end.1) (cond-true (same_back found.0.1 (back_in log found.0.0)) _ _ same)) ∙ goes)) same
      | inr other ↦ absurd (cc (sym (ap (λ (o : Option (Log × List ℕ)). o >>= λ end. log_at m end.0 n (from + length texts) end.1) (cond-false (same_back found.0.1 (back_in log found.0.0)) _ _ other)) ∙ goes))
    ]

    page_ends : (log more : Log) (k : ℕ) → k ≤ length texts → Sound log (65536 * n + from + k) → Some log ≡ Some more → Sound more (65536 * (n + 1))
    page_ends log more k low sound is = subst (λ (l : Log). Sound l (65536 * (n + 1))) (some_is log more is) (sound_wider log (65536 * n + from + k) (65536 * (n + 1)) (omega (arith, low, most)) sound)

    page_sound : (m : ℕ) (log more : Log) (bytes : List ℕ) (k : ℕ) → bytes ≡ drop k texts → k ≤ length texts → Sound log (65536 * n + from + k) → log_at m log n (from + length texts) bytes ≡ Some more → Sound more (65536 * (n + 1))
    page_sound zero log more [] k is low sound goes = page_ends log more k low sound goes
    page_sound zero log more (b ∷ bytes) k is low sound goes = absurd (cc goes)
    page_sound (suc m) log more [] k is low sound goes = page_ends log more k low sound goes
    page_sound (suc m) log more (b ∷ bytes) k is low sound goes =
        page_step m log more (b ∷ bytes) k (65536 * (n + 1)) is low sound (λ log' rest k' is' low' sound' goes'. page_sound m log' more rest k' is' low' sound' goes') (effect_at (b ∷ bytes)) refl goes

  -- ---- an effect in pieces

  -- what is shown at the place of an effect that was begun is what the pages from here on show behind its pieces
  abbrev HeldSound : ℕ → Log → Option (ℕ × List ℕ) → Type 0
  HeldSound n log None = Unit {0}
  HeldSound n log (Some (first, pieces)) = (first < n) × Sound log (65536 * first) × (shown_in image (place_alone first) ≡ shown_behind pieces (place_alone first) (drop n image)) × IsBytes pieces

  module _ (n : ℕ) (within : n < length image) (body : List ℕ) (from : ℕ) (bytes : List ℕ) (gated : state_of (get_or image n []) ≡ Gated body) where
    -- what the page shows behind pieces
    behind_here : (piece : Piece) (pieces : List ℕ) (place : Place) → sheet_of body ≡ Some (piece, from, bytes) → shown_behind pieces place (drop n image) ≡ sight_then (λ more. shown_behind more place (drop (n + 1) image)) (next_sight pieces place (Some (piece, from, bytes)))
    behind_here piece pieces place sheet_is =
        ap (λ (l : Image). shown_behind pieces place l) (drop_more image n [] within)
        ∙ ap (λ (s : PageState). sight_then (λ more. shown_behind more place (drop (n + 1) image)) (next_sight pieces place (sheet_on s))) gated
        ∙ ap (λ (o : Option Sheet). sight_then (λ more. shown_behind more place (drop (n + 1) image)) (next_sight pieces place o)) sheet_is

    first_here : sheet_of body ≡ Some (First, from, bytes) → shown_in image (place_alone n) ≡ shown_behind bytes (place_alone n) (drop (n + 1) image)
    first_here sheet_is =
        ap (λ (s : PageState). sight_then (λ pieces. shown_behind pieces (place_alone n) (drop (n + 1) image)) (first_sight (place_alone n) (sheet_on s))) gated
        ∙ ap (λ (o : Option Sheet). sight_then (λ pieces. shown_behind pieces (place_alone n) (drop (n + 1) image)) (first_sight (place_alone n) o)) sheet_is

    -- the effect stands whole
    alone_sound : (log : Log) (first : ℕ) (pieces : List ℕ) (w : Written) → sheet_of body ≡ Some (Last, from, bytes) → HeldSound n log (Some (first, pieces)) → effect_at (pieces ++ bytes) ≡ Ok (w, []) → same_back w.1 (back_in log w.0) ≡ true
        → Sound (log ++ record { effect = w.0; place = place_alone first; back = w.1 } ∷ []) (65536 * (n + 1))
    alone_sound log first pieces w sheet_is held read same =
        let place = place_alone first in
        let back = same_back-is w.1 (back_in log w.0) same in
        let wider = sound_wider log (65536 * first) (65536 * first + 5) (omega arith) held.1 in
        let below = back_at w.1 (65536 * first + 5) place (omega arith) (back_below log (65536 * first + 5) wider (put_object w.0) w.1 back) in
        let shows : shown_in image place ≡ Some w =
        held.2 ∙ behind_here Last pieces place sheet_is
        ∙ ap (λ (r : Result (Written × List ℕ) ℕ). shown_alone place r) read
        ∙ cond-true (is_back_before w.1 place) _ _ below.0 in
        sound_push log (record { effect = w.0; place = place; back = w.1 }) (65536 * first + 5) (65536 * (n + 1)) wider (omega arith) (omega (arith, held.0))
        (record { back = back; before = below.1; within = omega (arith, held.0, within); shows = shows })

  -- ---- pages in order

  abbrev SoundReading : ℕ → Reading → Type 0
  SoundReading n (Going c) = Sound c.log (65536 * n) × HeldSound n c.log c.held
  SoundReading n (Ended c) = Sound c.log (65536 * n)
  SoundReading n (Damaged page) = Unit {0}

  sound_next : (n size : ℕ) (reading : Reading) (s : PageState) → IsImage size image → n < length image → state_of (get_or image n []) ≡ s → SoundReading n reading → SoundReading (n + 1) (next reading n s)
  sound_next n size (Going c) Blank shape within is was = sound_wider c.log (65536 * n) (65536 * (n + 1)) (omega arith) was.0
  sound_next n size (Going c) Spoiled shape within is was = (sound_wider c.log (65536 * n) (65536 * (n + 1)) (omega arith) was.0, tt)
  sound_next n size (Going c) (Gated body) shape within is was = gated (sheet_of body) refl
    where
      bytes : IsBytes body
      bytes = subst IsBytes (sym (gated_body (get_or image n []) body is)) (IsBytes-drop 1 (get_or image n []) (λ i. shape.bytes n i))

      wider : Sound c.log (65536 * (n + 1))
      wider = sound_wider c.log (65536 * n) (65536 * (n + 1)) (omega arith) was.0

      stands : (from : ℕ) (texts : List ℕ) → sheet_of body ≡ Some (Whole, from, texts) → (o : Option Log) → log_at (length texts) c.log n (from + length texts) texts ≡ o → SoundReading (n + 1) (going_or_damaged n (option_map content_of o))
      stands from texts sheet_is None goes = tt
      stands from texts sheet_is (Some more) goes =
          let facts = sheet_of-is body (Whole, from, texts) bytes sheet_is in
          (page_sound n within body from texts is sheet_is facts.1 facts.2 (length texts) c.log more texts 0 refl (omega arith) (sound_wider c.log (65536 * n) (65536 * n + from + 0) (omega arith) was.0) goes, tt)

      middle : (from : ℕ) (piece : List ℕ) → sheet_of body ≡ Some (Middle, from, piece) → (held : Option (ℕ × List ℕ)) → HeldSound n c.log held → SoundReading (n + 1) (going_or_damaged n (held_more c.log held piece))
      middle from piece sheet_is None held = tt
      middle from piece sheet_is (Some (first, pieces)) held =
          let facts = sheet_of-is body (Middle, from, piece) bytes sheet_is in (
            wider,
            (omega (arith, held.0), held.1, held.2 ∙ behind_here n within body from piece is Middle pieces (place_alone first) sheet_is, IsBytes-append pieces piece held.3 facts.1),
          )

      ends : (from : ℕ) (piece : List ℕ) → sheet_of body ≡ Some (Last, from, piece) → (first : ℕ) (pieces : List ℕ) → HeldSound n c.log (Some (first, pieces)) → (r : Result (Written × List ℕ) ℕ) → effect_at (pieces ++ piece) ≡ r
          → SoundReading (n + 1) (going_or_damaged n (option_map content_of (alone (admitted c.log (place_alone first) r))))
      ends from piece sheet_is first pieces held (Err at) read = tt
      ends from piece sheet_is first pieces held (Ok (w, [])) read = elim (cases_Bool (same_back w.1 (back_in c.log w.0))) [
        | inl same ↦
            subst (λ (o : Option (Log × List ℕ)). SoundReading (n + 1) (going_or_damaged n (option_map content_of (alone o)))) (sym (cond-true (same_back w.1 (back_in c.log w.0)) _ _ same))
            (alone_sound n within body from piece is c.log first pieces w sheet_is held read same, tt)
        | inr other ↦ subst (λ (o : Option (Log × List ℕ)). SoundReading (n + 1) (going_or_damaged n (option_map content_of (alone o)))) (sym (cond-false (same_back w.1 (back_in c.log w.0)) _ _ other)) tt
      ]
      ends from piece sheet_is first pieces held (Ok (w, b ∷ rest)) read = elim (cases_Bool (same_back w.1 (back_in c.log w.0))) [
        | inl same ↦ subst (λ (o : Option (Log × List ℕ)). SoundReading (n + 1) (going_or_damaged n (option_map content_of (alone o)))) (sym (cond-true (same_back w.1 (back_in c.log w.0)) _ _ same)) tt
        | inr other ↦ subst (λ (o : Option (Log × List ℕ)). SoundReading (n + 1) (going_or_damaged n (option_map content_of (alone o)))) (sym (cond-false (same_back w.1 (back_in c.log w.0)) _ _ other)) tt
      ]

      last : (from : ℕ) (piece : List ℕ) → sheet_of body ≡ Some (Last, from, piece) → (held : Option (ℕ × List ℕ)) → HeldSound n c.log held → SoundReading (n + 1) (going_or_damaged n (held_ends c.log held piece))
      last from piece sheet_is None held = tt
      last from piece sheet_is (Some (first, pieces)) held = ends from piece sheet_is first pieces held (effect_at (pieces ++ piece)) refl

      gated : (t : Option Sheet) → sheet_of body ≡ t → SoundReading (n + 1) (going_or_damaged n (with_sheet c n t))
      gated None sheet_is = tt
      gated (Some (Whole, from, texts)) sheet_is = stands from texts sheet_is (log_at (length texts) c.log n (from + length texts) texts) refl
      gated (Some (First, from, piece)) sheet_is =
          let facts = sheet_of-is body (First, from, piece) bytes sheet_is in
          (wider, (omega arith, was.0, first_here n within body from piece is sheet_is, facts.1))
      gated (Some (Middle, from, piece)) sheet_is = middle from piece sheet_is c.held was.1
      gated (Some (Last, from, piece)) sheet_is = last from piece sheet_is c.held was.1
  sound_next n size (Ended c) Blank shape within is was = sound_wider c.log (65536 * n) (65536 * (n + 1)) (omega arith) was
  sound_next n size (Ended c) Spoiled shape within is was = tt
  sound_next n size (Ended c) (Gated body) shape within is was = tt
  sound_next n size (Damaged page) s shape within is was = tt

  sound_scan : (size n : ℕ) → IsImage size image → n ≤ length image → SoundReading n (scan begun 0 (take n image))
  sound_scan size zero shape low = (sound_none (65536 * 0), tt)
  sound_scan size (suc n) shape low =
      subst (λ (k : ℕ). SoundReading k (scan begun 0 (take k image))) (add_one n)
      (subst (λ r. SoundReading (n + 1) r) (sym (scan_more image n (omega (arith, low)))) (sound_next n size (scan begun 0 (take n image)) (state_of (get_or image n [])) shape (omega (arith, low)) refl (sound_scan size n shape (omega (arith, low)))))
    where
      add_one : (k : ℕ) → k + 1 ≡ suc k
      add_one k = omega arith

  -- the log of the image
  pub log_sound : (size : ℕ) → IsImage size image → Sound (log_of image) (65536 * length image)
  log_sound size shape = done (scan begun 0 image) (subst (λ (l : Image). SoundReading (length image) (scan begun 0 l)) (take_all (length image) image (omega arith)) (sound_scan size (length image) shape (omega arith)))
    where
      done : (r : Reading) → SoundReading (length image) r → Sound (log_or_none (finish r)) (65536 * length image)
      done (Going c) sound = sound.0
      done (Ended c) sound = sound
      done (Damaged page) sound = sound_none (65536 * length image)
