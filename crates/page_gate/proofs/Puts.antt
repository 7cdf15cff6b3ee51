-- What a crash leaves while a body is put on a blank page.
use Rattle.page_gate.proofs.Names.{◌≡◌, inl, ℕ, ◌-◌, ◌≤◌, ◌<◌, List, [], ◌∷◌, ◌++◌, length, drop, true, sym, ◌∙◌, ap, arith, slice_set, replicate, get_or-set_same, set-set, set-get_or, Image, IsImage, page_of, splice, Written, Torn, is_blank, gated_page, PutStep}
use Rattle.page_gate.proofs.TornPages.{blank_state, not_gated, torn_body, torn_gate, staged_page, body_page}

module _ (n page : ℕ) (body : List ℕ) (within : page < n) (most : length body ≤ 4095) where
  -- nothing happened yet
  pub not_begun : (from : Image) → PutStep page body from from
  not_begun from = record {
    bytes = page_of from page;
    image = sym (set-get_or from page []);
    state = λ blank. inl (inl (blank_state (page_of from page) blank));
  }

  pub body_torn : (from c : Image) → IsImage n from → Torn page 1 (length body) from c → PutStep page body from c
  body_torn from c shape torn = record {
    bytes = torn.bytes;
    image = torn.image;
    state = λ blank. inl (torn_body torn.bytes (page_of from page) torn.front blank (let size = shape.pages page within in omega (arith, size)));
  }

  module _ (r : Image) (shape : IsImage n r) where
    at_page : (bytes : List ℕ) → page_of (slice_set r page bytes) page ≡ bytes
    at_page bytes = get_or-set_same r page bytes [] (omega (arith, within, shape.count))

    pub staged : (r1 : Image) → is_blank (page_of r page) ≡ true → Written page 1 body r r1 → r1 ≡ slice_set r page (staged_page body)
    staged r1 blank written = written ∙ ap (λ (b : List ℕ). slice_set r page b) (body_page (page_of r page) body blank (shape.pages page within) most)

    -- the body stands and the gate is closed
    pub is_staged : (c : Image) → c ≡ slice_set r page (staged_page body) → PutStep page body r c
    is_staged c is = record {
      bytes = staged_page body;
      image = is;
      state = λ blank. inl (not_gated 0 (body ++ replicate (4095 - length body) 0) (λ h. omega (arith, h)));
    }

    pub gated : (r2 : Image) → Written page 0 (165 ∷ []) (slice_set r page (staged_page body)) r2 → r2 ≡ slice_set r page (gated_page body)
    gated r2 written =
        written
        ∙ ap (λ (b : List ℕ). slice_set (slice_set r page (staged_page body)) page (splice b 0 (165 ∷ []))) (at_page (staged_page body))
        ∙ set-set r page (staged_page body) (gated_page body)

    pub gate_torn : (c : Image) → Torn page 0 1 (slice_set r page (staged_page body)) c → PutStep page body r c
    gate_torn c torn = record {
      bytes = torn.bytes;
      image = torn.image ∙ set-set r page (staged_page body) torn.bytes;
      state = λ blank. torn_gate torn.bytes body
          (torn.back ∙ ap (λ (l : List ℕ). drop 1 l) (at_page (staged_page body)))
          (let size = torn.size ∙ ap length (at_page (staged_page body)) in omega (arith, size));
    }
