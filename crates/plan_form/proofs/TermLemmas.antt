-- Act lines are read as they are written.
use Rattle.plan_form.proofs.Names.{◌≡◌, ℕ, ◌-◌, ◌<◌, ◌^◌, ◌⊎◌, inl, inr, List, [], ◌∷◌, ◌++◌, Option, Some, None, refl, sym, ap, ◌∙◌, subst, arith, append_assoc, append-nil, MatchOption, decimal, codes, is_ascii_digit, Stops, Terms, InRange, act_front, IsActLine, number_behind, clock_at, terms_at}
use Rattle.plan_form.proofs.NumberLemmas.{bind_some, bind_is, number_behind-written, number_behind-is, number_alone-written, number_alone-is}

-- an act line up to its number of tries, and what follows
abbrev said : Terms → List ℕ → List ℕ
said t rest =
    codes "act broker " ++ (decimal t.broker ++ (codes " home " ++ (decimal t.home ++ (codes " timeout " ++ (decimal t.timeout ++ (codes " tries " ++ (decimal t.tries ++ rest)))))))

past : (word digits rest more : List ℕ) → (word ++ (digits ++ rest)) ++ more ≡ word ++ (digits ++ (rest ++ more))
past word digits rest more = append_assoc word (digits ++ rest) more ∙ ap (λ z. word ++ z) (append_assoc digits rest more)

front-said : (t : Terms) (rest : List ℕ) → act_front t ++ rest ≡ said t rest
front-said t rest =
    past (codes "act broker ") (decimal t.broker) (codes " home " ++ (decimal t.home ++ (codes " timeout " ++ (decimal t.timeout ++ (codes " tries " ++ decimal t.tries))))) rest
    ∙ ap (λ z. codes "act broker " ++ (decimal t.broker ++ z)) (past (codes " home ") (decimal t.home) (codes " timeout " ++ (decimal t.timeout ++ (codes " tries " ++ decimal t.tries))) rest
    ∙ ap (λ z. codes " home " ++ (decimal t.home ++ z)) (past (codes " timeout ") (decimal t.timeout) (codes " tries " ++ decimal t.tries) rest
    ∙ ap (λ z. codes " timeout " ++ (decimal t.timeout ++ z)) (append_assoc (codes " tries ") (decimal t.tries) rest)))

-- ---- what is written is read

clock-written : (n : ℕ) → InRange (2 ^ 40 - 1) n → clock_at (codes " clock " ++ decimal n) ≡ Some n
clock-written n range = number_alone-written (codes " clock ") (2 ^ 40 - 1) n (omega arith) range

said_is_read : (repositories brokers : ℕ) (t : Terms) (rest : List ℕ) → repositories < 2 ^ 63 → brokers < 2 ^ 63
    → InRange brokers t.broker → InRange repositories t.home → InRange 1000000 t.timeout → InRange 100 t.tries → Stops is_ascii_digit rest → clock_at rest ≡ Some t.clock
    → terms_at repositories brokers (said t rest) ≡ Some t
said_is_read repositories brokers t rest r b broker home timeout tries stops clock =
    bind_some _ (t.broker, _) _ (number_behind-written (codes "act broker ") (codes " home " ++ (decimal t.home ++ (codes " timeout " ++ (decimal t.timeout ++ (codes " tries " ++ (decimal t.tries ++ rest)))))) brokers t.broker b broker refl)
    ∙ bind_some _ (t.home, _) _ (number_behind-written (codes " home ") (codes " timeout " ++ (decimal t.timeout ++ (codes " tries " ++ (decimal t.tries ++ rest)))) repositories t.home r home refl)
    ∙ bind_some _ (t.timeout, _) _ (number_behind-written (codes " timeout ") (codes " tries " ++ (decimal t.tries ++ rest)) 1000000 t.timeout (omega arith) timeout refl)
    ∙ bind_some _ (t.tries, _) _ (number_behind-written (codes " tries ") rest 100 t.tries (omega arith) tries stops)
    ∙ bind_some _ t.clock _ clock

pub line_is_read : (repositories brokers : ℕ) (t : Terms) (line : List ℕ) → repositories < 2 ^ 63 → brokers < 2 ^ 63 → IsActLine repositories brokers t line → terms_at repositories brokers line ≡ Some t
line_is_read repositories brokers t line r b h = either h.is
  where
    either : ((line ≡ act_front t) × (t.clock ≡ 1)) ⊎ (line ≡ act_front t ++ (codes " clock " ++ decimal t.clock)) → terms_at repositories brokers line ≡ Some t
    either (inl (is, one)) =
        ap (terms_at repositories brokers) (is ∙ sym (append-nil (act_front t)) ∙ front-said t [])
        ∙ said_is_read repositories brokers t [] r b h.broker h.home h.timeout h.tries tt (ap Some (sym one))
    either (inr is) =
        ap (terms_at repositories brokers) (is ∙ front-said t (codes " clock " ++ decimal t.clock))
        ∙ said_is_read repositories brokers t (codes " clock " ++ decimal t.clock) r b h.broker h.home h.timeout h.tries refl (clock-written t.clock h.clock)

-- an act line says one thing
pub one_line : (repositories brokers : ℕ) (a b : Terms) (line : List ℕ) → repositories < 2 ^ 63 → brokers < 2 ^ 63 → IsActLine repositories brokers a line → IsActLine repositories brokers b line → a ≡ b
one_line repositories brokers a b line r s h k =
    let e : ◌≡◌ {A = Option Terms} (Some a) (Some b) = sym (line_is_read repositories brokers a line r s h) ∙ line_is_read repositories brokers b line r s k in cc

-- ---- what is read is written

clock-is : (bytes : List ℕ) (clock : ℕ) → clock_at bytes ≡ Some clock → InRange (2 ^ 40 - 1) clock × (((bytes ≡ []) × (clock ≡ 1)) ⊎ (bytes ≡ codes " clock " ++ decimal clock))
clock-is [] clock e = let k : 1 ≡ clock = cc in (subst (InRange (2 ^ 40 - 1)) k (omega arith, omega arith), inl (refl, sym k))
clock-is (c ∷ bytes) clock e = let k = number_alone-is (codes " clock ") (c ∷ bytes) (2 ^ 40 - 1) clock (omega arith) e in (k.0, inr k.1)

said_in_parts : (t : Terms) (line xs ys zs rest : List ℕ) → line ≡ codes "act broker " ++ (decimal t.broker ++ xs) → xs ≡ codes " home " ++ (decimal t.home ++ ys)
    → ys ≡ codes " timeout " ++ (decimal t.timeout ++ zs) → zs ≡ codes " tries " ++ (decimal t.tries ++ rest) → line ≡ act_front t ++ rest
said_in_parts t line xs ys zs rest a b c d =
    a ∙ ap (λ z. codes "act broker " ++ (decimal t.broker ++ z)) (b ∙ ap (λ z. codes " home " ++ (decimal t.home ++ z)) (c ∙ ap (λ z. codes " timeout " ++ (decimal t.timeout ++ z)) d))
    ∙ sym (front-said t rest)

pub read_line_is : (repositories brokers : ℕ) (t : Terms) (line : List ℕ) → repositories < 2 ^ 63 → brokers < 2 ^ 63 → terms_at repositories brokers line ≡ Some t → IsActLine repositories brokers t line
read_line_is repositories brokers t line r b e =
    let broker = bind_is (number_behind (codes "act broker ") brokers line) _ t e in
    let home = bind_is (number_behind (codes " home ") repositories broker.0.1) _ t broker.2 in
    let timeout = bind_is (number_behind (codes " timeout ") 1000000 home.0.1) _ t home.2 in
    let tries = bind_is (number_behind (codes " tries ") 100 timeout.0.1) _ t timeout.2 in
    let clock = bind_is (clock_at tries.0.1) _ t tries.2 in
    let is1 = number_behind-is (codes "act broker ") line broker.0.1 brokers broker.0.0 b broker.1 in
    let is2 = number_behind-is (codes " home ") broker.0.1 home.0.1 repositories home.0.0 r home.1 in
    let is3 = number_behind-is (codes " timeout ") home.0.1 timeout.0.1 1000000 timeout.0.0 (omega arith) timeout.1 in
    let is4 = number_behind-is (codes " tries ") timeout.0.1 tries.0.1 100 tries.0.0 (omega arith) tries.1 in
    let u : Terms = record { broker = broker.0.0; home = home.0.0; timeout = timeout.0.0; tries = tries.0.0; clock = clock.0 } in
    let same : u ≡ t = (let k : ◌≡◌ {A = Option Terms} (Some u) (Some t) = clock.2 in cc) in
    let whole = said_in_parts u line broker.0.1 home.0.1 timeout.0.1 tries.0.1 is1.1 is2.1 is3.1 is4.1 in
    subst (λ z. IsActLine repositories brokers z line) same (record {
      is = ended u tries.0.1 whole (clock-is tries.0.1 clock.0 clock.1).1;
      broker = is1.0;
      home = is2.0;
      timeout = is3.0;
      tries = is4.0;
      clock = (clock-is tries.0.1 clock.0 clock.1).0;
    })
  where
    ended : (u : Terms) (rest : List ℕ) → line ≡ act_front u ++ rest → ((rest ≡ []) × (u.clock ≡ 1)) ⊎ (rest ≡ codes " clock " ++ decimal u.clock)
        → ((line ≡ act_front u) × (u.clock ≡ 1)) ⊎ (line ≡ act_front u ++ (codes " clock " ++ decimal u.clock))
    ended u rest whole (inl (none, one)) = inl (whole ∙ ap (λ z. act_front u ++ z) none ∙ append-nil (act_front u), one)
    ended u rest whole (inr is) = inr (whole ∙ ap (λ z. act_front u ++ z) is)

-- what a call that reads an act line gives
pub terms_read : (repositories brokers : ℕ) (line : List ℕ) (found : Option Terms) → repositories < 2 ^ 63 → brokers < 2 ^ 63 → found ≡ terms_at repositories brokers line
    → MatchOption found ((t : Terms) → IsActLine repositories brokers t line → ⊥) (λ t. IsActLine repositories brokers t line)
terms_read repositories brokers line None r b e = λ t h. let k : ◌≡◌ {A = Option Terms} None (Some t) = e ∙ line_is_read repositories brokers t line r b h in absurd (cc)
terms_read repositories brokers line (Some t) r b e = read_line_is repositories brokers t line r b (sym e)
