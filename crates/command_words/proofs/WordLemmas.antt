-- Numbers as words.
use Rattle.command_words.proofs.Names.{◌≡◌, ◌≢◌, inl, inr, ℕ, Option, Some, None, ◌+◌, ◌-◌, ◌<◌, ◌≤◌, ◌^◌, ◌==◌, zero, suc, Bool, true, false, cond, not, List, [], ◌∷◌, ◌++◌, length, get_or, take, drop, Result, Ok, refl, sym, ap, ◌∙◌, subst, arith, MatchOption, codes, decimal, length-append, ObjectId, Given, Options, AreGiven, AreNone, AreOptions, AreVoteOptions, IsLoad, IsNumber, IsObjectWord, IsPlain, IsWith, said}
use Rattle.std.specs.Borrow.{Bor}
use Rattle.std.specs.Option.{unwrap_or}
use Rattle.std.specs.List.{position_or_len, before_first, after_first}
use Rattle.std.specs.Str.Parse.{AllDigits, IsNumeral, ParsesUnsigned, digits_value, without_leading_plus}
use Rattle.std.proofs.Math.Seq.{take-append_seam, take-length}
use Rattle.std.proofs.lemmas.Bool.Decides.{Decides-eqb}
use Rattle.std.proofs.lemmas.Fmt.{decimal-digits_value, decimal_digit, decimal_is_IsNumeral, first_decimal, parse-decimal}
use Rattle.std.proofs.lemmas.Str.Parse.{digit_from_value, numerals_by_value, tells_digits}
use Rattle.command_words.specs.declared.commands.Command.TheVariants.{Run, Load, History, Retire, Votes, Watch, AsOf, Audit, Snapshot, Settle, Replay}

-- ---- what is written of a number

plain-zero : IsPlain (48 ∷ [])
plain-zero = ((λ e. omega (arith, e)), λ e. refl)

plain-of : (n : ℕ) (w : List ℕ) → (0 < n → 48 < get_or w 0 0) → (n ≡ 0 → w ≡ 48 ∷ []) → IsPlain w
plain-of zero w some nought = subst IsPlain (sym (nought refl)) plain-zero
plain-of (suc n) w some nought = let h = some (omega arith) in ((λ e. omega (arith, h, e)), λ e. absurd (omega (arith, h, e)))

pub plain-decimal : (n : ℕ) → n < 2 ^ 64 → IsPlain (decimal n)
plain-decimal n small = plain-of n (decimal n) (λ h. first_decimal n h small) (λ e. subst (λ k. decimal k ≡ 48 ∷ []) (sym e) (decimal_digit 0 (omega arith)))

without-plus : (w : List ℕ) → get_or w 0 0 ≢ 43 → without_leading_plus w ≡ w
without-plus [] other = refl
without-plus (c ∷ cs) other = go (c == 43) refl
  where
    go : (b : Bool) → (c == 43) ≡ b → drop (cond b 1 0) (c ∷ cs) ≡ c ∷ cs
    go true e = absurd (other ((Decides-eqb c 43).0 e))
    go false e = refl

-- ---- what is read

pub read-is : {E : Type 0} (w : List ℕ) (n : ℕ) (r : Result ℕ E) → IsPlain w → r ≡ Ok n → ParsesUnsigned 64 10 w r → w ≡ decimal n
read-is {E} w n r plain e h =
    let told = subst (ParsesUnsigned {E = E} 64 10 w) e h in
    let same = without-plus w plain.0 in
    let is = subst (λ ds. IsNumeral 10 ds × (digits_value 10 ds < 2 ^ 64)) same told.0 in
    sym (ap decimal (told.1 ∙ ap (digits_value 10) same) ∙ decimal-digits_value (numerals_by_value _ tells_digits) w is.0.1 is.0.0 plain.1 is.1)

pub number-read : {E : Type 0} (least most n : ℕ) (w : List ℕ) (r : Result ℕ E) → most < 2 ^ 64 → IsNumber least most n w → ParsesUnsigned 64 10 w r → r ≡ Ok n
number-read least most n w r fits is h = parse-decimal 64 n w r (omega (arith, is.high)) (omega (arith, is.high)) is.is h

pub number-plain : (least most n : ℕ) (w : List ℕ) → most < 2 ^ 64 → IsNumber least most n w → IsPlain w
number-plain least most n w fits is = subst IsPlain (sym is.is) (plain-decimal n (omega (arith, is.high)))

-- ---- two numbers with a dot between

dot-behind : (ds ys : List ℕ) → AllDigits 10 ds → position_or_len (λ b. b == 46) (ds ++ 46 ∷ ys) ≡ length ds
dot-behind [] ys d = refl
dot-behind (c ∷ cs) ys d = go (c == 46) refl (dot-behind cs ys d.1)
  where
    go : (b : Bool) → (c == 46) ≡ b → position_or_len (λ x. x == 46) (cs ++ 46 ∷ ys) ≡ length cs → cond (not b) (1 + position_or_len (λ x. x == 46) (cs ++ 46 ∷ ys)) 0 ≡ suc (length cs)
    go true e rest = let k = digit_from_value c d.0 in absurd (omega (arith, k.0, k.1, (Decides-eqb c 46).0 e))
    go false e rest = omega (arith, rest)

behind-dot : (ds ys : List ℕ) → drop (suc (length ds)) (ds ++ 46 ∷ ys) ≡ ys
behind-dot [] ys = refl
behind-dot (c ∷ cs) ys = behind-dot cs ys

-- a word of this form, in its two parts
abbrev pub Parted : List ℕ → List ℕ → List ℕ → Type 0
Parted ds ys w = (position_or_len (λ b. b == 46) w < length w) × (before_first (λ b. b == 46) w ≡ ds) × (after_first (λ b. b == 46) w ≡ ys)

parted : (ds ys : List ℕ) → AllDigits 10 ds → Parted ds ys (ds ++ 46 ∷ ys)
parted ds ys d =
    let at = dot-behind ds ys d in
    let size = length-append ds (46 ∷ ys) in
    let next : position_or_len (λ b. b == 46) (ds ++ 46 ∷ ys) + 1 ≡ suc (length ds) = omega (arith, at) in (
      omega (arith, at, size),
      ap (λ k. take k (ds ++ 46 ∷ ys)) at ∙ take-append_seam ds (46 ∷ ys),
      ap (λ k. drop k (ds ++ 46 ∷ ys)) next ∙ behind-dot ds ys,
    )

pub parts-of : (a n : ℕ) (w : List ℕ) → a < 2 ^ 64 → w ≡ decimal a ++ 46 ∷ decimal n → Parted (decimal a) (decimal n) w
parts-of a n w small e = subst (Parted (decimal a) (decimal n)) (sym e) (parted (decimal a) (decimal n) (decimal_is_IsNumeral a small).0.1)

-- ---- objects

pub object-parted : (o : ObjectId) (w : List ℕ) → IsObjectWord o w → Parted (decimal o.repository) (decimal o.number) w
object-parted o w is = parts-of o.repository o.number w (omega (arith, is.high)) is.is

pub object-front : (o : ObjectId) (w x : List ℕ) → x ≡ before_first (λ b. b == 46) w → IsObjectWord o w → IsNumber 1 16 o.repository x
object-front o w x e is = record { low = is.low; high = is.high; is = e ∙ (object-parted o w is).1 }

pub object-back : (o : ObjectId) (w x : List ℕ) → x ≡ after_first (λ b. b == 46) w → IsObjectWord o w → IsNumber 0 4294967295 o.number x
object-back o w x e is = record { low = omega arith; high = omega (arith, is.most); is = e ∙ (object-parted o w is).2 }

-- ---- options

workers-not-ticks : codes "--workers" ≡ codes "--ticks" → ⊥
workers-not-ticks e = absurd (cc)

workers-not-messages : codes "--workers" ≡ codes "--messages" → ⊥
workers-not-messages e = absurd (cc)

run-not-load : codes "run" ≡ codes "load" → ⊥
run-not-load e = absurd (cc)

run-not-history : codes "run" ≡ codes "history" → ⊥
run-not-history e = absurd (cc)

run-not-retire : codes "run" ≡ codes "retire" → ⊥
run-not-retire e = absurd (cc)

run-not-watch : codes "run" ≡ codes "watch" → ⊥
run-not-watch e = absurd (cc)

run-not-asof : codes "run" ≡ codes "asof" → ⊥
run-not-asof e = absurd (cc)

run-not-audit : codes "run" ≡ codes "audit" → ⊥
run-not-audit e = absurd (cc)

run-not-snapshot : codes "run" ≡ codes "snapshot" → ⊥
run-not-snapshot e = absurd (cc)

run-not-settle : codes "run" ≡ codes "settle" → ⊥
run-not-settle e = absurd (cc)

run-not-replay : codes "run" ≡ codes "replay" → ⊥
run-not-replay e = absurd (cc)

run-not-votes : codes "run" ≡ codes "votes" → ⊥
run-not-votes e = absurd (cc)

load-not-votes : codes "load" ≡ codes "votes" → ⊥
load-not-votes e = absurd (cc)

history-not-votes : codes "history" ≡ codes "votes" → ⊥
history-not-votes e = absurd (cc)

retire-not-votes : codes "retire" ≡ codes "votes" → ⊥
retire-not-votes e = absurd (cc)

-- words that begin with other letters
other-first : (a b : ℕ) (xs ys : List ℕ) → a ≢ b → a ∷ xs ≡ b ∷ ys → ⊥
other-first a b xs ys other e = other (ap (λ zs. get_or zs 0 0) e)

watch-not-votes : codes "watch" ≡ codes "votes" → ⊥
watch-not-votes e = other-first 119 118 (codes "atch") (codes "otes") (λ k. omega (arith, k)) e

asof-not-votes : codes "asof" ≡ codes "votes" → ⊥
asof-not-votes e = absurd (cc)

audit-not-votes : codes "audit" ≡ codes "votes" → ⊥
audit-not-votes e = other-first 97 118 (codes "udit") (codes "otes") (λ k. omega (arith, k)) e

snapshot-not-votes : codes "snapshot" ≡ codes "votes" → ⊥
snapshot-not-votes e = other-first 115 118 (codes "napshot") (codes "otes") (λ k. omega (arith, k)) e

replay-not-votes : codes "replay" ≡ codes "votes" → ⊥
replay-not-votes e = other-first 114 118 (codes "eplay") (codes "otes") (λ k. omega (arith, k)) e

settle-not-votes : codes "settle" ≡ codes "votes" → ⊥
settle-not-votes e = other-first 115 118 (codes "ettle") (codes "otes") (λ k. omega (arith, k)) e

ticks-not-messages : codes "--ticks" ≡ codes "--messages" → ⊥
ticks-not-messages e = absurd (cc)

-- a word is one number
number-one : (least most m n : ℕ) (w : List ℕ) → most < 2 ^ 64 → IsNumber least most m w → IsNumber least most n w → m ≡ n
number-one least most m n w fits a b =
    let x = (decimal_is_IsNumeral m (omega (arith, a.high))).1 in
    let y = (decimal_is_IsNumeral n (omega (arith, b.high))).1 in
    sym x ∙ ap (digits_value 10) (sym a.is ∙ b.is) ∙ y

with-one : (rest g h : Given) (name word : List ℕ) → IsWith rest name word g → IsWith rest name word h → g ≡ h
with-one rest g h name word (inl (m, a, b, c, d)) (inl (n, e, f, i, j)) = d ∙ ap (λ k. record rest { workers = Some k }) (number-one 1 16 m n word (omega arith) b f) ∙ sym j
with-one rest g h name word (inl (m, a, b, c, d)) (inr (inl (n, e, f, i, j))) = absurd (workers-not-ticks (sym a ∙ e))
with-one rest g h name word (inl (m, a, b, c, d)) (inr (inr (n, e, f, i, j))) = absurd (workers-not-messages (sym a ∙ e))
with-one rest g h name word (inr (inl (m, a, b, c, d))) (inl (n, e, f, i, j)) = absurd (workers-not-ticks (sym e ∙ a))
with-one rest g h name word (inr (inl (m, a, b, c, d))) (inr (inl (n, e, f, i, j))) = d ∙ ap (λ k. record rest { ticks = Some k }) (number-one 0 1000000 m n word (omega arith) b f) ∙ sym j
with-one rest g h name word (inr (inl (m, a, b, c, d))) (inr (inr (n, e, f, i, j))) = absurd (ticks-not-messages (sym a ∙ e))
with-one rest g h name word (inr (inr (m, a, b, c, d))) (inl (n, e, f, i, j)) = absurd (workers-not-messages (sym e ∙ a))
with-one rest g h name word (inr (inr (m, a, b, c, d))) (inr (inl (n, e, f, i, j))) = absurd (ticks-not-messages (sym e ∙ a))
with-one rest g h name word (inr (inr (m, a, b, c, d))) (inr (inr (n, e, f, i, j))) = d ∙ ap (λ k. record rest { messages = Some k }) (number-one 1 1000000 m n word (omega arith) b f) ∙ sym j

-- words are these options, and no others
pub given-one : (g h : Given) (words : List (List ℕ)) → AreGiven g words → AreGiven h words → g ≡ h
given-one g h [] a b = a ∙ sym b
given-one g h (name ∷ []) a b = absurd a
given-one g h (name ∷ word ∷ more) (r, a, b) (s, c, d) =
    let same = given-one r s more a c in
    with-one r g h name word b (subst (λ x. IsWith x name word h) (sym same) d)

-- how many are given
times : {A : Type 0} → Option A → ℕ
times None = 0
times (Some x) = 1

size : Given → ℕ
size g = times g.workers + (times g.ticks + times g.messages)

times-most : {A : Type 0} (o : Option A) → times o ≤ 1
unfolding times
times-most None = omega arith
times-most (Some x) = omega arith

with-more : (rest g : Given) (name word : List ℕ) → IsWith rest name word g → size g ≡ size rest + 1
unfolding size times
with-more rest g name word (inl (m, a, b, c, d)) = omega (arith, ap size d, ap times c)
with-more rest g name word (inr (inl (m, a, b, c, d))) = omega (arith, ap size d, ap times c)
with-more rest g name word (inr (inr (m, a, b, c, d))) = omega (arith, ap size d, ap times c)

given-size : (g : Given) (words : List (List ℕ)) → AreGiven g words → length words ≡ size g + size g
unfolding size times
given-size g [] a = omega (arith, ap size a)
given-size g (name ∷ []) a = absurd a
given-size g (name ∷ word ∷ more) (r, a, b) = omega (arith, given-size r more a, with-more r g name word b)

pub given-few : (g : Given) (words : List (List ℕ)) → AreGiven g words → length words ≤ 6
unfolding size
given-few g words a = omega (arith, given-size g words a, times-most g.workers, times-most g.ticks, times-most g.messages)

-- ---- two words and those behind

abbrev pub Words : Type 0
Words = List (Bor (List ℕ))

abbrev pub behind : Words → Words
behind ws = take (length ws - 2) (drop 2 ws)

behind-is : (a b : Bor (List ℕ)) (ws : Words) → behind (a ∷ b ∷ ws) ≡ ws
behind-is a b ws = ap (λ k. take k ws) two-less ∙ take-length ws
  where
    two-less : length (a ∷ b ∷ ws) - 2 ≡ length ws
    two-less = omega arith

pub none-behind : (ws : Words) → 2 ≤ length ws → ((g : Given) → AreGiven g (said (behind ws)) → ⊥) → (g : Given) → AreGiven g (said ws) → ⊥
none-behind [] h k g are = absurd (omega (arith, h))
none-behind (a ∷ []) h k g are = absurd (omega (arith, h))
none-behind (a ∷ b ∷ ws) h k g (r, x, y) = k r (subst (λ l. AreGiven r (said l)) (sym (behind-is a b ws)) x)

abbrev pub word-at : Words → ℕ → List ℕ
word-at ws i = (get_or ws i (record { ref_ptr = (0, 0); now = [] })).now

pub some-behind : (ws : Words) (rest : Given) (read : Option Given) → 2 ≤ length ws → AreGiven rest (said (behind ws))
    → MatchOption read ((g : Given) → IsWith rest (word-at ws 0) (word-at ws 1) g → ⊥) (λ g. IsWith rest (word-at ws 0) (word-at ws 1) g)
    → MatchOption read ((g : Given) → AreGiven g (said ws) → ⊥) (λ g. AreGiven g (said ws))
some-behind [] rest read h x y = absurd (omega (arith, h))
some-behind (a ∷ []) rest read h x y = absurd (omega (arith, h))
some-behind (a ∷ b ∷ ws) rest None h x y = λ g are.
    let same = given-one are.0 rest (said ws) are.1 (subst (λ l. AreGiven rest (said l)) (behind-is a b ws) x) in
    y g (subst (λ r. IsWith r a.now b.now g) same are.2)
some-behind (a ∷ b ∷ ws) rest (Some g) h x y = (rest, subst (λ l. AreGiven rest (said l)) (behind-is a b ws) x, y)

pub load-behind : (ws : Words) (seed count : ℕ) (o : Options) → 2 ≤ length ws → IsLoad seed count o (codes "load" ∷ said ws) → AreOptions o (said (behind ws))
load-behind [] seed count o h is = absurd (omega (arith, h))
load-behind (a ∷ []) seed count o h is = absurd (omega (arith, h))
load-behind (a ∷ b ∷ ws) seed count o h is =
    let are = is.are in
    let same : is.more ≡ said ws = cc in
    subst (λ l. AreOptions o (said l)) (sym (behind-is a b ws)) (subst (AreOptions o) same is.options)

-- ---- one word and those behind

abbrev pub behind-one : Words → Words
behind-one ws = take (length ws - 1) (drop 1 ws)

behind-one-is : (a : Bor (List ℕ)) (ws : Words) → behind-one (a ∷ ws) ≡ ws
behind-one-is a ws = ap (λ k. take k ws) one-less ∙ take-length ws
  where
    one-less : length (a ∷ ws) - 1 ≡ length ws
    one-less = omega arith

pub run-alone : (ws : Words) → 1 ≤ length ws → word-at ws 0 ≡ codes "run" → ((o : Options) → AreOptions o (said (behind-one ws)) → ⊥) → AreNone (said ws)
run-alone [] h first bad c is = absurd (omega (arith, h))
run-alone (a ∷ ws) h first bad (Run o) (more, are, options) =
    let same : more ≡ said ws = cc in
    bad o (subst (λ l. AreOptions o (said l)) (sym (behind-one-is a ws)) (subst (AreOptions o) same options))
run-alone (a ∷ ws) h first bad (Load seed count o) is = let are = is.are in run-not-load (sym first ∙ front are)
  where
    front : {x : List ℕ} {more : List (List ℕ)} → a.now ∷ said ws ≡ x ∷ more → a.now ≡ x
    front e = cc
run-alone (a ∷ ws) h first bad (History object) is = let are = is.are in run-not-history (sym first ∙ front are)
  where
    front : {x : List ℕ} {more : List (List ℕ)} → a.now ∷ said ws ≡ x ∷ more → a.now ≡ x
    front e = cc
run-alone (a ∷ ws) h first bad (Retire repository clock) is = let are = is.are in run-not-retire (sym first ∙ front are)
  where
    front : {x : List ℕ} {more : List (List ℕ)} → a.now ∷ said ws ≡ x ∷ more → a.now ≡ x
    front e = cc
run-alone (a ∷ ws) h first bad (Votes o) (more, are, options) = run-not-votes (sym first ∙ front are)
  where
    front : {x : List ℕ} {more : List (List ℕ)} → a.now ∷ said ws ≡ x ∷ more → a.now ≡ x
    front e = cc
run-alone (a ∷ ws) h first bad (Watch repository rule) is = let are = is.are in run-not-watch (sym first ∙ front are)
  where
    front : {x : List ℕ} {more : List (List ℕ)} → a.now ∷ said ws ≡ x ∷ more → a.now ≡ x
    front e = cc
run-alone (a ∷ ws) h first bad (AsOf repository clock) is = let are = is.are in run-not-asof (sym first ∙ front are)
  where
    front : {x : List ℕ} {more : List (List ℕ)} → a.now ∷ said ws ≡ x ∷ more → a.now ≡ x
    front e = cc
run-alone (a ∷ ws) h first bad (Audit object) is = let are = is.are in run-not-audit (sym first ∙ front are)
  where
    front : {x : List ℕ} {more : List (List ℕ)} → a.now ∷ said ws ≡ x ∷ more → a.now ≡ x
    front e = cc
run-alone (a ∷ ws) h first bad (Snapshot None) are = run-not-snapshot (sym first ∙ front are)
  where
    front : {x : List ℕ} {more : List (List ℕ)} → a.now ∷ said ws ≡ x ∷ more → a.now ≡ x
    front e = cc
run-alone (a ∷ ws) h first bad (Snapshot (Some clock)) (word, are, is) = run-not-snapshot (sym first ∙ front are)
  where
    front : {x : List ℕ} {more : List (List ℕ)} → a.now ∷ said ws ≡ x ∷ more → a.now ≡ x
    front e = cc
run-alone (a ∷ ws) h first bad (Settle repositories) is = let are = is.are in run-not-settle (sym first ∙ front are)
  where
    front : {x : List ℕ} {more : List (List ℕ)} → a.now ∷ said ws ≡ x ∷ more → a.now ≡ x
    front e = cc
run-alone (a ∷ ws) h first bad (Replay false) is = run-not-replay (sym first ∙ front is)
  where
    front : {x : List ℕ} {more : List (List ℕ)} → a.now ∷ said ws ≡ x ∷ more → a.now ≡ x
    front e = cc
run-alone (a ∷ ws) h first bad (Replay true) is = run-not-replay (sym first ∙ front is)
  where
    front : {x : List ℕ} {more : List (List ℕ)} → a.now ∷ said ws ≡ x ∷ more → a.now ≡ x
    front e = cc

pub votes-alone : (ws : Words) → 1 ≤ length ws → word-at ws 0 ≡ codes "votes" → ((o : Options) → AreVoteOptions o (said (behind-one ws)) → ⊥) → AreNone (said ws)
votes-alone [] h first bad c is = absurd (omega (arith, h))
votes-alone (a ∷ ws) h first bad (Run o) (more, are, options) = run-not-votes (sym (front are) ∙ first)
  where
    front : {x : List ℕ} {more : List (List ℕ)} → a.now ∷ said ws ≡ x ∷ more → a.now ≡ x
    front e = cc
votes-alone (a ∷ ws) h first bad (Load seed count o) is = let are = is.are in load-not-votes (sym (front are) ∙ first)
  where
    front : {x : List ℕ} {more : List (List ℕ)} → a.now ∷ said ws ≡ x ∷ more → a.now ≡ x
    front e = cc
votes-alone (a ∷ ws) h first bad (History object) is = let are = is.are in history-not-votes (sym (front are) ∙ first)
  where
    front : {x : List ℕ} {more : List (List ℕ)} → a.now ∷ said ws ≡ x ∷ more → a.now ≡ x
    front e = cc
votes-alone (a ∷ ws) h first bad (Retire repository clock) is = let are = is.are in retire-not-votes (sym (front are) ∙ first)
  where
    front : {x : List ℕ} {more : List (List ℕ)} → a.now ∷ said ws ≡ x ∷ more → a.now ≡ x
    front e = cc
votes-alone (a ∷ ws) h first bad (Watch repository rule) is = let are = is.are in watch-not-votes (sym (front are) ∙ first)
  where
    front : {x : List ℕ} {more : List (List ℕ)} → a.now ∷ said ws ≡ x ∷ more → a.now ≡ x
    front e = cc
votes-alone (a ∷ ws) h first bad (AsOf repository clock) is = let are = is.are in asof-not-votes (sym (front are) ∙ first)
  where
    front : {x : List ℕ} {more : List (List ℕ)} → a.now ∷ said ws ≡ x ∷ more → a.now ≡ x
    front e = cc
votes-alone (a ∷ ws) h first bad (Audit object) is = let are = is.are in audit-not-votes (sym (front are) ∙ first)
  where
    front : {x : List ℕ} {more : List (List ℕ)} → a.now ∷ said ws ≡ x ∷ more → a.now ≡ x
    front e = cc
votes-alone (a ∷ ws) h first bad (Snapshot None) are = snapshot-not-votes (sym (front are) ∙ first)
  where
    front : {x : List ℕ} {more : List (List ℕ)} → a.now ∷ said ws ≡ x ∷ more → a.now ≡ x
    front e = cc
votes-alone (a ∷ ws) h first bad (Snapshot (Some clock)) (word, are, is) = snapshot-not-votes (sym (front are) ∙ first)
  where
    front : {x : List ℕ} {more : List (List ℕ)} → a.now ∷ said ws ≡ x ∷ more → a.now ≡ x
    front e = cc
votes-alone (a ∷ ws) h first bad (Settle repositories) is = let are = is.are in settle-not-votes (sym (front are) ∙ first)
  where
    front : {x : List ℕ} {more : List (List ℕ)} → a.now ∷ said ws ≡ x ∷ more → a.now ≡ x
    front e = cc
votes-alone (a ∷ ws) h first bad (Replay false) is = replay-not-votes (sym (front is) ∙ first)
  where
    front : {x : List ℕ} {more : List (List ℕ)} → a.now ∷ said ws ≡ x ∷ more → a.now ≡ x
    front e = cc
votes-alone (a ∷ ws) h first bad (Replay true) is = replay-not-votes (sym (front is) ∙ first)
  where
    front : {x : List ℕ} {more : List (List ℕ)} → a.now ∷ said ws ≡ x ∷ more → a.now ≡ x
    front e = cc
votes-alone (a ∷ ws) h first bad (Votes o) (more, are, options) =
    let same : more ≡ said ws = cc in
    bad o (subst (λ l. AreVoteOptions o (said l)) (sym (behind-one-is a ws)) (subst (AreVoteOptions o) same options))

-- no more Ticks are asked for than a number of 32 bits holds
ticks-with : (rest g : Given) (name word : List ℕ) → unwrap_or rest.ticks 10000 ≤ 1000000 → IsWith rest name word g → unwrap_or g.ticks 10000 ≤ 1000000
ticks-with rest g name word before (inl h) = subst (λ (x : Given). unwrap_or x.ticks 10000 ≤ 1000000) (sym h.4) before
ticks-with rest g name word before (inr (inl h)) = subst (λ (x : Given). unwrap_or x.ticks 10000 ≤ 1000000) (sym h.4) h.2.high
ticks-with rest g name word before (inr (inr h)) = subst (λ (x : Given). unwrap_or x.ticks 10000 ≤ 1000000) (sym h.4) before

ticks-given : (words : List (List ℕ)) (g : Given) → AreGiven g words → unwrap_or g.ticks 10000 ≤ 1000000
ticks-given [] g h = subst (λ (x : Given). unwrap_or x.ticks 10000 ≤ 1000000) (sym h) (omega arith)
ticks-given (name ∷ []) g h = absurd h
ticks-given (name ∷ word ∷ more) g h = ticks-with h.0 g name word (ticks-given more h.0 h.1) h.2

pub few-ticks : (o : Options) (words : List (List ℕ)) → AreVoteOptions o words → o.ticks ≤ 1000000
few-ticks o words h = subst (λ (x : Options). x.ticks ≤ 1000000) (sym h.3) (ticks-given words h.0 h.1)

-- with workers they are no options of votes
pub no-votes : (g : Given) (words : List (List ℕ)) → AreGiven g words → (g.workers ≡ None → ⊥) → (o : Options) → AreVoteOptions o words → ⊥
no-votes g words given some o h = some (ap (λ (x : Given). x.workers) (given-one g h.0 words given h.1) ∙ h.2)
