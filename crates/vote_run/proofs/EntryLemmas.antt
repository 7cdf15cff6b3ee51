-- Entries that are added: what they cost, and which Downs stand.
use Rattle.std.proofs.lemmas.List.Elements.{filter-append}
use Rattle.vote_run.proofs.Names.{same_node, DownCause, NodeId, Turn, MemberState, same_node-refl, Entry, Take, Go, Learn, Hear, Gate, Crash, Down, Tick, is_down, names, own, down_cause, cost_of, costs, WasNotOpened, never-false, CourierParts, Lengthens, Begins, ◌≡◌, ℕ, ◌+◌, Bool, true, false, List, [], ◌∷◌, ◌++◌, refl, sym, ap, subst, ◌∙◌, arith, append_assoc, Option, Some, None, cond, if◌then◌else◌, append-nil, IsOfDowns}

-- ---- costs

costs-append : (xs ys : List Entry) → costs (xs ++ ys) ≡ costs xs + costs ys
costs-append [] ys = let e : costs ys ≡ 0 + costs ys = omega arith in e
costs-append (x ∷ xs) ys = let h = costs-append xs ys in let e : cost_of x + costs (xs ++ ys) ≡ (cost_of x + costs xs) + costs ys = omega (arith, h) in e

module _ (n : NodeId) where
  -- an entry of the node's own
  pub costs-more : (es : List Entry) (e : Entry) → names n e ≡ true → costs (own n (es ++ e ∷ [])) ≡ costs (own n es) + cost_of e
  costs-more es e is =
      let one : own n (e ∷ []) ≡ e ∷ [] = ap (λ t. cond t (e ∷ []) []) is in
      let all : own n (es ++ e ∷ []) ≡ own n es ++ e ∷ [] = filter-append (names n) es (e ∷ []) ∙ ap (λ l. own n es ++ l) one in
      let sum = costs-append (own n es) (e ∷ []) in
      let last : costs (e ∷ []) ≡ cost_of e = omega arith in
      ap costs all ∙ sum ∙ ap (λ k. costs (own n es) + k) last

  pub own-still : (es more : List Entry) → own n more ≡ [] → own n (es ++ more) ≡ own n es
  own-still es more none = filter-append (names n) es more ∙ ap (λ l. own n es ++ l) none ∙ append-nil (own n es)

  -- ---- Downs

  if-none : (t : Bool) (c : DownCause) (o : Option DownCause) → (if t then Some c else o) ≡ None → (t ≡ false) × (o ≡ None)
  if-none true c o e = absurd (let never : ⊥ = cc e in never)
  if-none false c o e = (refl, e)

  pub down-more : (xs ys : List Entry) → down_cause n xs ≡ None → down_cause n (xs ++ ys) ≡ down_cause n ys
  down-more [] ys h = refl
  down-more (Take node number ∷ xs) ys h = down-more xs ys h
  down-more (Go node ∷ xs) ys h = down-more xs ys h
  down-more (Learn node stamp committed ∷ xs) ys h = down-more xs ys h
  down-more (Hear node ∷ xs) ys h = down-more xs ys h
  down-more (Gate node ∷ xs) ys h = down-more xs ys h
  down-more (Crash node kept ∷ xs) ys h = down-more xs ys h
  down-more (Down node cause ∷ xs) ys h =
      let p = if-none (same_node node n) cause (down_cause n xs) h in
      ap (λ t. if t then Some cause else down_cause n (xs ++ ys)) p.0 ∙ down-more xs ys p.1
  down-more (Tick moment ∷ xs) ys h = down-more xs ys h

  pub down-stays : (xs ys : List Entry) (c : DownCause) → down_cause n xs ≡ Some c → down_cause n (xs ++ ys) ≡ Some c
  down-stays [] ys c h = absurd (let never : ⊥ = cc h in never)
  down-stays (Take node number ∷ xs) ys c h = down-stays xs ys c h
  down-stays (Go node ∷ xs) ys c h = down-stays xs ys c h
  down-stays (Learn node stamp committed ∷ xs) ys c h = down-stays xs ys c h
  down-stays (Hear node ∷ xs) ys c h = down-stays xs ys c h
  down-stays (Gate node ∷ xs) ys c h = down-stays xs ys c h
  down-stays (Crash node kept ∷ xs) ys c h = down-stays xs ys c h
  down-stays (Down node cause ∷ xs) ys c h = go (same_node node n) h (λ e. down-stays xs ys c e)
    where
      go : (t : Bool) → (if t then Some cause else down_cause n xs) ≡ Some c → (down_cause n xs ≡ Some c → down_cause n (xs ++ ys) ≡ Some c) → (if t then Some cause else down_cause n (xs ++ ys)) ≡ Some c
      go true h rest = h
      go false h rest = rest h
  down-stays (Tick moment ∷ xs) ys c h = down-stays xs ys c h

  head : (t : Bool) (e : Entry) (l : List Entry) → cond t (e ∷ l) l ≡ [] → t ≡ false
  head true e l h = absurd (let never : ⊥ = cc h in never)
  head false e l h = refl

  tail : (t : Bool) (e : Entry) (l : List Entry) → cond t (e ∷ l) l ≡ [] → l ≡ []
  tail true e l h = absurd (let never : ⊥ = cc h in never)
  tail false e l h = h

  -- entries of others alone
  pub none-own : (ys : List Entry) → own n ys ≡ [] → down_cause n ys ≡ None
  none-own [] h = refl
  none-own (Take node number ∷ ys) h = none-own ys (tail (same_node node n) (Take node number) (own n ys) h)
  none-own (Go node ∷ ys) h = none-own ys (tail (same_node node n) (Go node) (own n ys) h)
  none-own (Learn node stamp committed ∷ ys) h = none-own ys (tail (same_node node n) (Learn node stamp committed) (own n ys) h)
  none-own (Hear node ∷ ys) h = none-own ys (tail (same_node node n) (Hear node) (own n ys) h)
  none-own (Gate node ∷ ys) h = none-own ys (tail (same_node node n) (Gate node) (own n ys) h)
  none-own (Crash node kept ∷ ys) h = none-own ys (tail (same_node node n) (Crash node kept) (own n ys) h)
  none-own (Down node cause ∷ ys) h = ap (λ t. if t then Some cause else down_cause n ys) (head (same_node node n) (Down node cause) (own n ys) h) ∙ none-own ys (tail (same_node node n) (Down node cause) (own n ys) h)
  none-own (Tick moment ∷ ys) h = none-own ys h

  pub down-still : (es more : List Entry) → own n more ≡ [] → (o : Option DownCause) → down_cause n es ≡ o → down_cause n (es ++ more) ≡ o
  down-still es more none None h = down-more es more h ∙ none-own more none
  down-still es more none (Some c) h = down-stays es more c h

  -- ---- who was opened

  pub out-stays : (es more : List Entry) → WasNotOpened es n → WasNotOpened (es ++ more) n
  out-stays es more (front, rest, cause, is, downs) = (front, rest ++ more, cause, ap (λ l. l ++ more) is ∙ append_assoc front (Down n cause ∷ rest) more, downs)

  -- one that did something before its Down was opened
  clash : (before after front rest : List Entry) (deed : Entry) (cause : DownCause) → is_down deed ≡ false → down_cause n before ≡ None → IsOfDowns front → before ++ deed ∷ after ≡ front ++ Down n cause ∷ rest → ⊥
  clash [] after [] rest deed cause acted up downs e = let d : deed ≡ Down n cause = cc e in never-false (sym (ap is_down d) ∙ acted)
  clash [] after (f ∷ front) rest deed cause acted up downs e = let d : deed ≡ f = cc e in never-false (sym (ap is_down d ∙ downs.0) ∙ acted)
  clash (b ∷ before) after [] rest deed cause acted up downs e =
      let d : b ≡ Down n cause = cc e in
      let none : down_cause n (Down n cause ∷ before) ≡ None = subst (λ z. down_cause n (z ∷ before) ≡ None) d up in
      never-false (sym (same_node-refl n) ∙ (if-none (same_node n n) cause (down_cause n before) none).0)
  clash (b ∷ before) after (f ∷ front) rest deed cause acted up downs e =
      let t : before ++ deed ∷ after ≡ front ++ Down n cause ∷ rest = cc e in
      clash before after front rest deed cause acted (rest-none b before up) downs.1 t
    where
      rest-none : (b : Entry) (before : List Entry) → down_cause n (b ∷ before) ≡ None → down_cause n before ≡ None
      rest-none (Take node number) before h = h
      rest-none (Go node) before h = h
      rest-none (Learn node stamp committed) before h = h
      rest-none (Hear node) before h = h
      rest-none (Gate node) before h = h
      rest-none (Crash node kept) before h = h
      rest-none (Down node cause) before h = (if-none (same_node node n) cause (down_cause n before) h).1
      rest-none (Tick moment) before h = h

  pub was-opened : (es before after : List Entry) (deed : Entry) → es ≡ before ++ deed ∷ after → is_down deed ≡ false → down_cause n before ≡ None → WasNotOpened es n → ⊥
  was-opened es before after deed are acted up (front, rest, cause, is, downs) = clash before after front rest deed cause acted up downs (sym are ∙ is)

  -- one whose Down stands is down
  pub out-down : (es : List Entry) → WasNotOpened es n → down_cause n es ≡ None → ⊥
  out-down es (front, rest, cause, is, downs) none =
      go front (subst (λ l. down_cause n l ≡ None) is none)
    where
      go : (front : List Entry) → down_cause n (front ++ Down n cause ∷ rest) ≡ None → ⊥
      go [] h = never-false (sym (same_node-refl n) ∙ (if-none (same_node n n) cause (down_cause n rest) h).0)
      go (Take node number ∷ front) h = go front h
      go (Go node ∷ front) h = go front h
      go (Learn node stamp committed ∷ front) h = go front h
      go (Hear node ∷ front) h = go front h
      go (Gate node ∷ front) h = go front h
      go (Crash node kept ∷ front) h = go front h
      go (Down node other ∷ front) h = go front (if-none (same_node node n) other (down_cause n (front ++ Down n cause ∷ rest)) h).1
      go (Tick moment ∷ front) h = go front h

-- ---- entries of these nodes alone

pub lengthens-still : (of : NodeId → Bool) (es fs : List Entry) → fs ≡ es → Lengthens of es fs
lengthens-still of es fs is = record { more = []; longer = is ∙ sym (append-nil es); own_entries = λ m apart. refl }

pub lengthens-join : (of : NodeId → Bool) (a b c : List Entry) → Lengthens of a b → Lengthens of b c → Lengthens of a c
lengthens-join of a b c f g = record {
  more = f.more ++ g.more;
  longer = g.longer ∙ ap (λ l. l ++ g.more) f.longer ∙ append_assoc a f.more g.more;
  own_entries = λ m apart. filter-append (names m) f.more g.more ∙ ap (λ l. l ++ own m g.more) (f.own_entries m apart) ∙ g.own_entries m apart;
}

-- one entry of a node that is among them
pub lengthens-one : (of : NodeId → Bool) (n : NodeId) (e : Entry) (es fs : List Entry) → ((m : NodeId) → of m ≡ false → same_node n m ≡ false) → ((m : NodeId) → names m e ≡ same_node n m) → fs ≡ es ++ e ∷ [] → Lengthens of es fs
lengthens-one of n e es fs among is longer = record { more = e ∷ []; longer = longer; own_entries = λ m apart. ap (λ t. cond t (e ∷ []) []) (is m ∙ among m apart) }

-- ---- turns of members

pub none-down : (n : NodeId) (e : Entry) → is_down e ≡ false → down_cause n (e ∷ []) ≡ None
none-down n (Take node number) h = refl
none-down n (Go node) h = refl
none-down n (Learn node stamp committed) h = refl
none-down n (Hear node) h = refl
none-down n (Gate node) h = refl
none-down n (Crash node kept) h = refl
none-down n (Down node cause) h = never-false h
none-down n (Tick moment) h = refl

-- what a turn begins with
pub begun-entry : (behind : Bool) (n : NodeId) (moment : ℕ) (c mid : CourierParts) (m k : MemberState) (t : Turn) → Begins behind n moment c mid m k (Some t)
    → (e : Entry) × (mid.entries ≡ c.entries ++ e ∷ []) × ((j : NodeId) → names j e ≡ same_node n j) × (is_down e ≡ false) × (cost_of e ≡ 0)
begun-entry true n moment c mid m k t x = (Hear n, ap (λ (z : CourierParts). z.entries) x.entry, λ j. refl, refl, refl)
begun-entry false n moment c mid m k t x = (Take n x.arrival.number, ap (λ (z : CourierParts). z.entries) x.takes.2, λ j. refl, refl, refl)

pub none-begun : (behind : Bool) (n : NodeId) (moment : ℕ) (c d : CourierParts) (m k : MemberState) → Begins behind n moment c d m k None → d ≡ c
none-begun true n moment c d m k x = absurd x
none-begun false n moment c d m k x = x.still

-- what was begun leaves the node up
pub begun-up : (behind : Bool) (n : NodeId) (moment : ℕ) (c mid : CourierParts) (m k : MemberState) (t : Turn) → Begins behind n moment c mid m k (Some t) → down_cause n c.entries ≡ None → down_cause n mid.entries ≡ None
begun-up behind n moment c mid m k t b never =
    let deed = begun-entry behind n moment c mid m k t b in
    subst (λ z. down_cause n z ≡ None) (sym deed.1) (down-more n c.entries (deed.0 ∷ []) never ∙ none-down n deed.0 deed.3)
