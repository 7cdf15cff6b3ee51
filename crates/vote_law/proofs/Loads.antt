-- A member's log has no more effects than messages that it took.
use Rattle.vote_law.proofs.Names.{Every, every-append, broker, is_broker, same_node, NodeId, StampParts, Decision, Effect, Message, count, numbered, same_is, same_node-refl, Fate, RecordState, Unknown, Decided, record_of, MemberNumber, book, quiet, begin_by, close_by, row, on_message, Given, member, Member, all_effects, took, shut, Entry, Take, Go, Learn, Hear, Gate, Down, MayTake, Sending, Base, Hall, log_at, world_of, member_took, life_of, step, Rule, AreVotes, IsPlain, ◌≡◌, ℕ, zero, suc, ◌+◌, ◌*◌, ◌≤◌, Bool, true, false, List, [], ◌∷◌, ◌++◌, length, refl, sym, ap, subst, ◌∙◌, arith, zero-add, Option, Some, None, ◌==◌, cond, is_some, if◌then◌else◌, eqb-true, eqb-false, append-nil, append_assoc, length-append, is_vote_effect}
use Rattle.message_form.specs.declared.messages.Message.TheVariants as message
use Rattle.vote_law.proofs.Letters.{Mark, sendings_of, between, marks, marks-append, Flips}
use Rattle.vote_law.proofs.Halls.{no, if-same, HallFacts, is_quiet, untaken, same-marks, these-flip, it-is, shut-log}
use Rattle.vote_law.proofs.Ways.{HallWays, way-of, asker-of, line-place}

-- ---- how many were taken

abbrev pub trues : List Mark → ℕ
trues [] = 0
trues (m ∷ ms) = cond m.1 1 0 + trues ms

trues-append : (xs ys : List Mark) → trues (xs ++ ys) ≡ trues xs + trues ys
trues-append [] ys = sym (zero-add (trues ys))
trues-append (x ∷ xs) ys = let e : trues (xs ++ ys) ≡ trues xs + trues ys = trues-append xs ys in omega (arith, e)

flips-trues : (old new : List Mark) (m : Message) → Flips old new m → trues new ≡ suc (trues old)
flips-trues old new m f =
    let b : trues (f.front ++ (m, false) ∷ f.back) ≡ trues f.front + trues ((m, false) ∷ f.back) = trues-append f.front ((m, false) ∷ f.back) in
    ap trues f.is ∙ (let e : trues (f.front ++ (m, true) ∷ f.back) ≡ suc (trues (f.front ++ (m, false) ∷ f.back)) = omega (arith, trues-append f.front ((m, true) ∷ f.back), b) in e) ∙ ap (λ z. suc (trues z)) (sym f.was)

trues-few : (xs : List Mark) → trues xs ≤ length xs
trues-few [] = omega arith
trues-few ((m, true) ∷ xs) = let e : trues xs ≤ length xs = trues-few xs in omega (arith, e)
trues-few ((m, false) ∷ xs) = let e : trues xs ≤ length xs = trues-few xs in omega (arith, e)

-- so many messages of the first polls the member took
module _ (s : MemberNumber) (taken : List ℕ) (ss : List Sending) where
  abbrev pub load : ℕ → ℕ
  load zero = 0
  load (suc n) = trues (marks (broker (suc n)) (member s) taken 1 ss) + load n

  pub few-load : (n : ℕ) → ((i : ℕ) → 1 ≤ i → i ≤ n → length (marks (broker i) (member s) taken 1 ss) ≤ 2) → load n ≤ 2 * n
  few-load zero f = omega arith
  few-load (suc n) f = omega (arith, f (suc n) (omega arith) (omega arith), trues-few (marks (broker (suc n)) (member s) taken 1 ss), few-load n (λ i above most. f i above (omega (arith, most))))

-- where each has as many or more, and one has more, all together have more
module _ (s : MemberNumber) (taken later : List ℕ) (ss more : List Sending) where
  abbrev Grows : ℕ → Type 0
  Grows i = trues (marks (broker i) (member s) taken 1 ss) ≤ trues (marks (broker i) (member s) later 1 more)

  load-grows : (n : ℕ) → ((i : ℕ) → Grows i) → load s taken ss n ≤ load s later more n
  load-grows zero f = omega arith
  load-grows (suc n) f = let a : Grows (suc n) = f (suc n) in omega (arith, a, load-grows n f)

  load-more : (n i : ℕ) → ((j : ℕ) → Grows j) → 1 ≤ i → i ≤ n → suc (trues (marks (broker i) (member s) taken 1 ss)) ≤ trues (marks (broker i) (member s) later 1 more) → suc (load s taken ss n) ≤ load s later more n
  load-more zero i f above most e = absurd (omega (arith, above, most))
  load-more (suc n) i f above most e = go (i == suc n) refl (λ below. load-more n i f above below e)
    where
      go : (t : Bool) → (i == suc n) ≡ t → (i ≤ n → suc (load s taken ss n) ≤ load s later more n) → suc (load s taken ss (suc n)) ≤ load s later more (suc n)
      go true is less = let q : suc (trues (marks (broker (suc n)) (member s) taken 1 ss)) ≤ trues (marks (broker (suc n)) (member s) later 1 more) =
          subst (λ j. suc (trues (marks (broker j) (member s) taken 1 ss)) ≤ trues (marks (broker j) (member s) later 1 more)) (eqb-true i (suc n) is) e in
          omega (arith, q, load-grows n f)
      go false is less = let q : i ≤ n = omega (arith, most, eqb-false i (suc n) is) in let a : Grows (suc n) = f (suc n) in let r : suc (load s taken ss n) ≤ load s later more n = less q in omega (arith, a, r)

-- ---- a member adds one effect at the most

row-one : (log : List Effect) (moment : ℕ) (from : NodeId) (m : Message) → length (row log moment from m).effects ≤ 1
row-one log moment from m = go m
  where
    begin-one : (s : StampParts) (timeout : ℕ) (r : Option RecordState) → length (begin_by moment from s timeout r).effects ≤ 1
    begin-one s timeout None = omega arith
    begin-one s timeout (Some (Unknown t)) = omega arith
    begin-one s timeout (Some (Decided d)) = omega arith

    close-one : (s : StampParts) (d : Decision) (r : Option RecordState) → length (close_by from s d r).effects ≤ 1
    close-one s d None = omega arith
    close-one s d (Some (Unknown t)) = omega arith
    close-one s d (Some (Decided x)) = omega arith

    go : (x : Message) → length (row log moment from x).effects ≤ 1
    go (message.Begin s timeout) = begin-one s timeout (record_of (book log) s)
    go (message.Commit s) = close-one s _ (record_of (book log) s)
    go (message.Withdraw s) = close-one s _ (record_of (book log) s)
    go x = omega arith

quiet-one : (t : Bool) (g : Given) → length g.effects ≤ 1 → length (if t then g else quiet).effects ≤ 1
quiet-one true g h = h
quiet-one false g h = omega arith

message-one : (log : List Effect) (moment : ℕ) (from : NodeId) (m : Message) → length (on_message log moment from m).effects ≤ 1
unfolding on_message
message-one log moment from m = quiet-one (is_broker from.kind) (row log moment from m) (row-one log moment from m)

-- ---- and these are Begins and Decides alone

row-votes : (log : List Effect) (moment : ℕ) (from : NodeId) (m : Message) → AreVotes (row log moment from m).effects
row-votes log moment from m = go m
  where
    begin-votes : (s : StampParts) (timeout : ℕ) (r : Option RecordState) → AreVotes (begin_by moment from s timeout r).effects
    begin-votes s timeout None = (refl, tt)
    begin-votes s timeout (Some (Unknown t)) = tt
    begin-votes s timeout (Some (Decided d)) = tt

    close-votes : (s : StampParts) (d : Decision) (r : Option RecordState) → AreVotes (close_by from s d r).effects
    close-votes s d None = tt
    close-votes s d (Some (Unknown t)) = (refl, tt)
    close-votes s d (Some (Decided x)) = tt

    go : (x : Message) → AreVotes (row log moment from x).effects
    go (message.Begin s timeout) = begin-votes s timeout (record_of (book log) s)
    go (message.Commit s) = close-votes s _ (record_of (book log) s)
    go (message.Withdraw s) = close-votes s _ (record_of (book log) s)
    go x = tt

quiet-votes : (t : Bool) (g : Given) → AreVotes g.effects → AreVotes (if t then g else quiet).effects
quiet-votes true g h = h
quiet-votes false g h = tt

message-votes : (log : List Effect) (moment : ℕ) (from : NodeId) (m : Message) → AreVotes (on_message log moment from m).effects
unfolding on_message
message-votes log moment from m = quiet-votes (is_broker from.kind) (row log moment from m) (row-votes log moment from m)

abbrev pub HaveVotes : Base → Hall → Type 0
HaveVotes b h = (s : MemberNumber) → log_at b.opened s ≡ [] → AreVotes (all_effects (h.members s))

module _ (b : Base) (h : Hall) (c : HallFacts b h) (fates : List Fate) where
  took-votes : (m : Member) (o : Option Sending) → AreVotes (all_effects m) → AreVotes (all_effects (member_took m o))
  took-votes m None v = v
  took-votes m (Some x) v = subst AreVotes (append_assoc m.gated m.fresh (on_message (all_effects m) m.moment x.post.from x.post.message).effects)
      (every-append (λ (e : Effect). is_vote_effect e ≡ true) (all_effects m) (on_message (all_effects m) m.moment x.post.from x.post.message).effects v (message-votes (all_effects m) m.moment x.post.from x.post.message))

  votes-either : (t : Bool) (x y : Member) → AreVotes (all_effects x) → AreVotes (all_effects y) → AreVotes (all_effects (if t then x else y))
  votes-either true x y v u = v
  votes-either false x y v u = u

  pub step-votes : (e : Entry) → Rule b fates h e → is_quiet e ≡ true → HaveVotes b h → HaveVotes b (step b h e)
  step-votes (Take node number) r q v s blank = votes-either (same_node node (member s)) (member_took (h.members s) (numbered h.sendings number)) (h.members s) (took-votes (h.members s) (numbered h.sendings number) (v s blank)) (v s blank)
  step-votes (Go node) r q v s blank = votes-either (same_node node (member s)) (h.members s) (h.members s) (v s blank) (v s blank)
  step-votes (Learn node stamp committed) r q v s blank = absurd r
  step-votes (Hear node) r q v s blank = no (sym (ap is_some c.last) ∙ r.some)
  step-votes (Gate node) r q v s blank = votes-either (same_node node (member s)) (shut (h.members s)) (h.members s) (subst AreVotes (sym (append-nil (all_effects (h.members s)))) (v s blank)) (v s blank)
  step-votes (Down node cause) r q v s blank = votes-either (same_node node (member s)) (h.members s) (h.members s) (v s blank) (v s blank)
  step-votes _ r q v s blank = no q

-- ---- the whole hall

abbrev pub Loads : Base → Hall → Type 0
Loads b h = (s : MemberNumber) → log_at b.opened s ≡ [] → length (all_effects (h.members s)) ≤ load s h.taken h.sendings (length b.lines)

module _ (b : Base) (h : Hall) (c : HallFacts b h) (w : HallWays b h) (fates : List Fate) (plain : Every IsPlain fates) (s : MemberNumber) (l : length (all_effects (h.members s)) ≤ load s h.taken h.sendings (length b.lines)) where
  abbrev n : ℕ
  n = length b.lines

  same-load : (later : List ℕ) (more : List Sending) → ((i : ℕ) → trues (marks (broker i) (member s) h.taken 1 h.sendings) ≤ trues (marks (broker i) (member s) later 1 more))
      → length (all_effects (h.members s)) ≤ load s later more n
  same-load later more f = omega (arith, l, load-grows s h.taken later h.sendings more n f)

  module _ (node : NodeId) (number : ℕ) (r : MayTake fates (world_of h) node number) where
    abbrev x : Sending
    x = r.sending

    abbrev later : List ℕ
    later = number ∷ h.taken

    free : count number h.taken ≡ 0
    free = untaken b h c fates plain node number r

    grows-at : (i : ℕ) (t : Bool) → between (broker i) (member s) x.post ≡ t → trues (marks (broker i) (member s) h.taken 1 h.sendings) ≤ trues (marks (broker i) (member s) later 1 h.sendings)
    grows-at i true e = let k : trues (marks (broker i) (member s) later 1 h.sendings) ≡ suc (trues (marks (broker i) (member s) h.taken 1 h.sendings)) =
        flips-trues (marks (broker i) (member s) h.taken 1 h.sendings) (marks (broker i) (member s) later 1 h.sendings) x.post.message (these-flip b h number x r.sent free (broker i) (member s) e) in omega (arith, k)
    grows-at i false e = let k : marks (broker i) (member s) later 1 h.sendings ≡ marks (broker i) (member s) h.taken 1 h.sendings = same-marks b h number x r.sent free (broker i) (member s) e in
        subst (λ z. trues (marks (broker i) (member s) h.taken 1 h.sendings) ≤ trues z) (sym k) (omega arith)

    took-log : (m : Member) → length (all_effects (took m x.post.from x.post.message)) ≤ suc (length (all_effects m))
    took-log m =
        let e : List Effect = (on_message (all_effects m) m.moment x.post.from x.post.message).effects in
        let a : length (m.gated ++ (m.fresh ++ (on_message (all_effects m) m.moment x.post.from x.post.message).effects)) ≡ length m.gated + length (m.fresh ++ (on_message (all_effects m) m.moment x.post.from x.post.message).effects) =
        length-append m.gated (m.fresh ++ (on_message (all_effects m) m.moment x.post.from x.post.message).effects) in
        let d : length (m.fresh ++ (on_message (all_effects m) m.moment x.post.from x.post.message).effects) ≡ length m.fresh + length (on_message (all_effects m) m.moment x.post.from x.post.message).effects =
        length-append m.fresh (on_message (all_effects m) m.moment x.post.from x.post.message).effects in
        omega (arith, message-one (all_effects m) m.moment x.post.from x.post.message, a, d, length-append m.gated m.fresh)

    mine : same_node node (member s) ≡ true → length (all_effects (took (h.members s) x.post.from x.post.message)) ≤ load s later h.sendings n
    mine is =
        let to-me : x.post.to ≡ member s = r.to ∙ same_is node (member s) is in
        let asker = asker-of b h w fates s x.post (way-of b h w fates node number r) to-me in
        let place : (1 ≤ asker.0) × (asker.0 ≤ n) = line-place h.taken b.lines asker.0 asker.1.line asker.1.there in
        let it : between (broker asker.0) (member s) x.post ≡ true = it-is b h number x r.sent free (broker asker.0) (member s) (ap (λ z. same_node z (broker asker.0)) asker.2 ∙ same_node-refl (broker asker.0)) (ap (λ z. same_node z (member s)) to-me ∙ same_node-refl (member s)) in
        let one : trues (marks (broker asker.0) (member s) later 1 h.sendings) ≡ suc (trues (marks (broker asker.0) (member s) h.taken 1 h.sendings)) =
        flips-trues (marks (broker asker.0) (member s) h.taken 1 h.sendings) (marks (broker asker.0) (member s) later 1 h.sendings) x.post.message (these-flip b h number x r.sent free (broker asker.0) (member s) it) in
        let more : suc (load s h.taken h.sendings n) ≤ load s later h.sendings n =
        load-more s h.taken later h.sendings h.sendings n asker.0 (λ j. grows-at j (between (broker j) (member s) x.post) refl) place.0 place.1 (omega (arith, one)) in
        omega (arith, more, l, took-log (h.members s))

    taking-load : length (all_effects ((step b h (Take node number)).members s)) ≤ load s later h.sendings n
    taking-load = go (same_node node (member s)) refl
      where
        go : (t : Bool) → same_node node (member s) ≡ t → length (all_effects (if t then member_took (h.members s) (numbered h.sendings number) else h.members s)) ≤ load s later h.sendings n
        go true is = subst (λ o. length (all_effects (member_took (h.members s) o)) ≤ load s later h.sendings n) (sym r.sent) (mine is)
        go false is = same-load later h.sendings (λ j. grows-at j (between (broker j) (member s) x.post) refl)

  gating-load : (node : NodeId) → length (all_effects ((step b h (Gate node)).members s)) ≤ load s h.taken (step b h (Gate node)).sendings n
  gating-load node =
      subst (λ z. length z ≤ load s h.taken (step b h (Gate node)).sendings n) (shut-log b h (same_node node (member s)) (h.members s))
      (same-load h.taken (h.sendings ++ sendings_of h.ticks node (life_of h node.kind node.number).outs) (λ i.
      let a : marks (broker i) (member s) h.taken 1 (h.sendings ++ sendings_of h.ticks node (life_of h node.kind node.number).outs)
      ≡ marks (broker i) (member s) h.taken 1 h.sendings ++ marks (broker i) (member s) h.taken (1 + length h.sendings) (sendings_of h.ticks node (life_of h node.kind node.number).outs) =
      marks-append (broker i) (member s) h.taken 1 h.sendings (sendings_of h.ticks node (life_of h node.kind node.number).outs) in
      let d : trues (marks (broker i) (member s) h.taken 1 h.sendings ++ marks (broker i) (member s) h.taken (1 + length h.sendings) (sendings_of h.ticks node (life_of h node.kind node.number).outs))
      ≡ trues (marks (broker i) (member s) h.taken 1 h.sendings) + trues (marks (broker i) (member s) h.taken (1 + length h.sendings) (sendings_of h.ticks node (life_of h node.kind node.number).outs)) =
      trues-append (marks (broker i) (member s) h.taken 1 h.sendings) (marks (broker i) (member s) h.taken (1 + length h.sendings) (sendings_of h.ticks node (life_of h node.kind node.number).outs)) in
      subst (λ z. trues (marks (broker i) (member s) h.taken 1 h.sendings) ≤ trues z) (sym a) (omega (arith, d))))

  same-member : (e : Member) → e ≡ h.members s → length (all_effects e) ≤ load s h.taken h.sendings n
  same-member e is = subst (λ m. length (all_effects m) ≤ load s h.taken h.sendings n) (sym is) l

  pub step-load : (e : Entry) → Rule b fates h e → is_quiet e ≡ true → length (all_effects ((step b h e).members s)) ≤ load s (step b h e).taken (step b h e).sendings n
  step-load (Take node number) r q = taking-load node number r
  step-load (Go node) r q = same-member _ (if-same (same_node node (member s)) (h.members s))
  step-load (Learn node stamp committed) r q = absurd r
  step-load (Hear node) r q = no (sym (ap is_some c.last) ∙ r.some)
  step-load (Gate node) r q = gating-load node
  step-load (Down node cause) r q = same-member _ (if-same (same_node node (member s)) (h.members s))
  step-load _ r q = no q

pub step-loads : (b : Base) (h : Hall) (c : HallFacts b h) (w : HallWays b h) (fates : List Fate) (plain : Every IsPlain fates) (e : Entry) → Rule b fates h e → is_quiet e ≡ true → Loads b h → Loads b (step b h e)
step-loads b h c w fates plain e r q l s blank = step-load b h c w fates plain s (l s blank) e r q
