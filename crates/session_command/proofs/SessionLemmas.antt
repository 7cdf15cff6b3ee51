-- Batches that were answered one after another.
use Rattle.std.proofs.Common.{◌≡◌, ◌++◌, ◌+◌, ◌-◌, ◌<◌, ◌≤◌, ◌∙◌, ℕ, List, [], ◌∷◌, length, ap, append_assoc, arith, inl, inr, refl, subst, sym, ◌⊎◌}
use Rattle.std.specs.Prelude.{Option, ◌^◌}
use Rattle.std.specs.Io.KnownBytes.{Consumes}
use Rattle.std.proofs.KnownBytes.{Consumes-nil, Consumes-trans}
use Rattle.std.proofs.lemmas.List.{append-nil, length-append}
use Rattle.pseudo_time.specs.Lists.{Every}
use Rattle.pseudo_time.proofs.ListLemmas.{every-append}
use Rattle.medium_port.specs.declared.shelves.Shelf.{Ghosts}
use Rattle.session_form.specs.Sessions.{AreBatches, IsBatch, counted, lines_in}
use Rattle.command_words.specs.declared.commands.Options.{Options}
use Rattle.plan_volumes.specs.Media.{Media}
use Rattle.session_command.specs.Chains.{Answered, Chain, GoesOn, graver, gravest, gravest_from}
use Rattle.session_command.specs.Sessions.{EndsAtSource, EndsWell, Held, Stops}
use Rattle.session_command.specs.Standings.{Standing}
use Rattle.session_command.specs.Turns.{Turned, WentOn}
use Rattle.session_command.specs.declared.turns.Turn.{Turn}
use Rattle.session_command.specs.declared.turns.Turn.TheVariants.{On, Ended, Stopped}

gravest-more : (a : ℕ) (ns : List ℕ) (n : ℕ) → gravest_from a (ns ++ n ∷ []) ≡ graver (gravest_from a ns) n
gravest-more a [] n = refl
gravest-more a (m ∷ ns) n = gravest-more (graver a m) ns n

lines-more : (bs : List (List (List ℕ))) (b : List (List ℕ)) → lines_in (bs ++ b ∷ []) ≡ lines_in bs + (length b + 1)
lines-more [] b = omega arith
lines-more (c ∷ bs) b = let k = lines-more bs b in omega (arith, k)

batches-more : (text : List ℕ) (bs : List (List (List ℕ))) (front : List ℕ) (b : List (List ℕ)) → AreBatches text bs → IsBatch front b → AreBatches (text ++ front) (bs ++ b ∷ [])
batches-more text [] front b none is = (front, [], ap (λ (l : List ℕ). l ++ front) none ∙ sym (append-nil front), is, refl)
batches-more text (c ∷ bs) front b (f, rest, e, one, more) is = (f, rest ++ front, ap (λ (l : List ℕ). l ++ front) e ∙ append_assoc f rest front, one, batches-more rest bs front b more is)

module _ {H M : Type 0} (g : Ghosts H M) (w : Media M) (o : Options) (repositories brokers : List ℕ) where
  chain-more : (k : ℕ) (bs : List (List (List ℕ))) (ns : List ℕ) (b : List (List ℕ)) (n : ℕ) (s t u : Standing H) → Chain g w o repositories brokers k bs ns s t → Answered g w o repositories brokers (counted (k + lines_in bs)) b n t u
      → Chain g w o repositories brokers k (bs ++ b ∷ []) (ns ++ n ∷ []) s u
  chain-more k [] [] b n s t u e a =
      let same : k + 0 ≡ k = omega arith in
      (u, subst (λ (x : Standing H). Answered g w o repositories brokers (counted k) b n x u) e (subst (λ (m : ℕ). Answered g w o repositories brokers (counted m) b n t u) same a), refl)
  chain-more k [] (m ∷ ns) b n s t u e a = absurd e
  chain-more k (c ∷ bs) [] b n s t u e a = absurd e
  chain-more k (c ∷ bs) (m ∷ ns) b n s t u (v, one, more) a =
      let same : k + ((length c + 1) + lines_in bs) ≡ (k + (length c + 1)) + lines_in bs = omega arith in
      (v, one, chain-more (k + (length c + 1)) bs ns b n v t u more (subst (λ (x : ℕ). Answered g w o repositories brokers (counted x) b n t u) same a))

  -- the source may have failed earlier, too
  stops-before : (input : Option (List ℕ)) (faults_before faults_mid faults lines last : ℕ) (t u : Standing H) → faults_before ≤ faults_mid → Stops g w o repositories brokers input faults_mid faults lines last t u
      → Stops g w o repositories brokers input faults_before faults lines last t u
  stops-before input faults_before faults_mid faults lines last t u later (inl e) = inl e
  stops-before input faults_before faults_mid faults lines last t u later (inr (inl e)) = let r = e.rose in inr (inl (record { status_is = e.status_is; rose = omega (arith, r, later); still = e.still; line = e.line }))
  stops-before input faults_before faults_mid faults lines last t u later (inr (inr e)) = inr (inr e)

  pub held-before : (input : Option (List ℕ)) (faults_before faults_mid faults before status : ℕ) (s t : Standing H) → faults_before ≤ faults_mid → Held g w o repositories brokers input faults_mid faults before status s t
      → Held g w o repositories brokers input faults_before faults before status s t
  held-before input faults_before faults_mid faults before status s t later h = record {
    text = h.text;
    batches = h.batches;
    are = h.are;
    ahead = h.ahead;
    read = h.read;
    statuses = h.statuses;
    go_on = h.go_on;
    middle = h.middle;
    chain = h.chain;
    ends = by h.ends;
  }
    where
      by : ((status ≡ gravest h.statuses) × (EndsWell h.middle t h.ahead ⊎ ((length h.batches ≡ 2 ^ 64 - 1) × (t ≡ h.middle)))) ⊎ Stops g w o repositories brokers h.ahead faults_mid faults (counted (before + lines_in h.batches)) status h.middle t
          → ((status ≡ gravest h.statuses) × (EndsWell h.middle t h.ahead ⊎ ((length h.batches ≡ 2 ^ 64 - 1) × (t ≡ h.middle)))) ⊎ Stops g w o repositories brokers h.ahead faults_before faults (counted (before + lines_in h.batches)) status h.middle t
      by (inl e) = inl e
      by (inr e) = inr (stops-before h.ahead faults_before faults_mid faults (counted (before + lines_in h.batches)) status h.middle t later e)

  -- the batches so far
  pub record SoHeld (input now : Option (List ℕ)) (before lines status count : ℕ) (s t : Standing H) : Type 0 where
    pub text : List ℕ
    pub batches : List (List (List ℕ))
    pub are : AreBatches text batches
    pub read : Consumes input now text
    pub statuses : List ℕ
    pub go_on : Every GoesOn statuses
    pub chain : Chain g w o repositories brokers before batches statuses s t
    pub gravest_is : status ≡ gravest statuses
    pub lines_are : lines ≡ counted (before + lines_in batches)
    pub count_is : count ≡ length batches

  pub so-held-none : (input : Option (List ℕ)) (before lines : ℕ) (s : Standing H) → lines ≡ before → before ≤ 2 ^ 64 - 1 → SoHeld input input before lines 0 0 s s
  so-held-none input before lines s same most = record {
    text = [];
    batches = [];
    are = refl;
    read = Consumes-nil input;
    statuses = [];
    go_on = tt;
    chain = refl;
    gravest_is = refl;
    lines_are = omega (arith, same, most);
    count_is = refl;
  }

  module _ (input mid now : Option (List ℕ)) (faults_before faults_mid faults before lines status count : ℕ) (s t : Standing H) (so : SoHeld input mid before lines status count s t) where
    -- one more
    pub so-held-more : (new_lines new_status last new_count : ℕ) (u : Standing H) → WentOn g w o repositories brokers mid now faults_mid faults lines new_lines last t u → new_status ≡ graver status last → new_count ≡ count + 1
        → SoHeld input now before new_lines new_status new_count s u
    so-held-more new_lines new_status last new_count u went graver_is count_is =
        let l = so.lines_are in
        let k = lines-more so.batches went.batch in
        let c = went.count in
        let n = length-append so.batches (went.batch ∷ []) in
        let m = so.count_is in
        record {
          text = so.text ++ went.front;
          batches = so.batches ++ went.batch ∷ [];
          are = batches-more so.text so.batches went.front went.batch so.are went.is;
          read = Consumes-trans input mid now so.text went.front so.read went.read;
          statuses = so.statuses ++ last ∷ [];
          go_on = every-append GoesOn so.statuses (last ∷ []) so.go_on (went.goes, tt);
          chain = chain-more before so.batches so.statuses went.batch last s t u so.chain (subst (λ (x : ℕ). Answered g w o repositories brokers x went.batch last t u) l went.answered);
          gravest_is = graver_is ∙ (ap (λ (x : ℕ). graver x last) so.gravest_is ∙ sym (gravest-more 0 so.statuses last));
          lines_are = omega (arith, l, k, c);
          count_is = omega (arith, count_is, n, m);
        }

    -- the input ended
    pub held-well : (u : Standing H) → EndsWell t u mid → Held g w o repositories brokers input faults_before faults before status s u
    held-well u ends = record {
      text = so.text;
      batches = so.batches;
      are = so.are;
      ahead = mid;
      read = so.read;
      statuses = so.statuses;
      go_on = so.go_on;
      middle = t;
      chain = so.chain;
      ends = inl (so.gravest_is, inl ends);
    }

    -- the session ends for another cause
    pub held-stopped : (u : Standing H) (last : ℕ) → faults_before ≤ faults_mid → Stops g w o repositories brokers mid faults_mid faults lines last t u → Held g w o repositories brokers input faults_before faults before last s u
    held-stopped u last later ends = record {
      text = so.text;
      batches = so.batches;
      are = so.are;
      ahead = mid;
      read = so.read;
      statuses = so.statuses;
      go_on = so.go_on;
      middle = t;
      chain = so.chain;
      ends = inr (subst (λ (x : ℕ). Stops g w o repositories brokers mid faults_before faults x last t u) so.lines_are (stops-before mid faults_before faults_mid faults lines last t u later ends));
    }

    -- no more batches could be counted
    pub held-full : count ≡ 2 ^ 64 - 1 → Held g w o repositories brokers input faults_before faults before status s t
    held-full full = record {
      text = so.text;
      batches = so.batches;
      are = so.are;
      ahead = mid;
      read = so.read;
      statuses = so.statuses;
      go_on = so.go_on;
      middle = t;
      chain = so.chain;
      ends = inl (so.gravest_is, inr (sym so.count_is ∙ full, refl));
    }

    -- after one more turn
    module _ (new_lines last : ℕ) (u : Standing H) (turn : Turn) (turned : Turned g w o repositories brokers mid now faults_mid faults lines new_lines last t u turn) where
      turned-as : (other : Turn) → turn ≡ other → Turned g w o repositories brokers mid now faults_mid faults lines new_lines last t u other
      turned-as other is = subst (λ (x : Turn). Turned g w o repositories brokers mid now faults_mid faults lines new_lines last t u x) is turned

      pub turn-on : turn ≡ On → (new_status new_count : ℕ) → new_status ≡ graver status last → new_count ≡ count + 1 → SoHeld input now before new_lines new_status new_count s u
      turn-on is new_status new_count graver_is count_is = so-held-more new_lines new_status last new_count u (turned-as On is) graver_is count_is

      pub turn-ended : turn ≡ Ended → Held g w o repositories brokers input faults_before faults before status s u
      turn-ended is = held-well u (turned-as Ended is)

      pub turn-stopped : turn ≡ Stopped → faults_before ≤ faults_mid → Held g w o repositories brokers input faults_before faults before last s u
      turn-stopped is later = held-stopped u last later (turned-as Stopped is)
