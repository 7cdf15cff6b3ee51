-- The past that a retirement leaves.
use Rattle.std.proofs.Common.{◌≡◌, ◌∙◌, ◌≤◌, ◌++◌, IsTrue, ℕ, suc, true, false, List, [], ◌∷◌, length, reverse, Ok, ap, arith, inl, inr, refl, subst, sym}
use Rattle.std.proofs.lemmas.Bool.{or_right, true≢false}
use Rattle.std.proofs.lemmas.List.{length-append, map-append, reverse-append}
use Rattle.std.specs.List.{AllZip}
use Rattle.std.specs.Prelude.{Option, Some, None, Result, Vec}
use Rattle.std.specs.declared.alloc.Global.{Global}
use Rattle.pseudo_time.proofs.ListLemmas.{every-left}
use Rattle.pseudo_time.specs.Lists.{Every}
use Rattle.pseudo_time.specs.Nodes.{repository as named}
use Rattle.pseudo_time.specs.TimeParts.{TimeParts}
use Rattle.pseudo_time.specs.declared.nodes.NodeKind.TheVariants.{Repository}
use Rattle.effect_form.specs.declared.effects.Effect.{Effect}
use Rattle.effect_form.specs.declared.effects.Effect.TheVariants.{Whole}
use Rattle.medium_port.specs.Image.{Image}
use Rattle.version_store.specs.Storage.{storage}
use Rattle.version_store.specs.declared.stores.Store.{Store}
use Rattle.object_retirement.specs.Forward.{MayRetire, carried as kept_of, forward}
use Rattle.forward_copy.specs.Currents.{node_log}
use Rattle.forward_copy.specs.Wholes.{has_whole, is_whole}
use Rattle.plan_volumes.specs.Media.{Media}
use Rattle.plan_volumes.specs.Opening.{Opening}
use Rattle.plan_volumes.specs.Opening.TheVariants.{Open, Shut, Wanting}
use Rattle.plan_volumes.specs.Openings.{IsOpen, log_in}
use Rattle.plan_volumes.specs.RunVolumes.{AreOpen, EndRightly, goes_on, logs_of}
use Rattle.plan_volumes.specs.Standings.{KeepsIts}
use Rattle.archive_promise.specs.Answered.{WereLeft}
use Rattle.archive_promise.specs.Retired.{GoesOn, IsCarried, MayGoOn, StaysSo}
use Rattle.archive_promise.proofs.RetiredLemmas.{goes-on, may-go-on}
use Rattle.retire_command.specs.Retires.{ComesTo, WritesLast}
use Rattle.retire_command.specs.declared.outcomes.Retired.{Retired}
use Rattle.retire_command.specs.declared.outcomes.Retired.TheVariants.{Done, Refused, Fallen, NoMemory}
use Rattle.swallow_top.specs.Retirements.{HasPasts, LeavesLog, OfLogs}

-- ---- what is carried forward ends with a Whole

last-whole : (l : List Effect) → has_whole (l ++ Whole ∷ []) ≡ true
last-whole [] = refl
last-whole (f ∷ l) = or_right (is_whole f) (has_whole (l ++ Whole ∷ [])) (last-whole l)

forward-whole : (l : List Effect) (at : TimeParts) → has_whole (forward l at) ≡ true
forward-whole l at = ap has_whole (reverse-append (Whole ∷ []) (kept_of (reverse l) at (reverse l))) ∙ last-whole (reverse (kept_of (reverse l) at (reverse l)))

-- ---- lists side by side

zip-last : {A B : Type 0} (R : A → B → Type 0) (xs : List A) (x : A) (ys : List B) → AllZip R (xs ++ x ∷ []) ys → (front : List B) × (y : B) × (ys ≡ front ++ y ∷ []) × AllZip R xs front × R x y
zip-last R [] x [] h = absurd h
zip-last R [] x (y ∷ []) h = ([], y, refl, tt, h.0)
zip-last R [] x (y ∷ z ∷ ys) h = absurd h.1
zip-last R (w ∷ xs) x [] h = absurd h
zip-last R (w ∷ xs) x (y ∷ ys) h = let z = zip-last R xs x ys h.1 in (y ∷ z.0, z.1, ap (λ l. y ∷ l) z.2, (h.0, z.3), z.4)

ok-same : (a b : List Effect) → ◌≡◌ {A = Result (List Effect) ℕ} (Ok a) (Ok b) → a ≡ b
ok-same a b e = cc e

module _ {M : Type 0} (w : Media M) where
  -- ---- which volume is fresh

  one-opening : (a b : Opening M w) → a ∷ [] ≡ b ∷ [] → a ≡ b
  one-opening a b e = cc e

  not-first : (os front : List (Opening M w)) (store : Store M w) (effects : Vec Effect Global) → os ≡ front ++ Open store effects ∷ [] → effects.items ≡ [] → EndRightly Repository os → 1 ≤ length front
  not-first os (o ∷ front) store effects is empty ends = omega arith
  not-first os [] store effects is empty ends = by ends.front ends.last (sym is ∙ ends.is) ends.ends
    where
      by : (f : List (Opening M w)) (l : Opening M w) → Open store effects ∷ [] ≡ f ++ l ∷ [] → goes_on Repository (length f) l ≡ false → 1 ≤ 0
      by [] l e stops = absurd (true≢false (ap (goes_on Repository 0) (one-opening (Open store effects) l e) ∙ stops))
      by (x ∷ f) l e stops = let n = ap length e in let m = length-append f (l ∷ []) in absurd (omega (arith, n, m))

  -- ---- what is left of volumes that weren't written to

  module _ (tells : IsTrue w.tells) where
    keeps-log : (o : Opening M w) (m : Option M) (log : List Effect) → IsOpen o → KeepsIts w o m → LeavesLog w m log → log ≡ log_in o
    keeps-log (Open store effects) None log is k h = absurd h
    keeps-log (Open store effects) (Some m) log is k h = ok-same log effects.items (sym h.2 ∙ k tells h.0 h.1)
    keeps-log (Shut x cause) m log is k h = absurd is
    keeps-log (Wanting x) m log is k h = absurd is

    keeps-logs : (front : List (Opening M w)) (others : List (Option M)) (logs : List (List Effect)) → Every IsOpen front → AllZip (KeepsIts w) front others → AllZip (LeavesLog w) others logs → logs ≡ logs_of front
    keeps-logs [] [] [] all k h = refl
    keeps-logs [] [] (log ∷ logs) all k h = absurd h
    keeps-logs [] (m ∷ others) logs all k h = absurd k
    keeps-logs (o ∷ front) [] logs all k h = absurd k
    keeps-logs (o ∷ front) (m ∷ others) [] all k h = absurd h
    keeps-logs (o ∷ front) (m ∷ others) (log ∷ logs) all k h = λ i. keeps-log o m log all.0 k.0 h.0 i ∷ keeps-logs front others logs all.1 k.1 h.1 i

    module _ (r : ℕ) (at : TimeParts) (os : List (Opening M w)) (left : List (Option M)) (P : Image → Type 0) (opened : AreOpen os) (ends : EndRightly Repository os) (may : MayRetire (reverse (node_log (logs_of os))) at)
        (wrote : WritesLast w os left P) (whole : (c : Image) (log : List Effect) → P c → storage c ≡ Ok log → has_whole log ≡ true → log ≡ forward (node_log (logs_of os)) at) where
      before : logs_of os ≡ logs_of wrote.front ++ [] ∷ []
      before = ap logs_of wrote.is ∙ (map-append log_in wrote.front (Open wrote.store wrote.effects ∷ []) ∙ ap (λ (l : List Effect). logs_of wrote.front ++ l ∷ []) wrote.empty)

      -- the fresh volume's log, and what it has
      pub fresh-log : (logs : List (List Effect)) → AllZip (LeavesLog w) left logs → (log : List Effect) × (logs ≡ logs_of wrote.front ++ log ∷ []) × IsCarried at (logs_of wrote.front) log × ((c : Image) × P c × (storage c ≡ Ok log))
      fresh-log logs h =
          let z = zip-last (LeavesLog w) wrote.others (Some wrote.medium) logs (subst (λ (l : List (Option M)). AllZip (LeavesLog w) l logs) wrote.is_left h) in
          let all : Every IsOpen (wrote.front ++ Open wrote.store wrote.effects ∷ []) = subst (λ (l : List (Opening M w)). Every IsOpen l) wrote.is opened in
          let front : z.0 ≡ logs_of wrote.front = keeps-logs wrote.front wrote.others z.0 (every-left (λ (o : Opening M w). IsOpen o) wrote.front (Open wrote.store wrote.effects ∷ []) all) wrote.keep z.3 in
          let there : P z.4.0 = wrote.images tells z.4.0 z.4.1 in
          let some = not-first os wrote.front wrote.store wrote.effects wrote.is wrote.empty ends in (
            z.1,
            z.2 ∙ ap (λ (l : List (List Effect)). l ++ z.1 ∷ []) front,
            record {
              some = let n = length-logs wrote.front in omega (arith, n, some);
              may = subst (λ (l : List (List Effect)). MayRetire (reverse (node_log l)) at) before may;
              whole = λ is. subst (λ (l : List (List Effect)). z.1 ≡ forward (node_log l) at) before (whole z.4.0 z.1 there z.4.2 is);
            },
            (z.4.0, there, z.4.2),
          )
        where
          length-logs : (os : List (Opening M w)) → length (logs_of os) ≡ length os
          length-logs [] = refl
          length-logs (o ∷ os) = ap suc (length-logs os)

      pub wrote-some : OfLogs w r at os left (MayGoOn r at (logs_of os))
      wrote-some logs h =
          let k = fresh-log logs h in
          subst (λ (l : List (List Effect)). MayGoOn r at (logs_of os) l) (sym k.1)
          (subst (λ (l : List (List Effect)). MayGoOn r at l (logs_of wrote.front ++ k.0 ∷ [])) (sym before) (may-go-on r at (logs_of wrote.front) k.0 k.2))

      pub wrote-all : ((c : Image) → P c → storage c ≡ Ok (forward (node_log (logs_of os)) at)) → OfLogs w r at os left (GoesOn r at (logs_of os))
      wrote-all all logs h =
          let k = fresh-log logs h in
          let is : k.0 ≡ forward (node_log (logs_of os)) at = ok-same k.0 (forward (node_log (logs_of os)) at) (sym k.3.2 ∙ all k.3.0 k.3.1) in
          subst (λ (l : List (List Effect)). GoesOn r at (logs_of os) l) (sym k.1)
          (subst (λ (l : List (List Effect)). GoesOn r at l (logs_of wrote.front ++ k.0 ∷ [])) (sym before)
          (goes-on r at (logs_of wrote.front) k.0 k.2 (ap has_whole is ∙ forward-whole (node_log (logs_of os)) at)))

    -- ---- what came of the retirement

    stays-so : (r : ℕ) (at : TimeParts) (os : List (Opening M w)) (left : List (Option M)) → AreOpen os → AllZip (KeepsIts w) os left → OfLogs w r at os left (StaysSo r at (logs_of os))
    stays-so r at os left opened keep logs h cs past = subst (λ (l : List (List Effect)). WereLeft cs r l) (sym (keeps-logs os left logs opened keep h)) past

    pub has-pasts : (r : ℕ) (at : TimeParts) (os : List (Opening M w)) (left : List (Option M)) (retired : Retired) → EndRightly Repository os → ComesTo w (named r) at os left retired → HasPasts w r at os left retired
    has-pasts r at os left (Done text) ends c = wrote-all r at os left _ c.opened ends c.may c.wrote (λ i log is e whole. ok-same log _ (sym e ∙ is)) (λ i is. is)
    has-pasts r at os left (Refused line) ends c = stays-so r at os left c.opened c.keep
    has-pasts r at os left (Fallen line) ends (inl c) = λ opened logs h cs past. inr (stays-so r at os left opened c.keep logs h cs past)
    has-pasts r at os left (Fallen line) ends (inr c) = λ opened. wrote-some r at os left _ c.opened ends c.may c.wrote (λ i log is e whole. is.all log e whole)
    has-pasts r at os left NoMemory ends (inl c) = λ opened logs h cs past. inr (stays-so r at os left opened c logs h cs past)
    has-pasts r at os left NoMemory ends (inr c) = λ opened. wrote-some r at os left _ c.0 ends c.1 c.2 (λ i log is e whole. is.all log e whole)
