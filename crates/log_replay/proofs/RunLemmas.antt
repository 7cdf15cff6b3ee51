-- The run that sixteen logs of repositories and of brokers are.
use Rattle.std.proofs.Common.{◌≡◌, ◌+◌, ℕ, zero, suc, List, [], ◌++◌, length, map, reverse, arith, refl, sym, ◌∙◌, ap, subst}
use Rattle.std.proofs.lemmas.List.{length-map}
use Rattle.std.specs.BTreeMap.{BTreeMap}
use Rattle.std.specs.Global.{Vec}
use Rattle.pseudo_time.specs.Lists.{Has}
use Rattle.pseudo_time.specs.Nodes.{broker}
use Rattle.pseudo_time.specs.StampParts.{StampParts}
use Rattle.pseudo_time.specs.declared.nodes.NodeId.{NodeId}
use Rattle.effect_form.specs.declared.effects.Effect.{Effect}
use Rattle.object_history.specs.Kept.{Settled}
use Rattle.serial_model.specs.Questions.{Tree}
use Rattle.broker_core.specs.Book.{book, tries}
use Rattle.world_core.specs.Deeds.{RunLogs, Try, attempt, written}
use Rattle.script_replay.specs.declared.attempts.Put.{Put}
use Rattle.log_replay.specs.Commits.{AreCommits}
unfoldable use Rattle.log_replay.specs.Folders.{all_tries}
use Rattle.log_replay.specs.Folders.{HaveBrokers, items_of, log_at, run_in, tries_of}
use Rattle.log_replay.specs.Puts.{puts_at, puts_by, versions_in}
use Rattle.log_replay.specs.Telling.{AreDecided, left_at}
use Rattle.log_replay.proofs.CommitLemmas.{are-decided}
use Rattle.log_replay.proofs.PutLemmas.{puts-written}
use Rattle.log_replay.proofs.WrittenLemmas.{has-onto, onto-has, up_to}

-- its tries, broker by broker
all-up : (script : List ℕ → Tree) (logs : NodeId → List Effect) (n : ℕ) → all_tries script logs n ≡ up_to script (λ b. logs (broker b)) n
unfolding all_tries
all-up script logs zero = refl
all-up script logs (suc n) = ap (λ z. z ++ map (attempt script) (tries (book (logs (broker (suc n)))))) (all-up script logs n)

module _ (script : List ℕ → Tree) (repositories brokers : List (Vec Effect)) where
  abbrev pub whole : RunLogs
  whole = run_in script (items_of repositories) (items_of brokers)

  pub have-brokers : HaveBrokers whole (items_of brokers)
  have-brokers b = refl

  pub all-decided : (commits : List Settled) → length repositories ≡ 16 → AreCommits (items_of repositories) commits → AreDecided whole commits
  all-decided commits many h = are-decided whole (items_of repositories) commits refl (length-map repositories (λ (l : Vec Effect). l.items) ∙ many) (λ r. refl) h

  pub all-written : (puts : BTreeMap StampParts (Vec Put)) → length repositories ≡ 16 → ((s : StampParts) → puts_at puts s ≡ puts_by s (items_of repositories) []) → (s : StampParts) → versions_in (left_at puts s) ≡ written whole s
  all-written puts many h s = h s ∙ puts-written whole (items_of repositories) refl (length-map repositories (λ (l : Vec Effect). l.items) ∙ many) (λ r. refl) s

  -- the tries that were read are its tries
  module _ (many : length brokers ≡ 16) where
    count : length (items_of brokers) + 0 ≡ 16
    count = let e = length-map brokers (λ (l : Vec Effect). l.items) in omega (arith, e, many)

    from-first : (i : ℕ) → whole.logs (broker (0 + suc i)) ≡ reverse (log_at (items_of brokers) (suc i))
    from-first i = let e : 0 + suc i ≡ suc i = omega arith in ap (λ b. whole.logs (broker b)) e

    pub to-run : (t : Try) → Has t (tries_of script (items_of brokers)) → Has t whole.tries
    to-run t h = subst (Has t) (sym (all-up script whole.logs 16)) (onto-has script (λ b. whole.logs (broker b)) (items_of brokers) 0 16 [] from-first count t h (λ u j. absurd j))

    pub from-run : (t : Try) → Has t whole.tries → Has t (tries_of script (items_of brokers))
    from-run t h = has-onto script (λ b. whole.logs (broker b)) (items_of brokers) 0 16 [] from-first count t (subst (Has t) (all-up script whole.logs 16) h) (λ u j. j)
