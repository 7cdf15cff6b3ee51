use Rattle.std.proofs.Common.{◌++◌, ◌+◌, [], map, reverse, take, refl, sym, ◌∙◌, ap, subst}
use Rattle.std.proofs.lemmas.List.{take_all}
use Rattle.pseudo_time.specs.Lists.{Has}
use Rattle.broker_core.specs.Book as books
use Rattle.broker_core.specs.Book.{book, tries}
use Rattle.world_core.specs.Deeds.{attempt}
use Rattle.log_replay.specs.Folders.{Reads, ReadsLogs, items_of, tries_of}
use Rattle.log_replay.specs.Telling.{AreDecided, AreTold, committed_by, left_at, told_at}
use Rattle.log_replay.specs.Tellers.{HasTold, KeysIn, Knows}
use Rattle.log_replay.specs.Unfit.{stamps_of, stamps_onto, tries_in}
use Rattle.std.specs.BTreeMap.{is_at}
use Rattle.std.specs.Map.{lookup}
use Rattle.pseudo_time.specs.StampParts.{stamp_cmp}
use Rattle.log_replay.proofs.RunLemmas.{all-decided, all-written, whole}
use Rattle.log_replay.proofs.TellLemmas.{scripts-none, told-none, told-same}
use Rattle.log_replay.proofs.UnfitLemmas.{fault-of, reads-next, stamps-next, tries-next, unfit-log}
use Rattle.log_replay.proofs.tells.attempts_of.Goals as goal

pub returns-in-Err-clause-unfit : goal.returns-in-Err-clause-unfit
returns-in-Err-clause-unfit c =
    let brokers = c.args.brokers.now in
    let i = c.loop-place.place in
    fault-of (items_of brokers) (i + 1) _ c.in-Err.fault (λ h. unfit-log brokers i (i + 1) c.index-brokers-place.result c.as_slice.result.now c.loop-place-test.true c.index-brokers-place.is c.as_slice.ensures.value refl h)
    (c.in-Err.ensures.unfit (stamps_onto (items_of (take i brokers)) []) c.loop-place.invariant.keys)

pub loop-place-preserved : goal.loop-place-preserved
loop-place-preserved c =
    let now = c.loop-place.invariant in
    let brokers = c.args.brokers.now in
    let i = c.loop-place.place in
    let low = c.loop-place-test.true in
    let log = c.index-brokers-place.result in
    let is = c.index-brokers-place.is in
    let same = c.as_slice.ensures.value in
    let old = c.loop-place.teller in
    let new = c.tell_log.new.self in
    record {
      commits = c.in-Ok.ensures.commits ∙ now.commits;
      keys = subst (λ z. KeysIn z new) (sym (stamps-next brokers i log low is))
          (subst (λ l. KeysIn (stamps_of (tries_in l) ++ stamps_onto (items_of (take i brokers)) []) new) same (c.in-Ok.ensures.keys (stamps_onto (items_of (take i brokers)) []) now.keys));
      scripts = λ all. c.in-Ok.ensures.scripts (now.scripts all);
      told = λ script k reads knows told.
          let w = reads-next script brokers i log low is reads in
          let ts = tries_of script (items_of (take i brokers)) in
          let step = subst (λ l. ((t : books.Try) → Has t (tries (book (reverse l))) → Reads script t.task.script) → Knows k old → HasTold k ts old → HasTold k (map (attempt script) (tries (book (reverse l))) ++ ts) new) same (c.in-Ok.ensures.told script k ts) in
          told-same k _ _ (told_at new.told) (left_at new.puts) (sym (tries-next script brokers i log low is)) (step w.1 (subst (λ z. AreDecided k z.items) (sym now.commits) knows) (now.told script k w.0 knows told));
    }

pub returns-clause-scripts : goal.returns-clause-scripts
returns-clause-scripts c = c.loop-place.invariant.scripts (scripts-none (told_at c.new.result) (λ s. ap (λ es. lookup (is_at (stamp_cmp s)) es) c.new.ensures.empty))

pub returns-clause-knows : goal.returns-clause-knows
returns-clause-knows c = λ script s inside.
    ap (λ z. committed_by z.items s) c.loop-place.invariant.commits ∙ all-decided script c.args.repositories.now c.args.brokers.now c.in_ok-commits.commits.items c.requires.repositories c.in_ok-commits.ensures s inside

pub returns-clause-told : goal.returns-clause-told
returns-clause-told c = λ script reads.
    let brokers = c.args.brokers.now in
    let repositories = c.args.repositories.now in
    let k = whole script repositories brokers in
    let all = take_all c.loop-place.place brokers c.loop-place-test.false in
    subst (λ z. AreTold k (tries_of script (items_of z)) (told_at c.loop-place.teller.told) (left_at c.loop-place.teller.puts)) all
    (c.loop-place.invariant.told script k (subst (λ z. ReadsLogs script (items_of z)) (sym all) reads) (all-decided script repositories brokers c.in_ok-commits.commits.items c.requires.repositories c.in_ok-commits.ensures)
    (told-none k (told_at c.new.result) (left_at c.in_ok-puts.puts) (λ s. ap (λ es. lookup (is_at (stamp_cmp s)) es) c.new.ensures.empty) (all-written script repositories brokers c.in_ok-puts.puts c.requires.repositories c.in_ok-puts.ensures)))
