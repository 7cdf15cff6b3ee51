use Rattle.std.proofs.Common.{sym, subst}
use Rattle.script_replay.specs.Replays.{HaveScripts}
use Rattle.log_replay.specs.Folders.{items_of, tries_of}
use Rattle.log_replay.specs.Telling.{AreDecided, left_at, told_at}
use Rattle.log_replay.specs.Untold.{Tells}
use Rattle.log_replay.proofs.GiftLemmas.{begin-given}
use Rattle.log_replay.proofs.ListLemmas.{scripts-so, tells-so}
use Rattle.log_replay.proofs.RunLemmas.{from-run, have-brokers, to-run, whole}
use Rattle.log_replay.proofs.tells.told_of.Goals as goal

pub returns-clause-tells : goal.returns-clause-tells
returns-clause-tells c = λ script reads.
    let brokers = c.args.brokers.now in
    let repositories = c.args.repositories.now in
    let k = whole script repositories brokers in
    let teller = c.in_ok-told.field-0 in
    let told = c.in_ok-told.ensures.told script reads in
    let given = begin-given k (tries_of script (items_of brokers)) (told_at teller.told) (left_at teller.puts) told (to-run script repositories brokers c.requires.brokers) (from-run script repositories brokers c.requires.brokers) in
    subst (λ z. Tells k z c.in_ok-told-2.untried) (sym c.in_ok-told-3.ensures.items)
    (tells-so k c.in_ok-told-2.told.entries c.in_ok-told-3.ensures.rising c.in_ok-told-2.untried (c.in_ok-told-2.ensures.gives k (subst (AreDecided k) (sym c.as_slice.ensures.value) (c.in_ok-told.ensures.knows script)) (have-brokers script repositories brokers) given))

pub returns-clause-scripts : goal.returns-clause-scripts
returns-clause-scripts c =
    subst HaveScripts (sym c.in_ok-told-3.ensures.items)
    (scripts-so c.in_ok-told-2.told.entries c.in_ok-told-3.ensures.rising (c.in_ok-told-2.ensures.scripts c.in_ok-told.ensures.scripts))
