use Rattle.folder_look.proofs.Names.{sym, ap, ended_text}
use Rattle.folder_look.proofs.Appends.{before, named-so}
use Rattle.folder_look.proofs.attempts.push_ended.Goals as goal

pub returns-in-LaterRead : goal.returns-in-LaterRead
returns-in-LaterRead c = named-so c.push_refusal.result c.args.out.now.items _ _ (ended_text c.args.outcome.now) (sym (ap ended_text c.in-LaterRead.is)) c.push_refusal.ensures

pub returns-in-LaterVersion : goal.returns-in-LaterVersion
returns-in-LaterVersion c =
    named-so c.push_refusal-in-LaterVersion.result c.args.out.now.items _ _ (ended_text c.args.outcome.now) (sym (ap ended_text c.in-LaterVersion.is)) c.push_refusal-in-LaterVersion.ensures

pub returns-in_ok-push_named-in-Expired : goal.returns-in_ok-push_named-in-Expired
returns-in_ok-push_named-in-Expired c =
    let r = c.push_named-in-Expired-2.result in
    named-so r c.args.out.now.items _ _ (ended_text c.args.outcome.now) (sym (ap ended_text c.in-Expired.is))
    (before r c.args.out.now.items c.push_named-in-Expired.new.out.items _ _ _ c.in_ok-push_named-in-Expired.ensures c.push_named-in-Expired-2.ensures)
