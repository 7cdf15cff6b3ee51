use Rattle.folder_look.proofs.Names.{logs_of, given_up_by, ◌∙◌, ◌+◌, ◌++◌, rules, sym, suc}
use Rattle.folder_look.proofs.VolumeLemmas.{going-by, going-on, steps-are}
use Rattle.folder_look.proofs.rows.push_given_up.Goals.{then-is_early+in_ok-push_behind, else-is_early}
use Rattle.folder_look.proofs.rows.push_given_up.Goals as goal

pub loop-medium-preserved : goal.loop-medium-preserved
loop-medium-preserved c =
    let o = c.args.object in
    let choice = c.args.choice.now in
    let media = c.args.media.now in
    let m = c.medium-item.result in
    let i = c.loop-medium.medium-index in
    let volumes = c.loop-medium.volumes in
    let before = c.loop-medium.before.now in
    let few = c.loop-medium.invariant.few in
    let all = given_up_by choice o c.args.last (logs_of o.repository media) in
    elim c.if-is_early.branch [
      | then-is_early+in_ok-push_behind w ↦ record {
        few = search rules;
        adds = steps-are choice o c.args.last (i + 1) media c.if-is_early.rows.items w.push_behind.new.rows.items c.if-is_early.volumes (suc volumes) c.if-is_early.before.now m.log (c.args.rows.now.items ++ all)
            (search rules) (search rules) (search rules)
            (going-on choice o c.args.last volumes i before media m c.args.rows.now.items c.loop-medium.rows.items w.push_behind.new.rows.items all c.loop-medium-test.true c.medium-item.is
            (sym c.is_early.ensures ∙ w.if-is_early.true) c.loop-medium.invariant.adds (search rules));
      }
      | else-is_early w ↦ record {
        few = search rules;
        adds = steps-are choice o c.args.last (i + 1) media c.if-is_early.rows.items c.loop-medium.rows.items c.if-is_early.volumes volumes c.if-is_early.before.now before (c.args.rows.now.items ++ all)
            (search rules) (search rules) (search rules)
            (going-by choice o c.args.last volumes i before media m c.args.rows.now.items c.loop-medium.rows.items all c.loop-medium-test.true c.medium-item.is
            (sym c.is_early.ensures ∙ w.if-is_early.false) c.loop-medium.invariant.adds);
      }
    ]
