use Rattle.wire_core.proofs.Names.{Asked, Sent, post_of, asked_of, ℕ, ◌++◌, ◌∷◌, [], sym, ap, ◌∙◌, arith}
use Rattle.wire_core.proofs.SendLemmas.{asked-more, posted-more, numbered-more, tied-more}
use Rattle.wire_core.proofs.sendings.send_all.Goals as goal

pub loop-out-preserved : goal.loop-out-preserved
loop-out-preserved g c =
    let h = c.loop-out.invariant in
    let items = c.in_ok-push.ensures.items in
    let number = c.in-Some-number_behind.ensures in
    record {
      asked = asked-more _ _ _ c.loop-out.news.items _ _ h.asked (c.in_ok-fate.ensures.ok
          ∙ ap (λ (a : Asked). g.F.Fates.asked c.loop-out.fates ++ a ∷ []) (ap (λ (t : ℕ). record { number = c.in-Some-number_behind.number; tag = t; fate = c.in_ok-fate.fate }) c.tag.ensures ∙ sym (ap asked_of c.in_ok-sent.ensures.sent))) items;
      posted = posted-more c.args.from c.loop-out.yielded c.in-Some.out c.loop-out.news.items _ _ h.posted items (ap post_of c.in_ok-sent.ensures.sent);
      numbered = numbered-more c.args.first _ c.loop-out.news.items _ _ items h.numbered (ap (λ (x : Sent). x.number) c.in_ok-sent.ensures.sent) (omega (arith, number, c.len.ensures));
      tied = λ w sent marks t. tied-more w sent marks _ _ c.loop-out.news.items _ _ items (h.tied w sent marks t) c.in_ok-sent.ensures.tied;
    }
