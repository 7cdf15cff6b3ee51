use Rattle.commit_watch.proofs.Names.{◌≡◌, ◌∷◌, subst, sym, ObjectId, Mark, on_ok, standing_at, standing_of, terms_in}
use Rattle.commit_watch.proofs.StandingLemmas.{standing-put, put-asked}
use Rattle.commit_watch.proofs.scans.read_mark.Goals as goal

pub returns-in-Put : goal.returns-in-Put
returns-in-Put g c = λ m h. on_ok c.add_put.result (λ news.
    let t = terms_in c.args.scan.now c.args.moved.now in
    subst (λ (f : Mark). (o : ObjectId) → standing_at c.add_put.new.standings o ≡ standing_of t o (f ∷ m)) (sym c.in-Put.is)
    (standing-put t c.put_of-put.result c.in-Put.object c.in-Put.start c.in-Put.value m (λ o. standing_at c.args.standings.now o) (λ o. standing_at c.add_put.new.standings o)
    (put-asked c.args.scan.now c.args.moved.now c.in-Put.object c.in-Put.start c.put_of-put.result c.cursor_in-cursor.result c.put_of-put.ensures c.cursor_in-cursor.ensures) h news)) c.add_put.ensures
