use Rattle.version_store.proofs.Names.{Image, IsImage, Place, Written, Entry, IsIn, BackStands, shown_in, log_of, ◌≡◌, ℕ, Option, Some, None, length, sym, ◌∙◌, ap, subst, arith, found_of}
use Rattle.version_store.proofs.PlaceLemmas.{log_sound}
use Rattle.version_store.proofs.StandLemmas.{back-stands}
use Rattle.version_store.proofs.stores.Store.fetch.Goals as goal

-- what is found is the log's entry
looked_up : (n : ℕ) (reads : Image) (place : Place) (e : Entry) (i : ℕ) (o : Option Written) → IsImage n reads → IsIn (log_of reads) e i → e.place ≡ place → o ≡ shown_in reads place → o ≡ Some (e.effect, e.back)
looked_up n reads place e i o shape there at is = is ∙ ap (λ (p : Place). shown_in reads p) (sym at) ∙ ((log_sound reads n shape).each e i there).shows

same_found : (a b : Written) → Some a ≡ Some b → a ≡ b
same_found a b is = cc is

none_some : (w : Written) → None ≡ Some w → ⊥
none_some w h = cc h

pub returns-in-Ok-Ok-clause-found : goal.returns-in-Ok-Ok-clause-found
returns-in-Ok-Ok-clause-found g c told e i there at =
    let s = c.args.self.now in
    let m = s.medium in
    let r = g.M.Medium.reads m in
    let shape : IsImage (g.M.Medium.page_count m) r = g.met.M.Medium.shape m r told (g.met.M.Medium.reads_now m told) in
    let size : length r ≡ s.pages = omega (arith, shape.count, s.count) in
    let same = same_found c.in-Ok-Ok.found (e.effect, e.back) (ap found_of (sym c.in-Ok-Ok.field-0-is) ∙ looked_up _ r c.args.place e i _ shape there at (c.in-Ok-Ok.ensures.found told size)) in
    (ap (λ (x : Written). x.0) same, ap (λ (x : Written). x.1) same)

pub returns-in-Ok-Err-clause-sound : goal.returns-in-Ok-Err-clause-sound
returns-in-Ok-Err-clause-sound g c told page damaged =
    let s = c.args.self.now in
    let m = s.medium in
    let r = g.M.Medium.reads m in
    let shape : IsImage (g.M.Medium.page_count m) r = g.met.M.Medium.shape m r told (g.met.M.Medium.reads_now m told) in
    let size : length r ≡ s.pages = omega (arith, shape.count, s.count) in
    let here = c.requires.here told in
    none_some (here.0.effect, here.0.back) (ap found_of (sym c.in-Ok-Err.field-0-is) ∙ looked_up _ r c.args.place here.0 here.1 _ shape here.2 here.3 (c.in-Ok-Err.ensures.found told size))

pub returns-in-Ok-Ok-clause-back : goal.returns-in-Ok-Ok-clause-back
returns-in-Ok-Ok-clause-back g c told =
    let s = c.args.self.now in
    let m = s.medium in
    let r = g.M.Medium.reads m in
    let shape : IsImage (g.M.Medium.page_count m) r = g.met.M.Medium.shape m r told (g.met.M.Medium.reads_now m told) in
    let size : length r ≡ s.pages = omega (arith, shape.count, s.count) in
    let here = c.requires.here told in
    let e = here.0 in
    let same = same_found c.in-Ok-Ok.found (e.effect, e.back) (ap found_of (sym c.in-Ok-Ok.field-0-is) ∙ looked_up _ r c.args.place e here.1 _ shape here.2 here.3 (c.in-Ok-Ok.ensures.found told size)) in
    let stands = back-stands (log_of r) here.1 e.effect e.back ((log_sound r _ shape).each e here.1 here.2).back in
    subst (λ (i : Image). BackStands (log_of i) c.in-Ok-Ok.found) (sym (c.find.ensures.reads told)) (subst (λ (w : Written). BackStands (log_of r) w) (sym same) stands)
