use Rattle.version_store.proofs.Names.{Image, IsImage, is_blank, gated_page, Laid, body_of, bytes_of, ◌≡◌, ◌+◌, ◌<◌, List, [], ◌∷◌, ℕ, IsTrue, length, map, drop, get_or, zero, suc, ◌∙◌, ap, arith, Vec, refl, Global, list_all, drop-set-lt}
use Rattle.version_store.proofs.GrownLemmas.{no_page, blank_clean, clean_on, grown_none, grown_leaves, grown_more, blank_here}
use Rattle.version_store.proofs.writes.write_pages.Goals as goal

body_at : (bodies : List (Vec ℕ Global)) (pages : List Laid) (i : ℕ) (d : Vec ℕ Global) → bytes_of bodies ≡ map body_of pages → i < length bodies → (i < length pages) × ((get_or bodies i d).items ≡ body_of (get_or pages i no_page))
body_at [] pages i d is within = absurd (omega arith)
body_at (b ∷ bodies) [] i d is within = absurd (cc is)
body_at (b ∷ bodies) (p ∷ pages) zero d is within = (omega arith, (cc is))
body_at (b ∷ bodies) (p ∷ pages) (suc i) d is within =
    let rest = body_at bodies pages i d (cc is) (omega arith) in
    (omega (arith, rest.0), rest.1)

pub loop-body-init : goal.loop-body-init
loop-body-init g c = record {
  at = omega arith;
  size = refl;
  last = refl;
  open_now = c.requires.open;
  later = omega arith;
  blank = c.requires.blank;
  clean = λ told page blank. blank_clean (get_or (g.M.Medium.reads c.args.medium.now) page []) blank;
  content = λ told log pages rest fit same. grown_none g.M.Medium.stages g.M.Medium.reads g.M.Medium.may_leave log c.args.first pages c.args.medium.now
      (λ i left. g.met.M.Medium.only_now c.args.medium.now i told left) rest fit;
}

pub returns-in_err-put-clause-any_moment : goal.returns-in_err-put-clause-any_moment
returns-in_err-put-clause-any_moment g c told log pages rest fit same =
    let mid = c.loop-body.medium in
    let now = c.put.new.medium in
    let i = c.loop-body.body-index in
    let item = body_at c.args.bodies.now pages i c.body-item.result same c.loop-body-test.true in
    let is = c.deref.ensures.value ∙ ap (λ (v : Vec ℕ Global). v.items) c.body-item.is ∙ item.1 in
    let shape : IsImage (g.M.Medium.page_count mid) (g.M.Medium.reads mid) = g.met.M.Medium.shape mid (g.M.Medium.reads mid) told (g.met.M.Medium.reads_now mid told) in
    let within : c.args.first + i < length (g.M.Medium.reads mid) = omega (arith, shape.count, c.loop-body.invariant.size, c.requires.room, c.loop-body-test.true) in
    let put = rw c.loop-body.invariant.at at (c.put.ensures.any_moment told) in
    grown_leaves g.M.Medium.stages g.M.Medium.reads g.M.Medium.may_leave log c.args.first pages c.args.medium.now mid now i
    (c.loop-body.invariant.content told log pages rest fit same) item.0 within c.deref.result.now is put

pub loop-body-preserved : goal.loop-body-preserved
loop-body-preserved g c =
    let mid = c.loop-body.medium in
    let now = c.put.new.medium in
    let i = c.loop-body.body-index in
    let shape : (told : IsTrue g.M.Medium.tells) → IsImage (g.M.Medium.page_count mid) (g.M.Medium.reads mid) = λ told. g.met.M.Medium.shape mid (g.M.Medium.reads mid) told (g.met.M.Medium.reads_now mid told) in
    let within : (told : IsTrue g.M.Medium.tells) → c.args.first + i < length (g.M.Medium.reads mid) = λ told. (let size = (shape told).count in omega (arith, size, c.loop-body.invariant.size, c.requires.room, c.loop-body-test.true)) in
    record {
      at = omega (arith, c.loop-body.invariant.at);
      size = c.put.ensures.size ∙ c.loop-body.invariant.size;
      last = c.put.ensures.last ∙ c.loop-body.invariant.last;
      open_now = c.in_ok-put.ensures.failed;
      later = omega (arith, c.loop-body.invariant.later, c.put.ensures.cause.later);
      blank = λ told.
          let page = c.loop-body.page in
          let inside : page < length (g.M.Medium.reads mid) = omega (arith, within told, c.loop-body.invariant.at) in
          ap (λ (l : Image). list_all is_blank (drop (page + 1) l)) (c.in_ok-put.ensures.gated told)
          ∙ ap (λ (l : Image). list_all is_blank l) (drop-set-lt (page + 1) (g.M.Medium.reads mid) page (gated_page c.deref.result.now) (omega arith))
          ∙ (blank_here (g.M.Medium.reads mid) page inside (c.loop-body.invariant.blank told)).1;
      clean = λ told page blank.
          let inside : c.loop-body.page < length (g.M.Medium.reads mid) = omega (arith, within told, c.loop-body.invariant.at) in
          clean_on (g.M.Medium.reads mid) (g.M.Medium.reads now) c.loop-body.page c.deref.result.now inside (c.in_ok-put.ensures.gated told) page (c.loop-body.invariant.clean told page blank);
      content = λ told log pages rest fit same.
          let item = body_at c.args.bodies.now pages i c.body-item.result same c.loop-body-test.true in
          let is = c.deref.ensures.value ∙ ap (λ (v : Vec ℕ Global). v.items) c.body-item.is ∙ item.1 in
          let put = rw c.loop-body.invariant.at at (c.put.ensures.any_moment told) in
          let gated = rw c.loop-body.invariant.at at (c.in_ok-put.ensures.gated told) in
          grown_more g.M.Medium.stages g.M.Medium.reads g.M.Medium.may_leave log c.args.first pages c.args.medium.now mid now i
          (c.loop-body.invariant.content told log pages rest fit same) item.0 (within told) c.deref.result.now is put gated (c.in_ok-put.ensures.durable told);
    }
