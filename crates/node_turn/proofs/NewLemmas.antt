-- What a node has that was just opened.
use Rattle.std.specs.Option.{unwrap_or}
use Rattle.node_turn.proofs.Names.{NodeId, Effect, Base, opened_life, walk, walk_from, Sight, base_at, life_at, flags_at, IsOf, LeavesLog, IsReady, HasLife, IsUp, no_draft, up_flags, ◌≡◌, ℕ, true, false, List, [], length, Option, Some, IsTrue, refl, sym, ap, subst, ◌∙◌, is_some, Media, opened_log, opened_flags, origin_at, Meanings}
use Rattle.node_inputs.proofs.ReadyLemmas.{ready-durable}

-- ---- where nothing has happened yet

life-new : (k : Sight) (n : NodeId) (log : List Effect) → k.story ≡ [] → opened_log (origin_at k).opened n ≡ Some log → life_at k n ≡ opened_life (base_at k).start log
unfolding walk_from
life-new k n log new opened = ap (λ es. (walk (base_at k) es).life n) new ∙ ap (λ (o : Option (List Effect)). opened_life (base_at k).start (unwrap_or o [])) opened

flags-new : (k : Sight) (n : NodeId) (log : List Effect) → k.story ≡ [] → opened_log (origin_at k).opened n ≡ Some log → flags_at k n ≡ up_flags false false
unfolding walk_from
flags-new k n log new opened = ap (λ es. (walk (base_at k) es).flags n) new ∙ ap (λ (o : Option (List Effect)). opened_flags (is_some o)) opened

module _ {K M : Type 0} {w : Media M} {m : Meanings K M} where
  -- its core has the life of a node that was opened with this log, which a crash leaves
  pub up-new : (core : K) (k : Sight) (n : NodeId) (log : List Effect) (count : ℕ) → (m.parts core).node ≡ n → (m.parts core).able ≡ true → m.owes core [] → m.fits (base_at k) core → IsOf n k
      → k.story ≡ [] → opened_log (origin_at k).opened n ≡ Some log → count ≡ length log → IsReady (base_at k) n log
      → (IsTrue w.tells → m.lives (base_at k) core (opened_life (base_at k).start log)) → (IsTrue w.tells → LeavesLog (w.may_leave (m.parts core).medium) log)
      → IsUp w m core k n false false (no_draft count)
  up-new core k n log count node able owed run own new opened size ready has left = record {
    node = node;
    able = able;
    owed = owed;
    effects_fit = tt;
    outs_fit = tt;
    run = run;
    own = own;
    flags = flags-new k n log new opened;
    life = λ t.
        let b : Base = base_at k in
        let z : HasLife b n (no_draft count) (m.lives b core) (w.may_leave (m.parts core).medium) (opened_life b.start log) = record {
          core = has t;
          durable = size;
          effects = refl;
          outs = refl;
          images_left = left t;
          ready = ready-durable b n (opened_life b.start log) refl ready;
          asks = λ broker. tt;
        } in
        subst (HasLife b n (no_draft count) (m.lives b core) (w.may_leave (m.parts core).medium)) (sym (life-new k n log new opened)) z;
  }
