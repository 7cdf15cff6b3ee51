-- From volumes as they were opened to how the history of an object is told.
use Rattle.swallow_top.proofs.Names.{length-map, AllZip-long, NodeId, DownCause, ObjectId, down_text, history_text, Opening, Media, HasOpened, medium_in, Kept, AllKept, kept_under, ShelfSight, first_names, node_log, logs_of, all-kept, back-all, TellsHistory, TellsVolumes, home_of, Sinking, EndsIfAny, ◌≡◌, inl, inr, ℕ, List, [], ◌++◌, length, map, Option, refl, ap, sym, subst, ◌∙◌, AreOpen, AreVolumes, given-back, stand-all}
use Rattle.plan_volumes.specs.Standings.{HasShut}

module _ {M : Type 0} {g : _} (object : ObjectId) (os : List (Opening M g)) (status : ℕ) (s : Sinking) where
  pub open-told : AreOpen os → EndsIfAny status s 0 (history_text object (node_log (logs_of os))) → TellsVolumes object os status s
  open-told all (inl seven) = inl seven
  open-told all (inr ends) = inr (inl (history_text object (node_log (logs_of os)), (all, refl), ends))

  pub shut-told : (cause : DownCause) → HasShut os cause → EndsIfAny status s 6 (down_text (record { node = home_of object; cause = cause })) → TellsVolumes object os status s
  shut-told cause shut (inl seven) = inl seven
  shut-told cause shut (inr ends) = inr (inr (down_text (record { node = home_of object; cause = cause }), (cause, shut, refl), ends))

module _ {M : Type 0} {g : _} where
  -- volumes that are given back as they were opened, under their names
  pub handed-back : (n : NodeId) (os : List (Opening M g)) (given : List (Option M)) (front kept : List (Kept M)) → front ≡ [] → given ≡ map medium_in os → kept ≡ front ++ kept_under (first_names n (length given)) given →
      kept ≡ kept_under (first_names n (length os)) (map medium_in os)
  handed-back n os given front kept none back is =
      is ∙ (ap (λ l. l ++ kept_under (first_names n (length given)) given) none ∙ (ap (λ l. kept_under (first_names n (length l)) l) back ∙ ap (λ k. kept_under (first_names n k) (map medium_in os)) (length-map os medium_in)))

module _ {M : Type 0} (w : Media M) (old new : ShelfSight) (object : ObjectId) where
  pub tells-history : (n : NodeId) (media : List (Option M)) (os : List (Opening M w)) (kept : List (Kept M)) (s : Sinking) (status : ℕ) → n ≡ home_of object → AreVolumes w old new n media os →
      kept ≡ kept_under (first_names n (length os)) (map medium_in os) → TellsVolumes object os status s → TellsHistory w old new object kept s status
  tells-history n media os kept s status home volumes handed told = record {
    media = media;
    openings = os;
    volumes = subst (λ x. AreVolumes w old new x media os) home volumes;
    handed = subst (λ x. kept ≡ kept_under (first_names x (length os)) (map medium_in os)) home handed;
    keep = given-back w os (map medium_in os) (stand-all w media os volumes.opened) refl;
    told = told;
  }

  -- each medium that was taken is handed back
  pub history-kept : (kept : List (Kept M)) (s : Sinking) (status : ℕ) → TellsHistory w old new object kept s status → AllKept old new kept
  history-kept kept s status h =
      subst (AllKept old new) (ap (λ k. kept_under (first_names (home_of object) k) (map medium_in h.openings)) (sym (AllZip-long (HasOpened w) h.media h.openings h.volumes.opened)) ∙ sym h.handed)
      (all-kept w old new (first_names (home_of object) (length h.media)) h.media (map medium_in h.openings) h.volumes.taken (back-all w h.media h.openings (map medium_in h.openings) h.volumes.opened h.keep))
