-- What the facts of a run say of one attempt.
use Rattle.serial_law.proofs.Names.{TimeParts, ObjectId, Value, Post, settle_of, Has, Answer, Got, Request, Stored, ToRead, ToWrite, RunLogs, Try, committed, in_run, log_of, marks_at, RunFacts, Sees, asks, at, after, ◌≡◌, ◌+◌, ◌≤◌, length, true, false, List, [], ◌∷◌, ◌++◌, refl, sym, ◌∙◌, ap, subst, Some, arith, same_Some}
use Rattle.effect_form.specs.declared.effects.Effect.TheVariants as effect
use Rattle.serial_law.proofs.LogLemmas.{put-marks, marks-put, marks-in, marks-cases}
use Rattle.serial_law.proofs.Settled.{sure-yes, sure-no}
use Rattle.serial_law.proofs.Own.{Written, fronts}
use Rattle.serial_law.proofs.Lone.{Lone}
use Rattle.serial_law.specs.Facts.{Asked}
use Rattle.serial_law.proofs.Puts.{PutAt}

-- one request per pseudotime: what was asked at this step is what the script asks there
pub asked-here : (T : Try) (pre post : List Answer) (q : Request) → T.answers ≡ pre ++ post → Asked T (at T.stamp pre) q → asks (after T.script pre) ≡ Some q
asked-here T pre post q e h = ap (λ x. asks (after T.script x)) (fronts pre h.0 post h.1 (sym e ∙ h.2) (omega (arith, h.3))) ∙ h.4

got-seen : (k : RunLogs) (ever : List Post) → RunFacts k ever → (T : Try) → Has T k.tries → (pre post : List Answer) (v : Value) →
    T.answers ≡ pre ++ (Got v ∷ post) → (o : ObjectId) × (asks (after T.script pre) ≡ Some (ToRead o)) × Sees (marks_at k o) o (at T.stamp pre) v
got-seen k ever f T a pre post v e =
    let w = f.value (at T.stamp pre) v (f.got T pre post v a e) in
    let asked : asks (after T.script pre) ≡ Some (ToRead w.0) =
    asked-here T pre (Got v ∷ post) (ToRead w.0) e (f.read_asked T (at T.stamp pre) w.0 a w.1 refl) in (
      w.0,
      asked,
      subst (λ m. Sees m w.0 (at T.stamp pre) v)
          (marks-in k w.0 (f.within T pre (Got v ∷ post) (ToRead w.0) a e asked)) w.2,
    )

-- an acknowledged write: what was asked, and its put
acked-put : (k : RunLogs) (ever : List Post) → RunFacts k ever → (T : Try) → Has T k.tries → (pre post : List Answer) →
    T.answers ≡ pre ++ (Stored ∷ post) → (o : ObjectId) × (v : Value) × (asks (after T.script pre) ≡ Some (ToWrite o v)) × PutAt o (at T.stamp pre) v (marks_at k o)
acked-put k ever f T a pre post e =
    let s = f.stored (at T.stamp pre) (f.acked T pre post a e) in
    let asked : asks (after T.script pre) ≡ Some (ToWrite s.0 s.1) =
    asked-here T pre (Stored ∷ post) (ToWrite s.0 s.1) e (f.write_asked T (at T.stamp pre) s.0 s.1 a s.2 refl) in (
      s.0,
      s.1,
      asked,
      subst (λ m. PutAt s.0 (at T.stamp pre) s.1 m)
          (marks-in k s.0 (f.within T pre (Stored ∷ post) (ToWrite s.0 s.1) a e asked))
          (put-marks (log_of k s.0.repository) s.0 (at T.stamp pre) s.1 s.3),
    )

pub write-stored : (k : RunLogs) (ever : List Post) → RunFacts k ever → (T : Try) → Has T k.tries → (o : ObjectId) (w : Value) (pre : List Answer) →
    Written T.script T.answers o pre w → PutAt o (at T.stamp pre) w (marks_at k o)
write-stored k ever f T a o w pre h =
    let s = acked-put k ever f T a pre h.0.0 h.0.1 in
    let same : ToWrite s.0 s.1 ≡ ToWrite o w = same_Some (ToWrite s.0 s.1) (ToWrite o w) (sym s.2 ∙ h.1) in
    subst (λ x. PutAt o (at T.stamp pre) x (marks_at k o)) (cc same) (subst (λ x. PutAt x (at T.stamp pre) s.1 (marks_at k x)) (cc same) s.3)

-- a put of the run's logs stands in its object's own log, and its write was sent
pub put-at : (k : RunLogs) (o : ObjectId) (x : TimeParts) (v : Value) → PutAt o x v (marks_at k o) → (in_run k o.repository ≡ true) × Has (effect.Put o x v) (log_of k o.repository)
put-at k o x v =
    marks-cases k o (λ m. PutAt o x v m → (in_run k o.repository ≡ true) × Has (effect.Put o x v) (log_of k o.repository))
    (λ e h. (e, marks-put (log_of k o.repository) o x v h)) (λ h. absurd h)

pub put-written : (k : RunLogs) (ever : List Post) → RunFacts k ever → (T : Try) → Has T k.tries → (o : ObjectId) (x : TimeParts) (w : Value) →
    PutAt o x w (marks_at k o) → x.stamp ≡ T.stamp → x.step ≤ length T.answers →
    (pre : List Answer) × (x.step ≡ length pre + 1) × Written T.script T.answers o pre w
put-written c ever f T a o x w h e l =
    let at_log = put-at c o x w h in
    let k = f.write_asked T x o w a (f.put o.repository o x w at_log.0 at_log.1).1 e in
    next k.0 k.1 k.2 k.3 k.4
  where
    next : (pre post : List Answer) → T.answers ≡ pre ++ post → x.step ≡ length pre + 1 → asks (after T.script pre) ≡ Some (ToWrite o w) →
        (pre : List Answer) × (x.step ≡ length pre + 1) × Written T.script T.answers o pre w
    next pre [] e n q = absurd (short pre e (subst (λ i. i ≤ length T.answers) n l))
      where
        nil : (xs : List Answer) → length (xs ++ []) ≡ length xs
        nil [] = refl
        nil (y ∷ xs) = let h = nil xs in omega (arith, h)

        short : (pre : List Answer) → T.answers ≡ pre ++ [] → length pre + 1 ≤ length T.answers → ⊥
        short pre e h = let n : length T.answers ≡ length pre = ap (λ xs. length xs) e ∙ nil pre in omega (arith, n, h)
    next pre (Stored ∷ post) e n q = (pre, n, ((post, e), q))
    next pre (Got v ∷ post) e n q = let g = got-seen c ever f T a pre post v e in absurd (cc (sym g.1 ∙ q))

pub lone : (k : RunLogs) (ever : List Post) → RunFacts k ever → (T : Try) → Has T k.tries → Lone T.script T.answers T.stamp (marks_at k) (committed k)
lone k ever f T a = record {
  yes = λ o x. marks-cases k o (λ m. settle_of m x ≡ Some true → committed k x ≡ true)
      (λ i h. sure-yes k ever f o.repository x i h) (unfold settle_of in λ h. absurd (cc h));
  no = λ o x. marks-cases k o (λ m. settle_of m x ≡ Some false → committed k x ≡ false)
      (λ i h. sure-no k ever f o.repository x i h) (unfold settle_of in λ h. absurd (cc h));
  got = λ pre post v e. got-seen k ever f T a pre post v e;
  wrote = λ pre post e. (let g = acked-put k ever f T a pre post e in (g.0, g.1, g.2));
  stored = λ o w pre h. write-stored k ever f T a o w pre h;
  puts = λ o x w h e l. put-written k ever f T a o x w h e l;
}
