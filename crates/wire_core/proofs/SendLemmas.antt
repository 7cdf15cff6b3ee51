-- Messages of a gate, one after another.
use Rattle.wire_core.proofs.Names.{NodeId, Asked, Out, post, posts, State, Sent, World, Numbered, post_of, asked_of, Marked, IsTied, all_marked, ◌≡◌, ℕ, suc, ◌+◌, List, [], ◌∷◌, ◌++◌, map, length, sym, ap, subst, ◌∙◌, append_assoc, add-zero, arith, map-append}

pub asked-more : (l0 l1 l2 : List Asked) (all now : List Sent) (s : Sent) → l1 ≡ l0 ++ map asked_of all → l2 ≡ l1 ++ asked_of s ∷ [] → now ≡ all ++ s ∷ [] → l2 ≡ l0 ++ map asked_of now
asked-more l0 l1 l2 all now s e1 e2 e3 =
    e2 ∙ (ap (λ (l : List Asked). l ++ asked_of s ∷ []) e1 ∙ (append_assoc l0 (map asked_of all) (asked_of s ∷ [])
    ∙ (ap (λ (l : List Asked). l0 ++ l) (sym (map-append asked_of all (s ∷ []))) ∙ ap (λ (ss : List Sent). l0 ++ map asked_of ss) (sym e3))))

pub posted-more : (n : NodeId) (outs : List Out) (out : Out) (all now : List Sent) (s : Sent) → map post_of all ≡ posts n outs → now ≡ all ++ s ∷ [] → post_of s ≡ post n out → map post_of now ≡ posts n (outs ++ out ∷ [])
posted-more n outs out all now s e1 e2 e3 =
    ap (map post_of) e2 ∙ map-append post_of all (s ∷ []) ∙ ap (λ l. l ++ post_of s ∷ []) e1 ∙ ap (λ p. posts n outs ++ p ∷ []) e3 ∙ sym (map-append (post n) outs (out ∷ []))

numbered-last : (k : ℕ) (xs : List Sent) (s : Sent) → Numbered k xs → s.number ≡ k + length xs → Numbered k (xs ++ s ∷ [])
numbered-last k [] s all is = (is ∙ add-zero k, tt)
numbered-last k (x ∷ xs) s all is = (all.0, numbered-last (suc k) xs s all.1 (omega (arith, is)))

pub numbered-more : (k number : ℕ) (all now : List Sent) (s : Sent) → now ≡ all ++ s ∷ [] → Numbered k all → s.number ≡ number → number ≡ k + length all → Numbered k now
numbered-more k number all now s is numbers named at = subst (Numbered k) (sym is) (numbered-last k all s numbers (named ∙ at))

pub tied-more : (w : World) (sent : List Sent) (marks : List Marked) (old new : State) (all now : List Sent) (s : Sent) → now ≡ all ++ s ∷ [] → IsTied old w (sent ++ all) (marks ++ all_marked w.ticks all)
    → ((w : World) (sent : List Sent) (marks : List Marked) → IsTied old w sent marks → IsTied new w (sent ++ s ∷ []) (marks ++ all_marked w.ticks (s ∷ [])))
    → IsTied new w (sent ++ now) (marks ++ all_marked w.ticks now)
tied-more w sent marks old new all now s is tied next =
    subst (λ l. IsTied new w (sent ++ l) (marks ++ all_marked w.ticks l)) (sym is)
    (subst (λ l. IsTied new w (sent ++ (all ++ s ∷ [])) (marks ++ l)) (sym (map-append (λ (x : Sent). record { sent = x; ticks = w.ticks }) all (s ∷ [])))
    (subst (λ l. IsTied new w (sent ++ (all ++ s ∷ [])) l) (append_assoc marks (all_marked w.ticks all) (all_marked w.ticks (s ∷ [])))
    (subst (λ l. IsTied new w l ((marks ++ all_marked w.ticks all) ++ all_marked w.ticks (s ∷ []))) (append_assoc sent all (s ∷ []))
    (next w (sent ++ all) (marks ++ all_marked w.ticks all) tied))))
