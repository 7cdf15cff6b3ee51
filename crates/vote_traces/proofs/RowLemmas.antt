-- The worked trace, computed.
use Rattle.vote_traces.proofs.Names.{repository, broker, same_stamp, numbered, Fate, first_begin, decision_of, on_message, held, poll_goes, poll_takes, start_hall, walk, walk_from, Meets, ◌≡◌, ℕ, ◌<◌, length, true, false, inl, refl, sym, subst, arith, Some, NodeId, Sending, World, HasGone, HasHeard, IsReleased, MayTake, times_taken}
use Rattle.pseudo_time.specs.declared.decisions.Decision.TheVariants as decision
use Rattle.message_form.specs.declared.messages.Message.TheVariants as message
use Rattle.stream_port.specs.Fates.{copies_of}
use Rattle.vote_traces.specs.Rows.{row_stamp, row_base, row_fates, row_entries, plain, early_tick, taken_twice}

-- a message that is taken, of one copy
taken : (w : World) (n : NodeId) (k : ℕ) (s : Sending) → (w.flags n).up ≡ true → HasGone w n → numbered w.sendings k ≡ Some s → s.post.to ≡ n → numbered row_fates k ≡ Some plain →
    times_taken w k < copies_of plain → IsReleased w s plain → HasHeard w n → MayTake row_fates w n k
taken w n k s up gone sent to fated fewer released heard = record { up = up; heard = heard; gone = gone; sending = s; sent = sent; to = to; fate = plain; fated = fated; fewer = fewer; released = released }

pub row-meets : Meets row_base row_fates (start_hall row_base) row_entries
unfolding Meets poll_goes poll_takes on_message first_begin decision_of same_stamp
row-meets = (
  record { up = refl; broker = refl; fresh = refl },
  (
    record { up = refl; due = refl },
    (
      taken _ _ _ (record { post = record { from = broker 1; to = repository 1; message = message.Begin row_stamp 5 }; ticks = 0 }) refl (λ e. absurd (cc e)) refl refl refl (omega arith) (omega arith) (inl refl),
      (
        record { up = refl; due = refl },
        (
          taken _ _ _ (record { post = record { from = broker 1; to = repository 2; message = message.Begin row_stamp 5 }; ticks = 0 }) refl (λ e. absurd (cc e)) refl refl refl (omega arith) (omega arith) (inl refl),
          (
            record { up = refl; due = refl },
            (
              taken _ _ _ (record { post = record { from = broker 1; to = repository 3; message = message.Begin row_stamp 5 }; ticks = 0 }) refl (λ e. absurd (cc e)) refl refl refl (omega arith) (omega arith) (inl refl),
              (
                record { up = refl; due = refl },
                (
                  taken _ _ _ (record { post = record { from = repository 1; to = broker 1; message = message.Begun row_stamp }; ticks = 0 }) refl (λ e. refl) refl refl refl (omega arith) (omega arith) (inl refl),
                  (
                    record { up = refl; due = refl },
                    (
                      taken _ _ _ (record { post = record { from = broker 1; to = repository 1; message = message.Commit row_stamp }; ticks = 0 }) refl (λ e. absurd (cc e)) refl refl refl (omega arith) (omega arith) (inl refl),
                      (
                        record { up = refl; due = refl },
                        (
                          taken _ _ _ (record { post = record { from = repository 2; to = broker 1; message = message.Begun row_stamp }; ticks = 0 }) refl (λ e. refl) refl refl refl (omega arith) (omega arith) (inl refl),
                          (
                            record { up = refl; due = refl },
                            (
                              taken _ _ _ (record { post = record { from = broker 1; to = repository 2; message = message.Commit row_stamp }; ticks = 0 }) refl (λ e. absurd (cc e)) refl refl refl (omega arith) (omega arith) (inl refl),
                              (
                                record { up = refl; due = refl },
                                (
                                  taken _ _ _ (record { post = record { from = repository 3; to = broker 1; message = message.Begun row_stamp }; ticks = 0 }) refl (λ e. refl) refl refl refl (omega arith) (omega arith) (inl refl),
                                  (
                                    record { up = refl; due = refl },
                                    (
                                      taken _ _ _ (record { post = record { from = broker 1; to = repository 3; message = message.Commit row_stamp }; ticks = 0 }) refl (λ e. absurd (cc e)) refl refl refl (omega arith) (omega arith) (inl refl),
                                      (
                                        record { up = refl; due = refl },
                                        (
                                          taken _ _ _ (record { post = record { from = repository 1; to = broker 1; message = message.Decided row_stamp decision.Committed }; ticks = 0 }) refl (λ e. refl) refl refl refl (omega arith) (omega arith) (inl refl),
                                          (
                                            record { up = refl; due = refl },
                                            (
                                              taken _ _ _ (record { post = record { from = repository 2; to = broker 1; message = message.Decided row_stamp decision.Committed }; ticks = 0 }) refl (λ e. refl) refl refl refl (omega arith) (omega arith) (inl refl),
                                              (
                                                record { up = refl; due = refl },
                                                tt,
                                              ),
                                            ),
                                          ),
                                        ),
                                      ),
                                    ),
                                  ),
                                ),
                              ),
                            ),
                          ),
                        ),
                      ),
                    ),
                  ),
                ),
              ),
            ),
          ),
        ),
      ),
    ),
  ),
)

pub row-decided : (held ((walk row_base row_entries).polls 1) ≡ Some true) × (length (walk row_base row_entries).sendings ≡ 12)
unfolding walk_from poll_goes poll_takes on_message first_begin decision_of same_stamp
row-decided = (refl, refl)

pub no-early-tick : Meets row_base row_fates (start_hall row_base) early_tick → ⊥
unfolding Meets
no-early-tick m = let e : false ≡ true = (m.0.idle (broker 1) refl).gone refl in cc e

no-more : (1 < 1) → ⊥
no-more h = omega (arith, h)

pub not-twice : Meets row_base row_fates (start_hall row_base) taken_twice → ⊥
unfolding Meets poll_goes on_message first_begin decision_of
not-twice m = twice m.1.1.1.1.0.fate m.1.1.1.1.0.fated m.1.1.1.1.0.fewer
  where
    twice : (f : Fate) → numbered row_fates 1 ≡ Some f → 1 < copies_of f → ⊥
    twice f e h = let same : plain ≡ f = cc e in no-more (subst (λ z. 1 < copies_of z) (sym same) h)
