-- What a gate has sent.
use Rattle.std.proofs.Common.{◌≡◌, ◌+◌, ◌++◌, ◌∷◌, [], length, map, List, ℕ, Result, Ok, Err, OnOk, sym, subst}
use Rattle.pseudo_time.specs.declared.nodes.NodeId.{NodeId}
use Rattle.message_form.specs.declared.turns.Out.{Out}
use Rattle.message_form.specs.Posts.{posts}
use Rattle.message_form.specs.Ranges.{AreOuts}
use Rattle.message_core.specs.Parts.{state_of}
use Rattle.world_core.specs.declared.entries.Entry.TheVariants.{Gate}
use Rattle.world_core.specs.declared.traces.Sent.{Sent}
use Rattle.world_core.specs.Walks.{World}
use Rattle.world_core.specs.Legal.{Numbered, post_of, asked_of}
use Rattle.vote_wire.specs.Copies.{IsTied, Marked, all_marked}
use Rattle.vote_courier.specs.Couriers.{CourierParts, HasSent}

pub has-sent : {A E : Type 0} (n : NodeId) (outs : List Out) (old view after new : CourierParts) (news : List Sent) (k : ℕ) (r : Result A E) → AreOuts outs → view ≡ old → OnOk r (new ≡ after) → after.sent ≡ view.sent ++ news → map post_of news ≡ posts n outs → k ≡ length view.sent → Numbered (k + 1) news → after.asked ≡ view.asked ++ map asked_of news → after.entries ≡ view.entries ++ Gate n ∷ [] → after.start ≡ view.start → after.opened ≡ view.opened → after.answers ≡ view.answers → after.last ≡ view.last → ((w : World) (sent : List Sent) (marks : List Marked) → IsTied (state_of view.flight) w sent marks → IsTied (state_of after.flight) w (sent ++ news) (marks ++ all_marked w.ticks news)) → OnOk r (HasSent n outs old new)
has-sent n outs old view after new news k (Ok x) in_range is noted sent posted count numbers asked entries start opened answers last tied =
    subst (λ (c : CourierParts). HasSent n outs old c) (sym noted)
    (subst (λ (c : CourierParts). HasSent n outs c after) is
    (record {
      news = news;
      in_range = in_range;
      sent = sent;
      posted = posted;
      numbers = subst (λ (j : ℕ). Numbered (j + 1) news) count numbers;
      asked = asked;
      entries = entries;
      start = start;
      opened = opened;
      answers = answers;
      last = last;
      copies = λ w marks t. subst (λ (l : List Sent). IsTied (state_of after.flight) w l (marks ++ all_marked w.ticks news)) (sym sent) (tied w view.sent marks t);
    }))
has-sent n outs old view after new news k (Err e) in_range is noted sent posted count numbers asked entries start opened answers last tied = tt
