use Rattle.std.proofs.Common.{◌≡◌, ◌∙◌, List, length, refl, sym, ap, subst, ◌==◌}
use Rattle.gp_history.specs.History.{History}
use Rattle.gp_history.specs.Sequence.{history_of}
use Rattle.gp_msg.specs.declared.message.Msg.{Msg}
use Rattle.gp_msg.specs.Messages.{message_of}
use Rattle.gp_audit.specs.declared.replay.Replay.{Replay}
use Rattle.gp_audit.specs.Replays.{NotesVotes, Takes}
use Rattle.gp_audit.proofs.Hearing.{Hears, heard, heard_last}
use Rattle.gp_audit.proofs.replay.Replay.hear.Goals as goal
use Rattle.gp_audit.proofs.replay.Replay.hear.Goals.{then-not-is_empty, else-not-is_empty}

pub returns : goal.returns
returns c = λ k.
    let old = c.args.self.now in
    let mid : Replay = record { alloc = old.alloc; config = old.config; number = old.number; learner = c.take.new.self; epoch = old.epoch; votes = c.hold_newer.new.votes; proofs = old.proofs } in
    let noted = c.note_votes.new.self in
    let known : history_of c.in_ok-known.known ≡ old.learner.learned = ap history_of c.in_ok-known.ensures ∙ c.learned.ensures in
    let hears : Hears old mid noted c.args.at c.args.round c.args.acceptor (history_of c.args.vote.now) (message_of c.args.m.now) c.in_ok-outs.outs = record {
      step = c.requires.step;
      bound = c.requires.known;
      is = c.requires.message;
      config = refl;
      number = refl;
      epoch = refl;
      proofs = refl;
      next = c.in_ok-outs.ensures.next;
      sent = c.in_ok-outs.ensures.sent;
      held = c.in_ok-hold_newer.ensures;
      notes = subst (λ (u : History). NotesVotes mid noted c.args.at c.args.round u) known c.in_ok-note_votes.ensures;
    } in
    let empty : c.is_empty.result ≡ (length c.in_ok-outs.outs == 0) = c.is_empty.ensures ∙ ap (λ (ms : List Msg). length ms == 0) c.as_slice.ensures in
    elim c.if-not-is_empty.branch [
      | then-not-is_empty w ↦ subst (λ (new : Replay). Takes old new c.args.at k (message_of c.args.m.now)) (sym w.self-is)
          (heard_last old mid noted c.args.at c.args.round c.args.acceptor (history_of c.args.vote.now) (message_of c.args.m.now) c.in_ok-outs.outs hears w.enter.new.self c.is_empty.result empty w.if-not-is_empty.true
          w.enter.ensures.epoch w.enter.ensures.votes w.enter.ensures.same k)
      | else-not-is_empty w ↦ subst (λ (new : Replay). Takes old new c.args.at k (message_of c.args.m.now)) (sym w.self-is)
          (heard old mid noted c.args.at c.args.round c.args.acceptor (history_of c.args.vote.now) (message_of c.args.m.now) c.in_ok-outs.outs hears c.is_empty.result empty w.if-not-is_empty.false k)
    ]
