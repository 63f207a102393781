use Rattle.std.proofs.Common.{◌∙◌, refl, sym, ap, ◌++◌}
use Rattle.std.specs.List.{list_all}
use Rattle.gp_history.specs.History.{has}
use Rattle.gp_history.specs.Sequence.{history_of}
use Rattle.gp_history.proofs.Tests.{not_false}
use Rattle.gp_audit.specs.Noting.{vote_cause, quorums_held, new_proofs}
use Rattle.gp_audit.proofs.NewProofs.{none_added}
use Rattle.gp_audit.proofs.WholeQuorums.{vote_source_is}
use Rattle.gp_audit.proofs.replay.Replay.note_votes.Goals as goal

pub returns-then-not-has_new : goal.returns-then-not-has_new
returns-then-not-has_new c = record {
  config = refl;
  number = refl;
  learner = refl;
  epoch = refl;
  votes = refl;
  commands = c.learned.result.now;
  shown = c.learned.ensures;
  noted = none_added (history_of c.args.known.now) c.args.at (vote_cause c.args.self.now.epoch c.args.round (quorums_held c.args.self.now.votes.entries c.args.self.now.config.acceptors c.args.round))
      c.learned.result.now c.args.self.now.proofs.items
      (not_false (list_all (has (history_of c.args.known.now)) c.learned.result.now) (sym c.has_new.ensures ∙ c.if-not-has_new.true));
}

pub returns : goal.returns
returns c = record {
  config = refl;
  number = refl;
  learner = refl;
  epoch = refl;
  votes = refl;
  commands = c.learned-2.result.now;
  shown = c.learned-2.ensures;
  noted = c.in_ok-push_new.ensures.written ∙ ap (λ why. c.args.self.now.proofs.items ++ new_proofs (history_of c.args.known.now) c.args.at why c.learned-2.result.now)
      (vote_source_is c.args.self.now.epoch c.args.round c.args.self.now.votes.entries c.args.self.now.config.acceptors c.acceptors-n.result c.quorum-size.result c.in_ok-quorums.quorums.items
      c.acceptors-n.ensures.value c.quorum-size.ensures.value c.in_ok-quorums.ensures);
}
