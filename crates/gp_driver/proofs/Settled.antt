-- Settling brings every command that was offered to every learner.
use Rattle.std.proofs.Common.{◌≡◌, suc, ◌+◌, ◌<◌, false, List, sym, ◌∙◌, subst, arith}
use Rattle.gp_round.specs.Counts.{Counts}
use Rattle.gp_round.specs.declared.config.TheConstants.{LAST_COUNT}
use Rattle.gp_msg.specs.Messages.{Entry}
use Rattle.gp_run.specs.Messages.{messages}
use Rattle.gp_run.specs.Legal.{Legal}
use Rattle.gp_agreement.proofs.Agreement.{agrees}
use Rattle.gp_run.specs.TopCount.{top_count}
use Rattle.gp_driver.specs.Settling.{checkpoints, prepared, settle, settling_passes}
use Rattle.gp_driver.specs.Settled.{Settles}
use Rattle.gp_driver.proofs.Closings.{closed_by}
use Rattle.gp_driver.proofs.Counting.{all_open}
use Rattle.gp_driver.proofs.GoingOn.{settling_goes_on}
use Rattle.gp_driver.proofs.Offers.{offered_there}
use Rattle.gp_driver.proofs.Passes.{Finishes, finishes}
use Rattle.gp_driver.proofs.Preparing.{is_prepared}

pub settles : (config : Counts) → 0 < config.acceptors → 0 < config.coordinators → 0 < config.learners → (es : List Entry) → Legal config es → top_count config es + checkpoints (messages es) < LAST_COUNT → Settles config es
unfolding settle settling_passes
settles config some lead one es legal room =
    let p = is_prepared config lead es legal in
    let same : checkpoints (messages (prepared config es)) ≡ checkpoints (messages es) = sym (all_open (messages (prepared config es))) ∙ p.opened (λ c. false) ∙ all_open (messages es) in
    let r = p.rounds in
    let f : Finishes config (suc (checkpoints (messages es))) (prepared config es) =
    subst (λ n. Finishes config (suc n) (prepared config es)) same
    (finishes config some lead one (agrees config some) (prepared config es) (closed_by (messages es)) p.ready (omega (arith, same, r, room))) in
    record {
      goes_on = settling_goes_on config es;
      legal = f.legal;
      learned = λ l h c t. f.shown l h c (sym (f.offers c) ∙ offered_there (messages (settle config es)) c t);
      some = f.some;
      few = f.few;
      enough = f.enough;
      can = f.can;
      events = let a = f.entries in let b = p.entries in omega (arith, a, b);
    }
