-- Driving drafts one by one.
use Rattle.std.proofs.Common.{◌≡◌, ℕ, zero, suc, ◌+◌, ◌*◌, ◌<◌, true, false, List, [], ◌∷◌, ◌++◌, length, refl, sym, ap, ◌∙◌, subst, arith, append_assoc}
use Rattle.std.specs.Prelude.{take, drop}
use Rattle.std.specs.List.{Contains, list_any}
use Rattle.std.proofs.lemmas.List.{append-nil}
use Rattle.gp_command.specs.declared.command.Command.{Command}
use Rattle.gp_command.specs.declared.draft.Draft.{Draft}
use Rattle.gp_command.specs.Conflict.{same}
use Rattle.gp_command.proofs.ConflictLemmas.{same_itself}
use Rattle.gp_history.proofs.Tests.{left_of, right_of}
use Rattle.gp_round.specs.Counts.{Counts}
use Rattle.gp_msg.specs.declared.node.Node.TheVariants.{Coordinator}
use Rattle.gp_msg.specs.Messages.{Entry}
use Rattle.gp_run.specs.Runs.{AreOfOthers}
use Rattle.gp_driver.specs.Driving.{opened, driven, all_driven}
use Rattle.gp_driver.specs.Driven.{command, commands, beginnings, AreNoCheckpoints, DrivesMulti}
use Rattle.gp_driver.proofs.Driven.{Drives, one_driven, driven_entries, driven_beginnings, driven_silent}
use Rattle.gp_driver.proofs.Opened.{all_opened, opened_entries, opened_beginnings, opened_silent}

module _ (acceptors learners : ℕ) (some : 0 < acceptors) where
  abbrev config : Counts
  config = record { acceptors = acceptors; coordinators = 3; learners = learners }

  record AllDriven (n : ℕ) (cs : List Command) (drafts : List Draft) (es : List Entry) : Type 0 where
    pub drives : Drives acceptors learners (n + length drafts) (cs ++ commands n drafts) (all_driven config drafts es)
    pub entries : length (all_driven config drafts es) ≡ length es + length drafts * (3 + 2 * acceptors + acceptors * learners)
    pub beginnings_same : beginnings (all_driven config drafts es) ≡ beginnings es
    pub silent : AreOfOthers (Coordinator 2) es → AreOfOthers (Coordinator 2) (all_driven config drafts es)

  head_plain : (draft : Draft) (drafts : List Draft) → AreNoCheckpoints (draft ∷ drafts) → draft.checkpoint ≡ false
  head_plain draft drafts h = h 0 draft (omega arith)

  tail_plain : (draft : Draft) (drafts : List Draft) → AreNoCheckpoints (draft ∷ drafts) → AreNoCheckpoints drafts
  tail_plain draft drafts h = λ k d l. h (suc k) d (omega (arith, l))

  all : (n : ℕ) (cs : List Command) (drafts : List Draft) (es : List Entry) → AreNoCheckpoints drafts → Drives acceptors learners n cs es → AllDriven n cs drafts es
  all n cs [] es plain h = record {
    drives = subst (λ (p : ℕ × List Command). Drives acceptors learners p.0 p.1 es) (λ i. ((let e : n ≡ n + 0 = omega arith in e) i, sym (append-nil cs) i)) h;
    entries = omega arith;
    beginnings_same = refl;
    silent = λ s. s;
  }
  all n cs (draft ∷ drafts) es plain h =
      let one = one_driven acceptors learners some n cs es h draft (head_plain draft drafts plain) in
      let rest = all (suc n) (cs ++ command n draft ∷ []) drafts (driven config draft es) (tail_plain draft drafts plain) one in
      record {
        drives = subst (λ (p : ℕ × List Command). Drives acceptors learners p.0 p.1 (all_driven config drafts (driven config draft es))) (λ i. ((let e : suc n + length drafts ≡ n + suc (length drafts) = omega arith in e) i, append_assoc cs (command n draft ∷ []) (commands (suc n) drafts) i)) rest.drives;
        entries = let a = rest.entries in let b = driven_entries acceptors learners some n cs es h draft (head_plain draft drafts plain) in omega (arith, a, b);
        beginnings_same = rest.beginnings_same ∙ driven_beginnings acceptors learners some n cs es h draft (head_plain draft drafts plain);
        silent = λ s. rest.silent (driven_silent acceptors learners some n cs es h draft (head_plain draft drafts plain) s);
      }

  goes_on : (i : ℕ) (drafts : List Draft) (es : List Entry) → all_driven config drafts es ≡ all_driven config (drop i drafts) (all_driven config (take i drafts) es)
  goes_on zero drafts es = refl
  goes_on (suc i) [] es = refl
  goes_on (suc i) (draft ∷ drafts) es = goes_on i drafts (driven config draft es)

  taken_plain : (i : ℕ) (drafts : List Draft) → AreNoCheckpoints drafts → AreNoCheckpoints (take i drafts)
  taken_plain zero drafts h k d l = absurd (omega (arith, l))
  taken_plain (suc i) [] h k d l = absurd (omega (arith, l))
  taken_plain (suc i) (draft ∷ drafts) h zero d l = head_plain draft drafts h
  taken_plain (suc i) (draft ∷ drafts) h (suc k) d l = taken_plain i drafts (tail_plain draft drafts h) k d (omega (arith, l))

  contained_is : (cs : List Command) (c : Command) → Contains cs c → list_any (same c) cs ≡ true
  contained_is [] c (k, l, e) = absurd (omega (arith, l))
  contained_is (x ∷ cs) c (zero, l, e) = left_of (same c x) (list_any (same c) cs) (ap (same c) e ∙ same_itself c)
  contained_is (x ∷ cs) c (suc k, l, e) = right_of (same c x) (list_any (same c) cs) (contained_is cs c (k, omega (arith, l), e))

  pub drives_multi : (drafts : List Draft) → AreNoCheckpoints drafts → DrivesMulti config drafts
  drives_multi drafts plain =
      let r = all 0 [] drafts (opened config) plain (all_opened acceptors learners some) in
      record {
        legal = r.drives.legal;
        events = let a = r.entries in let b = opened_entries acceptors learners some in omega (arith, a, b);
        one_beginning = r.beginnings_same ∙ opened_beginnings acceptors learners some;
        silent = r.silent (opened_silent acceptors learners some);
        goes_on = λ i. goes_on i drafts (opened config);
        shown = λ i l h c t. (all 0 [] (take i drafts) (opened config) (taken_plain i drafts plain) (all_opened acceptors learners some)).drives.shown l h c (contained_is (commands 0 (take i drafts)) c t);
      }
