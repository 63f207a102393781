-- Learners that hold every command of a script.
use Rattle.std.proofs.Common.{◌≡◌, ◌↔◌, ℕ, ◌<◌, ◌≤◌, true, false, not, List, [], ◌∷◌, length, refl, sym, ap, ◌∙◌, arith, All}
use Rattle.std.specs.Prelude.{slice_get}
use Rattle.std.specs.List.{Contains, list_any}
use Rattle.gp_command.specs.declared.command.Command.{Command}
use Rattle.gp_command.specs.Conflict.{same}
use Rattle.gp_command.specs.Views.{DraftView}
use Rattle.gp_command.proofs.ConflictLemmas.{same-true}
use Rattle.gp_command.specs.declared.command.TheConstants.{PROPOSERS}
use Rattle.gp_history.specs.History.{History, IsHistory, has, size}
use Rattle.gp_history.specs.Sequence.{no_repeat}
use Rattle.gp_history.specs.Canonical.{canonical}
use Rattle.gp_history.proofs.Tests.{In, both, one_of, by_cases}
use Rattle.gp_history.proofs.Acyclic.{canonical_is, canonical_no_repeat}
use Rattle.gp_history.proofs.Counts.{no_longer_lists}
use Rattle.gp_history.proofs.Sets.{has_history_of}
use Rattle.gp_history.proofs.Size.{size_of_sequence}
use Rattle.gp_round.specs.Counts.{Counts}
use Rattle.gp_cstructs.specs.CStructs.{Among}
use Rattle.gp_cstructs.proofs.Lists.{among_contains, contains_among}
use Rattle.gp_msg.specs.declared.record.Record.{Record}
use Rattle.gp_msg.specs.Messages.{Offered, Entry}
use Rattle.gp_run.specs.Agreement.{Agrees}
use Rattle.gp_run.specs.Legal.{Legal}
use Rattle.gp_run.specs.Learned.{learned_at}
use Rattle.gp_run.specs.Messages.{messages}
use Rattle.gp_run.specs.Runs.{newest_first}
use Rattle.gp_agreement.proofs.Agreement.{agrees}
use Rattle.gp_driver.specs.Settled.{AllLearned}
use Rattle.gp_seats.specs.Offering.{IsKnown}
use Rattle.gp_cluster.specs.Offers.{AreOffered, commands_of}
use Rattle.gp_cluster.proofs.Drafts.{drafts_at, drafts_in, drafts_of_list, IsMade}
use Rattle.gp_cluster.proofs.Sent.{offered_made, made_offered}
use Rattle.gp_cluster.proofs.Scripts.{drafts_by, drafts_of_moves, script_made, made_script, script_known, script_length, script_no_repeat, in_among, among_in}

-- ---- the commands of a history, and those of a list

module _ (h : History) (is : IsHistory h) where
  sized : size h ≡ length (canonical h)
  sized = ap size (sym (canonical_is h is)) ∙ size_of_sequence (canonical h) (canonical_no_repeat h is)

  listed : (c : Command) → has h c ≡ list_any (same c) (canonical h)
  listed c = ap (λ u. has u c) (sym (canonical_is h is)) ∙ has_history_of (canonical h) c

  -- a history that has every command of a list without repeats has as many
  pub as_many : (cs : List Command) → no_repeat cs ≡ true → ((c : Command) → In cs c → has h c ≡ true) → length cs ≤ size h
  as_many cs once all =
      let within = no_longer_lists cs (canonical h) once (λ c i. sym (listed c) ∙ all c i) in
      let n = sized in
      omega arith

  -- a history with commands of a list alone, and as many, has every one
  pub all_of_them : (cs : List Command) → ((c : Command) → has h c ≡ true → In cs c) → length cs ≤ size h → (c : Command) → In cs c → has h c ≡ true
  all_of_them cs only many c i = by_cases (has h c) (λ t. t) (λ f.
      let fresh : list_any (same c) (canonical h) ≡ false = sym (listed c) ∙ f in
      let more = no_longer_lists (c ∷ canonical h) cs (both (ap not fresh) (canonical_no_repeat h is))
      (λ d j. one_of (same d c) (list_any (same d) (canonical h)) j
      (λ e. ap (λ x. list_any (same x) cs) (same-true d c e) ∙ i)
      (λ m. only d (listed d ∙ m))) in
      let n = sized in
      absurd (omega arith))

-- ---- a legal run in which the offers of a script were made

module _ (config : Counts) (offers : List (ℕ × DraftView)) (known : All IsKnown offers) (list : List Record) (legal : Legal config (newest_first list)) (offered : AreOffered offers list) where
  abbrev es : List Entry
  es = newest_first list

  same_drafts : (p : ℕ) → p < PROPOSERS → drafts_at p es ≡ drafts_by p offers
  same_drafts p there = drafts_of_list config p list legal ∙ ap (drafts_in p) (offered p there) ∙ drafts_of_moves p offers

  -- what is made of the drafts of a run is made of those of the script
  made_alike : (f g : ℕ → List DraftView) (p number : ℕ) (draft : DraftView) → f p ≡ g p → IsMade f p number draft → IsMade g p number draft
  made_alike f g p number draft e h = record { place = h.place; numbers = h.numbers; there = ap (λ l. slice_get l h.place) (sym e) ∙ h.there }

  offered_script : (c : Command) → Among (messages es) (Offered c) → Among (commands_of offers) c
  offered_script c m =
      let h = offered_made config es legal c m in
      made_script offers c (made_alike (λ p. drafts_at p es) (λ p. drafts_by p offers) c.id.proposer c.id.number c.draft (same_drafts c.id.proposer h.1) h.0)

  script_offered : (c : Command) → Among (commands_of offers) c → Among (messages es) (Offered c)
  script_offered c m =
      made_offered config es legal c
      (made_alike (λ p. drafts_by p offers) (λ p. drafts_at p es) c.id.proposer c.id.number c.draft (sym (same_drafts c.id.proposer (script_known offers known c m))) (script_made offers c m))

  -- the commands that were offered are those of the script
  pub offered_are : (c : Command) → Contains (messages es) (Offered c) ↔ Contains (commands_of offers) c
  offered_are c = (
    (λ m. among_contains (commands_of offers) c (offered_script c (contains_among (messages es) (Offered c) m))),
    (λ m. among_contains (messages es) (Offered c) (script_offered c (contains_among (commands_of offers) c m))),
  )

  module _ (some : 0 < config.acceptors) where
    abbrev agreed : Agrees config es
    agreed = agrees config some es legal

    pub hold_all : ((l : ℕ) → l < config.learners → length offers ≤ size (learned_at config l es)) → AllLearned config es
    hold_all many l within c m =
        all_of_them (learned_at config l es) (agreed.history [] es refl l) (commands_of offers)
        (λ d t. among_in (commands_of offers) d (offered_script d (contains_among (messages es) (Offered d) (agreed.proposed [] es refl l d t))))
        (let n = script_length offers in let k = many l within in omega arith)
        c
        (among_in (commands_of offers) c (offered_script c (contains_among (messages es) (Offered c) m)))

    pub have_as_many : AllLearned config es → (l : ℕ) → l < config.learners → length offers ≤ size (learned_at config l es)
    have_as_many all l within =
        let n = script_length offers in
        let k = as_many (learned_at config l es) (agreed.history [] es refl l) (commands_of offers) (script_no_repeat offers)
        (λ c i. all l within c (among_contains (messages es) (Offered c) (script_offered c (in_among (commands_of offers) c i)))) in
        omega arith
