-- Commands that commute are run as in the order of the script.
use Rattle.std.proofs.Common.{◌≡◌, ℕ, ◌<◌, true, false, List, [], refl, sym, ap, subst, ◌∙◌}
use Rattle.std.specs.List.{Contains}
use Rattle.gp_command.specs.declared.command.Command.{Command}
use Rattle.gp_command.specs.Conflict.{conflict}
use Rattle.gp_history.specs.History.{History, IsHistory, has, before}
use Rattle.gp_history.specs.Sequence.{history_of}
use Rattle.gp_history.proofs.Tests.{by_cases}
use Rattle.gp_history.proofs.Sets.{same_history, has_history_of}
use Rattle.gp_history.proofs.Joins.{history_of_is}
use Rattle.gp_cstructs.proofs.Lists.{among_contains, contains_among}
use Rattle.gp_replica.specs.Machines.{state_of, reply_of}
use Rattle.gp_replica.specs.Runs.{HasDistinctIds}
use Rattle.gp_replica.proofs.Histories.{state_is, reply_of_is}
use Rattle.gp_store.specs.Effects.{store_rules}
use Rattle.gp_store.specs.Commuting.{independent}
use Rattle.gp_msg.specs.declared.record.Record.{Record}
use Rattle.gp_msg.specs.Messages.{Offered}
use Rattle.gp_run.specs.Agreement.{Agrees}
use Rattle.gp_run.specs.Learned.{learned_at}
use Rattle.gp_run.specs.Messages.{messages}
use Rattle.gp_run.specs.Runs.{newest_first}
use Rattle.gp_cluster.specs.Offers.{commands_of}
use Rattle.gp_cluster.proofs.Holding.{offered_are}
use Rattle.gp_cluster.proofs.Scripts.{script_no_repeat, in_among, among_in}
use Rattle.gp_text.specs.declared.offers.Offers.{Offers}
use Rattle.gp_command.proofs.Truth.{iff_true}
use Rattle.gp_cli.specs.Outside.{Outside}
use Rattle.gp_cluster.specs.declared.policy.RoundPolicy.{RoundPolicy}
use Rattle.gp_cluster.specs.Runs.{HasLearnedAll}
use Rattle.gp_cli.specs.NodesRuns.{OffersAll, AllCommute, RunsInScriptOrder}

-- a history of commands that commute orders none of them
unordered : (h : History) → IsHistory h → ((c d : Command) → has h c ≡ true → has h d ≡ true → conflict c d ≡ false) → (c d : Command) → before h c d ≡ false
unordered h is apart c d = by_cases (before h c d) (λ yes. let in_it = is.within c d yes in let differ = sym in_it.2 ∙ apart c d in_it.0 in_it.1 in absurd cc) (λ no. no)

module _ (before now : Outside) (trail : List Record) (offers : Offers) (policy : RoundPolicy) (whole : OffersAll policy before now trail offers) (all : HasLearnedAll offers.config offers.list trail) (commute : AllCommute offers.list) where
  abbrev cs : List Command
  cs = commands_of offers.list

  agreed : Agrees offers.config (newest_first trail)
  agreed = let agreement = whole.agreement in agreement.agrees

  -- what was offered is what the script says
  of_script : (c : Command) → Contains (messages (newest_first trail)) (Offered c) → Contains cs c
  of_script c there = let run = whole.run in let right = whole.right in (offered_are offers.config offers.list (λ k d less. (right.each k d less).0) trail run.legal all.offered c).0 there

  from_script : (c : Command) → Contains cs c → Contains (messages (newest_first trail)) (Offered c)
  from_script c there = let run = whole.run in let right = whole.right in (offered_are offers.config offers.list (λ k d less. (right.each k d less).0) trail run.legal all.offered c).1 there

  listed : (c : Command) → has (history_of cs) c ≡ true → Contains cs c
  listed c there = among_contains cs c (in_among cs c (sym (has_history_of cs c) ∙ there))

  unlisted : (c : Command) → Contains cs c → has (history_of cs) c ≡ true
  unlisted c there = has_history_of cs c ∙ among_in cs c (contains_among cs c there)

  module _ (l : ℕ) (within : l < offers.config.learners) where
    abbrev shown : History
    shown = learned_at offers.config l (newest_first trail)

    shown_listed : (c : Command) → has shown c ≡ true → Contains cs c
    shown_listed c there = of_script c (agreed.proposed [] (newest_first trail) refl l c there)

    -- the learner shows the history of the offers
    shows_script : history_of cs ≡ shown
    shows_script = same_history (history_of cs) shown
        (λ c. iff_true (has (history_of cs) c) (has shown c) (λ there. all.learned l within c (from_script c (listed c there))) (λ there. unlisted c (shown_listed c there)))
        (λ c d.
        unordered (history_of cs) (history_of_is cs) (λ a b in_a in_b. commute a b (listed a in_a) (listed b in_b)) c d
        ∙ sym (unordered shown (agreed.history [] (newest_first trail) refl l) (λ a b in_a in_b. commute a b (shown_listed a in_a) (shown_listed b in_b)) c d))

    distinct : HasDistinctIds shown
    distinct c d in_c in_d same_id = agreed.identities [] (newest_first trail) [] (newest_first trail) refl refl l l c d in_c in_d same_id

  pub in_script_order : RunsInScriptOrder offers trail
  in_script_order = record {
    state = λ l within. sym (state_is store_rules independent cs (script_no_repeat offers.list) ∙ ap (state_of store_rules) (shows_script l within));
    replies = λ l within id.
        let own : HasDistinctIds (history_of cs) = subst HasDistinctIds (sym (shows_script l within)) (distinct l within) in
        sym (reply_of_is store_rules independent id cs (script_no_repeat offers.list) own ∙ ap (λ (h : History). reply_of store_rules h id) (shows_script l within));
  }
