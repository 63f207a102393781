-- What the statuses of a run of nodes say.
use Rattle.std.proofs.Common.{◌≡◌, ◌≢◌, ℕ, ◌⊎◌, inl, inr, List, [], take, drop, Option, Some, None, refl, sym, ap, subst, ◌∙◌, arith}
use Rattle.std.specs.Prelude.{IfSome}
use Rattle.gp_round.specs.Counts.{Counts}
use Rattle.gp_msg.specs.declared.record.Record.{Record}
use Rattle.gp_run.specs.Runs.{newest_first}
use Rattle.gp_edge.specs.Faults.{Rose}
use Rattle.gp_edge.specs.Reads.{ReadsUpTo}
use Rattle.gp_text.specs.Reading.{run_before}
use Rattle.gp_text.proofs.ShortScripts.{script_short}
use Rattle.gp_text.specs.declared.offers.Offers.{Offers}
use Rattle.gp_text.specs.Offering.{OffersReading, Offered, RefusedAt, offers_reading}
use Rattle.gp_text.specs.Offered.{AreOffered, offers_alone}
use Rattle.gp_text.proofs.PlayedAlone.{script_alone}
use Rattle.gp_ending.specs.declared.ends.RunEnd.{RunEnd}
use Rattle.gp_ending.specs.declared.ends.RunEnd.TheVariants as end
use Rattle.gp_cluster.specs.declared.policy.RoundPolicy.{RoundPolicy}
use Rattle.gp_cluster.specs.Runs.{IsRunOf, SomeLost, IsOverLimit}
use Rattle.gp_cli.specs.declared.runs.TheConstants.{MOST_READ}
use Rattle.gp_cli.specs.declared.subcommand.Subcommand.{Subcommand}
use Rattle.gp_cli.specs.declared.subcommand.Subcommand.TheVariants.{Play, Run, Sim, Drive, Log, Upgrade, Audit}
use Rattle.gp_cli.specs.Subcommands.{named}
use Rattle.gp_cli.specs.Outside.{DeviceState, Outside, Told, device_bytes, device_faults}
use Rattle.gp_cli.specs.Endings.{Ending, Misused, Unread, Refuses, Plays, Drives, Simulates, Shows, DiskFails, Overflows, Breaks, Runs, Rejects, Upholds, Starved, status_of, ending_text, run_to}
use Rattle.gp_cli.specs.Causes.{IsRunCause, IsCauseFor, driven_config}
use Rattle.gp_cli.specs.Run.{SomeFailed, MayPostNothing, ArePosted, HasLearned, IsLearnedText, HasRun, IsOffersCause, HasReadOffers}
use Rattle.gp_cli.specs.Logs.{TellsEnding}
use Rattle.gp_cli.specs.Serving.{IsListOf}
use Rattle.gp_cli.specs.NodesRuns.{HoldsOffers, HoldsBadOffers, OffersAll, PrintsNodes, FillsLog, LosesLog, HasRoomForNext, TellsChange, DiskFailed}
use Rattle.gp_cli.proofs.Machines.{all_agree}
use Rattle.gp_cli.proofs.Told.{same_status, one_status, starved_status, done, no_records, nothing_left}

-- what was read is what the source told
offers_are : (before now : DeviceState) (rest : List ℕ) (read : OffersReading) → before.bytes ≡ Some rest → HasReadOffers before now (λ said. said ≡ read) → offers_reading (take MOST_READ rest) ≡ read
offers_are before now rest read tells has =
    let P : Option (List ℕ) → Type 0 = λ told. ReadsUpTo MOST_READ told now.bytes has.bytes in
    let taken : (has.bytes ≡ take MOST_READ rest) × (now.bytes ≡ Some (drop MOST_READ rest)) = subst P tells has.taken in
    ap offers_reading (sym taken.0) ∙ has.says

module _ (before now : Outside) (status : ℕ) (trail : List Record) where
  -- the text of an ending went out with its status
  abbrev Tells : Ending → Type 0
  Tells ending = TellsEnding ending before.sink now.sink status

  -- nodes offered what a script says, and ended so
  pub record NodesRan (policy : RoundPolicy) (limit : ℕ) (viewed : Option (List ℕ)) (why : RunEnd) (config : Counts) (list : List Record) (text : List ℕ) : Type 0 where
    pub offers : Offers
    pub read : HasReadOffers before.source now.source (λ read. read ≡ Offered offers)
    pub has : HasRun policy limit viewed before.disks now.disks offers why config list text

  pub nodes_ran : (policy : RoundPolicy) (limit : ℕ) (viewed : Option (List ℕ)) (why : RunEnd) (config : Counts) (list : List Record) (text : List ℕ) → HasReadOffers before.source now.source (λ read. IsOffersCause policy limit viewed read before.disks now.disks (Runs why config list text)) → NodesRan policy limit viewed why config list text
  nodes_ran policy limit viewed why config list text r = let said = r.says in record {
    offers = said.0;
    read = record { bytes = r.bytes; taken = r.taken; steady = r.steady; says = said.1 };
    has = said.2;
  }

  -- no nodes run for a run that is made as it should be, or is not made
  no_nodes : (meant : Ending) (why : RunEnd) (config : Counts) (list : List Record) (text : List ℕ) → ¬ (Runs why config list text ≡ meant) → IsRunCause meant (Runs why config list text) → ⊥
  no_nodes meant why config list text other (inl is) = other is
  no_nodes meant why config list text other (inr is) = cc

  -- only `run` has nodes that run
  run_alone : (sub : Option Subcommand) (why : RunEnd) (config : Counts) (list : List Record) (text : List ℕ) → IsCauseFor sub before now (Runs why config list text) → (policy : RoundPolicy) × (limit : ℕ) × (viewed : Option (List ℕ)) × (sub ≡ Some (Run policy limit viewed))
  run_alone None why config list text cause = cc
  run_alone (Some (Play operations)) why config list text cause = absurd cause
  run_alone (Some (Run policy limit viewed)) why config list text cause = (policy, limit, viewed, refl)
  run_alone (Some (Sim seed n)) why config list text cause = absurd (no_nodes (Simulates seed n) why config list text (λ e. cc) cause)
  run_alone (Some (Drive a l n)) why config list text cause = absurd (no_nodes (Drives (driven_config a l) n) why config list text (λ e. cc) cause)
  run_alone (Some (Log k)) why config list text cause = absurd cause
  run_alone (Some (Upgrade k)) why config list text cause = absurd cause
  run_alone (Some Audit) why config list text cause = absurd cause

  pub ran_by : (sub : Option Subcommand) (why : RunEnd) (config : Counts) (list : List Record) (text : List ℕ) → IsCauseFor sub before now (Runs why config list text) → (policy : RoundPolicy) × (limit : ℕ) × (viewed : Option (List ℕ)) × (sub ≡ Some (Run policy limit viewed)) × NodesRan policy limit viewed why config list text
  ran_by sub why config list text cause =
      let is = run_alone sub why config list text cause in
      (is.0, is.1, is.2, is.3, nodes_ran is.0 is.1 is.2 why config list text (subst (λ (s : Option Subcommand). IsCauseFor s before now (Runs why config list text)) is.3 cause))

  -- a list was posted, if it is no want of memory and no disk failed
  must_post : (policy : RoundPolicy) (offers : Offers) (why : RunEnd) (list : List Record) → ¬ MayPostNothing why → ArePosted policy offers why list → IsRunOf policy offers.config offers.list list
  must_post policy offers why list not (inl run) = run
  must_post policy offers why list not (inr none) = absurd (not none.1)

  right_offers : (offers : Offers) → HasReadOffers before.source now.source (λ read. read ≡ Offered offers) → AreOffered offers
  right_offers offers read = let played = script_alone read.bytes offers read.says in played.offered

  offers_all : (policy : RoundPolicy) (offers : Offers) → HasReadOffers before.source now.source (λ read. read ≡ Offered offers) → IsRunOf policy offers.config offers.list trail → OffersAll policy before now trail offers
  offers_all policy offers read run =
      let right = right_offers offers read in
      let range = right.range in
      let three = range.three_acceptors in
      record {
        read = read;
        right = right;
        run = run;
        agreement = all_agree offers.config (omega (arith, three)) (newest_first trail) run.legal;
      }

  -- the offers of a run whose list was posted
  whole_run : (policy : RoundPolicy) (limit : ℕ) (viewed : Option (List ℕ)) (why : RunEnd) (config : Counts) (list : List Record) (text : List ℕ) (n : NodesRan policy limit viewed why config list text) → ¬ MayPostNothing why → trail ≡ list → OffersAll policy before now trail n.offers
  whole_run policy limit viewed why config list text n not same =
      let offers = n.offers in
      let has = n.has in
      let run : IsRunOf policy offers.config offers.list list = must_post policy offers why list not has.posted in
      offers_all policy offers n.read (subst (IsRunOf policy offers.config offers.list) (sym same) run)

  -- with status 0, 5, 6, 7 and 8 the script was read to its end
  pub script_left : (policy : RoundPolicy) (limit : ℕ) (viewed : Option (List ℕ)) (why : RunEnd) (config : Counts) (list : List Record) (text : List ℕ) → NodesRan policy limit viewed why config list text → IfSome now.source.bytes (λ rest. rest ≡ [])
  script_left policy limit viewed why config list text n =
      let read = n.read in
      let played = script_alone read.bytes n.offers read.says in
      nothing_left before.source.bytes now.source.bytes read.bytes read.taken (script_short read.bytes n.offers.config (offers_alone n.offers.list) played.alone)

  -- ---- status 0

  clash : (ending : Ending) → (status_of ending ≡ 0 → ⊥) → Tells ending → status ≡ 0 → ⊥
  clash ending never_well told none_failed = never_well (done ending before.sink now.sink status told none_failed).well

  printed : (policy : RoundPolicy) (limit : ℕ) (viewed : Option (List ℕ)) (config : Counts) (list : List Record) (text : List ℕ) → NodesRan policy limit viewed end.Learned config list text → trail ≡ list → Tells (Runs end.Learned config list text) → status ≡ 0 → PrintsNodes policy limit viewed before now trail
  printed policy limit viewed config list text n same told none_failed =
      let offers = n.offers in
      let has = n.has in
      let not : ¬ MayPostNothing end.Learned = λ m. elim m [ inl is ↦ cc | inr is ↦ cc ] in
      let whole = done (Runs end.Learned config list text) before.sink now.sink status told none_failed in
      let learned : HasLearned policy limit before.disks now.disks offers list = has.learned refl in
      let says : IsLearnedText viewed offers.config list text = subst (λ (c : Counts). IsLearnedText viewed c list text) has.own_config has.says in
      record {
        offers = offers;
        whole = whole_run policy limit viewed end.Learned config list text n not same;
        learned = subst (HasLearned policy limit before.disks now.disks offers) (sym same) learned;
        steady = whole.steady;
        text = text;
        says = subst (λ (rs : List Record). IsLearnedText viewed offers.config rs text) (sym same) says;
        written = whole.written;
      }

  pub prints_nodes : (policy : RoundPolicy) (limit : ℕ) (viewed : Option (List ℕ)) (ending : Ending) → IsCauseFor (Some (Run policy limit viewed)) before now ending → IsListOf ending trail → Tells ending → status ≡ 0 → PrintsNodes policy limit viewed before now trail
  prints_nodes policy limit viewed Misused cause list told none_failed = absurd cause
  prints_nodes policy limit viewed Unread cause list told none_failed = absurd (clash Unread (λ e. cc) told none_failed)
  prints_nodes policy limit viewed (Refuses line reason said) cause list told none_failed = absurd (clash (Refuses line reason said) (λ e. cc) told none_failed)
  prints_nodes policy limit viewed (Plays operations config said) cause list told none_failed = absurd cause
  prints_nodes policy limit viewed (Drives config n) cause list told none_failed = absurd cause
  prints_nodes policy limit viewed (Simulates seed n) cause list told none_failed = absurd cause
  prints_nodes policy limit viewed (Shows k log) cause list told none_failed = absurd cause
  prints_nodes policy limit viewed DiskFails cause list told none_failed = absurd cause
  prints_nodes policy limit viewed (Overflows size need) cause list told none_failed = absurd cause
  prints_nodes policy limit viewed (Breaks place) cause list told none_failed = absurd cause
  prints_nodes policy limit viewed (Runs end.Learned config records text) cause list told none_failed = printed policy limit viewed config records text (nodes_ran policy limit viewed end.Learned config records text cause) list told none_failed
  prints_nodes policy limit viewed (Runs end.NoMemory config records text) cause list told none_failed = absurd (clash (Runs end.NoMemory config records text) (λ e. cc) told none_failed)
  prints_nodes policy limit viewed (Runs end.Disk config records text) cause list told none_failed = absurd (clash (Runs end.Disk config records text) (λ e. cc) told none_failed)
  prints_nodes policy limit viewed (Runs (end.Full size need) config records text) cause list told none_failed = absurd (clash (Runs (end.Full size need) config records text) (λ e. cc) told none_failed)
  prints_nodes policy limit viewed (Runs (end.NotLog at) config records text) cause list told none_failed = absurd (clash (Runs (end.NotLog at) config records text) (λ e. cc) told none_failed)
  prints_nodes policy limit viewed (Runs end.Changed config records text) cause list told none_failed = absurd (clash (Runs end.Changed config records text) (λ e. cc) told none_failed)
  prints_nodes policy limit viewed (Rejects line reason said) cause list told none_failed = absurd cause
  prints_nodes policy limit viewed (Upholds config events text) cause list told none_failed = absurd cause
  prints_nodes policy limit viewed Starved cause list told none_failed = absurd (clash Starved (λ e. cc) told none_failed)

  -- ---- status 6, 7 and 8

  pub ran_to_fault : (sub : Option Subcommand) (config : Counts) (list : List Record) (text : List ℕ) → IsCauseFor sub before now (Runs end.Disk config list text) → DiskFailed sub before now
  ran_to_fault sub config list text cause =
      let by = ran_by sub end.Disk config list text cause in
      let n = by.4 in
      let has = n.has in
      subst (λ (s : Option Subcommand). DiskFailed s before now) (sym by.3) has.cause

  pub fills_log : (words : List (List ℕ)) (size need : ℕ) (config : Counts) (list : List Record) (text : List ℕ) → IsCauseFor (named words) before now (Runs (end.Full size need) config list text) → trail ≡ list → Tells (Runs (end.Full size need) config list text)
      → FillsLog words before now status trail
  fills_log words size need config list text cause same told =
      let by = ran_by (named words) (end.Full size need) config list text cause in
      let policy = by.0 in
      let limit = by.1 in
      let viewed = by.2 in
      let n = by.4 in
      let has = n.has in
      let not : ¬ MayPostNothing (end.Full size need) = λ m. elim m [ inl is ↦ cc | inr is ↦ cc ] in
      let over : IsOverLimit config limit (newest_first list) size need = has.cause in
      record {
        policy = policy;
        limit = limit;
        viewed = viewed;
        is_run = by.3;
        offers = n.offers;
        whole = whole_run policy limit viewed (end.Full size need) config list text n not same;
        size = size;
        need = need;
        over = subst (λ (c : Counts). IsOverLimit c limit (newest_first trail) size need) has.own_config (subst (λ (rs : List Record). IsOverLimit config limit (newest_first rs) size need) (sym same) over);
        told = subst (λ (t : List ℕ). Told before.sink now.sink t 7 7 status) has.says told;
      }

  -- a disk that lost its log has failed
  lost_rose : SomeLost device_bytes device_faults before.disks now.disks → SomeFailed before.disks now.disks
  lost_rose b = record { place = b.place; was = b.was; is = b.is; before = b.before; after = b.after; rose = b.rose }

  loses : (words : List (List ℕ)) (why : RunEnd) (config : Counts) (list : List Record) (text : List ℕ) (policy : RoundPolicy) (limit : ℕ) (viewed : Option (List ℕ)) → named words ≡ Some (Run policy limit viewed) → NodesRan policy limit viewed why config list text → ¬ MayPostNothing why → trail ≡ list → SomeLost device_bytes device_faults before.disks now.disks → TellsChange before now status
      → LosesLog words before now status trail
  loses words why config list text policy limit viewed is n not same lost told = record {
    policy = policy;
    limit = limit;
    viewed = viewed;
    is_run = is;
    offers = n.offers;
    whole = whole_run policy limit viewed why config list text n not same;
    lost = lost;
    told = told;
  }

  pub breaks_log : (words : List (List ℕ)) (at : ℕ) (config : Counts) (list : List Record) (text : List ℕ) → IsCauseFor (named words) before now (Runs (end.NotLog at) config list text) → trail ≡ list → Tells (Runs (end.NotLog at) config list text) → LosesLog words before now status trail
  breaks_log words at config list text cause same told =
      let by = ran_by (named words) (end.NotLog at) config list text cause in
      let n = by.4 in
      let has = n.has in
      loses words (end.NotLog at) config list text by.0 by.1 by.2 by.3 n (λ m. elim m [ inl is ↦ cc | inr is ↦ cc ]) same has.cause (inl (at, subst (λ (t : List ℕ). Told before.sink now.sink t 8 8 status) has.says told))

  pub changes_log : (words : List (List ℕ)) (config : Counts) (list : List Record) (text : List ℕ) → IsCauseFor (named words) before now (Runs end.Changed config list text) → trail ≡ list → Tells (Runs end.Changed config list text) → LosesLog words before now status trail
  changes_log words config list text cause same told =
      let by = ran_by (named words) end.Changed config list text cause in
      let n = by.4 in
      let has = n.has in
      loses words end.Changed config list text by.0 by.1 by.2 by.3 n (λ m. elim m [ inl is ↦ cc | inr is ↦ cc ]) same has.cause (inr (subst (λ (t : List ℕ). Told before.sink now.sink t 8 8 status) has.says told))

  -- ---- completeness

  offers_one : (offers other : Offers) → HoldsOffers offers before.source → HasReadOffers before.source now.source (λ read. read ≡ Offered other) → other ≡ offers
  offers_one offers other (rest, is, says) read = let both : Offered other ≡ Offered offers = sym (offers_are before.source now.source rest (Offered other) is read) ∙ says in cc

  ran_completes : (policy : RoundPolicy) (limit : ℕ) (viewed : Option (List ℕ)) (offers : Offers) (why : RunEnd) (config : Counts) (list : List Record) (text : List ℕ) → NodesRan policy limit viewed why config list text → trail ≡ list → Tells (Runs why config list text) → HoldsOffers offers before.source
      → ¬ Rose before.sink.faults now.sink.faults → ¬ SomeFailed before.disks now.disks → HasRoomForNext offers.config limit trail → (status ≡ 0) ⊎ (status ≡ 1)
  ran_completes policy limit viewed offers end.Learned config list text n same told holds written_well disks_well room = one_status before.sink now.sink (ending_text (Runs end.Learned config list text)) 0 5 status written_well told
  ran_completes policy limit viewed offers end.NoMemory config list text n same told holds written_well disks_well room =
      let has = n.has in
      inr (starved_status before.sink now.sink [] status (subst (λ (t : List ℕ). Told before.sink now.sink t 1 1 status) has.says told))
  ran_completes policy limit viewed offers end.Disk config list text n same told holds written_well disks_well room = let has = n.has in absurd (disks_well has.cause)
  ran_completes policy limit viewed offers (end.Full size need) config list text n same told holds written_well disks_well room =
      let has = n.has in
      let own : config ≡ offers.config = has.own_config ∙ ap (λ (o : Offers). o.config) (offers_one offers n.offers holds n.read) in
      let over : IsOverLimit config limit (newest_first list) size need = has.cause in
      absurd (room size need (subst (λ (c : Counts). IsOverLimit c limit (newest_first trail) size need) own (subst (λ (rs : List Record). IsOverLimit config limit (newest_first rs) size need) (sym same) over)))
  ran_completes policy limit viewed offers (end.NotLog at) config list text n same told holds written_well disks_well room = let has = n.has in absurd (disks_well (lost_rose has.cause))
  ran_completes policy limit viewed offers end.Changed config list text n same told holds written_well disks_well room = let has = n.has in absurd (disks_well (lost_rose has.cause))

  pub nodes_complete : (policy : RoundPolicy) (limit : ℕ) (viewed : Option (List ℕ)) (offers : Offers) (ending : Ending) → IsCauseFor (Some (Run policy limit viewed)) before now ending → IsListOf ending trail → Tells ending → HoldsOffers offers before.source → ¬ Rose before.source.faults now.source.faults
      → ¬ Rose before.sink.faults now.sink.faults → ¬ SomeFailed before.disks now.disks → HasRoomForNext offers.config limit trail → (status ≡ 0) ⊎ (status ≡ 1)
  nodes_complete policy limit viewed offers Misused cause list told holds read_well written_well disks_well room = absurd cause
  nodes_complete policy limit viewed offers Unread cause list told holds read_well written_well disks_well room = absurd (read_well cause.0)
  nodes_complete policy limit viewed offers (Refuses line reason said) cause list told (rest, is, says) read_well written_well disks_well room =
      let so = cause.says in
      let read : HasReadOffers before.source now.source (λ read. read ≡ RefusedAt line reason) = record { bytes = cause.bytes; taken = cause.taken; steady = cause.steady; says = so.1 } in
      let differ = sym says ∙ offers_are before.source now.source rest (RefusedAt line reason) is read in absurd cc
  nodes_complete policy limit viewed offers (Plays operations config said) cause list told holds read_well written_well disks_well room = absurd cause
  nodes_complete policy limit viewed offers (Drives config n) cause list told holds read_well written_well disks_well room = absurd cause
  nodes_complete policy limit viewed offers (Simulates seed n) cause list told holds read_well written_well disks_well room = absurd cause
  nodes_complete policy limit viewed offers (Shows k log) cause list told holds read_well written_well disks_well room = absurd cause
  nodes_complete policy limit viewed offers DiskFails cause list told holds read_well written_well disks_well room = absurd cause
  nodes_complete policy limit viewed offers (Overflows size need) cause list told holds read_well written_well disks_well room = absurd cause
  nodes_complete policy limit viewed offers (Breaks place) cause list told holds read_well written_well disks_well room = absurd cause
  nodes_complete policy limit viewed offers (Runs why config records text) cause list told holds read_well written_well disks_well room =
      ran_completes policy limit viewed offers why config records text (nodes_ran policy limit viewed why config records text cause) list told holds written_well disks_well room
  nodes_complete policy limit viewed offers (Rejects line reason said) cause list told holds read_well written_well disks_well room = absurd cause
  nodes_complete policy limit viewed offers (Upholds config events text) cause list told holds read_well written_well disks_well room = absurd cause
  nodes_complete policy limit viewed offers Starved cause list told holds read_well written_well disks_well room = inr (starved_status before.sink now.sink [] status told)

  pub nodes_refuse : (policy : RoundPolicy) (limit : ℕ) (viewed : Option (List ℕ)) (ending : Ending) → IsCauseFor (Some (Run policy limit viewed)) before now ending → Tells ending → HoldsBadOffers before.source → ¬ Rose before.source.faults now.source.faults → (status ≡ 3) ⊎ (status ≡ 1)
  nodes_refuse policy limit viewed Misused cause told holds read_well = absurd cause
  nodes_refuse policy limit viewed Unread cause told holds read_well = absurd (read_well cause.0)
  nodes_refuse policy limit viewed (Refuses line reason said) cause told holds read_well = same_status before.sink now.sink (ending_text (Refuses line reason said)) 3 status told
  nodes_refuse policy limit viewed (Plays operations config said) cause told holds read_well = absurd cause
  nodes_refuse policy limit viewed (Drives config n) cause told holds read_well = absurd cause
  nodes_refuse policy limit viewed (Simulates seed n) cause told holds read_well = absurd cause
  nodes_refuse policy limit viewed (Shows k log) cause told holds read_well = absurd cause
  nodes_refuse policy limit viewed DiskFails cause told holds read_well = absurd cause
  nodes_refuse policy limit viewed (Overflows size need) cause told holds read_well = absurd cause
  nodes_refuse policy limit viewed (Breaks place) cause told holds read_well = absurd cause
  nodes_refuse policy limit viewed (Runs why config records text) cause told (rest, line, reason, is, bad) read_well =
      let n = nodes_ran policy limit viewed why config records text cause in
      let differ = sym bad ∙ offers_are before.source now.source rest (Offered n.offers) is n.read in absurd cc
  nodes_refuse policy limit viewed (Rejects line reason said) cause told holds read_well = absurd cause
  nodes_refuse policy limit viewed (Upholds config events text) cause told holds read_well = absurd cause
  nodes_refuse policy limit viewed Starved cause told holds read_well = inr (starved_status before.sink now.sink [] status told)

  -- ---- whatever the status is

  offers_or_none : (policy : RoundPolicy) (limit : ℕ) (viewed : Option (List ℕ)) (why : RunEnd) (config : Counts) (list : List Record) (text : List ℕ) (n : NodesRan policy limit viewed why config list text) → trail ≡ list → ArePosted policy n.offers why list → (trail ≡ []) ⊎ ((offers : Offers) × OffersAll policy before now trail offers)
  offers_or_none policy limit viewed why config list text n same (inl run) = let offers = n.offers in inr (offers, offers_all policy offers n.read (subst (IsRunOf policy offers.config offers.list) (sym same) run))
  offers_or_none policy limit viewed why config list text n same (inr none) = inl (same ∙ none.0)

  pub nodes_offered : (policy : RoundPolicy) (limit : ℕ) (viewed : Option (List ℕ)) (ending : Ending) → IsCauseFor (Some (Run policy limit viewed)) before now ending → newest_first trail ≡ run_to ending → IsListOf ending trail → (trail ≡ []) ⊎ ((offers : Offers) × OffersAll policy before now trail offers)
  nodes_offered policy limit viewed Misused cause run list = absurd cause
  nodes_offered policy limit viewed Unread cause run list = inl (no_records trail run)
  nodes_offered policy limit viewed (Refuses line reason said) cause run list = let so = cause.says in inl (no_records trail (run ∙ ap run_before so.0))
  nodes_offered policy limit viewed (Plays operations config said) cause run list = absurd cause
  nodes_offered policy limit viewed (Drives config n) cause run list = absurd cause
  nodes_offered policy limit viewed (Simulates seed n) cause run list = absurd cause
  nodes_offered policy limit viewed (Shows k log) cause run list = absurd cause
  nodes_offered policy limit viewed DiskFails cause run list = absurd cause
  nodes_offered policy limit viewed (Overflows size need) cause run list = absurd cause
  nodes_offered policy limit viewed (Breaks place) cause run list = absurd cause
  nodes_offered policy limit viewed (Runs why config records text) cause run list = let n = nodes_ran policy limit viewed why config records text cause in let has = n.has in offers_or_none policy limit viewed why config records text n list has.posted
  nodes_offered policy limit viewed (Rejects line reason said) cause run list = absurd cause
  nodes_offered policy limit viewed (Upholds config events text) cause run list = absurd cause
  nodes_offered policy limit viewed Starved cause run list = inl (no_records trail run)

  other : (n : ℕ) → status ≢ n → status ≢ 1 → (status ≡ n) ⊎ (status ≡ 1) → ⊥
  other n no_n no_one (inl is) = no_n is
  other n no_n no_one (inr is) = no_one is

  pub nodes_left : (policy : RoundPolicy) (limit : ℕ) (viewed : Option (List ℕ)) (ending : Ending) → IsCauseFor (Some (Run policy limit viewed)) before now ending → Tells ending → status ≢ 1 → status ≢ 3 → status ≢ 4 → IfSome now.source.bytes (λ rest. rest ≡ [])
  nodes_left policy limit viewed Misused cause told no_one no_three no_four = absurd cause
  nodes_left policy limit viewed Unread cause told no_one no_three no_four = absurd (other 4 no_four no_one (same_status before.sink now.sink (ending_text Unread) 4 status told))
  nodes_left policy limit viewed (Refuses line reason said) cause told no_one no_three no_four = absurd (other 3 no_three no_one (same_status before.sink now.sink (ending_text (Refuses line reason said)) 3 status told))
  nodes_left policy limit viewed (Plays operations config said) cause told no_one no_three no_four = absurd cause
  nodes_left policy limit viewed (Drives config n) cause told no_one no_three no_four = absurd cause
  nodes_left policy limit viewed (Simulates seed n) cause told no_one no_three no_four = absurd cause
  nodes_left policy limit viewed (Shows k log) cause told no_one no_three no_four = absurd cause
  nodes_left policy limit viewed DiskFails cause told no_one no_three no_four = absurd cause
  nodes_left policy limit viewed (Overflows size need) cause told no_one no_three no_four = absurd cause
  nodes_left policy limit viewed (Breaks place) cause told no_one no_three no_four = absurd cause
  nodes_left policy limit viewed (Runs why config records text) cause told no_one no_three no_four = script_left policy limit viewed why config records text (nodes_ran policy limit viewed why config records text cause)
  nodes_left policy limit viewed (Rejects line reason said) cause told no_one no_three no_four = absurd cause
  nodes_left policy limit viewed (Upholds config events text) cause told no_one no_three no_four = absurd cause
  nodes_left policy limit viewed Starved cause told no_one no_three no_four = absurd (no_one (starved_status before.sink now.sink [] status told))
