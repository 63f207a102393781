-- From the end of a run of nodes to the end of a run of the program.
use Rattle.std.proofs.Common.{◌≡◌, ℕ, suc, zero, ◌<◌, ◌≤◌, ◌⊎◌, inl, inr, List, [], ◌∷◌, length, Option, Some, None, Err, refl, sym, ap, subst, ◌∙◌}
use Rattle.std.specs.Prelude.{IfSome, slice_get}
use Rattle.std.specs.Option.{option_map}
use Rattle.std.specs.List.{AllZip}
use Rattle.std.proofs.lemmas.Option.{slice_get-map}
use Rattle.std.proofs.lemmas.Slice.Zip.{AllZip-long}
use Rattle.gp_round.specs.Counts.{Counts}
use Rattle.gp_msg.specs.declared.record.Record.{Record}
use Rattle.gp_msg.specs.Messages.{Entry}
use Rattle.gp_run.specs.Legal.{Legal}
use Rattle.gp_run.specs.Runs.{newest_first}
use Rattle.gp_edge.specs.Disks.{IfRevealed}
use Rattle.gp_edge.specs.Reads.{ReadsUpTo}
use Rattle.gp_cell.specs.Cores.{opening, core_at, part_in}
use Rattle.gp_shelf.specs.Lists.{KeepsOthers}
use Rattle.gp_shelf.specs.Places.{place_at}
use Rattle.gp_shelf.specs.Making.{SomeRose, NoneFell}
use Rattle.gp_ending.specs.declared.ends.RunEnd.{RunEnd}
use Rattle.gp_ending.specs.declared.ends.RunEnd.TheVariants as end
use Rattle.gp_text.specs.declared.offers.Offers.{Offers}
use Rattle.gp_text.specs.declared.offers.Unread.{Unread as UnreadScript}
use Rattle.gp_text.specs.declared.offers.Unread.TheVariants as unread
use Rattle.gp_text.specs.Offering.{OffersReading, Offered, RefusedAt, offers_reading}
use Rattle.gp_text.specs.OfferAnswers.{Reads}
use Rattle.gp_script.specs.declared.reason.Reason.{Reason}
use Rattle.gp_cluster.specs.declared.policy.RoundPolicy.{RoundPolicy}
use Rattle.gp_cluster.specs.Runs.{IsRunOf, HasLearnedAll, IsQuietOrSettled, EndCause, SomeLost, EndsWith, HoldParts}
use Rattle.gp_cli.specs.declared.ran.Trail.{Trail}
use Rattle.gp_cli.specs.declared.ran.Trail.TheVariants.{Folded}
use Rattle.gp_cli.specs.declared.runs.TheConstants.{MOST_READ}
use Rattle.gp_cli.specs.declared.subcommand.Subcommand.{Subcommand}
use Rattle.gp_cli.specs.declared.subcommand.Subcommand.TheVariants.{Run}
use Rattle.gp_cli.specs.Outside.{DeviceState, device, disk_states, device_bytes, device_faults, Told}
use Rattle.gp_cli.specs.Endings.{Ending, Misused, Unread, Refuses, Plays, Drives, Simulates, Shows, DiskFails, Overflows, Breaks, Runs, Rejects, Upholds, Starved, end_text}
use Rattle.gp_cli.specs.Run.{SomeFailed, MayPostNothing, IsEndText, HasRun, IsOffersCause, IsNodesCause}
use Rattle.gp_cli.specs.Viewed.{TellsViewed}
use Rattle.gp_cli.specs.Logs.{TellsEnding}
use Rattle.gp_cli.specs.Serving.{EndsBy, EachDisk, KeepsUnused}
use Rattle.gp_cli.specs.Trails.{records_in, trail_of, IsOfNodes}
use Rattle.gp_cli.proofs.Causes.{because, loses}
use Rattle.gp_cli.proofs.Told.{same_status}
use Rattle.gp_cli.proofs.Machines.{all_agree}

-- ---- disks as they are seen

module _ {D : Type 0} (content : D → Option (List ℕ)) (faults : D → ℕ) where
  abbrev see : D → DeviceState
  see d = device (content d) (faults d)

  -- what is seen at a place is a disk there
  seen_of : (o : Option D) (s : DeviceState) → option_map see o ≡ Some s → (d : D) × (o ≡ Some d) × (see d ≡ s)
  seen_of None s e = cc
  seen_of (Some d) s e = (d, refl, (let same : see d ≡ s = cc in same))

  seen_in : (disks : List D) (k : ℕ) (s : DeviceState) → slice_get (disk_states content faults disks) k ≡ Some s → (d : D) × (slice_get disks k ≡ Some d) × (see d ≡ s)
  seen_in disks k s e = seen_of (slice_get disks k) s (sym (slice_get-map see disks k) ∙ e)

  seen_out : (disks : List D) (k : ℕ) (d : D) → slice_get disks k ≡ Some d → slice_get (disk_states content faults disks) k ≡ Some (see d)
  seen_out disks k d e = slice_get-map see disks k ∙ ap (option_map see) e

  rose_seen : (old new : List D) → SomeRose faults old new → SomeFailed (disk_states content faults old) (disk_states content faults new)
  rose_seen old new h = record {
    place = h.place;
    was = see h.was;
    is = see h.is;
    before = seen_out old h.place h.was h.before;
    after = seen_out new h.place h.is h.after;
    rose = h.rose;
  }

  lost_seen : (old new : List D) → SomeLost content faults old new → SomeLost device_bytes device_faults (disk_states content faults old) (disk_states content faults new)
  lost_seen old new h = record {
    place = h.place;
    was = see h.was;
    is = see h.is;
    before = seen_out old h.place h.was h.before;
    after = seen_out new h.place h.is h.after;
    rose = h.rose;
    hidden = h.hidden;
  }

  parts_seen : (config : Counts) (limit : ℕ) (run : List Entry) (disks : List D) → HoldParts content config limit run disks → HoldParts device_bytes config limit run (disk_states content faults disks)
  parts_seen config limit run disks hold = λ k n s at there.
      let d = seen_in disks (place_at config k) s there in
      subst (λ (x : DeviceState). IfRevealed x.bytes (EndsWith limit (part_in (opening config n)) (part_in (core_at config n run)))) d.2 (hold k n d.0 at d.1)

  -- ---- why a run of nodes ended

  cause_seen : (config : Counts) (limit : ℕ) (old new : List D) (list : List Record) (why : RunEnd) → EndCause content faults config limit old new (Some list) why
      → EndCause device_bytes device_faults config limit (disk_states content faults old) (disk_states content faults new) (Some list) why
  cause_seen config limit old new list end.Learned cause = tt
  cause_seen config limit old new list end.NoMemory cause = tt
  cause_seen config limit old new list end.Disk cause = rose_seen old new cause
  cause_seen config limit old new list (end.Full size need) cause = cause
  cause_seen config limit old new list (end.NotLog at) cause = lost_seen old new cause
  cause_seen config limit old new list end.Changed cause = lost_seen old new cause

  -- without a list the cause says nothing of it
  unposted_cause : (config : Counts) (limit : ℕ) (old new : List D) (why : RunEnd) → MayPostNothing why → EndCause content faults config limit old new None why → EndCause content faults config limit old new (Some []) why
  unposted_cause config limit old new why (inl is) cause = subst (λ (w : RunEnd). EndCause content faults config limit old new (Some []) w) (sym is) tt
  unposted_cause config limit old new why (inr is) cause =
      let failed = subst (λ (w : RunEnd). EndCause content faults config limit old new None w) is cause in
      subst (λ (w : RunEnd). EndCause content faults config limit old new (Some []) w) (sym is) failed

  not_learned : (why : RunEnd) → MayPostNothing why → why ≡ end.Learned → ⊥
  not_learned why (inl is) learned = let both : end.NoMemory ≡ end.Learned = sym is ∙ learned in cc
  not_learned why (inr is) learned = let both : end.Disk ≡ end.Learned = sym is ∙ learned in cc

  -- what nodes came to, by what they posted
  pub has_run : (policy : RoundPolicy) (limit : ℕ) (viewed : Option (List ℕ)) (offers : Offers) (old new : List D) (why : RunEnd) (posted : Option (List Record)) → IfSome posted (IsRunOf policy offers.config offers.list) → (posted ≡ None → MayPostNothing why)
      → (why ≡ end.Learned → IfSome posted (HasLearnedAll offers.config offers.list)) → (why ≡ end.Learned → ¬ SomeRose faults old new → IfSome posted (IsQuietOrSettled policy offers.config offers.list))
      → EndCause content faults offers.config limit old new posted why → (why ≡ end.Learned → IfSome posted (λ list. HoldParts content offers.config limit (newest_first list) new))
      → (text : List ℕ) → IsEndText viewed why offers.config (records_in (trail_of posted)) text
      → HasRun policy limit viewed (disk_states content faults old) (disk_states content faults new) offers why offers.config (records_in (trail_of posted)) text
  has_run policy limit viewed offers old new why None run none all quiet cause parts text says = record {
    own_config = refl;
    posted = inr (refl, none refl);
    cause = cause_seen offers.config limit old new [] why (unposted_cause offers.config limit old new why (none refl) cause);
    learned = λ is. absurd (not_learned why (none refl) is);
    says = says;
  }
  has_run policy limit viewed offers old new why (Some list) run none all quiet cause parts text says = record {
    own_config = refl;
    posted = inl run;
    cause = cause_seen offers.config limit old new list why cause;
    learned = λ is. record {
      all = all is;
      quiet = λ well. quiet is (λ rose. well (rose_seen old new rose));
      parts = parts_seen offers.config limit (newest_first list) new (parts is);
    };
    says = says;
  }

  -- the same, where memory ran out in the end
  pub has_starved : (policy : RoundPolicy) (limit : ℕ) (viewed : Option (List ℕ)) (offers : Offers) (old new : List D) (posted : Option (List Record)) → IfSome posted (IsRunOf policy offers.config offers.list)
      → HasRun policy limit viewed (disk_states content faults old) (disk_states content faults new) offers end.NoMemory offers.config (records_in (trail_of posted)) []
  has_starved policy limit viewed offers old new None run = record {
    own_config = refl;
    posted = inr (refl, inl refl);
    cause = tt;
    learned = λ is. absurd (not_learned end.NoMemory (inl refl) is);
    says = refl;
  }
  has_starved policy limit viewed offers old new (Some list) run = record {
    own_config = refl;
    posted = inl run;
    cause = tt;
    learned = λ is. absurd (not_learned end.NoMemory (inl refl) is);
    says = refl;
  }

  -- what nodes came to while readers viewed a key, as was told
  pub has_viewed : (policy : RoundPolicy) (limit : ℕ) (key : List ℕ) (offers : Offers) (old new : List D) (posted : Option (List Record)) (before now : DeviceState) (status : ℕ) → IfSome posted (IsRunOf policy offers.config offers.list) → (why : RunEnd)
      → ((text : List ℕ) → IsEndText (Some key) why offers.config (records_in (trail_of posted)) text → HasRun policy limit (Some key) (disk_states content faults old) (disk_states content faults new) offers why offers.config (records_in (trail_of posted)) text)
      → (t : TellsViewed key why offers.config (records_in (trail_of posted)) before now status)
      → HasRun policy limit (Some key) (disk_states content faults old) (disk_states content faults new) offers t.why offers.config (records_in (trail_of posted)) t.text
  has_viewed policy limit key offers old new posted before now status run why has t = elim t.as_ended [
    | inl is ↦
        let Q : RunEnd → Type 0 = λ w. HasRun policy limit (Some key) (disk_states content faults old) (disk_states content faults new) offers w offers.config (records_in (trail_of posted)) t.text in
        subst Q (sym is) (has t.text (subst (λ (w : RunEnd). IsEndText (Some key) w offers.config (records_in (trail_of posted)) t.text) is t.says))
    | inr is ↦
        let Q : RunEnd → Type 0 = λ w. HasRun policy limit (Some key) (disk_states content faults old) (disk_states content faults new) offers w offers.config (records_in (trail_of posted)) t.text in
        let none : t.text ≡ [] = subst (λ (w : RunEnd). IsEndText (Some key) w offers.config (records_in (trail_of posted)) t.text) is t.says in
        subst Q (sym is) (subst (λ (text : List ℕ). HasRun policy limit (Some key) (disk_states content faults old) (disk_states content faults new) offers end.NoMemory offers.config (records_in (trail_of posted)) text) (sym none) (has_starved policy limit (Some key) offers old new posted run))
  ]

-- what is printed where no key is viewed
pub plain_text : (why : RunEnd) (config : Counts) (list : List Record) → IsEndText None why config list (end_text why config list)
plain_text end.Learned config list = refl
plain_text end.NoMemory config list = refl
plain_text end.Disk config list = refl
plain_text (end.Full size need) config list = refl
plain_text (end.NotLog at) config list = refl
plain_text end.Changed config list = refl

-- what was posted is a legal run
pub legal_trail : (policy : RoundPolicy) (offers : Offers) (posted : Option (List Record)) → IfSome posted (IsRunOf policy offers.config offers.list) → Legal offers.config (newest_first (records_in (trail_of posted)))
legal_trail policy offers None run = tt
legal_trail policy offers (Some list) run = run.legal

-- a run of nodes ended, as was told
pub nodes_end : (policy : RoundPolicy) (limit : ℕ) (viewed : Option (List ℕ)) (offers : Offers) (old new : List DeviceState) (why : RunEnd) (list : List Record) (text : List ℕ) (before now : DeviceState) (status : ℕ) → 0 < offers.config.acceptors → Legal offers.config (newest_first list)
    → HasRun policy limit viewed old new offers why offers.config list text → TellsEnding (Runs why offers.config list text) before now status → EndsBy (IsOffersCause policy limit viewed (Offered offers) old new) before now status list
nodes_end policy limit viewed offers old new why list text before now status some legal has told = record {
  ending = Runs why offers.config list text;
  cause = (offers, refl, has);
  run = refl;
  list = refl;
  config = offers.config;
  own_config = refl;
  agreement = all_agree offers.config some (newest_first list) legal;
  told = told;
}

-- ---- who made the records

-- no node ran, as was told with status 3 or 4, or memory ran out
pub of_none : (before now : DeviceState) (text : List ℕ) (n status : ℕ) → (n ≡ 3) ⊎ (n ≡ 4) → Told before now text n n status → IsOfNodes status (Folded [])
of_none before now text n status (inl three) told = (refl, elim (same_status before now text n status told) [ inl is ↦ inr (inl (is ∙ three)) | inr is ↦ inl is ])
of_none before now text n status (inr four) told = (refl, elim (same_status before now text n status told) [ inl is ↦ inr (inr (inl (is ∙ four))) | inr is ↦ inl is ])

pub none_ran : (trail : Trail) (status told : ℕ) → trail ≡ Folded [] → status ≡ told → IsOfNodes told (Folded []) → IsOfNodes status trail
none_ran trail status told none is made =
    let made_so : IsOfNodes status (Folded []) = subst (λ (s : ℕ). IsOfNodes s (Folded [])) (sym is) made in
    subst (IsOfNodes status) (sym none) made_so

-- ---- the script

-- a script that is refused at a line
pub read_refused : (read : OffersReading) (why : UnreadScript) (line : ℕ) (reason : Reason) → why ≡ unread.Bad line reason → Reads read (Err why) → read ≡ RefusedAt line reason
read_refused read why line reason bad reads = let Q : UnreadScript → Type 0 = λ u. Reads read (Err u) in subst Q bad reads

-- the cause by the script that was read is one by the source
pub script_read : (policy : RoundPolicy) (limit : ℕ) (viewed : Option (List ℕ)) (before now : DeviceState) (old new : List DeviceState) (bytes : List ℕ) → ReadsUpTo MOST_READ before.bytes now.bytes bytes → now.faults ≡ before.faults → (ending : Ending)
    → IsOffersCause policy limit viewed (offers_reading bytes) old new ending → IsNodesCause policy limit viewed before now old new ending
script_read policy limit viewed before now old new bytes taken steady Misused cause = cause
script_read policy limit viewed before now old new bytes taken steady Unread cause = absurd cause
script_read policy limit viewed before now old new bytes taken steady (Refuses line reason said) cause = record { bytes = bytes; taken = taken; steady = steady; says = cause }
script_read policy limit viewed before now old new bytes taken steady (Plays operations config said) cause = cause
script_read policy limit viewed before now old new bytes taken steady (Drives config commands) cause = cause
script_read policy limit viewed before now old new bytes taken steady (Simulates seed commands) cause = cause
script_read policy limit viewed before now old new bytes taken steady (Shows disk log) cause = cause
script_read policy limit viewed before now old new bytes taken steady DiskFails cause = cause
script_read policy limit viewed before now old new bytes taken steady (Overflows size need) cause = cause
script_read policy limit viewed before now old new bytes taken steady (Breaks place) cause = cause
script_read policy limit viewed before now old new bytes taken steady (Runs why config list text) cause = record { bytes = bytes; taken = taken; steady = steady; says = cause }
script_read policy limit viewed before now old new bytes taken steady (Rejects line reason said) cause = cause
script_read policy limit viewed before now old new bytes taken steady (Upholds config events text) cause = cause
script_read policy limit viewed before now old new bytes taken steady Starved cause = (steady, loses MOST_READ before.bytes now.bytes bytes taken)

pub script_ends : (policy : RoundPolicy) (limit : ℕ) (viewed : Option (List ℕ)) (rest left before now : DeviceState) (old new : List DeviceState) (status : ℕ) (trail : List Record) (bytes script : List ℕ) → script ≡ bytes → ReadsUpTo MOST_READ rest.bytes left.bytes bytes → left.faults ≡ rest.faults
    → EndsBy (IsOffersCause policy limit viewed (offers_reading script) old new) before now status trail → EndsBy (IsNodesCause policy limit viewed rest left old new) before now status trail
script_ends policy limit viewed rest left before now old new status trail bytes script same taken steady ends =
    let Q : List ℕ → Type 0 = λ b. EndsBy (IsOffersCause policy limit viewed (offers_reading b) old new) before now status trail in
    because (IsOffersCause policy limit viewed (offers_reading bytes) old new) (IsNodesCause policy limit viewed rest left old new) before now status trail (script_read policy limit viewed rest left old new bytes taken steady) (subst Q same ends)

-- ---- the disks

module _ {D : Type 0} where
  -- no disk was used
  pub kept_same : (sub : Option Subcommand) (Cause : Ending → Type 0) (old new : List D) (before now : DeviceState) (status : ℕ) (trail : List Record) → EndsBy Cause before now status trail → new ≡ old → KeepsUnused sub Cause old new
  kept_same sub Cause old new before now status trail ends same = record {
    ending = ends.ending;
    cause = ends.cause;
    count = ap length same;
    unused = λ i unused. ap (λ (ds : List D). slice_get ds i) same;
  }

  -- one cause for another
  pub kept_because : (sub : Option Subcommand) (P Q : Ending → Type 0) (old new : List D) → ((ending : Ending) → P ending → Q ending) → KeepsUnused sub P old new → KeepsUnused sub Q old new
  kept_because sub P Q old new for kept = record {
    ending = kept.ending;
    cause = for kept.ending kept.cause;
    count = kept.count;
    unused = kept.unused;
  }

  -- the disks of no node
  pub nodes_keep : (policy : RoundPolicy) (limit : ℕ) (viewed : Option (List ℕ)) (offers : Offers) (before now : List DeviceState) (why : RunEnd) (list : List Record) (text : List ℕ) (faults : D → ℕ) (old new : List D) → HasRun policy limit viewed before now offers why offers.config list text
      → KeepsOthers offers.config old new → NoneFell faults old new → KeepsUnused (Some (Run policy limit viewed)) (IsOffersCause policy limit viewed (Offered offers) before now) old new
  nodes_keep policy limit viewed offers before now why list text faults old new has others none_fell = record {
    ending = Runs why offers.config list text;
    cause = (offers, refl, has);
    count = AllZip-long (λ was is. faults was ≤ faults is) old new none_fell;
    unused = others;
  }

  pub script_keeps : (policy : RoundPolicy) (limit : ℕ) (viewed : Option (List ℕ)) (rest left : DeviceState) (before now : List DeviceState) (old new : List D) (bytes script : List ℕ) → script ≡ bytes → ReadsUpTo MOST_READ rest.bytes left.bytes bytes → left.faults ≡ rest.faults
      → KeepsUnused (Some (Run policy limit viewed)) (IsOffersCause policy limit viewed (offers_reading script) before now) old new → KeepsUnused (Some (Run policy limit viewed)) (IsNodesCause policy limit viewed rest left before now) old new
  script_keeps policy limit viewed rest left before now old new bytes script same taken steady kept =
      let Q : List ℕ → Type 0 = λ b. KeepsUnused (Some (Run policy limit viewed)) (IsOffersCause policy limit viewed (offers_reading b) before now) old new in
      kept_because (Some (Run policy limit viewed)) (IsOffersCause policy limit viewed (offers_reading bytes) before now) (IsNodesCause policy limit viewed rest left before now) old new (script_read policy limit viewed rest left before now bytes taken steady) (subst Q same kept)

  -- what holds place by place
  pub each_of : (P : D → D → Type 0) (old new : List D) → AllZip P old new → EachDisk P old new
  each_of P [] [] zip i was is at_old at_new = cc
  each_of P [] (y ∷ ys) zip i was is at_old at_new = absurd zip
  each_of P (x ∷ xs) [] zip i was is at_old at_new = absurd zip
  each_of P (x ∷ xs) (y ∷ ys) zip zero was is at_old at_new =
      let e : x ≡ was = cc in
      let f : y ≡ is = cc in
      subst (λ (d : D). P d is) e (subst (P x) f zip.0)
  each_of P (x ∷ xs) (y ∷ ys) zip (suc i) was is at_old at_new = each_of P xs ys zip.1 i was is at_old at_new
