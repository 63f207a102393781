-- What the log of a disk shows, and why it does not.
use Rattle.std.proofs.Common.{◌≡◌, ℕ, ◌+◌, ◌-◌, ◌≤◌, ◌⊎◌, suc, Bool, true, false, List, [], ◌∷◌, map, length, Option, Some, None, Result, Ok, Err, inl, inr, refl, sym, ap, subst, ◌∙◌, arith}
use Rattle.std.specs.Prelude.{slice_get, OnOk}
use Rattle.gp_text.specs.Logs.{log_text}
use Rattle.gp_edge.specs.Disks.{IfRevealed, LeavesOnly}
use Rattle.gp_msg.specs.declared.durable.Durable.{Durable}
use Rattle.gp_msg.specs.Messages.{EpochPart, part_of}
use Rattle.gp_vlog.specs.declared.fault.AppendFault.{AppendFault}
use Rattle.gp_vlog.specs.declared.fault.AppendFault.TheVariants as append
use Rattle.gp_vlog.specs.Bodies.{LogEntry, need}
use Rattle.gp_vlog.specs.Causes.{IsFullWhere, HasCause}
use Rattle.gp_vlog.specs.Files.{Contents, is_limit, read_log}
use Rattle.gp_vlog.specs.Logs.{LogState, Shows, IsReady, HoldsEntries, OldOrRenewed, StaysWhole, entry_for, has_old, log_entries}
use Rattle.gp_vlog.proofs.Moments.{tell, told, stays, weaker}
use Rattle.gp_cli.specs.Outside.{DeviceState, device, Told}
use Rattle.gp_cli.specs.Endings.{Shown, Shows as shows, run_to, config_of}
use Rattle.gp_cli.specs.Causes.{shown, IfLog, IsLogCause, IsUpgradeCause, last_alone, IsTakenOn, FitsAlone, HasRoomForLast, HasNoRoom}
use Rattle.gp_cli.specs.Logs.{TellsEnding, LogEnds, append_ending, HoldsLast, KeepsLast, TakesOn}

-- ---- what is shown

-- what a log with these entries and of this size shows
abbrev pub shown_of : List Durable → ℕ → Shown
shown_of ds size = record { parts = map part_of ds; size = size }

parts_of : (old : Bool) (ds : List Durable) → map (λ (e : LogEntry). e.part) (log_entries old ds) ≡ map part_of ds
parts_of old [] = refl
parts_of old (d ∷ ds) = ap (λ (ps : List EpochPart). part_of d ∷ ps) (parts_of old ds)

shows_it : (limit : ℕ) (old : Bool) (ds : List Durable) (size : ℕ) (s : List ℕ) → (h : Shows limit (log_entries old ds) size s) → shown_of ds size ≡ shown h.contents
shows_it limit old ds size s h =
    let parts : map part_of ds ≡ map (λ (e : LogEntry). e.part) h.contents.entries =
    sym (ap (λ (es : List LogEntry). map (λ (e : LogEntry). e.part) es) h.entries_are ∙ parts_of old ds) in
    let P : List EpochPart → Shown = λ ps. record { parts = ps; size = size } in
    let Q : ℕ → Shown = λ n. record { parts = map (λ (e : LogEntry). e.part) h.contents.entries; size = n } in
    ap P parts ∙ ap Q (sym h.size_is)

-- ---- a log that is shown

module _ {D : Type 0} (content : D → Option (List ℕ)) (image : D → List ℕ → Type 0) where
  pub opened : (k : ℕ) (before now : DeviceState) (log : LogState D) → now ≡ before → before.bytes ≡ content log.disk → IsReady content image log → IsLogCause k before now (shows k (shown_of log.entries log.size))
  opened k before now log same at ready =
      let P : Contents → Type 0 = λ found. shown_of log.entries log.size ≡ shown found in (
        refl,
        same,
        tell before.bytes (λ s. (found : Contents) × (read_log is_limit s ≡ Ok found) × P found) (λ s is.
            let h = (told (content log.disk) _ s (sym at ∙ is) ready).0 in
            (h.contents, h.reads, shows_it log.limit log.is_old log.entries log.size s h)),
      )

device_alike : (bytes other : Option (List ℕ)) (faults more : ℕ) → bytes ≡ other → faults ≡ more → device bytes faults ≡ device other more
device_alike bytes other faults more e f = ap (λ (b : Option (List ℕ)). device b faults) e ∙ ap (λ (n : ℕ). device other n) f

pub same_seen : (before now : DeviceState) → now.bytes ≡ before.bytes → now.faults ≡ before.faults → now ≡ before
same_seen before now e f = device_alike now.bytes before.bytes now.faults before.faults e f

-- ---- a log that was not opened

pub append_without_run : (why : AppendFault) → run_to (append_ending why) ≡ []
append_without_run (append.Full size need) = refl
append_without_run append.Disk = refl
append_without_run append.NoMemory = refl

pub append_without_config : (why : AppendFault) → config_of (append_ending why) ≡ None
append_without_config (append.Full size need) = refl
append_without_config append.Disk = refl
append_without_config append.NoMemory = refl

-- ---- a log that was taken on, or was not

module _ {D : Type 0} (content : D → Option (List ℕ)) (image : D → List ℕ → Type 0) where
  read_alike : (was found : Contents) (s t : List ℕ) → t ≡ s → read_log is_limit s ≡ Ok was → read_log is_limit t ≡ Ok found → found ≡ was
  read_alike was found s t e h k = let both = sym k ∙ ap (read_log is_limit) e ∙ h in cc

  pub taken_on : (k : ℕ) (before now : DeviceState) (old new : LogState D) → before.bytes ≡ content old.disk → now.bytes ≡ content new.disk → now.faults ≡ before.faults
      → IsReady content image old → TakesOn content image old new (Ok tt) → IsUpgradeCause k before now (shows k (shown_of new.entries new.size))
  taken_on k before now old new at_old at_new steady ready takes =
      let P : Contents → Contents → Type 0 = λ was found. IsTakenOn was found × (shown_of new.entries new.size ≡ shown found) in (
        refl,
        steady,
        tell before.bytes (λ s. (was : Contents) × (read_log is_limit s ≡ Ok was) × (HasRoomForLast was × IfLog now.bytes (P was))) (λ s is.
            let h = (told (content old.disk) _ s (sym at_old ∙ is) ready).0 in
            let room : HasRoomForLast h.contents = λ had.
            subst (λ (es : List LogEntry). FitsAlone h.contents.limit es) (sym h.entries_are)
            (subst (λ (n : ℕ). FitsAlone n (log_entries old.is_old old.entries)) (sym h.limit_is) (takes.3 (ap has_old (sym h.entries_are) ∙ had)).1) in (
              h.contents,
              h.reads,
              (
                room,
                tell now.bytes (λ t. (found : Contents) × (read_log is_limit t ≡ Ok found) × P h.contents found) (λ t is_now.
                    let n = (told (content new.disk) _ t (sym at_new ∙ is_now) takes.0).0 in
                    let same : has_old h.contents.entries ≡ false → n.contents ≡ h.contents = λ no.
                    let unchanged = takes.2 (ap has_old (sym h.entries_are) ∙ no) in
                    let bytes : Some t ≡ Some s = sym is_now ∙ at_new ∙ ap (λ (l : LogState D). content l.disk) unchanged ∙ sym at_old ∙ is in
                    read_alike h.contents n.contents s t (let e : t ≡ s = cc in e) h.reads n.reads in (
                      n.contents,
                      n.reads,
                      (
                        record {
                          limit = n.limit_is ∙ takes.1 ∙ sym h.limit_is;
                          renewed = λ had. n.entries_are ∙ (takes.3 (ap has_old (sym h.entries_are) ∙ had)).0 ∙ ap last_alone (sym h.entries_are);
                          same = same;
                        },
                        shows_it new.limit new.is_old new.entries new.size t n,
                      ),
                    )),
              ),
            )),
      )

  pub not_taken_on : (k : ℕ) (before now : DeviceState) (old new : LogState D) (why : AppendFault) → before.bytes ≡ content old.disk → now.bytes ≡ content new.disk
      → IsReady content image old → HasCause {T = Unit {0}} before.faults now.faults (Err why) → TakesOn content image old new (Err why) → IsUpgradeCause k before now (append_ending why)
  not_taken_on k before now old new (append.Full size need) at_old at_new ready cause takes = (
    same_seen before now (at_new ∙ ap (λ (l : LogState D). content l.disk) takes.0 ∙ sym at_old) (cause.steady (λ x. x)),
    tell before.bytes (λ s. (was : Contents) × (read_log is_limit s ≡ Ok was) × HasNoRoom size need was.limit was.entries) (λ s is.
        let h = (told (content old.disk) _ s (sym at_old ∙ is) ready).0 in
        let limit : HasNoRoom size need h.contents.limit (log_entries old.is_old old.entries) = subst (λ (n : ℕ). HasNoRoom size need n (log_entries old.is_old old.entries)) (sym h.limit_is) takes.1 in
        (h.contents, h.reads, subst (λ (es : List LogEntry). HasNoRoom size need h.contents.limit es) (sym h.entries_are) limit)),
  )
  not_taken_on k before now old new append.Disk at_old at_new ready cause takes = cause.failed tt
  not_taken_on k before now old new append.NoMemory at_old at_new ready cause takes = cause.steady (λ x. x)

-- ---- crashes

module _ {D : Type 0} (content : D → Option (List ℕ)) (image : D → List ℕ → Type 0) (moment : D → ℕ) (since : D → ℕ → List ℕ → Type 0) where
  -- a crash leaves what it might have left before
  pub leaves_as_before : (old new : D) → LeavesOnly moment since old new (image old) → KeepsLast content image moment since old new
  leaves_as_before old new h = tell (content old) _ (λ s is. weaker moment since old new (image old) (λ c. image old c ⊎ HoldsLast s c) h (λ c i. inl i))

  pub stays_as_before : (old : D) → ((c : List ℕ) → since old (moment old) c → image old c) → KeepsLast content image moment since old old
  stays_as_before old only_now = leaves_as_before old old (stays moment since old (image old) only_now)

  -- the bytes of a log hold all its entries
  holds_all : (log : LogState D) (s c : List ℕ) → Shows log.limit (log_entries log.is_old log.entries) log.size s → HoldsEntries log.limit (log_entries log.is_old log.entries) c → HoldsLast s c
  holds_all log s c h (size, k) = record {
    before = h.contents;
    found = k.contents;
    read_before = h.reads;
    read_now = k.reads;
    limit = k.limit_is ∙ sym h.limit_is;
    entries = inl (k.entries_are ∙ sym h.entries_are);
  }

  holds_last : (log : LogState D) (s c : List ℕ) (last : Durable) → Shows log.limit (log_entries log.is_old log.entries) log.size s → entry_for false last ∷ [] ≡ last_alone (log_entries log.is_old log.entries)
      → HoldsEntries log.limit (entry_for false last ∷ []) c → HoldsLast s c
  holds_last log s c last h alone (size, k) = record {
    before = h.contents;
    found = k.contents;
    read_before = h.reads;
    read_now = k.reads;
    limit = k.limit_is ∙ sym h.limit_is;
    entries = inr (k.entries_are ∙ alone ∙ ap last_alone (sym h.entries_are));
  }

  -- a log that is renewed with its last entry
  pub renewed_leaves : (log : LogState D) (new : D) (last : Durable) → IsReady content image log → entry_for false last ∷ [] ≡ last_alone (log_entries log.is_old log.entries)
      → IfRevealed (content log.disk) (λ s. LeavesOnly moment since log.disk new (OldOrRenewed log.limit (log_entries log.is_old log.entries) (entry_for false last)))
      → KeepsLast content image moment since log.disk new
  renewed_leaves log new last ready alone moments = tell (content log.disk) _ (λ s is.
      let h = (told (content log.disk) _ s is ready).0 in
      weaker moment since log.disk new _ (λ c. image log.disk c ⊎ HoldsLast s c) (told (content log.disk) _ s is moments) (λ c p. elim p [
        | inl old ↦ inr (holds_all log s c h old)
        | inr one ↦ inr (holds_last log s c last h alone one)
      ]))

-- ---- how runs end

module _ {D : Type 0} (content : D → Option (List ℕ)) (image : D → List ℕ → Type 0) (faults : D → ℕ) where
  pub shows_ends : (k : ℕ) (disk out : D) (log : LogState D) (before now : DeviceState) (status : ℕ) → out ≡ log.disk → content log.disk ≡ content disk → faults log.disk ≡ faults disk → IsReady content image log
      → Told before now (log_text k (map part_of log.entries) log.size) 0 5 status → LogEnds (IsLogCause k (device (content disk) (faults disk)) (device (content out) (faults out))) before now status
  shows_ends k disk out log before now status is same steady ready told = record {
    ending = shows k (shown_of log.entries log.size);
    cause = opened content image k (device (content disk) (faults disk)) (device (content out) (faults out)) log
        (device_alike (content out) (content disk) (faults out) (faults disk) (ap content is ∙ same) (ap faults is ∙ steady)) (sym same) ready;
    no_run = refl;
    no_config = refl;
    told = told;
  }

  pub takes_ends : (k : ℕ) (old new : LogState D) (result : Result (Unit {0}) AppendFault) (before now : DeviceState) (status : ℕ) → result ≡ Ok tt → IsReady content image old → TakesOn content image old new result → HasCause (faults old.disk) (faults new.disk) result
      → Told before now (log_text k (map part_of new.entries) new.size) 0 5 status → LogEnds (IsUpgradeCause k (device (content old.disk) (faults old.disk)) (device (content new.disk) (faults new.disk))) before now status
  takes_ends k old new result before now status is ready takes cause told =
      let well : HasCause {T = Unit {0}} (faults old.disk) (faults new.disk) (Ok tt) = subst (λ (r : Result (Unit {0}) AppendFault). HasCause (faults old.disk) (faults new.disk) r) is cause in
      record {
        ending = shows k (shown_of new.entries new.size);
        cause = taken_on content image k (device (content old.disk) (faults old.disk)) (device (content new.disk) (faults new.disk)) old new refl refl (well.steady (λ x. x)) ready (subst (TakesOn content image old new) is takes);
        no_run = refl;
        no_config = refl;
        told = told;
      }

  pub takes_not_ends : (k : ℕ) (old new : LogState D) (result : Result (Unit {0}) AppendFault) (why : AppendFault) (before now : DeviceState) (status : ℕ) → result ≡ Err why → IsReady content image old → TakesOn content image old new result → HasCause (faults old.disk) (faults new.disk) result
      → TellsEnding (append_ending why) before now status → LogEnds (IsUpgradeCause k (device (content old.disk) (faults old.disk)) (device (content new.disk) (faults new.disk))) before now status
  takes_not_ends k old new result why before now status is ready takes cause told = record {
    ending = append_ending why;
    cause = not_taken_on content image k (device (content old.disk) (faults old.disk)) (device (content new.disk) (faults new.disk)) old new why refl refl ready
        (subst (λ (r : Result (Unit {0}) AppendFault). HasCause (faults old.disk) (faults new.disk) r) is cause) (subst (TakesOn content image old new) is takes);
    no_run = append_without_run why;
    no_config = append_without_config why;
    told = told;
  }

  -- the same from the disk before it was opened to the one that comes back
  pub upgrade_ends : (k : ℕ) (disk out : D) (old new : LogState D) (before now : DeviceState) (status : ℕ) → out ≡ new.disk → content old.disk ≡ content disk → faults old.disk ≡ faults disk
      → LogEnds (IsUpgradeCause k (device (content old.disk) (faults old.disk)) (device (content new.disk) (faults new.disk))) before now status → LogEnds (IsUpgradeCause k (device (content disk) (faults disk)) (device (content out) (faults out))) before now status
  upgrade_ends k disk out old new before now status is same steady ends =
      let first = device_alike (content old.disk) (content disk) (faults old.disk) (faults disk) same steady in
      subst (λ (d : D). LogEnds (IsUpgradeCause k (device (content disk) (faults disk)) (device (content d) (faults d))) before now status) (sym is)
      (subst (λ (s : DeviceState). LogEnds (IsUpgradeCause k s (device (content new.disk) (faults new.disk))) before now status) first ends)

-- ---- renewing with the last entry

pub last_is : (o : Bool) (ds : List Durable) (d : Durable) → slice_get ds (length ds - 1) ≡ Some d → entry_for false d ∷ [] ≡ last_alone (log_entries o ds)
last_is o [] d e = cc
last_is o (x ∷ []) d e = let same : x ≡ d = cc in ap (λ (y : Durable). entry_for false y ∷ []) (sym same)
last_is o (x ∷ y ∷ ds) d e =
    let more : length (x ∷ y ∷ ds) - 1 ≡ suc (length (y ∷ ds) - 1) = omega arith in
    last_is o (y ∷ ds) d (ap (λ (i : ℕ). slice_get (x ∷ y ∷ ds) i) (sym more) ∙ e)

fits_alone : (limit : ℕ) (es : List LogEntry) (d : Durable) → entry_for false d ∷ [] ≡ last_alone es → 17 + need None (part_of d) ≤ limit → FitsAlone limit es
fits_alone limit es d alone room part is =
    let both : entry_for false d ∷ [] ≡ (record { old = false; part = part }) ∷ [] = alone ∙ is in
    let heads : Some (entry_for false d) ≡ Some (record { old = false; part = part }) = ap (λ (xs : List LogEntry). slice_get xs 0) both in
    let same : entry_for false d ≡ record { old = false; part = part } = cc in
    subst (λ (p : EpochPart). 17 + need None p ≤ limit) (ap (λ (e : LogEntry). e.part) same) room

module _ {D : Type 0} (content : D → Option (List ℕ)) (image : D → List ℕ → Type 0) where
  pub renewed_takes : (old new : LogState D) (last : Durable) (result : Result (Unit {0}) AppendFault) → has_old (log_entries old.is_old old.entries) ≡ true → entry_for false last ∷ [] ≡ last_alone (log_entries old.is_old old.entries)
      → OnOk result (new.entries ≡ last ∷ []) → OnOk result (new.is_old ≡ false) → OnOk result (IsReady content image new) → IsFullWhere old.limit 17 (need None (part_of last)) result → StaysWhole old new result → new.limit ≡ old.limit
      → TakesOn content image old new result
  renewed_takes old new last (Ok x) old_one alone renewed version ready full left limit = (
    ready,
    limit,
    (λ not. absurd (let differ = sym old_one ∙ not in cc)),
    (λ again. (
      ap (λ (o : Bool). log_entries o new.entries) version ∙ ap (log_entries false) renewed ∙ alone,
      fits_alone old.limit (log_entries old.is_old old.entries) last alone full,
    )),
  )
  renewed_takes old new last (Err (append.Full size n)) old_one alone renewed version ready full left limit = (
    left,
    record {
      old = old_one;
      smallest = full.0;
      last = part_of last;
      is_last = sym alone;
      its_need = full.1;
      great = let a = full.0 in let b = full.1 in let l = full.2 in omega (arith, a, b, l);
    },
  )
  renewed_takes old new last (Err append.Disk) old_one alone renewed version ready full left limit = tt
  renewed_takes old new last (Err append.NoMemory) old_one alone renewed version ready full left limit = tt
