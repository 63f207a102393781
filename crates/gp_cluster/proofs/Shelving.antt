-- From the disks of a program to the logs of its nodes, and back.
use Rattle.std.proofs.Common.{◌≡◌, ◌≤◌, ◌<◌, ℕ, zero, suc, List, [], ◌∷◌, map, length, refl, sym, ap, ◌∙◌, subst, arith, Option, Some, None}
use Rattle.std.specs.Prelude.{slice_get, IfSome}
use Rattle.std.specs.List.{AllZip}
use Rattle.std.proofs.lemmas.List.{length-map}
use Rattle.std.proofs.lemmas.Slice.Zip.{AllZip-long}
use Rattle.gp_command.specs.Views.{DraftView}
use Rattle.gp_round.specs.Counts.{Counts}
use Rattle.gp_msg.specs.declared.node.Node.{Node}
use Rattle.gp_msg.specs.declared.record.Record.{Record}
use Rattle.gp_msg.specs.Messages.{Entry}
use Rattle.gp_edge.specs.Disks.{IfRevealed}
use Rattle.gp_edge.specs.Faults.{Rose}
use Rattle.gp_run.specs.Runs.{newest_first}
use Rattle.gp_vlog.specs.Logs.{LogState}
use Rattle.gp_wire.specs.Lists.{Each}
use Rattle.gp_cell.specs.Cores.{opening, core_at, part_in}
use Rattle.gp_seats.specs.Nodes.{logged_nodes}
use Rattle.gp_seats.specs.Seats.{IsBlank}
use Rattle.gp_shelf.specs.declared.making.LendFault.TheVariants as lending
use Rattle.gp_shelf.specs.Lists.{disk_in, lent_of, unlent_of, shelved, KeepsOthers}
use Rattle.gp_shelf.specs.Making.{IsMade, SomeRose, NoneFell}
use Rattle.gp_shelf.specs.Places.{logged}
use Rattle.gp_shelf.proofs.Segments.{length-lent, length-unlent, shelved_at, others_stay}
use Rattle.gp_shelf.proofs.Zips.{zip_all, fell_there}
use Rattle.gp_ending.specs.declared.ends.RunEnd.{RunEnd}
use Rattle.gp_ending.specs.declared.ends.RunEnd.TheVariants.{Learned, NoMemory, Disk, Full, NotLog, Changed}
use Rattle.gp_cluster.specs.Cells.{LogGoes}
use Rattle.gp_seats.proofs.Sitting.{all_of_each}
use Rattle.gp_cluster.specs.Runs.{EndCause, SomeLost, EndsWith, HoldParts, IsQuietOrSettled}
use Rattle.gp_cluster.specs.declared.policy.RoundPolicy.{RoundPolicy}
use Rattle.gp_cluster.specs.Seated.{RunsFrom, HaveLimit, HoldLogs}
use Rattle.gp_cluster.proofs.Losing.{lost_there}

-- ---- new logs

module _ {D : Type 0} (content : D → Option (List ℕ)) (image : D → List ℕ → Type 0) (faults : D → ℕ) (limit : ℕ) where
  abbrev Made : List D → List (LogState D) → Type 0
  Made = AllZip (IsMade content image faults limit)

  pub blank : (disks : List D) (logs : List (LogState D)) → Made disks logs → Each IsBlank logs
  blank [] [] z = tt
  blank [] (l ∷ ls) z = absurd z
  blank (d ∷ ds) [] z = tt
  blank (d ∷ ds) (l ∷ ls) z = ((z.0.ready, z.0.entries_are), blank ds ls z.1)

  limited : (disks : List D) (logs : List (LogState D)) → Made disks logs → Each (λ log. log.limit ≡ limit) logs
  limited [] [] z = tt
  limited [] (l ∷ ls) z = absurd z
  limited (d ∷ ds) [] z = tt
  limited (d ∷ ds) (l ∷ ls) z = (z.0.limit_is, limited ds ls z.1)

  pub have_limit : (disks : List D) (logs : List (LogState D)) → Made disks logs → HaveLimit limit logs
  have_limit disks logs z = all_of_each (λ log. log.limit ≡ limit) logs (limited disks logs z)

  none_fell : (disks : List D) (first last : List (LogState D)) → Made disks first → AllZip (LogGoes faults) first last → NoneFell faults disks (map disk_in last)
  none_fell [] [] [] z g = tt
  none_fell [] [] (m ∷ ms) z g = absurd g
  none_fell [] (l ∷ ls) last z g = absurd z
  none_fell (d ∷ ds) [] last z g = absurd z
  none_fell (d ∷ ds) (l ∷ ls) [] z g = absurd g
  none_fell (d ∷ ds) (l ∷ ls) (m ∷ ms) z g = (let a = z.0.steady in let b = g.0.later in omega (arith, a, b), none_fell ds ls ms z.1 g.1)

  record MadeOf (disks : List D) (k : ℕ) (made : D) : Type 0 where
    disk : D
    there : slice_get disks k ≡ Some disk
    steady : faults made ≡ faults disk

  made_of : (disks : List D) (logs : List (LogState D)) → Made disks logs → (k : ℕ) (made : D) → slice_get (map disk_in logs) k ≡ Some made → MadeOf disks k made
  made_of [] [] z k made e = absurd (let wrong : None ≡ Some made = e in cc)
  made_of [] (l ∷ ls) z k made e = absurd z
  made_of (d ∷ ds) [] z k made e = absurd z
  made_of (d ∷ ds) (l ∷ ls) z zero made e = record { disk = d; there = refl; steady = ap faults (sym (let same : l.disk ≡ made = (let some : Some l.disk ≡ Some made = e in cc) in same)) ∙ z.0.steady }
  made_of (d ∷ ds) (l ∷ ls) z (suc k) made e = let m = made_of ds ls z.1 k made e in record { disk = m.disk; there = m.there; steady = m.steady }

  some_rose : (disks : List D) (first : List (LogState D)) (last : List D) → Made disks first → SomeRose faults (map disk_in first) last → SomeRose faults disks last
  some_rose disks first last z r = let m = made_of disks first z r.place r.was r.before in record {
    place = r.place;
    was = m.disk;
    is = r.is;
    before = m.there;
    after = r.after;
    rose = subst (λ n. Rose n (faults r.is)) m.steady r.rose;
  }

  some_lost : (disks : List D) (first : List (LogState D)) (last : List D) → Made disks first → SomeLost content faults (map disk_in first) last → SomeLost content faults disks last
  some_lost disks first last z r = let m = made_of disks first z r.place r.was r.before in record {
    place = r.place;
    was = m.disk;
    is = r.is;
    before = m.there;
    after = r.after;
    rose = subst (λ n. Rose n (faults r.is)) m.steady r.rose;
    hidden = r.hidden;
  }

-- ---- what holds of a log holds of its disk

module _ {D : Type 0} (content : D → Option (List ℕ)) (config : Counts) (limit : ℕ) (run : List Entry) where
  abbrev HoldsPart : Node → D → Type 0
  HoldsPart n d = IfRevealed (content d) (EndsWith limit (part_in (opening config n)) (part_in (core_at config n run)))

  held_at : (ns : List Node) (logs : List (LogState D)) → AllZip (λ n log. HoldsPart n log.disk) ns logs → (k : ℕ) (n : Node) (d : D) → slice_get ns k ≡ Some n → slice_get (map disk_in logs) k ≡ Some d → HoldsPart n d
  held_at [] logs z k n d a b = absurd (let wrong : None ≡ Some n = a in cc)
  held_at (m ∷ ns) [] z k n d a b = absurd z
  held_at (m ∷ ns) (l ∷ ls) z zero n d a b =
      subst (λ e. HoldsPart n e) (let same : l.disk ≡ d = (let some : Some l.disk ≡ Some d = b in cc) in same)
      (subst (λ o. HoldsPart o l.disk) (let same : m ≡ n = (let some : Some m ≡ Some n = a in cc) in same) z.0)
  held_at (m ∷ ns) (l ∷ ls) z (suc k) n d a b = held_at ns ls z.1 k n d a b

-- ---- causes

module _ {D : Type 0} (content : D → Option (List ℕ)) (faults : D → ℕ) (config : Counts) (limit : ℕ) where
  cause_on : (old new old' new' : List D) (posted : Option (List Record)) → (SomeRose faults old new → SomeRose faults old' new') → (SomeLost content faults old new → SomeLost content faults old' new') → (end : RunEnd)
      → EndCause content faults config limit old new posted end → EndCause content faults config limit old' new' posted end
  cause_on old new old' new' posted f b Learned c = tt
  cause_on old new old' new' posted f b NoMemory c = tt
  cause_on old new old' new' posted f b Disk c = f c
  cause_on old new old' new' posted f b (Full size needed) c = c
  cause_on old new old' new' posted f b (NotLog at) c = b c
  cause_on old new old' new' posted f b Changed c = b c

-- ---- the run of the disks

module _ {D : Type 0} (policy : RoundPolicy) (content : D → Option (List ℕ)) (image : D → List ℕ → Type 0) (faults : D → ℕ) (config : Counts) (limit : ℕ) (offers : List (ℕ × DraftView)) (disks : List D) (first last : List (LogState D)) (posted : Option (List Record)) (end : RunEnd)
    (acceptors : config.acceptors ≤ 7) (coordinators : config.coordinators ≤ 5) (twelve : length disks ≡ 12)
    (made : AllZip (IsMade content image faults limit) (lent_of config disks) first) (run : RunsFrom policy faults content config offers first last posted end) where
  abbrev back : List D
  back = shelved config (unlent_of config disks) (map disk_in last)

  pub count_first : length first ≡ logged config
  count_first = AllZip-long (IsMade content image faults limit) (lent_of config disks) first made ∙ length-lent config disks twelve acceptors coordinators

  pub count_last : length last ≡ logged config
  count_last = AllZip-long (LogGoes faults) first last run.going ∙ count_first

  count_back : length (map disk_in last) ≡ logged config
  count_back = length-map last disk_in ∙ count_last

  fell : NoneFell faults (lent_of config disks) (map disk_in last)
  fell = none_fell content image faults limit (lent_of config disks) first last made run.going

  rose : SomeRose faults (map disk_in first) (map disk_in last) → SomeRose faults disks back
  rose r = (fell_there faults config disks (map disk_in last) lending.Disk acceptors coordinators twelve (fell, some_rose content image faults limit (lent_of config disks) first (map disk_in last) made r)).1

  lost : SomeLost content faults (map disk_in first) (map disk_in last) → SomeLost content faults disks back
  lost r = lost_there content faults config disks (map disk_in last) acceptors coordinators twelve count_back (some_lost content image faults limit (lent_of config disks) first (map disk_in last) made r)

  limits : HaveLimit limit first
  limits = have_limit content image faults limit (lent_of config disks) first made

  pub none_fell_there : NoneFell faults disks back
  none_fell_there = zip_all (λ was is. faults was ≤ faults is) (λ d. omega arith) config disks (map disk_in last) acceptors coordinators twelve fell

  pub others : KeepsOthers config disks back
  others = others_stay config disks (map disk_in last) acceptors coordinators twelve count_back

  pub quiet : end ≡ Learned → ¬ SomeRose faults disks back → IfSome posted (IsQuietOrSettled policy config offers)
  quiet l calm = run.quiet l (λ r. calm (rose r))

  pub cause : EndCause content faults config limit disks back posted end
  cause = cause_on content faults config limit (map disk_in first) (map disk_in last) disks back posted rose lost end (run.cause limit limits)

  named_within : (list : List Record) (ns : List Node) (logs : List (LogState D)) → AllZip (λ n log. HoldsPart content config limit (newest_first list) n log.disk) ns logs → (k : ℕ) (n : Node) → slice_get ns k ≡ Some n → k < length logs
  named_within list [] logs z k n e = absurd (let wrong : None ≡ Some n = e in cc)
  named_within list (m ∷ ns) [] z k n e = absurd z
  named_within list (m ∷ ns) (l ∷ ls) z zero n e = omega arith
  named_within list (m ∷ ns) (l ∷ ls) z (suc k) n e = let b = named_within list ns ls z.1 k n e in omega (arith, b)

  hold_parts : (list : List Record) → HoldLogs content config limit (newest_first list) last → HoldParts content config limit (newest_first list) back
  hold_parts list h k n disk named there =
      let within : k < logged config = (let b = named_within list (logged_nodes config) last h k n named in let c = count_last in omega (arith, b, c)) in
      held_at content config limit (newest_first list) (logged_nodes config) last h k n disk named
      (sym (shelved_at config (unlent_of config disks) (map disk_in last) acceptors coordinators (length-unlent config disks twelve acceptors coordinators) count_back k within) ∙ there)

  parts_of : (o : Option (List Record)) → IfSome o (λ list. HoldLogs content config limit (newest_first list) last) → IfSome o (λ list. HoldParts content config limit (newest_first list) back)
  parts_of None h = tt
  parts_of (Some list) h = hold_parts list h

  pub parts : end ≡ Learned → IfSome posted (λ list. HoldParts content config limit (newest_first list) back)
  parts l = parts_of posted (run.parts limit limits l)
