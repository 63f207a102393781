-- What is left of a run whose wire was closed.
use Rattle.std.specs.Prelude.{◌≡◌, ◌≢◌, ◌⊎◌, ℕ, true, false, List, map, slice_get, Option, Some, None, Result, Ok, Err}
use Rattle.std.specs.List.{All}
use Rattle.gp_round.specs.Counts.{Counts}
use Rattle.gp_msg.specs.declared.event.Event.{Event}
use Rattle.gp_msg.specs.declared.node.Node.TheVariants.{Proposer}
use Rattle.gp_msg.specs.declared.record.Record.{Record}
use Rattle.gp_run.specs.Legal.{Legal, fits}
use Rattle.gp_run.specs.Runs.{newest_first}
use Rattle.gp_vlog.specs.Logs.{LogState}
use Rattle.gp_wire.specs.Ends.{Closed}
use Rattle.gp_wire.specs.Known.{WireState, PassState, records}
use Rattle.gp_cell.specs.Lawful.{paxos_legal}
use Rattle.gp_wire.specs.Own.{own_events, IsBehind}
use Rattle.gp_cell.specs.declared.rules.PaxosRules.{PaxosRules}
use Rattle.gp_cell.specs.Cells.{CellState, pass_of}
use Rattle.gp_cell.specs.Refusals.{IsTooGreat}
use Rattle.gp_driver.specs.declared.stage.StageFault.{StageFault}
use Rattle.gp_driver.specs.declared.stage.StageFault.TheVariants as fault
use Rattle.gp_driver.specs.Settling.{settle}
use Rattle.gp_driver.specs.Settled.{AllLearned}
use Rattle.gp_driver.specs.Stages.{is_fall, Extends}
use Rattle.gp_stage.specs.Held.{AreUp, with_pass}
use Rattle.gp_ending.specs.declared.ends.RunEnd.{RunEnd}
use Rattle.gp_ending.specs.declared.ends.RunEnd.TheVariants.{Learned, NoMemory, Disk, Full, NotLog, Changed}
use Rattle.gp_cluster.specs.Cells.{IsKnownCell, HasLearned, CellsGo, SomeCellRose, disk_counts, logs_of}

-- these cells closed the wire with this list, which is a legal run
pub record IsClosedBy {D : Type 0} (wire : WireState PaxosRules) (cells : List (CellState D)) (list : List Record) : Type 0 where
  pub closed : Closed (paxos_legal wire.rules.config) wire.nodes (map pass_of cells) list
  pub legal : Legal wire.rules.config (newest_first list)

-- the run has the end that was meant, or memory ran out and there is no list
abbrev pub EndsAs : RunEnd → Option (List Record) → RunEnd → Type 0
EndsAs meant None end = end ≡ NoMemory
EndsAs meant (Some list) end = end ≡ meant

-- a legal run that begins with what each of these cells has seen, with no more records of the cell's node
pub record IsRunOfCells {D : Type 0} (config : Counts) (cells : List (CellState D)) (list : List Record) : Type 0 where
  pub legal : Legal config (newest_first list)
  pub behind : (i : ℕ) (c : CellState D) → slice_get cells i ≡ Some c → IsBehind c.node (records c.pass) list

-- at one of these cells, with a pass that has seen this list, an event, not a crash, may come next that is too great for the cell's log
pub record IsTooGreatFor {D : Type 0} (config : Counts) (cells : List (CellState D)) (list : List Record) (size needed : ℕ) : Type 0 where
  pub cell : CellState D
  pub place : ℕ
  pub there : slice_get cells place ≡ Some cell
  pub pass : PassState
  pub whole : records pass ≡ list
  pub event : Event
  pub may_come : fits config (newest_first list) event ≡ true
  pub no_fall : is_fall event ≡ false
  pub great : IsTooGreat (with_pass cell pass) event size needed

-- the end of a run that was closed as it was: the end that was meant; or, if none was meant, either every learner has at least so many commands, or memory ran out
abbrev pub StoodTo : {D : Type 0} → ℕ → List (CellState D) → Option RunEnd → RunEnd → Type 0
StoodTo commands cells (Some meant) end = end ≡ meant
StoodTo commands cells None end = ((end ≡ Learned) × All (HasLearned commands) cells) ⊎ (end ≡ NoMemory)

-- how settling ended, given the run before, the cells before and after, and the list after
abbrev pub SettledTo : {D : Type 0} → (D → ℕ) → Counts → List Record → List (CellState D) → List (CellState D) → List Record → RunEnd → Type 0
SettledTo faults config before cells after list Learned = (newest_first list ≡ settle config (newest_first before)) × AllLearned config (newest_first list) × AreUp after
SettledTo faults config before cells after list NoMemory = Unit {0}
SettledTo faults config before cells after list Disk = SomeCellRose faults cells after
SettledTo faults config before cells after list (Full size needed) = IsTooGreatFor config after list size needed
SettledTo faults config before cells after list (NotLog at) = ⊥
SettledTo faults config before cells after list Changed = ⊥

-- a run that was settled, since some learner had too few commands. It extends the run before, the proposers made no more events, and no disk failed unless that ended it
pub record IsSettling {D : Type 0} (faults : D → ℕ) (config : Counts) (commands : ℕ) (cells after : List (CellState D)) (end : RunEnd) (list : List Record) : Type 0 where
  pub before : List Record
  pub run : IsRunOfCells config cells before
  pub lacking : ¬ All (HasLearned commands) cells
  pub extends : Extends (newest_first before) (newest_first list)
  pub rest : (i : ℕ) (c : CellState D) (p : ℕ) → slice_get cells i ≡ Some c → c.node ≡ Proposer p → own_events c.node list ≡ own_events c.node before
  pub settled : SettledTo faults config before cells after list end
  pub steady : end ≢ Disk → disk_counts faults after ≡ disk_counts faults cells

-- the list of a run that these cells closed: as it was, or, if no end was meant, after it was settled
pub data IsConclusion {D : Type 0} (faults : D → ℕ) (config : Counts) (commands : ℕ) (cells after : List (CellState D)) (meant : Option RunEnd) (end : RunEnd) (list : List Record) : Type 0 where
  Stood : after ≡ cells → StoodTo commands cells meant end → IsConclusion faults config commands cells after meant end list
  Settled : meant ≡ None → IsSettling faults config commands cells after end list → IsConclusion faults config commands cells after meant end list

-- what is left of a run of these cells: the cells as they are later, which are those that were given if an end was meant, and the list, if memory was enough to close the wire
pub record Concludes {D : Type 0} (faults : D → ℕ) (config : Counts) (commands : ℕ) (cells : List (CellState D)) (meant : Option RunEnd) (end : RunEnd) (posted : Option (List Record)) (after : List (CellState D)) : Type 0 where
  pub goes : CellsGo faults cells after
  pub known : All IsKnownCell after
  pub stood : meant ≢ None → after ≡ cells
  pub none : posted ≡ None → end ≡ NoMemory
  pub some : (list : List Record) → posted ≡ Some list → IsRunOfCells config after list × IsConclusion faults config commands cells after meant end list

-- the same, with the logs that are returned
pub record Leaves {D : Type 0} (faults : D → ℕ) (config : Counts) (commands : ℕ) (cells : List (CellState D)) (meant : Option RunEnd) (end : RunEnd) (posted : Option (List Record)) (logs : List (LogState D)) : Type 0 where
  pub after : List (CellState D)
  pub concludes : Concludes faults config commands cells meant end posted after
  pub logs_are : logs ≡ logs_of after

-- how a settled run ends
abbrev pub end_of : Result ℕ StageFault → RunEnd
end_of (Ok n) = Learned
end_of (Err fault.NoMemory) = NoMemory
end_of (Err fault.Disk) = Disk
end_of (Err (fault.Full size need)) = Full size need
