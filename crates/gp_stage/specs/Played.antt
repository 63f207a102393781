-- A move of one of the cells, after its pass has taken over all nodes.
use Rattle.std.specs.Prelude.{◌≡◌, ◌≢◌, ℕ, true, [], ◌∷◌, ◌++◌, List, map, length, slice_get, Some, None, Result, OnOk, OnErr, IfOk, IfErr}
use Rattle.gp_round.specs.Counts.{Counts}
use Rattle.gp_msg.specs.declared.record.Record.{Record}
use Rattle.gp_msg.specs.declared.message.MsgKind.{MsgKind}
use Rattle.gp_msg.specs.Messages.{entry_of}
use Rattle.gp_msg.specs.Reads.{kind_of}
use Rattle.gp_run.specs.Messages.{messages}
use Rattle.gp_msg.specs.Nodes.{is_present}
use Rattle.gp_run.specs.Legal.{fits}
use Rattle.gp_run.specs.Runs.{newest_first, entry_after}
use Rattle.gp_run.specs.TopCount.{top_of_messages}
use Rattle.gp_wire.specs.Known.{WireState, records}
use Rattle.gp_msg.specs.Records.{messages_in}
use Rattle.gp_work.specs.declared.moves.Move.{Move}
use Rattle.gp_work.specs.declared.faults.StepFault.{StepFault}
use Rattle.gp_work.specs.declared.faults.StepFault.TheVariants.{Waiting, NoMemory, Disk, Full}
use Rattle.gp_work.specs.Moves.{event_of, Fits}
use Rattle.gp_driver.specs.declared.stage.StageFault.{StageFault}
use Rattle.gp_driver.specs.declared.stage.StageFault.TheVariants as stage
use Rattle.gp_cell.specs.Lawful.{IsLawful}
use Rattle.gp_cell.specs.declared.rules.PaxosRules.{PaxosRules}
use Rattle.gp_cell.specs.Cells.{CellState}
use Rattle.gp_cell.specs.Refusals.{CountsFaults, IsTooGreat, faults_of, limit_of}
use Rattle.gp_stage.specs.Held.{seen_by}
use Rattle.gp_stage.specs.Gathered.{AreSameBut, rest_of}
use Rattle.gp_stage.specs.Kept.{AreHeld}

-- why the move was refused: never because a message was missing
abbrev pub PlayCause : {D : Type 0} → CellState D → Move → StepFault → Type 0
PlayCause c mv Waiting = ⊥
PlayCause c mv NoMemory = Unit {0}
PlayCause c mv Disk = Unit {0}
PlayCause c mv (Full size need) = IsTooGreat c (event_of c.node mv) size need

-- the fault of a stage, given the fault of one of its cells, which never waits for a message
abbrev pub stage_fault : StepFault → StageFault
stage_fault Waiting = stage.NoMemory
stage_fault NoMemory = stage.NoMemory
stage_fault Disk = stage.Disk
stage_fault (Full size need) = stage.Full size need

-- the list of the cell is this one with one more record, which is of the cell's node and has what the node sends
pub record HasPosted {D : Type 0} (config : Counts) (list : List Record) (c : CellState D) : Type 0 where
  pub item : Record
  pub list_is : records c.pass ≡ list ++ item ∷ []
  pub node_is : item.node ≡ c.node
  pub lawful : IsLawful config (newest_first list) (entry_of item)

-- the cell at this place then holds all nodes, and has posted one record, or none if the move was refused
pub record HasPlayed {D : Type 0} (faults : D → ℕ) (wire : WireState PaxosRules) (old new : List (CellState D)) (holder at : ℕ) (mv : Move) (result : Result ℕ StepFault) : Type 0 where
  pub before : CellState D
  pub before_is : slice_get old at ≡ Some before
  pub after : CellState D
  pub after_is : slice_get new at ≡ Some after
  pub node_is : after.node ≡ before.node
  pub held : AreHeld wire wire.rules.config new at
  pub length_is : length new ≡ length old
  pub others : (i : ℕ) → i ≢ at → slice_get (map rest_of new) i ≡ slice_get (map rest_of old) i
  pub entry : OnOk result (newest_first (records after.pass)
      ≡ entry_after wire.rules.config (newest_first (seen_by (slice_get old holder))) (event_of before.node mv) ∷ newest_first (seen_by (slice_get old holder)))
  pub posted : OnOk result (HasPosted wire.rules.config (seen_by (slice_get old holder)) after)
  pub count : IfOk result (λ n. n ≡ length (messages_in (records after.pass)))
  pub up : OnOk result (after.down ≡ None)
  pub nothing : OnErr result (records after.pass ≡ seen_by (slice_get old holder))
  pub cause : IfErr result (PlayCause after mv)
  pub counts : CountsFaults (faults_of faults before.log) (faults_of faults after.log) result
  pub limit : limit_of after.log ≡ limit_of before.log

-- the cell at this place is up, and the move is one of its node that may come next
pub record CanPlay {D : Type 0} (config : Counts) (cells : List (CellState D)) (holder at : ℕ) (mv : Move) : Type 0 where
  pub cell : CellState D
  pub cell_is : slice_get cells at ≡ Some cell
  pub up : cell.down ≡ None
  pub fit : Fits config cell.node mv
  pub present : is_present config cell.node ≡ true
  pub fits_now : fits config (newest_first (seen_by (slice_get cells holder))) (event_of cell.node mv) ≡ true

-- the last record of the list is of the cell at this place, with what its node sends; these are the kinds of the messages before that record, and the greatest count of a round in them
pub record KnewBefore {D : Type 0} (config : Counts) (cells : List (CellState D)) (at : ℕ) (kinds : List MsgKind) (top : ℕ) : Type 0 where
  pub before : List Record
  pub item : Record
  pub list_is : seen_by (slice_get cells at) ≡ before ++ item ∷ []
  pub cell : CellState D
  pub cell_is : slice_get cells at ≡ Some cell
  pub node_is : item.node ≡ cell.node
  pub lawful : IsLawful config (newest_first before) (entry_of item)
  pub kinds_are : kinds ≡ map kind_of (messages_in before)
  pub top_is : top ≡ top_of_messages (messages (newest_first before))

-- the cell at this place holds all nodes, and its list is the one that the holder had
pub record HasTakenOver {D : Type 0} (wire : WireState PaxosRules) (old new : List (CellState D)) (holder at : ℕ) : Type 0 where
  pub held : AreHeld wire wire.rules.config new at
  pub list_is : records held.lead.pass ≡ seen_by (slice_get old holder)
  pub same : AreSameBut old new
