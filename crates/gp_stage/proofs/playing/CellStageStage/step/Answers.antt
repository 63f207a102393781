use Rattle.std.proofs.Common.{◌≡◌, ◌+◌, true, ◌∷◌, ◌++◌, length, drop, slice_get, take, refl, sym, ap, ◌∙◌, subst, inl, arith, Err}
use Rattle.gp_run.specs.Legal.{fits}
use Rattle.gp_msg.specs.Nodes.{node_of}
use Rattle.gp_run.specs.Runs.{newest_first, entry_after}
use Rattle.gp_work.specs.Moves.{event_of}
use Rattle.gp_work.specs.declared.faults.StepFault.TheVariants.{NoMemory}
use Rattle.gp_driver.specs.Stages.{AllBut, Anyone, FailsByNode}
use Rattle.gp_stage.specs.Held.{HeldCells, HasCell, AreUp, capped, disk_faults, whole_list}
use Rattle.gp_stage.specs.Kept.{IsKept}
use Rattle.gp_stage.specs.Played.{CanPlay, KnewBefore, stage_fault}
use Rattle.gp_stage.proofs.Places.{within}
use Rattle.gp_stage.proofs.Performing.{has_cell, can_play}
use Rattle.gp_stage.proofs.Steps.{ask_held, ask_here, ask_up, ask_knew, told_kept, told_up, told_later, told_entry, told_nodes, told_count, fault_kept, fault_list, fault_nodes, fault_fails, fault_later, fault_cause, later_shown, cause_shown, later_than, steady_than, told_steady, told_counts, unfailed}
use Rattle.gp_stage.proofs.Nodes.{nodes_kept, nodes_shown, nodes_than, fails_kept, fails_shown, fails_than}
use Rattle.gp_stage.proofs.Faulting.{counted}
use Rattle.gp_stage.proofs.playing.CellStageStage.step.Goals as goal
use Rattle.gp_stage.proofs.playing.CellStageStage.step.Goals.{in-Full, in_default-fault}

pub returns-then-is_err-clause-nodes : goal.returns-then-is_err-clause-nodes
returns-then-is_err-clause-nodes g c = nodes_kept g.D.Disk.faults (AllBut (node_of c.args.event)) c.args.self.now _ c.self.view_is

pub returns-then-is_err-clause-idle : goal.returns-then-is_err-clause-idle
returns-then-is_err-clause-idle g c = nodes_kept g.D.Disk.faults Anyone c.args.self.now _ c.self.view_is

pub returns-then-is_err-clause-failed : goal.returns-then-is_err-clause-failed
returns-then-is_err-clause-failed g c = fails_kept g.D.Disk.faults c.args.self.now _ c.self.view_is

pub returns-then-is_err-clause-cause : goal.returns-then-is_err-clause-cause
returns-then-is_err-clause-cause g c = ap (λ (h : HeldCells g.row.D.Denot). capped (disk_faults g.D.Disk.faults h.cells + h.fulls)) c.self.view_is

pub unreachable-requires : goal.unreachable-requires
unreachable-requires g c = let i = c.self.inside in
    c.in_default.ensures.none (subst (λ l. HasCell c.move_of-node.result.0 l) (sym c.deref.ensures.value) (subst (λ n. HasCell n i.cells.items) (sym c.move_of-node.ensures.node)
    (has_cell i.wire i.config i.cells.items i.holder c.self.invariant.held c.args.event (subst (λ (h : HeldCells g.row.D.Denot). fits h.config (newest_first (whole_list h)) c.args.event ≡ true) (sym c.self.view_is) c.requires.fits))))

pub play_at-stepped-requires-clause-here : goal.play_at-stepped-requires-clause-here
play_at-stepped-requires-clause-here g c = let f = c.in-Some.ensures.found in
    let l = within c.deref.result.now c.in-Some.at f.0 f.1 in let a = ap length c.deref.ensures.value in let b = ap length c.deref_mut.ensures.value in omega (arith, l, a, b)

pub play_at-stepped-requires-clause-can : goal.play_at-stepped-requires-clause-can
play_at-stepped-requires-clause-can g c = let i = c.self.inside in let f = c.in-Some.ensures.found in let m = c.move_of-node.ensures in
    subst (λ l. CanPlay i.wire.rules.config l i.holder c.in-Some.at c.move_of-node.result.1) (sym c.deref_mut.ensures.value)
    (can_play i.wire i.config i.cells.items i.holder c.self.invariant.held c.args.event
    (subst (λ (h : HeldCells g.row.D.Denot). fits h.config (newest_first (whole_list h)) c.args.event ≡ true) (sym c.self.view_is) c.requires.fits)
    c.move_of-node.result.0 c.move_of-node.result.1 m.event m.node c.in-Some.at f.0 (ap (λ l. slice_get l c.in-Some.at) (sym c.deref.ensures.value) ∙ f.1) f.2
    (subst (λ (h : HeldCells g.row.D.Denot). AreUp h.cells) (sym c.self.view_is) c.requires.ready))

pub keep_up-sent-requires-clause-held : goal.keep_up-sent-requires-clause-held
keep_up-sent-requires-clause-held g c = let i = c.self.inside in
    ask_held g.D.Disk.faults i.wire i.config i.cells.items c.deref_mut.result.now c.play_at-stepped.new.cells c.deref_mut.ensures.value i.cells.len i.cells.ok.0 i.holder c.in-Some.at c.move_of-node.result.1
    c.in-Ok.messages c.in-Ok.ensures _ c.deref_mut-in-Ok.result.now c.deref_mut-in-Ok.ensures.value

pub keep_up-sent-requires-clause-here : goal.keep_up-sent-requires-clause-here
keep_up-sent-requires-clause-here g c = let i = c.self.inside in
    ask_here g.D.Disk.faults i.wire i.config i.cells.items c.deref_mut.result.now c.play_at-stepped.new.cells c.deref_mut.ensures.value i.cells.len i.cells.ok.0 i.holder c.in-Some.at c.move_of-node.result.1
    c.in-Ok.messages c.in-Ok.ensures _ c.deref_mut-in-Ok.result.now c.deref_mut-in-Ok.ensures.value

pub keep_up-sent-requires-clause-up : goal.keep_up-sent-requires-clause-up
keep_up-sent-requires-clause-up g c = let i = c.self.inside in
    ask_up g.D.Disk.faults i.wire i.config i.cells.items c.deref_mut.result.now c.play_at-stepped.new.cells c.deref_mut.ensures.value i.cells.len i.cells.ok.0 i.holder c.in-Some.at c.move_of-node.result.1
    c.in-Ok.messages c.in-Ok.ensures _ c.deref_mut-in-Ok.result.now c.deref_mut-in-Ok.ensures.value (subst (λ (h : HeldCells g.row.D.Denot). AreUp h.cells) (sym c.self.view_is) c.requires.ready)

pub keep_up-sent-requires-clause-room : goal.keep_up-sent-requires-clause-room
keep_up-sent-requires-clause-room g c = let room = unfailed c.reserve.result c.is_err.result c.is_err.ensures.value c.if-is_err.false c.reserve.ensures.ok in omega (arith, room)

pub keep_up-sent-requires-clause-knew : goal.keep_up-sent-requires-clause-knew
keep_up-sent-requires-clause-knew g c = let i = c.self.inside in
    subst (λ ks. KnewBefore i.wire.rules.config c.deref_mut-in-Ok.result.now c.in-Some.at ks i.sent_top) (sym c.reserve.ensures.items)
    (ask_knew g.D.Disk.faults i.wire i.config i.cells.items c.deref_mut.result.now c.play_at-stepped.new.cells c.deref_mut.ensures.value i.cells.len i.cells.ok.0 i.holder c.in-Some.at c.move_of-node.result.1
    c.in-Ok.messages c.in-Ok.ensures _ c.deref_mut-in-Ok.result.now c.deref_mut-in-Ok.ensures.value i.kinds.items i.sent_top i.top c.self.invariant)

pub invariant_of-self-in-Ok : goal.invariant_of-self-in-Ok
invariant_of-self-in-Ok g c = let i = c.self.inside in let k = c.keep_up-sent.ensures in
    told_kept g.D.Disk.faults i.wire i.config i.cells.items c.deref_mut.result.now c.play_at-stepped.new.cells c.deref_mut.ensures.value i.cells.len i.cells.ok.0 i.holder c.in-Some.at c.move_of-node.result.1
    c.in-Ok.messages c.in-Ok.ensures _ c.deref_mut-in-Ok.result.now c.deref_mut-in-Ok.ensures.value c.keep_up-sent.new.cells k.same _
    c.keep_up-sent.new.kinds.items c.keep_up-sent.result.0 c.keep_up-sent.result.1 c.self.invariant.held.config_is k.held k.kinds k.sent k.top

pub invariant_of-self-in-Full : goal.invariant_of-self-in-Full
invariant_of-self-in-Full g c = let i = c.self.inside in
    subst (λ ks. IsKept i.wire i.config (take i.cells.len (c.play_at-stepped.new.cells ++ drop (length c.play_at-stepped.new.cells) i.cells.items)) c.in-Some.at ks i.sent_top i.top) (sym c.reserve.ensures.items)
    (fault_kept g.D.Disk.faults i.wire i.config i.cells.items c.deref_mut.result.now c.play_at-stepped.new.cells c.deref_mut.ensures.value i.cells.len i.cells.ok.0 i.holder c.in-Some.at c.move_of-node.result.1
    c.in-Err.fault c.in-Err.ensures _ i.kinds.items i.sent_top i.top c.self.invariant)

pub invariant_of-self-in-Err : goal.invariant_of-self-in-Err
invariant_of-self-in-Err g c = let i = c.self.inside in
    subst (λ ks. IsKept i.wire i.config (take i.cells.len (c.play_at-stepped.new.cells ++ drop (length c.play_at-stepped.new.cells) i.cells.items)) c.in-Some.at ks i.sent_top i.top) (sym c.reserve.ensures.items)
    (fault_kept g.D.Disk.faults i.wire i.config i.cells.items c.deref_mut.result.now c.play_at-stepped.new.cells c.deref_mut.ensures.value i.cells.len i.cells.ok.0 i.holder c.in-Some.at c.move_of-node.result.1
    c.in-Err.fault c.in-Err.ensures _ i.kinds.items i.sent_top i.top c.self.invariant)

pub returns-in-Ok-clause-entry : goal.returns-in-Ok-clause-entry
returns-in-Ok-clause-entry g c = let i = c.self.inside in let k = c.keep_up-sent.ensures in let f = c.in-Some.ensures.found in let m = c.move_of-node.ensures in
    told_entry g.D.Disk.faults i.wire i.config i.cells.items c.deref_mut.result.now c.play_at-stepped.new.cells c.deref_mut.ensures.value i.cells.len i.cells.ok.0 i.holder c.in-Some.at c.move_of-node.result.1
    c.in-Ok.messages c.in-Ok.ensures _ c.deref_mut-in-Ok.result.now c.deref_mut-in-Ok.ensures.value c.keep_up-sent.new.cells k.same _ k.list
    c.args.event f.0 (ap (λ l. slice_get l c.in-Some.at) (sym c.deref.ensures.value) ∙ f.1) (ap (λ n. event_of n c.move_of-node.result.1) f.2 ∙ m.event) c.self.invariant.held.config_is
    ∙ ap (λ (h : HeldCells g.row.D.Denot). entry_after h.config (newest_first (whole_list h)) c.args.event ∷ newest_first (whole_list h)) c.self.view_is

pub returns-in-Ok-clause-count : goal.returns-in-Ok-clause-count
returns-in-Ok-clause-count g c = let i = c.self.inside in let k = c.keep_up-sent.ensures in
    told_count g.D.Disk.faults i.wire i.config i.cells.items c.deref_mut.result.now c.play_at-stepped.new.cells c.deref_mut.ensures.value i.cells.len i.cells.ok.0 i.holder c.in-Some.at c.move_of-node.result.1
    c.in-Ok.messages c.in-Ok.ensures _ c.deref_mut-in-Ok.result.now c.deref_mut-in-Ok.ensures.value c.keep_up-sent.new.cells k.same _ k.list

pub returns-in-Ok-clause-ready : goal.returns-in-Ok-clause-ready
returns-in-Ok-clause-ready g c = let i = c.self.inside in let k = c.keep_up-sent.ensures in
    told_up g.D.Disk.faults i.wire i.config i.cells.items c.deref_mut.result.now c.play_at-stepped.new.cells c.deref_mut.ensures.value i.cells.len i.cells.ok.0 i.holder c.in-Some.at c.move_of-node.result.1
    c.in-Ok.messages c.in-Ok.ensures _ c.deref_mut-in-Ok.result.now c.deref_mut-in-Ok.ensures.value c.keep_up-sent.new.cells k.same _
    (subst (λ (h : HeldCells g.row.D.Denot). AreUp h.cells) (sym c.self.view_is) c.requires.ready)

pub returns-in-Ok-clause-later : goal.returns-in-Ok-clause-later
returns-in-Ok-clause-later g c = let i = c.self.inside in let k = c.keep_up-sent.ensures in
    later_than g.D.Disk.faults c.args.self.now _ c.self.view_is _
    (told_later g.D.Disk.faults i.wire i.config i.cells.items c.deref_mut.result.now c.play_at-stepped.new.cells c.deref_mut.ensures.value i.cells.len i.cells.ok.0 i.holder c.in-Some.at c.move_of-node.result.1
    c.in-Ok.messages c.in-Ok.ensures _ c.deref_mut-in-Ok.result.now c.deref_mut-in-Ok.ensures.value c.keep_up-sent.new.cells k.same _ i.fulls)

pub returns-in-Ok-clause-steady : goal.returns-in-Ok-clause-steady
returns-in-Ok-clause-steady g c = let i = c.self.inside in let k = c.keep_up-sent.ensures in
    steady_than g.D.Disk.faults c.args.self.now _ c.self.view_is _
    (told_steady g.D.Disk.faults i.wire i.config i.cells.items c.deref_mut.result.now c.play_at-stepped.new.cells c.deref_mut.ensures.value i.cells.len i.cells.ok.0 i.holder c.in-Some.at c.move_of-node.result.1
    c.in-Ok.messages c.in-Ok.ensures _ c.deref_mut-in-Ok.result.now c.deref_mut-in-Ok.ensures.value c.keep_up-sent.new.cells k.same _ i.fulls)

pub returns-in-Ok-clause-failed : goal.returns-in-Ok-clause-failed
returns-in-Ok-clause-failed g c = let i = c.self.inside in let k = c.keep_up-sent.ensures in
    fails_than g.D.Disk.faults c.args.self.now _ c.self.view_is _ _
    (told_counts g.D.Disk.faults i.wire i.config i.cells.items c.deref_mut.result.now c.play_at-stepped.new.cells c.deref_mut.ensures.value i.cells.len i.cells.ok.0 i.holder c.in-Some.at c.move_of-node.result.1
    c.in-Ok.messages c.in-Ok.ensures _ c.deref_mut-in-Ok.result.now c.deref_mut-in-Ok.ensures.value c.keep_up-sent.new.cells k.same _ _ _)

pub returns-in-Ok-clause-nodes : goal.returns-in-Ok-clause-nodes
returns-in-Ok-clause-nodes g c = let i = c.self.inside in let k = c.keep_up-sent.ensures in let f = c.in-Some.ensures.found in let m = c.move_of-node.ensures in
    nodes_than g.D.Disk.faults (AllBut (node_of c.args.event)) c.args.self.now _ c.self.view_is _
    (told_nodes g.D.Disk.faults i.wire i.config i.cells.items c.deref_mut.result.now c.play_at-stepped.new.cells c.deref_mut.ensures.value i.cells.len i.cells.ok.0 i.holder c.in-Some.at c.move_of-node.result.1
    c.in-Ok.messages c.in-Ok.ensures _ c.deref_mut-in-Ok.result.now c.deref_mut-in-Ok.ensures.value c.keep_up-sent.new.cells k.same _ k.list
    f.0 (ap (λ l. slice_get l c.in-Some.at) (sym c.deref.ensures.value) ∙ f.1) (node_of c.args.event) (f.2 ∙ m.node))

pub returns-after-fault-clause-unchanged : goal.returns-after-fault-clause-unchanged
returns-after-fault-clause-unchanged g c = let i = c.self.inside in
    let still = ap newest_first (fault_list g.D.Disk.faults i.wire i.config i.cells.items c.deref_mut.result.now c.play_at-stepped.new.cells c.deref_mut.ensures.value i.cells.len i.cells.ok.0 i.holder c.in-Some.at c.move_of-node.result.1
    c.in-Err.fault c.in-Err.ensures (drop (length c.play_at-stepped.new.cells) i.cells.items)) ∙ ap (λ (h : HeldCells g.row.D.Denot). newest_first (whole_list h)) c.self.view_is in
    elim c.match-fault.branch [
      | in-Full w ↦ ap (λ (h : HeldCells g.row.D.Denot). newest_first (whole_list h)) w.self-is ∙ still
      | in_default-fault w ↦ ap (λ (h : HeldCells g.row.D.Denot). newest_first (whole_list h)) w.self-is ∙ still
    ]

pub returns-after-fault-clause-config : goal.returns-after-fault-clause-config
returns-after-fault-clause-config g c = elim c.match-fault.branch [
  | in-Full w ↦ ap (λ (h : HeldCells g.row.D.Denot). h.config) w.self-is ∙ ap (λ (h : HeldCells g.row.D.Denot). h.config) c.self.view_is
  | in_default-fault w ↦ ap (λ (h : HeldCells g.row.D.Denot). h.config) w.self-is ∙ ap (λ (h : HeldCells g.row.D.Denot). h.config) c.self.view_is
]

pub returns-after-fault-clause-later : goal.returns-after-fault-clause-later
returns-after-fault-clause-later g c = let i = c.self.inside in
    let later = fault_later g.D.Disk.faults i.wire i.config i.cells.items c.deref_mut.result.now c.play_at-stepped.new.cells c.deref_mut.ensures.value i.cells.len i.cells.ok.0 i.holder c.in-Some.at c.move_of-node.result.1
    c.in-Err.fault c.in-Err.ensures (drop (length c.play_at-stepped.new.cells) i.cells.items) in
    elim c.match-fault.branch [
      | in-Full w ↦ later_shown g.D.Disk.faults c.args.self.now c.match-fault.self _ _ c.self.view_is w.self-is
          (later i.fulls w.saturating_add-self-inside.result (counted i.fulls w.saturating_add-self-inside.result w.saturating_add-self-inside.ensures))
      | in_default-fault w ↦ later_shown g.D.Disk.faults c.args.self.now c.match-fault.self _ _ c.self.view_is w.self-is (later i.fulls i.fulls (inl (omega arith)))
    ]

pub returns-after-fault-clause-nodes : goal.returns-after-fault-clause-nodes
returns-after-fault-clause-nodes g c = let i = c.self.inside in
    let nodes = fault_nodes g.D.Disk.faults i.wire i.config i.cells.items c.deref_mut.result.now c.play_at-stepped.new.cells c.deref_mut.ensures.value i.cells.len i.cells.ok.0 i.holder c.in-Some.at c.move_of-node.result.1
    c.in-Err.fault c.in-Err.ensures (drop (length c.play_at-stepped.new.cells) i.cells.items) (AllBut (node_of c.args.event)) in
    elim c.match-fault.branch [
      | in-Full w ↦ nodes_shown g.D.Disk.faults (AllBut (node_of c.args.event)) c.args.self.now c.match-fault.self _ _ c.self.view_is w.self-is nodes
      | in_default-fault w ↦ nodes_shown g.D.Disk.faults (AllBut (node_of c.args.event)) c.args.self.now c.match-fault.self _ _ c.self.view_is w.self-is nodes
    ]

pub returns-after-fault-clause-idle : goal.returns-after-fault-clause-idle
returns-after-fault-clause-idle g c = let i = c.self.inside in
    let nodes = fault_nodes g.D.Disk.faults i.wire i.config i.cells.items c.deref_mut.result.now c.play_at-stepped.new.cells c.deref_mut.ensures.value i.cells.len i.cells.ok.0 i.holder c.in-Some.at c.move_of-node.result.1
    c.in-Err.fault c.in-Err.ensures (drop (length c.play_at-stepped.new.cells) i.cells.items) Anyone in
    elim c.match-fault.branch [
      | in-Full w ↦ nodes_shown g.D.Disk.faults Anyone c.args.self.now c.match-fault.self _ _ c.self.view_is w.self-is nodes
      | in_default-fault w ↦ nodes_shown g.D.Disk.faults Anyone c.args.self.now c.match-fault.self _ _ c.self.view_is w.self-is nodes
    ]

pub returns-after-fault-clause-cause : goal.returns-after-fault-clause-cause
returns-after-fault-clause-cause g c = let i = c.self.inside in let f = c.in-Some.ensures.found in let m = c.move_of-node.ensures in
    let cause = fault_cause g.D.Disk.faults i.wire i.config i.cells.items c.deref_mut.result.now c.play_at-stepped.new.cells c.deref_mut.ensures.value i.cells.len i.cells.ok.0 i.holder c.in-Some.at c.move_of-node.result.1
    c.in-Err.fault c.in-Err.ensures (drop (length c.play_at-stepped.new.cells) i.cells.items) in
    let x_is = ap (λ l. slice_get l c.in-Some.at) (sym c.deref.ensures.value) ∙ f.1 in let event_is = ap (λ n. event_of n c.move_of-node.result.1) f.2 ∙ m.event in
    elim c.match-fault.branch [
      | in-Full w ↦ let more = w.saturating_add-self-inside.result in let up = w.saturating_add-self-inside.ensures in
          cause_shown g.D.Disk.faults c.args.self.now c.match-fault.self _ _ c.self.view_is w.self-is c.args.event c.in-Err.fault c.fault_of.result c.fault_of.ensures
          (cause i.wire.id i.wire.nodes i.fulls more c.args.event f.0 x_is event_is (counted i.fulls more up) (λ (e : c.in-Err.fault ≡ NoMemory). cc (w.in-Full.is)) (λ size need is. up))
      | in_default-fault w ↦
          cause_shown g.D.Disk.faults c.args.self.now c.match-fault.self _ _ c.self.view_is w.self-is c.args.event c.in-Err.fault c.fault_of.result c.fault_of.ensures
          (cause i.wire.id i.wire.nodes i.fulls i.fulls c.args.event f.0 x_is event_is (inl (omega arith)) (λ e. refl) (λ size need is. absurd (w.in_default-fault.not-Full size need is)))
    ]

pub returns-after-fault-clause-failed : goal.returns-after-fault-clause-failed
returns-after-fault-clause-failed g c = let i = c.self.inside in
    let fails = fault_fails g.D.Disk.faults i.wire i.config i.cells.items c.deref_mut.result.now c.play_at-stepped.new.cells c.deref_mut.ensures.value i.cells.len i.cells.ok.0 i.holder c.in-Some.at c.move_of-node.result.1
    c.in-Err.fault c.in-Err.ensures (drop (length c.play_at-stepped.new.cells) i.cells.items) in
    let same : Err c.fault_of.result ≡ Err (stage_fault c.in-Err.fault) = ap (λ f. Err f) c.fault_of.ensures in
    elim c.match-fault.branch [
      | in-Full w ↦ fails_shown g.D.Disk.faults Anyone c.args.self.now c.match-fault.self _ _ (Err c.fault_of.result) c.self.view_is w.self-is (subst (FailsByNode _ _) (sym same) fails)
      | in_default-fault w ↦ fails_shown g.D.Disk.faults Anyone c.args.self.now c.match-fault.self _ _ (Err c.fault_of.result) c.self.view_is w.self-is (subst (FailsByNode _ _) (sym same) fails)
    ]
