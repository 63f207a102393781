use Rattle.std.proofs.Common.{max, get_or, slice_get, slice_set, ap, ◌∙◌, arith, Vec, Global}
use Rattle.std.proofs.lemmas.Option.{slice_get-get_or}
use Rattle.std.specs.Option.{option_map}
use Rattle.gp_msg.specs.declared.message.MsgKind.{MsgKind}
use Rattle.gp_msg.specs.Reads.{kind_of}
use Rattle.gp_wire.specs.Known.{records}
use Rattle.gp_msg.specs.Records.{messages_in}
use Rattle.gp_stage.proofs.Places.{set_length}
use Rattle.gp_stage.proofs.Founding.{up_still}
use Rattle.gp_stage.proofs.Learning.{look_own, look_holds, held_looked, same_looked, list_looked, top_looked, kinds_none, kinds_some, sent_none, sent_some}
use Rattle.gp_stage.proofs.playing.keep_up.Goals as goal
use Rattle.gp_stage.proofs.playing.keep_up.Goals.{in-Some, in_default}

pub kind_of-requires-clause-own : goal.kind_of-requires-clause-own
kind_of-requires-clause-own g c = let r = c.requires in let xs = c.args.cells.now in let i = c.index-cells-at.result in
    look_own c.args.wire.now xs c.args.at r.held (get_or xs c.args.at i) (slice_get-get_or xs c.args.at i r.here)

pub kind_of-requires-clause-holds : goal.kind_of-requires-clause-holds
kind_of-requires-clause-holds g c = let r = c.requires in let xs = c.args.cells.now in let i = c.index-cells-at.result in
    look_holds c.args.wire.now xs c.args.at r.held (get_or xs c.args.at i) (slice_get-get_or xs c.args.at i r.here)

pub returns-clause-held : goal.returns-clause-held
returns-clause-held g c = let r = c.requires in let xs = c.args.cells.now in let i = c.index-cells-at.result in
    held_looked c.args.wire.now xs c.args.at r.held (get_or xs c.args.at i) (slice_get-get_or xs c.args.at i r.here) c.kind_of.new.self c.kind_of.ensures.rest c.kind_of.ensures.turn

pub returns-clause-same : goal.returns-clause-same
returns-clause-same g c = let r = c.requires in let xs = c.args.cells.now in let i = c.index-cells-at.result in
    same_looked c.args.wire.now xs c.args.at r.held (get_or xs c.args.at i) (slice_get-get_or xs c.args.at i r.here) c.kind_of.new.self c.kind_of.ensures.rest c.kind_of.ensures.turn

pub returns-clause-list : goal.returns-clause-list
returns-clause-list g c = let r = c.requires in let xs = c.args.cells.now in let i = c.index-cells-at.result in
    list_looked c.args.wire.now xs c.args.at r.held (get_or xs c.args.at i) (slice_get-get_or xs c.args.at i r.here) c.kind_of.new.self c.kind_of.ensures.rest c.kind_of.ensures.turn

pub returns-clause-kinds : goal.returns-clause-kinds
returns-clause-kinds g c = let r = c.requires in let xs = c.args.cells.now in let i = c.index-cells-at.result in
    let answer = c.kind_of.ensures.answer ∙ ap (λ n. option_map kind_of (slice_get (messages_in (records c.kind_of.new.self.pass)) n)) (c.len.ensures ∙ c.args.kinds.now.ok.0) in
    elim c.match-kind_of.branch [
      | in-Some w ↦ ap (λ (v : Vec MsgKind Global). v.items) w.kinds-is ∙ w.push_reserved.ensures.items ∙ kinds_some c.args.wire.now xs c.args.at r.held (get_or xs c.args.at i) (slice_get-get_or xs c.args.at i r.here) c.kind_of.new.self c.kind_of.ensures.rest c.kind_of.ensures.turn
          c.args.kinds.now.items c.args.sent_top r.knew c.kind_of.result answer w.in-Some.kind w.in-Some.is
      | in_default w ↦ ap (λ (v : Vec MsgKind Global). v.items) w.kinds-is ∙ kinds_none c.args.wire.now xs c.args.at r.held (get_or xs c.args.at i) (slice_get-get_or xs c.args.at i r.here) c.kind_of.new.self c.kind_of.ensures.rest c.kind_of.ensures.turn
          c.args.kinds.now.items c.args.sent_top r.knew c.kind_of.result answer w.in_default.is
    ]

pub returns-clause-sent : goal.returns-clause-sent
returns-clause-sent g c = let r = c.requires in let xs = c.args.cells.now in let i = c.index-cells-at.result in
    let answer = c.kind_of.ensures.answer ∙ ap (λ n. option_map kind_of (slice_get (messages_in (records c.kind_of.new.self.pass)) n)) (c.len.ensures ∙ c.args.kinds.now.ok.0) in
    elim c.match-kind_of.branch [
      | in-Some w ↦ let y = c.kind_of.new.self in let z = get_or (slice_set xs c.args.at y) c.args.at w.index-cells-at-in-Some.result in
          let z_is = slice_get-get_or (slice_set xs c.args.at y) c.args.at w.index-cells-at-in-Some.result (let l = set_length xs c.args.at y in let h = r.here in omega (arith, l, h)) in
          let up = up_still xs (slice_set xs c.args.at y) (same_looked c.args.wire.now xs c.args.at r.held (get_or xs c.args.at i) (slice_get-get_or xs c.args.at i r.here) c.kind_of.new.self c.kind_of.ensures.rest c.kind_of.ensures.turn) r.up c.args.at z z_is in
          w.sent-is ∙ w.max-sent.ensures ∙ ap (λ t. max c.args.sent_top t) (w.top_of_cell.ensures.top up) ∙ sent_some c.args.wire.now xs c.args.at r.held (get_or xs c.args.at i) (slice_get-get_or xs c.args.at i r.here) c.kind_of.new.self c.kind_of.ensures.rest c.kind_of.ensures.turn
          c.args.kinds.now.items c.args.sent_top r.knew c.kind_of.result answer w.in-Some.kind w.in-Some.is z z_is w.top_of_cell.ensures.core
      | in_default w ↦ w.sent-is ∙ sent_none c.args.wire.now xs c.args.at r.held (get_or xs c.args.at i) (slice_get-get_or xs c.args.at i r.here) c.kind_of.new.self c.kind_of.ensures.rest c.kind_of.ensures.turn
          c.args.kinds.now.items c.args.sent_top r.knew c.kind_of.result answer w.in_default.is
    ]

pub returns-clause-top : goal.returns-clause-top
returns-clause-top g c = let r = c.requires in let xs = c.args.cells.now in let i = c.index-cells-at.result in
    top_looked c.args.wire.now xs c.args.at r.held (get_or xs c.args.at i) (slice_get-get_or xs c.args.at i r.here) c.kind_of.new.self c.kind_of.ensures.rest c.kind_of.ensures.turn
    c.match-kind_of.sent c.top_of_cells.result c.max.result (returns-clause-sent g c)
    (c.top_of_cells.ensures.top (up_still xs _ (same_looked c.args.wire.now xs c.args.at r.held (get_or xs c.args.at i) (slice_get-get_or xs c.args.at i r.here) c.kind_of.new.self c.kind_of.ensures.rest c.kind_of.ensures.turn) r.up)) c.top_of_cells.ensures.cores c.max.ensures

pub bounds-cells-at : goal.bounds-cells-at
bounds-cells-at g c = c.requires.here

pub push_reserved-requires : goal.push_reserved-requires
push_reserved-requires g c = c.requires.room

pub bounds-cells-at-in-Some : goal.bounds-cells-at-in-Some
bounds-cells-at-in-Some g c = let long = set_length c.args.cells.now c.args.at c.kind_of.new.self in let here = c.requires.here in omega (arith, long, here)
