use Rattle.std.proofs.Common.{◌++◌, length, map, ap, ◌∙◌, arith, length-append}
use Rattle.std.proofs.lemmas.List.{append-nil, length-map}
use Rattle.gp_shelf.specs.Places.{logged}
use Rattle.gp_shelf.specs.Lists.{disk_in, shelved}
use Rattle.gp_shelf.specs.Shelves.{ShelfState}
use Rattle.gp_shelf.proofs.Segments.{length-shelved}
use Rattle.gp_shelf.proofs.shelf.give_back.Goals as goal

pub unmake-requires : goal.unmake-requires
unmake-requires g c =
    let w = c.shelf.invariant in let same = ap (λ (s : ShelfState g.row.D.Denot). logged s.config) c.shelf.view_is in
    record { room = omega (arith, c.requires.as_many, same, w.lent_room.1, ap length w.lent_room.0, c.shelf.inside.lent.ok.0) }

pub shelve-requires-clause-lent : goal.shelve-requires-clause-lent
shelve-requires-clause-lent g c =
    let w = c.shelf.invariant in let same = ap (λ (s : ShelfState g.row.D.Denot). logged s.config) c.shelf.view_is in
    let logs = c.args.logs.items in
    omega (arith, ap length c.unmake.ensures.disks, length-append (map disk_in logs) c.shelf.inside.lent.items, length-map logs disk_in, ap length w.lent_room.0, c.requires.as_many, same)

pub shelve-requires-clause-unlent : goal.shelve-requires-clause-unlent
shelve-requires-clause-unlent g c = c.shelf.invariant.twelve

pub shelve-requires-clause-room : goal.shelve-requires-clause-room
shelve-requires-clause-room g c = c.shelf.invariant.all_room

pub returns-clause-disks : goal.returns-clause-disks
returns-clause-disks g c =
    let w = c.shelf.invariant in let i = c.shelf.inside in let disks = map disk_in c.args.logs.items in
    c.shelve.ensures ∙ ap (shelved i.config i.unlent.items) (c.unmake.ensures.disks ∙ ap (λ l. disks ++ l) w.lent_room.0 ∙ append-nil disks)
    ∙ ap (λ (s : ShelfState g.row.D.Denot). shelved s.config s.unlent disks) c.shelf.view_is

pub returns-clause-twelve : goal.returns-clause-twelve
returns-clause-twelve g c =
    let w = c.shelf.invariant in let i = c.shelf.inside in let logs = c.args.logs.items in let same = ap (λ (s : ShelfState g.row.D.Denot). logged s.config) c.shelf.view_is in
    omega (
      arith,
      ap length c.shelve.ensures,
      length-shelved i.config i.unlent.items c.unmake.new.disks.items,
      ap length c.unmake.ensures.disks,
      length-append (map disk_in logs) i.lent.items,
      length-map logs disk_in,
      ap length w.lent_room.0,
      c.requires.as_many,
      same,
      w.twelve,
    )
