use Rattle.std.proofs.Common.{◌+◌, [], ◌∷◌, ◌++◌, length, map, refl, sym, subst, ap, ◌∙◌, arith, append_assoc, length-append}
use Rattle.std.specs.List.{AllZip}
use Rattle.std.proofs.lemmas.Slice.Zip.{AllZip-long, all_zipped_more}
use Rattle.gp_shelf.specs.Lists.{disk_in}
use Rattle.gp_shelf.specs.Making.{IsMade, StaysFirst, ComesBack}
use Rattle.std.proofs.lemmas.List.{append-nil}
use Rattle.gp_shelf.proofs.Segments.{no_more}
use Rattle.gp_shelf.proofs.Zips.{unmade}
use Rattle.gp_shelf.proofs.making.make.Goals as goal

pub make_first-requires-clause-room : goal.make_first-requires-clause-room
make_first-requires-clause-room g c =
    let k = c.loop.invariant in
    omega (
      arith,
      c.loop.logs.ok.0,
      c.args.disks.now.ok.0,
      AllZip-long (IsMade g.D.Disk.content g.D.Disk.image g.D.Disk.faults c.args.limit) k.0 c.loop.logs.items k.2,
      k.3,
      k.5,
    )

pub unmake-requires : goal.unmake-requires
unmake-requires g c =
    let k = c.loop.invariant in
    let s : StaysFirst g.D.Disk.faults c.loop.disks.items c.make_first.new.disks.items c.in-Err.why = c.in-Err.ensures.back in
    omega (
      arith,
      c.make_first.new.disks.ok,
      c.args.disks.now.ok,
      AllZip-long (IsMade g.D.Disk.content g.D.Disk.image g.D.Disk.faults c.args.limit) k.0 c.loop.logs.items k.2,
      ap length c.in-Err.ensures.unchanged,
      c.make_first.ensures.capacity,
      k.4,
      ap length k.1,
      length-append k.0 c.loop.disks.items,
      ap length s.before,
      ap length s.after,
    )

pub returns-in-Err-clause-back : goal.returns-in-Err-clause-back
returns-in-Err-clause-back g c =
    let k = c.loop.invariant in
    let logs = c.make_first.new.logs.items in
    let same = c.in-Err.ensures.unchanged in
    subst (λ xs. ComesBack g.D.Disk.faults xs c.unmake.new.disks.items c.in-Err.why) (sym k.1)
    (subst (λ ys. ComesBack g.D.Disk.faults (k.0 ++ c.loop.disks.items) ys c.in-Err.why) (sym (c.unmake.ensures.disks ∙ ap (λ l. map disk_in l ++ c.make_first.new.disks.items) same))
    (unmade g.D.Disk.faults g.D.Disk.content g.D.Disk.image c.args.limit k.0 c.loop.disks.items c.make_first.new.disks.items c.loop.logs.items c.in-Err.why k.2 c.in-Err.ensures.back))

pub loop-preserved : goal.loop-preserved
loop-preserved g c =
    let k = c.loop.invariant in
    let m = c.in_default.ensures.made in (
      k.0 ++ m.disk ∷ [],
      k.1 ∙ ap (λ l. k.0 ++ l) m.taken ∙ sym (append_assoc k.0 (m.disk ∷ []) c.make_first.new.disks.items),
      subst (AllZip (IsMade g.D.Disk.content g.D.Disk.image g.D.Disk.faults c.args.limit) (k.0 ++ m.disk ∷ [])) (sym m.added)
          (all_zipped_more (IsMade g.D.Disk.content g.D.Disk.image g.D.Disk.faults c.args.limit) k.0 c.loop.logs.items m.disk m.log k.2 m.made),
      length-append k.0 (m.disk ∷ []) ∙ ap (λ n. n + 1) k.3,
      c.make_first.ensures.capacity ∙ k.4,
      omega (arith, c.make_first.ensures.logs_capacity, k.5),
    )

pub loop-init : goal.loop-init
loop-init g c = ([], refl, subst (AllZip (IsMade g.D.Disk.content g.D.Disk.image g.D.Disk.faults c.args.limit) []) (sym c.requires.room.0) tt, refl, refl, c.requires.room.1)

pub make_first-requires-clause-some : goal.make_first-requires-clause-some
make_first-requires-clause-some g c =
    let k = c.loop.invariant in
    omega (arith, c.loop-test.true, c.len-end.ensures, c.args.disks.now.ok.0, k.3, ap length k.1, length-append k.0 c.loop.disks.items)

pub returns-in-Err-clause-capacity : goal.returns-in-Err-clause-capacity
returns-in-Err-clause-capacity g c = c.unmake.ensures.capacity ∙ c.make_first.ensures.capacity ∙ c.loop.invariant.4

pub returns-clause-made : goal.returns-clause-made
returns-clause-made g c =
    let k = c.loop.invariant in
    let none = no_more c.loop.disks.items (omega (arith, c.loop-test.false, c.len-end.ensures, c.args.disks.now.ok.0, k.3, ap length k.1, length-append k.0 c.loop.disks.items)) in
    subst (λ xs. AllZip (IsMade g.D.Disk.content g.D.Disk.image g.D.Disk.faults c.args.limit) xs c.loop.logs.items) (sym (k.1 ∙ ap (λ l. k.0 ++ l) none ∙ append-nil k.0)) k.2

pub returns-clause-none_left : goal.returns-clause-none_left
returns-clause-none_left g c =
    let k = c.loop.invariant in
    let none = no_more c.loop.disks.items (omega (arith, c.loop-test.false, c.len-end.ensures, c.args.disks.now.ok.0, k.3, ap length k.1, length-append k.0 c.loop.disks.items)) in
    none

pub returns-clause-capacity : goal.returns-clause-capacity
returns-clause-capacity g c = c.loop.invariant.4
