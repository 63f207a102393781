use Rattle.std.proofs.Common.{◌≡◌, ℕ, ◌≤◌, List, length, refl, sym, subst, ap, ◌∙◌, arith}
use Rattle.std.specs.List.{AllZip}
use Rattle.std.proofs.lemmas.Slice.Zip.{AllZip-long}
use Rattle.gp_round.specs.Counts.{Counts}
use Rattle.gp_shelf.specs.declared.making.LendFault.{LendFault}
use Rattle.gp_shelf.specs.Places.{logged}
use Rattle.gp_shelf.specs.Lists.{lent_of, unlent_of, shelved, KeepsOthers}
use Rattle.gp_shelf.specs.Making.{IsMade, ComesBack}
use Rattle.gp_shelf.proofs.Segments.{length-lent, length-unlent, others_stay, on_ok}
use Rattle.gp_shelf.proofs.Zips.{AllZip-same, fell_there}
use Rattle.gp_shelf.proofs.shelf.lend.Goals as goal

few_acceptors : (a b : ℕ) → a ≡ b → a ≤ 7 → b ≤ 7
few_acceptors a b e le = omega (arith, e, le)

few_coordinators : (a b : ℕ) → a ≡ b → a ≤ 5 → b ≤ 5
few_coordinators a b e le = omega (arith, e, le)

pub returns-then-is_err-clause-none_fell : goal.returns-then-is_err-clause-none_fell
returns-then-is_err-clause-none_fell g c = AllZip-same (λ was is. g.D.Disk.faults was ≤ g.D.Disk.faults is) (λ d. omega arith) c.args.disks.items

pub returns-then-is_err-clause-cause : goal.returns-then-is_err-clause-cause
returns-then-is_err-clause-cause g c = AllZip-same (λ was is. g.D.Disk.faults is ≡ g.D.Disk.faults was) (λ d. refl) c.args.disks.items

pub returns-in-Ok-clause-count : goal.returns-in-Ok-clause-count
returns-in-Ok-clause-count g c =
    AllZip-long (IsMade g.D.Disk.content g.D.Disk.image g.D.Disk.faults c.args.limit) c.divide.new.lent.items c.in-Ok.logs.items c.in-Ok.ensures.made
    ∙ ap length c.divide.ensures.lent
    ∙ length-lent c.args.config c.args.disks.items c.requires.twelve
    (few_acceptors _ _ c.acceptors.ensures.value c.acceptors.ensures.most)
    (few_coordinators _ _ c.coordinators.ensures.value c.coordinators.ensures.most)

pub shelve-disks-requires-clause-lent : goal.shelve-disks-requires-clause-lent
shelve-disks-requires-clause-lent g c =
    AllZip-long (λ was is. g.D.Disk.faults was ≤ g.D.Disk.faults is) c.divide.new.lent.items c.make.new.disks.items c.in-Err.ensures.back.0
    ∙ ap length c.divide.ensures.lent
    ∙ length-lent c.args.config c.args.disks.items c.requires.twelve
    (few_acceptors _ _ c.acceptors.ensures.value c.acceptors.ensures.most)
    (few_coordinators _ _ c.coordinators.ensures.value c.coordinators.ensures.most)

pub returns-in-Err-clause-others : goal.returns-in-Err-clause-others
returns-in-Err-clause-others g c =
    let a = few_acceptors _ _ c.acceptors.ensures.value c.acceptors.ensures.most in
    let b = few_coordinators _ _ c.coordinators.ensures.value c.coordinators.ensures.most in
    let many : length c.make.new.disks.items ≡ logged c.args.config =
    AllZip-long (λ was is. g.D.Disk.faults was ≤ g.D.Disk.faults is) c.divide.new.lent.items c.make.new.disks.items c.in-Err.ensures.back.0
    ∙ ap length c.divide.ensures.lent ∙ length-lent c.args.config c.args.disks.items c.requires.twelve a b in
    let placed = c.shelve-disks.ensures ∙ ap (λ unlent. shelved c.args.config unlent c.make.new.disks.items) c.divide.ensures.unlent in
    subst (KeepsOthers c.args.config c.args.disks.items) (sym placed) (others_stay c.args.config c.args.disks.items c.make.new.disks.items a b c.requires.twelve many)

-- what came of all disks, by what came of those of nodes
all_back : {D : Type 0} (faults : D → ℕ) (n : Counts) (disks lent unlent back all : List D) (why : LendFault) → n.acceptors ≤ 7 → n.coordinators ≤ 5 → length disks ≡ 12
    → lent ≡ lent_of n disks → unlent ≡ unlent_of n disks → all ≡ shelved n unlent back → ComesBack faults lent back why → ComesBack faults disks all why
all_back faults n disks lent unlent back all why a c twelve is_lent is_unlent is_all p =
    subst (λ xs. ComesBack faults disks xs why) (sym (is_all ∙ ap (λ k. shelved n k back) is_unlent))
    (fell_there faults n disks back why a c twelve (subst (λ xs. ComesBack faults xs back why) is_lent p))

pub returns-in-Err-clause-none_fell : goal.returns-in-Err-clause-none_fell
returns-in-Err-clause-none_fell g c =
    (all_back g.D.Disk.faults c.args.config c.args.disks.items c.divide.new.lent.items c.divide.new.unlent.items c.make.new.disks.items c.shelve-disks.result.items c.in-Err.why
    (few_acceptors _ _ c.acceptors.ensures.value c.acceptors.ensures.most)
    (few_coordinators _ _ c.coordinators.ensures.value c.coordinators.ensures.most)
    c.requires.twelve c.divide.ensures.lent c.divide.ensures.unlent c.shelve-disks.ensures c.in-Err.ensures.back).0

pub returns-in-Err-clause-cause : goal.returns-in-Err-clause-cause
returns-in-Err-clause-cause g c =
    (all_back g.D.Disk.faults c.args.config c.args.disks.items c.divide.new.lent.items c.divide.new.unlent.items c.make.new.disks.items c.shelve-disks.result.items c.in-Err.why
    (few_acceptors _ _ c.acceptors.ensures.value c.acceptors.ensures.most)
    (few_coordinators _ _ c.coordinators.ensures.value c.coordinators.ensures.most)
    c.requires.twelve c.divide.ensures.lent c.divide.ensures.unlent c.shelve-disks.ensures c.in-Err.ensures.back).1

pub divide-requires-clause-lent : goal.divide-requires-clause-lent
divide-requires-clause-lent g c =
    let room = on_ok _ c.reserve-else-is_err.result c.if-is_err-2.ensures.value c.reserve-else-is_err.ensures.ok in let a = c.acceptors.ensures.value in let b = c.coordinators.ensures.value in
    (c.reserve-else-is_err.ensures.items ∙ c.new-lent.ensures.items, omega (arith, room, a, b))

pub divide-requires-clause-unlent : goal.divide-requires-clause-unlent
divide-requires-clause-unlent g c =
    let room = on_ok _ c.reserve-else-is_err-2.result c.if-is_err-3.ensures.value c.reserve-else-is_err-2.ensures.ok in let a = c.acceptors.ensures.value in let b = c.coordinators.ensures.value in
    (c.reserve-else-is_err-2.ensures.items ∙ c.new-unlent.ensures.items, omega (arith, room, a, b))

pub make-requires-clause-room : goal.make-requires-clause-room
make-requires-clause-room g c =
    let room = on_ok _ c.reserve.result c.if-is_err.ensures.value c.reserve.ensures.ok in let a = c.acceptors.ensures.value in let b = c.coordinators.ensures.value in
    let lent = ap length c.divide.ensures.lent ∙ length-lent c.args.config c.args.disks.items c.requires.twelve (few_acceptors _ _ c.acceptors.ensures.value c.acceptors.ensures.most) (few_coordinators _ _ c.coordinators.ensures.value c.coordinators.ensures.most) in
    (c.reserve.ensures.items ∙ c.new-logs.ensures.items, omega (arith, room, a, b, lent))

pub shelve-disks-requires-clause-unlent : goal.shelve-disks-requires-clause-unlent
shelve-disks-requires-clause-unlent g c =
    let unlent = length-unlent c.args.config c.args.disks.items c.requires.twelve (few_acceptors _ _ c.acceptors.ensures.value c.acceptors.ensures.most) (few_coordinators _ _ c.coordinators.ensures.value c.coordinators.ensures.most) in
    omega (arith, ap length c.divide.ensures.unlent, unlent)

pub shelve-disks-requires-clause-room : goal.shelve-disks-requires-clause-room
shelve-disks-requires-clause-room g c = (c.divide.ensures.none_left, omega (arith, c.divide.ensures.capacity, c.args.disks.ok, c.requires.twelve))

pub returns-in-Ok-clause-logs : goal.returns-in-Ok-clause-logs
returns-in-Ok-clause-logs g c = subst (λ xs. AllZip (IsMade g.D.Disk.content g.D.Disk.image g.D.Disk.faults c.args.limit) xs c.in-Ok.logs.items) c.divide.ensures.lent c.in-Ok.ensures.made

pub returns-in-Ok-clause-unlent : goal.returns-in-Ok-clause-unlent
returns-in-Ok-clause-unlent g c = c.divide.ensures.unlent

pub returns-then-is_err-clause-others : goal.returns-then-is_err-clause-others
returns-then-is_err-clause-others g c i other = refl
