-- Which of several faults decides.
use Rattle.std.proofs.Common.{◌≡◌, ◌<◌, ◌≤◌, ℕ, zero, suc, Bool, true, false, cond, List, [], ◌∷◌, map, refl, sym, ap, ◌∙◌, subst, arith, Option, Some, None}
use Rattle.std.specs.Prelude.{slice_get, nat_lt}
use Rattle.std.specs.List.{All}
use Rattle.std.proofs.lemmas.Bool.{ltb-true, ltb-false}
use Rattle.gp_work.specs.declared.faults.JobFault.{JobFault}
use Rattle.gp_work.specs.declared.job.Job.{Job}
use Rattle.gp_ending.proofs.Following.{some_is}
use Rattle.gp_ending.specs.declared.ends.RunEnd.{RunEnd}
use Rattle.gp_ending.specs.Ends.{end_of, rank, sooner, deciding, fault_in, with_fault, Decides}

pub no_some : {A P : Type 0} {x : A} → None ≡ Some x → P
no_some {A} {P} {x} e = absurd (let wrong : None ≡ Some x = e in cc)

pub some_no : {A P : Type 0} {x : A} → Some x ≡ None → P
some_no {A} {P} {x} e = absurd (let wrong : Some x ≡ None = e in cc)

-- no fault at all
pub none_decides : (fs : List (Option JobFault)) → deciding fs ≡ None → All (λ f. f ≡ None) fs
none_decides [] e k d l = absurd (omega arith)
none_decides (None ∷ fs) e zero d l = refl
none_decides (None ∷ fs) e (suc k) d l = none_decides fs e k d (omega arith)
none_decides (Some f ∷ fs) e k d l = some_no e

pub nothing_decides : {P : Type 0} (jobs : List (Job P)) → All (λ (j : Job P). j.fault ≡ None) jobs → deciding (map fault_in jobs) ≡ None
nothing_decides [] none = refl
nothing_decides (j ∷ js) none = ap (λ f. with_fault f (deciding (map fault_in js))) (none 0 j (omega arith)) ∙ nothing_decides js (λ i d l. none (suc i) d (omega arith))

-- ---- the fault of the first decides

alone : (f : JobFault) (fs : List (Option JobFault)) (end : RunEnd) → end_of f ≡ end → ((i : ℕ) (x : JobFault) → slice_get fs i ≡ Some (Some x) → rank end ≤ rank (end_of x)) → Decides (Some f ∷ fs) end
alone f fs end is least = record { place = 0; fault = f; there = refl; end_is = is; least = all; first = λ i x l e. absurd (omega arith) }
  where
    all : (i : ℕ) (x : JobFault) → slice_get (Some f ∷ fs) i ≡ Some (Some x) → rank end ≤ rank (end_of x)
    all zero x e = let same : rank end ≡ rank (end_of x) = ap rank (sym is) ∙ ap (λ y. rank (end_of y)) (some_is (some_is e)) in omega arith
    all (suc i) x e = least i x e

-- ---- that of a later one decides

later : (o : Option JobFault) (fs : List (Option JobFault)) (end : RunEnd) → ((x : JobFault) → o ≡ Some x → rank end < rank (end_of x)) → Decides fs end → Decides (o ∷ fs) end
later o fs end below d = record { place = suc d.place; fault = d.fault; there = d.there; end_is = d.end_is; least = all; first = before }
  where
    all : (i : ℕ) (x : JobFault) → slice_get (o ∷ fs) i ≡ Some (Some x) → rank end ≤ rank (end_of x)
    all zero x e = let l = below x (some_is e) in omega arith
    all (suc i) x e = d.least i x e

    before : (i : ℕ) (x : JobFault) → i < suc d.place → slice_get (o ∷ fs) i ≡ Some (Some x) → rank end < rank (end_of x)
    before zero x l e = below x (some_is e)
    before (suc i) x l e = d.first i x (omega arith) e

no_fault_there : (fs : List (Option JobFault)) → deciding fs ≡ None → (i : ℕ) (x : JobFault) → slice_get fs i ≡ Some (Some x) → {P : Type 0} → P
no_fault_there [] e i x h = no_some h
no_fault_there (None ∷ fs) e zero x h = no_some (some_is h)
no_fault_there (None ∷ fs) e (suc i) x h = no_fault_there fs e i x h
no_fault_there (Some f ∷ fs) e i x h = some_no e

by_rest : (f : JobFault) (fs : List (Option JobFault)) (end : RunEnd) (rest : Option RunEnd) → deciding fs ≡ rest → ((e : RunEnd) → deciding fs ≡ Some e → Decides fs e) → sooner (end_of f) rest ≡ end → Decides (Some f ∷ fs) end
by_rest f fs end None is more e = alone f fs end e (λ i x h. no_fault_there fs is i x h)
by_rest f fs end (Some second) is more e = by_test (nat_lt (rank second) (rank (end_of f))) refl
  where
    d : Decides fs second
    d = more second is

    by_test : (b : Bool) → nat_lt (rank second) (rank (end_of f)) ≡ b → Decides (Some f ∷ fs) end
    by_test true t =
        let same : second ≡ end = sym (ap (λ b. cond b second (end_of f)) t) ∙ e in
        subst (Decides (Some f ∷ fs)) same (later (Some f) fs second (λ x h. subst (λ y. rank second < rank (end_of y)) (some_is h) (ltb-true (rank second) (rank (end_of f)) t)) d)
    by_test false t =
        let same : end_of f ≡ end = sym (ap (λ b. cond b second (end_of f)) t) ∙ e in
        alone f fs end same (λ i x h. let l = d.least i x h in let b = ltb-false (rank second) (rank (end_of f)) t in let s = ap rank same in omega (arith, l, b, s))

pub decides : (fs : List (Option JobFault)) (end : RunEnd) → deciding fs ≡ Some end → Decides fs end
decides [] end e = no_some e
decides (None ∷ fs) end e = later None fs end (λ x h. no_some h) (decides fs end e)
decides (Some f ∷ fs) end e = by_rest f fs end (deciding fs) refl (decides fs) (some_is e)
