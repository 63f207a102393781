-- Images behind changes.
use Rattle.std.proofs.Common.{◌≡◌, ℕ, suc, ◌+◌, List, [], ◌∷◌, ◌++◌, length, fold, map, drop, Option, Some, sym, ap, refl, subst, ◌∙◌, arith}
use Rattle.std.specs.Prelude.{slice_get, unwrap_or}
use Rattle.std.proofs.Math.ListN.{get_or}
use Rattle.std.proofs.lemmas.Option.{slice_get_within, unwrap_or-slice_get}
use Rattle.std.proofs.Math.Seq.{drop-append_seam, drop-cons}
use Rattle.std.proofs.lemmas.List.{append_assoc, append-nil, length-append}
use Rattle.gp_command.specs.declared.command.Command.{Command}
use Rattle.gp_replica.specs.Machines.{Rules, state_from}
use Rattle.gp_store.specs.Effects.{after_command, store_rules}
use Rattle.gp_views.specs.Ends.{Published}
use Rattle.gp_views.specs.declared.image.Shown.{Shown}
use Rattle.gp_views.specs.declared.image.Change.{Change}
use Rattle.gp_views.specs.declared.image.Change.TheVariants.{Restart, Run, Reach}
use Rattle.gp_views.specs.Lists.{Extends}
use Rattle.gp_views.specs.Images.{changed, listed, HasRun, MayFollow}

state_snoc : {S : Type 0} (r : Rules S) (s : S) (cs : List Command) (c : Command) → state_from r s (cs ++ c ∷ []) ≡ r.after (state_from r s cs) c
state_snoc r s [] c = refl
state_snoc r s (b ∷ cs) c = state_snoc r (r.after s b) cs c

-- what an image has run behind changes
pub changed_runs : (s : Shown) (cs : List Command) (changes : List Change) → HasRun s cs → HasRun (fold changed s changes) (listed cs changes)
changed_runs s cs [] is = is
changed_runs s cs (Restart ∷ changes) is = changed_runs (changed s Restart) [] changes (record { store = refl; count = refl })
changed_runs s cs (Run c ∷ changes) is = changed_runs (changed s (Run c)) (cs ++ c ∷ []) changes (record {
  store = ap (λ s. after_command s c) is.store ∙ sym (state_snoc store_rules store_rules.opening cs c);
  count = ap (λ (n : ℕ). n + 1) is.count ∙ sym (length-append cs (c ∷ []));
})
changed_runs s cs (Reach b ∷ changes) is = changed_runs (changed s (Reach b)) cs changes (record { store = is.store; count = is.count })

-- the list that it stands for behind a last change
pub goal_behind : (s : Shown) (changes : List Change) (b : Published) → (fold changed s (changes ++ Reach b ∷ [])).goal ≡ b
goal_behind s [] b = refl
goal_behind s (d ∷ changes) b = goal_behind (changed s d) changes b

pub listed_more : (cs : List Command) (changes more : List Change) → listed cs (changes ++ more) ≡ listed (listed cs changes) more
listed_more cs [] more = refl
listed_more cs (Restart ∷ changes) more = listed_more [] changes more
listed_more cs (Run c ∷ changes) more = listed_more (cs ++ c ∷ []) changes more
listed_more cs (Reach b ∷ changes) more = listed_more cs changes more

listed_runs : (cs ds : List Command) → listed cs (map Run ds) ≡ cs ++ ds
listed_runs cs [] = sym (append-nil cs)
listed_runs cs (c ∷ ds) = listed_runs (cs ++ c ∷ []) ds ∙ append_assoc cs (c ∷ []) ds

-- the rest behind the list
pub listed_rest : (ran cs : List Command) (n : ℕ) (before changes : List Change) → Extends ran cs → n ≡ length cs → before ≡ [] → changes ≡ before ++ map Run (drop n ran) → listed cs changes ≡ ran
listed_rest ran cs n before changes p e none is =
    let rest : drop n ran ≡ p.0 = ap (λ (k : ℕ). drop k ran) e ∙ (ap (drop (length cs)) p.1 ∙ drop-append_seam cs p.0) in
    let these : changes ≡ map Run p.0 = is ∙ (ap (λ (b : List Change). b ++ map Run (drop n ran)) none ∙ ap (λ (r : List Command). map Run r) rest) in
    ap (listed cs) these ∙ (listed_runs cs p.0 ∙ sym p.1)

-- all of it behind a restart
pub listed_anew : (ran cs : List Command) (before put changes : List Change) → put ≡ before ++ Restart ∷ [] → changes ≡ put ++ map Run ran → listed cs changes ≡ ran
listed_anew ran cs before put changes e is =
    ap (listed cs) (is ∙ ap (λ (b : List Change). b ++ map Run ran) e)
    ∙ (listed_more cs (before ++ Restart ∷ []) (map Run ran)
    ∙ (ap (λ (b : List Command). listed b (map Run ran)) (listed_more cs before (Restart ∷ []))
    ∙ listed_runs [] ran))

-- with the goal behind them, changes make what may follow
pub may_follow : (s : Shown) (cs : List Command) (b : Published) (changes all : List Change) → HasRun s cs → b.feed ≡ s.goal.feed → listed cs changes ≡ b.list → all ≡ changes ++ Reach b ∷ [] → MayFollow s all
may_follow s cs b changes all is feed list e =
    let goal : (fold changed s all).goal ≡ b = ap (λ (z : List Change). (fold changed s z).goal) e ∙ goal_behind s changes b in
    let same : listed cs all ≡ b.list = ap (listed cs) e ∙ (listed_more cs changes (Reach b ∷ []) ∙ list) in
    let runs : HasRun (fold changed s all) (listed cs all) = changed_runs s cs all is in
    let to : listed cs all ≡ (fold changed s all).goal.list = same ∙ sym (ap (λ (p : Published). p.list) goal) in
    record { feed = ap (λ (p : Published). p.feed) goal ∙ feed; whole = subst (HasRun (fold changed s all)) to runs }

-- the next command is run
pub run_next : (ran : List Command) (place : ℕ) (c : Command) (before changes all : List Change) → slice_get ran place ≡ Some c → changes ≡ before ++ Run c ∷ [] → before ++ map Run (drop place ran) ≡ all → changes ++ map Run (drop (place + 1) ran) ≡ all
run_next ran place c before changes all at e is =
    let one : suc place ≡ place + 1 = omega arith in
    let there : get_or ran place c ≡ c = sym (unwrap_or-slice_get ran place c) ∙ ap (λ (o : Option Command). unwrap_or o c) at in
    let next : drop place ran ≡ c ∷ drop (place + 1) ran = drop-cons ran place c (slice_get_within ran place c at)
    ∙ (ap (λ (b : Command). b ∷ drop (suc place) ran) there ∙ ap (λ (k : ℕ). c ∷ drop k ran) one) in
    ap (λ (b : List Change). b ++ map Run (drop (place + 1) ran)) e
    ∙ (append_assoc before (Run c ∷ []) (map Run (drop (place + 1) ran)) ∙ (ap (λ (r : List Command). before ++ map Run r) (sym next) ∙ is))
