-- Agreement: what learners show.
use Rattle.std.specs.Prelude.{◌≡◌, ℕ, true, List, [], ◌∷◌, ◌++◌}
use Rattle.std.specs.List.{Contains}
use Rattle.gp_command.specs.declared.command.Command.{Command}
use Rattle.gp_history.specs.History.{History, IsHistory, IsPrefix, has, before}
use Rattle.gp_history.specs.Bounds.{IsCompatible, join}
use Rattle.gp_round.specs.Counts.{Counts}
use Rattle.gp_msg.specs.declared.node.Node.TheVariants.{Proposer, Coordinator, Acceptor, Learner}
use Rattle.gp_msg.specs.declared.event.Event.{Event}
use Rattle.gp_msg.specs.declared.event.Event.TheVariants.{Offer, Begin, Take, Fall}
use Rattle.gp_msg.specs.Messages.{Offered, Final, Entry}
use Rattle.gp_run.specs.Messages.{messages}
use Rattle.gp_run.specs.Learned.{learned_at, taken_at, base_at, IsBoundOfHeard}

-- the event is not a crash of learner l
abbrev pub IsNoFallOf : ℕ → Event → Type 0
IsNoFallOf l (Offer p d) = Unit {0}
IsNoFallOf l (Begin c r) = Unit {0}
IsNoFallOf l (Take node k) = Unit {0}
IsNoFallOf l (Fall (Proposer p) what) = Unit {0}
IsNoFallOf l (Fall (Coordinator c) what) = Unit {0}
IsNoFallOf l (Fall (Acceptor a) what) = Unit {0}
IsNoFallOf l (Fall (Learner i) what) = l ≡ i → ⊥

-- learner l does not crash in these entries
abbrev pub StaysUp : ℕ → List Entry → Type 0
StaysUp l [] = Unit {0}
StaysUp l (e ∷ es) = IsNoFallOf l e.event × StaysUp l es

-- two histories are compatible, order the commands that both have alike, and are equal if they have the same commands
pub record AreAlike (h k : History) : Type 0 where
  pub compatible : IsCompatible h k
  pub ordered : (c d : Command) → has h c ≡ true → has h d ≡ true → has k c ≡ true → has k d ≡ true → before h c d ≡ before k c d
  pub equal : ((c : Command) → has h c ≡ has k c) → h ≡ k

-- what learner l shows is the base of its epoch, joined with the least upper bound of what it heard there
pub record IsLearned (config : Counts) (es : List Entry) (l : ℕ) : Type 0 where
  pub part : History
  pub bound : IsBoundOfHeard config (taken_at config l es) part
  pub joined : learned_at config l es ≡ join (base_at config l es) part

-- what learners show agrees. A moment of a run is given by the entries up to it: ys, if xs ++ ys is the run
pub record Agrees (config : Counts) (es : List Entry) : Type 0 where
  -- what any two learners show at any two moments is alike
  pub alike : (xs ys us vs : List Entry) → xs ++ ys ≡ es → us ++ vs ≡ es → (l i : ℕ) → AreAlike (learned_at config l ys) (learned_at config i vs)
  -- each command that a learner shows was proposed before that moment
  pub proposed : (xs ys : List Entry) → xs ++ ys ≡ es → (l : ℕ) (c : Command) → has (learned_at config l ys) c ≡ true → Contains (messages ys) (Offered c)
  -- no two commands that learners show at any two moments have one identity
  pub identities : (xs ys us vs : List Entry) → xs ++ ys ≡ es → us ++ vs ≡ es → (l i : ℕ) (c d : Command) → has (learned_at config l ys) c ≡ true → has (learned_at config i vs) d ≡ true → c.id ≡ d.id → c ≡ d
  -- what a learner shows grows while it does not crash
  pub grows : (xs ys zs : List Entry) → xs ++ (ys ++ zs) ≡ es → (l : ℕ) → StaysUp l ys → IsPrefix (learned_at config l zs) (learned_at config l (ys ++ zs))
  -- what a learner shows is a history
  pub history : (xs ys : List Entry) → xs ++ ys ≡ es → (l : ℕ) → IsHistory (learned_at config l ys)
  -- it is the base of the epoch of the learner, joined with the least upper bound of what the learner heard there
  pub learned : (xs ys : List Entry) → xs ++ ys ≡ es → (l : ℕ) → IsLearned config ys l
  -- all Final messages of one epoch carry one value
  pub one_final : (e l i : ℕ) (v w : History) → Contains (messages es) (Final e l v) → Contains (messages es) (Final e i w) → v ≡ w
