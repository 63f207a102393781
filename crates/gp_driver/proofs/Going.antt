-- What drivers do to the nodes and the run of a stage, one call after another.
use Rattle.std.proofs.Common.{◌≡◌, ◌≢◌, ◌≤◌, ℕ, zero, suc, inl, inr, List, [], ◌∷◌, ◌++◌, refl, sym, ap, ◌∙◌, subst, arith, append_assoc, Some, None, Result, Ok, Err, length, ◌+◌}
use Rattle.std.specs.Prelude.{slice_get}
use Rattle.std.specs.List.{AllZip}
use Rattle.gp_msg.specs.declared.node.Node.{Node}
use Rattle.gp_msg.specs.declared.node.Node.TheVariants.{Proposer}
use Rattle.gp_msg.specs.declared.node.Node.TheVariants as node
use Rattle.gp_msg.specs.Messages.{Entry}
use Rattle.gp_driver.specs.declared.sweep.Role.{Role}
use Rattle.gp_driver.specs.declared.sweep.Role.TheVariants.{Coordinator, Acceptor, Learner}
use Rattle.gp_driver.specs.Roles.{node_of}
use Rattle.gp_driver.specs.declared.stage.StageFault.{StageFault}
use Rattle.gp_driver.specs.declared.stage.StageFault.TheVariants as fault
use Rattle.gp_driver.specs.Stages.{StageNode, StageState, Anyone, Nobody, AllBut, IsProposer, NodeGoes, NodesGo, StageGoes, Extends, HasRisen, SomeNodeRose, IfDiskFailed, UnlessDiskFailed, FailsByNode, fault_counts, HasDriven, HasCause, IsTooGreatForOne}

-- what is known of a loop, and what became of the nodes and the run in it, in which no disk failed
pub record WithNodes (known_is : Type 0) (idle : Node → Type 0) (old new : StageState) : Type 0 where
  pub known : known_is
  pub goes : StageGoes idle old new
  pub counts : fault_counts new.nodes ≡ fault_counts old.nodes

each_still : (idle : Node → Type 0) (xs : List StageNode) → AllZip (NodeGoes idle) xs xs
each_still idle [] = tt
each_still idle (x ∷ xs) = (record { same_node = refl; later = omega arith; same_limit = refl; rests = λ i. refl }, each_still idle xs)

pub nodes_still : (idle : Node → Type 0) (xs : List StageNode) → NodesGo idle xs xs
nodes_still idle xs = record { each = each_still idle xs }

node_on : (idle : Node → Type 0) (x y z : StageNode) → NodeGoes idle x y → NodeGoes idle y z → NodeGoes idle x z
node_on idle x y z a b = record {
  same_node = b.same_node ∙ a.same_node;
  later = let l = a.later in let m = b.later in omega (arith, l, m);
  same_limit = b.same_limit ∙ a.same_limit;
  rests = λ i. b.rests (subst idle (sym a.same_node) i) ∙ a.rests i;
}

each_on : (idle : Node → Type 0) (xs ys zs : List StageNode) → AllZip (NodeGoes idle) xs ys → AllZip (NodeGoes idle) ys zs → AllZip (NodeGoes idle) xs zs
each_on idle [] [] zs a b = b
each_on idle [] (y ∷ ys) zs a b = absurd a
each_on idle (x ∷ xs) [] zs a b = absurd a
each_on idle (x ∷ xs) (y ∷ ys) [] a b = absurd b
each_on idle (x ∷ xs) (y ∷ ys) (z ∷ zs) a b = (node_on idle x y z a.0 b.0, each_on idle xs ys zs a.1 b.1)

-- one after another
nodes_on : (idle : Node → Type 0) (xs ys zs : List StageNode) → NodesGo idle xs ys → NodesGo idle ys zs → NodesGo idle xs zs
nodes_on idle xs ys zs a b = record { each = each_on idle xs ys zs a.each b.each }

each_less : (less more : Node → Type 0) → ((n : Node) → less n → more n) → (xs ys : List StageNode) → AllZip (NodeGoes more) xs ys → AllZip (NodeGoes less) xs ys
each_less less more h [] [] a = tt
each_less less more h [] (y ∷ ys) a = absurd a
each_less less more h (x ∷ xs) [] a = absurd a
each_less less more h (x ∷ xs) (y ∷ ys) a = (record { same_node = a.0.same_node; later = a.0.later; same_limit = a.0.same_limit; rests = λ i. a.0.rests (h x.node i) }, each_less less more h xs ys a.1)

-- ---- the nodes and the run

extends_on : (es fs gs : List Entry) → Extends es fs → Extends fs gs → Extends es gs
extends_on es fs gs a b = (b.0 ++ a.0, b.1 ∙ ap (λ l. b.0 ++ l) a.1 ∙ sym (append_assoc b.0 a.0 es))

-- the run is the same
pub same_run : (idle : Node → Type 0) (x y : StageState) → NodesGo idle x.nodes y.nodes → y.run ≡ x.run → StageGoes idle x y
same_run idle x y a e = record { nodes = a; grows = ([], e) }

-- the run has one entry more
pub one_entry : (idle : Node → Type 0) (x y : StageState) (e : Entry) → NodesGo idle x.nodes y.nodes → y.run ≡ e ∷ x.run → StageGoes idle x y
one_entry idle x y e a more = record { nodes = a; grows = (e ∷ [], more) }

pub goes_still : (idle : Node → Type 0) (x : StageState) → StageGoes idle x x
goes_still idle x = same_run idle x x (nodes_still idle x.nodes) refl

-- one after another
pub goes_on : (idle : Node → Type 0) (x y z : StageState) → StageGoes idle x y → StageGoes idle y z → StageGoes idle x z
goes_on idle x y z a b = record { nodes = nodes_on idle x.nodes y.nodes z.nodes a.nodes b.nodes; grows = extends_on x.run y.run z.run a.grows b.grows }

-- fewer of the nodes are idle
goes_less : (less more : Node → Type 0) → ((n : Node) → less n → more n) → (x y : StageState) → StageGoes more x y → StageGoes less x y
goes_less less more h x y a = record { nodes = record { each = each_less less more h x.nodes y.nodes a.nodes.each }; grows = a.grows }

pub all_idle : (idle : Node → Type 0) (x y : StageState) → StageGoes Anyone x y → StageGoes idle x y
all_idle idle x y a = goes_less idle Anyone (λ n i. tt) x y a

pub none_idle : (idle : Node → Type 0) (x y : StageState) → StageGoes idle x y → StageGoes Nobody x y
none_idle idle x y a = goes_less Nobody idle (λ n i. absurd i) x y a

role_apart : (role : Role) (i p : ℕ) → Proposer p ≢ node_of role i
role_apart Coordinator i p e = cc
role_apart Acceptor i p e = cc
role_apart Learner i p e = cc

-- what one node of a role does leaves the proposers alone
pub role_goes : (role : Role) (i : ℕ) (node : Node) → node ≡ node_of role i → (x y : StageState) → StageGoes (AllBut node) x y → StageGoes IsProposer x y
role_goes role i node is x y a = goes_less IsProposer (AllBut node) (λ n q e. role_apart role i q.0 (sym q.1 ∙ e ∙ is)) x y a

pub coordinator_goes : (i : ℕ) (x y : StageState) → StageGoes (AllBut (node.Coordinator i)) x y → StageGoes IsProposer x y
coordinator_goes i x y a = role_goes Coordinator i (node.Coordinator i) refl x y a

-- ---- faults of disks

rose_on : (a b c : ℕ) → a ≤ b → HasRisen b c → HasRisen a c
rose_on a b c l (inl r) = inl (omega (arith, l, r))
rose_on a b c l (inr e) = inr e

-- the node at a place before
record WasAt (idle : Node → Type 0) (xs : List StageNode) (place : ℕ) (y : StageNode) : Type 0 where
  node : StageNode
  there : slice_get xs place ≡ Some node
  goes : NodeGoes idle node y

was_at : (idle : Node → Type 0) (xs ys : List StageNode) (place : ℕ) (y : StageNode) → AllZip (NodeGoes idle) xs ys → slice_get ys place ≡ Some y → WasAt idle xs place y
was_at idle [] [] place y a e = absurd (let wrong : None ≡ Some y = e in cc)
was_at idle [] (z ∷ ys) place y a e = absurd a
was_at idle (x ∷ xs) [] place y a e = absurd a
was_at idle (x ∷ xs) (z ∷ ys) zero y a e = record { node = x; there = refl; goes = subst (NodeGoes idle x) (let same : z ≡ y = (let some : Some z ≡ Some y = e in cc) in same) a.0 }
was_at idle (x ∷ xs) (z ∷ ys) (suc place) y a e = let w = was_at idle xs ys place y a.1 e in record { node = w.node; there = w.there; goes = w.goes }

some_rose : (idle : Node → Type 0) (xs ys zs : List StageNode) → NodesGo idle xs ys → SomeNodeRose ys zs → SomeNodeRose xs zs
some_rose idle xs ys zs a r =
    let w = was_at idle xs ys r.place r.was a.each r.before in
    record { place = r.place; was = w.node; is = r.is; before = w.there; after = r.after; rose = rose_on w.node.faults r.was.faults r.is.faults w.goes.later r.rose }

failed_after : (P Q : Type 0) (r : Result ℕ StageFault) → (P → Q) → IfDiskFailed r P → IfDiskFailed r Q
failed_after P Q (Ok n) h f = tt
failed_after P Q (Err fault.NoMemory) h f = tt
failed_after P Q (Err fault.Disk) h f = h f
failed_after P Q (Err (fault.Full size need)) h f = tt

unless_after : (P Q : Type 0) (r : Result ℕ StageFault) → (P → Q) → UnlessDiskFailed r P → UnlessDiskFailed r Q
unless_after P Q (Ok n) h f = h f
unless_after P Q (Err fault.NoMemory) h f = h f
unless_after P Q (Err fault.Disk) h f = tt
unless_after P Q (Err (fault.Full size need)) h f = h f

-- a call after others, in which no disk failed, failed by the disk of a node, or no disk failed in it either
pub failed_on : (idle : Node → Type 0) (xs ys zs : List StageNode) (r : Result ℕ StageFault) → NodesGo idle xs ys → fault_counts ys ≡ fault_counts xs → FailsByNode ys zs r → FailsByNode xs zs r
failed_on idle xs ys zs r a e f = record {
  by_node = failed_after (SomeNodeRose ys zs) (SomeNodeRose xs zs) r (some_rose idle xs ys zs a) f.by_node;
  steady = unless_after (fault_counts zs ≡ fault_counts ys) (fault_counts zs ≡ fault_counts xs) r (λ s. s ∙ e) f.steady;
}

-- a call that failed, after others that did not
pub driven_failed : (x y z : StageState) (before target : List Entry) (fault : StageFault) → y.config ≡ x.config → y.faults ≡ x.faults → HasDriven y z before (Err fault) → HasDriven x z target (Err fault)
driven_failed x y z before target fault config steady h = record {
  same_config = h.same_config ∙ config;
  later = let l = h.later in omega (arith, l, steady);
  steady = tt;
  outcome = subst (λ k. HasCause x.faults z.faults (IsTooGreatForOne k z.run z.is_too_great) fault) config
      (subst (λ n. HasCause n z.faults (IsTooGreatForOne y.config z.run z.is_too_great) fault) steady h.outcome);
}

-- one call more that did not fail
pub driven_on : (x y z : StageState) (before target : List Entry) (n m all : ℕ) → y.config ≡ x.config → y.faults ≡ x.faults → length y.run ≡ length x.run + n → HasDriven y z before (Ok m) → before ≡ target → n + m ≡ all → HasDriven x z target (Ok all)
driven_on x y z before target n m all config steady more h is sum = record {
  same_config = h.same_config ∙ config;
  later = let l = h.later in omega (arith, l, steady);
  steady = h.steady ∙ steady;
  outcome = (h.outcome.0 ∙ is, (let l = h.outcome.1 in omega (arith, l, more, sum)), h.outcome.2);
}
