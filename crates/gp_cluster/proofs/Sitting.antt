-- What holds of the jobs of a wire to whose nodes nothing has happened.
use Rattle.std.proofs.Common.{◌≡◌, ◌<◌, ◌+◌, ℕ, List, [], length, get_or, sym, ap, ◌∙◌, subst, arith}
use Rattle.std.specs.List.{All}
use Rattle.std.proofs.lemmas.List.{length-map, length-append, get_or-map}
use Rattle.gp_round.specs.Counts.{Counts}
use Rattle.gp_vlog.specs.Logs.{LogState}
use Rattle.gp_wire.specs.Lists.{Each, IsDistinct}
use Rattle.gp_wire.specs.Known.{WireState}
use Rattle.gp_cell.specs.declared.rules.PaxosRules.{PaxosRules}
use Rattle.gp_work.specs.declared.job.Job.{Job}
use Rattle.gp_cell.specs.Cells.{CellState}
use Rattle.gp_ending.specs.Begins.{leader}
use Rattle.gp_ending.specs.Ended.{node_in, nodes_of}
use Rattle.gp_ending.proofs.Indexing.{each_at}
use Rattle.gp_seats.specs.declared.nodes.Role.TheVariants.{Learner}
use Rattle.gp_seats.specs.Nodes.{first_of, logged_nodes, working_nodes, proposer_nodes, all_nodes}
use Rattle.gp_seats.specs.Seats.{IsBlank, IsNewAt, IsNewJob, new_passes, seats}
use Rattle.gp_seats.proofs.Listing.{present_all, all_present, all_distinct}
use Rattle.gp_seats.proofs.Sitting.{new_jobs, length_logged, length_proposers, working_sit, length_first}
use Rattle.gp_stage.specs.Held.{AreAllNodes}
use Rattle.gp_cluster.specs.Seated.{IsSeated, logs_in}
use Rattle.gp_cluster.proofs.Starting.{seated_nodes, seated_logs, leader_at}

module _ {D : Type 0} (faults : D → ℕ) (config : Counts) (wire : WireState PaxosRules) (jobs proposing : List (Job (CellState D))) (s : IsSeated config wire jobs proposing (logs_in jobs)) where
  pub proposing_new : All (IsNewAt faults wire) proposing
  proposing_new i d l = (each_at (IsNewJob faults wire config) proposing (subst (λ js. Each (IsNewJob faults wire config) js) (sym s.proposers_are) (new_jobs faults wire config proposer_nodes [] s.rules)) i d l).0

  pub jobs_new : All (IsNewAt faults wire) jobs
  jobs_new i d l = (each_at (IsNewJob faults wire config) jobs (subst (λ js. Each (IsNewJob faults wire config) js) (sym s.jobs_are) (new_jobs faults wire config (working_nodes config) (logs_in jobs) s.rules)) i d l).0

  jobs_nodes : nodes_of jobs ≡ working_nodes config
  jobs_nodes = ap nodes_of s.jobs_are ∙ seated_nodes config wire (working_nodes config) (logs_in jobs)

  -- the leader is one of them
  pub leader_within : 0 < config.coordinators → config.acceptors < length jobs
  leader_within l =
      let all : length jobs ≡ length (working_nodes config) = sym (length-map jobs node_in) ∙ ap length jobs_nodes in
      let both = length-append (logged_nodes config) (first_of Learner config.learners) in
      let first = length_logged config in omega (arith, l, all, both, first)

  pub leads : 0 < config.coordinators → (d : Job (CellState D)) → (get_or jobs config.acceptors d).cell.node ≡ leader
  leads l d =
      sym (get_or-map node_in jobs config.acceptors d (node_in d) (leader_within l))
      ∙ ap (λ ns. get_or ns config.acceptors (node_in d)) jobs_nodes ∙ leader_at config (node_in d) l

  pub are_all : AreAllNodes config wire.nodes
  are_all n = subst (λ ns. AreAllNodes config ns) (sym s.nodes) (λ m. (all_present config m, present_all config m)) n

  pub distinct : IsDistinct wire.nodes
  distinct = subst IsDistinct (sym s.nodes) (all_distinct config)

  -- the others are the proposers
  pub proposing_nodes : nodes_of proposing ≡ proposer_nodes
  proposing_nodes = ap nodes_of s.proposers_are ∙ seated_nodes {D = D} config wire proposer_nodes []

  pub count_nodes : length jobs + length proposing ≡ config.acceptors + config.coordinators + config.learners + 8
  count_nodes =
      let all : length jobs ≡ length (working_nodes config) = sym (length-map jobs node_in) ∙ ap length jobs_nodes in
      let others : length proposing ≡ length proposer_nodes = sym (length-map proposing node_in) ∙ ap length proposing_nodes in
      let both = length-append (logged_nodes config) (first_of Learner config.learners) in
      let first = length_logged config in let last = length_first Learner config.learners in let eight = length_proposers in omega (arith, all, others, both, first, last, eight)

-- ---- jobs that were made with logs

module _ {D : Type 0} (config : Counts) (wire : WireState PaxosRules) (jobs proposing : List (Job (CellState D))) (logs : List (LogState D)) (count : length logs ≡ config.acceptors + config.coordinators) (blank : All IsBlank logs) (jobs_are : jobs ≡ seats config (new_passes wire (working_nodes config)) logs) where
  pub same_logs : logs_in jobs ≡ logs
  same_logs = ap logs_in jobs_are ∙ seated_logs config (new_passes wire (working_nodes config)) logs (working_sit D config wire logs count blank)

  pub seated : wire.rules.config ≡ config → wire.nodes ≡ all_nodes config → proposing ≡ seats config (new_passes wire proposer_nodes) [] → IsSeated config wire jobs proposing (logs_in jobs)
  seated rules nodes others = subst (IsSeated config wire jobs proposing) (sym same_logs) (record {
    rules = rules;
    nodes = nodes;
    jobs_are = jobs_are;
    proposers_are = others;
    count = count;
    blank = blank;
  })
