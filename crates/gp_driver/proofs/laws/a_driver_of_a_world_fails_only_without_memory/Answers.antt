-- The lemma is the law.
use Rattle.gp_driver.proofs.Worlds.{only_memory}
use Rattle.gp_driver.proofs.laws.a_driver_of_a_world_fails_only_without_memory.Goals as goal

pub returns : goal.returns
returns g = λ old new target result h. only_memory old new target result h
