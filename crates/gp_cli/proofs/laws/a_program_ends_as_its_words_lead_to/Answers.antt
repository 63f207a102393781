-- The lemmas are the law.
use Rattle.gp_cli.proofs.Arguments.{by_words, without_words, without_disks}
use Rattle.gp_cli.proofs.laws.a_program_ends_as_its_words_lead_to.Goals as goal

pub returns-clause-words : goal.returns-clause-words
returns-clause-words g = λ given words before now status trail ends. by_words given words before now status trail ends

pub returns-clause-none : goal.returns-clause-none
returns-clause-none g = λ given before now status trail ends. without_words given before now status trail ends

pub returns-clause-no_disks : goal.returns-clause-no_disks
returns-clause-no_disks g = λ given before now status trail ends. without_disks given before now status trail ends
