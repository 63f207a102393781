-- The text of a log.
use Rattle.std.specs.Prelude.{ℕ, List, ◌++◌, length, codes, decimal}
use Rattle.std.specs.List.{flat_map}
use Rattle.gp_history.specs.History.{History}
use Rattle.gp_round.specs.declared.round.Round.{Round}
use Rattle.gp_msg.specs.Messages.{Part, Acceptors, Coordinators, EpochPart}
use Rattle.gp_script.specs.Spelling.{mode_word}
use Rattle.gp_report.specs.Texts.{identities}

-- `COUNT.MODE.LEAD`
abbrev pub dotted_round : Round → List ℕ
dotted_round r = decimal r.count ++ codes "." ++ mode_word r.mode ++ codes "." ++ decimal r.lead

-- a kind of node, its epoch and its round
abbrev pub place_words : List ℕ → ℕ → Round → List ℕ
place_words kind epoch round = kind ++ codes " epoch " ++ decimal epoch ++ codes " " ++ dotted_round round

-- a vote, and the round that it was cast in
abbrev pub vote_words : Round → History → List ℕ
vote_words voted vote = codes " voted " ++ dotted_round voted ++ codes ": " ++ identities vote

-- the line of a durable part in an epoch
abbrev pub line_in : ℕ → Part → List ℕ
line_in epoch (Acceptors round voted vote) = place_words (codes "acceptor") epoch round ++ vote_words voted vote ++ codes "\n"
line_in epoch (Coordinators round) = place_words (codes "coordinator") epoch round ++ codes "\n"

abbrev pub part_line : EpochPart → List ℕ
part_line p = line_in p.epoch p.part

-- the first line: which log it is, how many entries it has, and its size
abbrev pub head_line : ℕ → ℕ → ℕ → List ℕ
head_line number entries size = codes "log " ++ decimal number ++ codes " entries " ++ decimal entries ++ codes " size " ++ decimal size ++ codes "\n"

-- the first line, and one for each entry
abbrev pub log_text : ℕ → List EpochPart → ℕ → List ℕ
log_text number parts size = head_line number (length parts) size ++ flat_map part_line parts
