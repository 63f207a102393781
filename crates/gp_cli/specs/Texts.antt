-- What the program prints besides the output of a script.
use Rattle.std.specs.Prelude.{ℕ, List, ◌++◌, codes, decimal}
use Rattle.gp_script.specs.declared.reason.Reason.{Reason}
use Rattle.gp_script.specs.declared.reason.Reason.TheVariants.{TooLong, NoNodesLine, BadLine, BadNumber, BadCount, BadKey, NoNode, BadFall, NoMessage, TooManyCommands, TooManyEvents, NoReport, WrongReport}

-- what is printed if the words name no subcommand
abbrev pub usage : List ℕ
usage = codes "usage: mcgp play | run [LIMIT] | sim SEED COMMANDS | drive A L K | log K | upgrade K | audit | adapt | bank | views KEY\n"

-- what is printed if the source failed
abbrev pub read_fault : List ℕ
read_fault = codes "read fault\n"

-- what is printed if a disk failed
abbrev pub disk_fault : List ℕ
disk_fault = codes "disk fault\n"

-- what is printed if a log holds neither part that it may hold
abbrev pub log_changed : List ℕ
log_changed = codes "log changed\n"

-- what is printed if a log of this size has no room for an entry of this need
abbrev pub full_text : ℕ → ℕ → List ℕ
full_text size need = codes "log full: size " ++ decimal size ++ codes " need " ++ decimal need ++ codes "\n"

-- what is printed if the bytes of a disk are not a log, at this place
abbrev pub broken_text : ℕ → List ℕ
broken_text place = codes "not a log: at " ++ decimal place ++ codes "\n"

-- why a line is refused
abbrev pub reason_text : Reason → List ℕ
reason_text TooLong = codes "too long"
reason_text NoNodesLine = codes "no nodes line"
reason_text BadLine = codes "bad line"
reason_text BadNumber = codes "bad number"
reason_text BadCount = codes "bad count"
reason_text BadKey = codes "bad key"
reason_text NoNode = codes "no node"
reason_text BadFall = codes "bad fall"
reason_text NoMessage = codes "no message"
reason_text TooManyCommands = codes "too many commands"
reason_text TooManyEvents = codes "too many events"
reason_text NoReport = codes "no report"
reason_text WrongReport = codes "wrong report"

-- a line, with these words about it
abbrev pub line_text : ℕ → List ℕ → List ℕ
line_text line why = codes "line " ++ decimal line ++ codes ": " ++ why ++ codes "\n"

-- the first refused line, and why
abbrev pub refusal_text : ℕ → Reason → List ℕ
refusal_text line reason = line_text line (reason_text reason)
