-- What was found in a log.
use Rattle.std.specs.Prelude.{ℕ, List}
use Rattle.gp_vlog.specs.declared.area.Area.{Area}
use Rattle.gp_vlog.specs.declared.header.Header.{Header}
use Rattle.gp_vlog.specs.declared.file.Found.{Found}
use Rattle.gp_vlog.specs.Files.{Head, Contents}
use Rattle.gp_vlog.specs.Bodies.{LogEntry}
use Rattle.gp_vlog.specs.Logs.{log_entries}

abbrev pub area_seen : Area → List LogEntry × ℕ
area_seen a = (log_entries a.first_version a.entries.items, a.closed)

abbrev pub head_seen : Header → Head
head_seen h = record { limit = h.limit; second = h.second }

abbrev pub contents_seen : Found → Contents
contents_seen f = record { limit = f.limit; second = f.second; entries = log_entries f.first_version f.entries.items; closed = f.closed }
