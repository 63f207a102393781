use Rattle.std.proofs.Common.{true, false}
use Rattle.std.specs.Option.{option_copied}
use Rattle.gp_msg.specs.Messages.{part_of}
use Rattle.gp_vlog.proofs.Written.{entry_read}
use Rattle.gp_vlog.proofs.reading.entry_of.Goals as goal

pub returns-then-fits_version-clause-read : goal.returns-then-fits_version-clause-read
returns-then-fits_version-clause-read c =
    entry_read (option_copied c.args.before) c.args.old c.args.body.now c.in_ok-version.version c.in_ok-version.kind c.in_ok-epoch.epoch c.in_ok-epoch.rest.now (part_of c.in_ok-part.part) true
    c.in-len1-up.len_at_least c.in_ok-version.ensures c.in_ok-epoch.ensures c.in_ok-part.ensures.read c.if-fits_version.ensures

pub returns-else-fits_version-clause-read : goal.returns-else-fits_version-clause-read
returns-else-fits_version-clause-read c =
    entry_read (option_copied c.args.before) c.args.old c.args.body.now c.in_ok-version.version c.in_ok-version.kind c.in_ok-epoch.epoch c.in_ok-epoch.rest.now (part_of c.in_ok-part.part) false
    c.in-len1-up.len_at_least c.in_ok-version.ensures c.in_ok-epoch.ensures c.in_ok-part.ensures.read c.if-fits_version.ensures
