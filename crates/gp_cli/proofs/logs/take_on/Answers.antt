use Rattle.std.proofs.Common.{◌≡◌, ◌-◌, ℕ, true, Some, sym, ap, ◌∙◌, rules}
use Rattle.std.specs.Prelude.{slice_get}
use Rattle.gp_msg.specs.declared.durable.Durable.{Durable}
use Rattle.gp_cli.proofs.LogCauses.{last_is, renewed_takes, renewed_leaves}
use Rattle.gp_cli.proofs.logs.take_on.Goals as goal

pub returns-clause-taken : goal.returns-clause-taken
returns-clause-taken g c =
    let log = c.args.log.now in
    let yes : c.is_old.result ≡ true = search rules in
    let at = ap (λ (n : ℕ). slice_get log.entries (n - 1)) (sym c.count.ensures) ∙ c.entry.ensures in
    let alone = last_is log.is_old log.entries c.in_ok-last.last (at ∙ ap (λ (d : Durable). Some d) (sym c.in_ok-last.ensures)) in
    renewed_takes g.D.Disk.content g.D.Disk.image log c.renew.new.self c.in_ok-last.last c.renew.result (sym c.is_old.ensures.exact ∙ yes) alone c.renew.ensures.renewed c.renew.ensures.version c.renew.ensures.ready c.renew.ensures.full c.renew.ensures.left c.renew.ensures.limit

pub returns-clause-any_moment : goal.returns-clause-any_moment
returns-clause-any_moment g c =
    let log = c.args.log.now in
    let at = ap (λ (n : ℕ). slice_get log.entries (n - 1)) (sym c.count.ensures) ∙ c.entry.ensures in
    let alone = last_is log.is_old log.entries c.in_ok-last.last (at ∙ ap (λ (d : Durable). Some d) (sym c.in_ok-last.ensures)) in
    renewed_leaves g.D.Disk.content g.D.Disk.image g.D.Disk.moment g.D.Disk.since log c.renew.new.self.disk c.in_ok-last.last c.requires.on_disk alone c.renew.ensures.any_moment
