use Rattle.std.proofs.Common.{◌≡◌, ◌+◌, ap, sym, subst, ◌∙◌, rules}
use Rattle.gp_views.specs.Ends.{Published}
use Rattle.gp_views.specs.Books.{last_of}
use Rattle.gp_views.specs.Lists.{Extends}
use Rattle.gp_views.proofs.Commits.{commits_moves, last_snoc, published}
use Rattle.gp_views.proofs.book.Batch.commit.Goals as goal

pub compare_exchange-found-requires : goal.compare_exchange-found-requires
compare_exchange-found-requires c =
    let word = c.deref.ensures ∙ c.self.invariant.0 in
    let same = ap (λ s. s.book) c.again-seen.ensures ∙ sym (ap (λ w. w.book) word) in
    let offer = c.plain-offer.ensures in
    let pen = c.no_pen-pen.ensures in
    let next : c.in_ok-lists.lists ≡ c.self.inside.lists + 1 = search rules in
    let more : Extends c.args.self.now.list (last_of c.self.inside.seen.log) = subst (λ (p : Published). Extends p.list (last_of c.self.inside.seen.log)) c.self.view_is c.self.invariant.2 in (
      ap (λ w. w.tracked) word,
      same,
      pen.0 ∙ same,
      offer.0,
      rw (ap (λ w. w.key) word, pen.1, offer.1, offer.3, c.again-seen.ensures) (commits_moves c.self.inside.seen.log c.args.self.now.list c.self.inside.lists c.in_ok-lists.lists c.self.invariant.1 next more),
    )

pub returns-then-found-self : goal.returns-then-found-self
returns-then-found-self c =
    let exchange = c.compare_exchange-found in
    let added = exchange.ensures.7 c.if-found-self.true in
    let list = ap last_of added ∙ (last_snoc c.again-seen.result.log c.plain-offer.result.ask ∙ c.plain-offer.ensures.1) in
    let feed = exchange.ensures.0 ∙ (ap (λ s. s.book) c.again-seen.ensures ∙ ap (λ (p : Published). p.feed) c.self.view_is) in
    published c.args.self.now exchange.new.seen.book (last_of exchange.new.seen.log) feed list
