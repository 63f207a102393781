-- The next command of the canonical order, in words.
use Rattle.std.proofs.Common.{◌≡◌, Bool, true, false, not, ◌||◌, Some, None, refl, sym, ap, ◌∙◌}
use Rattle.std.specs.Prelude.{filter}
use Rattle.std.specs.FinSet as set
use Rattle.gp_command.specs.declared.command.Command.{Command}
use Rattle.gp_history.specs.History.{History, IsHistory, has, before}
use Rattle.gp_history.specs.Canonical.{is_ready, least, next_least, IsNext}
use Rattle.gp_history.proofs.Tests.{In, both, fst_of, snd_of, left_of, right_of, one_of, by_cases, all_gives, all_from, turned_false}
use Rattle.gp_history.proofs.Meet.{in_filter, from_filter, in_items}
use Rattle.gp_history.proofs.Canonical.{least_in, least_some, in_filtered}
use Rattle.gp_history.proofs.Least.{least_min, one_least}

module _ (h t : History) (w : IsHistory h) where
  -- a command with nothing before it that is left
  ready_from : (c : Command) → has t c ≡ false → ((d : Command) → before h d c ≡ true → has t d ≡ true) → is_ready h t c ≡ true
  ready_from c fresh behind = both (ap not fresh) (all_from _ (set.items h.commands) (λ d _. by_cases (before h d c)
      (λ r. right_of (not (before h d c)) (has t d) (behind d r))
      (λ r. left_of (not (before h d c)) (has t d) (ap not r))))

  ready_fresh : (c : Command) → is_ready h t c ≡ true → has t c ≡ false
  ready_fresh c e = turned_false (has t c) (fst_of (not (has t c)) _ e)

  ready_behind : (c : Command) → is_ready h t c ≡ true → (d : Command) → before h d c ≡ true → has t d ≡ true
  ready_behind c e d r =
      let listed : In (set.items h.commands) d = sym (in_items h d) ∙ (w.within d c r).0 in
      let one : (not (before h d c) || has t d) ≡ true = all_gives (λ x. not (before h x c) || has t x) (set.items h.commands) d (snd_of (not (has t c)) _ e) listed in
      one_of (not (before h d c)) (has t d) one (λ n. absurd (let k : not true ≡ true = ap not (sym r) ∙ n in cc)) (λ m. m)

  abbrev ready : Command → Bool
  ready = is_ready h t

  listed : (c : Command) → has h c ≡ true → ready c ≡ true → In (filter (is_ready h t) (set.items h.commands)) c
  listed c p e = in_filter (is_ready h t) (set.items h.commands) c (sym (in_items h c) ∙ p) e

  pub next_is : (c : Command) → next_least h t ≡ Some c → IsNext h t c
  unfolding next_least
  next_is c e =
      let inside = least_in (filter (is_ready h t) (set.items h.commands)) c e in
      let r = from_filter (is_ready h t) (set.items h.commands) c inside in
      record {
        there = in_items h c ∙ in_filtered (is_ready h t) (set.items h.commands) c inside;
        fresh = ready_fresh c r;
        behind = ready_behind c r;
        least = λ d p f b. least_min (filter (is_ready h t) (set.items h.commands)) c d e (listed d p (ready_from d f b));
      }

  pub is_next : (c : Command) → IsNext h t c → next_least h t ≡ Some c
  unfolding next_least
  is_next c n =
      let here = listed c n.there (ready_from c n.fresh n.behind) in
      elim (least (filter (is_ready h t) (set.items h.commands))) as (λ o. least (filter (is_ready h t) (set.items h.commands)) ≡ o → o ≡ Some c) [
        | None ↦ λ e. absurd (least_some (filter (is_ready h t) (set.items h.commands)) c here e)
        | Some d ↦ λ e.
            let inside = least_in (filter (is_ready h t) (set.items h.commands)) d e in
            let r = from_filter (is_ready h t) (set.items h.commands) d inside in
            ap Some (one_least d c
            (least_min (filter (is_ready h t) (set.items h.commands)) d c e here)
            (n.least d (in_items h d ∙ in_filtered (is_ready h t) (set.items h.commands) d inside) (ready_fresh d r) (ready_behind d r)))
      ] refl
