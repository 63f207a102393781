-- In a history without a cycle something is ready as long as something is left.
use Rattle.std.proofs.Common.{◌≡◌, Bool, true, false, not, List, [], ◌∷◌, ◌++◌, sym, ap, ◌∙◌}
use Rattle.std.specs.Prelude.{filter}
use Rattle.std.specs.List.{list_any}
use Rattle.std.specs.FinSet as set
use Rattle.std.proofs.lemmas.Bool.{true≢false}
use Rattle.gp_command.specs.declared.command.Command.{Command}
use Rattle.gp_command.specs.Conflict.{same}
use Rattle.gp_command.proofs.ConflictLemmas.{same-true, same_itself}
use Rattle.gp_history.specs.History.{History, IsHistory, has, before, leads}
use Rattle.gp_history.specs.Sequence.{history_of, no_repeat}
use Rattle.gp_history.specs.Canonical.{canonical, is_ready}
use Rattle.gp_history.proofs.Tests.{In, both, fst_of, snd_of, left_of, right_of, one_of, by_cases, all_from}
use Rattle.gp_history.proofs.Meet.{in_filter, from_filter, in_items}
use Rattle.gp_history.proofs.Canonical.{Progresses, in_filtered, history_of-canonical, canonical-distinct}

module _ (h : History) (w : IsHistory h) where
  -- some way leads from the one to the other
  abbrev Leads : Command → Command → Type 0
  Leads c d = (path : List Command) × (leads h c path d ≡ true)

  leads-append : (c : Command) (p : List Command) (x : Command) (q : List Command) (d : Command) → leads h c p x ≡ true → leads h x q d ≡ true → leads h c (p ++ x ∷ q) d ≡ true
  leads-append c [] x q d a b = both a b
  leads-append c (y ∷ p) x q d a b = both (fst_of (before h c y) _ a) (leads-append y p x q d (snd_of (before h c y) _ a) b)

  goes_on : (c x d : Command) → Leads c x → Leads x d → Leads c d
  goes_on c x d a b = (a.0 ++ x ∷ b.0, leads-append c a.0 x b.0 d a.1 b.1)

  no_cycle : (c : Command) → Leads c c → ⊥
  no_cycle c a = true≢false (sym a.1 ∙ w.acyclic c a.0)

  -- among some commands there is one to which no other leads
  first_exists : (xs : List Command) (c : Command) → In xs c → ((m : Command) → In xs m → ((y : Command) → In xs y → Leads y m → ⊥) → ⊥) → ⊥
  first_exists [] c i k = true≢false (sym i)
  first_exists (x ∷ []) c i k = k x (left_of (same x x) false (same_itself x)) (λ y j r. one_of (same y x) false j (λ s. no_cycle x (moved y x (same-true y x s) r)) (λ f. true≢false (sym f))) where
    moved : (y x : Command) → y ≡ x → Leads y x → Leads x x
    moved y x e r = (r.0, ap (λ z. leads h z r.0 x) (sym e) ∙ r.1)
  first_exists (x ∷ (z ∷ zs)) c i k = first_exists (z ∷ zs) z (left_of (same z z) _ (same_itself z)) (λ m j least.
      let not_x : Leads x m → ⊥ = λ r. k x (left_of (same x x) _ (same_itself x)) (λ y l s. one_of (same y x) _ l
      (λ e. no_cycle x (s.0, ap (λ u. leads h u s.0 x) (sym (same-true y x e)) ∙ s.1))
      (λ n. least y n (goes_on y x m s r))) in
      k m (right_of (same m x) _ j) (λ y l s. one_of (same y x) _ l
      (λ e. not_x (s.0, ap (λ u. leads h u s.0 m) (sym (same-true y x e)) ∙ s.1))
      (λ n. least y n s)))

  some_passes : (p : Command → Bool) (xs : List Command) → list_any p xs ≡ true → (d : Command) × (In xs d) × (p d ≡ true)
  some_passes p [] t = absurd (true≢false (sym t))
  some_passes p (x ∷ xs) t = one_of (p x) (list_any p xs) t
      (λ e. (x, left_of (same x x) _ (same_itself x), e))
      (λ m. let f = some_passes p xs m in (f.0, right_of (same f.0 x) _ f.1, f.2))

  passes_of : (p : Command → Bool) (xs : List Command) (d : Command) → In xs d → p d ≡ true → list_any p xs ≡ true
  passes_of p [] d i e = absurd (true≢false (sym i))
  passes_of p (x ∷ xs) d i e = one_of (same d x) _ i
      (λ s. left_of (p x) _ (ap p (sym (same-true d x s)) ∙ e))
      (λ m. right_of (p x) _ (passes_of p xs d m e))

  pub progresses : Progresses h
  progresses t wt a c p n =
      let items = set.items h.commands in
      let found : list_any (is_ready h t) items ≡ true = by_cases (list_any (is_ready h t) items) (λ e. e) (λ e.
      absurd (first_exists (filter (λ x. not (has t x)) items) c (in_filter (λ x. not (has t x)) items c (sym (in_items h c) ∙ p) (ap not n)) (λ m i least.
      let free : not (has t m) ≡ true = from_filter (λ x. not (has t x)) items m i in
      let listed = in_filtered (λ x. not (has t x)) items m i in
      let ready : is_ready h t m ≡ true = both free (all_from _ items (λ d j. by_cases (before h d m)
      (λ r. right_of (not (before h d m)) (has t d) (by_cases (has t d) (λ k. k) (λ k.
      absurd (least d (in_filter (λ x. not (has t x)) items d j (ap not k)) ([], r)))))
      (λ r. left_of (not (before h d m)) (has t d) (ap not r)))) in
      true≢false (sym (passes_of (is_ready h t) items m listed ready) ∙ e)))) in
      let f = some_passes (is_ready h t) items found in
      (f.0, in_items h f.0 ∙ f.1, f.2)

  -- each history is that of its canonical sequence
  pub canonical_is : history_of (canonical h) ≡ h
  canonical_is = history_of-canonical h w progresses

  pub canonical_no_repeat : no_repeat (canonical h) ≡ true
  canonical_no_repeat = canonical-distinct h w progresses
