-- How many commands two histories have.
use Rattle.std.proofs.Common.{◌≡◌, ◌↔◌, subst, suc, ◌≤◌, Bool, true, false, not, cond, List, [], ◌∷◌, length, refl, sym, ap, ◌∙◌, arith}
use Rattle.std.specs.List.{list_any}
use Rattle.std.proofs.lemmas.Bool.{true≢false}
use Rattle.gp_command.specs.declared.command.Command.{Command}
use Rattle.gp_command.specs.Conflict.{same}
use Rattle.gp_command.proofs.ConflictLemmas.{same-true, same_itself}
use Rattle.gp_history.specs.History.{History, IsHistory, IsPrefix, has, size}
use Rattle.gp_history.specs.Sequence.{history_of, no_repeat}
use Rattle.gp_history.specs.Canonical.{canonical}
use Rattle.gp_history.proofs.Tests.{In, both, fst_of, snd_of, left_of, right_of, one_of, not_true, by_cases, never}
use Rattle.gp_history.proofs.Sets.{has_history_of}
use Rattle.gp_history.proofs.Size.{size_of_sequence}
use Rattle.gp_history.proofs.Prefix.{prefix_refl, prefix_antisymm}
use Rattle.gp_history.proofs.Joins.{history_of_is}
use Rattle.gp_history.proofs.Acyclic.{canonical_is, canonical_no_repeat}

-- without the first place that has it
abbrev without : Command → List Command → List Command
without c [] = []
without c (x ∷ xs) = cond (same c x) xs (x ∷ without c xs)

shorter : (c : Command) (xs : List Command) → In xs c → length xs ≡ suc (length (without c xs))
shorter c [] i = absurd (true≢false (sym i))
shorter c (x ∷ xs) i = by_cases (same c x)
    (λ s. rw s refl)
    (λ s. rw s (ap suc (shorter c xs (one_of (same c x) (list_any (same c) xs) i (λ t. never (same c x) t s) (λ m. m)))))

stays_in : (c d : Command) (xs : List Command) → same d c ≡ false → In xs d → In (without c xs) d
stays_in c d [] f i = i
stays_in c d (x ∷ xs) f i = by_cases (same c x)
    (λ s. rw s (one_of (same d x) (list_any (same d) xs) i (λ t. never (same d c) (ap (same d) (same-true c x s) ∙ t) f) (λ m. m)))
    (λ s. rw s (one_of (same d x) (list_any (same d) xs) i (λ t. left_of (same d x) _ t) (λ m. right_of (same d x) _ (stays_in c d xs f m))))

pub no_longer_lists : (xs ys : List Command) → no_repeat xs ≡ true → ((c : Command) → In xs c → In ys c) → length xs ≤ length ys
no_longer_lists [] ys n f = omega arith
no_longer_lists (x ∷ xs) ys n f =
    let fresh : list_any (same x) xs ≡ false = turned (list_any (same x) xs) (fst_of (not (list_any (same x) xs)) (no_repeat xs) n) in
    let here : In ys x = f x (left_of (same x x) _ (itself x)) in
    let rest = no_longer_lists xs (without x ys) (snd_of (not (list_any (same x) xs)) (no_repeat xs) n)
    (λ c i. stays_in x c ys (not_true (same c x) (λ s. never (list_any (same x) xs) (ap (λ z. list_any (same z) xs) (sym (same-true c x s)) ∙ i) fresh)) (f c (right_of (same c x) _ i))) in
    let one = shorter x ys here in
    omega (arith, rest, one) where
      turned : (b : Bool) → not b ≡ true → b ≡ false
      turned true h = absurd (true≢false (sym h))
      turned false h = refl

      itself : (c : Command) → same c c ≡ true
      itself = same_itself

sized : (h : History) → IsHistory h → size h ≡ length (canonical h)
sized h w = ap size (sym (canonical_is h w)) ∙ size_of_sequence (canonical h) (canonical_no_repeat h w)

listed : (h : History) → IsHistory h → (c : Command) → has h c ≡ list_any (same c) (canonical h)
listed h w c = ap (λ u. has u c) (sym (canonical_is h w)) ∙ has_history_of (canonical h) c

-- a prefix with no fewer commands has all of them
pub whole_prefix : (h k : History) → IsHistory h → IsHistory k → IsPrefix h k → size k ≤ size h → IsPrefix k h
whole_prefix h k wh wk p le = record {
  commands = commands;
  pairs = λ c d a b. sym (p.pairs c d (commands c a) (commands d b));
  closed = λ c d a r. p.commands c (wh.within c d r).0;
} where
  commands : (c : Command) → has k c ≡ true → has h c ≡ true
  commands c q = by_cases (has h c) (λ t. t) (λ f.
      let fresh : list_any (same c) (canonical h) ≡ false = sym (listed h wh c) ∙ f in
      let more = no_longer_lists (c ∷ canonical h) (canonical k) (both (ap not fresh) (canonical_no_repeat h wh))
      (λ d i. one_of (same d c) (list_any (same d) (canonical h)) i
      (λ s. sym (listed k wk d) ∙ ap (has k) (same-true d c s) ∙ q)
      (λ m. sym (listed k wk d) ∙ p.commands d (listed h wh d ∙ m))) in
      let x = sized h wh in let y = sized k wk in
      absurd (omega (arith, more, x, y, le)))

-- sequences of one length, the one's history a prefix of the other's, stand for one history
pub same_if_prefix : (xs ys : List Command) → no_repeat xs ≡ true → no_repeat ys ≡ true → ((length xs ≡ length ys) × IsPrefix (history_of xs) (history_of ys)) ↔ (history_of xs ≡ history_of ys)
same_if_prefix xs ys n m = (
  (λ p.
      let x = size_of_sequence xs n in let y = size_of_sequence ys m in let e = p.0 in
      let wh = history_of_is xs in let wk = history_of_is ys in
      prefix_antisymm (history_of xs) (history_of ys) wh wk p.1 (whole_prefix (history_of xs) (history_of ys) wh wk p.1 (omega (arith, x, y, e)))),
  (λ e. (
    sym (size_of_sequence xs n) ∙ ap size e ∙ size_of_sequence ys m,
    subst (IsPrefix (history_of xs)) e (prefix_refl (history_of xs) (history_of_is xs)),
  )),
)
