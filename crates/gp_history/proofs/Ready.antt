-- What is ready, by the walk.
use Rattle.std.proofs.Common.{◌≡◌, ℕ, ◌+◌, Bool, true, false, not, ◌&&◌, ◌||◌, cond, List, [], ◌∷◌, take, Some, None, refl, sym, ap, ◌∙◌}
use Rattle.std.specs.Prelude.{Option, filter, slice_get}
use Rattle.std.specs.declared.cmp.Ordering.{Ordering}
use Rattle.std.specs.declared.cmp.Ordering.TheVariants.{Equal, Less, Greater}
use Rattle.std.specs.Ordering.{is_gt, is_lt}
use Rattle.std.specs.List.{list_any, list_all}
use Rattle.std.proofs.lemmas.Bool.{true≢false}
use Rattle.gp_command.specs.declared.command.Command.{Command}
use Rattle.gp_command.specs.Conflict.{same}
use Rattle.gp_command.specs.Order.{command_cmp}
use Rattle.gp_command.proofs.Ties.{tied_command}
use Rattle.gp_command.proofs.ConflictLemmas.{same_itself}
use Rattle.gp_history.specs.History.{has, before}
use Rattle.gp_history.specs.Sequence.{history_of}
use Rattle.gp_history.specs.Canonical.{is_ready, least, lesser}
use Rattle.gp_history.specs.Walks.{behind, is_less}
use Rattle.gp_history.proofs.Tests.{In, fst_of, left_of, right_of, not_true, all_gives, all_from}
use Rattle.gp_history.proofs.Sets.{has_history_of}
use Rattle.gp_history.proofs.Places.{take_next, starts}
use Rattle.gp_history.proofs.Least.{ready_of, least_push}

pub ready_is : (xs ts : List Command) (c : Command) → is_ready (history_of xs) (history_of ts) c ≡ (not (has (history_of ts) c) && list_all (behind (history_of xs) (history_of xs) (history_of ts) c) xs)
ready_is xs ts c = ready_of xs (history_of ts) c ∙ ap (λ b. not (has (history_of ts) c) && b) (λ i. list_all (λ d. one (before (history_of xs) d c) (has (history_of ts) d) i) xs) where
  one : (a b : Bool) → (not a || b) ≡ (not a || (b && a))
  one true true = refl
  one true false = refl
  one false b = refl

pub taken_start : (xs ts : List Command) (n : ℕ) → take n xs ≡ take n ts → list_all (has (history_of ts)) (take n xs) ≡ true
taken_start xs ts n e = all_from (has (history_of ts)) (take n xs) (λ c i. has_history_of ts c ∙ (starts ts n c (ap (λ zs. list_any (same c) zs) (sym e) ∙ i)).there)

-- nothing that was taken is ready
pub none_ready : (xs ts : List Command) (n : ℕ) → take n xs ≡ take n ts → None ≡ least (filter (is_ready (history_of xs) (history_of ts)) (take n xs))
none_ready xs ts n e = sym (ap least (dropped (take n xs) (λ c i. not_true (is_ready (history_of xs) (history_of ts) c) (λ r.
    let t = all_gives (has (history_of ts)) (take n xs) c (taken_start xs ts n e) i in
    true≢false (sym (fst_of (not (has (history_of ts) c)) _ r) ∙ ap not t))))) where
      dropped : (zs : List Command) → ((c : Command) → In zs c → is_ready (history_of xs) (history_of ts) c ≡ false) → filter (is_ready (history_of xs) (history_of ts)) zs ≡ []
      dropped [] f = refl
      dropped (z ∷ zs) f =
          let k = f z (left_of (same z z) (list_any (same z) zs) (same_itself z)) in
          rw k (dropped zs (λ c i. f c (right_of (same c z) (list_any (same c) zs) i)))

pub least_step : (p : Command → Bool) (xs : List Command) (i : ℕ) (c : Command) → slice_get xs i ≡ Some c → least (filter p (take (i + 1) xs)) ≡ cond (p c) (Some (lesser c (least (filter p (take i xs))))) (least (filter p (take i xs)))
least_step p xs i c at = ap (λ zs. least (filter p zs)) (take_next xs i c at) ∙ least_push p (take i xs) c

-- a command that is not less than the best so far changes nothing
pub passed_over : (c : Command) (best : Option Command) → is_less c best ≡ false → Some (lesser c best) ≡ best
passed_over c None e = absurd (true≢false e)
passed_over c (Some b) e = by_order (command_cmp c b) refl e where
  by_order : (r : Ordering) → command_cmp c b ≡ r → is_lt r ≡ false → Some (cond (is_gt (command_cmp c b)) b c) ≡ Some b
  by_order Less k e = absurd (true≢false e)
  by_order Equal k e = ap (λ (r : Ordering). Some (cond (is_gt r) b c)) k ∙ ap Some (tied_command c b k)
  by_order Greater k e = ap (λ (r : Ordering). Some (cond (is_gt r) b c)) k

pub taken_up : (c : Command) (best : Option Command) → is_less c best ≡ true → lesser c best ≡ c
taken_up c None e = refl
taken_up c (Some b) e = by_order (command_cmp c b) refl e where
  by_order : (r : Ordering) → command_cmp c b ≡ r → is_lt r ≡ true → cond (is_gt (command_cmp c b)) b c ≡ c
  by_order Less k e = ap (λ (r : Ordering). cond (is_gt r) b c) k
  by_order Equal k e = absurd (true≢false (sym e))
  by_order Greater k e = absurd (true≢false (sym e))
