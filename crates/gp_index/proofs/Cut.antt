-- The law of prefixes cut at checkpoints.
use Rattle.std.proofs.Common.{◌≡◌, ◌↔◌, ℕ, zero, suc, ◌+◌, ◌<◌, Bool, true, false, not, ◌&&◌, ◌||◌, cond, List, [], ◌∷◌, ◌++◌, length, take, drop, refl, sym, ap, subst, ◌∙◌, arith}
use Rattle.std.specs.List.{list_any}
use Rattle.std.proofs.Math.Seq.{take-append_seam, take-append-add, drop-append-add}
use Rattle.std.proofs.lemmas.Bool.{true≢false}
use Rattle.gp_command.specs.declared.command.Command.{Command}
use Rattle.gp_command.specs.Conflict.{same, conflict, touches_clash}
use Rattle.gp_command.proofs.ConflictLemmas.{same_itself, same_symm, same-true}
use Rattle.gp_history.specs.History.{IsPrefix, has, before}
use Rattle.gp_history.specs.Sequence.{history_of, no_repeat}
use Rattle.gp_history.proofs.Tests.{In, left_of, right_of, one_of, not_true, by_cases, never, any-append}
use Rattle.gp_history.proofs.Sets.{has_history_of, same_history}
use Rattle.gp_history.proofs.Push.{Joins}
use Rattle.gp_history.proofs.Joins.{history_within}
use Rattle.gp_command.proofs.Truth.{iff_true}
use Rattle.gp_index.specs.Epochs.{checkpoints, epoch_start, epoch, behind_epochs, IsCutPrefix}
use Rattle.gp_index.proofs.Parted.{apart, first_part, no_repeat_rest, joined_parts, rests, wholes}

-- ---- checkpoints

pub some_checkpoint : (xs : List Command) (c : Command) → In xs c → c.draft.checkpoint ≡ true → 0 < checkpoints xs
some_checkpoint [] c i m = absurd (true≢false (sym i))
some_checkpoint (x ∷ xs) c i m = one_of (same c x) (list_any (same c) xs) i
    (λ s. let e : checkpoints (x ∷ xs) ≡ suc (checkpoints xs) = ap (λ b. cond b (suc (checkpoints xs)) (checkpoints xs)) (sym (ap (λ (d : Command). d.draft.checkpoint) (same-true c x s)) ∙ m) in omega (arith, e))
    (λ j. more x.draft.checkpoint (some_checkpoint xs c j m)) where
      more : (b : Bool) → 0 < checkpoints xs → 0 < cond b (suc (checkpoints xs)) (checkpoints xs)
      more true h = omega (arith, h)
      more false h = h

-- a command with a checkpoint conflicts with every other
clash : (c p : Command) → p.draft.checkpoint ≡ true → same c p ≡ false → conflict c p ≡ true
unfolding conflict
clash c p m d = (λ i. not (d i) && (c.draft.checkpoint || (m i || list_any (λ t. list_any (touches_clash t) p.draft.foot) c.draft.foot))) ∙ right_of c.draft.checkpoint true refl

-- ---- the first checkpoint

pub record Cut (xs : List Command) : Type 0 where
  pub start : List Command
  pub mark : Command
  pub rest : List Command
  pub is : xs ≡ (start ++ mark ∷ []) ++ rest
  pub marks : mark.draft.checkpoint ≡ true
  pub plain : checkpoints start ≡ 0

pub cut : (xs : List Command) → 0 < checkpoints xs → Cut xs
cut [] h = absurd (omega (arith, h))
cut (x ∷ xs) h = by x.draft.checkpoint refl (cut xs) h where
  by : (b : Bool) → x.draft.checkpoint ≡ b → (0 < checkpoints xs → Cut xs) → 0 < cond b (suc (checkpoints xs)) (checkpoints xs) → Cut (x ∷ xs)
  by true m more h = record { start = []; mark = x; rest = xs; is = refl; marks = m; plain = refl }
  by false m more h =
      let r = more h in
      record { start = x ∷ r.start; mark = r.mark; rest = r.rest; is = ap (λ l. x ∷ l) r.is; marks = r.marks; plain = ap (λ b. cond b (suc (checkpoints r.start)) (checkpoints r.start)) m ∙ r.plain }

plain_first : (b : Bool) (n : ℕ) → cond b (suc n) n ≡ 0 → (b ≡ false) × (n ≡ 0)
plain_first true n e = absurd (omega (arith, e))
plain_first false n e = (refl, e)

start_behind : (e : List Command) (p : Command) (v : List Command) (i : ℕ) → checkpoints e ≡ 0 → p.draft.checkpoint ≡ true → epoch_start ((e ++ p ∷ []) ++ v) (suc i) ≡ length (e ++ p ∷ []) + epoch_start v i
start_behind [] p v i n m = let k : suc (epoch_start v i) ≡ 1 + epoch_start v i = omega arith in ap (λ b. suc (cond b (epoch_start v i) (epoch_start v (suc i)))) m ∙ k
start_behind (x ∷ e) p v i n m =
    let k = plain_first x.draft.checkpoint (checkpoints e) n in
    let r = start_behind e p v i k.1 m in
    let l : suc (length (e ++ p ∷ []) + epoch_start v i) ≡ suc (length (e ++ p ∷ [])) + epoch_start v i = omega arith in
    ap (λ b. suc (cond b (epoch_start ((e ++ p ∷ []) ++ v) i) (epoch_start ((e ++ p ∷ []) ++ v) (suc i)))) k.0 ∙ ap suc r ∙ l

count_behind : (e : List Command) (p : Command) (v : List Command) → checkpoints e ≡ 0 → p.draft.checkpoint ≡ true → checkpoints ((e ++ p ∷ []) ++ v) ≡ suc (checkpoints v)
count_behind [] p v n m = ap (λ b. cond b (suc (checkpoints v)) (checkpoints v)) m
count_behind (x ∷ e) p v n m =
    let k = plain_first x.draft.checkpoint (checkpoints e) n in
    ap (λ b. cond b (suc (checkpoints ((e ++ p ∷ []) ++ v))) (checkpoints ((e ++ p ∷ []) ++ v))) k.0 ∙ count_behind e p v k.1 m

-- ---- epochs behind the first checkpoint

first_epoch : (e : List Command) (p : Command) (v : List Command) → checkpoints e ≡ 0 → p.draft.checkpoint ≡ true → epoch ((e ++ p ∷ []) ++ v) 0 ≡ e ++ p ∷ []
first_epoch e p v n m =
    let u = e ++ p ∷ [] in
    let s : epoch_start (u ++ v) 1 ≡ length u = (let k : length u + 0 ≡ length u = omega arith in start_behind e p v 0 n m ∙ k) in
    ap (λ j. drop 0 (take j (u ++ v))) s ∙ take-append_seam u v

later_epoch : (e : List Command) (p : Command) (v : List Command) (i : ℕ) → checkpoints e ≡ 0 → p.draft.checkpoint ≡ true → epoch ((e ++ p ∷ []) ++ v) (suc i) ≡ epoch v i
later_epoch e p v i n m =
    let u = e ++ p ∷ [] in
    (λ k. drop (start_behind e p v i n m k) (take (start_behind e p v (suc i) n m k) (u ++ v)))
    ∙ ap (drop (length u + epoch_start v i)) (take-append-add u v (epoch_start v (suc i)))
    ∙ drop-append-add u (take (epoch_start v (suc i)) v) (epoch_start v i)

later_rest : (e : List Command) (p : Command) (v : List Command) (i : ℕ) → checkpoints e ≡ 0 → p.draft.checkpoint ≡ true → behind_epochs ((e ++ p ∷ []) ++ v) (suc i) ≡ behind_epochs v i
later_rest e p v i n m = ap (λ j. drop j ((e ++ p ∷ []) ++ v)) (start_behind e p v i n m) ∙ drop-append-add (e ++ p ∷ []) v (epoch_start v i)

-- ---- the start of a prefix

last_in : (e : List Command) (p : Command) → In (e ++ p ∷ []) p
last_in e p = any-append (same p) e (p ∷ []) ∙ right_of (list_any (same p) e) _ (left_of (same p p) false (same_itself p))

-- all of a part that ends with a checkpoint comes before it
before_mark : (e : List Command) (p c : Command) → no_repeat (e ++ p ∷ []) ≡ true → p.draft.checkpoint ≡ true → In e c → before (history_of (e ++ p ∷ [])) c p ≡ true
before_mark e p c n m i =
    let j = joined_parts e (p ∷ []) in
    let other : same c p ≡ false = not_true (same c p) (λ s. apart e (p ∷ []) n p (ap (λ d. list_any (same d) e) (sym (same-true c p s)) ∙ i) (left_of (same p p) false (same_itself p))) in
    j.mixed c p (has_history_of e c ∙ i) (not_true (has (history_of e) p) (λ t. apart e (p ∷ []) n p (sym (has_history_of e p) ∙ t) (left_of (same p p) false (same_itself p)))) (left_of (same p p) false (same_itself p))
    ∙ clash c p m other

in_or_last : (e : List Command) (p c : Command) {P : Type 0} → In (e ++ p ∷ []) c → (In e c → P) → (c ≡ p → P) → P
in_or_last e p c i f g = one_of (list_any (same c) e) (same c p || false) (sym (any-append (same c) e (p ∷ [])) ∙ i) f (λ t. one_of (same c p) false t (λ s. g (same-true c p s)) (λ k. absurd (true≢false (sym k))))

module _ (e f v z : List Command) (p r : Command) (nx : no_repeat ((e ++ p ∷ []) ++ v) ≡ true) (ny : no_repeat ((f ++ r ∷ []) ++ z) ≡ true)
    (mp : p.draft.checkpoint ≡ true) (mr : r.draft.checkpoint ≡ true) (pe : checkpoints e ≡ 0) (pf : checkpoints f ≡ 0)
    (q : IsPrefix (history_of ((e ++ p ∷ []) ++ v)) (history_of ((f ++ r ∷ []) ++ z))) where
  u : List Command
  u = e ++ p ∷ []

  w : List Command
  w = f ++ r ∷ []

  left : Joins (history_of (e ++ p ∷ [])) v (history_of ((e ++ p ∷ []) ++ v))
  left = joined_parts (e ++ p ∷ []) v

  right : Joins (history_of (f ++ r ∷ [])) z (history_of ((f ++ r ∷ []) ++ z))
  right = joined_parts (f ++ r ∷ []) z

  p_in_start : has (history_of (e ++ p ∷ [])) p ≡ true
  p_in_start = has_history_of (e ++ p ∷ []) p ∙ last_in e p

  r_in_start : has (history_of (f ++ r ∷ [])) r ≡ true
  r_in_start = has_history_of (f ++ r ∷ []) r ∙ last_in f r

  p_there : has (history_of ((e ++ p ∷ []) ++ v)) p ≡ true
  p_there = left.commands p ∙ left_of (has (history_of (e ++ p ∷ [])) p) (list_any (same p) v) p_in_start

  -- what comes before the checkpoint in the first comes before it there
  pub start_before : (c : Command) → before (history_of ((e ++ p ∷ []) ++ v)) c p ≡ before (history_of (e ++ p ∷ [])) c p
  start_before c = left.old c p p_in_start

  pub same_mark : p ≡ r
  same_mark = by_cases (same p r) (λ s. same-true p r s) (λ d.
      let not_f : list_any (same p) f ≡ false = not_true (list_any (same p) f) (λ i. let k = some_checkpoint f p i mp in omega (arith, k, pf)) in
      let lacks : has (history_of (f ++ r ∷ [])) p ≡ false = has_history_of (f ++ r ∷ []) p ∙ any-append (same p) f (r ∷ []) ∙ (λ k. not_f k || (d k || false)) in
      let in_z : In z p = one_of (has (history_of (f ++ r ∷ [])) p) (list_any (same p) z) (sym (right.commands p) ∙ q.commands p p_there) (λ t. never (has (history_of (f ++ r ∷ [])) p) t lacks) (λ t. t) in
      let ahead : before (history_of ((f ++ r ∷ []) ++ z)) r p ≡ true = right.mixed r p r_in_start lacks in_z ∙ clash r p mp (same_symm r p ∙ d) in
      let there : has (history_of ((e ++ p ∷ []) ++ v)) r ≡ true = q.closed r p p_there ahead in
      let here : before (history_of (e ++ p ∷ [])) r p ≡ true = sym (start_before r) ∙ q.pairs r p there p_there ∙ ahead in
      in_or_last e p r (sym (has_history_of (e ++ p ∷ []) r) ∙ (history_within (e ++ p ∷ []) r p here).0)
      (λ i. let k = some_checkpoint e r i mr in absurd (omega (arith, k, pe)))
      (λ s. sym s))

module _ (e f v z : List Command) (p : Command) (nx : no_repeat ((e ++ p ∷ []) ++ v) ≡ true) (ny : no_repeat ((f ++ p ∷ []) ++ z) ≡ true)
    (m : p.draft.checkpoint ≡ true) (q : IsPrefix (history_of ((e ++ p ∷ []) ++ v)) (history_of ((f ++ p ∷ []) ++ z))) where
  left' : Joins (history_of (e ++ p ∷ [])) v (history_of ((e ++ p ∷ []) ++ v))
  left' = joined_parts (e ++ p ∷ []) v

  right' : Joins (history_of (f ++ p ∷ [])) z (history_of ((f ++ p ∷ []) ++ z))
  right' = joined_parts (f ++ p ∷ []) z

  in_left : has (history_of (e ++ p ∷ [])) p ≡ true
  in_left = has_history_of (e ++ p ∷ []) p ∙ last_in e p

  in_right : has (history_of (f ++ p ∷ [])) p ≡ true
  in_right = has_history_of (f ++ p ∷ []) p ∙ last_in f p

  whole_left : (c : Command) → has (history_of (e ++ p ∷ [])) c ≡ true → has (history_of ((e ++ p ∷ []) ++ v)) c ≡ true
  whole_left c t = left'.commands c ∙ left_of (has (history_of (e ++ p ∷ [])) c) (list_any (same c) v) t

  to : (c : Command) → has (history_of (e ++ p ∷ [])) c ≡ true → has (history_of (f ++ p ∷ [])) c ≡ true
  to c t = in_or_last e p c (sym (has_history_of (e ++ p ∷ []) c) ∙ t)
      (λ i.
      let here = before_mark e p c (first_part (e ++ p ∷ []) v nx) m i in
      let there = sym (right'.old c p in_right) ∙ sym (q.pairs c p (whole_left c t) (whole_left p in_left)) ∙ left'.old c p in_left ∙ here in
      (history_within (f ++ p ∷ []) c p there).0)
      (λ s. ap (has (history_of (f ++ p ∷ []))) s ∙ in_right)

  from : (c : Command) → has (history_of (f ++ p ∷ [])) c ≡ true → has (history_of (e ++ p ∷ [])) c ≡ true
  from c t = in_or_last f p c (sym (has_history_of (f ++ p ∷ []) c) ∙ t)
      (λ i.
      let there = right'.old c p in_right ∙ before_mark f p c (first_part (f ++ p ∷ []) z ny) m i in
      let has_c = q.closed c p (whole_left p in_left) there in
      let here = sym (left'.old c p in_left) ∙ q.pairs c p has_c (whole_left p in_left) ∙ there in
      (history_within (e ++ p ∷ []) c p here).0)
      (λ s. ap (has (history_of (e ++ p ∷ []))) s ∙ in_left)

  pub same_start : history_of (e ++ p ∷ []) ≡ history_of (f ++ p ∷ [])
  same_start = same_history (history_of (e ++ p ∷ [])) (history_of (f ++ p ∷ [])) commands (λ c d. by_cases (has (history_of (e ++ p ∷ [])) d)
      (λ i. by_cases (has (history_of (e ++ p ∷ [])) c)
      (λ j. sym (left'.old c d i) ∙ q.pairs c d (whole_left c j) (whole_left d i) ∙ right'.old c d (to d i))
      (λ j. none (e ++ p ∷ []) c d j ∙ sym (none (f ++ p ∷ []) c d (sym (commands c) ∙ j))))
      (λ i. nothing (e ++ p ∷ []) c d i ∙ sym (nothing (f ++ p ∷ []) c d (sym (commands d) ∙ i)))) where
        commands : (c : Command) → has (history_of (e ++ p ∷ [])) c ≡ has (history_of (f ++ p ∷ [])) c
        commands c = iff_true (has (history_of (e ++ p ∷ [])) c) (has (history_of (f ++ p ∷ [])) c) (to c) (from c)

        none : (xs : List Command) (c d : Command) → has (history_of xs) c ≡ false → before (history_of xs) c d ≡ false
        none xs c d j = not_true (before (history_of xs) c d) (λ r. never (has (history_of xs) c) (history_within xs c d r).0 j)

        nothing : (xs : List Command) (c d : Command) → has (history_of xs) d ≡ false → before (history_of xs) c d ≡ false
        nothing xs c d j = not_true (before (history_of xs) c d) (λ r. never (has (history_of xs) d) (history_within xs c d r).1 j)

-- ---- the law

abbrev Law : List Command → List Command → Type 0
Law xs ys = no_repeat xs ≡ true → no_repeat ys ≡ true → IsPrefix (history_of xs) (history_of ys) ↔ IsCutPrefix xs ys

no_checkpoint : (xs ys : List Command) → checkpoints xs ≡ 0 → IsPrefix (history_of xs) (history_of ys) ↔ IsCutPrefix xs ys
no_checkpoint xs ys n = (
  (λ q. record {
    enough = omega (arith, n);
    epochs = λ i h. absurd (omega (arith, n, h));
    rest = subst (λ k. IsPrefix (history_of (behind_epochs xs k)) (history_of (behind_epochs ys k))) (sym n) q;
  }),
  (λ a. subst (λ k. IsPrefix (history_of (behind_epochs xs k)) (history_of (behind_epochs ys k))) n a.rest),
)

module _ (e f v z : List Command) (p r : Command) (mp : p.draft.checkpoint ≡ true) (mr : r.draft.checkpoint ≡ true) (pe : checkpoints e ≡ 0) (pf : checkpoints f ≡ 0) where
  counts : (checkpoints ((e ++ p ∷ []) ++ v) ≡ suc (checkpoints v)) × (checkpoints ((f ++ r ∷ []) ++ z) ≡ suc (checkpoints z))
  counts = (count_behind e p v pe mp, count_behind f r z pf mr)

  -- the law of the rests gives that of the wholes, where the starts are equal
  pub more_epochs : history_of (e ++ p ∷ []) ≡ history_of (f ++ r ∷ []) → IsCutPrefix v z → IsCutPrefix ((e ++ p ∷ []) ++ v) ((f ++ r ∷ []) ++ z)
  more_epochs s a = record {
    enough = omega (arith, counts.0, counts.1, a.enough);
    epochs = λ i h. by i h;
    rest = subst (λ n. IsPrefix (history_of (behind_epochs ((e ++ p ∷ []) ++ v) n)) (history_of (behind_epochs ((f ++ r ∷ []) ++ z) n))) (sym counts.0)
        (subst (λ l. IsPrefix (history_of l) (history_of (behind_epochs ((f ++ r ∷ []) ++ z) (suc (checkpoints v))))) (sym (later_rest e p v (checkpoints v) pe mp))
        (subst (λ l. IsPrefix (history_of (behind_epochs v (checkpoints v))) (history_of l)) (sym (later_rest f r z (checkpoints v) pf mr)) a.rest));
  } where
    by : (i : ℕ) → i < checkpoints ((e ++ p ∷ []) ++ v) → history_of (epoch ((e ++ p ∷ []) ++ v) i) ≡ history_of (epoch ((f ++ r ∷ []) ++ z) i)
    by zero h = ap history_of (first_epoch e p v pe mp) ∙ s ∙ ap history_of (sym (first_epoch f r z pf mr))
    by (suc i) h = ap history_of (later_epoch e p v i pe mp) ∙ a.epochs i (omega (arith, h, counts.0)) ∙ ap history_of (sym (later_epoch f r z i pf mr))

  pub less_epochs : IsCutPrefix ((e ++ p ∷ []) ++ v) ((f ++ r ∷ []) ++ z) → (history_of (e ++ p ∷ []) ≡ history_of (f ++ r ∷ [])) × IsCutPrefix v z
  less_epochs a = (
    ap history_of (sym (first_epoch e p v pe mp)) ∙ a.epochs 0 (omega (arith, counts.0)) ∙ ap history_of (first_epoch f r z pf mr),
    record {
      enough = omega (arith, counts.0, counts.1, a.enough);
      epochs = λ i h. ap history_of (sym (later_epoch e p v i pe mp)) ∙ a.epochs (suc i) (omega (arith, h, counts.0)) ∙ ap history_of (later_epoch f r z i pf mr);
      rest = subst (λ l. IsPrefix (history_of (behind_epochs v (checkpoints v))) (history_of l)) (later_rest f r z (checkpoints v) pf mr)
          (subst (λ l. IsPrefix (history_of l) (history_of (behind_epochs ((f ++ r ∷ []) ++ z) (suc (checkpoints v))))) (later_rest e p v (checkpoints v) pe mp)
          (subst (λ n. IsPrefix (history_of (behind_epochs ((e ++ p ∷ []) ++ v) n)) (history_of (behind_epochs ((f ++ r ∷ []) ++ z) n))) counts.0 a.rest));
    },
  )

  pub parted_law : Law v z → no_repeat ((e ++ p ∷ []) ++ v) ≡ true → no_repeat ((f ++ r ∷ []) ++ z) ≡ true → IsPrefix (history_of ((e ++ p ∷ []) ++ v)) (history_of ((f ++ r ∷ []) ++ z)) ↔ IsCutPrefix ((e ++ p ∷ []) ++ v) ((f ++ r ∷ []) ++ z)
  parted_law law nx ny =
      let rx = no_repeat_rest (e ++ p ∷ []) v nx in
      let ry = no_repeat_rest (f ++ r ∷ []) z ny in (
        (λ q.
            let alike : history_of (e ++ p ∷ []) ≡ history_of (f ++ r ∷ []) =
            (let is = same_mark e f v z p r nx ny mp mr pe pf q in
            same_start e f v z p nx (subst (λ c. no_repeat ((f ++ c ∷ []) ++ z) ≡ true) (sym is) ny) mp (subst (λ c. IsPrefix (history_of ((e ++ p ∷ []) ++ v)) (history_of ((f ++ c ∷ []) ++ z))) (sym is) q)
            ∙ ap (λ c. history_of (f ++ c ∷ [])) is) in
            more_epochs alike ((law rx ry).0 (rests (e ++ p ∷ []) v (f ++ r ∷ []) z alike nx ny q))),
        (λ a. let l = less_epochs a in wholes (e ++ p ∷ []) v (f ++ r ∷ []) z l.0 nx ny ((law rx ry).1 l.1)),
      )

parted : (xs ys : List Command) (x : Cut xs) (y : Cut ys) → Law x.rest y.rest → Law xs ys
parted xs ys x y law =
    subst (λ l. Law l ys) (sym x.is)
    (subst (λ l. Law ((x.start ++ x.mark ∷ []) ++ x.rest) l) (sym y.is)
    (parted_law x.start y.start x.rest y.rest x.mark y.mark x.marks y.marks x.plain y.plain law))

rest_count : (xs : List Command) (x : Cut xs) (n : ℕ) → checkpoints xs ≡ suc n → checkpoints x.rest ≡ n
rest_count xs x n e = let k : suc (checkpoints x.rest) ≡ suc n = sym (count_behind x.start x.mark x.rest x.plain x.marks) ∙ ap checkpoints (sym x.is) ∙ e in omega (arith, k)

mark_in : (xs : List Command) (x : Cut xs) → In xs x.mark
mark_in xs x = ap (λ l. list_any (same x.mark) l) x.is ∙ any-append (same x.mark) (x.start ++ x.mark ∷ []) x.rest ∙ left_of (list_any (same x.mark) (x.start ++ x.mark ∷ [])) _ (last_in x.start x.mark)

law_for : (n : ℕ) (xs ys : List Command) → checkpoints xs ≡ n → Law xs ys
law_for zero xs ys e nx ny = no_checkpoint xs ys e
law_for (suc n) xs ys e nx ny = (
  (λ q.
      let y = cut ys (some_checkpoint ys x.mark (sym (has_history_of ys x.mark) ∙ q.commands x.mark (has_history_of xs x.mark ∙ mark_in xs x)) x.marks) in
      (parted xs ys x y (law_for n x.rest y.rest (rest_count xs x n e)) nx ny).0 q),
  (λ a. let y = cut ys (omega (arith, e, a.enough)) in (parted xs ys x y (law_for n x.rest y.rest (rest_count xs x n e)) nx ny).1 a),
) where
  x : Cut xs
  x = cut xs (omega (arith, e))

-- a sequence without repeats stands for a prefix of another exactly where it does so epoch by epoch
pub cut_law : (xs ys : List Command) → no_repeat xs ≡ true → no_repeat ys ≡ true → IsPrefix (history_of xs) (history_of ys) ↔ IsCutPrefix xs ys
cut_law xs ys nx ny = law_for (checkpoints xs) xs ys refl nx ny
