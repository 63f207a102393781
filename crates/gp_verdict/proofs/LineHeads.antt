-- The first lines of a text.
use Rattle.std.proofs.Common.{◌≡◌, ℕ, ◌+◌, ◌≤◌, ◌<◌, true, false, Bool, List, [], ◌∷◌, ◌++◌, length, take, drop, refl, sym, ap, subst, ◌∙◌, append_assoc, arith}
use Rattle.std.specs.List.{flat_map, onto_first}
use Rattle.std.proofs.Math.Seq.{take-append_seam, drop-append_seam}
use Rattle.std.proofs.lemmas.List.{length-append, append-nil, flat_map_more}
use Rattle.gp_words.specs.Lines.{is_line_feed, lines_of, text_of}
use Rattle.gp_text.specs.declared.limits.TheConstants.{MOST_BYTES}
use Rattle.gp_text.specs.Reading.{holds_limit}
use Rattle.gp_text.proofs.LineSteps.{no_lines}
use Rattle.gp_text.proofs.ShortScripts.{before_limit}
use Rattle.gp_verdict.specs.Parts.{ends_trace, trace_lines, after_trace, short_lines}

-- lines put behind each other
abbrev pub joined : List (List ℕ) → List ℕ
joined lines = flat_map (λ (line : List ℕ). line) lines

-- ---- the first lines are the lines of what they make up

feed_heads : (b : ℕ) (bs : List ℕ) (xs ys : List (List ℕ)) → is_line_feed b ≡ true → ((us vs : List (List ℕ)) → lines_of bs ≡ us ++ vs → lines_of (joined us) ≡ us)
    → (b ∷ []) ∷ lines_of bs ≡ xs ++ ys → lines_of (joined xs) ≡ xs
unfolding lines_of
feed_heads b bs [] ys feed ih e = refl
feed_heads b bs (x ∷ xs) ys feed ih e =
    let first : b ∷ [] ≡ x = cc in
    let others : lines_of bs ≡ xs ++ ys = cc in
    subst (λ (line : List ℕ). lines_of (line ++ joined xs) ≡ line ∷ xs) first (rw feed (ap (λ lines. (b ∷ []) ∷ lines) (ih xs ys others)))

onto_heads : (b : ℕ) (bs : List ℕ) (lines xs ys : List (List ℕ)) → is_line_feed b ≡ false → ((us vs : List (List ℕ)) → lines ≡ us ++ vs → lines_of (joined us) ≡ us)
    → onto_first b lines ≡ xs ++ ys → lines_of (joined xs) ≡ xs
unfolding lines_of
onto_heads b bs lines [] ys free ih e = refl
onto_heads b bs [] (x ∷ []) ys free ih e =
    let first : b ∷ [] ≡ x = cc in
    subst (λ (line : List ℕ). lines_of (line ++ []) ≡ line ∷ []) first (rw free refl)
onto_heads b bs [] (x ∷ z ∷ xs) ys free ih e = absurd cc
onto_heads b bs (line ∷ lines) (x ∷ xs) ys free ih e =
    let first : b ∷ line ≡ x = cc in
    let others : lines ≡ xs ++ ys = cc in
    let same = ih (line ∷ xs) ys (ap (λ (ls : List (List ℕ)). line ∷ ls) others) in
    subst (λ (l : List ℕ). lines_of (l ++ joined xs) ≡ l ∷ xs) first (rw (free, same) refl)

heads_at : (b : ℕ) (bs : List ℕ) (t : Bool) → is_line_feed b ≡ t → ((us vs : List (List ℕ)) → lines_of bs ≡ us ++ vs → lines_of (joined us) ≡ us)
    → (xs ys : List (List ℕ)) → lines_of (b ∷ bs) ≡ xs ++ ys → lines_of (joined xs) ≡ xs
unfolding lines_of
heads_at b bs true is ih xs ys e = feed_heads b bs xs ys is ih (rw is at e)
heads_at b bs false is ih xs ys e = onto_heads b bs (lines_of bs) xs ys is ih (rw is at e)

pub heads_lines : (bs : List ℕ) (xs ys : List (List ℕ)) → lines_of bs ≡ xs ++ ys → lines_of (joined xs) ≡ xs
unfolding lines_of
heads_lines [] [] ys e = refl
heads_lines [] (x ∷ xs) ys e = absurd cc
heads_lines (b ∷ bs) xs ys e = heads_at b bs (is_line_feed b) refl (heads_lines bs) xs ys e

-- ---- going from line to line

-- the first bytes of an input are these lines, and the rest is left
pub record AreHeads (bytes rest : List ℕ) (place lines : ℕ) (heads : List (List ℕ)) : Type 0 where
  pub parts : joined heads ++ rest ≡ bytes
  pub whole : heads ++ lines_of rest ≡ lines_of bytes
  pub place_is : place ≡ length (joined heads)
  pub lines_is : lines ≡ length heads
  pub few : lines ≤ place

pub no_heads : (bytes : List ℕ) → AreHeads bytes bytes 0 0 []
no_heads bytes = record { parts = refl; whole = refl; place_is = refl; lines_is = refl; few = omega arith }

pub more_heads : (bytes rest line after : List ℕ) (place lines : ℕ) (heads : List (List ℕ)) → AreHeads bytes rest place lines heads → rest ≡ line ++ after → 0 < length line → lines_of rest ≡ line ∷ lines_of after
    → AreHeads bytes after (place + length line) (lines + 1) (heads ++ line ∷ [])
more_heads bytes rest line after place lines heads a parts some first =
    let more : joined heads ++ line ≡ joined (heads ++ line ∷ []) = flat_map_more (λ (l : List ℕ). l) [] heads line in
    let p = a.place_is in let n = a.lines_is in let f = a.few in
    let size : length (joined (heads ++ line ∷ [])) ≡ length (joined heads) + length line = ap length (sym more) ∙ length-append (joined heads) line in
    let count = length-append heads (line ∷ []) in
    record {
      parts = ap (λ (t : List ℕ). t ++ after) (sym more) ∙ append_assoc (joined heads) line after ∙ ap (λ (t : List ℕ). joined heads ++ t) (sym parts) ∙ a.parts;
      whole = append_assoc heads (line ∷ []) (lines_of after) ∙ ap (λ (ls : List (List ℕ)). heads ++ ls) (sym first) ∙ a.whole;
      place_is = omega (arith, p, size);
      lines_is = omega (arith, n, count);
      few = omega (arith, f, some);
    }

-- the bytes up to this place are these lines
pub heads_taken : (bytes rest : List ℕ) (place lines : ℕ) (heads : List (List ℕ)) → AreHeads bytes rest place lines heads → take place bytes ≡ joined heads
heads_taken bytes rest place lines heads a =
    ap (λ n. take n bytes) a.place_is ∙ ap (λ bs. take (length (joined heads)) bs) (sym a.parts) ∙ take-append_seam (joined heads) rest

pub rest_left : (bytes rest : List ℕ) (place lines : ℕ) (heads : List (List ℕ)) → AreHeads bytes rest place lines heads → drop place bytes ≡ rest
rest_left bytes rest place lines heads a =
    ap (λ n. drop n bytes) a.place_is ∙ ap (λ bs. drop (length (joined heads)) bs) (sym a.parts) ∙ drop-append_seam (joined heads) rest

pub heads_end : (bytes rest : List ℕ) (place lines : ℕ) (heads : List (List ℕ)) → AreHeads bytes rest place lines heads → lines_of (take place bytes) ≡ heads
heads_end bytes rest place lines heads a = ap lines_of (heads_taken bytes rest place lines heads a) ∙ heads_lines bytes heads (lines_of rest) (sym a.whole)

pub heads_size : (bytes rest : List ℕ) (place lines : ℕ) (heads : List (List ℕ)) → AreHeads bytes rest place lines heads → place + length rest ≡ length bytes
heads_size bytes rest place lines heads a =
    let p = a.place_is in
    let size : length (joined heads) + length rest ≡ length bytes = sym (length-append (joined heads) rest) ∙ ap length a.parts in
    omega (arith, p, size)

-- ---- the lines of a trace

-- these lines are lines of the trace, and it goes on with the rest
pub record TracesOn (bytes rest : List ℕ) (place lines : ℕ) : Type 0 where
  pub heads : List (List ℕ)
  pub are : AreHeads bytes rest place lines heads
  pub trace : heads ++ trace_lines (lines_of rest) ≡ trace_lines (lines_of bytes)
  pub tail : after_trace (lines_of rest) ≡ after_trace (lines_of bytes)

pub traces_on_start : (bytes : List ℕ) → TracesOn bytes bytes 0 0
traces_on_start bytes = record { heads = []; are = no_heads bytes; trace = refl; tail = refl }

pub trace_goes : (line : List ℕ) (lines : List (List ℕ)) → ends_trace (text_of line) ≡ false → trace_lines (line ∷ lines) ≡ line ∷ trace_lines lines
unfolding trace_lines
trace_goes line lines on = rw on refl

pub trace_stops : (line : List ℕ) (lines : List (List ℕ)) → ends_trace (text_of line) ≡ true → trace_lines (line ∷ lines) ≡ []
unfolding trace_lines
trace_stops line lines ends = rw ends refl

pub tail_goes : (line : List ℕ) (lines : List (List ℕ)) → ends_trace (text_of line) ≡ false → after_trace (line ∷ lines) ≡ after_trace lines
unfolding after_trace
tail_goes line lines on = rw on refl

pub tail_stops : (line : List ℕ) (lines : List (List ℕ)) → ends_trace (text_of line) ≡ true → after_trace (line ∷ lines) ≡ line ∷ lines
unfolding after_trace
tail_stops line lines ends = rw ends refl

pub traces_on_more : (bytes rest line after : List ℕ) (place lines : ℕ) → TracesOn bytes rest place lines → rest ≡ line ++ after → 0 < length line → lines_of rest ≡ line ∷ lines_of after → ends_trace (text_of line) ≡ false
    → TracesOn bytes after (place + length line) (lines + 1)
traces_on_more bytes rest line after place lines t parts some first on =
    record {
      heads = t.heads ++ line ∷ [];
      are = more_heads bytes rest line after place lines t.heads t.are parts some first;
      trace = append_assoc t.heads (line ∷ []) (trace_lines (lines_of after))
          ∙ ap (λ (ls : List (List ℕ)). t.heads ++ ls) (sym (ap trace_lines first ∙ trace_goes line (lines_of after) on)) ∙ t.trace;
      tail = sym (ap after_trace first ∙ tail_goes line (lines_of after) on) ∙ t.tail;
    }

-- what the first lines are where none of the trace follows
pub record IsTraceHead (bytes head rest : List ℕ) (lines : ℕ) : Type 0 where
  pub head_is : lines_of head ≡ trace_lines (lines_of bytes)
  pub rest_is : lines_of rest ≡ after_trace (lines_of bytes)
  pub count : lines ≡ length (trace_lines (lines_of bytes))
  pub few : lines + length rest ≤ length bytes

traces_end : (bytes rest : List ℕ) (place lines : ℕ) (t : TracesOn bytes rest place lines) → trace_lines (lines_of rest) ≡ [] → after_trace (lines_of rest) ≡ lines_of rest
    → IsTraceHead bytes (take place bytes) (drop place bytes) lines
traces_end bytes rest place lines t none all =
    let a = t.are in
    let heads : t.heads ≡ trace_lines (lines_of bytes) = sym (append-nil t.heads) ∙ ap (λ (ls : List (List ℕ)). t.heads ++ ls) (sym none) ∙ t.trace in
    let left = rest_left bytes rest place lines t.heads a in
    let size = heads_size bytes rest place lines t.heads a in
    let f = a.few in
    let same = ap length left in
    record {
      head_is = heads_end bytes rest place lines t.heads a ∙ heads;
      rest_is = ap lines_of left ∙ sym all ∙ t.tail;
      count = a.lines_is ∙ ap length heads;
      few = omega (arith, size, f, same);
    }

pub traces_stop : (bytes rest line after : List ℕ) (place lines : ℕ) → TracesOn bytes rest place lines → lines_of rest ≡ line ∷ lines_of after → ends_trace (text_of line) ≡ true
    → IsTraceHead bytes (take place bytes) (drop place bytes) lines
traces_stop bytes rest line after place lines t first ends =
    traces_end bytes rest place lines t (ap trace_lines first ∙ trace_stops line (lines_of after) ends) (ap after_trace first ∙ tail_stops line (lines_of after) ends ∙ sym first)

pub traces_over : (bytes rest : List ℕ) (place lines : ℕ) → TracesOn bytes rest place lines → rest ≡ [] → IsTraceHead bytes (take place bytes) (drop place bytes) lines
unfolding trace_lines after_trace
traces_over bytes rest place lines t over =
    let none = ap lines_of over ∙ no_lines in
    traces_end bytes rest place lines t (ap trace_lines none) (ap after_trace none ∙ sym none)

-- ---- the lines that are not too long

pub record ShortOn (bytes rest : List ℕ) (place lines : ℕ) : Type 0 where
  pub heads : List (List ℕ)
  pub are : AreHeads bytes rest place lines heads
  pub shorts : heads ++ short_lines place (lines_of rest) ≡ short_lines 0 (lines_of bytes)
  pub near : place ≤ MOST_BYTES

pub short_on_start : (bytes : List ℕ) → ShortOn bytes bytes 0 0
short_on_start bytes = record { heads = []; are = no_heads bytes; shorts = refl; near = omega arith }

pub short_goes : (place : ℕ) (line : List ℕ) (lines : List (List ℕ)) → holds_limit place line ≡ false → short_lines place (line ∷ lines) ≡ line ∷ short_lines (place + length line) lines
unfolding short_lines
short_goes place line lines short = rw short refl

pub short_stops : (place : ℕ) (line : List ℕ) (lines : List (List ℕ)) → holds_limit place line ≡ true → short_lines place (line ∷ lines) ≡ []
unfolding short_lines
short_stops place line lines long = rw long refl

pub short_on_more : (bytes rest line after : List ℕ) (place lines : ℕ) → ShortOn bytes rest place lines → rest ≡ line ++ after → 0 < length line → lines_of rest ≡ line ∷ lines_of after → holds_limit place line ≡ false
    → ShortOn bytes after (place + length line) (lines + 1)
short_on_more bytes rest line after place lines s parts some first short =
    record {
      heads = s.heads ++ line ∷ [];
      are = more_heads bytes rest line after place lines s.heads s.are parts some first;
      shorts = append_assoc s.heads (line ∷ []) (short_lines (place + length line) (lines_of after))
          ∙ ap (λ (ls : List (List ℕ)). s.heads ++ ls) (sym (ap (short_lines place) first ∙ short_goes place line (lines_of after) short)) ∙ s.shorts;
      near = before_limit place line s.near short;
    }

pub record IsShortHead (bytes head : List ℕ) (lines : ℕ) : Type 0 where
  pub head_is : lines_of head ≡ short_lines 0 (lines_of bytes)
  pub count : lines ≡ length (short_lines 0 (lines_of bytes))
  pub short : length head ≤ MOST_BYTES
  pub few : lines ≤ length head

shorts_end : (bytes rest : List ℕ) (place lines : ℕ) (s : ShortOn bytes rest place lines) → short_lines place (lines_of rest) ≡ [] → IsShortHead bytes (take place bytes) lines
shorts_end bytes rest place lines s none =
    let a = s.are in
    let heads : s.heads ≡ short_lines 0 (lines_of bytes) = sym (append-nil s.heads) ∙ ap (λ (ls : List (List ℕ)). s.heads ++ ls) (sym none) ∙ s.shorts in
    let size = ap length (heads_taken bytes rest place lines s.heads a) in
    let p = a.place_is in let n = s.near in let f = a.few in
    record {
      head_is = heads_end bytes rest place lines s.heads a ∙ heads;
      count = a.lines_is ∙ ap length heads;
      short = omega (arith, size, p, n);
      few = omega (arith, size, p, f);
    }

pub shorts_stop : (bytes rest line after : List ℕ) (place lines : ℕ) → ShortOn bytes rest place lines → lines_of rest ≡ line ∷ lines_of after → holds_limit place line ≡ true → IsShortHead bytes (take place bytes) lines
shorts_stop bytes rest line after place lines s first long = shorts_end bytes rest place lines s (ap (short_lines place) first ∙ short_stops place line (lines_of after) long)

pub shorts_over : (bytes rest : List ℕ) (place lines : ℕ) → ShortOn bytes rest place lines → rest ≡ [] → IsShortHead bytes (take place bytes) lines
unfolding short_lines
shorts_over bytes rest place lines s over = shorts_end bytes rest place lines s (ap (λ bs. short_lines place (lines_of bs)) over ∙ ap (short_lines place) no_lines)
