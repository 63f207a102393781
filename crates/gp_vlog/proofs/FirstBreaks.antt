-- The place that a reading answers is the smallest at which the bytes break the format.
use Rattle.std.proofs.Common.{◌≡◌, ◌≢◌, ℕ, zero, suc, ◌+◌, ◌-◌, ◌<◌, ◌≤◌, ◌⊎◌, Bool, true, false, cond, List, [], ◌∷◌, ◌++◌, length, get_or, take, drop, Option, Some, None, Result, Ok, Err, refl, sym, ap, ◌∙◌, subst, inl, inr, arith}
use Rattle.std.specs.Prelude.{◌&&◌, nat_eq, nat_le, nat_lt}
use Rattle.std.specs.Int.{w32, from_le_bytes}
use Rattle.std.proofs.lemmas.Bool.{eqb-true, eq-eqb, lt-ltb, lt-leb, true≢false, cases_lt}
use Rattle.std.proofs.lemmas.List.{get_or-drop, drop_at, take_at, drop-drop, drop_more, drop_all, length-drop}
use Rattle.gp_memory.specs.Results.{◌>>=◌}
use Rattle.gp_vlog.specs.Bodies.{LogEntry, entry_of}
use Rattle.gp_vlog.specs.Gates.{length_at, meant_by, opened, with_first, area}
use Rattle.gp_vlog.specs.Files.{expect, magic, zeros, is_limit, limit_at, byte_at, is_second, Head, head_of, first_gate, Contents, contents_of, area_of, read_log}
use Rattle.gp_vlog.specs.Breaks.{limit_in, area_start, area_bytes, IsOpen, next_gate, IsWhole, LeadsTo, IsBroken, HasArea, Breaks, Ended, WrongName, WrongLimit, NotZero, NoGate, NoEntry, IsFirstBreak}
use Rattle.gp_vlog.proofs.Areas.{Holds, opened_holds, area_step, area_closed}
use Rattle.gp_vlog.proofs.AreaLoop.{at_end, broken_gate}
use Rattle.gp_vlog.proofs.Heads.{expect_takes, limit_takes, byte_takes, after_unused, after_switch, after_limit, head_stands, head_with, Marks}

-- ---- a step of a reading, and what breaks it

-- the place that is answered is the smallest that P has
pub record Finds {A : Type 0} (r : Result A ℕ) (P : ℕ → Type 0) : Type 0 where
  pub gives : (p : ℕ) → r ≡ Err p → P p
  pub first : (q : ℕ) → P q → (p : ℕ) × (r ≡ Err p) × (p ≤ q)

finds_as : {A : Type 0} (r : Result A ℕ) (P Q : ℕ → Type 0) → ((p : ℕ) → P p → Q p) → ((p : ℕ) → Q p → P p) → Finds r P → Finds r Q
finds_as r P Q there back f = record { gives = λ p e. there p (f.gives p e); first = λ q k. f.first q (back q k) }

not_err : {A : Type 0} (x : A) (p : ℕ) → ◌≡◌ {A = Result A ℕ} (Ok x) (Err p) → ⊥
not_err x p e = absurd cc

finds_then : {A B : Type 0} (r : Result A ℕ) (f : A → Result B ℕ) (P Q : ℕ → Type 0) → Finds r P → ((x : A) → r ≡ Ok x → Finds (f x) Q) → ((p q : ℕ) → P p → Q q → p ≤ q) → Finds (r >>= f) (λ q. P q ⊎ Q q)
finds_then (Ok x) f P Q one rest order = record {
  gives = λ p e. inr ((rest x refl).gives p e);
  first = λ q k. elim k [
    | inl here ↦ let found = one.first q here in absurd (not_err x found.0 found.1)
    | inr there ↦ (rest x refl).first q there
  ];
}
finds_then (Err d) f P Q one rest order = record {
  gives = λ p e. let same : d ≡ p = cc in inl (subst P same (one.gives d refl));
  first = λ q k. elim k [
    | inl here ↦ let found = one.first q here in let same : d ≡ found.0 = cc in (found.0, ap (λ n. Err n) same, found.2)
    | inr there ↦ (d, refl, order d q (one.gives d refl) there)
  ];
}

-- it always answers
finds_none : {A : Type 0} (x : A) → Finds (Ok x) (λ p. ⊥)
finds_none x = record { gives = λ p e. absurd cc; first = λ q k. absurd k }

-- ---- the header

-- the bytes lack the k-th of the wanted ones
record Lacks (ws bytes : List ℕ) (k : ℕ) : Type 0 where
  pub wanted : k < length ws
  pub why : (length bytes ≤ k) ⊎ ((k < length bytes) × (get_or bytes k 0 ≢ get_or ws k 0))

abbrev LacksFrom : List ℕ → ℕ → List ℕ → ℕ → Type 0
LacksFrom ws at bytes p = (k : ℕ) × (p ≡ at + k) × Lacks ws bytes k

lacks_more : (w : ℕ) (ws : List ℕ) (b : ℕ) (bytes : List ℕ) (k : ℕ) → Lacks ws bytes k → Lacks (w ∷ ws) (b ∷ bytes) (suc k)
lacks_more w ws b bytes k l = record {
  wanted = let lt = l.wanted in omega arith;
  why = elim l.why [
    | inl ended ↦ inl (omega arith)
    | inr other ↦ inr (let lt = other.0 in omega arith, other.1)
  ];
}

lacks_less : (w : ℕ) (ws : List ℕ) (b : ℕ) (bytes : List ℕ) (k : ℕ) → Lacks (w ∷ ws) (b ∷ bytes) (suc k) → Lacks ws bytes k
lacks_less w ws b bytes k l = record {
  wanted = let lt = l.wanted in omega arith;
  why = elim l.why [
    | inl ended ↦ inl (omega arith)
    | inr other ↦ inr (let lt = other.0 in omega arith, other.1)
  ];
}

expect_finds : (ws : List ℕ) (at : ℕ) (bytes : List ℕ) → Finds (expect ws at bytes) (LacksFrom ws at bytes)
expect_finds [] at bytes = record { gives = λ p e. absurd cc; first = λ q k. let lt = k.2.wanted in absurd (omega arith) }
expect_finds (w ∷ ws) at [] = record {
  gives = λ p e. let same : at ≡ p = cc in (0, omega arith, record { wanted = omega arith; why = inl (omega arith) });
  first = λ q k. let is = k.1 in (at, refl, omega arith);
}
expect_finds (w ∷ ws) at (b ∷ bytes) = chosen (nat_eq b w) refl (expect_finds ws (suc at) bytes)
  where
    chosen : (t : Bool) → nat_eq b w ≡ t → Finds (expect ws (suc at) bytes) (LacksFrom ws (suc at) bytes) → Finds (cond t (expect ws (suc at) bytes) (Err at)) (LacksFrom (w ∷ ws) at (b ∷ bytes))
    chosen true is more = record {
      gives = λ p e. let k = more.gives p e in let place = k.1 in (suc k.0, omega arith, lacks_more w ws b bytes k.0 k.2);
      first = λ q k. passed q k.0 k.1 k.2 (eqb-true b w is) more;
    }
      where
        passed : (q k : ℕ) → q ≡ at + k → Lacks (w ∷ ws) (b ∷ bytes) k → b ≡ w → Finds (expect ws (suc at) bytes) (LacksFrom ws (suc at) bytes) → (p : ℕ) × (expect ws (suc at) bytes ≡ Err p) × (p ≤ q)
        passed q zero place l same more = elim l.why [
          | inl ended ↦ absurd (omega arith)
          | inr other ↦ absurd (other.1 same)
        ]
        passed q (suc k) place l same more = more.first q (k, omega arith, lacks_less w ws b bytes k l)
    chosen false is more = record {
      gives = λ p e. let same : at ≡ p = cc in (0, omega arith, record { wanted = omega arith; why = inr (omega arith, λ s. differ b w s is) });
      first = λ q k. let place = k.1 in (at, refl, omega arith);
    }
      where
        differ : (b w : ℕ) → b ≡ w → nat_eq b w ≡ false → ⊥
        differ b w s is = true≢false (sym (eq-eqb b w s) ∙ is)

-- the bytes from place 8 on have no right limit
abbrev NoLimit : (ℕ → Bool) → List ℕ → ℕ → Type 0
NoLimit in_range bytes p = ((8 ≤ p) × (p < 12) × (8 + length bytes ≤ p)) ⊎ ((p ≡ 8) × (4 ≤ length bytes) × (in_range (from_le_bytes w32 (take 4 bytes)) ≡ false))

limit_ended : (in_range : ℕ → Bool) (bytes : List ℕ) → length bytes < 4 → limit_at in_range bytes ≡ Err (8 + length bytes) → Finds (limit_at in_range bytes) (NoLimit in_range bytes)
limit_ended in_range bytes short is = record {
  gives = λ p e. let err : Err (8 + length bytes) ≡ Err p = sym is ∙ e in let same : 8 + length bytes ≡ p = cc in inl (omega arith, omega arith, omega arith);
  first = λ q k. elim k [
    | inl ended ↦ let le = ended.2 in (8 + length bytes, is, omega arith)
    | inr out ↦ let le = out.1 in absurd (omega arith)
  ];
}

limit_finds : (in_range : ℕ → Bool) (bytes : List ℕ) → Finds (limit_at in_range bytes) (NoLimit in_range bytes)
limit_finds in_range [] = limit_ended in_range [] (omega arith) refl
limit_finds in_range (a ∷ []) = limit_ended in_range (a ∷ []) (omega arith) refl
limit_finds in_range (a ∷ b ∷ []) = limit_ended in_range (a ∷ b ∷ []) (omega arith) refl
limit_finds in_range (a ∷ b ∷ c ∷ []) = limit_ended in_range (a ∷ b ∷ c ∷ []) (omega arith) refl
limit_finds in_range (a ∷ b ∷ c ∷ d ∷ rest) = chosen (in_range (from_le_bytes w32 (a ∷ b ∷ c ∷ d ∷ []))) refl
  where
    chosen : (t : Bool) → in_range (from_le_bytes w32 (a ∷ b ∷ c ∷ d ∷ [])) ≡ t → Finds (cond {A = Result (ℕ × List ℕ) ℕ} t (Ok (from_le_bytes w32 (a ∷ b ∷ c ∷ d ∷ []), rest)) (Err 8)) (NoLimit in_range (a ∷ b ∷ c ∷ d ∷ rest))
    chosen true is = record {
      gives = λ p e. absurd cc;
      first = λ q k. elim k [
        | inl ended ↦ let le = ended.2 in let lt = ended.1 in absurd (omega arith)
        | inr out ↦ absurd (both _ is out.2)
      ];
    }
      where
        both : (t : Bool) → t ≡ true → t ≡ false → ⊥
        both t is_true is_false = true≢false (sym is_true ∙ is_false)
    chosen false is = record {
      gives = λ p e. let same : 8 ≡ p = cc in inr (omega arith, omega arith, is);
      first = λ q k. elim k [
        | inl ended ↦ let le = ended.0 in (8, refl, omega arith)
        | inr out ↦ let place = out.0 in (8, refl, omega arith)
      ];
    }

abbrev NoByte : ℕ → List ℕ → ℕ → Type 0
NoByte at bytes p = (p ≡ at) × (length bytes ≤ 0)

byte_finds : (at : ℕ) (bytes : List ℕ) → Finds (byte_at at bytes) (NoByte at bytes)
byte_finds at [] = record {
  gives = λ p e. let same : at ≡ p = cc in (sym same, omega arith);
  first = λ q k. let place = k.0 in (at, refl, omega arith);
}
byte_finds at (b ∷ bytes) = record { gives = λ p e. absurd cc; first = λ q k. let le = k.1 in absurd (omega arith) }

-- ---- the header, as a whole

-- what is read of the bytes before is right, so these are what is left
expect_rest : (ws : List ℕ) (at : ℕ) (bytes rest : List ℕ) → expect ws at bytes ≡ Ok rest → rest ≡ drop (length ws) bytes
expect_rest ws at bytes rest e = sym (ap (drop (length ws)) (expect_takes ws at bytes rest e) ∙ drop_at ws rest (length ws) refl)

record LimitRead (in_range : ℕ → Bool) (bytes : List ℕ) (x : ℕ × List ℕ) : Type 0 where
  pub rest : x.1 ≡ drop 4 bytes
  pub limit : x.0 ≡ from_le_bytes w32 (take 4 bytes)
  pub right : in_range x.0 ≡ true

limit_read : (in_range : ℕ → Bool) (bytes : List ℕ) (x : ℕ × List ℕ) → limit_at in_range bytes ≡ Ok x → LimitRead in_range bytes x
limit_read in_range bytes x e =
    let t = limit_takes in_range bytes x e in
    record {
      rest = sym (ap (drop 4) t.stands ∙ drop_at t.mark x.1 4 t.marks.four);
      limit = sym t.marks.says ∙ ap (from_le_bytes w32) (sym (ap (take 4) t.stands ∙ take_at t.mark x.1 4 t.marks.four));
      right = t.in_range;
    }

-- where the header breaks, step by step
abbrev HeadBreaks : (ℕ → Bool) → List ℕ → ℕ → Type 0
HeadBreaks in_range s p = LacksFrom magic 0 s p ⊎ (NoLimit in_range (drop 8 s) p ⊎ (NoByte 12 (drop 12 s) p ⊎ (LacksFrom zeros 13 (drop 13 s) p ⊎ (NoByte 16 (drop 16 s) p ⊎ ⊥))))

abbrev Behind : (ℕ → Bool) → List ℕ → ℕ → Type 0
Behind in_range s p = NoLimit in_range (drop 8 s) p ⊎ (NoByte 12 (drop 12 s) p ⊎ (LacksFrom zeros 13 (drop 13 s) p ⊎ (NoByte 16 (drop 16 s) p ⊎ ⊥)))

gate_low : (s : List ℕ) (q : ℕ) → (NoByte 16 (drop 16 s) q ⊎ ⊥) → 16 ≤ q
gate_low s q k = elim k [
  | inl none ↦ let place = none.0 in omega arith
  | inr none ↦ absurd none
]

zeros_low : (s : List ℕ) (q : ℕ) → (LacksFrom zeros 13 (drop 13 s) q ⊎ (NoByte 16 (drop 16 s) q ⊎ ⊥)) → 13 ≤ q
zeros_low s q k = elim k [
  | inl lacks ↦ let place = lacks.1 in omega arith
  | inr more ↦ let low = gate_low s q more in omega arith
]

switch_low : (s : List ℕ) (q : ℕ) → (NoByte 12 (drop 12 s) q ⊎ (LacksFrom zeros 13 (drop 13 s) q ⊎ (NoByte 16 (drop 16 s) q ⊎ ⊥))) → 12 ≤ q
switch_low s q k = elim k [
  | inl none ↦ let place = none.0 in omega arith
  | inr more ↦ let low = zeros_low s q more in omega arith
]

limit_low : (in_range : ℕ → Bool) (s : List ℕ) (q : ℕ) → Behind in_range s q → 8 ≤ q
limit_low in_range s q k = elim k [
  | inl none ↦ elim none [
    | inl ended ↦ let low = ended.0 in omega arith
    | inr out ↦ let place = out.0 in omega arith
  ]
  | inr more ↦ let low = switch_low s q more in omega arith
]

limit_high : (in_range : ℕ → Bool) (bytes : List ℕ) (p : ℕ) → NoLimit in_range bytes p → p < 12
limit_high in_range bytes p k = elim k [
  | inl ended ↦ ended.1
  | inr out ↦ let place = out.0 in omega arith
]

gate_finds : (s unused : List ℕ) (limit switch : ℕ) → unused ≡ drop 16 s → Finds (after_unused limit switch unused) (λ q. NoByte 16 (drop 16 s) q ⊎ ⊥)
gate_finds s unused limit switch is =
    subst (λ l. Finds (after_unused limit switch l) (λ q. NoByte 16 (drop 16 s) q ⊎ ⊥)) (sym is)
    (finds_then (byte_at 16 (drop 16 s)) (λ gate. Ok (record { limit = limit; second = is_second switch })) (NoByte 16 (drop 16 s)) (λ q. ⊥) (byte_finds 16 (drop 16 s)) (λ x e. finds_none _) (λ p q k none. absurd none))

zeros_finds : (s : List ℕ) (limit : ℕ) (x : ℕ × List ℕ) → x.1 ≡ drop 13 s → Finds (after_switch limit x) (λ q. LacksFrom zeros 13 (drop 13 s) q ⊎ (NoByte 16 (drop 16 s) q ⊎ ⊥))
zeros_finds s limit x is =
    finds_then (expect zeros 13 x.1) (after_unused limit x.0) (LacksFrom zeros 13 (drop 13 s)) (λ q. NoByte 16 (drop 16 s) q ⊎ ⊥)
    (subst (λ l. Finds (expect zeros 13 l) (LacksFrom zeros 13 (drop 13 s))) (sym is) (expect_finds zeros 13 (drop 13 s)))
    (λ unused e. gate_finds s unused limit x.0 (expect_rest zeros 13 x.1 unused e ∙ ap (drop 3) is ∙ drop-drop 3 13 s))
    (λ p q k more. let place = k.1 in let few = k.2.wanted in let low = gate_low s q more in omega (arith, place, few, low))

switch_finds : (s : List ℕ) (x : ℕ × List ℕ) → x.1 ≡ drop 12 s → Finds (after_limit x) (λ q. NoByte 12 (drop 12 s) q ⊎ (LacksFrom zeros 13 (drop 13 s) q ⊎ (NoByte 16 (drop 16 s) q ⊎ ⊥)))
switch_finds s x is =
    finds_then (byte_at 12 x.1) (after_switch x.0) (NoByte 12 (drop 12 s)) (λ q. LacksFrom zeros 13 (drop 13 s) q ⊎ (NoByte 16 (drop 16 s) q ⊎ ⊥))
    (subst (λ l. Finds (byte_at 12 l) (NoByte 12 (drop 12 s))) (sym is) (byte_finds 12 (drop 12 s)))
    (λ y e. zeros_finds s x.0 y (ap (drop 1) (sym (byte_takes 12 x.1 y e)) ∙ ap (drop 1) is ∙ drop-drop 1 12 s))
    (λ p q k more. let place = k.0 in let low = zeros_low s q more in omega arith)

head_finds : (in_range : ℕ → Bool) (s : List ℕ) → Finds (head_of in_range s) (HeadBreaks in_range s)
unfolding head_of
head_finds in_range s =
    finds_then (expect magic 0 s) (λ named. limit_at in_range named >>= after_limit) (LacksFrom magic 0 s) (Behind in_range s) (expect_finds magic 0 s)
    (λ named e.
    let rest = expect_rest magic 0 s named e in
    finds_then (limit_at in_range named) after_limit (NoLimit in_range (drop 8 s)) (λ q. NoByte 12 (drop 12 s) q ⊎ (LacksFrom zeros 13 (drop 13 s) q ⊎ (NoByte 16 (drop 16 s) q ⊎ ⊥)))
    (subst (λ l. Finds (limit_at in_range l) (NoLimit in_range (drop 8 s))) (sym rest) (limit_finds in_range (drop 8 s)))
    (λ x k. switch_finds s x ((limit_read in_range named x k).rest ∙ ap (drop 4) rest ∙ drop-drop 4 8 s))
    (λ p q k more. let high = limit_high in_range (drop 8 s) p k in let low = switch_low s q more in omega arith))
    (λ p q k more. let place = k.1 in let few = k.2.wanted in let low = limit_low in_range s q more in omega (arith, place, few, low))

-- ---- the active area

module _ {E : Type 0} (meaning : Option E → List ℕ → Option E) (room : ℕ) (bytes : List ℕ) where
  abbrev Broken : Option E → ℕ → ℕ → Type 0
  Broken before at p = (n : ℕ) × (last : Option E) × LeadsTo meaning room bytes n before at last p × IsBroken meaning room bytes last p

  -- it has ended at the gate, or there are whole entries up to one that is broken
  abbrev AreaBreaks : Option E → ℕ → ℕ → Type 0
  AreaBreaks before at p = ((p ≡ at) × (length bytes ≤ at)) ⊎ Broken before at p

  -- what stands behind an open gate is no entry
  not_opened : (before : Option E) (at : ℕ) (rest : List ℕ) → opened meaning room before at rest ≡ None
      → (length rest ≤ 4 + length_at rest) ⊎ ((room ≤ at + (5 + length_at rest)) ⊎ (meaning before (take (length_at rest) (drop 4 rest)) ≡ None))
  not_opened before at rest none = elim (cases_lt (4 + length_at rest) (length rest)) [
    | inl inside ↦ elim (cases_lt (at + (5 + length_at rest)) room) [
      | inl below ↦ inr (inr (
          ap (λ b. meant_by (meaning before) (cond b (Some (take (length_at rest) (drop 4 rest))) None)) (sym (ap (λ a. a && nat_lt (at + (5 + length_at rest)) room) (lt-ltb _ _ inside) ∙ lt-ltb _ _ below))
          ∙ none))
      | inr over ↦ inr (inl (omega (arith, over)))
    ]
    | inr past ↦ inl (omega (arith, past))
  ]

  -- the bytes behind a gate that is inside
  behind_length : (at : ℕ) → at < length bytes → length (drop (at + 1) bytes) + (at + 1) ≡ length bytes
  behind_length at inside = let len = length-drop (at + 1) bytes in omega (arith, len, inside)

  broken_here : (before : Option E) (at : ℕ) → IsOpen bytes at → opened meaning room before at (drop (at + 1) bytes) ≡ None → IsBroken meaning room bytes before at
  broken_here before at is_open none = record {
    is_open = is_open;
    why = elim (not_opened before at (drop (at + 1) bytes) none) [
      | inl short ↦ inl (let len = behind_length at is_open.0 in omega (arith, len, short))
      | inr more ↦ inr more
    ];
  }

  whole_here : (before : Option E) (at : ℕ) (e : E) → IsOpen bytes at → Holds meaning room before at (drop (at + 1) bytes) e → IsWhole meaning room bytes before at e
  whole_here before at e is_open h = record {
    is_open = is_open;
    inside = let len = behind_length at is_open.0 in let inside = h.inside in omega (arith, len, inside);
    below = h.below;
    means = h.means;
  }

  holds_here : (before : Option E) (at : ℕ) (e : E) → IsWhole meaning room bytes before at e → Holds meaning room before at (drop (at + 1) bytes) e
  holds_here before at e w = record {
    inside = let len = behind_length at w.is_open.0 in let inside = w.inside in omega (arith, len, inside);
    below = w.below;
    means = w.means;
  }

  different : (e : E) → ◌≡◌ {A = Option E} (Some e) None → ⊥
  different e is = absurd cc

  none_here : (before : Option E) (at : ℕ) → IsBroken meaning room bytes before at → opened meaning room before at (drop (at + 1) bytes) ≡ None
  none_here before at b = chosen (opened meaning room before at (drop (at + 1) bytes)) refl
    where
      chosen : (o : Option E) → opened meaning room before at (drop (at + 1) bytes) ≡ o → o ≡ None
      chosen None is = refl
      chosen (Some e) is =
          let w = whole_here before at e b.is_open (opened_holds meaning room before at (drop (at + 1) bytes) e is) in
          absurd (elim b.why [
            | inl past ↦ let inside = w.inside in omega (arith, past, inside)
            | inr more ↦ elim more [
              | inl over ↦ let below = w.below in omega (arith, over, below)
              | inr wrong ↦ different e (sym w.means ∙ wrong)
            ]
          ])

  -- the place behind a whole entry
  after_entry : (at : ℕ) → drop (4 + length_at (drop (at + 1) bytes)) (drop (at + 1) bytes) ≡ drop (next_gate bytes at) bytes
  after_entry at =
      let n = length_at (drop (at + 1) bytes) in
      let place : at + 1 + (4 + n) ≡ next_gate bytes at = omega arith in
      drop-drop (4 + n) (at + 1) bytes ∙ ap (λ k. drop k bytes) place

  open_step : (before : Option E) (at : ℕ) (e : E) → IsWhole meaning room bytes before at e
      → area meaning room before at zero (drop at bytes) ≡ with_first e (area meaning room (Some e) (next_gate bytes at) zero (drop (next_gate bytes at) bytes))
  open_step before at e w =
      ap (area meaning room before at zero) (drop_more bytes at 0 w.is_open.0)
      ∙ area_step meaning room before at (get_or bytes at 0) (drop (at + 1) bytes) e w.is_open.1 (holds_here before at e w)
      ∙ ap (λ l. with_first e (area meaning room (Some e) (next_gate bytes at) zero l)) (after_entry at)

  -- ---- a broken entry is met

  met : (n : ℕ) (before : Option E) (at : ℕ) (last : Option E) (p : ℕ) → LeadsTo meaning room bytes n before at last p → IsBroken meaning room bytes last p → area meaning room before at zero (drop at bytes) ≡ Err p
  met zero before at last p same broken =
      let here : IsBroken meaning room bytes before at = subst (λ (o : Option E). IsBroken meaning room bytes o at) same.1 (subst (IsBroken meaning room bytes last) same.0 broken) in
      ap (area meaning room before at zero) (drop_more bytes at 0 here.is_open.0)
      ∙ broken_gate meaning room bytes (Err 0) before at (get_or bytes at 0) (drop (at + 1) bytes) here.is_open.1 (none_here before at here)
      ∙ ap (λ k. Err k) (sym same.0)
  met (suc n) before at last p leads broken =
      open_step before at leads.0 leads.1 ∙ ap (with_first leads.0) (met n (Some leads.0) (next_gate bytes at) last p leads.2 broken)

  -- ---- what is met is a broken entry, or the end at the first gate

  err_gone : (e : E) (r : Result (List E × ℕ) ℕ) (p : ℕ) → with_first e r ≡ Err p → r ≡ Err p
  err_gone e (Ok x) p is = absurd cc
  err_gone e (Err d) p is = let same : d ≡ p = cc in ap (λ k. Err k) same

  ends : (before : Option E) (at p : ℕ) → length bytes ≤ at → area meaning room before at zero (drop at bytes) ≡ Err p → AreaBreaks before at p
  ends before at p le is =
      let err : Err at ≡ Err p = sym (at_end meaning room bytes (Err 0) before at) ∙ ap (area meaning room before at zero) (sym (drop_all at bytes le)) ∙ is in
      let same : at ≡ p = cc in
      inl (sym same, le)

  closed_gate : (before : Option E) (at p : ℕ) (rest : List ℕ) → area meaning room before at zero (0 ∷ rest) ≡ Err p → ⊥
  closed_gate before at p rest is = not_err ([], at) p (sym (area_closed meaning room before at rest) ∙ is)

  -- one gate further
  further : (before : Option E) (at p : ℕ) (e : E) → IsWhole meaning room bytes before at e → AreaBreaks (Some e) (next_gate bytes at) p → AreaBreaks before at p
  further before at p e w more = elim more [
    | inl end ↦ let inside = w.inside in let past = end.1 in absurd (omega (arith, inside, past))
    | inr there ↦ inr (suc there.0, there.1, (e, w, there.2), there.3)
  ]

  found_open : (before : Option E) (at p : ℕ) (o : Option E) → opened meaning room before at (drop (at + 1) bytes) ≡ o → IsOpen bytes at
      → area meaning room before at zero (get_or bytes at 0 ∷ drop (at + 1) bytes) ≡ Err p
      → ((e : E) → area meaning room (Some e) (next_gate bytes at) zero (drop (next_gate bytes at) bytes) ≡ Err p → AreaBreaks (Some e) (next_gate bytes at) p) → AreaBreaks before at p
  found_open before at p None none is_open is more =
      let err : Err at ≡ Err p = sym (broken_gate meaning room bytes (Err 0) before at (get_or bytes at 0) (drop (at + 1) bytes) is_open.1 none) ∙ is in
      let same : at ≡ p = cc in
      inr (0, before, (sym same, refl), subst (IsBroken meaning room bytes before) same (broken_here before at is_open none))
  found_open before at p (Some e) some is_open is more =
      let w = whole_here before at e is_open (opened_holds meaning room before at (drop (at + 1) bytes) e some) in
      let here = sym (open_step before at e w) ∙ ap (area meaning room before at zero) (drop_more bytes at 0 is_open.0) ∙ is in
      further before at p e w (more e (err_gone e (area meaning room (Some e) (next_gate bytes at) zero (drop (next_gate bytes at) bytes)) p here))

  found_gate : (before : Option E) (at p gate : ℕ) → get_or bytes at 0 ≡ gate → at < length bytes → area meaning room before at zero (drop at bytes) ≡ Err p
      → ((e : E) → area meaning room (Some e) (next_gate bytes at) zero (drop (next_gate bytes at) bytes) ≡ Err p → AreaBreaks (Some e) (next_gate bytes at) p) → AreaBreaks before at p
  found_gate before at p zero shut inside is more =
      absurd (closed_gate before at p (drop (at + 1) bytes) (ap (λ b. area meaning room before at zero (b ∷ drop (at + 1) bytes)) (sym shut) ∙ sym (ap (area meaning room before at zero) (drop_more bytes at 0 inside)) ∙ is))
  found_gate before at p (suc gate) value inside is more =
      found_open before at p (opened meaning room before at (drop (at + 1) bytes)) refl (inside, λ z. let no : suc gate ≡ 0 = sym value ∙ z in omega (arith, no))
      (sym (ap (area meaning room before at zero) (drop_more bytes at 0 inside)) ∙ is) more

  found : (fuel : ℕ) (before : Option E) (at p : ℕ) → length bytes ≤ at + fuel → area meaning room before at zero (drop at bytes) ≡ Err p → AreaBreaks before at p
  found zero before at p le is = ends before at p (omega arith) is
  found (suc fuel) before at p le is = elim (cases_lt at (length bytes)) [
    | inl inside ↦ found_gate before at p (get_or bytes at 0) refl inside is (λ e k. found fuel (Some e) (next_gate bytes at) p (omega (arith, le)) k)
    | inr past ↦ ends before at p past is
  ]

  pub area_finds : Finds (area meaning room None 0 zero bytes) (AreaBreaks None 0)
  area_finds = record {
    gives = λ p is. found (length bytes) None 0 p (omega arith) is;
    first = λ q k. elim k [
      | inl end ↦ let place = end.0 in (0, ap (area meaning room None 0 zero) (drop_all 0 bytes end.1) ∙ at_end meaning room bytes (Err 0) None 0, omega arith)
      | inr there ↦ (q, met there.0 None 0 there.1 q there.2 there.3, omega arith)
    ];
  }

-- ---- the whole log

abbrev AreaPlaces : (ℕ → Bool) → List ℕ → ℕ → Type 0
AreaPlaces in_range s q = HasArea in_range s × ((g : ℕ) × (q ≡ area_start s + g) × AreaBreaks entry_of (limit_in s - 16) (area_bytes s) None 0 g)

contents_finds : (limit : ℕ) (second : Bool) (r : Result (List LogEntry × ℕ) ℕ) (P : ℕ → Type 0) → Finds r P → Finds (contents_of limit second r) (λ q. (g : ℕ) × (q ≡ first_gate limit second + g) × P g)
contents_finds limit second (Ok x) P f = record {
  gives = λ p e. absurd cc;
  first = λ q k. let there = f.first k.0 k.2 in absurd (not_err x there.0 there.1);
}
contents_finds limit second (Err d) P f = record {
  gives = λ p e. let same : first_gate limit second + d ≡ p = cc in (d, sym same, f.gives d refl);
  first = λ q k.
      let there = f.first k.0 k.2 in
      let same : d ≡ there.0 = cc in
      let le = there.2 in
      let place = k.1 in
      (first_gate limit second + d, refl, omega (arith, same, le, place));
}

-- what is read of a header stands in the bytes
record HeadIn (in_range : ℕ → Bool) (s : List ℕ) (head : Head) : Type 0 where
  pub limit : head.limit ≡ limit_in s
  pub second : head.second ≡ is_second (get_or s 12 0)
  pub has : HasArea in_range s

head_in : (in_range : ℕ → Bool) (limit switch gate : ℕ) (second : Bool) (mark rest s : List ℕ) → s ≡ head_with mark switch ++ gate ∷ rest → Marks limit mark → second ≡ is_second switch → in_range limit ≡ true
    → HeadIn in_range s (record { limit = limit; second = second })
head_in in_range limit switch gate second [] rest s is m turn right = let four = m.four in absurd (omega (arith, four))
head_in in_range limit switch gate second (a ∷ []) rest s is m turn right = let four = m.four in absurd (omega (arith, four))
head_in in_range limit switch gate second (a ∷ b ∷ []) rest s is m turn right = let four = m.four in absurd (omega (arith, four))
head_in in_range limit switch gate second (a ∷ b ∷ c ∷ []) rest s is m turn right = let four = m.four in absurd (omega (arith, four))
head_in in_range limit switch gate second (a ∷ b ∷ c ∷ d ∷ e ∷ mark) rest s is m turn right = let four = m.four in absurd (omega (arith, four))
head_in in_range limit switch gate second (a ∷ b ∷ c ∷ d ∷ []) rest s is m turn right =
    subst (λ l. HeadIn in_range l (record { limit = limit; second = second })) (sym is) (record {
      limit = sym m.says;
      second = turn;
      has = (ap in_range m.says ∙ right, omega arith);
    })

head_here : (in_range : ℕ → Bool) (s : List ℕ) (head : Head) → head_of in_range s ≡ Ok head → HeadIn in_range s head
head_here in_range s head e =
    let h = head_stands in_range s head e in
    head_in in_range head.limit h.switch h.gate head.second h.mark h.rest s h.stands h.marks h.second h.in_range

area_here : (in_range : ℕ → Bool) (s : List ℕ) (head : Head) → HeadIn in_range s head → Finds (contents_of head.limit head.second (area_of head.limit head.second s)) (AreaPlaces in_range s)
area_here in_range s head h =
    let limit = limit_in s in
    let second = is_second (get_or s 12 0) in
    let there = contents_finds limit second (area_of limit second s) (AreaBreaks entry_of (limit - 16) (area_bytes s) None 0) (area_finds entry_of (limit - 16) (area_bytes s)) in
    let one : Finds (contents_of limit second (area_of limit second s)) (AreaPlaces in_range s) = finds_as _ _ (AreaPlaces in_range s) (λ p k. (h.has, k)) (λ p k. k.1) there in
    subst (λ l. Finds (contents_of l head.second (area_of l head.second s)) (AreaPlaces in_range s)) (sym h.limit)
    (subst (λ b. Finds (contents_of limit b (area_of limit b s)) (AreaPlaces in_range s)) (sym h.second) one)

head_high : (in_range : ℕ → Bool) (s : List ℕ) (p : ℕ) → HeadBreaks in_range s p → p < 17
head_high in_range s p k = elim k [
  | inl name ↦ let place = name.1 in let few = name.2.wanted in omega (arith, place, few)
  | inr k ↦ elim k [
    | inl limit ↦ let high = limit_high in_range (drop 8 s) p limit in omega (arith, high)
    | inr k ↦ elim k [
      | inl switch ↦ let place = switch.0 in omega (arith, place)
      | inr k ↦ elim k [
        | inl unused ↦ let place = unused.1 in let few = unused.2.wanted in omega (arith, place, few)
        | inr k ↦ elim k [
          | inl gate ↦ let place = gate.0 in omega (arith, place)
          | inr none ↦ absurd none
        ]
      ]
    ]
  ]
]

start_low : (limit : ℕ) (second : Bool) → 16 ≤ limit → 16 ≤ first_gate limit second
start_low limit false low = omega arith
start_low limit true low = low

log_finds : (in_range : ℕ → Bool) (s : List ℕ) → ((n : ℕ) → in_range n ≡ true → 16 ≤ n) → Finds (read_log in_range s) (λ q. HeadBreaks in_range s q ⊎ AreaPlaces in_range s q)
unfolding read_log
log_finds in_range s floor =
    finds_then (head_of in_range s) (λ head. contents_of head.limit head.second (area_of head.limit head.second s)) (HeadBreaks in_range s) (AreaPlaces in_range s) (head_finds in_range s)
    (λ head e. area_here in_range s head (head_here in_range s head e))
    (λ p q k more.
    let high = head_high in_range s p k in
    let low = start_low (limit_in s) (is_second (get_or s 12 0)) (floor (limit_in s) more.0.0) in
    let place = more.1.1 in
    omega (arith, high, low, place))

-- ---- the six ways

zeros_are : (k : ℕ) → get_or zeros k 0 ≡ 0
zeros_are zero = refl
zeros_are (suc zero) = refl
zeros_are (suc (suc zero)) = refl
zeros_are (suc (suc (suc k))) = refl

as_break : (in_range : ℕ → Bool) (s : List ℕ) (p : ℕ) → (HeadBreaks in_range s p ⊎ AreaPlaces in_range s p) → Breaks in_range s p
as_break in_range s p k = elim k [
  | inl k ↦ elim k [
    | inl name ↦
        let from = name.1 in
        let place : p ≡ name.0 = omega (arith, from) in
        let few = name.2.wanted in
        elim name.2.why [
          | inl ended ↦ Ended (omega (arith, place, few)) (omega (arith, place, ended))
          | inr other ↦ let inside = other.0 in WrongName (omega (arith, place, few)) (omega (arith, place, inside)) (subst (λ n. get_or s n 0 ≢ get_or magic n 0) (sym place) other.1)
        ]
    | inr k ↦ elim k [
      | inl limit ↦ elim limit [
        | inl ended ↦ let len = length-drop 8 s in let low = ended.0 in let high = ended.1 in let le = ended.2 in Ended (omega (arith, high)) (omega (arith, len, low, le))
        | inr out ↦ let len = length-drop 8 s in let four = out.1 in WrongLimit out.0 (omega (arith, len, four)) out.2
      ]
      | inr k ↦ elim k [
        | inl switch ↦ let len = length-drop 12 s in let place = switch.0 in let none = switch.1 in Ended (omega (arith, place)) (omega (arith, len, place, none))
        | inr k ↦ elim k [
          | inl unused ↦ as_unused unused.0 unused.1 unused.2
          | inr k ↦ elim k [
            | inl gate ↦ let len = length-drop 16 s in let place = gate.0 in let none = gate.1 in Ended (omega (arith, place)) (omega (arith, len, place, none))
            | inr none ↦ absurd none
          ]
        ]
      ]
    ]
  ]
  | inr k ↦ elim k.1.2 [
    | inl end ↦
        let len = length-drop (area_start s) s in
        let place = k.1.1 in
        let first = end.0 in
        let none = end.1 in
        NoGate k.0 (omega (arith, place, first)) (omega (arith, len, place, none))
    | inr there ↦ NoEntry k.0 there.0 k.1.0 there.1 k.1.1 there.2 there.3
  ]
]
  where
    as_unused : (k : ℕ) → p ≡ 13 + k → Lacks zeros (drop 13 s) k → Breaks in_range s p
    as_unused k place l =
        let len = length-drop 13 s in
        let few = l.wanted in
        elim l.why [
          | inl ended ↦ Ended (omega (arith, place, few)) (omega (arith, place, ended, len))
          | inr other ↦
              let inside = other.0 in
              let same : get_or s p 0 ≡ get_or (drop 13 s) k 0 = ap (λ n. get_or s n 0) place ∙ sym (get_or-drop 13 s k 0) in
              NotZero (omega (arith, place)) (omega (arith, place, few)) (omega (arith, place, inside, len)) (λ z. other.1 (sym same ∙ z ∙ sym (zeros_are k)))
        ]

as_ended : (in_range : ℕ → Bool) (s : List ℕ) (p : ℕ) → p < 17 → length s ≤ p → HeadBreaks in_range s p
as_ended in_range s p lt le = elim (cases_lt p 8) [
  | inl name ↦ inl (p, omega arith, record { wanted = name; why = inl le })
  | inr from8 ↦ elim (cases_lt p 12) [
    | inl limit ↦ let len = length-drop 8 s in inr (inl (inl (from8, limit, omega (arith, len, from8, le))))
    | inr from12 ↦ elim (cases_lt p 13) [
      | inl switch ↦ let len = length-drop 12 s in inr (inr (inl (omega (arith, from12, switch), omega (arith, len, switch, le))))
      | inr from13 ↦ elim (cases_lt p 16) [
        | inl unused ↦ let len = length-drop 13 s in inr (inr (inr (inl (p - 13, omega (arith, from13), record { wanted = omega (arith, from13, unused); why = inl (omega (arith, len, le)) }))))
        | inr from16 ↦ let len = length-drop 16 s in inr (inr (inr (inr (inl (omega (arith, from16, lt), omega (arith, len, lt, le))))))
      ]
    ]
  ]
]

from_break : (in_range : ℕ → Bool) (s : List ℕ) (p : ℕ) → Breaks in_range s p → (HeadBreaks in_range s p ⊎ AreaPlaces in_range s p)
from_break in_range s p (Ended lt le) = inl (as_ended in_range s p lt le)
from_break in_range s p (WrongName few inside other) = inl (inl (p, omega arith, record { wanted = few; why = inr (inside, other) }))
from_break in_range s p (WrongLimit place long out) = let len = length-drop 8 s in inl (inr (inl (inr (place, omega (arith, len, long), out))))
from_break in_range s p (NotZero low high inside other) =
    let len = length-drop 13 s in
    let place : 13 + (p - 13) ≡ p = omega (arith, low) in
    let same : get_or (drop 13 s) (p - 13) 0 ≡ get_or s p 0 = get_or-drop 13 s (p - 13) 0 ∙ ap (λ n. get_or s n 0) place in
    inl (inr (inr (inr (inl (p - 13, sym place, record { wanted = omega (arith, low, high); why = inr (omega (arith, low, inside, len), λ z. other (sym same ∙ z ∙ zeros_are (p - 13))) })))))
from_break in_range s p (NoGate has place le) = let len = length-drop (area_start s) s in inr (has, (0, omega (arith, place), inl (refl, omega (arith, len, place, le))))
from_break in_range s p (NoEntry has n g last place leads broken) = inr (has, (g, place, inr (n, last, leads, broken)))

answered : (in_range : ℕ → Bool) (s : List ℕ) (r : Result Contents ℕ) → Finds r (Breaks in_range s) → IsFirstBreak in_range s r
answered in_range s (Ok x) f = λ q k. let there = f.first q k in not_err x there.0 there.1
answered in_range s (Err p) f = record {
  there = f.gives p refl;
  smallest = λ q k. let there = f.first q k in let same : p ≡ there.0 = cc in let le = there.2 in omega (arith, same, le);
}

pub first_break : (in_range : ℕ → Bool) (s : List ℕ) → ((n : ℕ) → in_range n ≡ true → 16 ≤ n) → IsFirstBreak in_range s (read_log in_range s)
first_break in_range s floor = answered in_range s (read_log in_range s) (finds_as (read_log in_range s) _ (Breaks in_range s) (as_break in_range s) (from_break in_range s) (log_finds in_range s floor))

limit_floor : (n : ℕ) → is_limit n ≡ true → 16 ≤ n
limit_floor n right = elim (cases_lt n 64) [
  | inl small ↦ absurd (true≢false (sym right ∙ ap (λ b. b && nat_le n 67108864) (lt-leb 64 n small)))
  | inr low ↦ omega (arith, low)
]

-- of all limits in range, and of one alone
pub first_break_of_log : (s : List ℕ) → IsFirstBreak is_limit s (read_log is_limit s)
first_break_of_log s = first_break is_limit s limit_floor

pub first_break_again : (limit : ℕ) (s : List ℕ) → 64 ≤ limit → IsFirstBreak (nat_eq limit) s (read_log (nat_eq limit) s)
first_break_again limit s low = first_break (nat_eq limit) s (λ n right. let same = eqb-true limit n right in omega (arith, low, same))
