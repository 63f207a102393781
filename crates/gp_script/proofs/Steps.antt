-- What it means that a chain of steps or tests has an answer, or fails.
use Rattle.std.proofs.Common.{◌≡◌, Bool, true, false, cond, Option, Some, None, Result, Ok, Err, refl, ◌⊎◌, inl, inr}
use Rattle.std.specs.Prelude.{option_map}
use Rattle.std.specs.Option.{ok_or}
use Rattle.gp_memory.specs.Results.{◌>>=◌}

-- the test is passed, and the answer is the one behind it
pub test_says : {A E : Type 0} (b : Bool) (x y : A) (fault : E) → cond b (Ok x) (Err fault) ≡ Ok y → (b ≡ true) × (x ≡ y)
test_says true x y fault e = (refl, cc)
test_says false x y fault e = absurd cc

-- the test is passed, and the answer is that of the step behind it
pub test_then : {A E : Type 0} (b : Bool) (step : Result A E) (y : A) (fault : E) → cond b step (Err fault) ≡ Ok y → (b ≡ true) × (step ≡ Ok y)
test_then true step y fault e = (refl, e)
test_then false step y fault e = absurd cc

-- the first answer was taken, or the others were tried
pub first_or_next : {A E : Type 0} (b : Bool) (x y : A) (next : Result A E) → cond b (Ok x) next ≡ Ok y → ((b ≡ true) × (x ≡ y)) ⊎ (next ≡ Ok y)
first_or_next true x y next e = inl (refl, cc)
first_or_next false x y next e = inr e

-- the value was taken, or the others were tried
pub some_or_else : {A : Type 0} (b : Bool) (x z : A) (y : Option A) → cond b (Some x) y ≡ Some z → ((b ≡ true) × (x ≡ z)) ⊎ (y ≡ Some z)
some_or_else true x z y e = inl (refl, cc)
some_or_else false x z y e = inr e

-- one of two was taken
pub then_or_else : {A : Type 0} (b : Bool) (x y : Option A) (z : A) → cond b x y ≡ Some z → ((b ≡ true) × (x ≡ Some z)) ⊎ (y ≡ Some z)
then_or_else true x y z e = inl (refl, e)
then_or_else false x y z e = inr e

-- there was a value
pub ok_or_says : {A E : Type 0} (o : Option A) (x : A) (fault : E) → ok_or o fault ≡ Ok x → o ≡ Some x
ok_or_says None x fault e = absurd cc
ok_or_says (Some y) x fault e = cc

pub option_map_says : {A B : Type 0} (f : A → B) (o : Option A) (y : B) → option_map f o ≡ Some y → (x : A) × (o ≡ Some x) × (f x ≡ y)
option_map_says f None y e = absurd cc
option_map_says f (Some x) y e = (x, refl, cc)

-- ---- where a chain of steps fails

-- the first step fails, or the one behind it
pub step_fails : {A B E : Type 0} (r : Result A E) (next : A → Result B E) (why : E) → (r >>= next) ≡ Err why → (r ≡ Err why) ⊎ ((x : A) × (r ≡ Ok x) × (next x ≡ Err why))
step_fails (Ok x) next why e = inr (x, refl, e)
step_fails (Err fault) next why e = inl cc

pub ok_or_fails : {A E : Type 0} (o : Option A) (fault why : E) → ok_or o fault ≡ Err why → (o ≡ None) × (why ≡ fault)
ok_or_fails None fault why e = (refl, cc)
ok_or_fails (Some x) fault why e = absurd cc

pub test_fails : {A E : Type 0} (b : Bool) (x : A) (fault why : E) → cond b (Ok x) (Err fault) ≡ Err why → why ≡ fault
test_fails true x fault why e = absurd cc
test_fails false x fault why e = cc

-- another test behind it fails
pub others_fail : {A E : Type 0} (b : Bool) (x : A) (next : Result A E) (why : E) → cond b (Ok x) next ≡ Err why → next ≡ Err why
others_fail true x next why e = absurd cc
others_fail false x next why e = e

-- the test fails, for its reason, or the step behind it
pub fails_or : {A E : Type 0} (b : Bool) (fault : E) (step : Result A E) (why : E) → cond b (Err fault) step ≡ Err why → ((b ≡ true) × (why ≡ fault)) ⊎ (step ≡ Err why)
fails_or true fault step why e = inl (refl, cc)
fails_or false fault step why e = inr e
