-- Tests, and draws below their bound.
use Rattle.std.proofs.Common.{◌≡◌, ℕ, ◌<◌, Bool, true, false, cond, refl}
use Rattle.std.proofs.Math.Nat.{mod-lt}
use Rattle.rand_chacha.specs.ChaCha.{ChaCha, word_at}
use Rattle.gp_random.specs.Draws.{draw}

-- what holds in both branches of a test
pub by_test : {A : Type 0} (P : A → Type 0) (b : Bool) (x y : A) → (b ≡ true → P x) → (b ≡ false → P y) → P (cond b x y)
by_test P b x y first second = elim b as (λ t. b ≡ t → P (cond t x y)) [ true ↦ first | false ↦ second ] refl

pub draw_below : (g : ChaCha) (n : ℕ) → 0 < n → (draw g n).0 < n
unfolding draw
draw_below g n some = mod-lt (word_at 10 g.key g.stream g.word_pos) some
