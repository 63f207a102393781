use Rattle.std.proofs.Common.{◌≡◌, length, subst, sym, ap, ◌∙◌, arith}
use Rattle.std.proofs.lemmas.Bool.{le-leb}
use Rattle.gp_command.specs.Words.{IsHead}
use Rattle.gp_command.proofs.Words.{same_heads}
use Rattle.gp_command.proofs.code.Code.is_same.Goals as goal

pub returns-then-bytes-le-HEAD_BYTES : goal.returns-then-bytes-le-HEAD_BYTES
returns-then-bytes-le-HEAD_BYTES c =
    let left : c.as_slice-bytes.result.now ≡ c.args.self.now = c.as_slice-bytes.ensures.value ∙ c.self.view_is in
    let right : c.as_slice-others.result.now ≡ c.args.other.now = c.as_slice-others.ensures.value ∙ c.other.view_is in (
      (λ _. same_heads c.args.self.now c.args.other.now c.self.inside.head c.other.inside.head
          (subst (λ xs. IsHead c.self.inside.head xs) c.self.view_is c.self.invariant)
          (subst (λ xs. IsHead c.other.inside.head xs) c.other.view_is c.other.invariant)
          (c.are_same_heads.ensures.0 c.if-not-are_same_heads.false)
          (ap length (sym left) ∙ c.if-bytes-others.false ∙ ap length right)
          (omega (arith, ap length left, c.if-bytes-le-HEAD_BYTES.true))),
      (λ _. le-leb (length c.as_slice-bytes.result.now) 32 c.if-bytes-le-HEAD_BYTES.true),
    )
