use Rattle.gp_audit.proofs.OneCertificate.{one_certificate}
use Rattle.gp_audit.proofs.laws.a_certificate_is_the_only_one.Goals as goal

pub returns : goal.returns
returns c = λ config some es legal l d p q x y. one_certificate config some es legal l d p q x y
