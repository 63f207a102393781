-- A code of what an adapting coordinator remembers.
use Rattle.std.specs.Prelude.{ℕ, Bool, refl}
use Rattle.std.specs.Coded.{Coded, code_by, coded×, coded_ℕ, coded_bool}
use Rattle.gp_adapt.specs.Courses.{CourseState}

abbrev pub course_code : Coded CourseState
course_code =
    code_by (ℕ × (Bool × (ℕ × ℕ))) (coded× coded_ℕ (coded× coded_bool (coded× coded_ℕ coded_ℕ)))
    (λ s. (s.calm, (s.begun, (s.clashes, s.quiet)))) (λ p. record { calm = p.0; begun = p.1.0; clashes = p.1.1.0; quiet = p.1.1.1 }) (λ _. refl)
