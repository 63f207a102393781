use Rattle.gp_script.proofs.FormLemmas.{form_rows}
use Rattle.gp_script.proofs.laws.a_line_has_the_words_of_its_row.Goals as goal

pub returns : goal.returns
returns c = form_rows
