-- A form without the place of its tokens in memory.
use Rattle.gp_store.specs.declared.form.OpForm as code
use Rattle.gp_store.specs.declared.form.OpForm.TheVariants as form
use Rattle.gp_store.specs.Forms.{OpForm, PutForm, AddForm, GetForm, DelForm, CasForm, CopyForm, CheckpointForm}

abbrev pub form_view : code.OpForm → OpForm
form_view (form.Put key value) = PutForm key.now value.now
form_view (form.Add key value) = AddForm key.now value.now
form_view (form.Get key) = GetForm key.now
form_view (form.Del key) = DelForm key.now
form_view (form.Cas key old new) = CasForm key.now old.now new.now
form_view (form.Copy from into) = CopyForm from.now into.now
form_view form.Checkpoint = CheckpointForm
