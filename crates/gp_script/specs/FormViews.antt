-- Forms without the place of their tokens in memory.
use Rattle.gp_words.specs.Tokens.{texts}
use Rattle.gp_script.specs.declared.forms.Form.{Form}
use Rattle.gp_script.specs.declared.forms.Form.TheVariants as line
use Rattle.gp_script.specs.declared.forms.KeptForm.{KeptForm}
use Rattle.gp_script.specs.declared.forms.KeptForm.TheVariants as kept
use Rattle.gp_script.specs.Forms as forms

-- what a crash keeps
abbrev pub kept_view : KeptForm → forms.KeptForm
kept_view kept.Nothing = forms.NothingKept
kept_view (kept.Take message) = forms.TakeKept message.now
kept_view (kept.Begin count mode) = forms.BeginKept count.now mode

-- a row of the table
abbrev pub form_view : Form → forms.Form
form_view (line.Nodes acceptors coordinators learners) = forms.NodesLine acceptors.now coordinators.now learners.now
form_view (line.Offer node words) = forms.OfferLine node.now (texts words.now)
form_view (line.Begin node count mode) = forms.BeginLine node.now count.now mode
form_view (line.Take node message) = forms.TakeLine node.now message.now
form_view (line.Fall node what) = forms.FallLine node.now (kept_view what)
form_view (line.Show node) = forms.ShowLine node.now
