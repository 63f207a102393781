-- Reading an operation from tokens.
use Rattle.std.specs.Prelude.{ℕ, List, [], ◌∷◌, if◌then◌else◌, codes, decimal, Option, Some, None, Result, Ok, Err}
use Rattle.std.specs.Str.{bytes_eq}
use Rattle.gp_command.specs.Key.{is_key}
use Rattle.gp_words.specs.Numbers.{number_of}
use Rattle.gp_memory.specs.Results.{◌>>=◌}
use Rattle.gp_store.specs.declared.op.Op.{Op}
use Rattle.gp_store.specs.declared.op.Op.TheVariants.{Put, Add, Get, Del, Cas, Copy, Checkpoint}
use Rattle.gp_store.specs.declared.form.OpFault.{OpFault}
use Rattle.gp_store.specs.declared.form.OpFault.TheVariants.{BadKey, BadNumber}

-- an operation's name, and the tokens of its keys and values
pub data OpForm : Type 0 where
  PutForm : List ℕ → List ℕ → OpForm
  AddForm : List ℕ → List ℕ → OpForm
  GetForm : List ℕ → OpForm
  DelForm : List ℕ → OpForm
  CasForm : List ℕ → List ℕ → List ℕ → OpForm
  CopyForm : List ℕ → List ℕ → OpForm
  CheckpointForm : OpForm

-- a name alone
abbrev pub form_of_name : List ℕ → Option OpForm
form_of_name name = if bytes_eq name (codes "checkpoint") then Some CheckpointForm else None

-- a name and a key
abbrev pub form_of_key : List ℕ → List ℕ → Option OpForm
form_of_key name key = if bytes_eq name (codes "get") then Some (GetForm key)
    else if bytes_eq name (codes "del") then Some (DelForm key)
    else None

-- a name, a key, and a value or another key
abbrev pub form_of_pair : List ℕ → List ℕ → List ℕ → Option OpForm
form_of_pair name key other = if bytes_eq name (codes "put") then Some (PutForm key other)
    else if bytes_eq name (codes "add") then Some (AddForm key other)
    else if bytes_eq name (codes "copy") then Some (CopyForm key other)
    else None

-- a name, a key and two values
abbrev pub form_of_values : List ℕ → List ℕ → List ℕ → List ℕ → Option OpForm
form_of_values name key old new = if bytes_eq name (codes "cas") then Some (CasForm key old new) else None

-- the form that has this name and this number of tokens, if there is one
abbrev pub op_form : List (List ℕ) → Option OpForm
op_form (name ∷ []) = form_of_name name
op_form (name ∷ key ∷ []) = form_of_key name key
op_form (name ∷ key ∷ other ∷ []) = form_of_pair name key other
op_form (name ∷ key ∷ old ∷ new ∷ []) = form_of_values name key old new
op_form _ = None

-- the key that the token is
unfoldable pub key_of : List ℕ → Result (List ℕ) OpFault
key_of token = if is_key token then Ok token else Err BadKey

-- a fault if there is no number
abbrev pub number_or_fault : Option ℕ → Result ℕ OpFault
number_or_fault (Some n) = Ok n
number_or_fault None = Err BadNumber

-- the value that the token spells
unfoldable pub value_of : List ℕ → Result ℕ OpFault
value_of token = number_or_fault (number_of token)

-- the tokens are read from left to right, and the first fault is the result
unfoldable pub op_of_form : OpForm → Result Op OpFault
op_of_form (PutForm key value) = do
  k ← key_of key
  v ← value_of value
  Ok (Put k v)
op_of_form (AddForm key value) = do
  k ← key_of key
  v ← value_of value
  Ok (Add k v)
op_of_form (GetForm key) = do
  k ← key_of key
  Ok (Get k)
op_of_form (DelForm key) = do
  k ← key_of key
  Ok (Del k)
op_of_form (CasForm key old new) = do
  k ← key_of key
  v ← value_of old
  w ← value_of new
  Ok (Cas k v w)
op_of_form (CopyForm from into) = do
  k ← key_of from
  j ← key_of into
  Ok (Copy k j)
op_of_form CheckpointForm = Ok Checkpoint

-- the operation, if there is no fault
abbrev pub faultless : Result Op OpFault → Option Op
faultless (Ok op) = Some op
faultless (Err fault) = None

-- the operation of a form, if there is one
abbrev pub op_said : Option OpForm → Option Op
op_said None = None
op_said (Some form) = faultless (op_of_form form)

-- the operation that these tokens spell, if they spell one
unfoldable pub op_spelled : List (List ℕ) → Option Op
op_spelled tokens = op_said (op_form tokens)

-- the form whose tokens are the operation's own words
abbrev pub form_for : Op → OpForm
form_for (Put key value) = PutForm key (decimal value)
form_for (Add key value) = AddForm key (decimal value)
form_for (Get key) = GetForm key
form_for (Del key) = DelForm key
form_for (Cas key old new) = CasForm key (decimal old) (decimal new)
form_for (Copy from into) = CopyForm from into
form_for Checkpoint = CheckpointForm
