-- A form without the place of its tokens in memory.
use Rattle.gp_bank.specs.declared.form.BankForm as code
use Rattle.gp_bank.specs.declared.form.BankForm.TheVariants as form
use Rattle.gp_bank.specs.Forms.{BankForm, DepositForm, WithdrawForm, TransferForm, BalanceForm, CheckpointForm}

abbrev pub form_view : code.BankForm → BankForm
form_view (form.Deposit key amount) = DepositForm key.now amount.now
form_view (form.Withdraw key amount) = WithdrawForm key.now amount.now
form_view (form.Transfer from into amount) = TransferForm from.now into.now amount.now
form_view (form.Balance key) = BalanceForm key.now
form_view form.Checkpoint = CheckpointForm
