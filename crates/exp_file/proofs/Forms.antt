-- Names have the length of a name.
use Rattle.std.proofs.Common.{◌≡◌, ℕ, List, length, true, arith}
use Rattle.std.proofs.lemmas.Bool.Decides.{nat_tests}
use Rattle.tb_base.specs.Names.{IsNameLength}
use Rattle.exp_file.specs.declared.form.Form.{Form}
use Rattle.exp_file.specs.declared.form.Form.TheVariants.{GuestName, ImageName, ImageKind, AnyText}
use Rattle.exp_file.specs.Keys.{IsNameForm, has_form}

pub name_length : (form : Form) (t : List ℕ) → IsNameForm form → has_form form t ≡ true → IsNameLength (length t)
name_length GuestName t name h = (grind (arith, nat_tests), grind (arith, nat_tests))
name_length ImageName t name h = (grind (arith, nat_tests), grind (arith, nat_tests))
name_length ImageKind t name h = absurd name
name_length AnyText t name h = absurd name
