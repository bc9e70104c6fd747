-- The rules by which a line is refused before anything begins.
use Rattle.std.specs.Prelude.{◌≡◌, List, Err}
use Rattle.uv_schema.specs.declared.rule.CommandRule.{CommandRule}
use Rattle.uv_schema.specs.RuleNames.{command_errno}
use Rattle.uv_script.specs.declared.form.Deed.{Deed}
use Rattle.uv_script.specs.declared.form.Form.{Form}
use Rattle.uv_script.specs.declared.form.Form.TheVariants.{Plain, Minus, Plus, Die, Data}
use Rattle.uv_run.specs.Asking.{task_of}
use Rattle.uv_run.specs.declared.reply.Reply.{Reply}

-- whatever handles its names stand for, the deed is refused with the errno of this rule
abbrev pub IsDeedRefusedBy : Deed → CommandRule → Type 0
IsDeedRefusedBy deed rule = (replies : List Reply) → task_of replies deed ≡ Err (command_errno rule)

abbrev pub IsFormRefusedBy : Form → CommandRule → Type 0
IsFormRefusedBy (Plain actor deed) rule = IsDeedRefusedBy deed rule
IsFormRefusedBy (Minus actor deed) rule = IsDeedRefusedBy deed rule
IsFormRefusedBy (Plus actor) rule = ⊥
IsFormRefusedBy (Die client) rule = ⊥
IsFormRefusedBy (Data client call) rule = ⊥
