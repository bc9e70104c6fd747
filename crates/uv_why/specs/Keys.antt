-- The rules of the machine, of commands, of regions and of packets, told alike.
use Rattle.std.specs.Prelude.{ℕ, List, Option, None, Some}
use Rattle.uv_num.specs.declared.errno.Errno.{Errno}
use Rattle.uv_machine.specs.RuleNames.{errno_of, rule_key, rule_source}
use Rattle.uv_region.specs.Rules.{access_key, access_source}
use Rattle.uv_responder.specs.Rules.{packet_key, packet_source}
use Rattle.uv_schema.specs.RuleNames.{command_errno, command_key, command_source}
use Rattle.uv_why.specs.declared.rules.Decided.{Decided}
use Rattle.uv_why.specs.declared.rules.Decided.TheVariants.{Machine, Command, Access, Packet}

-- a packet that is refused has no errno
abbrev pub decided_errno : Decided → Option Errno
decided_errno (Machine r) = Some (errno_of r)
decided_errno (Command r) = Some (command_errno r)
decided_errno (Access r) = None
decided_errno (Packet r) = None

abbrev pub decided_key : Decided → List ℕ
decided_key (Machine r) = rule_key r
decided_key (Command r) = command_key r
decided_key (Access r) = access_key r
decided_key (Packet r) = packet_key r

abbrev pub decided_source : Decided → List ℕ
decided_source (Machine r) = rule_source r
decided_source (Command r) = command_source r
decided_source (Access r) = access_source r
decided_source (Packet r) = packet_source r
