-- What a reading keeps of lines, as the definitions have it.
use Rattle.std.specs.Prelude.{Option}
use Rattle.std.specs.Option.{option_map}
use Rattle.std.specs.BTreeMap.{get_by}
use Rattle.std.specs.Cmp.Lexicographic.{slice_cmp}
use Rattle.std.specs.Ordering.{nat_cmp}
use Rattle.uv_script.specs.Names.{Look, Naming}
use Rattle.uv_script.specs.Before.{Before}
use Rattle.uv_script.specs.Deeds.{Stated}
use Rattle.uv_script.specs.Reading.{Reading, Outside, Nothing, Says}
use Rattle.uv_script.specs.declared.names.Names.{Names}
use Rattle.uv_script.specs.declared.names.Naming.{Naming as KeptNaming}
use Rattle.uv_script.specs.declared.deeds.Stated.{Stated as KeptStated}
use Rattle.uv_script.specs.declared.reading.Read.{Read}
use Rattle.uv_script.specs.declared.reading.Read.TheVariants as read
use Rattle.uv_script.specs.declared.context.Context.{Context}

-- what is known of a name among those that are kept
abbrev pub look_kept : Names → Look
look_kept names name = get_by (λ k. slice_cmp nat_cmp name k.now) names.known

-- a name that a line declares, as the code has it
abbrev pub naming_of : KeptNaming → Naming
naming_of naming = record { name = naming.name.now; kind = naming.kind }

abbrev pub naming_seen : Option KeptNaming → Option Naming
naming_seen naming = option_map naming_of naming

-- a deed with what it declares
abbrev pub stated_of : KeptStated → Stated
stated_of told = record { deed = told.deed; naming = naming_seen told.naming }

abbrev pub stated_seen : Option KeptStated → Option Stated
stated_seen told = option_map stated_of told

-- a reading
abbrev pub seen : Read → Reading
seen read.Outside = Outside
seen read.Nothing = Nothing
seen (read.Says form naming) = Says form (naming_seen naming)

-- what is kept of the lines in front
abbrev pub before_in : Context → Before
before_in context = record { number = context.number; look = look_kept context.names; dead = context.dead }
