-- The device of a file.
use Rattle.std.specs.Prelude.{ℕ, Option, None, Some}
use Rattle.uv_machine.specs.declared.file.FilePhase.{FilePhase}
use Rattle.uv_machine.specs.declared.file.FilePhase.TheVariants.{Fresh, Open, Tearing, Dissociated, Closed}
use Rattle.uv_machine.specs.declared.state.State.{State}
use Rattle.uv_machine.specs.States.{phase_of, device_of}

-- a file that was never opened has none, and each other keeps its device for ever
abbrev pub device_if : FilePhase → ℕ → Option ℕ
device_if Fresh device = None
device_if Open device = Some device
device_if (Tearing by) device = Some device
device_if Dissociated device = Some device
device_if Closed device = Some device

abbrev pub device_told : State → ℕ → Option ℕ
device_told m f = device_if (phase_of m f) (device_of m f)
